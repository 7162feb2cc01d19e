-- The calls that a task made: as it goes on, and as others do.
use Rattle.std.proofs.Common.{◌≡◌, ◌⊎◌, ℕ, suc, ◌≤◌, Option, Some, List, [], ◌∷◌, ◌++◌, length, map, if◌then◌else◌, inl, inr, refl, sym, ap, subst, ◌∙◌, arith}
use Rattle.std.specs.Prelude.{is_some}
use Rattle.std.proofs.lemmas.List.{map-append}
use Rattle.rp_base.specs.declared.action.Action.{Action}
use Rattle.rp_base.specs.declared.reply.Answer.{Answer}
use Rattle.rp_base.specs.Sets.{Has}
use Rattle.rp_base.proofs.Members.{has_split, has_left, has_right, has_mapped, mapped_has}
use Rattle.rp_codec.specs.Message.{Message}
use Rattle.rp_machine.specs.Calls.{CallName, calls_of}
use Rattle.rp_machine.specs.Replay.{one_to}
use Rattle.rp_machine.proofs.Calling.{one_to_bound}
use Rattle.rp_model.specs.Parts.{TaskPart, fresh_task}
use Rattle.rp_model.specs.Effect.{Done}
use Rattle.rp_model.specs.Tasks.{asks}
use Rattle.rp_agreement.specs.Asked.{Asks}
use Rattle.rp_agreement.specs.Order.{AllSent}
use Rattle.rp_agreement.specs.Steps.{SentToo}
use Rattle.rp_agreement.specs.Answered.{named, calls_so_far, IsAnswered, AreMade}
use Rattle.rp_agreement.proofs.Lists.{some_same}
use Rattle.rp_agreement.proofs.TaskReplies.{same_call, WentOn, MadeNone, MadeOne}

-- a task that did nothing yet made no call
pub made_nothing : (t : ℕ) → AreMade [] t fresh_task []
made_nothing t = record { asked = λ action. (λ h. absurd h, λ asked. absurd asked.1); numbered = refl; waits = λ call e. absurd (cc) }

-- what is sent asks nothing new for the task
pub made_stays : (sent sent' : List Message) (t : ℕ) (part : TaskPart) (made : List Action) → AllSent sent sent' → ((action : Action) → Asks sent' t action → Asks sent t action)
    → AreMade sent t part made → AreMade sent' t part made
made_stays sent sent' t part made all before old = record {
  asked = λ action. (
    λ h. let asked = (old.asked action).0 h in (asked.0, all (asks t asked.0 action) asked.1),
    λ asked. (old.asked action).1 (before action asked),
  );
  numbered = old.numbered;
  waits = old.waits;
}

-- ---- the task goes on

module _ (t : ℕ) (part : TaskPart) (done : Done TaskPart) (sent sent' : List Message) (made : List Action) (old : AreMade sent t part made) (went : WentOn t part done) (sends : SentToo done.sends sent sent') where
  still_asked : (action : Action) → Has action made → Asks sent' t action
  still_asked action h = let asked = (old.asked action).0 h in (asked.0, (sends (asks t asked.0 action)).1 (inl asked.1))

  -- what is asked for now was asked for before, or is what the task waits for
  asked_before : (action : Action) → Asks sent' t action → Has action made ⊎ (done.part.outstanding ≡ Some action)
  asked_before action asked =
      elim ((sends (asks t asked.0 action)).0 asked.1) [
        | inl before ↦ inl ((old.asked action).1 (asked.0, before))
        | inr new ↦
            let now = went.sends (asks t asked.0 action) new in
            let same : action ≡ now.1 = same_call (ap (λ (m : Message). m.body) now.2) in
            inr (now.3 ∙ ap Some (sym same))
      ]

  none_more : MadeNone part done.part → AreMade sent' t done.part made
  none_more none = record {
    asked = λ action. (
      still_asked action,
      λ asked. elim (asked_before action asked) [ inl before ↦ before | inr waits ↦ old.waits action (none.waits action waits) ],
    );
    numbered = old.numbered ∙ ap (λ (n : ℕ). map (λ k. named t k ∷ []) (one_to n)) (sym none.as_many);
    waits = λ call waits. old.waits call (none.waits call waits);
  }

  one_more : (given : List Answer) → IsAnswered given t done.part → (one : MadeOne t part done.part done.sends) → AreMade sent' t done.part (made ++ one.call ∷ [])
  one_more given now one =
      let so_far : calls_so_far done.part ≡ suc (length done.part.replies) = ap (λ (o : Option Action). if is_some o then suc (length done.part.replies) else length done.part.replies) one.waits in
      let number : suc (length done.part.replies) ≡ suc (calls_so_far part) = sym so_far ∙ one.one_more in
      let call_named : calls_of one.call ≡ named t (suc (calls_so_far part)) ∷ [] = now.waits one.call one.waits ∙ ap (λ (n : ℕ). named t n ∷ []) number in
      let last_of = λ (action : Action) (waits : done.part.outstanding ≡ Some action).
      let same : action ≡ one.call = some_same (sym waits ∙ one.waits) in
      has_right action made (one.call ∷ []) (inl same) in
      record {
        asked = λ action. (
          λ h. elim (has_split action made (one.call ∷ []) h) [
            | inl before ↦ still_asked action before
            | inr last ↦ elim last [
              | inl same ↦ subst (Asks sent' t) (sym same) (one.node, (sends (asks t one.node one.call)).1 (inr one.asked))
              | inr none ↦ absurd none
            ]
          ],
          λ asked. elim (asked_before action asked) [ inl before ↦ has_left action made (one.call ∷ []) before | inr waits ↦ last_of action waits ],
        );
        numbered =
            map-append calls_of made (one.call ∷ [])
            ∙ ap (λ (names : List (List CallName)). names ++ calls_of one.call ∷ []) old.numbered
            ∙ ap (λ (name : List CallName). map (λ k. named t k ∷ []) (one_to (calls_so_far part)) ++ name ∷ []) call_named
            ∙ sym (map-append (λ k. named t k ∷ []) (one_to (calls_so_far part)) (suc (calls_so_far part) ∷ []))
            ∙ ap (λ (n : ℕ). map (λ k. named t k ∷ []) (one_to n)) (sym one.one_more);
        waits = last_of;
      }

  -- it made what it made before, and one call more where it makes one
  pub made_after : (given : List Answer) → IsAnswered given t done.part → (calls : List Action) × AreMade sent' t done.part calls
  made_after given now =
      elim went.makes [
        | inl none ↦ (made, none_more none)
        | inr one ↦ (made ++ one.call ∷ [], one_more given now one)
      ]

-- ---- what is asked for the task is one of its calls so far

pub asks_in_turn : (sent : List Message) (t : ℕ) (part : TaskPart) (made : List Action) → AreMade sent t part made
    → (action : Action) → Asks sent t action → (call : CallName) → Has call (calls_of action) → call.number ≤ calls_so_far part
asks_in_turn sent t part made are action asked call of_it =
    let names = has_mapped calls_of action made ((are.asked action).1 asked) in
    let hit = mapped_has (λ (k : ℕ). named t k ∷ []) (calls_of action) (one_to (calls_so_far part)) (subst (λ (all : List (List CallName)). Has (calls_of action) all) are.numbered names) in
    let there : Has call (named t hit.0 ∷ []) = subst (λ (calls : List CallName). Has call calls) hit.2 of_it in
    let low : hit.0 ≤ calls_so_far part = one_to_bound (calls_so_far part) hit.0 hit.1 in
    elim there [
      | inl same ↦ let number : call.number ≡ hit.0 = ap (λ (c : CallName). c.number) same in omega (arith, number, low)
      | inr none ↦ absurd none
    ]
