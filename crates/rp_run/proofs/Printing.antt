-- What is printed is what one order gives.
use Rattle.std.proofs.Common.{◌≡◌, ℕ, zero, suc, ◌<◌, ◌≤◌, ◌^◌, Bool, true, Result, Ok, Err, OnOk, Option, Some, None, List, [], ◌∷◌, ◌++◌, map, length, take, arith, inl, inr, refl, sym, ap, subst, ◌∙◌, append_assoc, ◌+◌}
use Rattle.std.specs.Prelude.{is_some, nat_eq, slice_get, if◌then◌else◌}
use Rattle.std.proofs.Math.Seq.{take-append_seam}
use Rattle.std.proofs.lemmas.Bool.Decides.{nat_tests}
use Rattle.std.proofs.lemmas.List.{length-append, map-append}
use Rattle.std.proofs.lemmas.Option.{slice_get_within}
use Rattle.rp_base.specs.Config.{IsRightConfig}
use Rattle.rp_base.specs.Records.{applied_of}
use Rattle.rp_base.specs.Sets.{Has, IsSet}
use Rattle.rp_base.specs.declared.action.Action.{Action}
use Rattle.rp_base.specs.declared.action.Action.TheVariants as actions
use Rattle.rp_base.specs.declared.fault.Fault.{Fault}
use Rattle.rp_base.specs.declared.reply.Answer.{Answer}
use Rattle.rp_base.proofs.Members.{has_left, has_right, mapped_has, passes, set_more}
use Rattle.rp_model.specs.rp_codec.specs.Message.{Message}
use Rattle.rp_model.specs.rp_machine.specs.Calls.{CallName, calls_of, call_of}
use Rattle.rp_model.specs.rp_machine.specs.Places.{IsPlace, HasReply}
use Rattle.rp_model.specs.rp_machine.specs.Replay.{number_for, one_to, Replayed, unmoved, replay_of, replay_state, counted_of, replay_from}
use Rattle.rp_model.specs.rp_machine.proofs.Calling.{one_to_bound}
use Rattle.rp_model.specs.rp_machine.proofs.Placing.{one_of_image}
use Rattle.rp_model.specs.rp_machine.proofs.Replaying.{replay_from-append, goes_on_from}
use Rattle.rp_model.specs.Parts.{NodePart, TaskPart}
use Rattle.rp_model.specs.World.{World, part_at}
use Rattle.rp_world.specs.Agreeing.{IsOrdered}
use Rattle.rp_world.specs.rp_agreement.specs.Answered.{named, calls_so_far, calls_by, AreMade, AreItsCalls}
use Rattle.rp_world.specs.rp_agreement.proofs.Lists.{has_get}
use Rattle.rp_run.specs.Agreeing.{call_for, HasReplyIn, IsShownBy, IsRepliedBy, IsPrinted, RunIsPrinted, RunAgrees, RunPrints}
use Rattle.rp_run.specs.Items.{Item, Replied, Shown, asked_by}
use Rattle.rp_run.specs.Output.{RunSetting, text_of_said, run_said}
use Rattle.rp_output.specs.Stream.{Writes}
use Rattle.rp_deck.specs.declared.deck.Line.{Line}
use Rattle.rp_run.proofs.Recounting.{IsRecounted, run_recounts}

-- ---- calls by their names

abbrev number_of : List CallName → ℕ
number_of [] = 0
number_of (call ∷ rest) = call.number

abbrev task_of : List CallName → ℕ
task_of [] = 0
task_of (call ∷ rest) = call.task

numbers_apart : (t n : ℕ) → IsSet (map (λ k. named t k ∷ []) (one_to n))
numbers_apart t zero = tt
numbers_apart t (suc n) =
    subst (λ (l : List (List CallName)). IsSet l) (sym (map-append (λ k. named t k ∷ []) (one_to n) (suc n ∷ [])))
    (set_more (map (λ k. named t k ∷ []) (one_to n)) (named t (suc n) ∷ []) (numbers_apart t n) (λ h.
    let hit = mapped_has (λ (k : ℕ). named t k ∷ []) (named t (suc n) ∷ []) (one_to n) h in
    let low : hit.0 ≤ n = one_to_bound n hit.0 hit.1 in
    let same : suc n ≡ hit.0 = ap number_of hit.2 in
    absurd (omega (arith, low, same))))

-- an action whose call is a task's is one of the task's calls
is_its_call : (t n : ℕ) (action : Action) → calls_of action ≡ named t n ∷ [] → is_some (number_for t action) ≡ true
is_its_call t n actions.Noop e = absurd (cc)
is_its_call t n (actions.Call task number object operation arg) e =
    let same : task ≡ t = ap task_of e in
    let hit : nat_eq task t ≡ true = grind (arith, nat_tests, same) in
    ap (λ (b : Bool). is_some (if b then Some number else None)) hit
is_its_call t n (actions.Interrupt source occurrence) e = absurd (cc)
is_its_call t n (actions.Tick now) e = absurd (cc)

-- of the calls that a task made no two are of one name
one_call : (sent : List Message) (t : ℕ) (part : TaskPart) (made : List Action) → AreMade sent t part made → (a b : Action) → Has a made → Has b made → calls_of a ≡ calls_of b → a ≡ b
one_call sent t part made are a b one other same =
    one_of_image calls_of made a b (subst (λ (l : List (List CallName)). IsSet l) (sym are.numbered) (numbers_apart t (calls_so_far part))) one other same

-- ---- the action at a place

module _ {S : Type 0} (next : S → Action → S) (answers : S → Action → List Answer) (begin : S) where
  -- what takes effect is among what counts
  place_counts : (order : List Action) (call : CallName) (position : ℕ) (place : IsPlace next answers begin order call position) → Has place.action (counted_of next answers begin order)
  place_counts order call position place =
      let r = replay_of next answers begin place.before in
      let onward = goes_on_from next answers (record { state = next r.state place.action; kept = r.kept ++ place.action ∷ []; given = r.given ++ answers r.state place.action }) place.following in
      let same : counted_of next answers begin (place.before ++ place.action ∷ place.following) ≡ (r.kept ++ place.action ∷ []) ++ onward.further =
      ap (λ (all : Replayed S). all.kept) (replay_from-append next answers (unmoved begin) place.before (place.action ∷ place.following))
      ∙ ap (λ (b : Bool). (replay_from next answers (if b then record { state = next r.state place.action; kept = r.kept ++ place.action ∷ []; given = r.given ++ answers r.state place.action } else r) place.following).kept) place.takes_effect
      ∙ onward.kept in
      subst (λ (l : List Action). Has place.action l) (sym (ap (counted_of next answers begin) place.occurs ∙ same))
      (has_left place.action (r.kept ++ place.action ∷ []) onward.further (has_right place.action r.kept (place.action ∷ []) (inl refl)))

  -- it is the one of that name among the calls that the task made
  place_made : (sent : List Message) (order : List Action) (t n position : ℕ) (call : CallName) (part : TaskPart) (its : AreItsCalls sent t part (counted_of next answers begin order))
      → call ≡ named t n → (place : IsPlace next answers begin order call position) → (asked : Action) → Has asked its.made → calls_of asked ≡ named t n ∷ [] → place.action ≡ asked
  place_made sent order t n position call part its is place asked there name =
      let own : calls_of place.action ≡ named t n ∷ [] = place.is_call ∙ ap (λ (c : CallName). c ∷ []) is in
      let counted = passes (λ (action : Action). is_some (number_for t action)) place.action (counted_of next answers begin order) (place_counts order call position place) (is_its_call t n place.action own) in
      one_call sent t part its.made its.are_made place.action asked (among place.action counted) there (own ∙ sym name)
    where
      among : (action : Action) → Has action (calls_by t (counted_of next answers begin order)) → Has action its.made
      among action h = elim its.all_but_last [
        | inl all ↦ subst (λ (l : List Action). Has action l) (sym all) h
        | inr but_last ↦ subst (λ (l : List Action). Has action l) (sym but_last.2) (has_left action (calls_by t (counted_of next answers begin order)) (but_last.0 ∷ []) h)
      ]

-- ---- what is printed

get_there : {A : Type 0} (xs : List A) (k : ℕ) → k < length xs → (a : A) × (slice_get xs k ≡ Some a)
get_there [] k below = absurd (omega (arith, below))
get_there (x ∷ xs) zero below = (x, refl)
get_there (x ∷ xs) (suc k) below = get_there xs k (omega (arith, below))

made_of_replies : (part : TaskPart) → length part.replies ≤ calls_so_far part
made_of_replies part = at part.outstanding
  where
    at : (waiting : Option Action) → length part.replies ≤ (if is_some waiting then suc (length part.replies) else length part.replies)
    at None = omega arith
    at (Some call) = omega arith

module _ {S : Type 0} (s : RunSetting S) (items : List Item) (w : World) (recounted : IsRecounted s items w)
    (ordered : IsOrdered s.setting.next s.setting.answers s.setting.begin s.setting.config.nodes w)
    (short : (node : ℕ) (part : NodePart) → part_at w.nodes node ≡ Some part → length (applied_of part.records) < 2 ^ 16) where
  shown_by : (node applied : ℕ) (image : List ℕ) → Has (Shown node applied image) items → IsShownBy s ordered.order applied image
  shown_by node applied image h =
      let was = recounted.shown node applied image h in
      let begins = ordered.applied node was.part was.there in
      let all : ordered.order ≡ was.before ++ (was.begins.0 ++ begins.0) =
      begins.1 ∙ ap (λ (l : List Action). l ++ begins.0) was.begins.1 ∙ append_assoc was.before was.begins.0 begins.0 in
      let parts : length (applied_of was.part.records) ≡ length was.before + length was.begins.0 = ap (λ (l : List Action). length l) was.begins.1 ∙ length-append was.before was.begins.0 in
      let few = short node was.part was.there in
      let count : applied ≡ length was.before = grind (arith, was.count, parts, few) in
      let sum : length ordered.order ≡ length was.before + length (was.begins.0 ++ begins.0) = ap (λ (l : List Action). length l) all ∙ length-append was.before (was.begins.0 ++ begins.0) in
      record {
        reached = omega (arith, count, sum);
        image_is =
            was.image_is
            ∙ ap (λ (l : List Action). s.image (replay_state s.setting.next s.setting.answers s.setting.begin l))
            (sym (ap (λ (n : ℕ). take n ordered.order) count ∙ ap (λ (l : List Action). take (length was.before) l) all ∙ take-append_seam was.before (was.begins.0 ++ begins.0)));
      }

  -- the reply of the order, under the answer's own name
  order_replies : (answer : Answer) (part : TaskPart) → part_at w.tasks answer.task ≡ Some part → (k : ℕ) → slice_get part.replies k ≡ Some answer
      → (answer.number ≡ suc k) × HasReplyIn s ordered.order answer
  order_replies answer part there k is =
      let reply = ordered.replies answer.task k part answer there is in
      let name : call_of answer ≡ named answer.task (suc k) = reply.is_answer.0 in (
        ap (λ (c : CallName). c.number) name,
        subst (λ (c : CallName). HasReply s.setting.next s.setting.answers s.setting.begin ordered.order c answer) (sym name) reply,
      )

  replied_by : (name : List ℕ) (answer : Answer) → Has (Replied name answer) items → IsRepliedBy s ordered.order items name answer
  replied_by name answer h =
      let was = recounted.replied name answer h in
      let at = has_get was.part.replies answer was.taken in
      let its = ordered.calls answer.task was.part was.there in
      let both = order_replies answer was.part was.there at.0 at.1 in
      let made = recounted.called answer.task in
      let within : at.0 < length was.part.replies = slice_get_within was.part.replies at.0 answer at.1 in
      let many : length (asked_by answer.task items) ≡ calls_so_far was.part = made.many was.part was.there in
      let enough : length was.part.replies ≤ calls_so_far was.part = made_of_replies was.part in
      let asked = get_there (asked_by answer.task items) at.0 (omega (arith, within, many, enough)) in
      let call = call_for answer.task (suc at.0) asked.0 in
      let among : Has call its.made = (its.are_made.asked call).1 (made.sent at.0 asked.0 asked.1) in
      let place = both.1.takes_effect.is_place in
      let same : place.action ≡ call =
      place_made s.setting.next s.setting.answers s.setting.begin w.sent ordered.order answer.task (suc at.0) both.1.place (call_of answer) was.part its
      (ap (named answer.task) both.0) place call among refl in
      record {
        under = was.under;
        reply = both.1;
        asked = asked.0;
        was_asked = ap (part_at (asked_by answer.task items)) both.0 ∙ asked.1;
        action_is = same ∙ ap (λ (n : ℕ). call_for answer.task n asked.0) (sym both.0);
      }

  pub is_printed : IsPrinted s w items
  is_printed = record {
    ordered = ordered;
    shown = shown_by;
    replied = replied_by;
    all = recounted.all;
    alike = λ one other applied image another first second. (shown_by one applied image first).image_is ∙ sym (shown_by other applied another second).image_is;
  }

-- a run, by the order of its world, where no node has applied more than the log has positions
pub run_is_printed : {S : Type 0} (s : RunSetting S) (most : ℕ) (lines : List Line) → IsRightConfig s.setting.config
    → (let w = (run_said s most lines).play.world in
    IsOrdered s.setting.next s.setting.answers s.setting.begin s.setting.config.nodes w
    → ((node : ℕ) (part : NodePart) → part_at w.nodes node ≡ Some part → length (applied_of part.records) ≤ s.setting.config.max_positions)
    → IsPrinted s w (run_said s most lines).items)
run_is_printed s most lines right ordered short =
    let said = run_said s most lines in
    let few = right.positions.1 in
    is_printed s said.items said.play.world (run_recounts s most lines) ordered
    (λ node part there. let within : length (applied_of part.records) ≤ s.setting.config.max_positions = short node part there in omega (arith, within, few))

-- what was written is what is printed
pub prints_if : {S : Type 0} (s : RunSetting S) (most : ℕ) (lines : List Line) (old new : Option (List ℕ)) (answer : Result Unit Fault)
    → Writes old new (text_of_said (run_said s most lines)) answer → RunIsPrinted s most lines → RunAgrees s most lines → OnOk answer (RunPrints s most lines old new)
prints_if s most lines old new (Ok done) written printed agrees = record { written = written; printed = printed; agrees = agrees }
prints_if s most lines old new (Err fault) written printed agrees = tt
