-- A learner and a log, one record on.
use Rattle.std.proofs.Common.{◌≡◌, ◌≢◌, ℕ, ◌+◌, ◌<◌, Bool, true, false, ◌||◌, cond, nat_eq, nat_lt, not, is_some, Option, Some, None, List, [], ◌∷◌, ◌++◌, refl, sym, ap, subst, ◌∙◌, inl, inr, arith, eq-eqb}
use Rattle.std.specs.List.{list_any}
use Rattle.std.proofs.lemmas.Bool.{cases_Bool, both_ways, ne_eqb, leb-true, or_cases, or_left, or_right, cond-true, cond-false}
use Rattle.std.proofs.lemmas.Bool.Decides.{Decides-eqb, eqb_tells}
use Rattle.rp_base.specs.declared.action.Action.{Action}
use Rattle.rp_base.specs.declared.config.Config.{Config}
use Rattle.rp_base.specs.declared.record.Rec.{Rec}
use Rattle.rp_base.specs.declared.record.Rec.TheVariants.{Started, Promised, Voted, Learned, PromisedRange}
use Rattle.rp_base.specs.Sets.{Has, with_member}
use Rattle.rp_base.specs.Promises.{HeardVote, heard_elsewhere}
use Rattle.rp_base.specs.Records.{or_else, learned_in, learned_at}
use Rattle.rp_base.proofs.Members.{found, finds, has_passing, passes, has_with, with_has, same_passing}
use Rattle.rp_base.proofs.MoreRecords.{learned_push}
use Rattle.rp_learner.specs.Learning.{Learning}
use Rattle.rp_learner.specs.Status.{SameLearning, Settles, is_beyond, is_settled, with_mark}
use Rattle.rp_learner.proofs.Alike.{settled_alike}
use Rattle.rp_log.specs.Contents.{Contents, empty_log, action_at, with_room}
use Rattle.std.specs.FinMap.{get, insert, get-empty}
use Rattle.std.specs.Prelude.{option_and_then}
use Rattle.std.specs.Ordering.{nat_cmp}
use Rattle.rp_log.specs.Recorded.{LearnedAlike}
use Rattle.rp_server.proofs.Keeping.{or_none}
use Rattle.rp_server.specs.Invariant.{IsLearner, IsOpenVote}
use Rattle.rp_server.proofs.Hearing.{learns_alike}

-- ---- a set with one member more

settled_same : (xs : List ℕ) (i j : ℕ) (after before : Bool) → list_any (nat_eq j) (with_member nat_eq xs i) ≡ after → list_any (nat_eq j) xs ≡ before → j ≢ i → after ≡ before
settled_same xs i j true true a b other = refl
settled_same xs i j false false a b other = refl
settled_same xs i j true false a b other =
    elim (has_with nat_eq Decides-eqb j i xs (found nat_eq Decides-eqb j (with_member nat_eq xs i) a)) [
      | inl before ↦ let yes : list_any (nat_eq j) xs ≡ true = finds nat_eq Decides-eqb j xs before in absurd (cc)
      | inr same ↦ absurd (other same)
    ]
settled_same xs i j false true a b other =
    let yes : list_any (nat_eq j) (with_member nat_eq xs i) ≡ true =
    finds nat_eq Decides-eqb j (with_member nat_eq xs i) (with_has nat_eq Decides-eqb j i xs (inl (found nat_eq Decides-eqb j xs b))) in
    absurd (cc)

settled_here : (xs : List ℕ) (i j : ℕ) → j ≡ i → list_any (nat_eq j) (with_member nat_eq xs i) ≡ true
settled_here xs i j same = finds nat_eq Decides-eqb j (with_member nat_eq xs i) (with_has nat_eq Decides-eqb j i xs (inr same))

-- ---- one learned action more

some_more : (o : Option Action) (v : Action) → is_some (or_else o (Some v)) ≡ true
some_more None v = refl
some_more (Some w) v = refl

none_more : (o : Option Action) → is_some (or_else o None) ≡ is_some o
none_more None = refl
none_more (Some w) = refl

learned_here : (records : List Rec) (i j : ℕ) (v : Action) → j ≡ i → is_some (learned_at (records ++ Learned i v ∷ []) j) ≡ true
learned_here records i j v same =
    ap is_some (learned_push records (Learned i v) j)
    ∙ ap (λ (b : Bool). is_some (or_else (learned_at records j) (cond b (Some v) None))) (eq-eqb i j (sym same))
    ∙ some_more (learned_at records j) v

learned_there : (records : List Rec) (i j : ℕ) (v : Action) → j ≢ i → is_some (learned_at (records ++ Learned i v ∷ []) j) ≡ is_some (learned_at records j)
learned_there records i j v other =
    ap is_some (learned_push records (Learned i v) j)
    ∙ ap (λ (b : Bool). is_some (or_else (learned_at records j) (cond b (Some v) None))) (ne_eqb i j (λ e. other (sym e)))
    ∙ none_more (learned_at records j)

module _ (config : Config) (records : List Rec) (taken : ℕ) (before after : Learning) (votes : List HeardVote) (i : ℕ) (v : Action) (l : IsLearner config records taken before votes) where
  -- the votes that stay are at other positions
  still_open : after.first ≡ before.first → (h : HeardVote) → Has h (heard_elsewhere votes i) → IsOpenVote (records ++ Learned i v ∷ []) after h
  still_open first h m =
      let both = has_passing (λ (k : HeardVote). not (nat_eq k.1 i)) h votes m in
      let o = l.open_votes h both.0 in
      let other : h.1 ≢ i = λ e. both_ways (not (nat_eq h.1 i)) (ap not (eq-eqb h.1 i e)) both.1 in
      record {
        position = o.position;
        within = omega (arith, o.within, first);
        unlearned = learned_push records (Learned i v) h.1
            ∙ ap (λ (b : Bool). or_else (learned_at records h.1) (cond b (Some v) None)) (ne_eqb i h.1 (λ e. other (sym e)))
            ∙ or_none (learned_at records h.1)
            ∙ o.unlearned;
      }

  -- the position is settled in the window
  marks_more : SameLearning after (with_mark before i) → IsLearner config (records ++ Learned i v ∷ []) taken after (heard_elsewhere votes i)
  marks_more same = record {
    nodes = same.nodes ∙ l.nodes;
    positions = same.positions ∙ l.positions;
    first = same.first ∙ l.first;
    heard = λ h. (
      λ t. (same_passing (λ (k : HeardVote). not (nat_eq k.1 i)) before.heard votes l.heard h).0 ((same.heard h).0 t),
      λ t. (same.heard h).1 ((same_passing (λ (k : HeardVote). not (nat_eq k.1 i)) before.heard votes l.heard h).1 t),
    );
    open_votes = still_open same.first;
    settled = λ j low within.
        let marked = list_any (nat_eq j) (with_member nat_eq before.settled i) in
        let alike : is_settled after j ≡ (nat_lt j before.first || marked) = settled_alike after (with_mark before i) j same in
        elim (eqb_tells j i) [
          | inl here ↦ alike ∙ or_right (nat_lt j before.first) marked (settled_here before.settled i j here.1) ∙ sym (learned_here records i j v here.1)
          | inr other ↦
              alike
              ∙ ap (λ (b : Bool). nat_lt j before.first || b) (settled_same before.settled i j marked (list_any (nat_eq j) before.settled) refl refl other.1)
              ∙ l.settled j low (omega (arith, within, same.first))
              ∙ sym (learned_there records i j v other.1)
        ];
  }

  -- the position is not in the window, and nothing is marked
  marks_none : (is_beyond before i || nat_lt i before.first) ≡ true → SameLearning after before → IsLearner config (records ++ Learned i v ∷ []) taken after (heard_elsewhere votes i)
  marks_none out same =
      let below : i < before.first + 64 → nat_lt i before.first ≡ true = λ near. elim (or_cases (is_beyond before i) (nat_lt i before.first) out) [
        | inl far ↦ absurd (omega (arith, near, leb-true (before.first + 64) i far))
        | inr under ↦ under
      ] in
      let none_there : (h : HeardVote) → Has h votes → h.1 ≢ i = λ h m e.
      let o = l.open_votes h m in
      let near : i < before.first + 64 = omega (arith, e, o.within) in
      let known : is_settled before i ≡ true = or_left (nat_lt i before.first) (list_any (nat_eq i) before.settled) (below near) in
      let unknown : is_settled before i ≡ false = l.settled i (omega (arith, e, o.position)) near ∙ ap (λ (k : ℕ). is_some (learned_at records k)) (sym e) ∙ ap is_some o.unlearned in
      both_ways (is_settled before i) unknown known in
      record {
        nodes = same.nodes ∙ l.nodes;
        positions = same.positions ∙ l.positions;
        first = same.first ∙ l.first;
        heard = λ h. (
          λ t.
              let replica = (l.heard h).0 ((same.heard h).0 t) in
              passes (λ (k : HeardVote). not (nat_eq k.1 i)) h votes replica (ap not (ne_eqb h.1 i (none_there h replica))),
          λ t. (same.heard h).1 ((l.heard h).1 (has_passing (λ (k : HeardVote). not (nat_eq k.1 i)) h votes t).0),
        );
        open_votes = still_open same.first;
        settled = λ j low within.
            let near : j < before.first + 64 = omega (arith, within, same.first) in
            let alike : is_settled after j ≡ is_settled before j = settled_alike after before j same in
            elim (eqb_tells j i) [
              | inl here ↦
                  let under : nat_lt j before.first ≡ true = subst (λ (k : ℕ). nat_lt k before.first ≡ true) (sym here.1) (below (omega (arith, near, here.1))) in
                  alike ∙ or_left (nat_lt j before.first) (list_any (nat_eq j) before.settled) under ∙ sym (learned_here records i j v here.1)
              | inr other ↦ alike ∙ l.settled j low near ∙ sym (learned_there records i j v other.1)
            ];
      }

  -- the learner settles what is learned
  pub learns_more : Settles before i after → IsLearner config (records ++ Learned i v ∷ []) taken after (heard_elsewhere votes i)
  learns_more same =
      let out : Bool = is_beyond before i || nat_lt i before.first in
      elim (cases_Bool out) [
        | inl outside ↦ marks_none outside (subst (λ (m : Learning). SameLearning after m) (cond-true out before (with_mark before i) outside) same)
        | inr inside ↦ marks_more (subst (λ (m : Learning). SameLearning after m) (cond-false out before (with_mark before i) inside) same)
      ]

-- another record changes nothing for a learner
pub learns_none : (config : Config) (records : List Rec) (rec : Rec) (taken : ℕ) (learner : Learning) (votes : List HeardVote) → ((j : ℕ) → learned_in j rec ≡ None) → IsLearner config records taken learner votes
    → IsLearner config (records ++ rec ∷ []) taken learner votes
learns_none config records rec taken learner votes none l =
    learns_alike config records (records ++ rec ∷ []) taken learner votes
    (λ j. learned_push records rec j ∙ ap (λ (o : Option Action). or_else (learned_at records j) o) (none j) ∙ or_none (learned_at records j)) l

-- ---- a log, one record on

-- another record changes nothing for a log
pub alike_none : (records : List Rec) (rec : Rec) (log : Contents) → ((j : ℕ) → learned_in j rec ≡ None) → LearnedAlike records log → LearnedAlike (records ++ rec ∷ []) log
alike_none records rec log none alike = λ j. alike j ∙ sym (learned_push records rec j ∙ ap (λ (o : Option Action). or_else (learned_at records j) o) (none j) ∙ or_none (learned_at records j))

-- a record that learns nothing
pub learned_none : (rec : Rec) → ((i : ℕ) (v : Action) → rec ≡ Learned i v → ⊥) → (j : ℕ) → learned_in j rec ≡ None
learned_none (Started ballot) other j = refl
learned_none (Promised position ballot) other j = refl
learned_none (Voted position ballot action) other j = refl
learned_none (Learned position action) other j = absurd (other position action refl)
learned_none (PromisedRange range ballot) other j = refl

-- making room takes nothing
pub taken_same : (log : Contents) (i : ℕ) → (with_room log i).taken ≡ log.taken
taken_same log i = elim (is_some (get log.places i)) as (λ b. (cond b log (record log { places = insert log.places i None })).taken ≡ log.taken) [ true ↦ refl | false ↦ refl ]

-- an empty log learned nothing
pub none_learned : (i : ℕ) → action_at empty_log i ≡ None
none_learned i = ap (option_and_then (λ (o : Option Action). o)) (get-empty nat_cmp i)
