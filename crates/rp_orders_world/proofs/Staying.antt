-- The order of a history is one of what may happen, and so is each prefix of it.
use Rattle.std.proofs.Common.{◌≡◌, ◌≢◌, ℕ, zero, suc, ◌+◌, ◌<◌, ◌≤◌, ℤ, Bool, true, false, not, nat_eq, ◌⊎◌, Option, Some, None, is_none, is_some, unwrap_or, List, [], ◌∷◌, ◌++◌, length, find, if◌then◌else◌, refl, sym, ap, subst, ◌∙◌, inl, inr, arith, append_assoc, eqb-true}
use Rattle.std.specs.Option.{option_map}
use Rattle.std.specs.Prelude.{slice_get}
use Rattle.rp_world.specs.rp_base.specs.Sets.{Has}
use Rattle.rp_world.specs.rp_base.specs.declared.action.Action.{Action}
use Rattle.rp_world.specs.rp_base.specs.declared.action.Action.TheVariants.{Noop, Call, Interrupt, Tick}
use Rattle.rp_world.specs.rp_base.specs.declared.action.Operation.{Operation}
use Rattle.rp_world.specs.rp_base.specs.declared.reply.Answer.{Answer}
use Rattle.rp_world.specs.rp_base.specs.declared.reply.Reply.{Reply}
use Rattle.rp_world.specs.rp_machine.specs.Asked.{last_number, waits, answer_to, kept_reply}
use Rattle.rp_world.specs.rp_machine.specs.Calls.{CallName, call_of}
use Rattle.rp_world.specs.rp_machine.specs.Places.{IsPlace, IsAnswerOf, HasReply, counts_after}
use Rattle.rp_world.specs.rp_machine.specs.Replay.{counts, is_for, Replayed, GoesOn, unmoved, replay_step, replay_from, replay_of, counted_of, replay_answers}
use Rattle.rp_world.specs.rp_machine.proofs.Asking.{call_counts}
use Rattle.rp_world.specs.rp_machine.proofs.Numbering.{counted as counted_all}
use Rattle.rp_world.specs.rp_machine.proofs.Replaying.{replay_from-append, goes_on_from}
use Rattle.rp_world.specs.rp_machine.proofs.Calling.{has_left, has_right, has_either, both_true}
use Rattle.rp_world.specs.rp_model.specs.Events.{Event}
use Rattle.rp_world.specs.rp_model.specs.Facts.{IsDecided, IsOrder}
use Rattle.rp_world.specs.rp_model.specs.Parts.{TaskPart}
use Rattle.rp_world.specs.rp_model.specs.World.{World, part_at}
use Rattle.rp_world.specs.rp_agreement.specs.Asked.{IsAsked}
use Rattle.rp_world.specs.rp_agreement.specs.Noted.{IsNoted}
use Rattle.rp_world.specs.rp_agreement.specs.Answered.{named, calls_so_far}
use Rattle.rp_orders.specs.Guards.{all_hold, last_reply}
use Rattle.rp_orders.specs.Orders.{IsOrderOf, MayFollow}
use Rattle.rp_orders.specs.declared.guard.Guard.{Guard}
use Rattle.rp_orders.proofs.Guarding.{kept_at, none_waits, next_if_counts}
use Rattle.rp_orders_world.specs.Within.{IsWithin, reply_before}

-- a member of a list has a place in it
pub place_of : {A : Type 0} (x : A) (xs : List A) → Has x xs → (k : ℕ) × (slice_get xs k ≡ Some x)
place_of x [] h = absurd h
place_of x (y ∷ ys) h = elim h [
  | inl same ↦ (zero, ap Some (sym same))
  | inr rest ↦ let found = place_of x ys rest in (suc found.0, found.1)
]

-- ---- what counts in a list of actions is among them, and is no Noop

module _ {S : Type 0} (next : S → Action → S) (answers : S → Action → List Answer) where
  kept_if : (r : Replayed S) (action other : Action) (b : Bool) → counts r.kept r.given action ≡ b
      → Has other (if b then record { state = next r.state action; kept = r.kept ++ action ∷ []; given = r.given ++ answers r.state action } else r).kept
      → Has other r.kept ⊎ ((other ≡ action) × (action ≢ Noop))
  kept_if r action other true e h = elim (has_either other r.kept (action ∷ []) h) [
    | inl before ↦ inl before
    | inr last ↦ elim last [
      | inl same ↦ inr (same, λ noop. let met : false ≡ true = subst (λ (a : Action). counts r.kept r.given a ≡ true) noop e in absurd (cc))
      | inr none ↦ absurd none
    ]
  ]
  kept_if r action other false e h = inl h

  step_kept : (r : Replayed S) (action other : Action) → Has other (replay_step next answers r action).kept → Has other r.kept ⊎ ((other ≡ action) × (action ≢ Noop))
  step_kept r action other h = kept_if r action other (counts r.kept r.given action) refl h

  pub kept_from : (r : Replayed S) (rest : List Action) (other : Action) → Has other (replay_from next answers r rest).kept → Has other r.kept ⊎ (Has other rest × (other ≢ Noop))
  kept_from r [] other h = inl h
  kept_from r (action ∷ rest) other h = elim (kept_from (replay_step next answers r action) rest other h) [
    | inl before ↦ elim (step_kept r action other before) [
      | inl earlier ↦ inl earlier
      | inr now ↦ inr (inl now.0, λ noop. now.1 (sym now.0 ∙ noop))
    ]
    | inr later ↦ inr (inr later.0, later.1)
  ]

-- ---- the reply before a call

-- there is an item at each place within a list
item_at : {A : Type 0} (xs : List A) (k : ℕ) → k < length xs → (x : A) × (slice_get xs k ≡ Some x)
item_at [] k lt = absurd (omega arith)
item_at (x ∷ xs) zero lt = (x, refl)
item_at (x ∷ xs) (suc k) lt = item_at xs k (omega arith)

some_same : (a b : Answer) → Some a ≡ Some b → a ≡ b
some_same a b same = ap (λ (o : Option Answer). unwrap_or o a) same

-- a task that made a call got a reply to each call before
got_before : (part : TaskPart) (k number : ℕ) → number ≡ suc (suc k) → number ≤ calls_so_far part → k < length part.replies
got_before part k number up le = by (is_some part.outstanding) (subst (λ (n : ℕ). n ≤ calls_so_far part) up le)
  where
    by : (b : Bool) → suc (suc k) ≤ (if b then suc (length part.replies) else length part.replies) → k < length part.replies
    by true below = omega (arith, below)
    by false below = omega (arith, below)

-- what a search finds is there, and passes the test
found_there : (test : Answer → Bool) (xs : List Answer) (x : Answer) → find test xs ≡ Some x → Has x xs × (test x ≡ true)
found_there test [] x e = let met : None ≡ Some x = e in absurd (cc)
found_there test (y ∷ ys) x e = by (test y) refl e (λ later. found_there test ys x later)
  where
    by : (b : Bool) → test y ≡ b → (if b then Some y else find test ys) ≡ Some x → (find test ys ≡ Some x → Has x ys × (test x ≡ true)) → Has x (y ∷ ys) × (test x ≡ true)
    by true is same later = let here : y ≡ x = some_same y x same in (inl (sym here), subst (λ (z : Answer). test z ≡ true) here is)
    by false is same later = let rest = later same in (inr rest.0, rest.1)

-- the call that an answer is for
is_of_call : (task number : ℕ) (x : Answer) → is_for task number x ≡ true → call_of x ≡ named task number
is_of_call task number x e =
    let both = both_true (nat_eq x.task task) (nat_eq x.number number) e in
    let tasks = eqb-true x.task task both.0 in
    let numbers = eqb-true x.number number both.1 in
    λ i. record { task = tasks i; number = numbers i }

some_if : (o : Option Answer) → is_none o ≡ false → (x : Answer) × (o ≡ Some x)
some_if None e = let met : true ≡ false = e in absurd (cc)
some_if (Some x) e = (x, refl)

not_waits : (b : Bool) → not b ≡ true → b ≡ false
not_waits true e = sym e
not_waits false e = refl

-- ---- an order of a history

module _ {S : Type 0} (next : S → Action → S) (answers : S → Action → List Answer) (begin : S) where
  module _ (nodes : ℕ) (guards : List Guard) (may : List Action) (happened : List Event) (w : World)
      (asked : (i : ℕ) (v : Action) → IsDecided nodes w.sent i v → IsAsked w.sent v)
      (noted : (i : ℕ) (v : Action) → IsDecided nodes w.sent i v → IsNoted happened v)
      (within : IsWithin guards may happened w)
      (order : List Action) (is_decided : IsOrder nodes w.sent order)
      (replies : (t k : ℕ) (part : TaskPart) (answer : Answer) → part_at w.tasks t ≡ Some part → slice_get part.replies k ≡ Some answer → HasReply next answers begin order (named t (suc k)) answer)
      (made : (t n place : ℕ) → IsPlace next answers begin order (named t n) place → (part : TaskPart) × (part_at w.tasks t ≡ Some part) × (1 ≤ n) × (n ≤ calls_so_far part))
      (one_answer : (call : CallName) (one other : Answer) → IsAnswerOf next answers begin order call one → IsAnswerOf next answers begin order call other → one ≡ other)
    where
      decided : (v : Action) → Has v order → (i : ℕ) × IsDecided nodes w.sent i v
      decided v h = let place = place_of v order h in (suc place.0, is_decided.decided place.0 v place.1)

      -- what was asked for or noted may happen, if it is no Noop
      may_be : (v : Action) → v ≢ Noop → IsAsked w.sent v → IsNoted happened v → Has v may
      may_be Noop other is_asked is_noted = absurd (other refl)
      may_be (Call task number object operation arg) other is_asked is_noted =
          within.calls task (Call task number object operation arg) (is_asked.asked (record { task = task; number = number }) (inl refl))
      may_be (Interrupt source occurrence) other is_asked is_noted = within.interrupts is_noted.0 source occurrence is_noted.1
      may_be (Tick now) other is_asked is_noted = within.ticks is_noted.0 now is_noted.1

      -- an answer that a prefix gives, the order gives
      given_later : (before rest : List Action) (x : Answer) → order ≡ before ++ rest → Has x (replay_answers next answers begin before) → Has x (replay_answers next answers begin order)
      given_later before rest x is h =
          let on = goes_on_from next answers (replay_of next answers begin before) rest in
          let joined : replay_of next answers begin (before ++ rest) ≡ replay_from next answers (replay_of next answers begin before) rest = replay_from-append next answers (unmoved begin) before rest in
          subst (λ (o : List Action). Has x (replay_answers next answers begin o)) (sym is)
          (subst (λ (r : Replayed S). Has x r.given) (sym joined) (subst (λ (xs : List Answer). Has x xs) (sym on.given) (has_left x (replay_answers next answers begin before) on.more h)))

      -- the reply that the task got before a call that counts is the one that is kept
      same_reply : (before rest : List Action) (task number object : ℕ) (operation : Operation) (arg : ℤ) (part : TaskPart) → order ≡ before ++ Call task number object operation arg ∷ rest
          → counts_after next answers begin before (Call task number object operation arg) ≡ true → part_at w.tasks task ≡ Some part → number ≤ calls_so_far part
          → (n : ℕ) → last_number task (counted_of next answers begin before) ≡ n → number ≡ n + 1
          → reply_before number part.replies ≡ last_reply task (counted_of next answers begin before) (replay_answers next answers begin before)
      same_reply before rest task number object operation arg part is counted at so_far zero last number_is =
          let kept = counted_of next answers begin before in
          let given = replay_answers next answers begin before in
          ap (λ (j : ℕ). reply_before j part.replies) number_is ∙ sym (ap (λ (j : ℕ). kept_reply task j kept given) last)
      same_reply before rest task number object operation arg part is counted at so_far (suc k) last number_is =
          let kept = counted_of next answers begin before in
          let given = replay_answers next answers begin before in
          let fine = counted_all next answers begin before in
          let up : number ≡ suc (suc k) = omega (arith, number_is) in
          let item = item_at part.replies k (got_before part k number up so_far) in
          let free = both_true (nat_eq number (last_number task kept + 1)) (not (waits task kept given)) (call_counts kept given fine task number object operation arg ∙ counted) in
          let found = some_if (answer_to task (suc k) given) (none_waits [] task kept given fine k last ∙ not_waits (waits task kept given) free.1) in
          let there = found_there (is_for task (suc k)) given found.0 found.1 in
          let same : item.0 ≡ found.0 =
          one_answer (named task (suc k)) item.0 found.0 (replies task k part item.0 at item.1).is_answer
          (is_of_call task (suc k) found.0 there.1, given_later before (Call task number object operation arg ∷ rest) found.0 is there.0) in
          ap (λ (j : ℕ). reply_before j part.replies) up
          ∙ ap (λ (o : Option Answer). option_map (λ answer. answer.reply) o) (item.1 ∙ ap Some same ∙ sym found.1)
          ∙ sym (ap (λ (j : ℕ). kept_reply task j kept given) last ∙ kept_at task kept given (suc k) last)

      -- so each action that counts is one that the guards let be decided
      follows : (before rest : List Action) (action : Action) → order ≡ before ++ action ∷ rest → counts_after next answers begin before action ≡ true → MayFollow next answers begin guards before action
      follows before rest Noop is counted = refl
      follows before rest (Call task number object operation arg) is counted =
          let action : Action = Call task number object operation arg in
          let kept = counted_of next answers begin before in
          let given = replay_answers next answers begin before in
          let place : IsPlace next answers begin order (named task number) (suc (length before)) =
          record { before = before; action = action; following = rest; occurs = is; here = refl; is_call = refl; takes_effect = counted } in
          let own = made task number (suc (length before)) place in
          let d = decided action (subst (λ (o : List Action). Has action o) (sym is) (has_right action before (action ∷ rest) (inl refl))) in
          let asks = (asked d.0 action d.1).asked (record { task = task; number = number }) (inl refl) in
          let number_is = next_if_counts kept given (counted_all next answers begin before) task number object operation arg counted in
          subst (λ (o : Option Reply). all_hold guards task number o ≡ true)
          (same_reply before rest task number object operation arg own.0 is counted own.1 own.3 (last_number task kept) refl number_is)
          (within.guarded task number object operation arg own.0 asks own.1)
      follows before rest (Interrupt source occurrence) is counted = refl
      follows before rest (Tick now) is counted = refl

      pub is_order : IsOrderOf next answers begin guards may order
      is_order = record {
        right = λ v h. let d = decided v h in (asked d.0 v d.1).right;
        among = λ v h. elim (kept_from next answers (unmoved begin) order v h) [
          | inl none ↦ absurd none
          | inr is ↦ let d = decided v is.0 in may_be v is.1 (asked d.0 v d.1) (noted d.0 v d.1)
        ];
        guarded = λ before action rest is counted. follows before rest action is counted;
      }

      -- a prefix of it, whose replay the whole order's continues
      pub is_prefix_order : (done rest : List Action) → order ≡ done ++ rest
          → replay_of next answers begin (done ++ rest) ≡ replay_from next answers (replay_of next answers begin done) rest
          → GoesOn (replay_of next answers begin done) (replay_from next answers (replay_of next answers begin done) rest)
          → IsOrderOf next answers begin guards may done
      is_prefix_order done rest is joined on = record {
        right = λ v h. is_order.right v (subst (λ (xs : List Action). Has v xs) (sym is) (has_left v done rest h));
        among = λ v h.
            let further : Has v (replay_from next answers (replay_of next answers begin done) rest).kept =
            subst (λ (xs : List Action). Has v xs) (sym on.kept) (has_left v (replay_of next answers begin done).kept on.further h) in
            let whole : replay_of next answers begin order ≡ replay_from next answers (replay_of next answers begin done) rest =
            ap (replay_of next answers begin) is ∙ joined in
            is_order.among v (subst (λ (r : Replayed S). Has v r.kept) (sym whole) further);
        guarded = λ before action more occurs counted.
            let longer : order ≡ before ++ action ∷ (more ++ rest) = is ∙ ap (λ (xs : List Action). xs ++ rest) occurs ∙ append_assoc before (action ∷ more) rest in
            follows before (more ++ rest) action longer counted;
      }
