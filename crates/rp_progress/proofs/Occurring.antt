-- The calls that occur in what a node has applied: which they are, and that one counts where it first
-- occurs.
use Rattle.std.proofs.Common.{◌≡◌, ◌≢◌, ℕ, zero, suc, ◌<◌, ◌≤◌, true, false, ◌⊎◌, Option, Some, None, List, [], ◌∷◌, ◌++◌, length, map, take, drop, inl, inr, refl, sym, ap, subst, ◌∙◌, arith, lt-ltb, le-ltb}
use Rattle.std.specs.Prelude.{ℤ, slice_get, nat_lt, find, unwrap_or}
use Rattle.std.proofs.lemmas.Bool.{cases_eq, cond-true}
use Rattle.std.proofs.lemmas.List.{take-append-le}
use Rattle.std.proofs.lemmas.Option.{slice_get_within}
use Rattle.rp_base.specs.Action.{IsRight}
use Rattle.rp_base.specs.Number.{greatest}
use Rattle.rp_base.specs.Records.{applied_of}
use Rattle.rp_base.specs.Sets.{Has}
use Rattle.rp_base.specs.declared.action.Action.{Action}
use Rattle.rp_base.specs.declared.action.Action.TheVariants as actions
use Rattle.rp_base.specs.declared.action.Operation.{Operation}
use Rattle.rp_base.specs.declared.reply.Answer.{Answer}
use Rattle.rp_base.proofs.Members.{has_left, has_mapped}
use Rattle.rp_codec.specs.Message.{Message}
use Rattle.rp_machine.specs.Asked.{last_number, answer_to}
use Rattle.rp_machine.specs.Calls.{CallName, calls_of, call_of}
use Rattle.rp_machine.specs.Places.{counts_after, IsPlace, IsAnswerOf}
use Rattle.rp_machine.specs.Replay.{number_for, numbers_of, is_for, unmoved, counted_of}
use Rattle.rp_machine.proofs.Calling.{made_number}
use Rattle.rp_model.specs.Effect.{Setting}
use Rattle.rp_model.specs.Parts.{NodePart, TaskPart}
use Rattle.rp_model.specs.Pending.{own_action, is_free_item}
use Rattle.rp_agreement.specs.Answered.{answers_of, named, calls_so_far, Occurs, IsKept}
use Rattle.rp_agreement.specs.Asked.{IsAsked}
use Rattle.rp_agreement.specs.Computed.{order_of}
use Rattle.rp_agreement.specs.Order.{IsPrefix}
use Rattle.rp_agreement.proofs.AnswerAgain.{call_is, finds_one, is_for_call}
use Rattle.rp_agreement.proofs.AnswersGrow.{applied_begins}
use Rattle.rp_agreement.proofs.Lists.{found_has, has_picked}
use Rattle.rp_agreement.proofs.Made.{asks_in_turn}
use Rattle.rp_agreement.proofs.Places.{AnswersKnown, first_counts, kept_from, number_is}
use Rattle.rp_agreement.proofs.TaskKeeping.{asked_in_order}

-- ---- lists

get_in_front : {A : Type 0} (xs ys : List A) (k : ℕ) (x : A) → slice_get xs k ≡ Some x → slice_get (xs ++ ys) k ≡ Some x
get_in_front [] ys k x is = absurd (cc)
get_in_front (y ∷ xs) ys zero x is = is
get_in_front (y ∷ xs) ys (suc k) x is = get_in_front xs ys k x is

split_here : {A : Type 0} (xs : List A) (k : ℕ) (x : A) → slice_get xs k ≡ Some x → (xs ≡ take k xs ++ x ∷ drop (suc k) xs) × (length (take k xs) ≡ k)
split_here [] k x is = absurd (cc)
split_here {A} (y ∷ xs) zero x is = (ap (λ (o : Option A). unwrap_or o y ∷ xs) is, refl)
split_here {A} (y ∷ xs) (suc k) x is =
    let later = split_here xs k x is in
    (ap (λ (list : List A). y ∷ list) later.0, ap suc later.1)

greatest_most : (m : ℕ) (xs : List ℕ) → ((n : ℕ) → Has n xs → n ≤ m) → greatest xs ≤ m
greatest_most m [] each = omega arith
greatest_most m (x ∷ xs) each =
    let here : x ≤ m = each x (inl refl) in
    let rest : greatest xs ≤ m = greatest_most m xs (λ n h. each n (inr h)) in
    omega (arith, here, rest)

greatest_least : (n : ℕ) (xs : List ℕ) → Has n xs → n ≤ greatest xs
greatest_least n [] h = absurd h
greatest_least n (x ∷ xs) h =
    elim h [
      | inl same ↦ omega (arith, same)
      | inr later ↦ let rest : n ≤ greatest xs = greatest_least n xs later in omega (arith, rest)
    ]

-- ---- where a call first occurs

pub record OccursFirst (call : CallName) (xs : List Action) : Type 0 where
  pub index : ℕ
  pub action : Action
  pub here : slice_get xs index ≡ Some action
  pub is_call : calls_of action ≡ call ∷ []
  pub first : ¬ Occurs call (take index xs)

is_call_or_not : (t n : ℕ) (action : Action) → (calls_of action ≡ named t n ∷ []) ⊎ (¬ Has (named t n) (calls_of action))
is_call_or_not t n actions.Noop = inr (λ h. h)
is_call_or_not t n (actions.Call a b object operation arg) =
    elim (cases_eq a t) [
      | inr other ↦ inr (λ h. elim h [ inl same ↦ other (sym (ap (λ (call : CallName). call.task) same)) | inr none ↦ none ])
      | inl task ↦ elim (cases_eq b n) [
        | inr other ↦ inr (λ h. elim h [ inl same ↦ other (sym (ap (λ (call : CallName). call.number) same)) | inr none ↦ none ])
        | inl number ↦ inl (ap (λ (u : ℕ). named u b ∷ []) task ∙ ap (λ (m : ℕ). named t m ∷ []) number)
      ]
    ]
is_call_or_not t n (actions.Interrupt source occurrence) = inr (λ h. h)
is_call_or_not t n (actions.Tick now) = inr (λ h. h)

pub occurs_or_not : (t n : ℕ) (xs : List Action) → (¬ Occurs (named t n) xs) ⊎ OccursFirst (named t n) xs
occurs_or_not t n [] = inl (λ occurs. occurs.1)
occurs_or_not t n (x ∷ xs) =
    elim (is_call_or_not t n x) [
      | inl is ↦ inr (record { index = 0; action = x; here = refl; is_call = is; first = λ occurs. occurs.1 })
      | inr other ↦ elim (occurs_or_not t n xs) [
        | inl none ↦ inl (λ occurs. elim occurs.1 [
          | inl same ↦ other (subst (λ (a : Action). Has (named t n) (calls_of a)) same occurs.2)
          | inr later ↦ none (occurs.0, later, occurs.2)
        ])
        | inr rest ↦ inr (record {
          index = suc rest.index;
          action = rest.action;
          here = rest.here;
          is_call = rest.is_call;
          first = λ occurs. elim occurs.1 [
            | inl same ↦ other (subst (λ (a : Action). Has (named t n) (calls_of a)) same occurs.2)
            | inr later ↦ rest.first (occurs.0, later, occurs.2)
          ];
        })
      ]
    ]

-- ---- what a node has applied

module _ {S : Type 0} (s : Setting S) (node : ℕ → NodePart) (task : ℕ → TaskPart) (sent : List Message) (kept : IsKept s node task sent) (known : AnswersKnown s) (x : ℕ) where
  abbrev applied : List Action
  applied = applied_of (node x).records

  abbrev counted : List Action
  counted = counted_of s.next s.answers s.begin applied

  abbrev given : List Answer
  given = answers_of s applied

  begins : IsPrefix applied (order_of s.config.nodes sent)
  begins = applied_begins s.config.nodes node sent kept.sound x

  asked : (action : Action) → Has action applied → IsAsked sent action
  asked action h = asked_in_order s node sent kept.sound action (subst (λ (list : List Action). Has action list) (sym begins.1) (has_left action applied begins.0 h))

  pub all_right : (action : Action) → Has action applied → IsRight action
  all_right action h = (asked action h).right

  -- no call occurs that its task did not make
  occurs_made : (t n : ℕ) → Occurs (named t n) applied → n ≤ calls_so_far (task t)
  occurs_made t n occurs =
      asks_in_turn sent t (task t) (kept.made t).0 (kept.made t).1 occurs.0 ((asked occurs.0 occurs.1).asked (named t n) occurs.2) (named t n) occurs.2

  counted_occurs : (t n : ℕ) → Has n (numbers_of t counted) → Occurs (named t n) applied
  counted_occurs t n h =
      let picked = has_picked (number_for t) n counted h in
      elim (kept_from s (unmoved s.begin) applied picked.0 picked.1) [
        | inl none ↦ absurd none
        | inr there ↦ (picked.0, there, number_is t n picked.0 picked.2)
      ]

  -- an answered call counted
  answered_counted : (t n : ℕ) (answer : Answer) → IsAnswerOf s.next s.answers s.begin applied (named t n) answer → Has n (numbers_of t counted)
  answered_counted t n answer is =
      let stated : Has (named t n) (map call_of given) = subst (λ (call : CallName). Has call (map call_of given)) is.0 (has_mapped call_of answer given is.1) in
      made_number (named t n) counted (known applied all_right (named t n) stated)

  pub answered_occurs : (t n : ℕ) (answer : Answer) → IsAnswerOf s.next s.answers s.begin applied (named t n) answer → Occurs (named t n) applied
  answered_occurs t n answer is = counted_occurs t n (answered_counted t n answer is)

  -- a call counts where it first occurs
  pub first_is_place : (t m : ℕ) (first : OccursFirst (named t (suc m)) applied) → IsPlace s.next s.answers s.begin applied (named t (suc m)) (suc first.index)
  first_is_place t m first =
      let order = order_of s.config.nodes sent in
      let k = first.index in
      let within : k < length applied = slice_get_within applied k first.action first.here in
      let whole : order ≡ applied ++ begins.0 = begins.1 in
      let here : slice_get order k ≡ Some first.action = ap (λ (list : List Action). slice_get list k) whole ∙ get_in_front applied begins.0 k first.action first.here in
      let same : take k order ≡ take k applied = ap (λ (list : List Action). take k list) whole ∙ take-append-le k applied begins.0 (omega (arith, within)) in
      let none : ¬ Occurs (named t (suc m)) (take k order) = subst (λ (list : List Action). ¬ Occurs (named t (suc m)) list) (sym same) first.first in
      let effect = first_counts s node task sent kept known t m k first.action here first.is_call none in
      let split = split_here applied k first.action first.here in
      record {
        before = take k applied;
        action = first.action;
        following = drop (suc k) applied;
        occurs = split.0;
        here = ap suc (sym split.1);
        is_call = first.is_call;
        takes_effect = subst (λ (list : List Action). counts_after s.next s.answers s.begin list first.action ≡ true) same effect;
      }

  -- ---- the call that a task waits for

  module _ (t m : ℕ) (so_far : calls_so_far (task t) ≤ suc m) where
    last_at_most : last_number t counted ≤ suc m
    last_at_most = greatest_most (suc m) (numbers_of t counted) (λ n h. let low : n ≤ calls_so_far (task t) = occurs_made t n (counted_occurs t n h) in omega (arith, low, so_far))

    -- where it is answered it is the task's last call that counted
    pub answered_last : (answer : Answer) → IsAnswerOf s.next s.answers s.begin applied (named t (suc m)) answer → last_number t counted ≡ suc m
    answered_last answer is =
        let high = last_at_most in
        let low : suc m ≤ last_number t counted = greatest_least (suc m) (numbers_of t counted) (answered_counted t (suc m) answer is) in
        omega (arith, high, low)

    pub not_above : nat_lt (suc m) (last_number t counted) ≡ false
    not_above = le-ltb (suc m) (last_number t counted) last_at_most

    module _ (none : ¬ Occurs (named t (suc m)) applied) where
      last_below : last_number t counted ≤ m
      last_below = greatest_most m (numbers_of t counted) (λ n h.
          let low : n ≤ calls_so_far (task t) = occurs_made t n (counted_occurs t n h) in
          let other : n ≢ suc m = λ same. none (subst (λ (k : ℕ). Occurs (named t k) applied) same (counted_occurs t n h)) in
          omega (arith, low, so_far, other))

      pub unanswered : answer_to t (suc m) given ≡ None
      unanswered = by (answer_to t (suc m) given) refl
        where
          by : (o : Option Answer) → answer_to t (suc m) given ≡ o → answer_to t (suc m) given ≡ None
          by None is = is
          by (Some answer) is =
              let found = found_has (is_for t (suc m)) answer given is in
              absurd (none (answered_occurs t (suc m) answer (call_is t (suc m) answer found.1, found.0)))

      -- a leader takes it as its own action
      pub own_is_it : (object : ℕ) (operation : Operation) (arg : ℤ)
          → own_action counted [] (actions.Call t (suc m) object operation arg ∷ []) ≡ actions.Call t (suc m) object operation arg
      own_is_it object operation arg =
          let call = actions.Call t (suc m) object operation arg in
          let below : last_number t counted ≤ m = last_below in
          let hit : nat_lt (last_number t counted) (suc m) ≡ true = lt-ltb (last_number t counted) (suc m) (omega (arith, below)) in
          ap (λ (o : Option Action). unwrap_or o actions.Noop) (cond-true (is_free_item counted [] call) (Some call) (find (is_free_item counted []) []) hit)

  -- what is not found is not given
  pub not_given : (t n : ℕ) → answer_to t n given ≡ None → (answer : Answer) → ¬ IsAnswerOf s.next s.answers s.begin applied (named t n) answer
  not_given t n none answer is =
      let hit = finds_one (is_for t n) answer given is.1 (is_for_call t n answer is.0) in
      absurd (let e : None ≡ Some hit.0 = sym none ∙ hit.1 in cc)
