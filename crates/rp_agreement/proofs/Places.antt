-- The first occurrence of a call in the order is its place: there it counts.
use Rattle.std.proofs.Common.{◌≡◌, ℕ, zero, suc, ◌<◌, ◌≤◌, Bool, true, Some, None, List, [], ◌∷◌, ◌++◌, length, map, take, drop, ◌⊎◌, inl, inr, refl, sym, ap, subst, ◌∙◌, arith}
use Rattle.std.specs.Prelude.{nat_eq, slice_get, ◌&&◌}
use Rattle.std.specs.List.{list_all}
use Rattle.std.specs.Cmp.Lexicographic.{pointwise, bytes_decides}
use Rattle.std.proofs.lemmas.Bool.{cases_Bool, cases_eq, cond-true, cond-false, and_from, or_left, or_right, eqb-true, eq-eqb}
use Rattle.std.proofs.lemmas.Bool.Decides.{leb_tells}
use Rattle.std.proofs.lemmas.List.{take-append-drop}
use Rattle.rp_base.specs.declared.action.Action.{Action}
use Rattle.rp_base.specs.declared.action.Action.TheVariants as actions
use Rattle.rp_base.specs.declared.reply.Answer.{Answer}
use Rattle.rp_base.specs.Action.{IsRight}
use Rattle.rp_base.specs.Sets.{Has}
use Rattle.rp_base.proofs.Members.{has_split, has_left, has_mapped, mapped_has}
use Rattle.rp_machine.specs.Calls.{CallName, calls_of, calls_made, call_of}
use Rattle.rp_machine.specs.Replay.{number_for, one_to, is_for, numbers_of, is_next_number, is_answered, all_answered, counts, Replayed, unmoved, replay_step, replay_from, counted_of}
use Rattle.rp_machine.specs.Asked.{last_number}
use Rattle.rp_machine.proofs.Calling.{made_number, one_to_bound}
use Rattle.rp_machine.proofs.Numbering.{IsCounted, counted}
use Rattle.rp_machine.specs.Places.{IsPlace}
use Rattle.rp_model.specs.Effect.{Setting}
use Rattle.rp_model.specs.Parts.{NodePart}
use Rattle.rp_model.specs.Parts.{TaskPart}
use Rattle.rp_codec.specs.Message.{Message}
use Rattle.rp_agreement.specs.Order.{IsPrefix}
use Rattle.rp_agreement.specs.Computed.{order_of}
use Rattle.rp_agreement.specs.Answered.{answers_of, named, calls_so_far, Occurs, IsKept}
use Rattle.rp_agreement.proofs.Lists.{some_same, has_picked}
use Rattle.rp_agreement.proofs.PartPlaces.{part_has}
use Rattle.rp_agreement.proofs.Lists.{one_to_has}
use Rattle.rp_agreement.proofs.TaskReplies.{most_calls}
use Rattle.rp_agreement.proofs.Made.{asks_in_turn}
use Rattle.rp_agreement.proofs.TaskKeeping.{asked_in_order}
use Rattle.rp_agreement.proofs.AnswersGrow.{answers_grow}

-- ---- lists

get_left : {A : Type 0} (xs ys : List A) (k : ℕ) → k < length xs → slice_get (xs ++ ys) k ≡ slice_get xs k
get_left [] ys k below = absurd (omega (arith, below))
get_left (x ∷ xs) ys zero below = refl
get_left (x ∷ xs) ys (suc k) below = get_left xs ys k (omega (arith, below))

taken_has : {A : Type 0} (k : ℕ) (x : A) (xs : List A) → Has x (take k xs) → Has x xs
taken_has {A} k x xs h = subst (λ (list : List A). Has x list) (take-append-drop k xs) (has_left x (take k xs) (drop k xs) h)

-- a beginning no longer than k begins the first k
begins_take : {A : Type 0} (before rest : List A) (k : ℕ) → length before ≤ k → IsPrefix before (take k (before ++ rest))
begins_take [] rest k short = (take k rest, refl)
begins_take (x ∷ xs) rest zero short = absurd (omega (arith, short))
begins_take (x ∷ xs) rest (suc k) short =
    let later = begins_take xs rest k (omega (arith, short)) in
    (later.0, ap (λ (list : List _). x ∷ list) later.1)

-- an item is between what is before it and what is after it
split_at : {A : Type 0} (xs : List A) (k : ℕ) (x : A) → slice_get xs k ≡ Some x → (xs ≡ take k xs ++ x ∷ drop (suc k) xs) × (length (take k xs) ≡ k)
split_at [] k x is = absurd (cc)
split_at {A} (y ∷ xs) zero x is = (ap (λ (z : A). z ∷ xs) (some_same is), refl)
split_at {A} (y ∷ xs) (suc k) x is =
    let later = split_at xs k x is in
    (ap (λ (list : List A). y ∷ list) later.0, ap suc later.1)

all_pass : (test : ℕ → Bool) (xs : List ℕ) → ((x : ℕ) → Has x xs → test x ≡ true) → list_all test xs ≡ true
all_pass test [] each = refl
all_pass test (x ∷ xs) each = and_from (test x) (list_all test xs) (each x (inl refl)) (all_pass test xs (λ y h. each y (inr h)))

-- ---- calls and their numbers

abbrev first_or : CallName → List CallName → CallName
first_or call [] = call
first_or call (first ∷ rest) = first

pub same_name : {a b c d : ℕ} → named a b ≡ named c d → (a ≡ c) × (b ≡ d)
same_name e = (ap (λ (call : CallName). call.task) e, ap (λ (call : CallName). call.number) e)

pub first_call : {call other : CallName} → call ∷ [] ≡ other ∷ [] → call ≡ other
first_call {call} {other} e = ap (first_or call) e

answer_for : (t j : ℕ) (answer : Answer) → named t j ≡ call_of answer → is_for t j answer ≡ true
answer_for t j answer e =
    and_from (nat_eq answer.task t) (nat_eq answer.number j) (eq-eqb answer.task t (ap (λ (call : CallName). call.task) (sym e))) (eq-eqb answer.number j (ap (λ (call : CallName). call.number) (sym e)))

tested_answer : (given : List Answer) (t j : ℕ) (answer : Answer) → Has answer given → is_for t j answer ≡ true → is_answered given t j ≡ true
tested_answer [] t j answer h e = absurd h
tested_answer (first ∷ rest) t j answer h e =
    elim h [
      | inl same ↦ or_left (is_for t j first) (is_answered rest t j) (subst (λ (a : Answer). is_for t j a ≡ true) same e)
      | inr later ↦ or_right (is_for t j first) (is_answered rest t j) (tested_answer rest t j answer later e)
    ]

-- a call that is answered is so by the test
answered_so : (given : List Answer) (t j : ℕ) → Has (named t j) (map call_of given) → is_answered given t j ≡ true
answered_so given t j h = let hit = mapped_has call_of (named t j) given h in tested_answer given t j hit.0 hit.1 (answer_for t j hit.0 hit.2)

pub number_is : (t j : ℕ) (action : Action) → number_for t action ≡ Some j → Has (named t j) (calls_of action)
number_is t j actions.Noop e = absurd (cc)
number_is t j (actions.Call caller number object operation arg) e =
    elim (cases_Bool (nat_eq caller t)) [
      | inl hit ↦
          let number_same : number ≡ j = some_same (sym (cond-true (nat_eq caller t) (Some number) None hit) ∙ e) in
          let task_same : caller ≡ t = eqb-true caller t hit in
          inl (λ i. record { task = sym task_same i; number = sym number_same i })
      | inr miss ↦ let none : None ≡ Some j = sym (cond-false (nat_eq caller t) (Some number) None miss) ∙ e in absurd (cc)
    ]
number_is t j (actions.Interrupt source occurrence) e = absurd (cc)
number_is t j (actions.Tick now) e = absurd (cc)

-- a number of the task's is one of a call that occurs
number_occurs : (t j : ℕ) (kept : List Action) → Has j (numbers_of t kept) → Occurs (named t j) kept
number_occurs t j kept h = let picked = has_picked (number_for t) j kept h in (picked.0, picked.1, number_is t j picked.0 picked.2)

-- ---- the result of a log

module _ {S : Type 0} (s : Setting S) where
  kept_if : (r : Replayed S) (action other : Action) → Has other (replay_step s.next s.answers r action).kept → Has other r.kept ⊎ (other ≡ action)
  kept_if r action other h =
      let more : Replayed S = record { state = s.next r.state action; kept = r.kept ++ action ∷ []; given = r.given ++ s.answers r.state action } in
      elim (cases_Bool (counts r.kept r.given action)) [
        | inl hit ↦ elim (has_split other r.kept (action ∷ []) (subst (λ (u : Replayed S). Has other u.kept) (cond-true (counts r.kept r.given action) more r hit) h)) [
          | inl before ↦ inl before
          | inr last ↦ elim last [ inl same ↦ inr same | inr none ↦ absurd none ]
        ]
        | inr miss ↦ inl (subst (λ (u : Replayed S). Has other u.kept) (cond-false (counts r.kept r.given action) more r miss) h)
      ]

  -- what counted is in the log
  pub kept_from : (r : Replayed S) (xs : List Action) (other : Action) → Has other (replay_from s.next s.answers r xs).kept → Has other r.kept ⊎ Has other xs
  kept_from r [] other h = inl h
  kept_from r (x ∷ xs) other h =
      elim (kept_from (replay_step s.next s.answers r x) xs other h) [
        | inr later ↦ inr (inr later)
        | inl before ↦ elim (kept_if r x other before) [ inl old ↦ inl old | inr same ↦ inr (inl same) ]
      ]

  kept_occurs : (xs : List Action) (call : CallName) → Occurs call (counted_of s.next s.answers s.begin xs) → Occurs call xs
  kept_occurs xs call occurs =
      elim (kept_from (unmoved s.begin) xs occurs.0 occurs.1) [
        | inl none ↦ absurd none
        | inr there ↦ (occurs.0, there, occurs.2)
      ]

  answered_more : (xs ys : List Action) → IsPrefix xs ys → (call : CallName) → Has call (map call_of (answers_of s xs)) → Has call (map call_of (answers_of s ys))
  answered_more xs ys begins call h =
      let hit = mapped_has call_of call (answers_of s xs) h in
      subst (λ (c : CallName). Has c (map call_of (answers_of s ys))) (sym hit.2) (has_mapped call_of hit.0 (answers_of s ys) (answers_grow s xs ys begins hit.0 hit.1))

  -- only calls that counted are answered, in a log of right actions
  abbrev pub AnswersKnown : Type 0
  AnswersKnown = (xs : List Action) → ((action : Action) → Has action xs → IsRight action) → (call : CallName) → Has call (map call_of (answers_of s xs)) → Has call (calls_made (counted_of s.next s.answers s.begin xs))

  -- ---- where the calls below m + 1 are answered, and that one does not occur

  module _ (known : AnswersKnown) (xs : List Action) (right : (action : Action) → Has action xs → IsRight action) (t m : ℕ)
      (absent : ¬ Occurs (named t (suc m)) xs) (answered : (m ≡ 0) ⊎ Has (named t m) (map call_of (answers_of s xs))) where
    abbrev kept : List Action
    kept = counted_of s.next s.answers s.begin xs

    abbrev given : List Answer
    given = answers_of s xs

    fine : IsCounted kept given
    fine = counted s.next s.answers s.begin xs

    not_more : last_number t kept ≤ m
    not_more =
        elim (leb_tells (last_number t kept) m) [
          | inl low ↦ low.1
          | inr high ↦
              let above : m < last_number t kept = high.1 in
              let there = one_to_has (last_number t kept) (suc m) (omega arith) (omega (arith, above)) in
              absurd (absent (kept_occurs xs (named t (suc m)) (number_occurs t (suc m) kept (subst (λ (list : List ℕ). Has (suc m) list) (sym (fine.numbered t)) there))))
        ]

    not_less : m ≤ last_number t kept
    not_less =
        elim answered [
          | inl none ↦ omega (arith, none)
          | inr stated ↦
              let numbered = made_number (named t m) kept (known xs right (named t m) stated) in
              one_to_bound (last_number t kept) m (subst (λ (list : List ℕ). Has m list) (fine.numbered t) numbered)
        ]

    last_is : last_number t kept ≡ m
    last_is = let low = not_more in let high = not_less in omega (arith, low, high)

    numbers_are : numbers_of t kept ≡ one_to m
    numbers_are = fine.numbered t ∙ ap one_to last_is

    each_answered : (j : ℕ) → Has j (numbers_of t kept) → is_answered given t j ≡ true
    each_answered j h =
        let here : Has j (one_to m) = subst (λ (list : List ℕ). Has j list) numbers_are h in
        let bound : j ≤ m = one_to_bound m j here in
        elim (cases_eq j m) [
          | inl same ↦ elim answered [
            | inl none ↦ absurd (subst (λ (n : ℕ). Has j (one_to n)) none here)
            | inr stated ↦ subst (λ (n : ℕ). is_answered given t n ≡ true) (sym same) (answered_so given t m stated)
          ]
          | inr other ↦ let last : last_number t kept ≡ m = last_is in fine.earlier t j h (omega (arith, bound, other, last))
        ]

    next_is : is_next_number kept t (suc m) ≡ true
    next_is = subst (λ (numbers : List ℕ). pointwise nat_eq (one_to (suc m)) (numbers ++ suc m ∷ []) ≡ true) (sym numbers_are) ((bytes_decides (one_to (suc m)) (one_to m ++ suc m ∷ [])).1 refl)

    -- so the next call counts
    pub next_counts : (action : Action) → calls_of action ≡ named t (suc m) ∷ [] → counts kept given action ≡ true
    next_counts actions.Noop is = absurd (cc)
    next_counts (actions.Call task number object operation arg) is =
        let same = same_name (first_call is) in
        subst (λ (u : ℕ). (is_next_number kept u number && all_answered kept given u) ≡ true) (sym same.0)
        (subst (λ (n : ℕ). (is_next_number kept t n && all_answered kept given t) ≡ true) (sym same.1)
        (and_from (is_next_number kept t (suc m)) (all_answered kept given t) next_is (all_pass (is_answered given t) (numbers_of t kept) each_answered)))
    next_counts (actions.Interrupt source occurrence) is = absurd (cc)
    next_counts (actions.Tick now) is = absurd (cc)

  -- ---- in the order

  -- a call counts where it first occurs
  pub first_counts : (node : ℕ → NodePart) (task : ℕ → TaskPart) (sent : List Message) → IsKept s node task sent → AnswersKnown
      → (let order = order_of s.config.nodes sent in (t m k : ℕ) (action : Action) → slice_get order k ≡ Some action → calls_of action ≡ named t (suc m) ∷ []
      → ¬ Occurs (named t (suc m)) (take k order)
      → counts (counted_of s.next s.answers s.begin (take k order)) (answers_of s (take k order)) action ≡ true)
  first_counts node task sent kept known t m k action occurs is first =
      let order = order_of s.config.nodes sent in
      let here : Has action order = part_has order (suc k) action occurs in
      let of_it : Has (named t (suc m)) (calls_of action) = subst (λ (calls : List CallName). Has (named t (suc m)) calls) (sym is) (inl refl) in
      let asked = asked_in_order s node sent kept.sound action here in
      let so_far : suc m ≤ calls_so_far (task t) = asks_in_turn sent t (task t) (kept.made t).0 (kept.made t).1 action (asked.asked (named t (suc m)) of_it) (named t (suc m)) of_it in
      let most : calls_so_far (task t) ≤ suc (length (task t).replies) = most_calls (task t).outstanding (length (task t).replies) in
      let ready = kept.ready t m (omega (arith, so_far, most)) in
      let right = λ (other : Action) (h : Has other (take k order)). (asked_in_order s node sent kept.sound other (taken_has k other order h)).right in
      let short : length ready.before ≤ k = elim (leb_tells (length ready.before) k) [
        | inl low ↦ low.1
        | inr high ↦
            let inside : slice_get ready.before k ≡ Some action = sym (get_left ready.before ready.begins.0 k high.1) ∙ ap (λ (list : List Action). slice_get list k) (sym ready.begins.1) ∙ occurs in
            absurd (ready.absent (action, part_has ready.before (suc k) action inside, of_it))
      ] in
      let begins : IsPrefix ready.before (take k order) = subst (λ (list : List Action). IsPrefix ready.before (take k list)) (sym ready.begins.1) (begins_take ready.before ready.begins.0 k short) in
      let answered : (m ≡ 0) ⊎ Has (named t m) (map call_of (answers_of s (take k order))) = elim ready.answered [
        | inl none ↦ inl none
        | inr stated ↦ inr (answered_more ready.before (take k order) begins (named t m) stated)
      ] in
      next_counts known (take k order) right t m first answered action is

  -- a right call's number is 1 or more
  positive : (action : Action) (t n : ℕ) → IsRight action → calls_of action ≡ named t n ∷ [] → 1 ≤ n
  positive actions.Noop t n right is = absurd (cc)
  positive (actions.Call task number object operation arg) t n right is = subst (λ (m : ℕ). 1 ≤ m) (same_name (first_call is)).1 right.1.0
  positive (actions.Interrupt source occurrence) t n right is = absurd (cc)
  positive (actions.Tick now) t n right is = absurd (cc)

  -- that is its place
  pub first_is_place : (node : ℕ → NodePart) (task : ℕ → TaskPart) (sent : List Message) → IsKept s node task sent → AnswersKnown
      → (let order = order_of s.config.nodes sent in (t n k : ℕ) (action : Action) → slice_get order k ≡ Some action → calls_of action ≡ named t n ∷ []
      → ¬ Occurs (named t n) (take k order)
      → IsPlace s.next s.answers s.begin order (named t n) (suc k))
  first_is_place node task sent kept known t zero k action occurs is first =
      let here : Has action (order_of s.config.nodes sent) = part_has (order_of s.config.nodes sent) (suc k) action occurs in
      let low : 1 ≤ 0 = positive action t 0 (asked_in_order s node sent kept.sound action here).right is in
      absurd (omega (arith, low))
  first_is_place node task sent kept known t (suc m) k action occurs is first =
      let order = order_of s.config.nodes sent in
      let split = split_at order k action occurs in
      record {
        before = take k order;
        action = action;
        following = drop (suc k) order;
        occurs = split.0;
        here = ap suc (sym split.1);
        is_call = is;
        takes_effect = first_counts node task sent kept known t m k action occurs is first;
      }
