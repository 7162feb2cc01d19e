-- The calls of a task that count in the order are those that it made, in order.
use Rattle.std.proofs.Common.{◌≡◌, ◌⊎◌, ℕ, zero, suc, ◌+◌, ◌≤◌, ◌<◌, Bool, true, Option, Some, None, List, [], ◌∷◌, ◌++◌, length, map, if◌then◌else◌, inl, inr, refl, sym, ap, subst, ◌∙◌, arith}
use Rattle.std.specs.Prelude.{nat_eq, is_some, slice_get}
use Rattle.std.specs.List.{cons_option}
use Rattle.std.proofs.lemmas.Bool.{cases_Bool, eqb-true}
use Rattle.std.proofs.lemmas.List.{append-nil, length-append, length-map}
use Rattle.rp_base.specs.declared.action.Action.{Action}
use Rattle.rp_base.specs.declared.action.Action.TheVariants as actions
use Rattle.rp_base.specs.Sets.{Has}
use Rattle.rp_base.proofs.Members.{has_split, has_passing}
use Rattle.rp_codec.specs.Message.{Message}
use Rattle.rp_machine.specs.Calls.{CallName, calls_of}
use Rattle.rp_machine.specs.Replay.{number_for, numbers_of, one_to, unmoved, counted_of}
use Rattle.rp_machine.specs.Asked.{last_number}
use Rattle.rp_machine.proofs.Calling.{made_number, one_to_bound}
use Rattle.rp_machine.proofs.Numbering.{length-one_to, counted}
use Rattle.rp_model.specs.Effect.{Setting}
use Rattle.rp_model.specs.Parts.{NodePart, TaskPart}
use Rattle.rp_agreement.specs.Order.{IsPrefix}
use Rattle.rp_agreement.specs.Computed.{order_of}
use Rattle.rp_agreement.specs.Answered.{answers_of, named, calls_so_far, calls_by, AreMade, AreItsCalls, IsKept}
use Rattle.rp_agreement.proofs.Lists.{get_mapped, get_unmapped, get_one_to}
use Rattle.rp_agreement.proofs.TaskKeeping.{asked_in_order}
use Rattle.rp_agreement.proofs.TaskReplies.{last_replied, most_calls}
use Rattle.rp_agreement.proofs.Places.{AnswersKnown, kept_from, number_is, same_name, first_call}

-- ---- calls that are numbered on from a number

abbrev pub AreNumbered : ℕ → ℕ → List Action → Type 0
AreNumbered t k [] = Unit {0}
AreNumbered t k (action ∷ rest) = (calls_of action ≡ named t (suc k) ∷ []) × AreNumbered t (suc k) rest

by_places : (t k : ℕ) (xs : List Action) → ((j : ℕ) (x : Action) → slice_get xs j ≡ Some x → calls_of x ≡ named t (suc (k + j)) ∷ []) → AreNumbered t k xs
by_places t k [] each = tt
by_places t k (x ∷ xs) each = (
  each 0 x refl ∙ ap (λ (n : ℕ). named t (suc n) ∷ []) (let e : k + 0 ≡ k = omega arith in e),
  by_places t (suc k) xs (λ j y is. each (suc j) y is ∙ ap (λ (n : ℕ). named t (suc n) ∷ []) (let e : k + suc j ≡ suc k + j = omega arith in e)),
)

-- where the names are those from 1 on, the calls are numbered from 1 on
pub from_one : (t n : ℕ) (xs : List Action) → map calls_of xs ≡ map (λ k. named t k ∷ []) (one_to n) → AreNumbered t 0 xs
from_one t n xs names = by_places t 0 xs (λ j x is.
    let here : slice_get (map (λ k. named t k ∷ []) (one_to n)) j ≡ Some (calls_of x) = subst (λ (all : List (List CallName)). slice_get all j ≡ Some (calls_of x)) names (get_mapped calls_of xs j x is) in
    let hit = get_unmapped (λ (k : ℕ). named t k ∷ []) (one_to n) j (calls_of x) here in
    hit.2 ∙ ap (λ (k : ℕ). named t k ∷ []) (get_one_to n j hit.0 hit.1 ∙ (let e : suc j ≡ suc (0 + j) = omega arith in e)))

pub as_many : (t n : ℕ) (xs : List Action) → map calls_of xs ≡ map (λ k. named t k ∷ []) (one_to n) → length xs ≡ n
as_many t n xs names =
    sym (length-map xs calls_of) ∙ ap (λ (all : List (List CallName)). length all) names ∙ length-map (one_to n) (λ k. named t k ∷ []) ∙ length-one_to n

above : (t k n : ℕ) (xs : List Action) (x : Action) → AreNumbered t k xs → Has x xs → calls_of x ≡ named t n ∷ [] → k < n
above t k n [] x are h is = absurd h
above t k n (y ∷ ys) x are h is =
    elim h [
      | inl same ↦ let number : n ≡ suc k = (same_name (first_call (sym is ∙ ap calls_of same ∙ are.0))).1 in omega (arith, number)
      | inr later ↦ let more = above t (suc k) n ys x are.1 later is in omega (arith, more)
    ]

-- the number of a member
pub number_at : (t k : ℕ) (xs : List Action) (x : Action) → AreNumbered t k xs → Has x xs → (n : ℕ) × (calls_of x ≡ named t n ∷ []) × (k < n) × (n ≤ k + length xs)
number_at t k [] x are h = absurd h
number_at t k (y ∷ ys) x are h =
    elim h [
      | inl same ↦ (suc k, ap calls_of same ∙ are.0, omega arith, omega arith)
      | inr later ↦ let rest = number_at t (suc k) ys x are.1 later in (rest.0, rest.1, omega (arith, rest.2), omega (arith, rest.3))
    ]

-- of two lists numbered alike the one is a prefix of the other, if all of it is in the other
begins_all : (t k : ℕ) (xs ys : List Action) → AreNumbered t k xs → AreNumbered t k ys → ((x : Action) → Has x xs → Has x ys) → IsPrefix xs ys
begins_all t k [] ys are other inside = (ys, refl)
begins_all t k (x ∷ xs) [] are other inside = absurd (inside x (inl refl))
begins_all t k (x ∷ xs) (y ∷ ys) are other inside =
    let first : x ≡ y = elim (inside x (inl refl)) [
      | inl same ↦ same
      | inr later ↦ let low = above t (suc k) (suc k) ys x other.1 later are.0 in absurd (omega (arith, low))
    ] in
    let rest = begins_all t (suc k) xs ys are.1 other.1 (λ z h. elim (inside z (inr h)) [
      | inr later ↦ later
      | inl same ↦ let n = number_at t (suc k) xs z are.1 h in let low = n.2 in let number : n.0 ≡ suc k = (same_name (first_call (sym n.1 ∙ ap calls_of same ∙ other.0))).1 in absurd (omega (arith, low, number))
    ]) in
    (rest.0, ap (λ (a : Action). a ∷ ys) (sym first) ∙ ap (λ (list : List Action). x ∷ list) rest.1)

-- ---- the calls of a task among some actions

is_some_of : (o : Option ℕ) → is_some o ≡ true → (n : ℕ) × (o ≡ Some n)
is_some_of None e = absurd (cc)
is_some_of (Some n) e = (n, refl)

names_of : (t : ℕ) (actions : List Action) → map calls_of (calls_by t actions) ≡ map (λ k. named t k ∷ []) (numbers_of t actions)
names_of t [] = refl
names_of t (actions.Noop ∷ rest) = names_of t rest
names_of t (actions.Call task number object operation arg ∷ rest) =
    let call = actions.Call task number object operation arg in
    let later = names_of t rest in
    let P : Bool → Type 0 = λ b. map calls_of (if is_some (if b then Some number else None) then call ∷ calls_by t rest else calls_by t rest) ≡ map (λ k. named t k ∷ []) (cons_option (if b then Some number else None) (numbers_of t rest)) in
    elim (cases_Bool (nat_eq task t)) [
      | inl hit ↦ subst P (sym hit) (ap (λ (u : ℕ). (named u number ∷ []) ∷ map calls_of (calls_by t rest)) (eqb-true task t hit) ∙ ap (λ (all : List (List CallName)). (named t number ∷ []) ∷ all) later)
      | inr miss ↦ subst P (sym miss) later
    ]
names_of t (actions.Interrupt source occurrence ∷ rest) = names_of t rest
names_of t (actions.Tick now ∷ rest) = names_of t rest

-- ---- all of what it made, or all but the call that it waits for

module _ (sent : List Message) (t : ℕ) (part : TaskPart) (made actions : List Action) (are : AreMade sent t part made)
    (waits_next : (call : Action) → part.outstanding ≡ Some call → calls_of call ≡ named t (suc (length part.replies)) ∷ [])
    (m : ℕ) (numbers : numbers_of t actions ≡ one_to m) (inside : (action : Action) → Has action (calls_by t actions) → Has action made)
    (enough : length part.replies ≤ m) where
  abbrev own : List Action
  own = calls_by t actions

  own_names : map calls_of own ≡ map (λ k. named t k ∷ []) (one_to m)
  own_names = names_of t actions ∙ ap (map (λ k. named t k ∷ [])) numbers

  own_length : length own ≡ m
  own_length = as_many t m own own_names

  made_length : length made ≡ calls_so_far part
  made_length = as_many t (calls_so_far part) made are.numbered

  own_begins : IsPrefix own made
  own_begins = begins_all t 0 own made (from_one t m own own_names) (from_one t (calls_so_far part) made are.numbered) inside

  so_far : (waiting : Option Action) → part.outstanding ≡ waiting → calls_so_far part ≡ (if is_some waiting then suc (length part.replies) else length part.replies)
  so_far waiting is = ap (λ (o : Option Action). if is_some o then suc (length part.replies) else length part.replies) is

  -- one call is left, which is the one that the task waits for
  one_left : (last : Action) (waiting : Option Action) → part.outstanding ≡ waiting → made ≡ own ++ last ∷ [] → (call : Action) × (part.outstanding ≡ Some call) × (made ≡ own ++ call ∷ [])
  one_left last None is occurs =
      let long : length made ≡ length own + 1 = ap (λ (list : List Action). length list) occurs ∙ length-append own (last ∷ []) in
      let none = so_far None is in
      let one = own_length in
      let all = made_length in
      absurd (omega (arith, long, none, one, all, enough))
  one_left last (Some call) is occurs =
      let long : length made ≡ length own + 1 = ap (λ (list : List Action). length list) occurs ∙ length-append own (last ∷ []) in
      let some = so_far (Some call) is in
      let all = made_length in
      let among : Has call (own ++ last ∷ []) = subst (λ (list : List Action). Has call list) occurs (are.waits call is) in
      elim (has_split call own (last ∷ []) among) [
        | inl before ↦
            let at = number_at t 0 own call (from_one t m own own_names) before in
            let high = at.3 in
            let one = own_length in
            let number : at.0 ≡ suc (length part.replies) = (same_name (first_call (sym at.1 ∙ waits_next call is))).1 in
            absurd (omega (arith, high, number, one, long, some, all))
        | inr following ↦ elim following [
          | inl same ↦ (call, is, occurs ∙ ap (λ (a : Action). own ++ a ∷ []) (sym same))
          | inr none ↦ absurd none
        ]
      ]

  by_rest : (rest : List Action) → made ≡ own ++ rest → (made ≡ own) ⊎ ((call : Action) × (part.outstanding ≡ Some call) × (made ≡ own ++ call ∷ []))
  by_rest [] occurs = inl (occurs ∙ append-nil own)
  by_rest (last ∷ []) occurs = inr (one_left last part.outstanding refl occurs)
  by_rest (first ∷ second ∷ rest) occurs =
      let long : length made ≡ length own + suc (suc (length rest)) = ap (λ (list : List Action). length list) occurs ∙ length-append own (first ∷ second ∷ rest) in
      let most = most_calls part.outstanding (length part.replies) in
      let one = own_length in
      let all = made_length in
      absurd (omega (arith, long, most, one, all, enough))

  pub all_but_last : AreItsCalls sent t part actions
  all_but_last = record { made = made; are_made = are; all_but_last = by_rest own_begins.0 own_begins.1 }

-- ---- in the order

module _ {S : Type 0} (s : Setting S) (node : ℕ → NodePart) (task : ℕ → TaskPart) (sent : List Message) (kept : IsKept s node task sent) (known : AnswersKnown s) (t : ℕ) where
  abbrev order : List Action
  order = order_of s.config.nodes sent

  abbrev counted_ones : List Action
  counted_ones = counted_of s.next s.answers s.begin order

  -- what counts was asked for
  counts_if_made : (action : Action) → Has action (calls_by t counted_ones) → Has action (kept.made t).0
  counts_if_made action h =
      let both = has_passing (λ (a : Action). is_some (number_for t a)) action counted_ones h in
      let number = is_some_of (number_for t action) both.1 in
      let here : Has action order = elim (kept_from s (unmoved s.begin) order action both.0) [ inl none ↦ absurd none | inr there ↦ there ] in
      let asked = asked_in_order s node sent kept.sound action here in
      ((kept.made t).1.asked action).1 (asked.asked (named t number.0) (number_is t number.0 action number.1))

  -- the calls that have their replies count
  replied_count : (n : ℕ) → length (task t).replies ≡ n → n ≤ last_number t counted_ones
  replied_count zero is = omega arith
  replied_count (suc n) is =
      let right = λ (action : Action) (h : Has action order). (asked_in_order s node sent kept.sound action h).right in
      let stated = last_replied (answers_of s order) t (task t) (kept.answered t) (omega (arith, is)) in
      let numbered = made_number (named t (length (task t).replies)) counted_ones (known order right (named t (length (task t).replies)) stated) in
      let low = one_to_bound (last_number t counted_ones) (length (task t).replies) (subst (λ (list : List ℕ). Has (length (task t).replies) list) ((counted s.next s.answers s.begin order).numbered t) numbered) in
      omega (arith, low, is)

  pub counts_in_turn : AreItsCalls sent t (task t) counted_ones
  counts_in_turn =
      all_but_last sent t (task t) (kept.made t).0 counted_ones (kept.made t).1 (kept.answered t).waits (last_number t counted_ones)
      ((counted s.next s.answers s.begin order).numbered t) counts_if_made (replied_count (length (task t).replies) refl)
