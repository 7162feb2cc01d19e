-- The timing event that is due first, and those that are due after it.
use Rattle.std.proofs.Common.{◌≡◌, ◌<◌, ◌+◌, ◌-◌, ◌⊎◌, inl, inr, ℕ, suc, ℤ, pos, ◌<ℤ◌, ◌≤ℤ◌, Bool, true, false, cond, ◌&&◌, ◌||◌, List, [], ◌∷◌, ◌++◌, length, get_or, set, take, Option, Some, None, map, refl, sym, ◌∙◌, ap, subst, arith, append_assoc, append-nil, length-take-le}
use Rattle.std.specs.Prelude.{int_lt, int_le, nat_lt}
use Rattle.std.specs.Ordering.{int_eq}
use Rattle.std.proofs.lemmas.Int.{ints, by_lt_z}
use lib.Signed.{lt_z, le_z}
use Rattle.std.specs.Cmp.{signed_Decides}
use Rattle.std.proofs.lemmas.Bool.Decides.{nat_tests}
use Rattle.std.proofs.lemmas.List.{take_more}
use Rattle.rp_object.specs.Timers.{Setting, is_before, due_from, with_setting, sorted, due_events}

-- ---- order

abbrev pub IsBefore : Setting → Setting → Type 0
IsBefore one other = (one.0 <ℤ other.0) ⊎ ((one.0 ≡ other.0) × (one.1 < other.1))

int_eq_same : (a b : ℤ) → a ≡ b → int_eq a b ≡ true
int_eq_same a b e = grind (arith, signed_Decides, e)

int_eq_apart : (a b : ℤ) → b <ℤ a → int_eq a b ≡ false
int_eq_apart a b h = grind (arith, ints, signed_Decides, h)

pub before_true : (s x : Setting) → IsBefore s x → is_before s x ≡ true
before_true s x (inl less) =
    let test : int_lt s.0 x.0 ≡ true = grind (arith, ints, less) in
    ap (λ b. b || int_eq s.0 x.0 && nat_lt s.1 x.1) test
before_true s x (inr (same, below)) =
    let test : int_lt s.0 x.0 ≡ false = grind (arith, ints, same) in
    let number : nat_lt s.1 x.1 ≡ true = grind (arith, nat_tests, below) in
    ap (λ b. b || int_eq s.0 x.0 && nat_lt s.1 x.1) test ∙ ap (λ b. b && nat_lt s.1 x.1) (int_eq_same s.0 x.0 same) ∙ number

pub not_after : (s x : Setting) → IsBefore s x → is_before x s ≡ false
not_after s x (inl less) =
    let test : int_lt x.0 s.0 ≡ false = grind (arith, ints, less) in
    ap (λ b. b || int_eq x.0 s.0 && nat_lt x.1 s.1) test ∙ ap (λ b. b && nat_lt x.1 s.1) (int_eq_apart x.0 s.0 less)
not_after s x (inr (same, below)) =
    let test : int_lt x.0 s.0 ≡ false = grind (arith, ints, same) in
    let number : nat_lt x.1 s.1 ≡ false = grind (arith, nat_tests, below) in
    ap (λ b. b || int_eq x.0 s.0 && nat_lt x.1 s.1) test ∙ ap (λ b. b && nat_lt x.1 s.1) (int_eq_same x.0 s.0 (sym same)) ∙ number

pub antisymmetric : (a b : ℤ) → a ≤ℤ b → b ≤ℤ a → a ≡ b
antisymmetric a b h k = omega (arith, ints, h, k)

-- before each of these
abbrev pub BeforeAll : Setting → List Setting → Type 0
BeforeAll s [] = Unit {0}
BeforeAll s (x ∷ xs) = IsBefore s x × BeforeAll s xs

before_append : (s : Setting) (xs ys : List Setting) → BeforeAll s xs → BeforeAll s ys → BeforeAll s (xs ++ ys)
before_append s [] ys first second = second
before_append s (x ∷ xs) ys first second = (first.0, before_append s xs ys first.1 second)

with_keeps : (s x : Setting) (xs : List Setting) → IsBefore s x → BeforeAll s xs → BeforeAll s (with_setting x xs)
with_keeps s x [] before all = (before, tt)
with_keeps s x (y ∷ ys) before all =
    elim (is_before x y) as (λ b. BeforeAll s (cond b (x ∷ y ∷ ys) (y ∷ with_setting x ys))) [ true ↦ (before, all) | false ↦ (all.0, with_keeps s x ys before all.1) ]

sorted_keeps : (s : Setting) (xs : List Setting) → BeforeAll s xs → BeforeAll s (sorted xs)
sorted_keeps s [] all = tt
sorted_keeps s (x ∷ xs) all = with_keeps s x (sorted xs) all.0 (sorted_keeps s xs all.1)

goes_first : (s : Setting) (xs : List Setting) → BeforeAll s xs → with_setting s xs ≡ s ∷ xs
goes_first s [] all = refl
goes_first s (x ∷ xs) all = ap (λ b. cond b (s ∷ x ∷ xs) (x ∷ with_setting s xs)) (before_true s x all.0)

-- the setting before all others comes first, and after it the others are sorted
sorted_first : (s : Setting) (xs ys : List Setting) → BeforeAll s xs → BeforeAll s ys → sorted (xs ++ s ∷ ys) ≡ s ∷ sorted (xs ++ ys)
sorted_first s [] ys first second = goes_first s (sorted ys) (sorted_keeps s ys second)
sorted_first s (x ∷ xs) ys first second =
    ap (with_setting x) (sorted_first s xs ys first.1 second)
    ∙ ap (λ b. cond b (x ∷ s ∷ sorted (xs ++ ys)) (s ∷ with_setting x (sorted (xs ++ ys)))) (not_after s x first.0)

-- ---- what is due

due_append : (clock number : ℕ) (xs ys : List (Option ℤ)) → due_from clock number (xs ++ ys) ≡ due_from clock number xs ++ due_from clock (number + length xs) ys
due_append clock number [] ys =
    let same : number ≡ number + 0 = omega arith in
    ap (λ n. due_from clock n ys) same
due_append clock number (None ∷ xs) ys =
    let same : suc number + length xs ≡ number + suc (length xs) = omega arith in
    due_append clock (suc number) xs ys ∙ ap (λ n. due_from clock (suc number) xs ++ due_from clock n ys) same
due_append clock number (Some time ∷ xs) ys =
    let same : suc number + length xs ≡ number + suc (length xs) = omega arith in
    let rest = due_append clock (suc number) xs ys ∙ ap (λ n. due_from clock (suc number) xs ++ due_from clock n ys) same in
    let left = due_from clock (suc number) xs in
    let right = due_from clock (number + suc (length xs)) ys in
    ap (λ (l : List Setting). cond (int_le time (pos clock)) ((time, number) ∷ l) l) rest
    ∙ elim (int_le time (pos clock)) as (λ b. cond b ((time, number) ∷ (left ++ right)) (left ++ right) ≡ cond b ((time, number) ∷ left) left ++ right) [ true ↦ refl | false ↦ refl ]

-- ---- going over the timing events

-- the best so far, of the first timing events: none is due, or one, and it is before the others that are due
pub record Best (clock : ℕ) (seen : List (Option ℤ)) (time : ℤ) (number : ℕ) : Type 0 where
  pub before : List (Option ℤ)
  pub following : List (Option ℤ)
  pub split : seen ≡ before ++ Some time ∷ following
  pub place : number ≡ length before + 1
  pub due : time ≤ℤ pos clock
  pub first : BeforeAll (time, number) (due_from clock 1 before)
  pub second : BeforeAll (time, number) (due_from clock (number + 1) following)

abbrev pub IsBest : ℕ → List (Option ℤ) → Option (ℤ × ℕ) → Type 0
IsBest clock seen None = due_from clock 1 seen ≡ []
IsBest clock seen (Some best) = Best clock seen best.0 best.1

-- one timing event more
due_more : (clock : ℕ) (number : ℕ) (xs : List (Option ℤ)) (x : Option ℤ) → due_from clock number (xs ++ x ∷ []) ≡ due_from clock number xs ++ due_from clock (number + length xs) (x ∷ [])
due_more clock number xs x = due_append clock number xs (x ∷ [])

-- one that is not set
pub none_more : (clock : ℕ) (seen : List (Option ℤ)) (next : Option (ℤ × ℕ)) → IsBest clock seen next → IsBest clock (seen ++ None ∷ []) next
none_more clock seen None best = due_more clock 1 seen None ∙ ap (λ (l : List Setting). l ++ []) best
none_more clock seen (Some (time, number)) best = record {
  before = best.before;
  following = best.following ++ None ∷ [];
  split = ap (λ (l : List (Option ℤ)). l ++ None ∷ []) best.split ∙ append_assoc best.before (Some time ∷ best.following) (None ∷ []);
  place = best.place;
  due = best.due;
  first = best.first;
  second = subst (BeforeAll (time, number)) (sym (due_more clock (number + 1) best.following None ∙ append-nil (due_from clock (number + 1) best.following))) best.second;
}

is_due : (clock number : ℕ) (time : ℤ) (rest : List (Option ℤ)) → time ≤ℤ pos clock → due_from clock number (Some time ∷ rest) ≡ (time, number) ∷ due_from clock (suc number) rest
is_due clock number time rest h =
    let test : int_le time (pos clock) ≡ true = grind (arith, ints, h) in
    ap (λ b. cond b ((time, number) ∷ due_from clock (suc number) rest) (due_from clock (suc number) rest)) test

-- the first one that is due
pub first_found : (clock : ℕ) (seen : List (Option ℤ)) (time : ℤ) (number : ℕ) → IsBest clock seen None → time ≤ℤ pos clock → number ≡ length seen + 1 → Best clock (seen ++ Some time ∷ []) time number
first_found clock seen time number none due place = record {
  before = seen;
  following = [];
  split = refl;
  place = place;
  due = due;
  first = subst (BeforeAll (time, number)) (sym none) tt;
  second = tt;
}

-- one that is not due yet
pub still_none : (clock : ℕ) (seen : List (Option ℤ)) (time : ℤ) → IsBest clock seen None → pos clock <ℤ time → due_from clock 1 (seen ++ Some time ∷ []) ≡ []
still_none clock seen time none later =
    let test : int_le time (pos clock) ≡ false = grind (arith, ints, later) in
    due_more clock 1 seen (Some time) ∙ ap (λ (l : List Setting). l ++ due_from clock (1 + length seen) (Some time ∷ [])) none
    ∙ ap (λ b. cond b ((time, 1 + length seen) ∷ []) []) test

sooner : (time : ℤ) (number : ℕ) (s : Setting) (xs : List Setting) → time <ℤ s.0 → BeforeAll s xs → BeforeAll (time, number) xs
sooner time number s [] less all = tt
sooner time number s (x ∷ xs) less all = (inl (sooner_than time s x less all.0), sooner time number s xs less all.1) where
  sooner_than : (time : ℤ) (s x : Setting) → time <ℤ s.0 → IsBefore s x → time <ℤ x.0
  sooner_than time s x less (inl more) = omega (arith, ints, less, more)
  sooner_than time s x less (inr same) = omega (arith, ints, less, same.0)

-- one that is set for an earlier time
pub earlier_found : (clock : ℕ) (seen : List (Option ℤ)) (best : ℤ × ℕ) (time : ℤ) (number : ℕ) → Best clock seen best.0 best.1 → time <ℤ best.0 → number ≡ length seen + 1 → Best clock (seen ++ Some time ∷ []) time number
earlier_found clock seen best time number was less place =
    let next : suc best.1 ≡ best.1 + 1 = omega arith in
    let from : 1 + length was.before ≡ best.1 = omega (arith, was.place) in
    let all : due_from clock 1 seen ≡ due_from clock 1 was.before ++ best ∷ due_from clock (best.1 + 1) was.following =
    ap (due_from clock 1) was.split ∙ due_append clock 1 was.before (Some best.0 ∷ was.following)
    ∙ ap (λ n. due_from clock 1 was.before ++ due_from clock n (Some best.0 ∷ was.following)) from
    ∙ ap (λ (l : List Setting). due_from clock 1 was.before ++ l) (is_due clock best.1 best.0 was.following was.due ∙ ap (λ n. best ∷ due_from clock n was.following) next) in
    record {
      before = seen;
      following = [];
      split = refl;
      place = place;
      due = omega (arith, ints, was.due, less);
      first = subst (BeforeAll (time, number)) (sym all)
          (before_append (time, number) (due_from clock 1 was.before) (best ∷ due_from clock (best.1 + 1) was.following) (sooner time number best (due_from clock 1 was.before) less was.first)
          (inl less, sooner time number best (due_from clock (best.1 + 1) was.following) less was.second));
      second = tt;
    }

due_last : (clock number : ℕ) (s : Setting) (time : ℤ) → s.0 ≤ℤ time → s.1 < number → BeforeAll s (due_from clock number (Some time ∷ []))
due_last clock number s time le below =
    elim (int_le time (pos clock)) as (λ b. BeforeAll s (cond b ((time, number) ∷ []) [])) [ true ↦ (not_later s.0 time s.1 number le below, tt) | false ↦ tt ] where
      not_later : (a b : ℤ) (n m : ℕ) → a ≤ℤ b → n < m → IsBefore (a, n) (b, m)
      not_later a b n m le below = by_lt_z a b (λ less. inl less) (λ back. inr (antisymmetric a b le back, below))

-- one that is set for the same time or a later one
pub later_kept : (clock : ℕ) (seen : List (Option ℤ)) (best : ℤ × ℕ) (time : ℤ) → Best clock seen best.0 best.1 → best.0 ≤ℤ time → Best clock (seen ++ Some time ∷ []) best.0 best.1
later_kept clock seen best time was le = record {
  before = was.before;
  following = was.following ++ Some time ∷ [];
  split = ap (λ (l : List (Option ℤ)). l ++ Some time ∷ []) was.split ∙ append_assoc was.before (Some best.0 ∷ was.following) (Some time ∷ []);
  place = was.place;
  due = was.due;
  first = was.first;
  second = subst (BeforeAll best) (sym (due_more clock (best.1 + 1) was.following (Some time)))
      (before_append best (due_from clock (best.1 + 1) was.following) (due_from clock (best.1 + 1 + length was.following) (Some time ∷ [])) was.second (due_last clock (best.1 + 1 + length was.following) best time le (omega arith)));
}

-- ---- the one that fires

set_after : {X : Type 0} (xs : List X) (x y : X) (ys : List X) → set (xs ++ x ∷ ys) (length xs) y ≡ xs ++ y ∷ ys
set_after [] x y ys = refl
set_after (z ∷ xs) x y ys = ap (λ l. z ∷ l) (set_after xs x y ys)

-- it is the first that is due, and before the others, which are due once it is not set
pub record IsFirst (clock : ℕ) (timers : List (Option ℤ)) (time : ℤ) (number : ℕ) : Type 0 where
  pub all : sorted (due_from clock 1 timers) ≡ (time, number) ∷ sorted (due_from clock 1 (set timers (number - 1) None))
  pub before : BeforeAll (time, number) (sorted (due_from clock 1 (set timers (number - 1) None)))

pub best_is_first : (clock : ℕ) (timers : List (Option ℤ)) (time : ℤ) (number : ℕ) → Best clock timers time number → IsFirst clock timers time number
best_is_first clock timers time number was =
    let s : Setting = (time, number) in
    let next : suc number ≡ number + 1 = omega arith in
    let from : 1 + length was.before ≡ number = omega (arith, was.place) in
    let place : number - 1 ≡ length was.before = omega (arith, was.place) in
    let left = due_from clock 1 was.before in
    let right = due_from clock (number + 1) was.following in
    let all : due_from clock 1 timers ≡ left ++ s ∷ right =
    ap (due_from clock 1) was.split ∙ due_append clock 1 was.before (Some time ∷ was.following) ∙ ap (λ n. left ++ due_from clock n (Some time ∷ was.following)) from
    ∙ ap (λ (l : List Setting). left ++ l) (is_due clock number time was.following was.due ∙ ap (λ n. s ∷ due_from clock n was.following) next) in
    let cleared : set timers (number - 1) None ≡ was.before ++ None ∷ was.following =
    ap (λ n. set timers n None) place ∙ ap (λ (l : List (Option ℤ)). set l (length was.before) None) was.split ∙ set_after was.before (Some time) None was.following in
    let others : due_from clock 1 (set timers (number - 1) None) ≡ left ++ right =
    ap (due_from clock 1) cleared ∙ due_append clock 1 was.before (None ∷ was.following) ∙ ap (λ n. left ++ due_from clock (suc n) was.following) from ∙ ap (λ n. left ++ due_from clock n was.following) next in
    record {
      all = ap sorted all ∙ sorted_first s left right was.first was.second ∙ ap (λ (l : List Setting). s ∷ sorted l) (sym others);
      before =
          subst (λ (l : List Setting). BeforeAll s (sorted l)) (sym others)
          (sorted_keeps s (left ++ right) (before_append s left right was.first was.second));
    }

pub best_first : (clock : ℕ) (timers : List (Option ℤ)) (time : ℤ) (number : ℕ) → Best clock timers time number → due_events clock timers ≡ number ∷ due_events clock (set timers (number - 1) None)
best_first clock timers time number was = ap (map (λ (x : Setting). x.1)) (best_is_first clock timers time number was).all

-- ---- the loop's steps, at what the code compares

less_true : (a b c d : ℤ) (r : Bool) → a ≡ c → b ≡ d → r ≡ lt_z a b → r ≡ true → c <ℤ d
less_true a b c d r p q is holds = let test : lt_z c d ≡ true = ap (λ z. lt_z z d) (sym p) ∙ ap (lt_z a) (sym q) ∙ sym is ∙ holds in grind (arith, ints, test)

less_false : (a b c d : ℤ) (r : Bool) → a ≡ c → b ≡ d → r ≡ lt_z a b → r ≡ false → d ≤ℤ c
less_false a b c d r p q is fails = let test : lt_z c d ≡ false = ap (λ z. lt_z z d) (sym p) ∙ ap (lt_z a) (sym q) ∙ sym is ∙ fails in grind (arith, ints, test)

at_most_true : (a b c d : ℤ) (r : Bool) → a ≡ c → b ≡ d → r ≡ le_z a b → r ≡ true → c ≤ℤ d
at_most_true a b c d r p q is holds = let test : le_z c d ≡ true = ap (λ z. le_z z d) (sym p) ∙ ap (le_z a) (sym q) ∙ sym is ∙ holds in grind (arith, ints, test)

at_most_false : (a b c d : ℤ) (r : Bool) → a ≡ c → b ≡ d → r ≡ le_z a b → r ≡ false → d <ℤ c
at_most_false a b c d r p q is fails = let test : le_z c d ≡ false = ap (λ z. le_z z d) (sym p) ∙ ap (le_z a) (sym q) ∙ sym is ∙ fails in grind (arith, ints, test)

module _ (clock : ℕ) (items : List (Option ℤ)) (i : ℕ) (below : i < length items) where
  -- the timing events gone over, with the next one
  best_more : (x : Option ℤ) (next : Option (ℤ × ℕ)) → get_or items i None ≡ x → IsBest clock (take i items ++ x ∷ []) next → IsBest clock (take (i + 1) items) next
  best_more x next is best = subst (λ (l : List (Option ℤ)). IsBest clock l next) (sym (take_more items i None below ∙ ap (λ (y : Option ℤ). take i items ++ y ∷ []) is)) best

  number_is : (number : ℕ) → number ≡ i → number + 1 ≡ length (take i items) + 1
  number_is number same = omega (arith, same, length-take-le i items (omega arith))

  pub step_unset : (next : Option (ℤ × ℕ)) → get_or items i None ≡ None → IsBest clock (take i items) next → IsBest clock (take (i + 1) items) next
  step_unset next is best = best_more None next is (none_more clock (take i items) next best)

  pub step_earlier : (next now : Option (ℤ × ℕ)) (time shown earliest other : ℤ) (best number : ℕ) (r : Bool) → get_or items i None ≡ Some time → shown ≡ time → other ≡ earliest → next ≡ Some (earliest, best) → number ≡ i
      → IsBest clock (take i items) next → r ≡ lt_z shown other → r ≡ true → now ≡ Some (shown, number + 1) → IsBest clock (take (i + 1) items) now
  step_earlier next now time shown earliest other best number r is fits same found place was test holds ends =
      let before : Best clock (take i items) earliest best = subst (IsBest clock (take i items)) found was in
      let after : Best clock (take i items ++ Some time ∷ []) time (number + 1) = earlier_found clock (take i items) (earliest, best) time (number + 1) before (less_true shown other time earliest r fits same test holds) (number_is number place) in
      best_more (Some time) now is (subst (IsBest clock (take i items ++ Some time ∷ [])) (sym (ends ∙ ap (λ (z : ℤ). Some (z, number + 1)) fits)) after)

  pub step_later : (next now : Option (ℤ × ℕ)) (time shown earliest other : ℤ) (best : ℕ) (r : Bool) → get_or items i None ≡ Some time → shown ≡ time → other ≡ earliest → next ≡ Some (earliest, best)
      → IsBest clock (take i items) next → r ≡ lt_z shown other → r ≡ false → now ≡ next → IsBest clock (take (i + 1) items) now
  step_later next now time shown earliest other best r is fits same found was test fails ends =
      let before : Best clock (take i items) earliest best = subst (IsBest clock (take i items)) found was in
      let after : Best clock (take i items ++ Some time ∷ []) earliest best = later_kept clock (take i items) (earliest, best) time before (less_false shown other time earliest r fits same test fails) in
      best_more (Some time) now is (subst (IsBest clock (take i items ++ Some time ∷ [])) (sym (ends ∙ found)) after)

  pub step_first : (next now : Option (ℤ × ℕ)) (time shown limit : ℤ) (number : ℕ) (r : Bool) → get_or items i None ≡ Some time → shown ≡ time → limit ≡ pos clock → next ≡ None → number ≡ i
      → IsBest clock (take i items) next → r ≡ le_z shown limit → r ≡ true → now ≡ Some (shown, number + 1) → IsBest clock (take (i + 1) items) now
  step_first next now time shown limit number r is fits same none place was test holds ends =
      let before : IsBest clock (take i items) None = subst (IsBest clock (take i items)) none was in
      let after : Best clock (take i items ++ Some time ∷ []) time (number + 1) = first_found clock (take i items) time (number + 1) before (at_most_true shown limit time (pos clock) r fits same test holds) (number_is number place) in
      best_more (Some time) now is (subst (IsBest clock (take i items ++ Some time ∷ [])) (sym (ends ∙ ap (λ (z : ℤ). Some (z, number + 1)) fits)) after)

  pub step_none : (next now : Option (ℤ × ℕ)) (time shown limit : ℤ) (r : Bool) → get_or items i None ≡ Some time → shown ≡ time → limit ≡ pos clock → next ≡ None
      → IsBest clock (take i items) next → r ≡ le_z shown limit → r ≡ false → now ≡ next → IsBest clock (take (i + 1) items) now
  step_none next now time shown limit r is fits same none was test fails ends =
      let before : IsBest clock (take i items) None = subst (IsBest clock (take i items)) none was in
      let after : IsBest clock (take i items ++ Some time ∷ []) None = still_none clock (take i items) time before (at_most_false shown limit time (pos clock) r fits same test fails) in
      best_more (Some time) now is (subst (IsBest clock (take i items ++ Some time ∷ [])) (sym (ends ∙ none)) after)
