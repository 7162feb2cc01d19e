-- The first free item.
use Rattle.std.proofs.Common.{◌≡◌, Bool, true, false, ◌||◌, cond, Option, Some, None, List, [], ◌∷◌, ◌++◌, find, refl, ap, ◌∙◌}
use Rattle.std.specs.List.{list_any}
use Rattle.rp_base.specs.declared.action.Action.{Action}
use Rattle.rp_base.specs.Proposals.{Proposal}
use Rattle.rp_proposer.specs.Proposing.{is_equal_item}
use Rattle.rp_model.specs.Pending.{is_own}

same_own : (item : Action) (own : Option Action) → is_equal_item item own ≡ is_own item own
same_own item None = refl
same_own item (Some v) = refl

own_of : (item : Action) (ps : List Proposal) → list_any (λ p. is_equal_item item p.own) ps ≡ list_any (λ p. is_own item p.own) ps
own_of item [] = refl
own_of item (p ∷ ps) = ap (λ (b : Bool). b || list_any (λ (q : Proposal). is_equal_item item q.own) ps) (same_own item p.own) ∙ ap (λ (b : Bool). is_own item p.own || b) (own_of item ps)

find_here : (test : Action → Bool) (x : Action) (xs ys : List Action) (b : Bool) → (find test xs ≡ None → find test (xs ++ ys) ≡ find test ys)
    → cond b (Some x) (find test xs) ≡ None → cond b (Some x) (find test (xs ++ ys)) ≡ find test ys
find_here test x xs ys true later e = absurd (cc)
find_here test x xs ys false later e = later e

-- what is found after a list in which nothing is
pub find_after : (test : Action → Bool) (xs ys : List Action) → find test xs ≡ None → find test (xs ++ ys) ≡ find test ys
find_after test [] ys e = refl
find_after test (x ∷ xs) ys e = find_here test x xs ys (test x) (find_after test xs ys) e

find_first : (test : Action → Bool) (x y : Action) (xs ys : List Action) (b : Bool) → (find test xs ≡ Some y → find test (xs ++ ys) ≡ Some y)
    → cond b (Some x) (find test xs) ≡ Some y → cond b (Some x) (find test (xs ++ ys)) ≡ Some y
find_first test x y xs ys true later e = e
find_first test x y xs ys false later e = later e

-- what is found in front
pub find_before : (test : Action → Bool) (xs ys : List Action) (y : Action) → find test xs ≡ Some y → find test (xs ++ ys) ≡ Some y
find_before test [] ys y e = absurd (cc)
find_before test (x ∷ xs) ys y e = find_first test x y xs ys (test x) (find_before test xs ys y) e
