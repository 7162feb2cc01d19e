-- The actions that a log took, read by position.
use Rattle.std.proofs.Common.{◌≡◌, ℕ, suc, ◌+◌, ◌-◌, ◌<◌, Bool, true, false, ◌||◌, Some, List, ◌++◌, ◌∷◌, [], length, drop, take, get_or, sym, ap, ◌∙◌, arith, add-one}
use Rattle.std.specs.List.{list_any}
use Rattle.std.proofs.lemmas.List.{get_or-drop, length-drop, take_more}
use Rattle.std.proofs.lemmas.Option.{get_or_from_slice_get, slice_get-get_or}
use Rattle.std.proofs.Math.Seq.{drop-cons}
use Rattle.rp_base.specs.declared.action.Action.{Action}
use Rattle.rp_log.specs.Contents.{Contents, IsTakenInOrder, action_at}

-- the position after k taken actions has the one taken next
pub taken_at : (log : Contents) (k i : ℕ) (other : Action) → IsTakenInOrder log → k < length log.taken → i ≡ k + 1 → action_at log i ≡ Some (get_or log.taken k other)
taken_at log k i other ordered within next = ap (action_at log) next ∙ sym (ordered k within) ∙ slice_get-get_or log.taken k other within

pub read_at : (log : Contents) (k i : ℕ) (action : Action) → IsTakenInOrder log → k < length log.taken → i ≡ k + 1 → Some action ≡ action_at log i → get_or log.taken k action ≡ action
read_at log k i action ordered within next is = get_or_from_slice_get log.taken k action action (ordered k within ∙ ap (action_at log) (sym next) ∙ sym is)

-- ---- a search from the k-th element on

module _ {A : Type 0} (test : A → Bool) (xs : List A) (k : ℕ) (x : A) (within : k < length xs) (is : get_or xs k x ≡ x) where
  from_here : list_any test (drop k xs) ≡ (test x || list_any test (drop (k + 1) xs))
  from_here =
      ap (list_any test) (drop-cons xs k x within)
      ∙ ap (λ (y : A). test y || list_any test (drop (suc k) xs)) is
      ∙ ap (λ (n : ℕ). test x || list_any test (drop n xs)) (sym (add-one k))

  pub found_here : test x ≡ true → list_any test (drop k xs) ≡ true
  found_here e = from_here ∙ ap (λ (b : Bool). b || list_any test (drop (k + 1) xs)) e

  pub not_here : test x ≡ false → list_any test (drop (k + 1) xs) ≡ list_any test (drop k xs)
  not_here e = sym (from_here ∙ ap (λ (b : Bool). b || list_any test (drop (k + 1) xs)) e)

-- ---- elements from the n-th one on, one after another

pub read_on : {A : Type 0} (xs : List A) (n k : ℕ) (x : A) → n + k < length xs → get_or xs (n + k) x ≡ x → take k (drop n xs) ++ x ∷ [] ≡ take (k + 1) (drop n xs)
read_on xs n k x within is =
    let long : length (drop n xs) ≡ length xs - n = length-drop n xs in
    sym (take_more (drop n xs) k x (omega (arith, long)) ∙ ap (λ (y : _). take k (drop n xs) ++ y ∷ []) (get_or-drop n xs k x ∙ is))
