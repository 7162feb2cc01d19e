-- A ring that is turned once round, from which the items that do not stay are taken out.
use Rattle.std.proofs.Common.{◌≡◌, ℕ, suc, ◌+◌, ◌-◌, ◌<◌, ◌≤◌, Bool, true, false, Some, List, [], ◌∷◌, ◌++◌, length, take, drop, get_or, if◌then◌else◌, sym, ap, ◌∙◌, arith, append_assoc, append-nil, add-one}
use Rattle.std.specs.Prelude.{slice_get, filter}
use Rattle.std.proofs.lemmas.List.{length-append, length-drop, length-take-le, take_more}
use Rattle.std.proofs.lemmas.List.Elements.{filter-append}
use Rattle.std.proofs.Math.Seq.{drop-cons}

fewer : {A : Type 0} (test : A → Bool) (xs : List A) → length (filter test xs) ≤ length xs
fewer test [] = omega arith
fewer test (x ∷ xs) =
    let rest = fewer test xs in
    elim (test x) as (λ b. length (if b then x ∷ filter test xs else filter test xs) ≤ suc (length xs)) [ true ↦ omega arith | false ↦ omega arith ]

first_is : {A : Type 0} (x y : A) (xs : List A) → slice_get (y ∷ xs) 0 ≡ Some x → y ≡ x
first_is x y xs e = cc

module _ {A : Type 0} (test : A → Bool) (old now popped : List A) (p : ℕ) (x : A) (below : p < length old) (is : now ≡ drop p old ++ filter test (take p old)) (first : slice_get now 0 ≡ Some x) (rest : popped ≡ drop 1 now) where
  front : now ≡ get_or old p x ∷ drop (p + 1) old ++ filter test (take p old)
  front = is ∙ ap (λ (xs : List A). xs ++ filter test (take p old)) (drop-cons old p x below ∙ ap (λ (n : ℕ). get_or old p x ∷ drop n old) (sym (add-one p)))

  same : get_or old p x ≡ x
  same = first_is x (get_or old p x) (drop (p + 1) old ++ filter test (take p old)) (ap (λ (xs : List A). slice_get xs 0) (sym front) ∙ first)

  left : popped ≡ drop (p + 1) old ++ filter test (take p old)
  left = rest ∙ ap (drop 1) front

  longer : filter test (take (p + 1) old) ≡ filter test (take p old) ++ (if test x then x ∷ [] else [])
  longer =
      ap (filter test) (take_more old p x below ∙ ap (λ (y : A). take p old ++ y ∷ []) same)
      ∙ filter-append test (take p old) (x ∷ [])

  -- there is room for the first item again
  pub room_again : length popped + 1 ≤ length old
  room_again =
      let one : length popped ≡ length (drop (p + 1) old) + length (filter test (take p old)) = ap length left ∙ length-append (drop (p + 1) old) (filter test (take p old)) in
      let few : length (filter test (take p old)) ≤ length (take p old) = fewer test (take p old) in
      let taken : length (take p old) ≡ p = length-take-le p old (omega arith) in
      let trailing : length (drop (p + 1) old) ≡ length old - (p + 1) = length-drop (p + 1) old in
      omega (arith, one, few, taken, trailing)

  pub turned : (after : List A) (b : Bool) → test x ≡ b → after ≡ (if b then popped ++ x ∷ [] else popped) → after ≡ drop (p + 1) old ++ filter test (take (p + 1) old)
  turned after true e kept =
      kept ∙ ap (λ (xs : List A). xs ++ x ∷ []) left
      ∙ append_assoc (drop (p + 1) old) (filter test (take p old)) (x ∷ [])
      ∙ ap (λ (xs : List A). drop (p + 1) old ++ xs) (sym (longer ∙ ap (λ (b : Bool). filter test (take p old) ++ (if b then x ∷ [] else [])) e))
  turned after false e kept =
      kept ∙ left
      ∙ ap (λ (xs : List A). drop (p + 1) old ++ xs)
      (sym (longer ∙ ap (λ (b : Bool). filter test (take p old) ++ (if b then x ∷ [] else [])) e ∙ append-nil (filter test (take p old))))

-- before it is once round there is a first item
pub has_first : {A : Type 0} (test : A → Bool) (old now : List A) (p : ℕ) → p < length old → now ≡ drop p old ++ filter test (take p old) → (x : A) → slice_get now 0 ≡ Some (get_or old p x)
has_first test old now p below is x = ap (λ xs. slice_get xs 0) (is ∙ ap (λ xs. xs ++ filter test (take p old)) (drop-cons old p x below))
