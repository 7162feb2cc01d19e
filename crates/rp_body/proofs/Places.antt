-- A list as the map from its places to its elements.
use Rattle.std.proofs.Common.{◌≡◌, ℕ, zero, suc, ◌+◌, ◌<◌, ◌≤◌, ◌==◌, true, false, cond, Some, None, List, [], ◌∷◌, ◌++◌, length, take, set, get_or, refl, sym, ◌∙◌, ap, subst, arith, eq-eqb, length-take, get_or-take}
use Rattle.std.specs.Prelude.{is_some, ◌↔◌}
use Rattle.std.specs.List.{slice_get, enumerate_from}
use Rattle.std.specs.Ordering.{nat_cmp, eq_by_cmp}
use Rattle.std.specs.declared.cmp.Ordering.TheVariants.{Less}
use Rattle.std.specs.Cmp.{unsigned_tied, nat_cmp_is}
use Rattle.std.specs.FinMap.{get, insert, len, entries, empty, from_entries, find, put, get-entries, len-entries, len-empty, entries-insert, get-insert, same_map, nat_cmp-IsAntisymmetric}
use Rattle.std.specs.FinMap.Entries.{by_order}
use Rattle.std.proofs.lemmas.Cmp.{nat_cmp_total}
use Rattle.std.proofs.lemmas.Bool.Decides.{nat_tests}
use Rattle.std.proofs.lemmas.List.FromFn.{length-enumerate_from}
use Rattle.std.proofs.Math.Seq.{take-set-lt}
use Rattle.std.proofs.lemmas.List.{nil_from_length, take_more_set}
use Rattle.std.proofs.lemmas.Option.{slice_get_past, slice_get-get_or}
use Rattle.rp_body.specs.Store.{by_place}

same_place : (n : ℕ) → eq_by_cmp nat_cmp n n ≡ true
same_place n = unsigned_tied n n ∙ eq-eqb n n refl

later : (n q : ℕ) → (n + suc q == n) ≡ false
later n q = grind (arith, nat_tests)

not_first : (q : ℕ) → (suc q == 0) ≡ false
not_first q = grind (arith, nat_tests)

first_only : (k : ℕ) → (0 == suc k) ≡ false
first_only k = grind (arith, nat_tests)

following : (q k : ℕ) → (q == k) ≡ (suc q == suc k)
following q k = grind (arith, nat_tests)

module _ {X : Type 0} where
  -- the entries of the map are the elements with their places
  put_first : (n : ℕ) (x : X) (xs : List X) → put nat_cmp n x (enumerate_from (n + 1) xs) ≡ (n, x) ∷ enumerate_from (n + 1) xs
  put_first n x [] = refl
  put_first n x (y ∷ ys) =
      let below = nat_cmp_is n (n + 1) Less (omega arith) in
      ap (λ o. by_order o ((n, x) ∷ (n + 1, y) ∷ enumerate_from (n + 1 + 1) ys) ((n + 1, x) ∷ enumerate_from (n + 1 + 1) ys) ((n + 1, y) ∷ put nat_cmp n x (enumerate_from (n + 1 + 1) ys))) (sym below)

  entries-places : (n : ℕ) (xs : List X) → entries (from_entries {R = nat_cmp} (enumerate_from n xs)) ≡ enumerate_from n xs
  entries-places n [] = nil_from_length (entries (empty {R = nat_cmp})) (sym (len-entries empty) ∙ len-empty nat_cmp X)
  entries-places n (x ∷ xs) =
      entries-insert nat_cmp_total (from_entries (enumerate_from (n + 1) xs)) n x ∙ ap (put nat_cmp n x) (entries-places (n + 1) xs) ∙ put_first n x xs

  -- there are as many as elements
  pub len-by_place : (xs : List X) → len (by_place xs) ≡ length xs
  len-by_place xs = len-entries (by_place xs) ∙ ap length (entries-places 0 xs) ∙ length-enumerate_from 0 xs

  find-places : (n : ℕ) (xs : List X) (q : ℕ) → find nat_cmp (n + q) (enumerate_from n xs) ≡ slice_get xs q
  find-places n [] q = refl
  find-places n (x ∷ xs) zero =
      let here : n + 0 ≡ n = omega arith in
      ap (λ m. cond (eq_by_cmp nat_cmp m n) (Some x) (find nat_cmp m (enumerate_from (n + 1) xs))) here
      ∙ ap (λ b. cond b (Some x) (find nat_cmp n (enumerate_from (n + 1) xs))) (same_place n)
  find-places n (x ∷ xs) (suc q) =
      let there : n + suc q ≡ n + 1 + q = omega arith in
      ap (λ b. cond b (Some x) (find nat_cmp (n + suc q) (enumerate_from (n + 1) xs))) (unsigned_tied (n + suc q) n ∙ later n q)
      ∙ ap (λ m. find nat_cmp m (enumerate_from (n + 1) xs)) there ∙ find-places (n + 1) xs q

  -- at a place is there the element
  pub get-by_place : (xs : List X) (q : ℕ) → get (by_place xs) q ≡ slice_get xs q
  get-by_place xs q =
      let here : q ≡ 0 + q = omega arith in
      get-entries (by_place xs) q ∙ ap (find nat_cmp q) (entries-places 0 xs) ∙ ap (λ k. find nat_cmp k (enumerate_from 0 xs)) here ∙ find-places 0 xs q

  slice_get-set : (xs : List X) (k : ℕ) (x : X) (q : ℕ) → k < length xs → slice_get (set xs k x) q ≡ cond (q == k) (Some x) (slice_get xs q)
  slice_get-set [] k x q h = absurd (omega arith)
  slice_get-set (y ∷ ys) zero x zero h = refl
  slice_get-set (y ∷ ys) zero x (suc q) h = ap (λ b. cond b (Some x) (slice_get ys q)) (sym (not_first q))
  slice_get-set (y ∷ ys) (suc k) x zero h = ap (λ b. cond b (Some x) (Some y)) (sym (first_only k))
  slice_get-set (y ∷ ys) (suc k) x (suc q) h = slice_get-set ys k x q (omega arith) ∙ ap (λ b. cond b (Some x) (slice_get ys q)) (following q k)

  slice_get-push : (xs : List X) (x : X) (q : ℕ) → slice_get (xs ++ x ∷ []) q ≡ cond (q == length xs) (Some x) (slice_get xs q)
  slice_get-push [] x zero = refl
  slice_get-push [] x (suc q) = ap (λ b. cond b (Some x) None) (sym (not_first q))
  slice_get-push (y ∷ ys) x zero = ap (λ b. cond b (Some x) (Some y)) (sym (first_only (length ys)))
  slice_get-push (y ∷ ys) x (suc q) = slice_get-push ys x q ∙ ap (λ b. cond b (Some x) (slice_get ys q)) (following q (length ys))

  inserted : (xs ys : List X) (k : ℕ) (x : X) → ((q : ℕ) → slice_get ys q ≡ cond (q == k) (Some x) (slice_get xs q)) → by_place ys ≡ insert (by_place xs) k x
  inserted xs ys k x is = same_map nat_cmp_total nat_cmp-IsAntisymmetric (by_place ys) (insert (by_place xs) k x) (λ q.
      get-by_place ys q ∙ is q
      ∙ sym (get-insert nat_cmp_total (by_place xs) k x q ∙ ap (λ b. cond b (Some x) (get (by_place xs) q)) (unsigned_tied q k) ∙ ap (cond (q == k) (Some x)) (get-by_place xs q)))

  -- an element that is replaced
  pub by_place-set : (xs : List X) (k : ℕ) (x : X) → k < length xs → by_place (set xs k x) ≡ insert (by_place xs) k x
  by_place-set xs k x h = inserted xs (set xs k x) k x (λ q. slice_get-set xs k x q h)

  -- an element that is added after the others
  pub by_place-push : (xs : List X) (x : X) → by_place (xs ++ x ∷ []) ≡ insert (by_place xs) (length xs) x
  by_place-push xs x = inserted xs (xs ++ x ∷ []) (length xs) x (λ q. slice_get-push xs x q)

  some_below : (xs : List X) (q : ℕ) → is_some (slice_get xs q) ≡ true → q < length xs
  some_below [] q there = absurd (cc)
  some_below (y ∷ ys) zero there = omega arith
  some_below (y ∷ ys) (suc q) there = omega (arith, some_below ys q there)

  below_some : (xs : List X) (q : ℕ) → q < length xs → is_some (slice_get xs q) ≡ true
  below_some [] q below = absurd (omega (arith, below))
  below_some (y ∷ ys) zero below = refl
  below_some (y ∷ ys) (suc q) below = below_some ys q (omega (arith, below))

  -- the names are the numbers below the count
  pub numbered : (xs : List X) (q : ℕ) → is_some (get (by_place xs) q) ≡ true ↔ (q < len (by_place xs))
  numbered xs q = (
    (λ there. subst (λ (n : ℕ). q < n) (sym (len-by_place xs)) (some_below xs q (sym (ap is_some (get-by_place xs q)) ∙ there))),
    (λ below. ap is_some (get-by_place xs q) ∙ below_some xs q (subst (λ (n : ℕ). q < n) (len-by_place xs) below)),
  )

  -- ---- the first n of 8 elements

  front_length : (n : ℕ) (xs : List X) → n ≤ 8 → length xs ≡ 8 → length (take n xs) ≡ n
  front_length n xs h e = omega (arith, length-take n xs)

  -- there are n
  pub counted : (n : ℕ) (xs : List X) → n ≤ 8 → length xs ≡ 8 → len (by_place (take n xs)) ≡ n
  counted n xs h e = len-by_place (take n xs) ∙ front_length n xs h e

  -- at a place among them is the element
  pub at_place : (n : ℕ) (xs : List X) (k : ℕ) (d : X) → n ≤ 8 → length xs ≡ 8 → k < n → get (by_place (take n xs)) k ≡ Some (get_or xs k d)
  at_place n xs k d h e l =
      let here : k < length (take n xs) = omega (arith, front_length n xs h e) in
      get-by_place (take n xs) k ∙ slice_get-get_or (take n xs) k d here ∙ ap Some (get_or-take n xs k d l)

  -- past them is none
  pub past_place : (n : ℕ) (xs : List X) (k : ℕ) → n ≤ 8 → length xs ≡ 8 → n ≤ k → get (by_place (take n xs)) k ≡ None
  past_place n xs k h e l =
      let past : length (take n xs) ≤ k = omega (arith, front_length n xs h e) in
      get-by_place (take n xs) k ∙ slice_get_past (take n xs) k past

  -- one among them is replaced
  pub written : (n : ℕ) (xs : List X) (k : ℕ) (x : X) → n ≤ 8 → length xs ≡ 8 → k < n → by_place (take n (set xs k x)) ≡ insert (by_place (take n xs)) k x
  written n xs k x h e l =
      let here : k < length (take n xs) = omega (arith, front_length n xs h e) in
      ap by_place (take-set-lt n xs k x l) ∙ by_place-set (take n xs) k x here

  -- one more is added
  pub pushed : (n : ℕ) (xs : List X) (x : X) → n < 8 → length xs ≡ 8 → by_place (take (n + 1) (set xs n x)) ≡ insert (by_place (take n xs)) (len (by_place (take n xs))) x
  pushed n xs x h e =
      let within : n < length xs = omega arith in
      let all : length (take n xs) ≡ n = front_length n xs (omega arith) e in
      ap by_place (take_more_set xs n x within) ∙ by_place-push (take n xs) x ∙ ap (λ k. insert (by_place (take n xs)) k x) (sym (len-by_place (take n xs)))
