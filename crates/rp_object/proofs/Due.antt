-- Which timing events are due.
use Rattle.std.proofs.Common.{◌≡◌, ◌+◌, inl, inr, ℕ, zero, suc, ℤ, pos, Bool, true, false, cond, List, [], ◌∷◌, Option, Some, None, refl, sym, ◌∙◌, ap, ap₂, subst, arith}
use Rattle.std.specs.Prelude.{int_le, slice_get, ◌↔◌}
use Rattle.rp_base.specs.Sets.{Has}
use Rattle.rp_entry.specs.Operations.{of_index}
use Rattle.rp_object.specs.Timers.{Setting, is_before, due_from, with_setting, sorted}
use Rattle.rp_entry.proofs.Permuting.{Perm, same, following, swap, chain, back, has_permuted}

-- ---- the list of those that are due

-- a setting more is another order of the list with it
with_permuted : (s : Setting) (xs : List Setting) → Perm (s ∷ xs) (with_setting s xs)
with_permuted s [] = same
with_permuted s (x ∷ xs) =
    elim (is_before s x) as (λ b. Perm (s ∷ x ∷ xs) (cond b (s ∷ x ∷ xs) (x ∷ with_setting s xs))) [ true ↦ same | false ↦ chain swap (following (with_permuted s xs)) ]

-- sorting loses none and adds none
pub sorted_permuted : (xs : List Setting) → Perm xs (sorted xs)
sorted_permuted [] = same
sorted_permuted (x ∷ xs) = chain (following (sorted_permuted xs)) (with_permuted x (sorted xs))

-- those that are due are set for a time at or below the clock, and none is left out
abbrev IsDueFrom : ℕ → ℕ → List (Option ℤ) → Setting → Type 0
IsDueFrom clock number timers setting = (place : ℕ) × (setting.1 ≡ number + place) × (slice_get timers place ≡ Some (Some setting.0)) × (int_le setting.0 (pos clock) ≡ true)

later : (clock number : ℕ) (timer : Option ℤ) (rest : List (Option ℤ)) (s : Setting) → IsDueFrom clock (suc number) rest s → IsDueFrom clock number (timer ∷ rest) s
later clock number timer rest s (place, at, there, due) = (suc place, omega (arith, at), there, due)

due_tested : (clock number : ℕ) (time : ℤ) (rest : List (Option ℤ)) (s : Setting) (b : Bool) → int_le time (pos clock) ≡ b → (Has s (due_from clock (suc number) rest) → IsDueFrom clock (suc number) rest s)
    → Has s (cond b ((time, number) ∷ due_from clock (suc number) rest) (due_from clock (suc number) rest)) → IsDueFrom clock number (Some time ∷ rest) s
due_tested clock number time rest s true test more (inl e) = (0, ap (λ (x : Setting). x.1) e ∙ omega arith, ap (λ (x : Setting). Some (Some x.0)) (sym e), ap (λ (x : Setting). int_le x.0 (pos clock)) e ∙ test)
due_tested clock number time rest s true test more (inr h) = later clock number (Some time) rest s (more h)
due_tested clock number time rest s false test more h = later clock number (Some time) rest s (more h)

due_is : (clock number : ℕ) (timers : List (Option ℤ)) (s : Setting) → Has s (due_from clock number timers) → IsDueFrom clock number timers s
due_is clock number [] s h = absurd h
due_is clock number (None ∷ rest) s h = later clock number None rest s (due_is clock (suc number) rest s h)
due_is clock number (Some time ∷ rest) s h = due_tested clock number time rest s (int_le time (pos clock)) refl (due_is clock (suc number) rest s) h

is_due_listed : (clock number : ℕ) (timers : List (Option ℤ)) (time : ℤ) (place : ℕ) → slice_get timers place ≡ Some (Some time) → int_le time (pos clock) ≡ true → Has (time, number + place) (due_from clock number timers)
is_due_listed clock number [] time place there due = absurd (cc)
is_due_listed clock number (None ∷ rest) time zero there due = absurd (cc)
is_due_listed clock number (None ∷ rest) time (suc place) there due =
    let at : suc number + place ≡ number + suc place = omega arith in
    subst (λ n. Has (time, n) (due_from clock (suc number) rest)) at (is_due_listed clock (suc number) rest time place there due)
is_due_listed clock number (Some other ∷ rest) time zero there due =
    let is : other ≡ time = cc in
    let at : number + 0 ≡ number = omega arith in
    let test : int_le other (pos clock) ≡ true = ap (λ z. int_le z (pos clock)) is ∙ due in
    subst (λ b. Has (time, number + 0) (cond b ((other, number) ∷ due_from clock (suc number) rest) (due_from clock (suc number) rest))) (sym test) (inl (ap₂ (λ (z : ℤ) (n : ℕ). (z, n)) (sym is) at))
is_due_listed clock number (Some other ∷ rest) time (suc place) there due =
    let at : suc number + place ≡ number + suc place = omega arith in
    let found = subst (λ n. Has (time, n) (due_from clock (suc number) rest)) at (is_due_listed clock (suc number) rest time place there due) in
    elim (int_le other (pos clock)) as (λ b. Has (time, number + suc place) (cond b ((other, number) ∷ due_from clock (suc number) rest) (due_from clock (suc number) rest))) [ true ↦ inr found | false ↦ found ]

-- a setting is listed exactly where its event is set for that time, and the time is at or below the clock
pub due_exactly : (clock : ℕ) (timers : List (Option ℤ)) (time : ℤ) (number : ℕ) → Has (time, number) (sorted (due_from clock 1 timers)) ↔ ((of_index timers number ≡ Some (Some time)) × (int_le time (pos clock) ≡ true))
due_exactly clock timers time number = (there, back_there number) where
  there : Has (time, number) (sorted (due_from clock 1 timers)) → (of_index timers number ≡ Some (Some time)) × (int_le time (pos clock) ≡ true)
  there h =
      let due = due_is clock 1 timers (time, number) (has_permuted (time, number) (back (sorted_permuted (due_from clock 1 timers))) h) in
      let at : number ≡ suc due.0 = omega (arith, due.1) in
      (ap (of_index timers) at ∙ due.2, due.3)

  back_there : (number : ℕ) → (of_index timers number ≡ Some (Some time)) × (int_le time (pos clock) ≡ true) → Has (time, number) (sorted (due_from clock 1 timers))
  back_there zero (is, due) = absurd (cc)
  back_there (suc place) (is, due) =
      let at : 1 + place ≡ suc place = omega arith in
      has_permuted (time, suc place) (sorted_permuted (due_from clock 1 timers)) (subst (λ n. Has (time, n) (due_from clock 1 timers)) at (is_due_listed clock 1 timers time place is due))
