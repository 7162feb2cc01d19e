-- The stops of one moment more, from the last moment back.
use Rattle.std.proofs.Common.{◌≡◌, ◌∙◌, ℕ, ◌+◌, ◌-◌, ◌<◌, ◌≤◌, Bool, true, false, Option, Some, None, List, [], ◌∷◌, ◌++◌, length, drop, get_or, take, append-nil, arith, refl, sym, ap, ap₂}
use Rattle.std.specs.Prelude.{◌&&◌, nat_lt, if◌then◌else◌}
use Rattle.std.proofs.lemmas.Bool.Decides.{nat_tests}
use Rattle.std.proofs.lemmas.List.{drop_all, drop_more, take_all}
use Rattle.rp_drawing.specs.Stops.{is_stop, stop_by, stop_text}
use Rattle.rp_drawing.specs.declared.sketch.Mark.{Mark}
use Rattle.rp_drawing.specs.declared.sketch.Row.{Row}

-- the moments from one place before
pub drop_before : (rows : List Row) (place : ℕ) (row : Row) → 0 < place → place ≤ length rows → row ≡ get_or rows (place - 1) row
    → drop (place - 1) rows ≡ row ∷ drop place rows
drop_before rows place row some within is =
    let below : place - 1 < length rows = omega (arith, some, within) in
    let next : place - 1 + 1 ≡ place = omega (arith, some) in
    drop_more rows (place - 1) row below
    ∙ ap₂ (λ (r : Row) (n : ℕ). r ∷ drop n rows) (sym is) next

-- what a `Vec` has after a write to all of it
pub all_written : (new items : List ℕ) (count : ℕ) → length new ≡ length items → length new ≤ count → take count (new ++ drop (length new) items) ≡ new
all_written new items count same few =
    ap (λ (l : List ℕ). take count (new ++ l)) (drop_all (length new) items (omega (arith, same)))
    ∙ ap (take count) (append-nil new)
    ∙ take_all count new few

module _ (lanes : ℕ) (f g : ℕ → ℕ) (same : (lane : ℕ) → lane < lanes → f lane ≡ g lane) where
  second_true : (a b : Bool) → (a && b) ≡ true → b ≡ true
  second_true true b is = is
  second_true false b is = absurd (cc)

  stop_if : (b : Bool) (lane y : ℕ) → (b ≡ true → lane < lanes)
      → (if b then stop_text lanes lane y (f lane) ++ 10 ∷ [] else []) ≡ (if b then stop_text lanes lane y (g lane) ++ 10 ∷ [] else [])
  stop_if true lane y within = ap (λ (to_y : ℕ). stop_text lanes lane y to_y ++ 10 ∷ []) (same lane (within refl))
  stop_if false lane y within = refl

  -- it depends on the next restarts of the lanes of the page alone
  pub stop_same : (y : ℕ) (mark : Option Mark) → stop_by lanes y f mark ≡ stop_by lanes y g mark
  stop_same y None = refl
  stop_same y (Some mark) =
      stop_if (is_stop mark.kind && nat_lt mark.lane lanes) mark.lane y (λ both. lane_within (second_true (is_stop mark.kind) (nat_lt mark.lane lanes) both))
    where
      lane_within : nat_lt mark.lane lanes ≡ true → mark.lane < lanes
      lane_within is = grind (arith, nat_tests, is)
