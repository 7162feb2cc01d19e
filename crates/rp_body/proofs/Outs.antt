-- The out value of a body fits 64 signed bits.
use Rattle.std.proofs.Common.{◌≡◌, ◌-◌, ◌≤◌, ◌^◌, ℤ, pos, negsuc, Bool, true, false, cond, List, [], ◌∷◌, map, refl, sym, subst, FitsSigned, w64, arith}
use Rattle.std.specs.Prelude.{int_le, if◌then◌else◌}
use Rattle.std.proofs.lemmas.Bool.{and_parts, leb-true}
use Rattle.rp_body.specs.declared.statement.Stmt.{Stmt}
use Rattle.rp_body.specs.declared.statement.Stmt.TheOpen.{Stmt-F}
use Rattle.rp_body.specs.declared.statement.Stmt.TheFolds.{fold-roll-Stmt, ind-Stmt, map-Stmt}
use Rattle.rp_body.specs.declared.statement.Outcome.{Outcome}
use Rattle.rp_body.specs.declared.statement.Outcome.TheVariants.{Out, Raised}
use Rattle.rp_body.specs.Store.{Store, with_int}
use Rattle.rp_body.specs.Expressions.{value_of, truth_of, fits_64}
use Rattle.rp_body.specs.Meaning.{Effect, then_do, in_order, assigned, effect_of_step, effect_of, effects_of, body_effect}

-- a number that passes the test fits
pub fits_signed : (z : ℤ) → fits_64 z ≡ true → FitsSigned w64 z
fits_signed (pos n) e =
    let below : n ≤ 2 ^ 63 - 1 = leb-true n (2 ^ 63 - 1) (and_parts (int_le (negsuc (2 ^ 63 - 1)) (pos n)) (int_le (pos n) (pos (2 ^ 63 - 1))) e).1 in
    record { sfits = omega (arith, below) }
fits_signed (negsuc n) e =
    let above : n ≤ 2 ^ 63 - 1 = leb-true n (2 ^ 63 - 1) (and_parts (int_le (negsuc (2 ^ 63 - 1)) (negsuc n)) (int_le (negsuc n) (pos (2 ^ 63 - 1))) e).0 in
    record { sfits = omega (arith, above) }

-- an out value fits
abbrev pub OutFits : Outcome → Type 0
OutFits (Out out) = FitsSigned w64 out
OutFits Raised = Unit {0}

then_fits : (ran : Store × Outcome) (next : Effect) → OutFits ran.1 → ((s : Store) (o : ℤ) → FitsSigned w64 o → OutFits (next s o).1) → OutFits (then_do ran next).1
then_fits (s, Out o) next first rest = rest s o first
then_fits (s, Raised) next first rest = tt

assigned_fits : (out : ℤ) (ran : Store × Bool) → FitsSigned w64 out → OutFits (assigned out ran).1
assigned_fits out (next, true) fits = fits
assigned_fits out (next, false) fits = tt

put_out_fits : (value : ℤ) (b : Bool) → fits_64 value ≡ b → OutFits (let ended : Outcome = if b then Out value else Raised in ended)
put_out_fits value true e = fits_signed value e
put_out_fits value false e = tt

abbrev Fits : ℤ → Stmt → Type 0
Fits arg statement = (store : Store) (out : ℤ) → FitsSigned w64 out → OutFits (effect_of arg statement store out).1

each_fits : (arg : ℤ) (body : List ((s : Stmt) × Fits arg s)) (store : Store) (out : ℤ) → FitsSigned w64 out → OutFits (in_order (map (effect_of arg) (map (λ e. e.0) body)) store out).1
each_fits arg [] store out fits = fits
each_fits arg (e ∷ rest) store out fits =
    then_fits (effect_of arg e.0 store out) (in_order (map (effect_of arg) (map (λ e. e.0) rest))) (e.1 store out fits) (λ s o. each_fits arg rest s o)

abbrev step_of : ℤ → Stmt-F Stmt → Store → ℤ → Outcome
step_of arg z store out = (effect_of_step arg (map-Stmt Stmt Effect (effect_of arg) z) store out).1

step_fits : (arg : ℤ) (y : Stmt-F ((s : Stmt) × Fits arg s)) (store : Store) (out : ℤ) → FitsSigned w64 out → OutFits (step_of arg (map-Stmt ((s : Stmt) × Fits arg s) Stmt (λ e. e.0) y) store out)
step_fits arg (Stmt-F.Set name expr) store out fits = assigned_fits out (with_int store name (value_of expr store arg out)) fits
step_fits arg (Stmt-F.Put name test) store out fits = fits
step_fits arg (Stmt-F.Out expr) store out fits = put_out_fits (value_of expr store arg out) (fits_64 (value_of expr store arg out)) refl
step_fits arg (Stmt-F.If test first second) store out fits =
    elim (truth_of test store arg out) as (λ b. OutFits (cond {A = Store × Outcome} b (in_order (map (effect_of arg) (map (λ e. e.0) first.items)) store out) (in_order (map (effect_of arg) (map (λ e. e.0) second.items)) store out)).1)
    [ true ↦ each_fits arg first.items store out fits | false ↦ each_fits arg second.items store out fits ]

statement_fits : (arg : ℤ) (statement : Stmt) → Fits arg statement
statement_fits arg = ind-Stmt (Fits arg) (λ x y is store out fits.
    subst (λ (e : Effect). OutFits (e store out).1) (sym (fold-roll-Stmt Effect (effect_of_step arg) x))
    (subst (λ z. OutFits (step_of arg z store out)) is (step_fits arg y store out fits)))

effects_fit : (arg : ℤ) (body : List Stmt) (store : Store) (out : ℤ) → FitsSigned w64 out → OutFits (effects_of arg body store out).1
effects_fit arg [] store out fits = fits
effects_fit arg (s ∷ rest) store out fits =
    then_fits (effect_of arg s store out) (in_order (map (effect_of arg) rest)) (statement_fits arg s store out fits) (λ t o. effects_fit arg rest t o)

pub out_fits : (body : List Stmt) (arg : ℤ) (store : Store) → OutFits (body_effect body arg store).1
out_fits body arg store = effects_fit arg body store (pos 0) (fits_signed (pos 0) refl)
