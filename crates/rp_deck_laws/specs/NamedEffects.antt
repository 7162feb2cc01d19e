-- What expressions, conditions and bodies do, by the names of components (Ada Reference Manual,
-- sections 4.5.1 to 4.5.3, 5.2, 5.3 and 11.4).
use Rattle.std.specs.Prelude.{ℕ, ℤ, ◌+ℤ◌, ◌-ℤ◌, int_lt, int_le, Bool, ◌&&◌, ◌||◌, not, List}
use Rattle.std.specs.Prelude.{if◌then◌else◌}
use Rattle.std.specs.Ordering.{int_eq}
use Rattle.rp_deck_declarations.specs.rp_body.specs.declared.statement.Outcome.TheVariants.{Out, Raised}
use Rattle.rp_deck_declarations.specs.rp_body.specs.Store.{Store, int_value, bool_value, with_int}
use Rattle.rp_deck_declarations.specs.rp_body.specs.Store.{with_bool}
use Rattle.rp_deck_declarations.specs.rp_body.specs.Expressions.{fits_64}
use Rattle.rp_deck_declarations.specs.rp_body.specs.Meaning.{Effect, then_do, assigned}
use Rattle.rp_deck_laws.specs.Names.{place_in}
use Rattle.rp_deck_laws.specs.Named.{NamedExpr, NamedCond, NamedBody}
use Rattle.rp_deck_laws.specs.Named.{NamedExpr as exprs}
use Rattle.rp_deck_laws.specs.Named.{NamedCond as conds}
use Rattle.rp_deck_laws.specs.Named.{NamedBody as bodies}

-- the components of each kind have these names, in order
module _ (whole truths : List (List ℕ)) where
  abbrev pub value_named : NamedExpr → Store → ℤ → ℤ → ℤ
  value_named (exprs.Number number) store arg out = number
  value_named exprs.Arg store arg out = arg
  value_named exprs.Out store arg out = out
  value_named (exprs.Int name) store arg out = int_value store (place_in name whole)
  value_named (exprs.Add first second) store arg out =
      value_named first store arg out +ℤ value_named second store arg out
  value_named (exprs.Sub first second) store arg out =
      value_named first store arg out -ℤ value_named second store arg out

  abbrev pub truth_named : NamedCond → Store → ℤ → ℤ → Bool
  truth_named (conds.Constant truth) store arg out = truth
  truth_named (conds.Named name) store arg out = bool_value store (place_in name truths)
  truth_named (conds.Less first second) store arg out =
      int_lt (value_named first store arg out) (value_named second store arg out)
  truth_named (conds.LessOrEqual first second) store arg out =
      int_le (value_named first store arg out) (value_named second store arg out)
  truth_named (conds.Equal first second) store arg out =
      int_eq (value_named first store arg out) (value_named second store arg out)
  truth_named (conds.Not negated) store arg out = not (truth_named negated store arg out)
  truth_named (conds.And first second) store arg out =
      truth_named first store arg out && truth_named second store arg out
  truth_named (conds.Or first second) store arg out =
      truth_named first store arg out || truth_named second store arg out

  -- what a body does, given the argument, the components and the out value: its last statement goes
  -- on from where those before it ended
  abbrev pub effect_named : ℤ → NamedBody → Effect
  effect_named arg bodies.Empty store out = (store, Out out)
  effect_named arg (bodies.Set before name value) store out =
      then_do (effect_named arg before store out)
      (λ s o. assigned o (with_int s (place_in name whole) (value_named value s arg o)))
  effect_named arg (bodies.Put before name value) store out =
      then_do (effect_named arg before store out)
      (λ s o. (with_bool s (place_in name truths) (truth_named value s arg o), Out o))
  effect_named arg (bodies.Return before value) store out =
      then_do (effect_named arg before store out)
      (λ s o. (
        s,
        if fits_64 (value_named value s arg o) then Out (value_named value s arg o)
            else Raised,
      ))
  effect_named arg (bodies.If before condition first second) store out =
      then_do (effect_named arg before store out)
      (λ s o. if truth_named condition s arg o then effect_named arg first s o
      else effect_named arg second s o)
