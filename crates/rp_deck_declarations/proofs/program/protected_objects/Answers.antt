-- The program has these declarations.
use Rattle.std.proofs.Common.{◌≡◌, rules, sym, subst}
use Rattle.std.specs.Arc.{arc_value}
use Rattle.rp_deck_declarations.specs.Programs.{AreAllNamed}
use Rattle.rp_deck_declarations.proofs.program.protected_objects.Goals as goal

pub returns-clause-named : goal.returns-clause-named
returns-clause-named c =
    let same : arc_value c.unwrap-program.result.declarations ≡ c.args.declarations = search rules in
    λ all. subst (λ declarations. AreAllNamed declarations.objects.items c.args.operations.items) (sym same) all
