-- Rule by rule.
use Rattle.std.proofs.Common.{◌≡◌, ℕ, Some, List, [], ◌∷◌, ◌++◌, Bool, true, false, arith}
use Rattle.std.specs.Prelude.{is_some, if◌then◌else◌}
use Rattle.std.specs.List.{list_any}
use Rattle.rp_explore_run.specs.declared.answer.Verdict.TheVariants as verdicts
use Rattle.rp_explore_run.specs.declared.findings.Judged.{Judged}
use Rattle.rp_explore_run.proofs.laws.a_broken_rule_is_told_first.Goals as goal

some_broken : (before after : List Judged) (judged : Judged) (place : ℕ) → judged.broken ≡ Some place → list_any (λ j. is_some j.broken) (before ++ judged ∷ after) ≡ true
some_broken [] after judged place is = grind (arith, is)
some_broken (first ∷ before) after judged place is = grind (arith, some_broken before after judged place is)

pub returns : goal.returns
returns c = record {
  broken = λ is_whole before after judged place is. grind (arith, some_broken before after judged place is);
  whole = λ judged is. grind (arith, is);
  part = λ judged is. grind (arith, is);
}
