use Rattle.std.proofs.Common.{◌≡◌, ◌∙◌, ap, pos, rules, Some}
use Rattle.clap.specs.declared.builder.value_parser.ValueParser.TheVariants.{Signed}
use Rattle.rp_command_line.proofs.args.seed_option.Goals as goal

pub returns-clause-rule : goal.returns-clause-rule
returns-clause-rule c =
    let given = c.value_parser-2.ensures.given in
    let many : c.value_parser-2.result.value_parser ≡ Some (Signed (pos 0) (pos 4294967295)) = given.1 ∙ ap Some (given.2 ∙ c.value_parser.ensures) in
    search (rules, many)
