use Rattle.std.proofs.Common.{◌≡◌, ◌∙◌, ap, pos, rules, Some}
use Rattle.clap.specs.declared.builder.value_parser.ValueParser.TheVariants.{Signed}
use Rattle.rp_command_line.proofs.args.position_option.Goals as goal

pub returns-clause-rule : goal.returns-clause-rule
returns-clause-rule c =
    let given = c.value_parser-2.ensures.given in
    let made : c.range.result ≡ Signed (pos 1) (pos 65535) = rw (c.value_parser.ensures) at c.range.ensures in
    let many : c.value_parser-2.result.value_parser ≡ Some (Signed (pos 1) (pos 65535)) = given.1 ∙ ap Some (given.2 ∙ made) in
    search (rules, many)
