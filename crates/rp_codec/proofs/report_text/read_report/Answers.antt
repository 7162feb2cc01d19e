use Rattle.std.proofs.Common.{◌≡◌, refl, arith}
use Rattle.rp_codec.specs.declared.packet.Body.TheVariants.{Report}
use Rattle.rp_codec.specs.Message.{report_len}
use Rattle.rp_codec.proofs.ListReading.{report_found}
use Rattle.rp_codec.proofs.report_text.read_report.Goals as goal

pub returns : goal.returns
returns c =
    let actions = c.in_ok-skip_actions.ensures.0 in
    let counted : c.in_ok-count.count ≡ report_len c.in_ok-first.first c.in_ok-applied.applied = omega arith in
    let found = report_found c.args.version c.args.reader.now c.read_position.new.reader c.u16.new.self c.byte.new.self c.again-actions.result c.skip_actions.new.reader c.in_ok-first.first c.in_ok-applied.applied c.in_ok-count.count actions
    c.in_ok-first.ensures c.in_ok-applied.ensures c.in_ok-count.ensures counted c.again-actions.ensures c.in_ok-skip_actions.ensures.1 in
    (Report c.in_ok-first.first c.in_ok-applied.applied actions, (actions, found.0, refl), found.1)
