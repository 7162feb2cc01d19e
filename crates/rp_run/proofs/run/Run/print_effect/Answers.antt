-- Where no more is printed, the reply is all.
use Rattle.std.proofs.Common.{sym, ◌∙◌}
use Rattle.rp_output.proofs.Writing.{writes_same}
use Rattle.rp_run.proofs.Taken.{just_taken}
use Rattle.rp_run.proofs.run.Run.print_effect.Goals as goal

pub returns-else-prints_more-clause-printed : goal.returns-else-prints_more-clause-printed
returns-else-prints_more-clause-printed g c =
    let none = sym c.prints_more.ensures ∙ c.if-prints_more.false in
    writes_same _ _ _ _ c.print_taken.result (just_taken c.args.options.now c.args.self.now.cluster.world c.args.event.now c.args.effect.now none) c.print_taken.ensures.printed
