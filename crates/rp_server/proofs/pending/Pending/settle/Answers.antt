use Rattle.std.proofs.Common.{drop, sym, ◌∙◌}
use Rattle.rp_machine.specs.Numbered.{outcome}
use Rattle.rp_model.specs.Pending.{stays}
use Rattle.rp_server.proofs.Ticks.{all_stay}
use Rattle.rp_server.proofs.pending.Pending.settle.Goals as goal

pub returns-else-has_leaving : goal.returns-else-has_leaving
returns-else-has_leaving g c =
    let r = outcome g.M.Machine.next g.M.Machine.answers c.args.machine.now in
    sym (all_stay (stays r.kept r.given (drop c.args.before c.args.log.now.taken)) c.args.self.now (sym c.has_leaving.ensures ∙ c.if-has_leaving.false))
