-- The task's last call has no reply.
use Rattle.std.proofs.Common.{◌∙◌}
use Rattle.rp_machine.specs.Numbered.{outcome}
use Rattle.rp_machine.proofs.Numbering.{counted}
use Rattle.rp_machine.proofs.Asking.{waits_as}
use Rattle.rp_machine.proofs.numbered.Numbered.waits.Goals as goal

pub returns : goal.returns
returns g c =
    let m = g.M.Machine in
    let applied = c.args.self.now in
    let r = outcome m.next m.answers applied in
    c.waits.ensures ∙ waits_as r.kept r.given (counted m.next m.answers applied.begin applied.actions) c.args.task c.caller.result.last c.caller.result.reply c.caller.ensures.last c.caller.ensures.reply
