-- Only calls that counted are answered.
use Rattle.rp_machine.specs.Numbered.{outcome}
use Rattle.rp_machine.proofs.Asking.{open_above}
use Rattle.rp_machine.proofs.numbered.Numbered.is_open.Goals as goal

pub returns-then-caller-number : goal.returns-then-caller-number
returns-then-caller-number g c =
    let r = outcome g.M.Machine.next g.M.Machine.answers c.args.self.now in
    open_above r.kept r.given c.args.task c.args.number c.caller-caller.result.last c.caller-caller.ensures.last c.if-caller-number.true
    (c.caller-caller.ensures.above c.args.number c.if-caller-number.true)
