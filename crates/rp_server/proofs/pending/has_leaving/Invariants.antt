use Rattle.std.proofs.Common.{◌≡◌, drop, Bool, not}
use Rattle.std.specs.List.{list_any}
use Rattle.rp_base.specs.declared.action.Action.{Action}
use Rattle.rp_machine.specs.Numbered.{outcome}
use Rattle.rp_model.specs.Pending.{stays}
use Rattle.rp_server.proofs.pending.has_leaving.Given as goal

-- all of those so far stay, so what the rest has is what all have
abbrev pub invariant-loop-item : goal.invariant-loop-item
invariant-loop-item g l =
    let r = outcome g.M.Machine.next g.M.Machine.answers l.machine in
    let leaves : Action → Bool = λ item. not (stays r.kept r.given (drop l.before l.log.taken) item) in
    list_any leaves (drop l.item-index l.items) ≡ list_any leaves l.items
