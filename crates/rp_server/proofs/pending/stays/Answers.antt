use Rattle.std.proofs.Common.{◌≡◌, not, drop, sym, ap, ◌∙◌}
use Rattle.std.specs.List.{list_any}
use Rattle.rp_base.specs.Action.{same_action}
use Rattle.rp_base.specs.declared.action.Action.TheVariants.{Tick}
use Rattle.rp_machine.specs.Numbered.{outcome}
use Rattle.rp_model.specs.Pending.{stays}
use Rattle.rp_server.proofs.Ticks.{none_like}
use Rattle.rp_server.proofs.pending.stays.Goals.{then-ticked, else-ticked}
use Rattle.rp_server.proofs.pending.stays.Goals as goal

pub returns-after-ticked : goal.returns-after-ticked
returns-after-ticked g c =
    let r = outcome g.M.Machine.next g.M.Machine.answers c.args.machine.now in
    let applied = drop c.args.before c.args.log.now.taken in
    let is : c.args.item ≡ Tick c.in-Tick.now = sym c.get.ensures.value ∙ c.in-Tick.is in
    let taken : c.if-ticked.result ≡ list_any (same_action (Tick c.in-Tick.now)) applied =
    elim c.if-ticked.branch [
      | then-ticked w ↦ w.result-is ∙ w.has_taken.ensures
      | else-ticked w ↦ w.result-is ∙ w.if-ticked.false ∙ sym (none_like c.in-Tick.now applied (c.requires.ticks w.if-ticked.false))
    ] in
    ap not taken ∙ sym (ap (stays r.kept r.given applied) is)
