-- By the last number of the task, or the last occurrence of the source.
use Rattle.std.proofs.Common.{ℕ, nat_lt, ap, sym, subst, ◌∙◌}
use Rattle.rp_base.specs.Action.{IsRight}
use Rattle.rp_base.specs.declared.action.Action.{Action}
use Rattle.rp_machine.specs.Replay.{counts}
use Rattle.rp_machine.specs.Numbered.{outcome}
use Rattle.rp_machine.proofs.Numbering.{counted}
use Rattle.rp_machine.proofs.Asking.{call_counts, interrupt_counts}
use Rattle.rp_explore.proofs.replays.counts.Goals as goal

pub returns-in-Call : goal.returns-in-Call
returns-in-Call g c =
    let m = g.M.Machine in
    let applied = c.args.state.now in
    let r = outcome m.next m.answers applied in
    c.is_next.ensures
    ∙ call_counts r.kept r.given (counted m.next m.answers applied.begin applied.actions) c.in-Call.task c.in-Call.number c.in-Call.object c.in-Call.operation c.in-Call.arg
    ∙ ap (λ (action : Action). counts r.kept r.given action) (sym c.in-Call.is)

pub returns-in-Interrupt : goal.returns-in-Interrupt
returns-in-Interrupt g c =
    let m = g.M.Machine in
    let r = outcome m.next m.answers c.args.state.now in
    let right = subst IsRight c.in-Interrupt.is c.requires in
    ap (λ (n : ℕ). nat_lt n c.in-Interrupt.occurrence) c.last_occurrence.ensures
    ∙ interrupt_counts r.kept r.given c.in-Interrupt.source c.in-Interrupt.occurrence right.1.0
    ∙ ap (λ (action : Action). counts r.kept r.given action) (sym c.in-Interrupt.is)
