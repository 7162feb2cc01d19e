-- What is asked, as the branch has it.
use Rattle.std.proofs.Common.{◌≡◌, ◌∙◌, Option, Some, None, Bool, length, refl, sym, ap, subst}
use Rattle.std.proofs.lemmas.Option.{slice_get_read, slice_get_past}
use Rattle.rp_base.specs.declared.fault.Fault.{Fault}
use Rattle.rp_board.proofs.SeatBoxes.{at_fault}
use Rattle.rp_replica.specs.rp_model.specs.Tasks.{TaskInput}
use Rattle.rp_threads.specs.TaskRounds.{Asks, IsTaskRefused, asked_in}
use Rattle.rp_threads.proofs.TaskChains.{asked_next, made_next}
use Rattle.rp_threads.proofs.tasks.Caller.ask.Goals as goal

pub returns-in_err-lost-clause-err : goal.returns-in_err-lost-clause-err
returns-in_err-lost-clause-err g c =
    let a = c.args in
    let self = a.self.now in
    let now = c.make.new.seat in
    let fault = c.in_err-lost.field-0.0 in
    let found = c.in-Some.ensures.lookup in
    let here = slice_get_read a.calls.now (length a.calls.now) self.so_far.made c.in-Some.call.now refl found.3.0 found.1 in
    let asked = asked_next a.nodes a.calls.now a.turn self.so_far (Some c.in-Some.call.now) c.if-self.false here in
    at_fault (λ (e : Fault). (self.so_far ≡ self.so_far) × IsTaskRefused (asked_in a.nodes a.calls.now a.turn self.so_far) self.seat now e) fault c.from_residual.result c.from_residual.ensures.1
    (refl, subst (λ (o : Option TaskInput). IsTaskRefused o self.seat now fault) (sym asked) c.in_err-lost.ensures.err)

pub returns-clause-ok : goal.returns-clause-ok
returns-clause-ok g c =
    let m = g.M.Machine in
    let a = c.args in
    let self = a.self.now in
    let found = c.in-Some.ensures.lookup in
    let here = slice_get_read a.calls.now (length a.calls.now) self.so_far.made c.in-Some.call.now refl found.3.0 found.1 in
    let asked = asked_next a.nodes a.calls.now a.turn self.so_far (Some c.in-Some.call.now) c.if-self.false here in
    subst (λ (o : Option TaskInput). Asks m.next m.answers m.begin o self.seat c.make.new.seat c.in_ok-lost.lost) (sym asked) c.in_ok-lost.ensures.ok

pub returns-clause-made : goal.returns-clause-made
returns-clause-made g c =
    let a = c.args in
    let so_far = a.self.now.so_far in
    let found = c.in-Some.ensures.lookup in
    let here = slice_get_read a.calls.now (length a.calls.now) so_far.made c.in-Some.call.now refl found.3.0 found.1 in
    sym (made_next a.nodes a.calls.now a.turn so_far (Some c.in-Some.call.now) c.if-self.false here)

pub returns-in_default-clause-ok : goal.returns-in_default-clause-ok
returns-in_default-clause-ok g c =
    let m = g.M.Machine in
    let a = c.args in
    let self = a.self.now in
    let none = slice_get_past a.calls.now self.so_far.made c.in_default.ensures.lookup.3 in
    subst (λ (o : Option TaskInput). Asks m.next m.answers m.begin o self.seat self.seat 0) (sym (asked_next a.nodes a.calls.now a.turn self.so_far None c.if-self.false none)) (refl, refl)

pub returns-in_default-clause-made : goal.returns-in_default-clause-made
returns-in_default-clause-made g c =
    let a = c.args in
    let so_far = a.self.now.so_far in
    let none = slice_get_past a.calls.now so_far.made c.in_default.ensures.lookup.3 in
    ap (λ (b : Bool). record so_far { waits = b }) c.if-self.false ∙ sym (made_next a.nodes a.calls.now a.turn so_far None c.if-self.false none)
