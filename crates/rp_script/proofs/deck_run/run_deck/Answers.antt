-- The program is the one that was matched.
use Rattle.std.proofs.Common.{OnOk, sym, ap, subst}
use Rattle.rp_script.specs.Agreeing.{PrintsAt}
use Rattle.rp_script.specs.Output.{output_by, tally_run, objects_run, drain_limit}
use Rattle.rp_run.proofs.Printing.{prints_if}
use Rattle.rp_output.proofs.Writing.{writes_nothing, writes_same}
use Rattle.rp_script.proofs.deck_run.run_deck.Goals as goal

pub returns-in_err-devices-clause-output : goal.returns-in_err-devices-clause-output
returns-in_err-devices-clause-output g c = writes_nothing _ _ c.from_residual.result c.from_residual.ensures.0

pub returns-in-Tally-clause-output : goal.returns-in-Tally-clause-output
returns-in-Tally-clause-output g c =
    let output = c.run_lines.ensures.output in
    writes_same _ _ _ _ c.run_lines.result (ap (output_by c.args.traced c.args.deck) (sym c.in-Tally.is)) (rw c.as_slice-lines.ensures.value at output)

pub returns-clause-output : goal.returns-clause-output
returns-clause-output g c =
    let output = c.run_lines-in-Objects.ensures.output in
    writes_same _ _ _ _ c.run_lines-in-Objects.result (ap (output_by c.args.traced c.args.deck) (sym c.in-Objects.is)) (rw c.as_slice-lines.ensures.value at output)

pub returns-in-Tally-clause-headline : goal.returns-in-Tally-clause-headline
returns-in-Tally-clause-headline g c =
    let lines = c.args.deck.script.items in
    let old = g.W.Write.contents c.args.writer.now in
    let new = g.W.Write.contents c.run_lines.new.writer in
    let program = c.in-Tally.program in
    let answer = c.run_lines.result in
    subst (λ p. OnOk answer (PrintsAt c.args.traced c.args.deck old new p)) (sym c.in-Tally.is)
    (prints_if (tally_run c.args.traced c.args.deck program) drain_limit lines old new answer
    (rw c.as_slice-lines.ensures.value at c.run_lines.ensures.output)
    (rw c.as_slice-lines.ensures.value at (c.scripts_agree.ensures.printed program))
    (rw c.as_slice-lines.ensures.value at (c.scripts_agree.ensures.agrees program)))

pub returns-clause-headline : goal.returns-clause-headline
returns-clause-headline g c =
    let lines = c.args.deck.script.items in
    let old = g.W.Write.contents c.args.writer.now in
    let new = g.W.Write.contents c.run_lines-in-Objects.new.writer in
    let program = c.in-Objects.program in
    let answer = c.run_lines-in-Objects.result in
    subst (λ p. OnOk answer (PrintsAt c.args.traced c.args.deck old new p)) (sym c.in-Objects.is)
    (prints_if (objects_run c.args.traced c.args.deck program) drain_limit lines old new answer
    (rw c.as_slice-lines.ensures.value at c.run_lines-in-Objects.ensures.output)
    (rw c.as_slice-lines.ensures.value at (c.scripts_agree-in-Objects.ensures.printed program))
    (rw c.as_slice-lines.ensures.value at (c.scripts_agree-in-Objects.ensures.agrees program)))
