-- One answer more.
use Rattle.std.proofs.Common.{◌≡◌, List, ap, sym, ◌∙◌}
use Rattle.rp_machine.specs.declared.numbered.Caller.{Caller}
use Rattle.rp_machine.specs.Numbered.{with_answer}
use Rattle.rp_machine.proofs.Holding.{with_answers-more}
use Rattle.rp_machine.proofs.numbered.hear.Goals as goal

pub loop-answer-preserved : goal.loop-answer-preserved
loop-answer-preserved c =
    let place : c.from.result ≡ c.answer-item.result.task = c.from.ensures ∙ c.get.ensures.value in
    rw place (
    ap (λ (callers : List Caller). with_answer callers c.answer-item.result) c.loop-answer.invariant
    ∙ sym (with_answers-more c.args.callers.now c.args.answers.now c.loop-answer.answer-index c.answer-item.result c.loop-answer-test.true c.answer-item.is)
    )
