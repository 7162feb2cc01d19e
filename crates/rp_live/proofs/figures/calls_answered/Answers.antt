-- The run of the fold goes over all ends.
use Rattle.std.proofs.Common.{◌+◌, min, ap, ◌∙◌, rules}
use Rattle.std.specs.List.{fold}
use Rattle.std.specs.Prelude.{length}
use Rattle.rp_board.specs.Parts.{task_of}
use Rattle.rp_live.proofs.Sums.{sum_folded}
use Rattle.rp_live.proofs.figures.calls_answered.Goals as goal

pub returns : goal.returns
returns g c =
    let p = c.fold.ensures.runs in
    let q = c.iter.ensures.runs p.0 p.0.seen in
    p.3 (λ sum end. min (sum + length (task_of end.now.seat.part.role).replies) 18446744073709551615) (search rules) ∙ (q.5 (λ sum end. min (sum + length (task_of end.seat.part.role).replies) 18446744073709551615) 0 p.2
    ∙ ap (λ s. fold (λ sum end. min (sum + length (task_of end.seat.part.role).replies) 18446744073709551615) 0 s.rest.now) p.1
    ∙ ap (fold (λ sum end. min (sum + length (task_of end.seat.part.role).replies) 18446744073709551615) 0) c.iter.ensures.rest ∙ sum_folded (λ end. length (task_of end.seat.part.role).replies) 0 c.args.tasks.now)
