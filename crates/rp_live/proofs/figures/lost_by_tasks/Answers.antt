-- The run of the fold goes over all ends.
use Rattle.std.proofs.Common.{◌+◌, min, ap, ◌∙◌, rules}
use Rattle.std.specs.List.{fold}
use Rattle.rp_live.proofs.Sums.{sum_folded}
use Rattle.rp_live.proofs.figures.lost_by_tasks.Goals as goal

pub returns : goal.returns
returns g c =
    let p = c.fold.ensures.runs in
    let q = c.iter.ensures.runs p.0 p.0.seen in
    p.3 (λ sum end. min (sum + end.now.lost) 18446744073709551615) (search rules) ∙ (q.5 (λ sum end. min (sum + end.lost) 18446744073709551615) 0 p.2
    ∙ ap (λ s. fold (λ sum end. min (sum + end.lost) 18446744073709551615) 0 s.rest.now) p.1
    ∙ ap (fold (λ sum end. min (sum + end.lost) 18446744073709551615) 0) c.iter.ensures.rest ∙ sum_folded (λ end. end.lost) 0 c.args.tasks.now)
