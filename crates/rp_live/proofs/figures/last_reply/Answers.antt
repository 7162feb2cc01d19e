-- The run of the fold goes over all ends.
use Rattle.std.proofs.Common.{max, ap, ◌∙◌, rules}
use Rattle.std.specs.List.{fold}
use Rattle.rp_live.proofs.Sums.{greatest_folded}
use Rattle.rp_live.proofs.figures.last_reply.Goals as goal

pub returns : goal.returns
returns g c =
    let p = c.fold.ensures.runs in
    let q = c.iter.ensures.runs p.0 p.0.seen in
    p.3 (λ last end. max last end.now.last_reply) (search rules) ∙ (q.5 (λ last end. max last end.last_reply) 0 p.2
    ∙ ap (λ s. fold (λ last end. max last end.last_reply) 0 s.rest.now) p.1
    ∙ ap (fold (λ last end. max last end.last_reply) 0) c.iter.ensures.rest ∙ greatest_folded (λ end. end.last_reply) 0 c.args.tasks.now)
