use Rattle.std.proofs.Common.{ℕ, ◌+◌, List, sym, ap, ◌∙◌, arith}
use Rattle.rp_acceptor.specs.declared.comparison.Comparison.{Comparison}
use Rattle.rp_acceptor.specs.Comparing.{Bound, compared_bounds, followed_by}
use Rattle.rp_acceptor.specs.Slots.{VotesAndBounds, bounds_from}
use Rattle.rp_acceptor.proofs.Comparing.{compared_bounds_parts}
use Rattle.rp_acceptor.proofs.places.Places.compare.Goals as goal

pub returns : goal.returns
returns c =
    let p = c.self.inside in
    let near : List Bound = bounds_from p.range.first p.near.now in
    let far : List Bound = bounds_from (p.range.first + p.split) p.far.now in
    c.followed_by.ensures
    ∙ ap (λ (x : Comparison). followed_by x c.compare.result)
    (c.compare-near.ensures ∙ ap (λ (i : ℕ). compared_bounds c.args.ballot (bounds_from i p.near.now)) (omega arith))
    ∙ ap (followed_by (compared_bounds c.args.ballot near)) c.compare.ensures
    ∙ sym (compared_bounds_parts c.args.ballot near far)
    ∙ ap (λ (h : VotesAndBounds). compared_bounds c.args.ballot h.bounds) c.self.view_is
