use Rattle.std.proofs.Common.{◌≡◌, ℕ, ◌+◌, ◌-◌, List, ◌++◌, ap, ◌∙◌, sym, arith}
use Rattle.std.specs.Prelude.{filter_map}
use Rattle.std.specs.List.{range_with_len}
use Rattle.rp_base.specs.declared.placed.PlacedVote.{PlacedVote}
use Rattle.rp_base.specs.PlacedVotes.{placed_last}
use Rattle.rp_acceptor.specs.declared.comparison.Comparison.{Comparison}
use Rattle.rp_acceptor.specs.Comparing.{compared, compared_bounds, followed_by}
use Rattle.rp_acceptor.specs.Slots.{Kept, bound_of, kept_at, votes_from, bounds_from}
use Rattle.rp_acceptor.proofs.Comparing.{compared_bounds_parts, compared_places, compared_parts}
use Rattle.rp_acceptor.proofs.Placing.{placed_there, placed_parts}
use Rattle.rp_acceptor.proofs.places.Places.of.Goals as goal

pub returns-clause-votes : goal.returns-clause-votes
returns-clause-votes c = λ records are.
    let first : ℕ = c.args.range.first in
    let count : ℕ = c.args.range.count in
    let index : ℕ = c.index_of_position-index.result in
    let split : ℕ = c.min-split.result in
    let near : List Kept = c.places_at.result.now in
    let far : List Kept = c.places_at-2.result.now in
    let at : index + 1 ≡ first = c.index_of_position-index.ensures ∙ c.first.ensures.value in
    let many : c.from-count.result ≡ count = c.from-count.ensures ∙ c.count.ensures.value in
    let few = c.min-split.ensures in
    ap (λ (l : List PlacedVote). l ++ votes_from (first + split) far)
    (placed_there records near first split c.places_at.ensures.few
    (λ k within. c.places_at.ensures.kept k within ∙ are (index + k) ∙ ap (kept_at records) (omega (arith, at))))
    ∙ ap (λ (l : List PlacedVote). filter_map (placed_last records) (range_with_len first split) ++ l)
    (placed_there records far (first + split) (c.from-count.result - split) c.places_at-2.ensures.few
    (λ k within. c.places_at-2.ensures.kept k within ∙ are (index + split + k) ∙ ap (kept_at records) (omega (arith, at))))
    ∙ placed_parts records first split (c.from-count.result - split) (first + split) count (omega (arith, many, few)) (omega arith)

pub returns-clause-bounds : goal.returns-clause-bounds
returns-clause-bounds c = λ records are b some.
    let first : ℕ = c.args.range.first in
    let count : ℕ = c.args.range.count in
    let index : ℕ = c.index_of_position-index.result in
    let split : ℕ = c.min-split.result in
    let near : List Kept = c.places_at.result.now in
    let far : List Kept = c.places_at-2.result.now in
    let bound : ℕ → ℕ = λ i. bound_of (kept_at records i) in
    let at : index + 1 ≡ first = c.index_of_position-index.ensures ∙ c.first.ensures.value in
    let many : c.from-count.result ≡ count = c.from-count.ensures ∙ c.count.ensures.value in
    let few = c.min-split.ensures in
    compared_bounds_parts b (bounds_from first near) (bounds_from (first + split) far)
    ∙ ap (λ (x : Comparison). followed_by x (compared_bounds b (bounds_from (first + split) far)))
    (compared_places records near b first split some c.places_at.ensures.few
    (λ k within. c.places_at.ensures.kept k within ∙ are (index + k) ∙ ap (kept_at records) (omega (arith, at))))
    ∙ ap (followed_by (compared bound b (range_with_len first split)))
    (compared_places records far b (first + split) (c.from-count.result - split) some c.places_at-2.ensures.few
    (λ k within. c.places_at-2.ensures.kept k within ∙ are (index + split + k) ∙ ap (kept_at records) (omega (arith, at))))
    ∙ sym (compared_parts bound b first split (c.from-count.result - split) (first + split) count (omega (arith, many, few)) (omega arith))
