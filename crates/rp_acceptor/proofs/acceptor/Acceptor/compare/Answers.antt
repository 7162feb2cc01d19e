use Rattle.std.proofs.Common.{rules, ◌≡◌, ℕ, ◌<◌, max, List, subst, ap, ◌∙◌, sym}
use Rattle.rp_base.specs.declared.record.Rec.{Rec}
use Rattle.rp_base.specs.Ranges.{positions_of}
use Rattle.rp_base.specs.Records.{bound_at}
use Rattle.rp_acceptor.specs.declared.comparison.Comparison.{Comparison}
use Rattle.rp_acceptor.specs.Comparing.{compared, combined}
use Rattle.rp_acceptor.specs.Noted.{Noted}
use Rattle.rp_acceptor.specs.Slots.{bound_of, kept_at, AreBoundsOf}
use Rattle.rp_acceptor.specs.Levels.{holding_ballot}
use Rattle.rp_acceptor.proofs.Comparing.{compared_same, combined_all}
use Rattle.rp_acceptor.proofs.acceptor.Acceptor.compare.Goals as goal

pub returns : goal.returns
returns c =
    let range = c.args.range in
    let b : ℕ = c.args.ballot in
    let records : List Rec = c.self.inside.records in
    let levels = c.self.inside.levels in
    let some : 0 < b = search rules in
    let are : AreBoundsOf c.places.result.bounds records range =
    subst (λ (n : Noted). AreBoundsOf c.places.result.bounds n.records range) (sym c.self.view_is) c.places.ensures.bounds in
    let single : c.compare-single.result ≡ compared (λ i. bound_of (kept_at records i)) b (positions_of range) = c.compare-single.ensures ∙ are b some in
    c.combined.ensures
    ∙ ap (λ (x : Comparison). combined x c.compare-single.result) c.compare.ensures
    ∙ ap (combined (compared (holding_ballot levels) b (positions_of range))) single
    ∙ combined_all (holding_ballot levels) (λ i. bound_of (kept_at records i)) b range.first range.count
    ∙ compared_same (λ i. max (holding_ballot levels i) (bound_of (kept_at records i))) (bound_at records) b range.first range.count (λ i from within. c.self.invariant.bounds i)
    ∙ ap (λ (n : Noted). compared (bound_at n.records) b (positions_of range)) c.self.view_is
