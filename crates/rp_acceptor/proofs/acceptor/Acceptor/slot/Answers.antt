use Rattle.std.proofs.Common.{◌≡◌, ℕ, max, List, ap, ◌∙◌, arith}
use Rattle.rp_base.specs.Records.{bound_at}
use Rattle.rp_acceptor.specs.Noted.{Noted}
use Rattle.rp_acceptor.specs.Levels.{holding_ballot}
use Rattle.rp_acceptor.specs.Slots.{Kept, nothing_kept, bound_of, kept_at, kept_of}
use Rattle.rp_acceptor.proofs.acceptor.Acceptor.slot.Goals as goal

pub returns-in-Some-clause-bound : goal.returns-in-Some-clause-bound
returns-in-Some-clause-bound c =
    let at : c.from.result ≡ c.args.position = c.from.ensures ∙ c.get.ensures.value in
    let kept : c.in-Some.kept.now ≡ kept_at c.self.inside.records c.args.position =
    c.in-Some.ensures ∙ ap (λ (l : List (List Kept)). kept_of l c.index_of_position.result) c.deref.ensures.value
    ∙ c.self.invariant.kept.right c.index_of_position.result ∙ ap (kept_at c.self.inside.records) c.index_of_position.ensures in
    c.max.ensures
    ∙ ap (λ (n : ℕ). max c.number-promised.result n) c.bound_number.ensures.value
    ∙ ap (λ (n : ℕ). max n (bound_of c.in-Some.kept.now)) (c.number-promised.ensures.value ∙ ap (holding_ballot c.self.inside.levels) at)
    ∙ ap (λ (k : Kept). max (holding_ballot c.self.inside.levels c.args.position) (bound_of k)) kept
    ∙ c.self.invariant.bounds c.args.position
    ∙ ap (λ (n : Noted). bound_at n.records c.args.position) c.self.view_is

pub returns-in-None-clause-bound : goal.returns-in-None-clause-bound
returns-in-None-clause-bound c =
    let at : c.from.result ≡ c.args.position = c.from.ensures ∙ c.get.ensures.value in
    let none : nothing_kept ≡ kept_at c.self.inside.records c.args.position =
    c.in-None.ensures ∙ ap (λ (l : List (List Kept)). kept_of l c.index_of_position.result) c.deref.ensures.value
    ∙ c.self.invariant.kept.right c.index_of_position.result ∙ ap (kept_at c.self.inside.records) c.index_of_position.ensures in
    let least : c.number-promised.result ≡ max c.number-promised.result (bound_of nothing_kept) = omega arith in
    least
    ∙ ap (λ (n : ℕ). max n (bound_of nothing_kept)) (c.number-promised.ensures.value ∙ ap (holding_ballot c.self.inside.levels) at)
    ∙ ap (λ (k : Kept). max (holding_ballot c.self.inside.levels c.args.position) (bound_of k)) none
    ∙ c.self.invariant.bounds c.args.position
    ∙ ap (λ (n : Noted). bound_at n.records c.args.position) c.self.view_is
