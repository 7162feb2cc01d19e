use Rattle.std.proofs.Common.{List, sym, ap, ◌∙◌}
use Rattle.rp_acceptor.specs.Levels.{Level, holding_ballot, ballot_before}
use Rattle.rp_acceptor.proofs.Splitting.{ballot_by}
use Rattle.rp_acceptor.proofs.levels.Levels.number.Goals as goal

pub returns-clause-value : goal.returns-clause-value
returns-clause-value c =
    c.number_before.ensures.value
    ∙ ap (λ (l : List Level). ballot_before 0 l c.count_below-count.result) (c.deref-2.ensures.value ∙ sym c.deref.ensures.value)
    ∙ sym (ballot_by 0 c.deref.result.now c.args.position c.count_below-count.result c.count_below-count.ensures.below c.count_below-count.ensures.not_below)
    ∙ ap (λ (l : List Level). holding_ballot l c.args.position) (c.deref.ensures.value ∙ c.self.view_is)
