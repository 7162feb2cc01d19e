use Rattle.std.proofs.Common.{List, sym, ap, subst, ◌∙◌}
use Rattle.rp_acceptor.specs.Levels.{Level, IsRising, holding_ballot, HasLevel, raised_at}
use Rattle.rp_acceptor.proofs.Raising.{raising_raises, raised_rising, raised_levels}
use Rattle.rp_acceptor.proofs.levels.Levels.raise.Goals as goal

pub invariant_of-self : goal.invariant_of-self
invariant_of-self c =
    subst (λ (l : List Level). IsRising l) (sym c.raise.ensures) (raised_rising c.args.first c.args.end c.args.ballot c.self.inside.levels.items c.self.invariant)

pub returns-clause-raised : goal.returns-clause-raised
returns-clause-raised c = λ i.
    ap (λ (l : List Level). holding_ballot l i) c.raise.ensures
    ∙ raising_raises c.args.first c.args.end c.args.ballot c.self.inside.levels.items c.self.invariant c.requires.rises
    (subst (λ (l : List Level). HasLevel l c.args.first) (sym c.self.view_is) c.requires.ends.0)
    (subst (λ (l : List Level). HasLevel l c.args.end) (sym c.self.view_is) c.requires.ends.1) i
    ∙ ap (λ (l : List Level). raised_at c.args.first c.args.end c.args.ballot i (holding_ballot l i)) c.self.view_is

pub returns-clause-keeps : goal.returns-clause-keeps
returns-clause-keeps c = λ i has.
    subst (λ (l : List Level). HasLevel l i) (sym c.raise.ensures)
    (raised_levels c.args.first c.args.end c.args.ballot c.self.inside.levels.items i (subst (λ (l : List Level). HasLevel l i) (sym c.self.view_is) has))
