use Rattle.std.proofs.Common.{◌∙◌, List, ℕ, sym, subst}
use Rattle.rp_base.specs.Ranges.{Range}
use Rattle.rp_acceptor.specs.Noted.{Noted}
use Rattle.rp_acceptor.specs.Levels.{HasLevel}
use Rattle.rp_acceptor.specs.Slots.{AreKept}
use Rattle.rp_acceptor.proofs.Covering.{positions_there}
use Rattle.rp_acceptor.proofs.Keeping.{kept_range, kept_split}
use Rattle.rp_acceptor.proofs.Pages.{on_err}
use Rattle.rp_acceptor.proofs.acceptor.Acceptor.reserve_range.Goals as goal

pub invariant_of-self-2 : goal.invariant_of-self-2
invariant_of-self-2 c =
    let noted : Noted = record { records = c.self.inside.records; reserved = c.self.inside.reserved; votes = c.self.inside.votes; ranges = c.self.inside.ranges } in
    let ends = c.in_ok-split_ends.ensures.ends in
    subst (λ (l : List Range). AreKept c.split_ends.new.levels c.self.inside.pages.items (record noted { ranges = l })) (sym c.push.ensures)
    (kept_range c.split_ends.new.levels c.self.inside.pages.items noted c.args.range (
      subst (λ (n : ℕ). HasLevel c.split_ends.new.levels n) (c.from-first.ensures ∙ c.get.ensures.value ∙ c.first.ensures.value) ends.0,
      subst (λ (n : ℕ). HasLevel c.split_ends.new.levels n) c.end.ensures.value ends.1,
    )
    (kept_split c.self.inside.levels c.split_ends.new.levels c.self.inside.pages.items noted c.in_ok-split_ends.ensures.same c.in_ok-split_ends.ensures.keeps c.self.invariant))

pub returns-in_err-split_ends-clause-some : goal.returns-in_err-split_ends-clause-some
returns-in_err-split_ends-clause-some c = on_err c.from_residual.result (positions_there c.args.range c.first.ensures.range)
