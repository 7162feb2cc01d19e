use Rattle.std.proofs.Common.{ℕ, ◌+◌, ◌-◌, ap, sym, ◌∙◌}
use Rattle.rp_model.specs.Leader.{is_out_of_reach}
use Rattle.rp_server.proofs.Covered.{range_out}
use Rattle.rp_rules.proofs.ranges.is_range_out_of_reach.Goals as goal

pub returns-clause-out : goal.returns-clause-out
returns-clause-out g c =
    let h = c.args.server.now in
    c.is_out_of_reach.ensures
    ∙ ap (is_out_of_reach h.config.max_positions h.records) (c.at.ensures ∙ ap (λ (n : ℕ). c.args.range.first + (n - 1)) c.count.ensures.value)
    ∙ sym (range_out h.config.max_positions h.records c.args.range c.count.ensures.range.count.0)
