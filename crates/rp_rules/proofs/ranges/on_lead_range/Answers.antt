use Rattle.std.proofs.Common.{sym, ◌∙◌}
use Rattle.rp_rules.specs.Inputs.{running_server}
use Rattle.rp_server.proofs.Covered.{range_full, range_known, range_led, range_near, range_exhausted}
use Rattle.rp_rules.proofs.ranges.on_lead_range.Goals as goal

pub returns-then-is_range_out_of_reach-clause-err : goal.returns-then-is_range_out_of_reach-clause-err
returns-then-is_range_out_of_reach-clause-err g c =
    let h = c.args.server.now in
    sym (range_full (running_server g.M.Machine.next g.M.Machine.answers h) c.args.range c.is_range_out_of_reach.ensures.range (sym c.is_range_out_of_reach.ensures.out ∙ c.if-is_range_out_of_reach.true))

pub returns-then-is_all_learned-clause-ok : goal.returns-then-is_all_learned-clause-ok
returns-then-is_all_learned-clause-ok g c =
    let h = c.args.server.now in
    sym (range_known (running_server g.M.Machine.next g.M.Machine.answers h) c.args.range c.is_range_out_of_reach.ensures.range (sym c.is_range_out_of_reach.ensures.out ∙ c.if-is_range_out_of_reach.false)
    (sym c.is_all_learned.ensures ∙ c.if-is_all_learned.true))

pub returns-in-Some-clause-ok : goal.returns-in-Some-clause-ok
returns-in-Some-clause-ok g c =
    let h = c.args.server.now in
    sym (range_led (running_server g.M.Machine.next g.M.Machine.answers h) c.args.range c.is_range_out_of_reach.ensures.range c.in-Some.ballot (sym c.is_range_out_of_reach.ensures.out ∙ c.if-is_range_out_of_reach.false)
    (sym c.is_all_learned.ensures ∙ c.if-is_all_learned.false) c.in-Some.ensures.value c.in-Some.ensures.some.ballot.round.1)

pub returns-in-Some-clause-may : goal.returns-in-Some-clause-may
returns-in-Some-clause-may g c =
    let h = c.args.server.now in
    record {
      ballot = c.in-Some.ensures.some;
      reach = range_near h.config.max_positions h.records c.args.range c.is_range_out_of_reach.ensures.range.count.0 (sym c.is_range_out_of_reach.ensures.out ∙ c.if-is_range_out_of_reach.false);
    }

pub returns-in-None-clause-err : goal.returns-in-None-clause-err
returns-in-None-clause-err g c =
    let h = c.args.server.now in
    sym (range_exhausted (running_server g.M.Machine.next g.M.Machine.answers h) c.args.range c.is_range_out_of_reach.ensures.range (sym c.is_range_out_of_reach.ensures.out ∙ c.if-is_range_out_of_reach.false)
    (sym c.is_all_learned.ensures ∙ c.if-is_all_learned.false) c.in-None.ensures.exhausted)
