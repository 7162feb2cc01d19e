use Rattle.std.proofs.Common.{◌≡◌, ◌-◌, Ok, Err, length, refl, sym, subst}
use Rattle.std.proofs.lemmas.Bool.{ltb-false}
use Rattle.std.specs.Prelude.{IfOk}
use Rattle.rp_base.specs.Ranges.{range_of}
use Rattle.rp_model.specs.Effect as inputs
use Rattle.rp_replica.specs.rp_rules.specs.Inputs.{given_by}
use Rattle.rp_replica.specs.rp_rules.specs.declared.input.Input.TheVariants.{LeadRange}
use Rattle.rp_actors.specs.Nodes.{member_of}
use Rattle.rp_world.proofs.Choosing.{none_among, one_among, represents_among, range_given, fault_of, no_node_leads, stopped_leads, leads_no_range}
use Rattle.rp_actors.proofs.Placing.{found_in, placed_at}
use Rattle.rp_world.proofs.world.World.range_for.Goals as goal

pub returns-then-is_running-clause-ok : goal.returns-then-is_running-clause-ok
returns-then-is_running-clause-ok g c =
    subst (λ found. IfOk found (λ range. given_by (LeadRange range) ≡ Ok (inputs.LeadRange c.args.first c.args.count))) (sym c.new.ensures.answer) (range_given c.args.first c.args.count)

pub returns-then-is_running-clause-err : goal.returns-then-is_running-clause-err
returns-then-is_running-clause-err g c = fault_of c.new.result _ (λ fault is s w are.
    let at = found_in c.in-Some.node.now refl c.get.ensures c.from.ensures c.in-Some.ensures.lookup.0 c.in-Some.ensures.lookup.1 in
    let represents = represents_among g.D.Device.disk s.begin c.args.nodes.now w are at in
    let runs = c.is_running.ensures.runs c.if-is_running.true (member_of at.me are.config s.begin) _ represents in
    let none : range_of c.args.first c.args.count ≡ Err fault = subst (λ found. found ≡ Err fault) c.new.ensures.answer is in
    leads_no_range s w at.me c.args.first c.args.count _ (one_among g.D.Device.disk s.begin c.args.nodes.now w are at) fault runs none)

pub returns-else-is_running-clause-err : goal.returns-else-is_running-clause-err
returns-else-is_running-clause-err g c = λ s w are.
    let at = found_in c.in-Some.node.now refl c.get.ensures c.from.ensures c.in-Some.ensures.lookup.0 c.in-Some.ensures.lookup.1 in
    let represents = represents_among g.D.Device.disk s.begin c.args.nodes.now w are at in
    let rests = c.is_running.ensures.rests c.if-is_running.false (member_of at.me are.config s.begin) _ represents in
    stopped_leads s w at.me c.args.first c.args.count _ (one_among g.D.Device.disk s.begin c.args.nodes.now w are at) rests

pub returns-in-None-clause-err : goal.returns-in-None-clause-err
returns-in-None-clause-err g c = λ s w are.
    let past = ltb-false (c.from.result - 1) (length c.args.nodes.now) (sym c.in-None.ensures.lookup.0) in
    no_node_leads s w c.args.node c.args.first c.args.count (none_among g.D.Device.disk s.begin c.args.nodes.now w are (placed_at c.get.ensures c.from.ensures) past)
