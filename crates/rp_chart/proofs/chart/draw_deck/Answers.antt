-- There is a lane for each task and for each node, and they are those that are drawn.
use Rattle.std.proofs.Common.{rules, arith, ◌≡◌, ◌∙◌, ◌+◌, ap, length, map}
use Rattle.rp_history.specs.Histories.{lane_text}
use Rattle.rp_script.specs.rp_run.specs.Output.{names_of}
use Rattle.rp_chart.specs.Charts.{lanes_of}
use Rattle.rp_chart.proofs.Lanes.{lanes_count}
use Rattle.rp_chart.proofs.chart.draw_deck.Goals as goal

pub draw_lines-requires-clause-lanes : goal.draw_lines-requires-clause-lanes
draw_lines-requires-clause-lanes c =
    let count : length c.in_ok-lanes.lanes.items ≡ length c.args.deck.tasks.entries + c.args.deck.config.nodes =
    lanes_count c.in_ok-lanes.lanes.items c.args.deck.tasks.entries c.args.deck.config.nodes c.in_ok-lanes.ensures in
    let same : length c.deref.result.now ≡ length c.in_ok-lanes.lanes.items = ap length c.deref.ensures.value in
    omega (arith, count, same, c.requires.tasks.few, c.requires.config.nodes)

pub draw_lines-requires-in-Objects-clause-lanes : goal.draw_lines-requires-in-Objects-clause-lanes
draw_lines-requires-in-Objects-clause-lanes c =
    let count : length c.in_ok-lanes.lanes.items ≡ length c.args.deck.tasks.entries + c.args.deck.config.nodes =
    lanes_count c.in_ok-lanes.lanes.items c.args.deck.tasks.entries c.args.deck.config.nodes c.in_ok-lanes.ensures in
    let same : length c.deref.result.now ≡ length c.in_ok-lanes.lanes.items = ap length c.deref.ensures.value in
    omega (arith, count, same, c.requires.tasks.few, c.requires.config.nodes)

pub returns-in-Tally : goal.returns-in-Tally
returns-in-Tally c =
    let same : map lane_text c.deref.result.now ≡ lanes_of (names_of c.args.deck.tasks) c.args.deck.config.nodes =
    ap (map lane_text) c.deref.ensures.value ∙ c.in_ok-lanes.ensures in
    search (rules, same)

pub returns : goal.returns
returns c =
    let same : map lane_text c.deref.result.now ≡ lanes_of (names_of c.args.deck.tasks) c.args.deck.config.nodes =
    ap (map lane_text) c.deref.ensures.value ∙ c.in_ok-lanes.ensures in
    search (rules, same)
