-- One node more, or the end.
use Rattle.std.proofs.Common.{◌≡◌, ◌∙◌, ◌+◌, ◌++◌, List, ℕ, rules, arith, sym, ap, append_assoc, append-nil}
use Rattle.rp_world.specs.rp_model.specs.World.{part_at}
use Rattle.rp_run.specs.Runs.{run_setting}
use Rattle.rp_details.specs.Details.{node_lines, nodes_lines}
use Rattle.rp_details.proofs.Texts.{no_nodes, nodes_more}
use Rattle.rp_details.proofs.nodes.add_nodes.Goals as goal

pub loop-place-init : goal.loop-place-init
loop-place-init g c =
    let m = g.M.Machine in
    let s = run_setting m.next m.answers m.begin m.image c.args.cluster.now c.args.options.now in
    sym (ap (λ (l : List ℕ). c.args.text.now.items ++ l) (no_nodes s c.args.cluster.now.world) ∙ append-nil c.args.text.now.items)

pub loop-place-preserved : goal.loop-place-preserved
loop-place-preserved g c =
    let m = g.M.Machine in
    let s = run_setting m.next m.answers m.begin m.image c.args.cluster.now c.args.options.now in
    let world = c.args.cluster.now.world in
    let place = c.loop-place.place in
    let node : c.unwrap-node.result ≡ place + 1 = search rules in
    c.in_ok-add_node.ensures
    ∙ ap (λ (n : ℕ). c.loop-place.text.items ++ node_lines s n (part_at world.nodes n)) node
    ∙ ap (λ (l : List ℕ). l ++ node_lines s (place + 1) (part_at world.nodes (place + 1))) c.loop-place.invariant
    ∙ append_assoc c.args.text.now.items (nodes_lines s world place) (node_lines s (place + 1) (part_at world.nodes (place + 1)))
    ∙ ap (λ (l : List ℕ). c.args.text.now.items ++ l) (sym (nodes_more s world place))

pub returns : goal.returns
returns g c =
    let m = g.M.Machine in
    let s = run_setting m.next m.answers m.begin m.image c.args.cluster.now c.args.options.now in
    let all : c.loop-place.place ≡ c.args.cluster.now.setup.config.nodes = omega (arith, c.requires) in
    c.loop-place.invariant ∙ ap (λ (n : ℕ). c.args.text.now.items ++ nodes_lines s c.args.cluster.now.world n) all
