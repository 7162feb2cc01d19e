-- One node more.
use Rattle.std.proofs.Common.{◌≡◌, ℕ, ◌+◌, ◌-◌, ◌++◌, List, rules, arith, sym, ap, subst, ◌∙◌}
use Rattle.std.specs.Io.KnownBytes.{Appends}
use Rattle.std.proofs.KnownBytes.{Appends-nil, Appends-trans}
use Rattle.rp_model.specs.World.{part_at}
use Rattle.rp_run.specs.Items.{items_text}
use Rattle.rp_run.specs.Output.{part_items, nodes_items}
use Rattle.rp_run.specs.Runs.{run_setting}
use Rattle.rp_output.specs.Stream.{Begins}
use Rattle.rp_run.proofs.PrintedNames.{no_nodes, nodes_more, nodes_front}
use Rattle.rp_output.proofs.Writing.{writes_failed, begins_longer, begins_after}
use Rattle.rp_run.proofs.run.Run.show.Goals as goal

pub loop-place-init : goal.loop-place-init
loop-place-init g c =
    let m = g.M.Machine in
    let s = run_setting m.next m.answers m.begin m.image c.args.self.now.cluster c.args.options.now in
    subst (λ (text : List ℕ). Appends (g.W.Write.contents c.args.writer.now) (g.W.Write.contents c.args.writer.now) text)
    (sym (no_nodes s c.args.self.now.cluster.world)) (Appends-nil (g.W.Write.contents c.args.writer.now))

pub returns-in_err-show_node-clause-shown : goal.returns-in_err-show_node-clause-shown
returns-in_err-show_node-clause-shown g c =
    let m = g.M.Machine in
    let s = run_setting m.next m.answers m.begin m.image c.args.self.now.cluster c.args.options.now in
    let world = c.args.self.now.cluster.world in
    let place = c.loop-place.place in
    let count = c.args.options.now.config.nodes in
    let old = g.W.Write.contents c.args.writer.now in
    let before = g.W.Write.contents c.loop-place.writer in
    let after = g.W.Write.contents c.show_node.new.writer in
    let node : c.unwrap-node.result ≡ place + 1 = search rules in
    let here = items_text (part_items s (place + 1) (part_at world.nodes (place + 1))) in
    let begun : Begins before after here =
    subst (λ (n : ℕ). Begins before after (items_text (part_items s n (part_at world.nodes n)))) node c.in_err-show_node.ensures.shown in
    let all : place + 1 + (count - (place + 1)) ≡ count = omega arith in
    let front = nodes_front s world (place + 1) (count - (place + 1)) in
    let shown = items_text (nodes_items s world place) in
    let whole : items_text (nodes_items s world count) ≡ (shown ++ here) ++ front.0 =
    ap (λ (n : ℕ). items_text (nodes_items s world n)) (sym all) ∙ front.1 ∙ ap (λ (l : List ℕ). l ++ front.0) (nodes_more s world place) in
    writes_failed _ _ _ c.from_residual.result c.from_residual.ensures.0
    (subst (λ (l : List ℕ). Begins old after l) (sym whole)
    (begins_longer old after (shown ++ here) front.0 (begins_after old before after shown here c.loop-place.invariant begun)))

pub loop-place-preserved : goal.loop-place-preserved
loop-place-preserved g c =
    let m = g.M.Machine in
    let s = run_setting m.next m.answers m.begin m.image c.args.self.now.cluster c.args.options.now in
    let world = c.args.self.now.cluster.world in
    let place = c.loop-place.place in
    let old = g.W.Write.contents c.args.writer.now in
    let before = g.W.Write.contents c.loop-place.writer in
    let after = g.W.Write.contents c.show_node.new.writer in
    let node : c.unwrap-node.result ≡ place + 1 = search rules in
    let shown : Appends before after (items_text (part_items s (place + 1) (part_at world.nodes (place + 1)))) =
    subst (λ (n : ℕ). Appends before after (items_text (part_items s n (part_at world.nodes n)))) node c.in_ok-show_node.ensures.shown in
    subst (λ (text : List ℕ). Appends old after text) (sym (nodes_more s world place))
    (Appends-trans old before after (items_text (nodes_items s world place)) (items_text (part_items s (place + 1) (part_at world.nodes (place + 1)))) c.loop-place.invariant shown)
