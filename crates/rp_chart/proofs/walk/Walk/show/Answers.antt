-- One node more, or the end.
use Rattle.std.proofs.Common.{◌≡◌, ◌∙◌, ℕ, suc, rules, ◌+◌, List, [], ◌∷◌, ◌++◌, arith, refl, sym, ap, subst, append_assoc, append-nil}
use Rattle.std.proofs.lemmas.List.{map-append}
use Rattle.rp_history.specs.Histories.{Happening}
use Rattle.rp_run.specs.rp_machine.specs.Replay.{one_to}
use Rattle.rp_world.specs.rp_actors.specs.Steps.{ClusterState}
use Rattle.rp_chart.specs.ScriptCharts.{IsCharted}
use Rattle.rp_chart.specs.ScriptHistory.{drawn_run, node_shown, nodes_shown}
use Rattle.rp_chart.proofs.walk.Walk.show.Goals as goal

pub loop-place-init : goal.loop-place-init
loop-place-init g c =
    let m = g.M.Machine in
    let run = c.args.self.now in
    record {
      within = omega arith;
      cluster = refl;
      settled = refl;
      stage = refl;
      ways = c.requires.ways;
      charted = λ happened charted. subst (λ (l : List Happening). IsCharted m.next m.answers m.begin run.cluster run.chart l) (sym (append-nil happened)) charted;
    }

pub loop-place-preserved : goal.loop-place-preserved
loop-place-preserved g c =
    let m = g.M.Machine in
    let start = c.args.self.now.cluster in
    let d = drawn_run m.next m.answers m.begin m.image start c.args.scene.now in
    let place = c.loop-place.place in
    let run = c.loop-place.self in
    let shown = c.show_node.new.self in
    let number : place + 1 ≡ suc place = omega arith in
    let here : List Happening = nodes_shown d start.world place in
    record {
      within = omega arith;
      cluster = c.show_node.ensures.cluster ∙ c.loop-place.invariant.cluster;
      settled = c.show_node.ensures.settled ∙ c.loop-place.invariant.settled;
      stage = c.show_node.ensures.stage ∙ c.loop-place.invariant.stage;
      ways = c.in_ok-show_node.ensures.ways;
      charted = λ happened charted.
          let node : c.unwrap-node.result ≡ place + 1 = search rules in
          let one = ap (λ (n : ℕ). node_shown (drawn_run m.next m.answers m.begin m.image run.cluster c.args.scene.now) run.cluster.world n) node
          ∙ ap (λ (k : ClusterState _). node_shown (drawn_run m.next m.answers m.begin m.image k c.args.scene.now) k.world (place + 1)) c.loop-place.invariant.cluster
          ∙ ap (λ (n : ℕ). node_shown d start.world n) number in
          subst (λ (l : List Happening). IsCharted m.next m.answers m.begin shown.cluster shown.chart l)
          (append_assoc happened here _
          ∙ ap (λ (h : Happening). happened ++ (here ++ h ∷ [])) one
          ∙ ap (λ (l : List Happening). happened ++ l) (sym (map-append (node_shown d start.world) (one_to place) (suc place ∷ [])))
          ∙ sym (ap (λ (n : ℕ). happened ++ nodes_shown d start.world n) number))
          (c.in_ok-show_node.ensures.charted (happened ++ here) (c.loop-place.invariant.charted happened charted));
    }

pub returns-clause-charted : goal.returns-clause-charted
returns-clause-charted g c = λ happened charted.
    let m = g.M.Machine in
    let start = c.args.self.now.cluster in
    let d = drawn_run m.next m.answers m.begin m.image start c.args.scene.now in
    let run = c.loop-place.self in
    let all : c.loop-place.place ≡ c.args.scene.now.options.now.config.nodes = omega (arith, c.loop-place.invariant.within) in
    subst (λ (n : ℕ). IsCharted m.next m.answers m.begin run.cluster run.chart (happened ++ nodes_shown d start.world n)) all
    (c.loop-place.invariant.charted happened charted)
