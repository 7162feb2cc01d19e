-- The link is empty at first, and its turns are those of the node.
use Rattle.std.proofs.Common.{◌≡◌, ℕ, refl, sym, ap, subst, ◌∙◌}
use Rattle.rp_threads.specs.LoopTurns.{HasEnded}
use Rattle.rp_threads.specs.Loops.{no_turns}
use Rattle.rp_threads.specs.Rounds.{NodeAt, IsCountedTurn, IsUncountedTurn, node_party, node_rested, node_state}
use Rattle.rp_threads.specs.Threads.{IsLooped}
use Rattle.rp_patience.specs.declared.patience.Patience.{Patience}
use Rattle.rp_threads.proofs.Chains.{seen_ended}
use Rattle.rp_threads.proofs.NodeChains.{looped}
use Rattle.rp_threads.proofs.Texts.{empty_holds}
use Rattle.rp_threads.proofs.loops.node_loop.Goals as goal

pub run_turns-fault-requires : goal.run_turns-fault-requires
run_turns-fault-requires g c = (c.requires.nodes, empty_holds c.args.seat.part.got c.args.line c.requires.line, refl)

pub returns : goal.returns
returns g c =
    let m = g.M.Machine in
    let gate = g.G.Gate in
    let ending = g.E.Ending in
    let a = c.args in
    let run = c.run_turns-fault in
    let last = node_state run.new.actor in
    let Turned = IsCountedTurn m.next m.answers m.begin gate.lets gate.heard in
    let Unmade = IsUncountedTurn m.next m.answers m.begin gate.lets gate.heard in
    let first : Patience → NodeAt g.row.M-Program.Denot = λ patience. record { worker = record { seat = a.seat; line = a.line; patience = patience }; counts = no_turns; stirred = 0 } in
    let ended = seen_ended ending.over node_party node_rested node_state _ (λ node. node.nodes ≡ a.nodes) (λ done now fixed. refl) _ _ (Turned a.nodes) (Unmade a.nodes)
    (λ turn old new fixed t. (t.0 ∙ fixed, subst (λ (n : ℕ). Turned n turn (node_state old) (node_state new)) fixed t.1))
    (λ turn old new fault fixed none. subst (λ (n : ℕ). Unmade n turn (node_state old) (node_state new) fault) fixed none)
    a.options.turns _ run.new.actor run.result refl run.ensures.ran in
    subst (IsLooped m.next m.answers m.begin gate.lets gate.heard ending.over ending.ended a.nodes a.options.turns a.seat a.line) (sym c.ended.ensures)
    (looped m.next m.answers m.begin gate.lets gate.heard a.nodes ending.over a.options.turns a.seat a.line ending.ended last run.result
    (subst (λ (at : NodeAt g.row.M-Program.Denot). HasEnded ending.over node_party node_rested (Turned a.nodes) (Unmade a.nodes) a.options.turns at last run.result) (ap first c.new.ensures) ended)
    run.ensures.notified)
