-- The turn is counted, and the node rests after it or not.
use Rattle.std.proofs.Common.{ℕ, ◌+◌, refl, ap, ◌∙◌, arith}
use Rattle.rp_base.specs.declared.fault.Fault.{Fault}
use Rattle.rp_board.proofs.SeatBoxes.{at_fault}
use Rattle.rp_threads.specs.Loops.{total_of}
use Rattle.rp_threads.specs.Rounds.{IsUncountedTurn, node_state}
use Rattle.rp_threads.specs.declared.loops.NodeLoop.{NodeLoop}
use Rattle.rp_threads.proofs.Rounds.{counted_more}
use Rattle.rp_threads.proofs.loops.NodeLoopActor.turn.Goals as goal

pub count-requires : goal.count-requires
count-requires g c =
    let total = c.requires.2 in
    let fits = c.ranges.turn.fits in
    omega (arith, total, fits)

pub returns-clause-ready : goal.returns-clause-ready
returns-clause-ready g c =
    let total = ap total_of c.count.ensures ∙ (counted_more c.in_ok-made.made c.args.self.now.counts).0 ∙ c.requires.2 in
    (c.requires.0, c.turn.ensures.held, ap (λ (n : ℕ). n + 1) total)

pub returns-clause-ok : goal.returns-clause-ok
returns-clause-ok g c = (refl, record { made = c.in_ok-made.made; turns = c.in_ok-made.ensures.ok; counts = c.count.ensures; rests = c.last_stirred-self.ensures.0; rests_if = c.last_stirred-self.ensures.1; stirred = c.last_stirred-self.ensures.2 })

pub returns-in_err-made-clause-err : goal.returns-in_err-made-clause-err
returns-in_err-made-clause-err g c =
    let m = g.M.Machine in
    let gate = g.G.Gate in
    let self = c.args.self.now in
    let new : NodeLoop _ _ g.row.M-Program.Denot = record self { worker = c.turn.new.self } in
    let fault = c.in_err-made.field-0.0 in
    let err = c.in_err-made.ensures.err in
    at_fault (λ (e : Fault). IsUncountedTurn m.next m.answers m.begin gate.lets gate.heard self.nodes c.args.turn (node_state self) (node_state new) e) fault c.from_residual.result c.from_residual.ensures.1
    (record { ends = err.0; unmade = err.1; counts = refl })
