-- A replica over an empty device is the node of its seat.
use Rattle.std.proofs.Common.{◌≡◌, sym, ap, ◌∙◌, arith}
use Rattle.rp_actors.specs.Nodes.{member_of}
use Rattle.rp_actors.proofs.Moving.{at_if}
use Rattle.rp_actors.proofs.Represented.{runs_fresh}
use Rattle.rp_boxes.specs.FirstSeats.{first_seat}
use Rattle.rp_boxes.proofs.Seating.{node_at_first}
use Rattle.rp_boxes.proofs.all_seats.Unseated.node.Given as given
use Rattle.rp_boxes.proofs.all_seats.Unseated.node.Goals as goal
use Rattle.rp_boxes.proofs.all_seats.Unseated.node.Goals.{After-unwrap-node}

-- the node is the next actor
number : (g : given.Over) (c : After-unwrap-node g) → c.unwrap-node.result ≡ c.args.self.now.next
number g c = at_if (λ id. id ≡ c.self.inside.next) c.new.result c.unwrap-node.result c.unwrap-node.ensures c.new.ensures.value ∙ ap (λ unseated. unseated.next) c.self.view_is

pub seat-requires-clause-next : goal.seat-requires-clause-next
seat-requires-clause-next g c = sym (number g (goal.at.seat-requires-clause-next g c).After-unwrap-node)

pub seat-requires-clause-within : goal.seat-requires-clause-within
seat-requires-clause-within g c = omega (arith, c.requires.node.1, c.self.invariant.1.nodes.1, ap (λ unseated. unseated.config.nodes) c.self.view_is)

pub invariant_of-result : goal.invariant_of-result
invariant_of-result g c =
    let m = g.M.Machine in
    let old = c.args.self.now in
    let config = c.self.inside.config in
    let program = c.args.program.now in
    let node = c.unwrap-node.result in
    let is = number g (goal.at.invariant_of-result g c).After-unwrap-node in
    let configured : old.config ≡ config = ap (λ unseated. unseated.config) (sym c.self.view_is) in
    let nodes : old.config.nodes ≡ config.nodes = ap (λ unseated. unseated.config.nodes) (sym c.self.view_is) in
    node_at_first m.begin old.table config program node c.in-Ok.opening.replica (omega (arith, is, c.requires.node.0)) (omega (arith, is, nodes, c.requires.node.1)) c.self.invariant.1.nodes.1
    (runs_fresh (member_of node config (m.begin program)) (g.D.Device.disk c.args.device) c.in-Ok.opening.replica c.in-Ok.opening.records c.in-Ok.opening.cut_bytes c.in-Ok.ensures.ok c.requires.empty)
    c.in_ok-seat.seat (c.in_ok-seat.ensures.ok ∙ (λ i. first_seat old.table (configured i) (sym c.requires.program i) node (sym is i) 0))
