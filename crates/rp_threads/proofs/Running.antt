-- A node that made a step runs.
use Rattle.std.proofs.Common.{◌≡◌, ℕ, Option, Some, None, Result, Ok, Err, List, refl, sym, ap, subst, ◌∙◌}
use Rattle.std.specs.Prelude.{IsSome}
use Rattle.rp_base.specs.declared.action.Action.{Action}
use Rattle.rp_base.specs.declared.fault.Fault.{Fault}
use Rattle.rp_base.specs.declared.reply.Answer.{Answer}
use Rattle.rp_board.specs.Parts.{Part, Role, OfNode}
use Rattle.rp_board.specs.Seats.{SeatState, setting_at}
use Rattle.rp_boxes.specs.NodeSeats.{IsStopped, IsTurn}
use Rattle.rp_replica.specs.rp_model.specs.Effect.{Setting, Done, NodeInput, turn_done, turn_done_if, effect_while, running_effect}
use Rattle.rp_replica.specs.rp_model.specs.Parts.{NodePart, Running, Turn}
use Rattle.rp_replica.specs.rp_rules.specs.declared.input.Input.{Input}
use Rattle.rp_replica.specs.declared.sent.Sent.{Sent}
use Rattle.rp_threads.specs.Rounds.{Runs}

turned_runs : (node : NodePart) (turn : Result Turn Fault) (done : Done NodePart) → turn_done_if node turn ≡ Ok done → IsSome done.part.running
turned_runs node (Ok turn) done is = let e : turn_done node turn ≡ done = cc in subst (λ (d : Done NodePart). IsSome d.part.running) e refl
turned_runs node (Err fault) done is = absurd (cc)

while_runs : {S : Type 0} (s : Setting S) (me : ℕ) (node : NodePart) (input : NodeInput) (running : Option Running) (done : Done NodePart) → effect_while s me node input running ≡ Ok done → IsSome done.part.running
while_runs s me node input None done is = absurd (cc)
while_runs s me node input (Some running) done is = turned_runs node (running_effect s me node.records running input) done is

pub turn_runs : {S P : Type 0} (next : S → Action → S) (answers : S → Action → List Answer) (begin : P → S) (old new : SeatState P) (input : Input) (sent : Sent) → IsTurn next answers begin old input new sent → Runs new.part
turn_runs {P = P} next answers begin old new input sent t = (
  t.done.part,
  ap (λ (c : SeatState P). c.part.role) t.after,
  while_runs (setting_at next answers begin old) old.setup.number t.node t.given t.node.running t.done t.results,
)

-- ---- it is not stopped

pub same_node : (role : Role) (a b : NodePart) → role ≡ OfNode a → role ≡ OfNode b → a ≡ b
same_node role a b is_a is_b = let e : OfNode a ≡ OfNode b = sym is_a ∙ is_b in cc

none_runs : (running : Option Running) → IsSome running → running ≡ None → ⊥
none_runs None some none = absurd (cc)
none_runs (Some running) some none = absurd (cc)

pub not_stopped : (part : Part) → Runs part → IsStopped part → ⊥
not_stopped part runs stopped =
    let same : runs.0 ≡ stopped.0 = same_node part.role runs.0 stopped.0 runs.1 stopped.1 in
    none_runs stopped.0.running (subst (λ (n : NodePart). IsSome n.running) same runs.2) stopped.2
