-- What came to a node was sent to it.
use Rattle.std.proofs.Common.{◌≡◌, ℕ, true, List, subst}
use Rattle.std.specs.Prelude.{◌&&◌}
use Rattle.std.proofs.lemmas.Bool.{and_parts, eqb-true}
use Rattle.rp_base.specs.declared.action.Action.{Action}
use Rattle.rp_base.specs.Sets.{Has}
use Rattle.rp_codec.specs.Message.{Message}
use Rattle.rp_codec.specs.declared.packet.Party.{Party}
use Rattle.rp_codec.specs.declared.packet.Party.TheVariants.{Node, Task, Audit}
use Rattle.rp_codec.specs.declared.packet.Body.{Body}
use Rattle.rp_codec.specs.declared.packet.Body.TheVariants as bodies
use Rattle.rp_model.specs.Effect.{NodeInput}
use Rattle.rp_model.specs.Node.{RunningNode, nodes_of}
use Rattle.rp_model.specs.Parts.{NodePart}
use Rattle.rp_model.specs.Receiving.{is_node, is_no_node_above, is_allowed, sender_number}
use Rattle.rp_model.proofs.EveryPlan.{Came}
use Rattle.rp_agreement.specs.Asked.{IsAsked}
use Rattle.rp_agreement.specs.Inputs.{IsInput}
use Rattle.rp_agreement.specs.Sound.{IsCall, IsSound}
use Rattle.rp_agreement.proofs.Pendings.{reply_asked}

module _ {S : Type 0} (n : RunningNode S) (node : ℕ → NodePart) (sent : List Message) (input : NodeInput) (sound : IsSound (nodes_of n) node sent) (right : IsInput sent input) where
  -- a packet that only nodes send came from one, to this node
  node_said : (p to : Party) (from : ℕ) (body : Body) → Has (record { from = p; to = to; body = body }) sent → is_node n.me to ≡ true → sender_number p ≡ from → (¬ IsCall from body)
      → Has (record { from = Node from; to = Node n.me; body = body }) sent
  node_said (Node a) (Node k) from body h is number none =
      subst (λ (j : ℕ). Has (record { from = Node j; to = Node n.me; body = body }) sent) number
      (subst (λ (j : ℕ). Has (record { from = Node a; to = Node j; body = body }) sent) (eqb-true k n.me is) h)
  node_said (Task t) (Node k) from body h is number none = absurd (none (subst (λ (j : ℕ). IsCall j body) number (sound.says _ h)))
  node_said Audit (Node k) from body h is number none = absurd (sound.says _ h)
  node_said p (Task t) from body h is number none = absurd cc
  node_said p Audit from body h is number none = absurd cc

  came_sent : (from : ℕ) (body : Body) (came : Came n input from body) → Has (record { from = came.message.from; to = came.message.to; body = body }) sent
  came_sent from body came =
      let m = came.message in
      subst (λ (said : Body). Has (record { from = m.from; to = m.to; body = said }) sent) came.says (subst (λ (given : NodeInput). IsInput sent given) came.input_is right)

  for_here : (from : ℕ) (body : Body) (came : Came n input from body) → is_node n.me came.message.to ≡ true
  for_here from body came =
      let m = came.message in
      let config = n.setting.config in
      (and_parts (is_node n.me m.to) (is_no_node_above config.nodes m.from)
      (and_parts (is_node n.me m.to && is_no_node_above config.nodes m.from) (is_allowed config.max_positions (sender_number m.from) m.body) came.taken).0).0

  pub came_said : (from : ℕ) (body : Body) → Came n input from body → (¬ IsCall from body) → Has (record { from = Node from; to = Node n.me; body = body }) sent
  came_said from body came none = node_said came.message.from came.message.to from body (came_sent from body came) (for_here from body came) came.sender none

  -- a call was asked by its task
  asked_by_party : (p to : Party) (call : Action) → Has (record { from = p; to = to; body = bodies.Call call }) sent → is_node n.me to ≡ true → IsAsked sent call
  asked_by_party (Node a) to call h is = absurd (sound.says _ h).1
  asked_by_party (Task t) (Node k) call h is = let says = sound.says _ h in reply_asked sent t k call says.0 says.1 h
  asked_by_party (Task t) (Task u) call h is = absurd cc
  asked_by_party (Task t) Audit call h is = absurd cc
  asked_by_party Audit to call h is = absurd (sound.says _ h)

  pub call_asked : (from : ℕ) (call : Action) → Came n input from (bodies.Call call) → IsAsked sent call
  call_asked from call came = asked_by_party came.message.from came.message.to call (came_sent from (bodies.Call call) came) (for_here from (bodies.Call call) came)
