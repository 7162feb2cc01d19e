-- The result of a step of a node in the world.
use Rattle.std.proofs.Common.{◌≡◌, ℕ, ◌+◌, ◌-◌, ◌^◌, min, Result, length, slice_set, refl, sym, ap, ◌∙◌, arith}
use Rattle.std.proofs.lemmas.List.{length-append}
use Rattle.rp_base.specs.declared.fault.Fault.{Fault}
use Rattle.rp_model.specs.declared.effect.Dropped.{Dropped}
use Rattle.rp_model.specs.declared.effect.Effect.{Effect}
use Rattle.rp_model.specs.Effect.{Done, NodeInput}
use Rattle.rp_model.specs.Parts.{NodePart}
use Rattle.rp_model.specs.World.{World, part_at, commanded, node_chosen, chosen_effect, chosen_cut, chosen_record, node_done, node_done_if}
use Rattle.rp_replica.specs.rp_outbox.specs.Packets.{Sending}
use Rattle.rp_actors.specs.declared.node.ClusterNode.{ClusterNode}
use Rattle.rp_actors.specs.Going.{Meant, meant_by, Goes, Answers}
use Rattle.rp_actors.specs.Nodes.{GoesBy, NotTaken, DescribesSending, node_step}
use Rattle.rp_actors.specs.Steps.{ClusterState}
use Rattle.rp_actors.proofs.Fields.{Fields, IsKept, cluster_with, member, now, setting, world}
use Rattle.rp_actors.proofs.Moving.{IsEffect, part, is_here, represents_now, still_nodes, goes, answered, represents_after}
use Rattle.rp_actors.proofs.Placing.{Found}
use Rattle.rp_actors.proofs.Reports.{describes_of, stated_sent, as_fault}

module _ {S D P : Type 0} (f : Fields S D P) (at : Found f.nodes) (new : ClusterNode S D P) (input : NodeInput) where
  abbrev w : World
  w = world f

  abbrev step : NodePart → Result (Done NodePart) Fault
  step p = node_step f.next f.answers (member f at.me) input p

  abbrev after : Sending → ClusterState P
  after later = cluster_with f (slice_set f.nodes at.place new) f.tasks later

  -- a step by the definitions is that of the node
  abbrev pub IsTurn : Meant → Type 0
  IsTurn m = IsEffect f at step (node_done_if w at.me) m

  -- the step took effect
  module _ (dropped : Dropped) (later : Sending) (by : GoesBy f.disk (member f at.me) at.it new step (DescribesSending f.messages.sent later.sent) dropped) where
    -- all nodes are still of this cluster
    pub still_turned : IsKept f (slice_set f.nodes at.place new) f.tasks
    still_turned = let d = by (part f at) (represents_now f at) in still_nodes f at new d.0.part d.2

    pub turned : (m : Meant) → IsTurn m → (stated : Effect) → stated ≡ stated_sent (length w.sent + 1) (length later.sent) dropped → Goes (now f) m.whole (after later) stated
    turned m is stated is_stated =
        let d = by (part f at) (represents_now f at) in
        let count : length later.sent + 1 - (length w.sent + 1) ≡ length d.0.sends =
        omega (arith, ap length d.3.sent, length-append f.messages.sent d.0.sends) in
        goes f at new later m.whole d.0 stated (is.whole ∙ ap (node_done_if w at.me) d.1) d.2 d.4 d.3.sent
        (describes_of is_stated (record {
          first = refl;
          count = ap (λ (k : ℕ). min k (2 ^ 32 - 1)) count;
          dropped = d.3.is_dropped;
          taken = sym d.3.nothing.0;
          opened = sym d.3.nothing.1;
        }))

  -- or was not taken
  module _ (fault : Fault) (by : NotTaken f.disk (member f at.me) at.it new step fault) where
    pub still_refused : IsKept f (slice_set f.nodes at.place new) f.tasks
    still_refused = let left = represents_after f at step new fault by in still_nodes f at new left.0 left.1

    pub not_turned : (later : Sending) → later.sent ≡ f.messages.sent → (m : Meant) → IsTurn m → Answers (now f) m (after later) (as_fault fault)
    not_turned later same m is = answered f at new later step m (node_done_if w at.me) is (λ g. refl) (λ done. (node_done w at.me done, refl)) same fault by

  -- so is that of a node that is given this
  pub given_is : IsTurn (meant_by (setting f) w (commanded at.me input (part_at w.nodes at.me)))
  given_is = record {
    whole = ap (λ o. chosen_effect (setting f) w (commanded at.me input o)) (is_here f at);
    cut = λ kept. ap (λ o. chosen_cut (setting f) w kept (commanded at.me input o)) (is_here f at);
    node = ap (λ o. node_chosen (commanded at.me input o)) (is_here f at);
    writes = ap (λ o. chosen_record (setting f) (commanded at.me input o)) (is_here f at);
  }
