-- What the world answers where one of its nodes made a turn: given an input, or a message that is for it.
use Rattle.std.proofs.Common.{◌≡◌, ℕ, suc, ◌+◌, ◌-◌, ◌≤◌, None, Some, Result, Ok, List, Option, length, slice_get, slice_set, refl, sym, ap, subst, ◌∙◌}
use Rattle.std.specs.Option.{IsSomeAnd}
use Rattle.std.specs.Prelude.{IsSome, IsErrAnd}
use Rattle.rp_base.specs.declared.fault.Fault.{Fault}
use Rattle.rp_codec.specs.Decoding.{IsLongBody}
use Rattle.rp_codec.specs.Message.{Message}
use Rattle.rp_codec.specs.declared.packet.Party.{Party}
use Rattle.rp_model.specs.declared.effect.Dropped.{Dropped}
use Rattle.rp_model.specs.declared.effect.Dropped.TheVariants.{No}
use Rattle.rp_model.specs.declared.effect.Effect.{Effect}
use Rattle.rp_model.specs.Effect.{NodeInput, node_effect}
use Rattle.rp_model.specs.Events.{Deliver}
use Rattle.rp_model.specs.Parts.{NodePart}
use Rattle.rp_model.specs.World.{World, part_at, node_done_if, nothing_happens, commanded, chosen_record, stepping, step_writes}
use Rattle.rp_replica.specs.rp_outbox.specs.Packets.{Sending}
use Rattle.rp_actors.specs.Going.{Meant, meant_by, step_meant, Goes, Answers, stated}
use Rattle.rp_actors.specs.Nodes.{Member, Represents, GoesBy, IsLight, NotTaken, DescribesSending, node_step}
use Rattle.rp_actors.specs.Deliveries.{only_sent}
use Rattle.rp_actors.specs.Steps.{IsLightStep, ClusterState}
use Rattle.rp_actors.specs.declared.node.ClusterNode.{ClusterNode}
use Rattle.rp_world.proofs.Ending.{none_here}
use Rattle.rp_actors.proofs.Fields.{Fields, IsKept, as_seen, cluster_with, first_seen, member, now, sent_seen, setting, setting_by, world}
use Rattle.rp_actors.proofs.Hearing.{nothing_goes, heard_by_audit, heard_by_none, heard_resting, heard_as, heard_running, heard_stepping, heard_record}
use Rattle.rp_actors.proofs.Light.{light_part}
use Rattle.rp_actors.proofs.Messages.{SentTo, at_place}
use Rattle.rp_actors.proofs.Moving.{part, is_here, represents_now, stayed}
use Rattle.rp_actors.proofs.Placing.{Found}
use Rattle.rp_actors.proofs.OnlySent.{only_sent_none, only_sent_more}
use Rattle.rp_actors.proofs.Reports.{at_err, stated_sent, as_fault}
use Rattle.rp_world.proofs.Taking.{still_turned, still_refused, turned, not_turned, given_is}

-- the effect reports the number of the next message, and how many there are
counted_from : {S D P : Type 0} (f : Fields S D P) (dropped : Dropped) (later : Sending) {first count : ℕ} {effect : Effect} → first ≡ length f.was.world.sent → count ≡ length later.sent
    → effect ≡ stated_sent (first + 1) count dropped → effect ≡ stated_sent (length f.messages.sent + 1) (length later.sent) dropped
counted_from f dropped later {count = count} first_is count_is is =
    is ∙ ap (λ (k : ℕ). stated_sent (k + 1) count dropped) (first_seen f first_is) ∙ ap (λ (k : ℕ). stated_sent (length f.messages.sent + 1) k dropped) count_is

-- ---- a node that is given an input

module _ {S D P : Type 0} (f : Fields S D P) (at : Found f.nodes) (new : ClusterNode S D P) (input : NodeInput) where
  abbrev after : Sending → ClusterState P
  after later = cluster_with f (slice_set f.nodes at.place new) f.tasks later

  -- its step by the definitions
  abbrev taken : ClusterState P → Meant
  taken v = meant_by (setting_by f v) v.world (commanded at.me input (part_at v.world.nodes at.me))

  pub goes_given : (dropped : Dropped) (later : Sending) → GoesBy f.disk (member f at.me) at.it new (node_step f.next f.answers (member f at.me) input) (DescribesSending f.messages.sent later.sent) dropped
      → {first count : ℕ} {effect : Effect} → first ≡ length f.was.world.sent → count ≡ length later.sent → effect ≡ stated_sent (first + 1) count dropped → Goes f.was (taken f.was).whole (after later) effect
  goes_given dropped later by {effect = effect} first_is count_is is =
      as_seen f (λ v. Goes v (taken v).whole (after later) effect)
      (turned f at new input dropped later by (taken (now f)) (given_is f at new input) effect (counted_from f dropped later first_is count_is is))

  module _ (fault : Fault) (by : NotTaken f.disk (member f at.me) at.it new (node_step f.next f.answers (member f at.me) input) fault) where
    pub answers_given : (r : Result Unit Fault) → IsErrAnd r (λ e. e ≡ fault) → (later : Sending) → later.sent ≡ f.messages.sent → (effect : Effect) → Answers f.was (taken f.was) (after later) (stated r effect)
    answers_given r refuses later same effect =
        at_err (λ x. Answers f.was (taken f.was) (after later) (stated x effect)) fault r refuses
        (as_seen f (λ v. Answers v (taken v) (after later) (as_fault fault)) (not_turned f at new input fault by later same (taken (now f)) (given_is f at new input)))

-- what takes no memory in the world that the caller saw, takes none at the node
pub light_given : {S D P : Type 0} (f : Fields S D P) (at : Found f.nodes) (input : NodeInput) (p : NodePart) → part_at f.was.world.nodes at.me ≡ Some p
    → IsLight p (node_effect (setting_by f f.was) at.me p input) → IsLight (part f at) (node_step f.next f.answers (member f at.me) input (part f at))
light_given f at input p here light =
    let holds : part_at (world f).nodes at.me ≡ Some p → IsLight p (node_effect (setting f) at.me p input) → IsLight (part f at) (node_step f.next f.answers (member f at.me) input (part f at)) =
    (λ seen is. let found = is_here f at in let same : p ≡ part f at = cc in subst (λ (q : NodePart). IsLight q (node_step f.next f.answers (member f at.me) input q)) same is) in
    as_seen f (λ v. part_at v.world.nodes at.me ≡ Some p → IsLight p (node_effect (setting_by f v) at.me p input) → IsLight (part f at) (node_step f.next f.answers (member f at.me) input (part f at))) holds here light

-- ---- a message that is for it

module _ {S D P : Type 0} (f : Fields S D P) (number : ℕ) where
  abbrev heard : ClusterState P → Meant
  heard v = step_meant (setting_by f v) v.world (Deliver number)

-- a message that changes nothing
nothing_heard : {S D P : Type 0} (f : Fields S D P) (number : ℕ) (after : ClusterState P) → (heard f number (now f)).whole ≡ Ok (nothing_happens (world f)) → after ≡ now f
    → Goes f.was (heard f number f.was).whole after (only_sent f.was.world after.world)
nothing_heard {P = P} f number after is same =
    as_seen f (λ v. Goes v (heard f number v).whole after (only_sent v.world after.world))
    (nothing_goes f (heard f number (now f)).whole after (only_sent (world f) after.world) is same (only_sent_none (world f) after.world (ap (λ (v : ClusterState P). v.world.sent) same)))

-- for the audit
pub goes_aside : {S D P : Type 0} (f : Fields S D P) {number : ℕ} → SentTo f.messages.sent number Party.Audit → Goes f.was (heard f number f.was).whole f.was (only_sent f.was.world f.was.world)
goes_aside f {number = number} m =
    as_seen f (λ v. Goes v (heard f number v).whole v (only_sent v.world v.world))
    (nothing_goes f (heard f number (now f)).whole (now f) (only_sent (world f) (world f)) (heard_by_audit (setting f) (world f) m) refl (only_sent_none (world f) (world f) refl))

-- there is no node of this number
pub goes_past : {S D P : Type 0} (f : Fields S D P) {number i me : ℕ} → SentTo f.messages.sent number (Party.Node me) → suc i ≡ me → length f.nodes ≤ i
    → Goes f.was (heard f number f.was).whole (now f) (only_sent f.was.world (now f).world)
goes_past f {number = number} m placed past = nothing_heard f number (now f) (heard_by_none (setting f) (world f) m (none_here f placed past)) refl

module _ {S D P : Type 0} (f : Fields S D P) (at : Found f.nodes) {number : ℕ} (m : SentTo f.messages.sent number (Party.Node at.me)) where
  abbrev with_node : ClusterNode S D P → Sending → ClusterState P
  with_node new later = cluster_with f (slice_set f.nodes at.place new) f.tasks later

  abbrev input : NodeInput
  input = NodeInput.Receive m.packet

  -- it is stopped
  pub goes_resting : ((member : Member S) (p : NodePart) → Represents f.disk member at.it p → p.running ≡ None)
      → Goes f.was (heard f number f.was).whole (with_node at.it f.messages) (only_sent f.was.world (with_node at.it f.messages).world)
  goes_resting rests =
      nothing_heard f number (with_node at.it f.messages) (heard_resting (setting f) (world f) m (part f at) (is_here f at) (rests (member f at.me) (part f at) (represents_now f at)))
      (stayed f at at.it f.messages (represents_now f at) refl refl)

  abbrev Runs : Type 0
  Runs = (member : Member S) (p : NodePart) → Represents f.disk member at.it p → IsSome p.running

  its_turn : Runs → (heard f number (now f)).whole ≡ node_done_if (world f) at.me (node_step f.next f.answers (member f at.me) input (part f at))
  its_turn runs = heard_running (setting f) (world f) m (part f at) (is_here f at) (runs (member f at.me) (part f at) (represents_now f at))

  -- its step is that of the node, which is given the message
  as_given : (Q : Meant → Type 0) → Runs → Q (meant_by (setting f) (world f) (commanded at.me input (part_at (world f).nodes at.me))) → Q (heard f number (now f))
  as_given Q runs q =
      subst (λ c. Q (meant_by (setting f) (world f) c)) (sym (heard_as (setting f) (world f) m (part f at) (is_here f at) (runs (member f at.me) (part f at) (represents_now f at)))) q

  -- its delivery takes no memory
  module _ (runs : Runs) (light : IsLightStep (setting_by f f.was) f.was.world (Deliver number)) where
    pub light_heard : IsLight (part f at) (node_step f.next f.answers (member f at.me) input (part f at))
    light_heard =
        let mine : stepping (world f) (Deliver number) ≡ Some at.me = heard_stepping (setting f) (world f) m in
        let writes : step_writes (setting f) (world f) (Deliver number) ≡ chosen_record (setting f) (commanded at.me input (part_at (world f).nodes at.me)) = heard_record (setting f) (world f) m in
        as_seen f (λ v. IsLightStep (setting_by f v) v.world (Deliver number) → IsLight (part f at) (node_step f.next f.answers (member f at.me) input (part f at)))
        (λ is. light_part (setting f) (world f) (Deliver number) is at.me mine input (part f at) (is_here f at) (its_turn runs) writes) light

    pub short_heard : ¬ IsLongBody m.packet.body
    short_heard = λ long.
        let found : part_at f.was.world.sent number ≡ Some m.packet = ap (λ (ms : List Message). part_at ms number) (sym (sent_seen f)) ∙ m.found in
        light.short (subst (λ (o : Option Message). IsSomeAnd o (λ p. IsLongBody p.body)) (sym found) long)

  -- it takes the message
  module _ (new : ClusterNode S D P) (dropped : Dropped) (later : Sending)
      (by : (member : Member S) (packet : Message) → slice_get f.messages.sent (number - 1) ≡ Some packet
      → GoesBy f.disk member at.it new (node_step f.next f.answers member (NodeInput.Receive packet)) (DescribesSending f.messages.sent later.sent) dropped) where
    pub still_heard : IsKept f (slice_set f.nodes at.place new) f.tasks
    still_heard = still_turned f at new input dropped later (by (member f at.me) m.packet (at_place m))

    pub goes_heard : Runs → {first count : ℕ} {effect : Effect} → first ≡ length f.was.world.sent → count ≡ length later.sent → effect ≡ stated_sent (first + 1) count dropped
        → Goes f.was (heard f number f.was).whole (with_node new later) effect
    goes_heard runs {effect = effect} first_is count_is is =
        as_seen f (λ v. Goes v (heard f number v).whole (with_node new later) effect)
        (as_given (λ t. Goes (now f) t.whole (with_node new later) effect) runs
        (turned f at new input dropped later (by (member f at.me) m.packet (at_place m)) (taken f at new input (now f)) (given_is f at new input) effect (counted_from f dropped later first_is count_is is)))

  -- the same, where it dropped nothing
  module _ (new : ClusterNode S D P) (later : Sending)
      (by : (member : Member S) (packet : Message) → slice_get f.messages.sent (number - 1) ≡ Some packet
      → GoesBy f.disk member at.it new (node_step f.next f.answers member (NodeInput.Receive packet)) (DescribesSending f.messages.sent later.sent) No) where
    pub goes_only_sending : Runs → Goes f.was (heard f number f.was).whole (with_node new later) (only_sent f.was.world (with_node new later).world)
    goes_only_sending runs =
        let after : World = (with_node new later).world in
        as_seen f (λ v. Goes v (heard f number v).whole (with_node new later) (only_sent v.world after))
        (as_given (λ t. Goes (now f) t.whole (with_node new later) (only_sent (world f) after)) runs
        (turned f at new input No later (by (member f at.me) m.packet (at_place m)) (taken f at new input (now f)) (given_is f at new input) (only_sent (world f) after) (only_sent_more (world f) after)))

  -- or does not
  module _ (new : ClusterNode S D P) (fault : Fault)
      (by : (member : Member S) (packet : Message) → slice_get f.messages.sent (number - 1) ≡ Some packet → NotTaken f.disk member at.it new (node_step f.next f.answers member (NodeInput.Receive packet)) fault) where
    pub still_unheard : IsKept f (slice_set f.nodes at.place new) f.tasks
    still_unheard = still_refused f at new input fault (by (member f at.me) m.packet (at_place m))

    pub answers_heard : Runs → (later : Sending) → later.sent ≡ f.messages.sent → Answers f.was (heard f number f.was) (with_node new later) (as_fault fault)
    answers_heard runs later same =
        as_seen f (λ v. Answers v (heard f number v) (with_node new later) (as_fault fault))
        (as_given (λ t. Answers (now f) t (with_node new later) (as_fault fault)) runs
        (not_turned f at new input fault (by (member f at.me) m.packet (at_place m)) later same (taken f at new input (now f)) (given_is f at new input)))
