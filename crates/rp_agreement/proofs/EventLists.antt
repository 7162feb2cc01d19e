-- Events one after another.
use Rattle.std.proofs.Common.{◌≡◌, ℕ, Option, Some, Result, Ok, Err, List, [], ◌∷◌, ◌++◌, refl, sym, ap, ◌∙◌, subst}
use Rattle.rp_base.specs.declared.fault.Fault.{Fault}
use Rattle.rp_base.specs.Sets.{Has}
use Rattle.rp_base.proofs.Members.{has_left}
use Rattle.rp_codec.specs.Message.{Message}
use Rattle.std.specs.Prelude.{unwrap_or}
use Rattle.rp_base.specs.declared.action.Action.{Action}
use Rattle.rp_base.specs.Records.{applied_of}
use Rattle.rp_model.specs.Answers.{Happen}
use Rattle.rp_model.specs.Facts.{IsDecided}
use Rattle.rp_model.specs.Parts.{fresh_node}
use Rattle.rp_model.specs.Parts.{NodePart}
use Rattle.rp_agreement.specs.Computed.{order_of}
use Rattle.rp_agreement.proofs.Computing.{order_is}
use Rattle.rp_agreement.proofs.Following.{one_decided}
use Rattle.rp_agreement.proofs.Ordering.{decided_begins, all_decided_stays, applied_alike}
use Rattle.rp_agreement.proofs.Sending.{decided_more}
use Rattle.rp_agreement.proofs.WorldKeeping.{history_keeps}
use Rattle.rp_model.specs.Effect.{Setting}
use Rattle.rp_model.specs.Events.{Event}
use Rattle.rp_model.specs.World.{World, Transition, opening_world, part_at, event_effect}
use Rattle.rp_model.proofs.WorldGrowing.{GrowsIf, event_grows}
use Rattle.rp_agreement.specs.History.{IsHistory, AreMoments}
use Rattle.rp_agreement.specs.Order.{IsPrefix, AreAlike, AllSent}
use Rattle.rp_agreement.specs.Worlds.{node_in, IsSoundWorld}

abbrev transition_or : Transition → Result Transition Fault → Transition
transition_or other (Ok transition) = transition
transition_or other (Err fault) = other

same_transition : (a b : Transition) → (let one : Result Transition Fault = Ok a in one) ≡ Ok b → a ≡ b
same_transition a b e = ap (transition_or a) e

module _ {S : Type 0} (s : Setting S) where
  -- every packet stays
  one_sends : (before : World) (event : Event) (transition : Transition) → event_effect s before event ≡ Ok transition → AllSent before.sent transition.world.sent
  one_sends before event transition is m there =
      let grows = subst (λ (r : Result Transition Fault). GrowsIf before r) is (event_grows s before event) in
      subst (λ (sent : List Message). Has m sent) (sym grows.sent) (has_left m before.sent transition.sends there)

  all_sent : (events : List Event) (before after : World) → Happen s before events after → AllSent before.sent after.sent
  all_sent [] before after happened m there = subst (λ (w : World). Has m w.sent) (sym happened) there
  all_sent (event ∷ rest) before after happened m there = all_sent rest happened.0.world after happened.2 m (one_sends before event happened.0 happened.1 m there)

  -- events lead to one world
  one_world : (events : List Event) (before after other : World) → Happen s before events after → Happen s before events other → after ≡ other
  one_world [] before after other left right = left ∙ sym right
  one_world (event ∷ rest) before after other left right =
      let same : right.0 ≡ left.0 = same_transition right.0 left.0 (sym right.1 ∙ left.1) in
      one_world rest left.0.world after other left.2 (subst (λ (h : Transition). Happen s h.world rest other) same right.2)

  -- some events lead to a world, and others on from there
  happen_split : (events more : List Event) (before after : World) → Happen s before (events ++ more) after → (middle : World) × Happen s before events middle × Happen s middle more after
  happen_split [] more before after happened = (before, refl, happened)
  happen_split (event ∷ rest) more before after happened =
      let later = happen_split rest more happened.0.world after happened.2 in
      (later.0, (happened.0, happened.1, later.1), later.2)

  -- what was sent by the end of some events is sent by the end of more
  pub all_sent_later : (events more : List Event) (now later : World) → IsHistory s events now → IsHistory s (events ++ more) later → AllSent now.sent later.sent
  all_sent_later events more now later first second =
      let split = happen_split events more (opening_world s.config.nodes) later second.happened in
      let same : split.0 ≡ now = one_world events (opening_world s.config.nodes) split.0 now split.1 first.happened in
      subst (λ (w : World). AllSent w.sent later.sent) same (all_sent more split.0 later split.2)

  -- a history leads to a world that satisfies the invariant
  pub history_sound : IsSoundWorld s.config.nodes (opening_world s.config.nodes) → (events : List Event) (w : World) → IsHistory s events w → IsSoundWorld s.config.nodes w
  history_sound opening events w history = history_keeps s history.config (opening_world s.config.nodes) events w opening history.right history.happened

-- ---- at two moments of a history

in_place : (nodes : List NodePart) (x : ℕ) (part : NodePart) → part_at nodes x ≡ Some part → node_in nodes x ≡ part
in_place nodes x part is = ap (λ (o : Option NodePart). unwrap_or o fresh_node) is

-- Two worlds that satisfy the invariant, the second one later.
pub record AreSoundMoments (nodes : ℕ) (now later : World) : Type 0 where
  pub first : IsSoundWorld nodes now
  pub second : IsSoundWorld nodes later
  pub sent : AllSent now.sent later.sent

module _ {nodes : ℕ} {now later : World} (both : AreSoundMoments nodes now later) where
  pub one_action : (i : ℕ) (v w : Action) → IsDecided nodes now.sent i v → IsDecided nodes later.sent i w → v ≡ w
  one_action i v w before after = one_decided both.second.sound i v w (decided_more nodes now.sent later.sent both.sent i v before) after

  pub order_begins : IsPrefix (order_of nodes now.sent) (order_of nodes later.sent)
  order_begins =
      let order = order_of nodes now.sent in
      decided_begins both.second.sound order (order_of nodes later.sent) (all_decided_stays nodes now.sent later.sent order both.sent (order_is nodes now.sent).decided) (order_is nodes later.sent)

  pub parts_alike : (x y : ℕ) (one other : NodePart) → part_at now.nodes x ≡ Some one → part_at later.nodes y ≡ Some other → AreAlike (applied_of one.records) (applied_of other.records)
  parts_alike x y one other is is_other =
      let alike = applied_alike nodes (node_in now.nodes) (node_in later.nodes) now.sent later.sent both.first.sound both.second.sound both.sent x y in
      let left : node_in now.nodes x ≡ one = in_place now.nodes x one is in
      let right : node_in later.nodes y ≡ other = in_place later.nodes y other is_other in
      subst (λ (p : NodePart × NodePart). AreAlike (applied_of p.0.records) (applied_of p.1.records)) (λ k. (left k, right k)) alike

-- the moments of a history
pub moments : {S : Type 0} (s : Setting S) → IsSoundWorld s.config.nodes (opening_world s.config.nodes) → (now later : World) → AreMoments s now later → AreSoundMoments s.config.nodes now later
moments s opening now later are =
    record {
      first = history_sound s opening are.events now are.before;
      second = history_sound s opening (are.events ++ are.more) later are.after;
      sent = all_sent_later s are.events are.more now later are.before are.after;
    }
