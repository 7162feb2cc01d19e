-- What a node's answer says: a step was made, with the effect of its input, or nothing changed.
use Rattle.std.proofs.Common.{◌≡◌, ℕ, Bool, true, false, not, Option, Some, None, Result, Ok, Err, List, [], ◌∷◌, ◌++◌, length, take, drop, append_assoc, refl, sym, ap, subst, ◌∙◌}
use Rattle.rp_base.specs.declared.action.Action.{Action}
use Rattle.rp_base.specs.declared.config.Config.{Config}
use Rattle.rp_base.specs.declared.fault.Fault.{Fault}
use Rattle.rp_base.specs.declared.reply.Answer.{Answer}
use Rattle.rp_model.specs.Effect.{Setting, NodeInput, running_effect, node_effect, turn_done, turn_done_if}
use Rattle.rp_model.specs.Parts.{Turn}
use Rattle.rp_world.specs.rp_replica.specs.Inputs.{effect_if_given}
use Rattle.rp_world.specs.rp_replica.specs.State.{part_of}
use Rattle.rp_model.specs.declared.effect.Dropped.{Dropped}
use Rattle.rp_model.specs.declared.effect.Dropped.TheVariants as drops
use Rattle.rp_requests.specs.Nodes.{NodeState, RequestAnswers, GivenAnswers, after_early, after_step, is_at_end, not_taken}
use Rattle.rp_requests.specs.Timing.{comes_early, comes_late}
use Rattle.rp_requests.specs.Buffers.{IsPutInFront}
use Rattle.rp_requests.specs.Requests.{Asked, Step, Applied, Image, LastAnswer, Left, Pending, Counted, Occurred}
use Rattle.rp_requests.specs.declared.buffer.Lengths.{Lengths}
use Rattle.rp_requests.specs.declared.refusal.Refusal.{Refusal}
use Rattle.rp_requests.specs.declared.refusal.Refusal.TheVariants as refusals
use Rattle.rp_installations.specs.Moves.{is_left_out, is_step_made}
use Rattle.rp_installations.specs.Behind.{IsSetUp}
use Rattle.rp_installations.specs.Outcomes.{GivesAnswer}
use Rattle.rp_installations.proofs.Starts.{effect_alike}

pub data Outcome {S : Type 0} (next : S → Action → S) (answers : S → Action → List Answer) (asked : Option Asked) (old new : NodeState S) (made : Bool) : Type 0 where
  Stepped : (input : NodeInput) (stale : Bool) (turn : Turn) → asked ≡ Some (Step (Ok input)) → comes_early next answers old.replica (Ok input) ≡ false → effect_if_given next answers old.replica (Ok input) ≡ Ok turn → new ≡ after_step old stale turn → made ≡ true → Outcome next answers asked old new made
  Unchanged : new.replica ≡ old.replica → made ≡ false → Outcome next answers asked old new made

-- a step that was made left no call out
pub none_left_out : (stale : Bool) (dropped : Dropped) → not (is_left_out (not_taken stale dropped)) ≡ true
none_left_out stale drops.Full = refl
none_left_out stale drops.Foreign = refl
none_left_out true drops.No = refl
none_left_out false drops.No = refl

module _ {S : Type 0} (next : S → Action → S) (answers : S → Action → List Answer) (image : S → List ℕ) where
  stepped : (given : Result NodeInput Fault) (old new : NodeState S) (stale : Bool) (turn : Turn) (made : Bool) → comes_early next answers old.replica given ≡ false → effect_if_given next answers old.replica given ≡ Ok turn → new ≡ after_step old stale turn → made ≡ true → Outcome next answers (Some (Step given)) old new made
  stepped (Ok input) old new stale turn made timely takes goes is = Stepped input stale turn refl timely takes goes is
  stepped (Err fault) old new stale turn made timely takes goes is = absurd (cc)

  same_replica : (old new : NodeState S) → new ≡ old → new.replica ≡ old.replica
  same_replica old new same = ap (λ (n : NodeState S). n.replica) same

  given_outcome : (early : Bool) (given : Result NodeInput Fault) (at_end stale : Bool) (old new : NodeState S) (before after : List ℕ) (result : Result Lengths Refusal)
      → comes_early next answers old.replica given ≡ early → GivenAnswers early (effect_if_given next answers old.replica given) at_end stale old new before after result → Outcome next answers (Some (Step given)) old new (is_step_made (Some (Step given)) result new.not_taken)
  given_outcome true given at_end stale old new before after (Ok lengths) is a = Unchanged (ap (λ (n : NodeState S). n.replica) a.0) (ap (λ (n : NodeState S). not (is_left_out n.not_taken)) a.0)
  given_outcome true given at_end stale old new before after (Err (refusals.ShortAnswer needed)) is a = Unchanged (same_replica old new a.0.node) refl
  given_outcome true given at_end stale old new before after (Err (refusals.LongAnswer needed)) is a = absurd a
  given_outcome true given at_end stale old new before after (Err (refusals.Fault fault)) is a = absurd a
  given_outcome true given at_end stale old new before after (Err refusals.BadRequest) is a = absurd a
  given_outcome true given at_end stale old new before after (Err refusals.NoObjects) is a = absurd a
  given_outcome true given at_end stale old new before after (Err refusals.TooFar) is a = absurd a
  given_outcome true given at_end stale old new before after (Err refusals.WrongDevice) is a = absurd a
  given_outcome false given at_end stale old new before after (Ok lengths) is a =
      stepped given old new stale a.turn (not (is_left_out new.not_taken)) is a.takes a.goes (ap (λ (n : NodeState S). not (is_left_out n.not_taken)) a.goes ∙ none_left_out stale a.turn.dropped)
  given_outcome false given at_end stale old new before after (Err (refusals.LongAnswer needed)) is a = stepped given old new stale a.turn true is a.takes a.goes refl
  given_outcome false given at_end stale old new before after (Err (refusals.Fault fault)) is a = Unchanged (same_replica old new a.0.node) refl
  given_outcome false given at_end stale old new before after (Err (refusals.ShortAnswer needed)) is a = Unchanged (same_replica old new a.0.node) refl
  given_outcome false given at_end stale old new before after (Err refusals.BadRequest) is a = absurd a
  given_outcome false given at_end stale old new before after (Err refusals.NoObjects) is a = absurd a
  given_outcome false given at_end stale old new before after (Err refusals.TooFar) is a = Unchanged (same_replica old new a.0.node) refl
  given_outcome false given at_end stale old new before after (Err refusals.WrongDevice) is a = absurd a

  pub outcome : (asked : Option Asked) (old new : NodeState S) (before after : List ℕ) (result : Result Lengths Refusal) → RequestAnswers next answers image asked old new before after result → Outcome next answers asked old new (is_step_made asked result new.not_taken)
  outcome None old new before after result a = Unchanged (same_replica old new a.0.node) refl
  outcome (Some (Step given)) old new before after result a = given_outcome (comes_early next answers old.replica given) given (is_at_end old.replica given) (comes_late next answers old.replica given) old new before after result refl a
  outcome (Some Applied) old new before after result a = Unchanged (same_replica old new a.0) refl
  outcome (Some Image) old new before after result a = Unchanged (same_replica old new a.0) refl
  outcome (Some LastAnswer) old new before after result a = Unchanged (same_replica old new a.0) refl
  outcome (Some Left) old new before after result a = Unchanged (same_replica old new a.0) refl
  outcome (Some Pending) old new before after result a = Unchanged (same_replica old new a.0) refl
  outcome (Some (Counted task)) old new before after result a = Unchanged (same_replica old new a.0) refl
  outcome (Some (Occurred source)) old new before after result a = Unchanged (same_replica old new a.0) refl

-- the effect on the node's part
pub effect_on_part : {S : Type 0} (s : Setting S) (me : ℕ) (node : NodeState S) (input : NodeInput) (turn : Turn) → IsSetUp s me node → effect_if_given s.next s.answers node.replica (Ok input) ≡ Ok turn
    → node_effect s me (part_of node.replica) input ≡ Ok (turn_done (part_of node.replica) turn)
effect_on_part {S} s me node input turn set_up effect =
    let at : ℕ → Config → Result Turn Fault =
    λ k c. (let setting : Setting S = record { config = c; next = s.next; answers = s.answers; begin = node.replica.begin } in running_effect setting k node.replica.records node.replica.running input) in
    ap (turn_done_if (part_of node.replica)) (sym (effect_alike s.config s.next s.answers node.replica.begin s.begin set_up.begin me node.replica.records node.replica.running input) ∙ sym (λ i. at (set_up.me_is i) (set_up.config i)) ∙ effect)

-- ---- the bytes of an answer

front_of : (front rest : List ℕ) → take (length front) (front ++ rest) ≡ front
front_of [] rest = refl
front_of (x ∷ front) rest = ap (λ (l : List ℕ). x ∷ l) (front_of front rest)

after_front : (front rest : List ℕ) → drop (length front) (front ++ rest) ≡ rest
after_front [] rest = refl
after_front (x ∷ front) rest = after_front front rest

pub gives : {S : Type 0} (node : NodeState S) (before after : List ℕ) (lengths : Lengths) → IsPutInFront node.stored node.packets before after lengths → GivesAnswer node after lengths
gives node before after lengths put =
    let others = drop (length (node.stored ++ node.packets)) before in
    record {
      stored = ap (λ (n : ℕ). take n after) put.stored_is ∙ ap (take (length node.stored)) (put.front ∙ append_assoc node.stored node.packets others) ∙ front_of node.stored (node.packets ++ others);
      packets = ap (λ (n : ℕ). drop n (take lengths.used after)) put.stored_is
          ∙ ap (λ (n : ℕ). drop (length node.stored) (take n after)) put.used_is
          ∙ ap (λ (l : List ℕ). drop (length node.stored) (take (length (node.stored ++ node.packets)) l)) put.front
          ∙ ap (drop (length node.stored)) (front_of (node.stored ++ node.packets) others) ∙ after_front node.stored node.packets;
    }

pub step_gives : {S : Type 0} (early : Bool) (effect : Result Turn Fault) (at_end stale : Bool) (old new : NodeState S) (before after : List ℕ) (lengths : Lengths) → GivenAnswers early effect at_end stale old new before after (Ok lengths) → GivesAnswer new after lengths
step_gives true effect at_end stale old new before after lengths a = subst (λ (n : NodeState _). GivesAnswer n after lengths) (sym a.0) (gives (after_early old) before after lengths a.2)
step_gives false effect at_end stale old new before after lengths a = subst (λ (n : NodeState _). GivesAnswer n after lengths) (sym a.goes) (gives (after_step old stale a.turn) before after lengths a.put)

pub last_gives : {S : Type 0} (old new : NodeState S) (before after : List ℕ) (lengths : Lengths) → new ≡ old → IsPutInFront old.stored old.packets before after lengths → GivesAnswer new after lengths
last_gives old new before after lengths same put = subst (λ (n : NodeState _). GivesAnswer n after lengths) (sym same) (gives old before after lengths put)
