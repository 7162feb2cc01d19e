-- Steps that take no memory.
use Rattle.std.proofs.Common.{◌≡◌, ℕ, Option, Some, None, Result, Ok, Err, List, refl, sym, ap, subst, ◌∙◌}
use Rattle.rp_base.specs.declared.action.Action.{Action}
use Rattle.rp_base.specs.declared.fault.Fault.{Fault}
use Rattle.rp_base.specs.declared.fault.Fault.TheVariants.{BadConfig}
use Rattle.rp_base.specs.declared.reply.Answer.{Answer}
use Rattle.rp_agreement.proofs.PartPlaces.{put_there}
use Rattle.rp_model.specs.Effect.{Done, NodeInput, Setting, node_effect, turn_done, turn_done_if}
use Rattle.rp_model.specs.Events.{Step}
use Rattle.rp_model.specs.Parts.{NodePart, Turn}
use Rattle.rp_model.specs.World.{World, Transition, part_at, with_part, node_done, node_done_if, commanded, chosen_effect, chosen_record, step_effect, step_writes, stepping, written_by}
use Rattle.rp_replica.specs.Inputs.{replica_effect}
use Rattle.rp_replica.specs.State.{ReplicaState}
use Rattle.rp_replica.specs.rp_rules.specs.Plans.{TakesNoMemory}
use Rattle.rp_actors.specs.Nodes.{Member, RunsAs, IsLight, heard_while, node_step}
use Rattle.rp_actors.specs.Steps.{IsLightStep, votes_heard}
use Rattle.rp_actors.proofs.Turning.{same_effect}

-- ---- a node

-- the turn of a replica that runs as the part
module _ {S : Type 0} (next : S → Action → S) (answers : S → Action → List Answer) (member : Member S) (replica : ReplicaState S) (part : NodePart) (runs : RunsAs member replica part) (input : NodeInput) (light : IsLight part (node_step next answers member input part)) where
  abbrev effect : Result Turn Fault
  effect = replica_effect next answers replica input

  -- it takes no memory
  pub record LightTurn : Type 0 where
    pub turn : Turn
    pub resulted : effect ≡ Ok turn
    pub free : TakesNoMemory replica.running turn

  whole : (e : Result Turn Fault) → effect ≡ e → turn_done_if part e ≡ Ok light.done
  whole e resulted = sym (same_effect next answers member replica part runs input ∙ ap (turn_done_if part) resulted) ∙ light.resulted

  by_turn : (e : Result Turn Fault) → effect ≡ e → LightTurn
  by_turn (Ok turn) resulted =
      let done = whole (Ok turn) resulted in
      let same : turn_done part turn ≡ light.done = cc in
      record {
        turn = turn;
        resulted = resulted;
        free = record {
          written = ap (λ (d : Done NodePart). d.written) same ∙ light.written;
          sent = ap (λ (d : Done NodePart). d.sends) same ∙ light.sends;
          heard = ap (λ (d : Done NodePart). heard_while d.part.running) same ∙ light.heard ∙ ap (λ (p : NodePart). heard_while p.running) runs.known;
        };
      }
  by_turn (Err refusal) resulted = let refused = whole (Err refusal) resulted in absurd (cc)

  pub light_turn : LightTurn
  light_turn = by_turn effect refl

-- ---- a node of the world

same_number : (one other : ℕ) → Some one ≡ Some other → one ≡ other
same_number one other e = cc

module _ {S : Type 0} (s : Setting S) (w : World) (step : Step) (light : IsLightStep s w step) (me : ℕ) (mine : stepping w step ≡ Some me) (input : NodeInput) where
  -- there is one of the number of a step that gives an input
  has_part : step_effect s w step ≡ chosen_effect s w (commanded me input (part_at w.nodes me)) → (part : NodePart) × (part_at w.nodes me ≡ Some part)
  has_part whole = by (part_at w.nodes me) refl
    where
      by : (o : Option NodePart) → part_at w.nodes me ≡ o → (part : NodePart) × (part_at w.nodes me ≡ Some part)
      by (Some part) here = (part, here)
      by None none =
          let refused : step_effect s w step ≡ Err BadConfig = whole ∙ ap (λ o. chosen_effect s w (commanded me input o)) none in
          let resulted : step_effect s w step ≡ Ok light.transition = light.resulted in
          absurd (cc)

  -- the input takes no memory there
  module _ (part : NodePart) (here : part_at w.nodes me ≡ Some part) (whole : step_effect s w step ≡ node_done_if w me (node_effect s me part input)) (writes : step_writes s w step ≡ chosen_record s (commanded me input (part_at w.nodes me))) where
    heard_same : votes_heard (part_at light.transition.world.nodes me) ≡ heard_while part.running
    heard_same =
        let same : light.me ≡ me = same_number light.me me (sym light.node ∙ mine) in
        subst (λ (k : ℕ). votes_heard (part_at light.transition.world.nodes k) ≡ votes_heard (part_at w.nodes k)) same light.heard ∙ ap votes_heard here

    by_done : (e : Result (Done NodePart) Fault) → node_effect s me part input ≡ e → IsLight part (node_effect s me part input)
    by_done (Ok done) resulted =
        let stated : step_effect s w step ≡ Ok (node_done w me done) = whole ∙ ap (node_done_if w me) resulted in
        let took : step_effect s w step ≡ Ok light.transition = light.resulted in
        let same : node_done w me done ≡ light.transition = cc in
        let put : part_at (with_part w.nodes me done.part) me ≡ Some done.part = put_there w.nodes me part done.part here in
        record {
          done = done;
          resulted = resulted;
          written = sym (writes ∙ ap (λ o. chosen_record s (commanded me input o)) here ∙ ap written_by resulted) ∙ light.written;
          sends = ap (λ (t : Transition). t.sends) same ∙ light.sends;
          heard = sym (ap votes_heard put) ∙ ap (λ (t : Transition). votes_heard (part_at t.world.nodes me)) same ∙ heard_same;
        }
    by_done (Err fault) resulted =
        let refused : step_effect s w step ≡ Err fault = whole ∙ ap (node_done_if w me) resulted in
        let took : step_effect s w step ≡ Ok light.transition = light.resulted in
        absurd (cc)

    pub light_part : IsLight part (node_effect s me part input)
    light_part = by_done (node_effect s me part input) refl

  -- an input that a step gives takes no memory there
  pub record LightInput : Type 0 where
    pub part : NodePart
    pub here : part_at w.nodes me ≡ Some part
    pub takes_none : IsLight part (node_effect s me part input)

  pub light_input : step_effect s w step ≡ chosen_effect s w (commanded me input (part_at w.nodes me)) → step_writes s w step ≡ chosen_record s (commanded me input (part_at w.nodes me)) → LightInput
  light_input whole writes =
      let there = has_part whole in
      record { part = there.0; here = there.1; takes_none = light_part there.0 there.1 (whole ∙ ap (λ o. chosen_effect s w (commanded me input o)) there.1) writes }
