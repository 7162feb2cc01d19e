-- How a run goes on after an event, by what was answered.
use Rattle.std.proofs.Common.{◌≡◌, ℕ, ◌≤◌, ◌||◌, Bool, true, false, Option, Result, Ok, Err, List, [], ◌∷◌, arith, refl, ap, subst, ◌∙◌}
use Rattle.std.specs.Prelude.{◌==◌, IfErr, IfOk}
use Rattle.std.proofs.KnownBytes.{Appends-nil}
use Rattle.rp_base.specs.Fault.{code_of}
use Rattle.rp_base.specs.declared.action.Action.{Action}
use Rattle.rp_base.specs.declared.fault.Fault.{Fault}
use Rattle.rp_base.specs.declared.reply.Answer.{Answer}
use Rattle.rp_deck.specs.Script.{IsEventWithin}
use Rattle.rp_model.specs.Answers.{Steps}
use Rattle.rp_model.specs.Effect.{Setting}
use Rattle.rp_model.specs.Events as events
use Rattle.rp_model.specs.World.{World}
use Rattle.rp_model.specs.declared.effect.Effect.{Effect}
use Rattle.rp_model.specs.declared.event.Event.{Event}
use Rattle.rp_model.specs.declared.event.Event.TheVariants.{Node}
use Rattle.rp_model.specs.declared.event.Step.TheVariants.{Deliver}
use Rattle.rp_output.specs.Faults.{IsRunFault}
use Rattle.rp_output.specs.Stream.{Writes}
use Rattle.rp_output.proofs.Writing.{writes_same}
use Rattle.rp_world.specs.rp_actors.specs.Deliveries.{only_sent, delivery_answer}
use Rattle.rp_world.specs.rp_actors.specs.Steps.{ClusterState, IsStep}
use Rattle.rp_run.specs.GoingOn.{RunGoesOn}
use Rattle.rp_run.specs.Output.{is_among}
use Rattle.rp_run.specs.Runs.{HasParts, printed_text}
use Rattle.rp_run.specs.Settled.{is_settled}
use Rattle.rp_run.specs.declared.options.RunOptions.{RunOptions}
use Rattle.rp_run.specs.declared.settled.Settled.{Settled}
use Rattle.rp_run.proofs.Refusing.{IsNumbered}
use Rattle.rp_run.proofs.Stepping.{always_ok, parts_stay, parts_left, ends_with, ends_over, refused_counts, refused_of}
use Rattle.rp_run.proofs.Taken.{just_taken}

-- an effect has the number of a message
pub numbered_from_one : {S : Type 0} (s : Setting S) (w after : World) (event : events.Event) (answer : Result Effect Fault) → Steps s w event after answer → IfOk answer (λ effect. 1 ≤ effect.first)
numbered_from_one s w after event (Ok effect) done = omega (arith, done.describes.first)
numbered_from_one s w after event (Err fault) stops = tt

module _ {S P : Type 0} (next : S → Action → S) (answers : S → Action → List Answer) (start : P → S) (nodes : ℕ) (before now : ClusterState P) (event : Event)
    (parts : HasParts nodes before) (fits : IsEventWithin nodes 8 8 event) where
  -- it happened
  pub happened_on : (effect : Effect) (answer : Result Unit Fault) → IsStep next answers start before event now (Ok effect) → IfErr answer IsRunFault → RunGoesOn nodes before now answer
  happened_on effect answer step ended = record {
    parts = always_ok answer (parts_stay next answers start nodes before now event parts fits effect step.setup step.world);
    counts = always_ok answer step.failures;
    fault = ends_over before.failures now.failures answer ended;
  }

  -- it was refused
  pub refused_on : (fault : Fault) (answer : Result Unit Fault) → IsStep next answers start before event now (Err fault) → 5 ≤ code_of fault → IfErr answer IsRunFault → RunGoesOn nodes before now answer
  refused_on fault answer step numbered ended = record {
    parts = always_ok answer (parts_left next answers start nodes before now event parts fits fault step.setup (refused_of _ before.world now.world event fault step.world numbered));
    counts = always_ok answer (refused_counts _ before.failures now.failures fault numbered step.failures);
    fault = ends_over before.failures now.failures answer ended;
  }

  -- or it failed
  pub failed_on : (fault : Fault) → IsStep next answers start before event now (Err fault) → (IsNumbered fault → ⊥) → RunGoesOn nodes before now (Err fault)
  failed_on fault step other = record {
    parts = tt;
    counts = tt;
    fault = ends_with next answers start nodes before now event parts fits fault step.world other step.failures;
  }

-- ---- a delivery

module _ {S P : Type 0} (next : S → Action → S) (answers : S → Action → List Answer) (start : P → S) (old new : ClusterState P) (event : Event) (reports : Bool) (reported : Result Effect Fault)
    (step : IsStep next answers start old event new (delivery_answer old.world new.world reports reported)) where
  -- of which there is something to tell
  pub reported_step : reports ≡ true → IsStep next answers start old event new reported
  reported_step is = subst (λ (b : Bool). IsStep next answers start old event new (delivery_answer old.world new.world b reported)) is step

  -- or which only sent
  pub unreported_step : reports ≡ false → IsStep next answers start old event new (Ok (only_sent old.world new.world))
  unreported_step is = subst (λ (b : Bool). IsStep next answers start old event new (delivery_answer old.world new.world b reported)) is step

or_false : (b : Bool) → b ≡ (b || false)
or_false true = refl
or_false false = refl

pub settled_one : (before after : Settled) (message : ℕ) → ((m : ℕ) → is_settled after m ≡ (m == message || is_settled before m))
    → (m : ℕ) → is_settled after m ≡ (is_among (message ∷ []) m || is_settled before m)
settled_one before after message settles = λ m. settles m ∙ ap (λ (b : Bool). b || is_settled before m) (or_false (m == message))

-- nothing is printed of it, where packets are not
pub sent_unprinted : (options : RunOptions) (old new : World) (message : ℕ) (written : Option (List ℕ)) → options.traced ≡ false
    → (let done : Result Unit Fault = Ok tt in Writes written written (printed_text options new (Node (Deliver message)) (only_sent old new)) done)
sent_unprinted options old new message written untraced =
    let none : (options.traced || (false || false)) ≡ false = ap (λ (b : Bool). b || (false || false)) untraced in
    writes_same written written [] (printed_text options new (Node (Deliver message)) (only_sent old new)) (Ok tt) (just_taken options new (Node (Deliver message)) (only_sent old new) none) (Appends-nil written)
