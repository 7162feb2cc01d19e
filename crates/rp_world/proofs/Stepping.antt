-- What is answered to an event is a step of the cluster.
use Rattle.std.proofs.Common.{◌≡◌, ℤ, ℕ, Result, Ok, Err, List, inl, inr, refl, sym, ap, subst, ◌∙◌}
use Rattle.rp_base.specs.declared.action.Action.{Action}
use Rattle.rp_base.specs.declared.action.Operation.{Operation}
use Rattle.rp_base.specs.declared.fault.Fault.{Fault}
use Rattle.rp_base.specs.declared.fault.Fault.TheVariants.{OutOfMemory, Device}
use Rattle.rp_base.specs.declared.reply.Answer.{Answer}
use Rattle.rp_model.proofs.Devices.{NoDevice, event_is}
use Rattle.rp_model.specs.Answers.{IsLeft, FailsBy, Steps}
use Rattle.rp_model.specs.Effect.{Setting}
use Rattle.rp_model.specs.declared.effect.Effect.{Effect}
use Rattle.rp_model.specs.declared.event.Event.{Event as Taken}
use Rattle.rp_model.specs.Events.{Event, Step, Submit, Again, Makes, Cut, Stop, Restart, event_of}
use Rattle.rp_model.specs.World.{Transition, event_effect, node_of}
use Rattle.rp_actors.specs.Failures.{AreCounted, RisesOnly}
use Rattle.rp_actors.specs.Going.{Meant, Goes, IsRefusedWhole, IsCutByDevice, Answers, AnswersStop, AnswersRestart, call_meant, cut_meant, step_meant}
use Rattle.rp_actors.specs.Steps.{ClusterState, IsStep, cluster_setting}
use Rattle.rp_actors.proofs.Reports.{as_fault}

module _ {S P : Type 0} (next : S → Action → S) (answers : S → Action → List Answer) (begin : P → S) (old new : ClusterState P) (given : Taken) (event : Event) (is : event_of given ≡ event) where
  abbrev s : Setting S
  s = cluster_setting next answers begin old

  abbrev pub IsIts : Result Effect Fault → Type 0
  IsIts answer = IsStep next answers begin old given new answer

  abbrev effect : Result Transition Fault
  effect = event_effect s old.world event

  abbrev Counted : Result Effect Fault → Type 0
  Counted answer = AreCounted (node_of old.world event) old.failures new.failures answer

  by_parts : (answer : Result Effect Fault) → Steps s old.world event new.world answer → new.setup ≡ old.setup → Counted answer → IsIts answer
  by_parts answer steps setup counted = record {
    world = subst (λ e. Steps s old.world e new.world answer) (sym is) steps;
    setup = setup;
    failures = subst (λ e. AreCounted (node_of old.world e) old.failures new.failures answer) (sym is) counted;
  }

  -- the event happened
  goes_on : (stated : Effect) → Goes old effect new stated → IsIts (Ok stated)
  goes_on stated goes =
      by_parts (Ok stated) (record { transition = goes.transition; resulted = goes.resulted; world = ap (λ (v : ClusterState P). v.world) goes.goes; describes = goes.describes })
      (ap (λ (v : ClusterState P). v.setup) goes.goes) (ap (λ (v : ClusterState P). v.failures) goes.goes)

  -- it is refused, and by no device
  none_rose : (fault : Fault) → (let r : Result Transition Fault = Err fault in NoDevice r) → new.failures ≡ old.failures → Counted (as_fault fault)
  none_rose Device none same = absurd none
  none_rose _ none same = same

  refuses : (fault : Fault) → IsRefusedWhole old effect new fault → IsIts (as_fault fault)
  refuses fault refused =
      by_parts (as_fault fault) (inl (record { refusal = refused.resulted; unchanged = ap (λ (v : ClusterState P). v.world) refused.unchanged })) (ap (λ (v : ClusterState P). v.setup) refused.unchanged)
      (none_rose fault (subst NoDevice refused.resulted (event_is s old.world event)) (ap (λ (v : ClusterState P). v.failures) refused.unchanged))

  -- memory ran out for it
  ran_out : {fault : Fault} → fault ≡ OutOfMemory → (intended : Transition) → effect ≡ Ok intended → IsLeft old.world event new.world → new.setup ≡ old.setup → new.failures ≡ old.failures → IsIts (as_fault fault)
  ran_out memory intended resulted left setup same =
      subst (λ (f : Fault). IsIts (as_fault f)) (sym memory) (by_parts (as_fault OutOfMemory) (inr (inl (refl, record { intended = intended; effect = resulted; left_so = left }))) setup same)

  -- its device failed
  failed : {fault : Fault} → fault ≡ Device → FailsBy s old.world event new.world → new.setup ≡ old.setup → RisesOnly (node_of old.world event) old.failures new.failures → IsIts (as_fault fault)
  failed device fails setup rises = subst (λ (f : Fault). IsIts (as_fault f)) (sym device) (by_parts (as_fault Device) (inr (inr (refl, fails))) setup rises)

  module _ (m : Meant) (whole : effect ≡ m.whole) (left : new.world ≡ old.world → IsLeft old.world event new.world)
      (fails : (fault : Fault) → IsCutByDevice old m new fault → FailsBy s old.world event new.world × RisesOnly (node_of old.world event) old.failures new.failures) where
    answered : (answer : Result Effect Fault) → Answers old m new answer → IsIts answer
    answered (Ok stated) goes = goes_on stated (subst (λ r. Goes old r new stated) (sym whole) goes)
    answered (Err fault) stops =
        elim stops [
          | inl refused ↦ refuses fault (subst (λ r. IsRefusedWhole old r new fault) (sym whole) refused)
          | inr other ↦
              elim other [
                | inl out ↦
                    ran_out out.memory out.intended (whole ∙ out.resulted) (left (ap (λ (v : ClusterState P). v.world) out.unchanged)) (ap (λ (v : ClusterState P). v.setup) out.unchanged)
                    (ap (λ (v : ClusterState P). v.failures) out.unchanged)
                | inr fails_so ↦ let f = fails fault fails_so in failed fails_so.device f.0 (ap (λ (v : ClusterState P). v.setup) fails_so.goes) f.1
              ]
        ]

  stops_as : (answer : Result Effect Fault) → AnswersStop old effect new answer → IsIts answer
  stops_as (Ok stated) goes = goes_on stated goes
  stops_as (Err fault) refused = refuses fault refused

module _ {S P : Type 0} (next : S → Action → S) (answers : S → Action → List Answer) (begin : P → S) (old new : ClusterState P) (given : Taken) (answer : Result Effect Fault) where
  abbrev setting : Setting S
  setting = cluster_setting next answers begin old

  abbrev IsItsStep : Type 0
  IsItsStep = IsStep next answers begin old given new answer

  -- a task uses no device
  no_cut : {Q : Type 0} (effect : Result Transition Fault) (fault : Fault) → IsCutByDevice old (call_meant effect) new fault → Q
  no_cut effect fault fails = absurd (let resulted = fails.resulted in cc)

  pub submitted : (task node object : ℕ) (operation : Operation) (arg : ℤ) → event_of given ≡ Submit task node object operation arg
      → Answers old (call_meant (event_effect setting old.world (Submit task node object operation arg))) new answer → IsItsStep
  submitted task node object operation arg is answers_so =
      let event = Submit task node object operation arg in
      answered next answers begin old new given event is (call_meant (event_effect setting old.world event)) refl (λ same. same) (no_cut (event_effect setting old.world event)) answer answers_so

  pub asked : (task node : ℕ) → event_of given ≡ Again task node → Answers old (call_meant (event_effect setting old.world (Again task node))) new answer → IsItsStep
  asked task node is answers_so =
      let event = Again task node in
      answered next answers begin old new given event is (call_meant (event_effect setting old.world event)) refl (λ same. same) (no_cut (event_effect setting old.world event)) answer answers_so

  -- a node makes a step, whole or cut
  pub made_whole : (step : Step) → event_of given ≡ Makes step → Answers old (step_meant setting old.world step) new answer → IsItsStep
  made_whole step is answers_so =
      answered next answers begin old new given (Makes step) is (step_meant setting old.world step) refl (λ same. same)
      (λ fault f. ((f.kept, record { transition = f.transition; effect = f.resulted; world = ap (λ (v : ClusterState P). v.world) f.goes }, f.wrote), f.rises)) answer answers_so

  pub made_cut : (step : Step) (kept : ℕ) → event_of given ≡ Cut step kept → Answers old (cut_meant setting old.world step kept) new answer → IsItsStep
  made_cut step kept is answers_so =
      answered next answers begin old new given (Cut step kept) is (cut_meant setting old.world step kept) refl (λ same. same)
      (λ fault f. ((f.kept, record { transition = f.transition; effect = f.resulted; world = ap (λ (v : ClusterState P). v.world) f.goes }, f.wrote), f.rises)) answer answers_so

  pub stopped : (node : ℕ) → event_of given ≡ Stop node → AnswersStop old (event_effect setting old.world (Stop node)) new answer → IsItsStep
  stopped node is answers_so = stops_as next answers begin old new given (Stop node) is answer answers_so

-- a restart
module _ {S P : Type 0} (next : S → Action → S) (answers : S → Action → List Answer) (begin : P → S) (old new : ClusterState P) (given : Taken) (node : ℕ) (is : event_of given ≡ Restart node) where
  pub restarted : (answer : Result Effect Fault) → AnswersRestart old node (event_effect (cluster_setting next answers begin old) old.world (Restart node)) new answer → IsStep next answers begin old given new answer
  restarted (Ok stated) goes = goes_on next answers begin old new given (Restart node) is stated goes
  restarted (Err fault) stops =
      elim stops [
        | inl refused ↦ refuses next answers begin old new given (Restart node) is fault refused
        | inr starts_not ↦
            elim starts_not.why [
              | inl memory ↦ ran_out next answers begin old new given (Restart node) is memory.0 starts_not.intended starts_not.resulted starts_not.left starts_not.setup memory.1
              | inr device ↦ failed next answers begin old new given (Restart node) is device.0 starts_not.left starts_not.setup device.1
            ]
      ]
