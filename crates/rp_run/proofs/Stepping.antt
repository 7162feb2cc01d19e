-- A step of a run.
use Rattle.std.proofs.Common.{inl, inr, ◌≡◌, ℕ, zero, suc, ◌≤◌, Option, Some, None, Result, Ok, Err, List, length, OnOk, arith, sym, ap, subst, ◌∙◌}
use Rattle.std.specs.Prelude.{All, IfErr, IsErrAnd}
use Rattle.std.proofs.lemmas.Option.{get_or_from_slice_get, slice_get_within}
use Rattle.std.proofs.lemmas.Result.{IfErr-weaker}
use Rattle.std.proofs.lemmas.List.{length-replicate}
use Rattle.rp_base.specs.Fault.{code_of}
use Rattle.rp_base.specs.declared.action.Action.{Action}
use Rattle.rp_base.specs.declared.fault.Fault.{Fault}
use Rattle.rp_base.specs.declared.fault.Fault.TheVariants.{OutOfMemory, Device, Failed, BadPacket, NotRunning, BallotsSpent, LogFull, NoSuchMessage, TaskBusy, NumbersSpent, BadDeck, BadConfig, Io}
use Rattle.rp_base.specs.declared.reply.Answer.{Answer}
use Rattle.rp_model.specs.declared.effect.Effect.{Effect}
use Rattle.rp_model.specs.declared.event.Event.{Event}
use Rattle.rp_model.specs.Answers.{IsDone, IsFaulted, IsRefused}
use Rattle.rp_model.specs.Effect.{Setting}
use Rattle.rp_model.specs.Events.{event_of}
use Rattle.rp_model.specs.Parts.{fresh_node, fresh_task}
use Rattle.rp_model.specs.World.{World, Transition, event_effect, node_of, opening_world, part_at}
use Rattle.rp_world.specs.rp_agreement.proofs.PartPlaces.{put_there}
use Rattle.rp_world.specs.rp_actors.specs.Failures.{AreCounted, RisesAt, RisesOnly}
use Rattle.rp_world.specs.rp_actors.specs.Steps.{ClusterState, Setup, cluster_setting}
use Rattle.rp_run.specs.Faults.{IsDeviceRunFault}
use Rattle.rp_output.specs.Faults.{IsRunFault}
use Rattle.rp_run.specs.Runs.{HasParts, run_setting}
use Rattle.rp_deck.specs.Script.{IsEventWithin}
use Rattle.rp_run.specs.declared.options.RunOptions.{RunOptions}
use Rattle.rp_run.proofs.Refusing.{IsNumbered, Keeps, event_keeps}

-- what is true is so where all goes well
pub always_ok : {P : Type 0} (answer : Result Unit Fault) → P → OnOk answer P
always_ok (Ok done) p = p
always_ok (Err fault) p = tt

kept_lengths : (w : World) (answer : Result Transition Fault) (transition : Transition) → answer ≡ Ok transition → Keeps w answer
    → (length transition.world.nodes ≡ length w.nodes) × (length transition.world.tasks ≡ length w.tasks)
kept_lengths w answer transition is keeps = subst (Keeps w) is keeps

-- how a fault leaves the counts of failures
abbrev pub FailsAsCounted : Option ℕ → List ℕ → List ℕ → Fault → Type 0
FailsAsCounted me before after fault = let answer : Result Effect Fault = Err fault in AreCounted me before after answer

rises_somewhere : (me : Option ℕ) (before after : List ℕ) → RisesOnly me before after → (node : ℕ) × RisesAt node before after
rises_somewhere None before after rises = absurd rises
rises_somewhere (Some me) before after rises = (me, rises)

module _ {S P : Type 0} (next : S → Action → S) (answers : S → Action → List Answer) (start : P → S) (nodes : ℕ) (old new : ClusterState P) (event : Event)
    (parts : HasParts nodes old) (fits : IsEventWithin nodes 8 8 event) where
  keeps : Keeps old.world (event_effect (cluster_setting next answers start old) old.world (event_of event))
  keeps =
      event_keeps (cluster_setting next answers start old) old.world event (parts.nodes_there ∙ sym parts.config) parts.tasks
      (subst (λ (n : ℕ). IsEventWithin n 8 8 event) (sym parts.config) fits)

  -- nodes and tasks neither come nor go
  pub parts_stay : (effect : Effect) → new.setup ≡ old.setup → IsDone (cluster_setting next answers start old) old.world (event_of event) new.world effect → HasParts nodes new
  parts_stay effect same done =
      let lengths = kept_lengths old.world (event_effect (cluster_setting next answers start old) old.world (event_of event)) done.transition done.resulted keeps in
      record {
        config = ap (λ (u : Setup P). u.config.nodes) same ∙ parts.config;
        nodes_there = ap (λ (w : World). length w.nodes) done.world ∙ lengths.0 ∙ parts.nodes_there;
        tasks = ap (λ (w : World). length w.tasks) done.world ∙ lengths.1 ∙ parts.tasks;
      }

  pub parts_left : (fault : Fault) → new.setup ≡ old.setup → IsRefused (cluster_setting next answers start old) old.world (event_of event) new.world fault → HasParts nodes new
  parts_left fault same refused = record {
    config = ap (λ (u : Setup P). u.config.nodes) same ∙ parts.config;
    nodes_there = ap (λ (w : World). length w.nodes) refused.unchanged ∙ parts.nodes_there;
    tasks = ap (λ (w : World). length w.tasks) refused.unchanged ∙ parts.tasks;
  }

  -- a fault that is no refusal ends the run
  pub ends_with : (fault : Fault) → IsFaulted (cluster_setting next answers start old) old.world (event_of event) new.world fault → (IsNumbered fault → ⊥)
      → FailsAsCounted (node_of old.world (event_of event)) old.failures new.failures fault → IsDeviceRunFault old.failures new.failures fault
  ends_with fault (inl refused) other counted = absurd (other (subst (Keeps old.world) refused.refusal keeps))
  ends_with fault (inr (inl memory)) other counted = inl (subst IsRunFault (sym memory.0) tt)
  ends_with fault (inr (inr device)) other counted =
      let me = node_of old.world (event_of event) in
      let rises = rises_somewhere me old.failures new.failures (subst (FailsAsCounted me old.failures new.failures) device.0 counted) in
      inr (device.0, rises.0, rises.1)

-- counts that have not changed are the same where all goes well, and then a refusal is as counted
pub refused_counts : (me : Option ℕ) (before after : List ℕ) (fault : Fault) → 5 ≤ code_of fault → FailsAsCounted me before after fault → after ≡ before
refused_counts me before after OutOfMemory numbered counted = counted
refused_counts me before after Device numbered counted = absurd (omega (arith, numbered))
refused_counts me before after Failed numbered counted = counted
refused_counts me before after (BadPacket reason) numbered counted = counted
refused_counts me before after NotRunning numbered counted = counted
refused_counts me before after BallotsSpent numbered counted = counted
refused_counts me before after LogFull numbered counted = counted
refused_counts me before after NoSuchMessage numbered counted = counted
refused_counts me before after TaskBusy numbered counted = counted
refused_counts me before after NumbersSpent numbered counted = counted
refused_counts me before after (BadDeck line reason) numbered counted = counted
refused_counts me before after BadConfig numbered counted = counted
refused_counts me before after Io numbered counted = counted

-- a fault that ends a run in memory ends one over devices
pub ends_over : (before after : List ℕ) (answer : Result Unit Fault) → IfErr answer IsRunFault → IfErr answer (IsDeviceRunFault before after)
ends_over before after answer ended = IfErr-weaker answer _ _ (λ fault run. inl run) ended

-- what is so of all counts is so of each
count_at : (Q : ℕ → Type 0) (counts : List ℕ) (place count : ℕ) → part_at counts place ≡ Some count → All Q counts → Q count
count_at Q counts zero count is all = absurd (cc)
count_at Q counts (suc i) count is all = subst Q (get_or_from_slice_get counts i count count is) (all i count (slice_get_within counts i count is))

-- no count rises where all are 0
pub never_rises : (before after : List ℕ) (fault : Fault) → All (λ count. count ≡ 0) after → IsDeviceRunFault before after fault → IsRunFault fault
never_rises before after fault none (inl run) = run
never_rises before after fault none (inr (is, node, rises)) =
    let there : part_at after node ≡ Some rises.after = ap (λ (l : List ℕ). part_at l node) rises.others ∙ put_there before node rises.before rises.after rises.was in
    let zero : rises.after ≡ 0 = count_at (λ count. count ≡ 0) after node rises.after there none in
    absurd (omega (arith, zero, rises.rose))

-- a fault with one of the numbers of refusals is a refusal
pub refused_of : {S : Type 0} (s : Setting S) (w left : World) (event : Event) (fault : Fault) → IsFaulted s w (event_of event) left fault → 5 ≤ code_of fault → IsRefused s w (event_of event) left fault
refused_of s w left event fault (inl refused) numbered = refused
refused_of s w left event fault (inr (inl memory)) numbered = absurd (at (subst (λ (f : Fault). 5 ≤ code_of f) memory.0 numbered))
  where
    at : 5 ≤ code_of OutOfMemory → ⊥
    at le = omega arith
refused_of s w left event fault (inr (inr device)) numbered = absurd (at (subst (λ (f : Fault). 5 ≤ code_of f) device.0 numbered))
  where
    at : 5 ≤ code_of Device → ⊥
    at le = omega arith

-- one setting for clusters of one setup
pub same_run_setting : {S P : Type 0} (next : S → Action → S) (answers : S → Action → List Answer) (start : P → S) (image : S → List ℕ) (options : RunOptions) (old new : ClusterState P)
    → new.setup ≡ old.setup → run_setting next answers start image new options ≡ run_setting next answers start image old options
same_run_setting {P = P} next answers start image options old new same =
    ap (λ (u : Setup P). run_setting next answers start image (record old { setup = u }) options) same

pub opening_parts : {P : Type 0} (nodes : ℕ) (cluster : ClusterState P) → cluster.setup.config.nodes ≡ nodes → cluster.world ≡ opening_world nodes → HasParts nodes cluster
opening_parts nodes cluster config opened = record {
  config = config;
  nodes_there = ap (λ (w : World). length w.nodes) opened ∙ length-replicate nodes fresh_node;
  tasks = ap (λ (w : World). length w.tasks) opened ∙ length-replicate 8 fresh_task;
}

-- what is so of a fault is so of an answer that fails by it
pub faulted : (Q : Fault → Type 0) (fault : Fault) (answer : Result Unit Fault) → IsErrAnd answer (λ e. e ≡ fault) → Q fault → IfErr answer Q
faulted Q fault (Ok done) is q = tt
faulted Q fault (Err other) is q = subst Q (sym is) q
