-- What a stop and a restart leave of a node that was taken from its place, and put back there.
use Rattle.std.proofs.Common.{◌≡◌, ℕ, ◌+◌, Option, None, Result, Ok, Err, length, sym, ap, subst, ◌∙◌}
use Rattle.std.specs.Prelude.{IfOk, IfErr}
use Rattle.rp_base.specs.declared.fault.Fault.{Fault}
use Rattle.rp_model.specs.declared.effect.Effect.{Effect}
use Rattle.rp_model.specs.Effect.{stop_effect, restart_part}
use Rattle.rp_model.specs.World.{stops, restarts, part_at}
use Rattle.rp_actors.specs.Going.{AnswersStop, AnswersRestart}
use Rattle.rp_actors.specs.Steps.{ClusterState}
use Rattle.rp_actors.specs.Nodes.{Member, GoesBy, RefusedBy, IsLeftTorn, IsNotStarted, IsResting, DescribesNothing, DescribesOpened, failures_in}
use Rattle.rp_world.proofs.Ending.{still, stopped, not_stopped, left_by_stop, restarted, not_restarted, left_by_restart}
use Rattle.rp_actors.proofs.Fields.{Fields, IsKept, as_seen, cluster_with, first_seen, member}
use Rattle.rp_actors.proofs.Placing.{Changed}
use Rattle.rp_actors.proofs.Reports.{stated_of}

module _ {S D P : Type 0} (f : Fields S D P) (change : Changed f.nodes) where
  abbrev me : ℕ
  me = change.at.me

  abbrev after : ClusterState P
  after = cluster_with f change.after f.tasks f.messages

  stated_from : {first : ℕ} {opened : Option (ℕ × ℕ)} {stated : Effect} → first ≡ length f.was.world.sent → stated ≡ stated_of (first + 1) opened → stated ≡ stated_of (length f.messages.sent + 1) opened
  stated_from {opened = opened} first_is is = is ∙ ap (λ (k : ℕ). stated_of (k + 1) opened) (first_seen f first_is)

  -- ---- stops

  abbrev Stops : Unit {0} → Type 0
  Stops done = (m : Member S) → GoesBy f.disk m change.at.it change.new stop_effect DescribesNothing done

  abbrev StopsNot : Fault → Type 0
  StopsNot fault = (m : Member S) → RefusedBy f.disk m change.at.it change.new stop_effect fault

  abbrev Stopped : Result Effect Fault → ClusterState P → Type 0
  Stopped r v = AnswersStop v (stops v.world me (part_at v.world.nodes me)) after r

  pub still_by_stop : (answer : Result Unit Fault) → IfOk answer Stops → IfErr answer StopsNot → IsKept f change.after f.tasks
  still_by_stop answer ok err = still f change (left_by_stop f change answer ok err)

  pub stop_ok : {answer : Result Unit Fault} {done : Unit} {first : ℕ} {stated : Effect} {r : Result Effect Fault} → answer ≡ Ok done → r ≡ Ok stated → IfOk answer Stops
      → first ≡ length f.was.world.sent → stated ≡ stated_of (first + 1) None → Stopped r f.was
  stop_ok {stated = stated} is result ok first_is stated_is =
      let goes = subst (λ a. IfOk a Stops) is ok in
      subst (λ x. Stopped x f.was) (sym result) (as_seen f (Stopped (Ok stated)) (stopped f change (goes (member f me)) stated (stated_from first_is stated_is)))

  pub stop_err : {answer : Result Unit Fault} {fault : Fault} {r : Result Effect Fault} → answer ≡ Err fault → r ≡ Err fault → IfErr answer StopsNot → Stopped r f.was
  stop_err {fault = fault} is result err =
      let refuses = subst (λ a. IfErr a StopsNot) is err in
      subst (λ x. Stopped x f.was) (sym result) (as_seen f (Stopped (Err fault)) (not_stopped f change fault (refuses (member f me))))

  -- ---- restarts

  abbrev Restarts : Option (ℕ × ℕ) → Type 0
  Restarts found = GoesBy f.disk (member f me) change.at.it change.new (λ p. Ok (restart_part p)) DescribesOpened found

  abbrev Torn : Fault → Type 0
  Torn fault = IsLeftTorn f.disk (member f me) change.at.it change.new

  abbrev Rests : Fault → Type 0
  Rests fault = IsResting f.disk (member f me) change.at.it

  abbrev Reasons : Fault → Type 0
  Reasons fault = IsNotStarted (failures_in f.disk change.at.it) (failures_in f.disk change.new) fault

  abbrev Restarted : Result Effect Fault → ClusterState P → Type 0
  Restarted r v = AnswersRestart v me (restarts v.world me (part_at v.world.nodes me)) after r

  pub still_by_restart : (answer : Result (Option (ℕ × ℕ)) Fault) → IfOk answer Restarts → IfErr answer Torn → IsKept f change.after f.tasks
  still_by_restart answer ok err = still f change (left_by_restart f change answer ok err)

  pub restart_ok : {answer : Result (Option (ℕ × ℕ)) Fault} {opened : Option (ℕ × ℕ)} {first : ℕ} {stated : Effect} {r : Result Effect Fault} → answer ≡ Ok opened → r ≡ Ok stated → IfOk answer Restarts
      → first ≡ length f.was.world.sent → stated ≡ stated_of (first + 1) opened → Restarted r f.was
  restart_ok {opened = opened} {stated = stated} is result ok first_is stated_is =
      let goes = subst (λ a. IfOk a Restarts) is ok in
      subst (λ x. Restarted x f.was) (sym result) (as_seen f (Restarted (Ok stated)) (restarted f change opened goes stated (stated_from first_is stated_is)))

  pub restart_err : {answer : Result (Option (ℕ × ℕ)) Fault} {fault : Fault} {r : Result Effect Fault} → answer ≡ Err fault → r ≡ Err fault
      → IfErr answer Torn → IfErr answer Rests → IfErr answer Reasons → Restarted r f.was
  restart_err {fault = fault} is result torn resting only =
      let left_torn = subst (λ a. IfErr a Torn) is torn in
      let rests = subst (λ a. IfErr a Rests) is resting in
      let why = subst (λ a. IfErr a Reasons) is only in
      subst (λ x. Restarted x f.was) (sym result) (as_seen f (Restarted (Err fault)) (not_restarted f change fault why rests left_torn))
