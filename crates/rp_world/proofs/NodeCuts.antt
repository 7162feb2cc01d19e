-- What the world answers where the step of one of its nodes is cut.
use Rattle.std.proofs.Common.{◌≡◌, ℕ, suc, ◌+◌, ◌<◌, None, Result, Ok, Err, length, sym, ap, subst, ◌∙◌, arith}
use Rattle.std.specs.Prelude.{IfOk, IfErr}
use Rattle.std.proofs.lemmas.List.{length-map}
use Rattle.rp_base.specs.declared.fault.Fault.{Fault}
use Rattle.rp_model.specs.declared.effect.Effect.{Effect}
use Rattle.rp_model.specs.Effect.{NodeInput, node_effect, cut_if}
use Rattle.rp_model.specs.Events.{Step}
use Rattle.rp_model.specs.World.{commanded, chosen_cut, chosen_record, cut_step, node_done_if}
use Rattle.rp_replica.specs.rp_rules.specs.Inputs.{given_by}
use Rattle.rp_replica.specs.rp_rules.specs.declared.input.Input.{Input}
use Rattle.rp_world.specs.Choosing.{IsOf}
use Rattle.rp_actors.specs.Going.{Meant, cut_meant, Goes, Answers}
use Rattle.rp_actors.specs.Nodes.{Member, IsCutBy, NotTaken, node_step}
use Rattle.rp_actors.specs.Shape.{part_by}
use Rattle.rp_actors.specs.Steps.{ClusterState}
use Rattle.rp_world.proofs.Ending.{still, cut_so, not_cut, left_by_cut}
use Rattle.rp_actors.proofs.Fields.{Fields, IsKept, as_seen, cluster_with, first_seen, member, now, setting, world, setting_by}
use Rattle.rp_actors.proofs.Moving.{part, is_here}
use Rattle.rp_actors.proofs.Placing.{Changed}
use Rattle.rp_actors.proofs.Reports.{as_fault, stated_of}

-- what is answered, by what the node says: an effect that reports nothing, or the fault
abbrev pub IsStated : ℕ → Result Unit Fault → Result Effect Fault → Type 0
IsStated first (Ok done) r = r ≡ Ok (stated_of first None)
IsStated first (Err fault) r = r ≡ Err fault

pub stated_ok : {first : ℕ} {answer : Result Unit Fault} {r : Result Effect Fault} {done : Unit} {effect : Effect} → answer ≡ Ok done → r ≡ Ok effect → effect ≡ stated_of first None → IsStated first answer r
stated_ok {first = first} {r = r} is result effect = subst (λ a. IsStated first a r) (sym is) (result ∙ ap Ok effect)

pub stated_err : (first : ℕ) {answer : Result Unit Fault} {r : Result Effect Fault} {fault : Fault} → answer ≡ Err fault → r ≡ Err fault → IsStated first answer r
stated_err first {r = r} is result = subst (λ a. IsStated first a r) (sym is) result

-- there is such a node
pub within : {S D P : Type 0} (f : Fields S D P) {step : Step} {i me : ℕ} {input : Input} → IsOf (setting f) (world f) step me input → suc i ≡ me → i < length f.nodes
within f one placed = omega (arith, one.within, length-map f.nodes (part_by f.disk f.config.max_positions), placed)

module _ {S D P : Type 0} (f : Fields S D P) (change : Changed f.nodes) {step : Step} {input : Input} (one : IsOf (setting f) (world f) step change.at.me input) (kept : ℕ) where
  abbrev me : ℕ
  me = change.at.me

  abbrev Cuts : Unit {0} → Type 0
  Cuts done = (m : Member S) (given : NodeInput) → given_by input ≡ Ok given → IsCutBy f.disk m change.at.it change.new kept (node_step f.next f.answers m given)

  abbrev CutsNot : Fault → Type 0
  CutsNot fault = (m : Member S) (given : NodeInput) → given_by input ≡ Ok given → NotTaken f.disk m change.at.it change.new (node_step f.next f.answers m given) fault

  -- the cluster is kept
  pub still_cut : (answer : Result Unit Fault) → IfOk answer Cuts → IfErr answer CutsNot → IsKept f change.after f.tasks
  still_cut answer ok err = still f change (left_by_cut f change kept input one.gives answer ok err)

  cut_here : (k : ℕ) → cut_step (setting f) (world f) step k ≡ node_done_if (world f) me (cut_if k (part f change.at) (node_effect (setting f) me (part f change.at) one.given))
  cut_here k = one.cut k ∙ ap (λ o. chosen_cut (setting f) (world f) k (commanded me one.given o)) (is_here f change.at)

  -- the cut by the definitions
  abbrev cut_of : ClusterState P → Meant
  cut_of v = cut_meant (setting_by f v) v.world step kept

  abbrev after : ClusterState P
  after = cluster_with f change.after f.tasks f.messages

  -- what is answered is so
  pub answers_cut : (answer : Result Unit Fault) → IfOk answer Cuts → IfErr answer CutsNot → {first : ℕ} → first ≡ length f.was.world.sent → (r : Result Effect Fault) → IsStated (first + 1) answer r
      → Answers f.was (cut_of f.was) after r
  answers_cut (Ok done) ok err {first = first} first_is r is_stated =
      subst (λ x. Answers f.was (cut_of f.was) after x) (sym is_stated)
      (as_seen f (λ v. Goes v (cut_of v).whole after (stated_of (first + 1) None))
      (cut_so f change one.given kept (ok (member f me) one.given one.gives) (cut_step (setting f) (world f) step kept) (cut_here kept) (stated_of (first + 1) None)
      (ap (λ (k : ℕ). stated_of (k + 1) None) (first_seen f first_is))))
  answers_cut (Err fault) ok err first_is r is_stated =
      subst (λ x. Answers f.was (cut_of f.was) after x) (sym is_stated)
      (as_seen f (λ v. Answers v (cut_of v) after (as_fault fault))
      (not_cut f change one.given kept fault (err (member f me) one.given one.gives) (cut_of (now f))
      (record { whole = cut_here kept; cut = cut_here; node = one.node; writes = one.writes ∙ ap (λ o. chosen_record (setting f) (commanded me one.given o)) (is_here f change.at) })))
