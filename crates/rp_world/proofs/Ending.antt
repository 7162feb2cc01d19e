-- The results of a stop, a restart and a cut of a node in the world.
use Rattle.std.proofs.Common.{◌≡◌, ℕ, suc, ◌+◌, ◌-◌, ◌^◌, ◌≤◌, min, Option, Some, None, Result, Ok, Err, List, [], ◌++◌, length, slice_set, inl, inr, refl, sym, ap, subst, ◌∙◌}
use Rattle.std.specs.Prelude.{IfOk, IfErr}
use Rattle.std.proofs.lemmas.List.{append-nil}
use Rattle.std.proofs.lemmas.Option.{slice_get_past}
use Rattle.rp_base.specs.declared.fault.Fault.{Fault}
use Rattle.rp_codec.specs.Message.{Message}
use Rattle.rp_store.specs.Disk.{Disk}
use Rattle.rp_model.specs.Answers.{untorn}
use Rattle.rp_model.specs.declared.effect.Effect.{Effect}
use Rattle.rp_model.specs.declared.effect.Dropped.TheVariants.{No}
use Rattle.rp_model.specs.Effect.{Done, NodeInput, cut_if, cut_part, goes_on_as, stop_part, stops_while, stop_effect, restart_while, restart_part, untorn_part}
use Rattle.rp_model.specs.Parts.{NodePart, Running as Known}
use Rattle.rp_model.specs.World.{World, Transition, part_at, with_part, node_done, node_done_if, stops, restarts}
use Rattle.rp_replica.specs.rp_rules.specs.declared.input.Input.{Input}
use Rattle.rp_replica.specs.rp_rules.specs.Inputs.{given_by}
use Rattle.rp_actors.specs.declared.node.ClusterNode.{ClusterNode}
use Rattle.rp_actors.specs.Failures.{RisesAt}
use Rattle.rp_actors.specs.Going.{Meant, Goes, Answers, AnswersRestart, IsRefusedWhole}
use Rattle.rp_actors.specs.Nodes.{Member, Represents, HasNotFailed, GoesBy, RefusedBy, IsCutBy, IsLeftTorn, IsNotStarted, IsResting, NotTaken, DescribesNothing, DescribesOpened, failures_in, node_step}
use Rattle.rp_actors.specs.Steps.{ClusterState}
use Rattle.rp_actors.proofs.Failing.{same_counts, rises_at}
use Rattle.rp_actors.proofs.Fields.{Fields, IsKept, as_seen, cluster_with, counts_of, member, now, world, made_of}
use Rattle.rp_actors.proofs.Moving.{IsEffect, part, no_node, is_here, represents_now, still_nodes, moved, stayed, goes, answered, represents_after}
use Rattle.rp_actors.proofs.Placing.{Changed}
use Rattle.rp_actors.proofs.Reports.{describes_of, stated_of, as_fault}

-- ---- what these effects send and report

stop_is : (p : NodePart) (o : Option Known) (done : Done NodePart) → stops_while p o ≡ Ok done → done ≡ goes_on_as (stop_part p)
stop_is p None done resulted = absurd cc
stop_is p (Some running) done resulted = let same : goes_on_as (stop_part p) ≡ done = cc in sym same

record Quiet (done : Done NodePart) : Type 0 where
  pub sends : done.sends ≡ []
  pub dropped : done.dropped ≡ No
  pub taken : done.taken ≡ None

goes_quiet : (p : NodePart) (done : Done NodePart) → done ≡ goes_on_as p → Quiet done
goes_quiet p done same = record {
  sends = ap (λ (d : Done NodePart). d.sends) same;
  dropped = ap (λ (d : Done NodePart). d.dropped) same;
  taken = ap (λ (d : Done NodePart). d.taken) same;
}

restart_quiet : (p : NodePart) (o : Option Known) → Quiet (restart_while p o)
restart_quiet p None = record { sends = refl; dropped = refl; taken = refl }
restart_quiet p (Some running) = record { sends = refl; dropped = refl; taken = refl }

ok_is : (one other : Done NodePart) → (let a : Result (Done NodePart) Fault = Ok one in let b : Result (Done NodePart) Fault = Ok other in a ≡ b) → one ≡ other
ok_is one other same = cc

-- the node was left so, for some part
abbrev pub Left : {S D P : Type 0} → (D → Disk) → Member S → ClusterNode S D P → Type 0
Left disk member new = (after : NodePart) × Represents disk member new after

-- there is no node of this number
pub none_here : {S D P : Type 0} (f : Fields S D P) {i me : ℕ} → suc i ≡ me → length f.nodes ≤ i → part_at (world f).nodes me ≡ None
none_here f {i = i} placed past = no_node f.disk f.config.max_positions f.nodes placed (slice_get_past f.nodes i past)

pub none_seen : {S D P : Type 0} (f : Fields S D P) {i me : ℕ} → suc i ≡ me → length f.nodes ≤ i → part_at f.was.world.nodes me ≡ None
none_seen f {me = me} placed past = as_seen f (λ v. part_at v.world.nodes me ≡ None) (none_here f placed past)

module _ {S D P : Type 0} (f : Fields S D P) (change : Changed f.nodes) where
  abbrev w : World
  w = world f

  abbrev after : ClusterState P
  after = cluster_with f change.after f.tasks f.messages

  abbrev me : ℕ
  me = change.at.me

  abbrev here : Member S
  here = member f me

  abbrev was : NodePart
  was = part f change.at

  -- all nodes are still of this cluster
  pub still : Left f.disk here change.new → IsKept f change.after f.tasks
  still left = subst (λ (ns : List (ClusterNode S D P)). IsKept f ns f.tasks) (sym change.put) (still_nodes f change.at change.new left.0 left.1)

  to_put : (Q : ClusterState P → Type 0) → Q (cluster_with f (slice_set f.nodes change.at.place change.new) f.tasks f.messages) → Q after
  to_put Q q = subst (λ (ns : List (ClusterNode S D P)). Q (cluster_with f ns f.tasks f.messages)) (sym change.put) q

  -- its device has not failed
  abbrev HasNotFailedHere : Type 0
  HasNotFailedHere = HasNotFailed f.disk here change.at.it change.new

  -- a step of the node that sends nothing took effect
  quiet : (whole : Result Transition Fault) (done : Done NodePart) (opened : Option (ℕ × ℕ)) (stated : Effect) → whole ≡ Ok (node_done w me done) → Represents f.disk here change.new done.part → HasNotFailedHere → Quiet done
      → opened ≡ done.opened → stated ≡ stated_of (length w.sent + 1) opened → Goes (now f) whole after stated
  quiet whole done opened stated resulted so same none opens is_stated =
      to_put (λ x. Goes (now f) whole x stated)
      (goes f change.at change.new f.messages whole done stated resulted so same
      (sym (append-nil f.messages.sent) ∙ ap (λ (ms : List Message). f.messages.sent ++ ms) (sym none.sends))
      (describes_of is_stated (record {
        first = refl;
        count = ap (λ (ms : List Message). min (length ms) (2 ^ 32 - 1)) (sym none.sends);
        dropped = sym none.dropped;
        taken = sym none.taken;
        opened = opens;
      })))

  -- or it is refused, and changes nothing
  refused_as : (whole : Result Transition Fault) (fault : Fault) → whole ≡ Err fault → Represents f.disk here change.new was → HasNotFailedHere → IsRefusedWhole (now f) whole after fault
  refused_as whole fault resulted so same =
      to_put (λ x. IsRefusedWhole (now f) whole x fault) (record { resulted = resulted; unchanged = stayed f change.at change.new f.messages so same refl })

  -- ---- stops

  pub stopped : GoesBy f.disk here change.at.it change.new stop_effect DescribesNothing tt → (stated : Effect) → stated ≡ stated_of (length w.sent + 1) None → Goes (now f) (stops w me (part_at w.nodes me)) after stated
  stopped by stated is_stated =
      let d = by was (represents_now f change.at) in
      let same = stop_is was was.running d.0 d.1 in
      quiet (stops w me (part_at w.nodes me)) d.0 None stated (ap (stops w me) (is_here f change.at) ∙ ap (node_done_if w me) d.1) d.2 d.4 (goes_quiet (stop_part was) d.0 same)
      (sym (ap (λ (x : Done NodePart). x.opened) same)) is_stated

  pub not_stopped : (fault : Fault) → RefusedBy f.disk here change.at.it change.new stop_effect fault → IsRefusedWhole (now f) (stops w me (part_at w.nodes me)) after fault
  not_stopped fault by =
      let d = by was (represents_now f change.at) in
      refused_as (stops w me (part_at w.nodes me)) fault (ap (stops w me) (is_here f change.at) ∙ ap (node_done_if w me) d.0) d.1 d.2

  -- ---- restarts

  pub restarted : (opened : Option (ℕ × ℕ)) → GoesBy f.disk here change.at.it change.new (λ p. Ok (restart_part p)) DescribesOpened opened → (stated : Effect) → stated ≡ stated_of (length w.sent + 1) opened
      → Goes (now f) (restarts w me (part_at w.nodes me)) after stated
  restarted opened by stated is_stated =
      let d = by was (represents_now f change.at) in
      let same : restart_part was ≡ d.0 = ok_is (restart_part was) d.0 d.1 in
      quiet (restarts w me (part_at w.nodes me)) d.0 opened stated (ap (restarts w me) (is_here f change.at) ∙ ap (λ (x : Done NodePart). let r : Result Transition Fault = Ok (node_done w me x) in r) same)
      d.2 d.4 (subst Quiet same (restart_quiet was was.running)) d.3 is_stated

  pub not_restarted : (fault : Fault) → IsNotStarted (failures_in f.disk change.at.it) (failures_in f.disk change.new) fault → IsResting f.disk here change.at.it → IsLeftTorn f.disk here change.at.it change.new
      → AnswersRestart (now f) me (restarts w me (part_at w.nodes me)) after (as_fault fault)
  not_restarted fault why rests torn =
      let d = torn was (represents_now f change.at) in
      inr (record {
        why = elim why [
          | inl memory ↦ inl (memory.0, to_put (λ x. x.failures ≡ counts_of f f.nodes) (same_counts f change.at change.new memory.1))
          | inr device ↦ inr (device.0, to_put (λ x. RisesAt me (counts_of f f.nodes) x.failures) (rises_at f change.at change.new device.1))
        ];
        intended = node_done w me (restart_part was);
        resulted = ap (restarts w me) (is_here f change.at);
        left = (
          d.0,
          to_put (λ x. x.world ≡ untorn d.0 w me (part_at w.nodes me))
              (moved f change.at change.new f.messages (untorn_part d.0 was) [] d.1 (sym (append-nil f.messages.sent))
              ∙ ap (λ (ms : List Message). made_of (with_part w.nodes me (untorn_part d.0 was)) w.tasks ms) (append-nil w.sent)
              ∙ ap (untorn d.0 w me) (sym (is_here f change.at))),
          (was, is_here f change.at, rests was (represents_now f change.at)),
        );
        setup = refl;
      })

  -- ---- steps that are cut

  module _ (input : NodeInput) where
    abbrev step : NodePart → Result (Done NodePart) Fault
    step p = node_step f.next f.answers here input p

    pub cut_so : (kept : ℕ) → IsCutBy f.disk here change.at.it change.new kept step → (whole : Result Transition Fault) → whole ≡ node_done_if w me (cut_if kept was (step was))
        → (stated : Effect) → stated ≡ stated_of (length w.sent + 1) None → Goes (now f) whole after stated
    cut_so kept by whole whole_is stated is_stated =
        let d = by was (represents_now f change.at) in
        let left = goes_on_as (cut_part kept was d.0.written) in
        quiet whole left None stated (whole_is ∙ ap (λ (r : Result (Done NodePart) Fault). node_done_if w me (cut_if kept was r)) d.1) d.2 d.3 (goes_quiet (cut_part kept was d.0.written) left refl) refl is_stated

    pub not_cut : (kept : ℕ) (fault : Fault) → NotTaken f.disk here change.at.it change.new step fault
        → (m : Meant) → IsEffect f change.at step (λ r. node_done_if w me (cut_if kept was r)) m → Answers (now f) m after (as_fault fault)
    not_cut kept fault by m is =
        to_put (λ x. Answers (now f) m x (as_fault fault))
        (answered f change.at change.new f.messages step m
        (λ r. node_done_if w me (cut_if kept was r)) is (λ fault. refl) (λ done. (node_done w me (goes_on_as (cut_part kept was done.written)), refl)) refl fault by)

  -- ---- how the node is left, by what was answered

  pub left_by_stop : (answer : Result Unit Fault) → IfOk answer (λ done. (m : Member S) → GoesBy f.disk m change.at.it change.new stop_effect DescribesNothing done)
      → IfErr answer (λ fault. (m : Member S) → RefusedBy f.disk m change.at.it change.new stop_effect fault) → Left f.disk here change.new
  left_by_stop (Ok done) ok err = let d = ok here was (represents_now f change.at) in (d.0.part, d.2)
  left_by_stop (Err fault) ok err = let d = err here was (represents_now f change.at) in (was, d.1)

  pub left_by_restart : (answer : Result (Option (ℕ × ℕ)) Fault) → IfOk answer (λ opened. GoesBy f.disk here change.at.it change.new (λ p. Ok (restart_part p)) DescribesOpened opened)
      → IfErr answer (λ fault. IsLeftTorn f.disk here change.at.it change.new) → Left f.disk here change.new
  left_by_restart (Ok opened) ok err = let d = ok was (represents_now f change.at) in (d.0.part, d.2)
  left_by_restart (Err fault) ok err = let d = err was (represents_now f change.at) in (untorn_part d.0 was, d.1)

  pub left_by_cut : (kept : ℕ) (from : Input) {input : NodeInput} → given_by from ≡ Ok input → (answer : Result Unit Fault)
      → IfOk answer (λ done. (m : Member S) (given : NodeInput) → given_by from ≡ Ok given → IsCutBy f.disk m change.at.it change.new kept (node_step f.next f.answers m given))
      → IfErr answer (λ fault. (m : Member S) (given : NodeInput) → given_by from ≡ Ok given → NotTaken f.disk m change.at.it change.new (node_step f.next f.answers m given) fault)
      → Left f.disk here change.new
  left_by_cut kept from {input = input} gives (Ok done) ok err =
      let d = ok here input gives was (represents_now f change.at) in (cut_part kept was d.0.written, d.2)
  left_by_cut kept from {input = input} gives (Err fault) ok err =
      represents_after f change.at (node_step f.next f.answers here input) change.new fault (err here input gives)
