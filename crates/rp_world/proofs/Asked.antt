-- The answer to a question about one node.
use Rattle.std.specs.Borrow.{Bor}
use Rattle.std.proofs.Common.{◌≡◌, ◌∙◌, ℕ, Option, Some, None, Result, Ok, Err, List, refl, sym, ap, subst, ok_or}
use Rattle.std.specs.Prelude.{IfSome, IfNone}
use Rattle.rp_base.specs.declared.fault.Fault.{Fault}
use Rattle.rp_base.specs.declared.fault.Fault.TheVariants.{NotRunning}
use Rattle.rp_base.specs.declared.record.Rec.{Rec}
use Rattle.rp_store.specs.Disk.{Disk}
use Rattle.rp_model.specs.Parts.{NodePart, Running as Known}
use Rattle.rp_model.specs.World.{part_at}
use Rattle.rp_replica.specs.State.{ReplicaState, server_of}
use Rattle.rp_replica.specs.rp_server.specs.State.{ServerState}
use Rattle.rp_actors.specs.Nodes.{Member, RunsAs, Represents, stored_length}
use Rattle.rp_actors.specs.Steps.{IsRunningQueryAnswer, IsReplicaOf, IsRunningServerOf, IsServerOf, IsStored}
use Rattle.rp_actors.specs.declared.node.ClusterNode.{ClusterNode}
use Rattle.rp_actors.proofs.Fields.{Fields, as_seen, member}
use Rattle.rp_actors.proofs.Moving.{part, is_here, represents_now}
use Rattle.rp_actors.proofs.Placing.{Found}

module _ {S D P : Type 0} (disk : D → Disk) (member : Member S) (n : ClusterNode S D P) (part : NodePart) (represents : Represents disk member n part) where
  abbrev Describes : Bor (ReplicaState S) → List Rec → Type 0
  Describes replica records = (replica.now.begin ≡ member.begin) × (replica.now.records ≡ records)

  answered_running : (replica : Bor (ReplicaState S)) → RunsAs member replica.now part → IsRunningQueryAnswer (let r : Result (Bor (ReplicaState S)) Fault = Ok replica in r) Describes part.records part.running
  answered_running replica runs =
      subst (λ (p : NodePart). IsRunningQueryAnswer (let r : Result (Bor (ReplicaState S)) Fault = Ok replica in r) Describes p.records p.running) (sym runs.known) (runs.begin, refl)

  answered_resting : part.running ≡ None → IsRunningQueryAnswer (let r : Result (Bor (ReplicaState S)) Fault = Err NotRunning in r) Describes part.records part.running
  answered_resting rests = subst (λ (o : Option Known). IsRunningQueryAnswer (let r : Result (Bor (ReplicaState S)) Fault = Err NotRunning in r) Describes part.records o) (sym rests) refl

  stated : (found : Option (Bor (ReplicaState S))) → IfSome found (λ replica. (m : Member S) (p : NodePart) → Represents disk m n p → RunsAs m replica.now p)
      → IfNone found ((m : Member S) (p : NodePart) → Represents disk m n p → p.running ≡ None) → IsReplicaOf member.config member.begin (ok_or found NotRunning) (Some part)
  stated None runs rests = answered_resting (rests member part represents)
  stated (Some replica) runs rests = answered_running replica (runs member part represents)

module _ {S : Type 0} (member : Member S) (part : NodePart) where
  -- the server of a replica that is the part
  served_running : (replica : ReplicaState S) → RunsAs member replica part → (server : Bor (ServerState S)) → server.now ≡ server_of replica
      → IsRunningServerOf member.config (let r : Result (Bor (ServerState S)) Fault = Ok server in r) part.records part.running
  served_running replica runs server is_server =
      subst (λ (p : NodePart). IsRunningServerOf member.config (let r : Result (Bor (ServerState S)) Fault = Ok server in r) p.records p.running) (sym runs.known)
      (ap (λ (v : ServerState S). v.config) is_server ∙ runs.config, ap (λ (v : ServerState S). v.records) is_server, ap (λ (v : ServerState S). v.running) is_server)

  served_resting : part.running ≡ None → IsRunningServerOf member.config (let r : Result (Bor (ServerState S)) Fault = Err NotRunning in r) part.records part.running
  served_resting rests =
      subst (λ (o : Option Known). IsRunningServerOf member.config (let r : Result (Bor (ServerState S)) Fault = Err NotRunning in r) part.records o) (sym rests) refl

module _ {S D P : Type 0} (f : Fields S D P) (at : Found f.nodes) where
  -- its replica
  pub replica_of : (found : Option (Bor (ReplicaState S))) → IfSome found (λ replica. (m : Member S) (p : NodePart) → Represents f.disk m at.it p → RunsAs m replica.now p)
      → IfNone found ((m : Member S) (p : NodePart) → Represents f.disk m at.it p → p.running ≡ None)
      → {answer : Result (Bor (ReplicaState S)) Fault} → answer ≡ ok_or found NotRunning → IsReplicaOf f.was.setup.config (f.start f.was.setup.program) answer (part_at f.was.world.nodes at.me)
  replica_of found runs rests {answer = answer} is_answer =
      as_seen f (λ v. IsReplicaOf v.setup.config (f.start v.setup.program) answer (part_at v.world.nodes at.me))
      (subst (IsReplicaOf f.config (f.start f.program) answer) (sym (is_here f at))
      (subst (λ (r : Result (Bor (ReplicaState S)) Fault). IsReplicaOf f.config (f.start f.program) r (Some (part f at))) (sym is_answer) (stated f.disk (member f at.me) at.it (part f at) (represents_now f at) found runs rests)))

  -- its server, where it runs
  pub server_found : (replica : ReplicaState S) → ((m : Member S) (p : NodePart) → Represents f.disk m at.it p → RunsAs m replica p)
      → (server : Bor (ServerState S)) → server.now ≡ server_of replica
      → IsServerOf f.was.setup.config (let r : Result (Bor (ServerState S)) Fault = Ok server in r) (part_at f.was.world.nodes at.me)
  server_found replica runs server is_server =
      as_seen f (λ v. IsServerOf v.setup.config (let r : Result (Bor (ServerState S)) Fault = Ok server in r) (part_at v.world.nodes at.me))
      (subst (IsServerOf f.config (let r : Result (Bor (ServerState S)) Fault = Ok server in r)) (sym (is_here f at))
      (served_running (member f at.me) (part f at) replica (runs (member f at.me) (part f at) (represents_now f at)) server is_server))

  -- none, where it rests
  pub no_server : ((m : Member S) (p : NodePart) → Represents f.disk m at.it p → p.running ≡ None)
      → IsServerOf f.was.setup.config (let r : Result (Bor (ServerState S)) Fault = Err NotRunning in r) (part_at f.was.world.nodes at.me)
  no_server rests =
      as_seen f (λ v. IsServerOf v.setup.config (let r : Result (Bor (ServerState S)) Fault = Err NotRunning in r) (part_at v.world.nodes at.me))
      (subst (IsServerOf f.config (let r : Result (Bor (ServerState S)) Fault = Err NotRunning in r)) (sym (is_here f at))
      (served_resting (member f at.me) (part f at) (rests (member f at.me) (part f at) (represents_now f at))))

  -- how many bytes its device holds
  pub stored_of : (len : ℕ) → ((m : Member S) (p : NodePart) → Represents f.disk m at.it p → len ≡ stored_length p) → IsStored (let r : Result ℕ Fault = Ok len in r) (part_at f.was.world.nodes at.me)
  stored_of len describes =
      as_seen f (λ v. IsStored (let r : Result ℕ Fault = Ok len in r) (part_at v.world.nodes at.me))
      (subst (IsStored (let r : Result ℕ Fault = Ok len in r)) (sym (is_here f at)) (ap Ok (describes (member f at.me) (part f at) (represents_now f at))))
