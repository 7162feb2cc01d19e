-- What a change of one node or of one task is for the world.
use Rattle.std.proofs.Common.{◌≡◌, ℕ, zero, suc, ◌<◌, ◌≤◌, Option, Some, None, Result, Ok, Err, List, [], ◌++◌, length, map, slice_get, slice_set, option_map, inl, inr, refl, sym, ap, subst, ◌∙◌, arith}
use Rattle.std.specs.Prelude.{IfSome, IsSome, get_or}
use Rattle.std.proofs.lemmas.List.{append-nil, length-map}
use Rattle.std.proofs.lemmas.Option.{slice_get-get_or}
use Rattle.rp_base.specs.declared.config.Config.{Config}
use Rattle.rp_base.specs.declared.fault.Fault.{Fault}
use Rattle.rp_codec.specs.Message.{Message}
use Rattle.rp_store.specs.Disk.{Disk}
use Rattle.rp_model.specs.Parts.{NodePart, TaskPart, fresh_task}
use Rattle.rp_model.specs.Answers.{Describes}
use Rattle.rp_model.specs.declared.effect.Effect.{Effect}
use Rattle.rp_model.specs.Effect.{Done, cut_if, cut_part, goes_on_as}
use Rattle.rp_model.specs.World.{World, Transition, part_at, with_part, node_done, node_done_if, written_by}
use Rattle.rp_actors.specs.declared.node.ClusterNode.{ClusterNode}
use Rattle.rp_actors.specs.Callers.{Caller}
use Rattle.rp_replica.specs.rp_outbox.specs.Packets.{Sending}
use Rattle.rp_actors.specs.Failures.{RisesOnly}
use Rattle.rp_actors.specs.Going.{Meant, Goes, Answers}
use Rattle.rp_actors.specs.Nodes.{member_of, Represents, HasNotFailed, IsNotRefused, NotTaken}
use Rattle.rp_actors.specs.Shape.{part_by, IsWorld}
use Rattle.rp_actors.specs.Steps.{ClusterState}
use Rattle.rp_actors.proofs.Fields.{Fields, IsKept, cluster_with, counts_of, fails_to, goes_to, member, now, world, world_with, made_of}
use Rattle.rp_actors.proofs.Failing.{same_counts, rises_at}
use Rattle.rp_actors.proofs.Lists.{get_map, set_map, length_set, set_keeps, part_same}
use Rattle.rp_actors.proofs.Placing.{Found}
use Rattle.rp_actors.proofs.Resting.{part_is}
use Rattle.rp_actors.proofs.Reports.{as_fault}

pub at_if : {A : Type 0} (P : A → Type 0) (o : Option A) (x : A) → o ≡ Some x → IfSome o P → P x
at_if {A = A} P o x is holds = subst (λ (p : Option A). IfSome p P) is holds

-- ---- the parts of nodes

module _ {S D P : Type 0} (disk : D → Disk) (most : ℕ) (nodes : List (ClusterNode S D P)) where
  abbrev parts : List NodePart
  parts = map (part_by disk most) nodes

  -- there is no node of this number
  pub no_node : {i me : ℕ} → suc i ≡ me → slice_get nodes i ≡ None → part_at parts me ≡ None
  no_node {i = i} placed none =
      subst (λ (k : ℕ). part_at parts k ≡ None) placed (get_map (part_by disk most) nodes i ∙ ap (option_map (part_by disk most)) none)

  -- the part of the node that lies at its place
  pub part_here : (at : Found nodes) → part_at parts at.me ≡ Some (part_by disk most at.it)
  part_here at =
      subst (λ (k : ℕ). part_at parts k ≡ Some (part_by disk most at.it)) at.placed
      (get_map (part_by disk most) nodes at.place ∙ ap (option_map (part_by disk most)) at.here)

-- it represents that
pub represents_here : {S D P : Type 0} {disk : D → Disk} {config : Config} {begin : S} {nodes : List (ClusterNode S D P)} {tasks : List Caller} → IsWorld disk config begin nodes tasks
    → (at : Found nodes) → Represents disk (member_of at.me config begin) at.it (part_by disk config.max_positions at.it)
represents_here {disk = disk} {config = config} {begin = begin} {nodes = nodes} is at =
    let part = part_by disk config.max_positions at.it in
    subst (λ (k : ℕ). Represents disk (member_of k config begin) at.it part) at.placed
    (at_if (λ node. Represents disk (member_of (suc at.place) config begin) node (part_by disk config.max_positions node)) (slice_get nodes at.place) at.it at.here (is.members at.place))

-- ---- a node

module _ {S D P : Type 0} (f : Fields S D P) (at : Found f.nodes) where
  abbrev most : ℕ
  most = f.config.max_positions

  abbrev pub part : NodePart
  part = part_by f.disk most at.it

  abbrev w : World
  w = world f

  pub is_here : part_at w.nodes at.me ≡ Some part
  is_here = part_here f.disk most f.nodes at

  pub represents_now : Represents f.disk (member f at.me) at.it part
  represents_now = represents_here f.kept at

  module _ (new : ClusterNode S D P) (after : NodePart) (represents : Represents f.disk (member f at.me) new after) where
    -- its new part is in its place
    nodes_moved : map (part_by f.disk most) (slice_set f.nodes at.place new) ≡ with_part w.nodes at.me after
    nodes_moved =
        set_map (part_by f.disk most) f.nodes at.place new
        ∙ subst (λ (k : ℕ). slice_set w.nodes at.place (part_by f.disk most new) ≡ with_part w.nodes k after) at.placed
        (ap (slice_set w.nodes at.place) (sym (part_is f.disk (member f at.me) new after represents)))

    -- and all nodes are still of this cluster
    pub still_nodes : IsKept f (slice_set f.nodes at.place new) f.tasks
    still_nodes = record {
      right = f.kept.right;
      size = length_set f.nodes at.place new ∙ f.kept.size;
      members = set_keeps (λ k node. Represents f.disk (member f (suc k)) node (part_by f.disk most node)) f.nodes at.place new f.kept.members
          (subst (λ (k : ℕ). Represents f.disk (member f k) new (part_by f.disk most new)) (sym at.placed)
          (subst (Represents f.disk (member f at.me) new) (part_is f.disk (member f at.me) new after represents) represents));
      eight = f.kept.eight;
      numbered = f.kept.numbered;
    }

  -- a node that represents its part leaves the world as it was
  pub nodes_stay : (new : ClusterNode S D P) → Represents f.disk (member f at.me) new part → map (part_by f.disk most) (slice_set f.nodes at.place new) ≡ w.nodes
  nodes_stay new represents =
      nodes_moved new part represents
      ∙ subst (λ (k : ℕ). with_part w.nodes k part ≡ w.nodes) at.placed
      (part_same w.nodes at.place part (get_map (part_by f.disk most) f.nodes at.place ∙ ap (option_map (part_by f.disk most)) at.here))

  -- ---- the result of a step of it

  -- a step by the definitions is this effect on its part, whole and cut
  pub record IsEffect (effect : NodePart → Result (Done NodePart) Fault) (results : Result (Done NodePart) Fault → Result Transition Fault) (m : Meant) : Type 0 where
    pub whole : m.whole ≡ results (effect part)
    pub cut : (kept : ℕ) → m.cut kept ≡ node_done_if w at.me (cut_if kept part (effect part))
    pub node : m.node ≡ Some at.me
    pub writes : m.writes ≡ written_by (effect part)

  module _ (new : ClusterNode S D P) (later : Sending) where
    abbrev next : World
    next = world_with f (slice_set f.nodes at.place new) f.tasks later

    abbrev next_cluster : ClusterState P
    next_cluster = cluster_with f (slice_set f.nodes at.place new) f.tasks later

    abbrev HasNotFailedHere : Type 0
    HasNotFailedHere = HasNotFailed f.disk (member f at.me) at.it new

    pub moved : (after : NodePart) (sends : List Message) → Represents f.disk (member f at.me) new after → later.sent ≡ f.messages.sent ++ sends
        → next ≡ made_of (with_part w.nodes at.me after) w.tasks (w.sent ++ sends)
    moved after sends represents sent =
        ap (λ (ps : List NodePart). made_of ps w.tasks later.sent) (nodes_moved new after represents)
        ∙ ap (λ (ms : List Message). made_of (with_part w.nodes at.me after) w.tasks ms) sent

    pub stayed : Represents f.disk (member f at.me) new part → HasNotFailedHere → later.sent ≡ f.messages.sent → next_cluster ≡ now f
    stayed represents same sent =
        goes_to f (slice_set f.nodes at.place new) f.tasks later
        (ap (λ (ps : List NodePart). made_of ps w.tasks later.sent) (nodes_stay new represents)
        ∙ ap (λ (ms : List Message). made_of w.nodes w.tasks ms) sent)
        (same_counts f at new same)

    -- it took effect
    pub goes : (whole : Result Transition Fault) (done : Done NodePart) (stated : Effect) → whole ≡ Ok (node_done w at.me done) → Represents f.disk (member f at.me) new done.part → HasNotFailedHere
        → later.sent ≡ f.messages.sent ++ done.sends → Describes (length w.sent) (node_done w at.me done) stated → Goes (now f) whole next_cluster stated
    goes whole done stated resulted represents same sent describes = record {
      transition = node_done w at.me done;
      resulted = resulted;
      goes = goes_to f (slice_set f.nodes at.place new) f.tasks later (moved done.part done.sends represents sent) (same_counts f at new same);
      describes = describes;
    }

    -- or was not taken
    module _ (effect : NodePart → Result (Done NodePart) Fault) (m : Meant) (results : Result (Done NodePart) Fault → Result Transition Fault) (is : IsEffect effect results m)
        (refuses : (fault : Fault) → results (Err fault) ≡ Err fault) (happens : (done : Done NodePart) → (h : Transition) × (results (Ok done) ≡ Ok h))
        (sent : later.sent ≡ f.messages.sent) where
      intended : (result : Result (Done NodePart) Fault) → effect part ≡ result → IsNotRefused result → (h : Transition) × (m.whole ≡ Ok h)
      intended (Ok done) resulted not_refused = let h = happens done in (h.0, is.whole ∙ ap results resulted ∙ h.1)
      intended (Err fault) resulted not_refused = absurd not_refused

      pub answered : (fault : Fault) → NotTaken f.disk (member f at.me) at.it new effect fault → Answers (now f) m next_cluster (as_fault fault)
      answered fault not_taken =
          elim (not_taken part represents_now) [
            | inl refused ↦ inl (record { resulted = is.whole ∙ ap results refused.0 ∙ refuses fault; unchanged = stayed refused.1 refused.2 sent })
            | inr other ↦
                elim other [
                  | inl memory ↦
                      let h = intended (effect part) refl memory.1 in
                      inr (inl (record { memory = memory.0; intended = h.0; resulted = h.1; unchanged = stayed memory.2 memory.3 sent }))
                  | inr device ↦
                      let kept = device.1 in
                      let done = device.2 in
                      let after = cut_part kept part done.written in
                      inr (inr (record {
                        device = device.0;
                        wrote = subst IsSome (sym (is.writes ∙ ap written_by device.3)) device.5;
                        kept = kept;
                        transition = node_done w at.me (goes_on_as after);
                        resulted = is.cut kept ∙ ap (λ (r : Result (Done NodePart) Fault). node_done_if w at.me (cut_if kept part r)) device.3;
                        goes = fails_to f (slice_set f.nodes at.place new) f.tasks later (moved after [] device.4 (sent ∙ sym (append-nil f.messages.sent)));
                        rises = subst (λ who. RisesOnly who (counts_of f f.nodes) (counts_of f (slice_set f.nodes at.place new))) (sym is.node) (rises_at f at new device.6);
                      }))
                ]
          ]

  -- after a step that was not taken the node represents some part
  pub represents_after : (effect : NodePart → Result (Done NodePart) Fault) (new : ClusterNode S D P) (fault : Fault) → NotTaken f.disk (member f at.me) at.it new effect fault
      → (after : NodePart) × Represents f.disk (member f at.me) new after
  represents_after effect new fault not_taken =
      elim (not_taken part represents_now) [
        | inl refused ↦ (part, refused.1)
        | inr other ↦
            elim other [
              | inl memory ↦ (part, memory.2)
              | inr device ↦ (cut_part device.1 part device.2.written, device.4)
            ]
      ]

-- ---- a task

abbrev task_part : Caller → TaskPart
task_part t = t.part

module _ {S D P : Type 0} (f : Fields S D P) (at : Found f.tasks) where
  abbrev tasks_now : List TaskPart
  tasks_now = (world f).tasks

  pub task_here : part_at (world f).tasks at.me ≡ Some at.it.part
  task_here = subst (λ (k : ℕ). part_at tasks_now k ≡ Some at.it.part) at.placed (get_map task_part f.tasks at.place ∙ ap (option_map task_part) at.here)

  pub number_here : at.it.task ≡ at.me
  number_here = at_if (λ (c : Caller). c.task ≡ suc at.place) (slice_get f.tasks at.place) at.it at.here (f.kept.numbered at.place) ∙ at.placed

  pub tasks_moved : (new : Caller) → map (λ (c : Caller). c.part) (slice_set f.tasks at.place new) ≡ with_part (world f).tasks at.me new.part
  tasks_moved new =
      set_map task_part f.tasks at.place new
      ∙ subst (λ (k : ℕ). slice_set tasks_now at.place new.part ≡ with_part tasks_now k new.part) at.placed refl

  pub tasks_stay : (new : Caller) → new.part ≡ at.it.part → map (λ (c : Caller). c.part) (slice_set f.tasks at.place new) ≡ (world f).tasks
  tasks_stay new same =
      tasks_moved new ∙ ap (with_part tasks_now at.me) same
      ∙ subst (λ (k : ℕ). with_part tasks_now k at.it.part ≡ tasks_now) at.placed
      (part_same tasks_now at.place at.it.part (get_map task_part f.tasks at.place ∙ ap (option_map task_part) at.here))

  pub still_tasks : (new : Caller) → new.task ≡ at.it.task → IsKept f f.nodes (slice_set f.tasks at.place new)
  still_tasks new same = record {
    right = f.kept.right;
    size = f.kept.size;
    members = f.kept.members;
    eight = length_set f.tasks at.place new ∙ f.kept.eight;
    numbered = set_keeps (λ k (c : Caller). c.task ≡ suc k) f.tasks at.place new f.kept.numbered (same ∙ number_here ∙ sym at.placed);
  }

-- each of the eight tasks has its part
pub task_at : {S D P : Type 0} (f : Fields S D P) (me : ℕ) → (1 ≤ me) × (me ≤ 8)
    → (part : TaskPart) × (part_at (world f).tasks me ≡ Some part) × (with_part (world f).tasks me part ≡ (world f).tasks)
task_at f zero within = absurd (omega (arith, within.0))
task_at f (suc i) within =
    let parts = (world f).tasks in
    let short : i < length parts = omega (arith, within.1, f.kept.eight, length-map f.tasks task_part) in
    let here = slice_get-get_or parts i fresh_task short in
    (get_or parts i fresh_task, here, part_same parts i (get_or parts i fresh_task) here)
