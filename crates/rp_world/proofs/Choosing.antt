-- Which node makes a step, and what that node is given.
use Rattle.std.proofs.Common.{◌≡◌, ℕ, zero, suc, ◌<◌, ◌≤◌, Bool, true, false, if◌then◌else◌, not, Option, Some, None, Result, Ok, Err, List, [], ◌∷◌, length, map, slice_get, option_map, refl, sym, ap, subst, ◌∙◌, arith, nat_lt, ◌+◌, ◌^◌}
use Rattle.std.specs.Prelude.{IfOk, IfErr, IsSome}
use Rattle.std.proofs.lemmas.List.{length-map}
use Rattle.std.proofs.lemmas.Option.{slice_get_past}
use Rattle.rp_base.specs.Number.{in_range}
use Rattle.rp_base.specs.Ranges.{Range, range_of}
use Rattle.rp_base.specs.declared.fault.Fault.{Fault}
use Rattle.rp_base.specs.declared.fault.Fault.TheVariants.{NotRunning, BadConfig, NoSuchMessage, LogFull}
use Rattle.rp_codec.specs.Message.{Message}
use Rattle.rp_codec.specs.Text.{text_of}
use Rattle.rp_codec.specs.declared.packet.Party.{Party}
use Rattle.rp_codec.specs.declared.packet.Party.TheVariants.{Node, Task, Audit}
use Rattle.rp_model.specs.Effect as nodes
use Rattle.rp_model.specs.Effect.{Setting, NodeInput, node_effect, effect_while, turn_done_if, cut_if}
use Rattle.rp_model.specs.declared.event.Step.{Step as Taken}
use Rattle.rp_model.specs.Events.{Deliver, LeadRange, step_of}
use Rattle.rp_model.specs.Effect.{turn_if}
use Rattle.rp_model.specs.Leader.{on_lead_range}
use Rattle.rp_model.specs.Node.{running_node}
use Rattle.rp_model.specs.Parts.{NodePart, TaskPart, Running}
use Rattle.rp_model.specs.World.{World, part_at, commanded, reaches_task, reaches, delivers, chosen, node_chosen, chosen_effect, chosen_cut, chosen_record, node_done_if}
use Rattle.rp_replica.specs.rp_rules.specs.Inputs.{given_by}
use Rattle.rp_replica.specs.rp_rules.specs.declared.input.Input.{Input}
use Rattle.rp_replica.specs.rp_rules.specs.declared.input.Input.TheVariants as inputs
use Rattle.rp_store.specs.Disk.{Disk}
use Rattle.rp_world.specs.Choosing.{AreNodesOf, IsOf, IsOfNone, IsStepRefused}
use Rattle.rp_actors.specs.Nodes.{Represents, member_of}
use Rattle.rp_actors.specs.Shape.{part_by}
use Rattle.rp_actors.specs.declared.node.ClusterNode.{ClusterNode}
use Rattle.rp_actors.proofs.Fields.{Fields, IsKept, as_seen, world}
use Rattle.rp_actors.proofs.Hearing.{cut_by_none, cut_heard, heard_record, heard_stepping}
use Rattle.rp_actors.proofs.Moving.{no_node, part_here, represents_here}
use Rattle.rp_actors.proofs.Messages.{SentTo}
use Rattle.rp_actors.proofs.Placing.{Found}

there_is : {A : Type 0} (xs : List A) (i : ℕ) → i < length xs → (x : A) × (slice_get xs i ≡ Some x)
there_is {A = A} [] i within = absurd (omega (arith, within))
there_is {A = A} (x ∷ xs) zero within = (x, refl)
there_is {A = A} (x ∷ xs) (suc i) within = there_is xs i (omega (arith, within))

part_within : {A : Type 0} (xs : List A) (k : ℕ) → 1 ≤ k → k ≤ length xs → (x : A) × (part_at xs k ≡ Some x)
part_within {A = A} xs zero from within = absurd (omega (arith, from))
part_within {A = A} xs (suc i) from within = there_is xs i (omega (arith, within))

pub part_past : {A : Type 0} (xs : List A) (k : ℕ) → length xs < k → part_at xs k ≡ None
part_past {A = A} xs zero past = refl
part_past {A = A} xs (suc i) past = slice_get_past xs i (omega (arith, past))

-- no text was found
pub no_text : (p : Option Message) → (let o : Option (List ℕ) = None in o ≡ option_map text_of p) → p ≡ None
no_text None is = refl
no_text (Some m) is = absurd cc

-- a command is a step of that node, if there is one or not
pub its_node : (me : ℕ) (given : NodeInput) (o : Option NodePart) → node_chosen (commanded me given o) ≡ Some me
its_node me given None = refl
its_node me given (Some part) = refl

-- the node of this number is to make a step that is no delivery
module _ {S : Type 0} (s : Setting S) (w : World) {step taken : Taken} {node : ℕ × Input} {me : ℕ} {input : Input} (step_is : step ≡ taken) (node_is : node ≡ (me, input)) (given : NodeInput)
    (told : chosen w (step_of taken) ≡ commanded me given (part_at w.nodes me)) where
  -- there is none
  pub none_chosen : length w.nodes < node.0 → IsOfNone s w (step_of step) BadConfig
  none_chosen past =
      let none = part_past w.nodes me (subst (λ (pair : ℕ × Input). length w.nodes < pair.0) node_is past) in
      subst (λ (x : Taken). IsOfNone s w (step_of x) BadConfig) (sym step_is)
      (λ kept. ap (chosen_cut s w kept) (told ∙ ap (commanded me given) none))

  -- it is one of these
  pub one_chosen : given_by input ≡ Ok given → node.0 ≤ length w.nodes → IsOf s w (step_of step) node.0 node.1
  one_chosen gives within =
      subst (λ (pair : ℕ × Input). IsOf s w (step_of step) pair.0 pair.1) (sym node_is)
      (subst (λ (x : Taken). IsOf s w (step_of x) me input) (sym step_is)
      (record {
        given = given;
        gives = gives;
        within = subst (λ (pair : ℕ × Input). pair.0 ≤ length w.nodes) node_is within;
        cut = λ kept. ap (chosen_cut s w kept) told;
        writes = ap (chosen_record s) told;
        node = ap node_chosen told ∙ its_node me given (part_at w.nodes me);
      }))

module _ {S : Type 0} (s : Setting S) (w : World) (number : ℕ) where
  -- there is no such message
  pub no_message : part_at w.sent number ≡ None → IsOfNone s w (Deliver number) NoSuchMessage
  no_message none = λ kept. ap (λ o. chosen_cut s w kept (delivers w o)) none

  module _ (m : Message) (sent : part_at w.sent number ≡ Some m) where
    reached : (party : Party) → party ≡ m.to → chosen w (Deliver number) ≡ reaches w m party
    reached party to = ap (delivers w) sent ∙ ap (reaches w m) (sym to)

    cut_by_task : (kept task : ℕ) (o : Option TaskPart) → chosen_cut s w kept (reaches_task task m o) ≡ Err NotRunning
    cut_by_task kept task None = refl
    cut_by_task kept task (Some part) = refl

    -- it is for no node
    pub for_no_node : (party : Party) → party ≡ m.to → ((me : ℕ) → party ≡ Node me → ⊥) → IsOfNone s w (Deliver number) NotRunning
    for_no_node (Node me) to none = absurd (none me refl)
    for_no_node (Task task) to none = λ kept. ap (chosen_cut s w kept) (reached (Task task) to) ∙ cut_by_task kept task (part_at w.tasks task)
    for_no_node Audit to none = λ kept. ap (chosen_cut s w kept) (reached Audit to)

    module _ (me : ℕ) (to : (let p : Party = Node me in p ≡ m.to)) where
      abbrev it_is_sent : SentTo w.sent number (Node me)
      it_is_sent = record { packet = m; found = sent; is_to = sym to }

      -- it is for a node that is none of these
      pub past_all : length w.nodes < me → IsOfNone s w (Deliver number) NotRunning
      past_all past = cut_by_none s w it_is_sent (part_past w.nodes me past)

      -- or for one of them
      pub delivered : (input : Input) → given_by input ≡ (let r = Ok (nodes.Receive m) in r) → 1 ≤ me → me ≤ length w.nodes → IsOf s w (Deliver number) me input
      delivered input gives from within =
          let part = part_within w.nodes me from within in
          let given : NodeInput = nodes.Receive m in
          record {
            given = given;
            gives = gives;
            within = within;
            cut = λ kept. cut_heard s w it_is_sent part.0 part.1 kept ∙ sym (ap (λ o. chosen_cut s w kept (commanded me given o)) part.1);
            writes = heard_record s w it_is_sent;
            node = heard_stepping s w it_is_sent;
          }

-- ---- the nodes of a world

-- the nodes as they lie in memory are those of their world
pub nodes_of : {S D P : Type 0} (f : Fields S D P) {lent : List (ClusterNode S D P)} → lent ≡ f.nodes → AreNodesOf f.disk (f.start f.program) lent (world f)
nodes_of f same = record {
  config = f.config;
  tasks = f.tasks;
  kept = subst (λ l. IsKept f l f.tasks) (sym same) f.kept;
  parts = ap (map (part_by f.disk f.config.max_positions)) (sym same);
}

-- and of the world that the caller saw
pub nodes_seen : {S D P : Type 0} (f : Fields S D P) {lent : List (ClusterNode S D P)} → lent ≡ f.nodes → AreNodesOf f.disk (f.start f.was.setup.program) lent f.was.world
nodes_seen f {lent = lent} same = as_seen f (λ v. AreNodesOf f.disk (f.start v.setup.program) lent v.world) (nodes_of f same)

module _ {S D P : Type 0} (disk : D → Disk) (begin : S) (nodes : List (ClusterNode S D P)) (w : World) (are : AreNodesOf disk begin nodes w) where
  pub as_many : length w.nodes ≡ length nodes
  as_many = ap length are.parts ∙ length-map nodes (part_by disk are.config.max_positions)

  pub none_among : {i me : ℕ} → suc i ≡ me → length nodes ≤ i → part_at w.nodes me ≡ None
  none_among {i = i} {me = me} placed past = ap (λ (l : List NodePart). part_at l me) are.parts ∙ no_node disk are.config.max_positions nodes placed (slice_get_past nodes i past)

  module _ (at : Found nodes) where
    abbrev its_part : NodePart
    its_part = part_by disk are.config.max_positions at.it

    pub one_among : part_at w.nodes at.me ≡ Some its_part
    one_among = ap (λ (l : List NodePart). part_at l at.me) are.parts ∙ part_here disk are.config.max_positions nodes at

    pub represents_among : Represents disk (member_of at.me are.config begin) at.it its_part
    represents_among = represents_here are.kept at

-- ---- the word to lead at a range

-- the range of these numbers, where the count is wrong or the last position above the greatest
abbrev range_if : Bool → Bool → Range → Result Range Fault
range_if wrong far range = if wrong then Err BadConfig else if far then Err LogFull else Ok range

given_if : (wrong far : Bool) (first count : ℕ)
    → IfOk (range_if wrong far (record { first = first; count = count })) (λ range. given_by (inputs.LeadRange range) ≡ Ok (nodes.LeadRange first count))
given_if true far first count = tt
given_if false true first count = tt
given_if false false first count = refl

pub range_given : (first count : ℕ) → IfOk (range_of first count) (λ range. given_by (inputs.LeadRange range) ≡ Ok (nodes.LeadRange first count))
range_given first count = given_if (not (in_range 1 64 count)) (nat_lt (2 ^ 16) (first + count)) first count

-- the fault of an answer that is one
pub fault_of : {A : Type 0} (answer : Result A Fault) (P : Fault → Type 0) → ((fault : Fault) → answer ≡ Err fault → P fault) → IfErr answer P
fault_of (Ok found) P so = tt
fault_of (Err fault) P so = so fault refl

module _ {S : Type 0} (s : Setting S) (w : World) (me first count : ℕ) where
  abbrev given_range : NodeInput
  given_range = nodes.LeadRange first count

  -- there is no such node
  pub no_node_leads : part_at w.nodes me ≡ None → IsStepRefused s w (LeadRange me first count) BadConfig
  no_node_leads none = record {
    whole = ap (λ o. chosen_effect s w (commanded me given_range o)) none;
    none = λ kept. ap (λ o. chosen_cut s w kept (commanded me given_range o)) none;
  }

  module _ (part : NodePart) (here : part_at w.nodes me ≡ Some part) where
    refuses : (fault : Fault) → node_effect s me part given_range ≡ Err fault → IsStepRefused s w (LeadRange me first count) fault
    refuses fault resulted = record {
      whole = ap (λ o. chosen_effect s w (commanded me given_range o)) here ∙ ap (node_done_if w me) resulted;
      none = λ kept. ap (λ o. chosen_cut s w kept (commanded me given_range o)) here ∙ ap (λ effect. node_done_if w me (cut_if kept part effect)) resulted;
    }

    -- the node is stopped
    pub stopped_leads : part.running ≡ None → IsStepRefused s w (LeadRange me first count) NotRunning
    stopped_leads stopped = refuses NotRunning (ap (effect_while s me part given_range) stopped)

    refused_while : (known : Option Running) (fault : Fault) → IsSome known → range_of first count ≡ Err fault → effect_while s me part given_range known ≡ Err fault
    refused_while None fault runs is = absurd cc
    refused_while (Some running) fault runs is = ap (λ found. turn_done_if part (turn_if (running_node s me part.records running) (on_lead_range (running_node s me part.records running) found))) is

    -- it runs, and the numbers make no range
    pub leads_no_range : (fault : Fault) → IsSome part.running → range_of first count ≡ Err fault → IsStepRefused s w (LeadRange me first count) fault
    leads_no_range fault runs is = refuses fault (refused_while part.running fault runs is)
