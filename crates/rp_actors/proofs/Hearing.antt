-- The result of the delivery of a message, by whom it is for.
use Rattle.std.proofs.Common.{◌≡◌, ℕ, ◌+◌, ◌-◌, ◌^◌, min, true, false, Option, Some, None, Result, Ok, Err, List, [], ◌∷◌, ◌++◌, length, refl, sym, ap, ◌∙◌, if◌then◌else◌}
use Rattle.std.specs.Prelude.{IsSome, IfOk, OnErr}
use Rattle.std.proofs.lemmas.List.{append-nil}
use Rattle.rp_base.specs.declared.reply.Answer.{Answer}
use Rattle.rp_base.specs.declared.reply.Reply.{Reply}
use Rattle.rp_base.specs.declared.fault.Fault.{Fault}
use Rattle.rp_base.specs.declared.fault.Fault.TheVariants.{NotRunning}
use Rattle.rp_codec.specs.Message.{Message}
use Rattle.rp_codec.specs.declared.packet.Party.{Party}
use Rattle.rp_codec.specs.declared.packet.Body.{Body}
use Rattle.rp_codec.specs.declared.packet.Body.TheVariants as bodies
use Rattle.rp_model.specs.declared.effect.Effect.{Effect}
use Rattle.rp_model.specs.declared.effect.Dropped.TheVariants.{No}
use Rattle.rp_model.specs.Effect as nodes
use Rattle.rp_model.specs.Effect.{Setting, Done, NodeInput, effect_while, node_effect, cut_if, goes_on_as}
use Rattle.rp_model.specs.Answers.{IsDone}
use Rattle.rp_model.specs.Events.{Deliver, Makes}
use Rattle.rp_model.specs.Parts.{NodePart, TaskPart, Running as Known}
use Rattle.rp_model.specs.Tasks.{takes, takes_reply, task_hears}
use Rattle.rp_model.specs.World.{World, Transition, part_at, with_part, nothing_happens, node_done_if, task_done, written_by, Chosen, NodeTakes, commanded, reaches_node, reaches_number, reaches_task, reaches, delivers, chosen, node_chosen, chosen_effect, chosen_cut, chosen_record, step_effect, cut_step, step_writes, stepping}
use Rattle.rp_actors.specs.Callers.{Caller}
use Rattle.rp_actors.specs.Going.{Goes, reply_in}
use Rattle.rp_actors.specs.Steps.{ClusterState}
use Rattle.rp_actors.proofs.Messages.{SentTo}
use Rattle.rp_actors.proofs.Reports.{describes_of, stated_of}
use Rattle.rp_actors.proofs.Fields.{Fields, made_of, now, world}

pub same_input : (one other : NodeInput) → (let a : Result NodeInput Fault = Ok one in let b : Result NodeInput Fault = Ok other in a ≡ b) → one ≡ other
same_input one other same = cc

-- ---- nothing happens

pub nothing_goes : {S D P : Type 0} (f : Fields S D P) (whole : Result Transition Fault) (after : ClusterState P) (stated : Effect) → whole ≡ Ok (nothing_happens (world f)) → after ≡ now f
    → stated ≡ stated_of (length (world f).sent + 1) None → Goes (now f) whole after stated
nothing_goes f whole after stated resulted same is = record {
  transition = nothing_happens (world f);
  resulted = resulted;
  goes = same;
  describes = describes_of is (record { first = refl; count = refl; dropped = refl; taken = refl; opened = refl });
}

-- ---- a message for the audit, which nobody takes

pub heard_by_audit : {S : Type 0} (s : Setting S) (w : World) {number : ℕ} → SentTo w.sent number Party.Audit → step_effect s w (Deliver number) ≡ Ok (nothing_happens w)
heard_by_audit s w m = ap (chosen_effect s w) (ap (delivers w) m.found ∙ ap (reaches w m.packet) m.is_to)

-- ---- a message for a node

module _ {S : Type 0} (s : Setting S) (w : World) {number me : ℕ} (m : SentTo w.sent number (Party.Node me)) where
  arrives_here : chosen w (Deliver number) ≡ reaches_number me m.packet (part_at w.nodes me)
  arrives_here = ap (delivers w) m.found ∙ ap (reaches w m.packet) m.is_to

  abbrev as_command : Option NodePart → Chosen
  as_command part = commanded me (nodes.Receive m.packet) part

  -- the step is that node's, if there is one or not
  stepping_while : (part : NodePart) (o : Option Known) → node_chosen (reaches_node me m.packet part o) ≡ Some me
  stepping_while part None = refl
  stepping_while part (Some running) = refl

  stepping_number : (o : Option NodePart) → node_chosen (reaches_number me m.packet o) ≡ Some me
  stepping_number None = refl
  stepping_number (Some part) = stepping_while part part.running

  pub heard_stepping : stepping w (Deliver number) ≡ Some me
  heard_stepping = ap node_chosen arrives_here ∙ stepping_number (part_at w.nodes me)

  -- it writes and is cut as a command would, which a stopped node refuses
  record_while : (part : NodePart) (o : Option Known) → part.running ≡ o → chosen_record s (reaches_node me m.packet part o) ≡ chosen_record s (as_command (Some part))
  record_while part None rests = sym (ap (λ o. written_by (effect_while s me part (nodes.Receive m.packet) o)) rests)
  record_while part (Some running) runs = refl

  record_number : (o : Option NodePart) → chosen_record s (reaches_number me m.packet o) ≡ chosen_record s (as_command o)
  record_number None = refl
  record_number (Some part) = record_while part part.running refl

  pub heard_record : step_writes s w (Deliver number) ≡ chosen_record s (as_command (part_at w.nodes me))
  heard_record = ap (chosen_record s) arrives_here ∙ record_number (part_at w.nodes me)

  cut_while : (k : ℕ) (part : NodePart) (o : Option Known) → part.running ≡ o → chosen_cut s w k (reaches_node me m.packet part o) ≡ chosen_cut s w k (as_command (Some part))
  cut_while k part None rests = sym (ap (λ o. node_done_if w me (cut_if k part (effect_while s me part (nodes.Receive m.packet) o))) rests)
  cut_while k part (Some running) runs = refl

  -- there is none of this number
  pub heard_by_none : part_at w.nodes me ≡ None → step_effect s w (Deliver number) ≡ Ok (nothing_happens w)
  heard_by_none none = ap (chosen_effect s w) (arrives_here ∙ ap (reaches_number me m.packet) none)

  pub cut_by_none : part_at w.nodes me ≡ None → (k : ℕ) → cut_step s w (Deliver number) k ≡ Err NotRunning
  cut_by_none none k = ap (chosen_cut s w k) (arrives_here ∙ ap (reaches_number me m.packet) none)

  module _ (part : NodePart) (here : part_at w.nodes me ≡ Some part) where
    reaches_here : chosen w (Deliver number) ≡ reaches_node me m.packet part part.running
    reaches_here = arrives_here ∙ ap (reaches_number me m.packet) here

    -- it is stopped
    pub heard_resting : part.running ≡ None → step_effect s w (Deliver number) ≡ Ok (nothing_happens w)
    heard_resting rests = ap (chosen_effect s w) (reaches_here ∙ ap (reaches_node me m.packet part) rests)

    hears_while : (o : Option Known) → IsSome o → reaches_node me m.packet part o ≡ NodeTakes me part (nodes.Receive m.packet)
    hears_while None some = absurd cc
    hears_while (Some running) some = refl

    -- it runs: it is given the message
    pub heard_as : IsSome part.running → chosen w (Deliver number) ≡ as_command (part_at w.nodes me)
    heard_as runs = reaches_here ∙ hears_while part.running runs ∙ sym (ap as_command here)

    pub heard_running : IsSome part.running → step_effect s w (Deliver number) ≡ node_done_if w me (node_effect s me part (nodes.Receive m.packet))
    heard_running runs = ap (chosen_effect s w) (reaches_here ∙ hears_while part.running runs)

    pub cut_heard : (k : ℕ) → cut_step s w (Deliver number) k ≡ node_done_if w me (cut_if k part (node_effect s me part (nodes.Receive m.packet)))
    cut_heard k = ap (chosen_cut s w k) reaches_here ∙ cut_while k part part.running refl

-- ---- a message for a task

-- what a task makes of the reply in a body, if there is one
abbrev heard_of : ℕ → TaskPart → Option (ℕ × Reply) → Done TaskPart
heard_of task part None = goes_on_as part
heard_of task part (Some (number, reply)) = takes_reply task part number reply

hears : (task : ℕ) (part : TaskPart) (body : Body) → task_hears task part body ≡ heard_of task part (reply_in body)
hears task part (bodies.Reply number reply) = refl
hears task part _ = refl

record IsQuiet (done : Done TaskPart) : Type 0 where
  pub sends : done.sends ≡ []
  pub dropped : done.dropped ≡ No
  pub opened : done.opened ≡ None

takes_quiet : (task : ℕ) (part : TaskPart) (number : ℕ) (reply : Reply) → IsQuiet (takes_reply task part number reply)
takes_quiet task part number reply =
    let answer : Answer = record { task = task; number = number; reply = reply } in
    let after : TaskPart = record { outstanding = None; replies = part.replies ++ answer ∷ [] } in
    elim (takes part number) as (λ b. IsQuiet (if b then record (goes_on_as after) { taken = Some answer } else goes_on_as part)) [
      | true ↦ record { sends = refl; dropped = refl; opened = refl }
      | false ↦ record { sends = refl; dropped = refl; opened = refl }
    ]

-- a task stays the one of its number
pub take_keeps : {A E : Type 0} (r : Result A E) (old new : Caller) (part : TaskPart) → IfOk r (λ a. new ≡ record old { part = part }) → OnErr r (new ≡ old) → new.task ≡ old.task
take_keeps {A = A} {E = E} (Ok a) old new part ok err = ap (λ (c : Caller). c.task) ok
take_keeps {A = A} {E = E} (Err e) old new part ok err = ap (λ (c : Caller). c.task) err

module _ {S : Type 0} (s : Setting S) (w : World) {number task : ℕ} (m : SentTo w.sent number (Party.Task task)) (part : TaskPart) (here : part_at w.tasks task ≡ Some part) where
  received_here : step_effect s w (Deliver number) ≡ Ok (task_done w task (task_hears task part m.packet.body))
  received_here = ap (chosen_effect s w) (ap (delivers w) m.found ∙ ap (reaches w m.packet) m.is_to ∙ ap (reaches_task task m.packet) here)

  -- what it hears is some effect
  pub reply_results : (h : Transition) × (step_effect s w (Deliver number) ≡ Ok h)
  reply_results = (task_done w task (task_hears task part m.packet.body), received_here)

  -- it is no reply
  pub no_reply : (stated : Effect) → reply_in m.packet.body ≡ None → with_part w.tasks task part ≡ w.tasks → stated ≡ stated_of (length w.sent + 1) None → IsDone s w (Makes (Deliver number)) w stated
  no_reply stated none stays is = record {
    transition = task_done w task (goes_on_as part);
    resulted = received_here ∙ ap (λ (d : Done TaskPart). let r : Result Transition Fault = Ok (task_done w task d) in r) (hears task part m.packet.body ∙ ap (heard_of task part) none);
    world = sym (ap (λ (ts : List TaskPart). made_of w.nodes ts (w.sent ++ [])) stays
        ∙ ap (λ (ms : List Message). made_of w.nodes w.tasks ms) (append-nil w.sent));
    describes = describes_of is (record { first = refl; count = refl; dropped = refl; taken = refl; opened = refl });
  }

  module _ (n : ℕ) (reply : Reply) (is_reply : reply_in m.packet.body ≡ Some (n, reply)) where
    abbrev done : Done TaskPart
    done = takes_reply task part n reply

    received_reply : step_effect s w (Deliver number) ≡ Ok (task_done w task done)
    received_reply = received_here ∙ ap (λ (d : Done TaskPart). let r : Result Transition Fault = Ok (task_done w task d) in r) (hears task part m.packet.body ∙ ap (heard_of task part) is_reply)

    -- it is taken, or ignored
    pub takes_it : (after : World) (taken : Option Answer) (stated : Effect) → after ≡ made_of w.nodes (with_part w.tasks task done.part) w.sent
        → taken ≡ done.taken → stated ≡ (let e : Effect = record { first = length w.sent + 1; sent = 0; dropped = No; taken = taken; opened = None } in e) → IsDone s w (Makes (Deliver number)) after stated
    takes_it after taken stated same took is =
        let quiet = takes_quiet task part n reply in
        record {
          transition = task_done w task done;
          resulted = received_reply;
          world = same ∙ ap (λ (ms : List Message). made_of w.nodes (with_part w.tasks task done.part) ms)
              (sym (append-nil w.sent) ∙ ap (λ (ms : List Message). w.sent ++ ms) (sym quiet.sends));
          describes = describes_of is (record {
            first = refl;
            count = ap (λ (ms : List Message). min (length ms) (2 ^ 32 - 1)) (sym quiet.sends);
            dropped = sym quiet.dropped;
            taken = took;
            opened = sym quiet.opened;
          });
        }
