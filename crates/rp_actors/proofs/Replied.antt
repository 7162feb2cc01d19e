-- A task hears a message: what it takes of it, and what this is for the world.
use Rattle.std.proofs.Common.{◌≡◌, ℕ, ◌+◌, ◌≤◌, Option, Some, None, Result, Ok, Err, List, length, slice_set, inl, inr, refl, sym, ap, subst, ◌∙◌}
use Rattle.std.specs.Prelude.{IfOk, OnErr}
use Rattle.rp_base.specs.declared.fault.Fault.{Fault}
use Rattle.rp_base.specs.declared.fault.Fault.TheVariants.{OutOfMemory}
use Rattle.rp_base.specs.declared.reply.Answer.{Answer}
use Rattle.rp_base.specs.declared.reply.Reply.{Reply}
use Rattle.rp_codec.specs.Message.{Message, IsPacket}
use Rattle.rp_codec.specs.Reading.{all_of}
use Rattle.rp_codec.specs.Text.{text_of}
use Rattle.rp_codec.specs.declared.packet.Party.{Party}
use Rattle.rp_codec.proofs.Decoded.{whole_again}
use Rattle.rp_model.specs.declared.effect.Dropped.TheVariants.{No}
use Rattle.rp_model.specs.declared.effect.Effect.{Effect}
use Rattle.rp_model.specs.Answers.{IsDone}
use Rattle.rp_model.specs.Events.{Deliver, Makes, Step}
use Rattle.rp_model.specs.Parts.{TaskPart}
use Rattle.rp_model.specs.Tasks.{takes_reply}
use Rattle.rp_model.specs.World.{World, with_part}
use Rattle.rp_actors.specs.Callers.{Caller}
use Rattle.rp_actors.specs.Going.{Answers, Goes, reply_in, reply_read, step_meant}
use Rattle.rp_actors.specs.Deliveries.{only_sent}
use Rattle.rp_actors.specs.Steps.{ClusterState}
use Rattle.rp_actors.proofs.Fields.{Fields, as_seen, cluster_with, first_seen, goes_to, now, setting, world, world_with, setting_by}
use Rattle.rp_actors.proofs.Hearing.{no_reply, reply_results, takes_it}
use Rattle.rp_actors.proofs.Messages.{SentTo}
use Rattle.rp_actors.proofs.Moving.{task_at, task_here, number_here, tasks_moved, tasks_stay}
use Rattle.rp_actors.proofs.Placing.{Found}
use Rattle.rp_actors.proofs.OnlySent.{only_sent_none}

-- what is read of a packet's text is the packet's reply
pub reply_of_text : (text : List ℕ) (m : Message) (read : Option (ℕ × Reply)) → IsPacket m → text ≡ text_of m → read ≡ reply_read (all_of text) → read ≡ reply_in m.body
reply_of_text text m read packet is from = from ∙ ap (λ (bytes : List ℕ). reply_read (all_of bytes)) is ∙ ap reply_read (whole_again m packet)

-- a step happens that changes a task alone
goes_as : {S D P : Type 0} (f : Fields S D P) (tasks : List Caller) (step : Step) (effect : Effect) → IsDone (setting f) (world f) (Makes step) (world_with f f.nodes tasks f.messages) effect
    → Goes (now f) (step_meant (setting f) (world f) step).whole (cluster_with f f.nodes tasks f.messages) effect
goes_as f tasks step effect done = record { transition = done.transition; resulted = done.resulted; goes = goes_to f f.nodes tasks f.messages done.world refl; describes = done.describes }

-- it is no reply, and changes nothing
pub heard_no_reply : {S D P : Type 0} (f : Fields S D P) {number task : ℕ} (m : SentTo f.messages.sent number (Party.Task task)) → (1 ≤ task) × (task ≤ 8) → reply_in m.packet.body ≡ None
    → Goes f.was (step_meant (setting_by f f.was) f.was.world (Deliver number)).whole f.was (only_sent f.was.world f.was.world)
heard_no_reply f {number = number} {task = task} m range none =
    let at = task_at f task range in
    let effect = only_sent (world f) (world f) in
    as_seen f (λ v. Goes v (step_meant (setting_by f v) v.world (Deliver number)).whole v (only_sent v.world v.world))
    (goes_as f f.tasks (Deliver number) effect (no_reply (setting f) (world f) m at.0 at.1 effect none at.2 (only_sent_none (world f) (world f) refl)))

module _ {S D P : Type 0} (f : Fields S D P) (at : Found f.tasks) (new : Caller) {number : ℕ} (m : SentTo f.messages.sent number (Party.Task at.me)) where
  abbrev w : World
  w = world f

  abbrev tasks : List Caller
  tasks = slice_set f.tasks at.place new

  abbrev after : World
  after = world_with f f.nodes tasks f.messages

  abbrev with_tasks : List TaskPart → World
  with_tasks ts = record { nodes = w.nodes; tasks = ts; sent = w.sent }

  -- what is answered to its delivery
  abbrev pub AnsweredBy : Result Effect Fault → ClusterState P → Type 0
  AnsweredBy r v = Answers v (step_meant (setting_by f v) v.world (Deliver number)) (cluster_with f f.nodes tasks f.messages) r

  abbrev pub Answered : Result Effect Fault → Type 0
  Answered r = AnsweredBy r f.was

  -- it took the reply, or ignored it
  module _ {n : ℕ} {reply : Reply} (is_reply : reply_in m.packet.body ≡ Some (n, reply)) where
    abbrev Part : Option Answer → Type 0
    Part taken = new ≡ record at.it { part = (takes_reply at.it.task at.it.part n reply).part }

    abbrev Takes : Option Answer → Type 0
    Takes taken = taken ≡ (takes_reply at.it.task at.it.part n reply).taken

    pub took_reply : {E : Type 0} {result : Result (Option Answer) E} {taken : Option Answer} {first : ℕ} {stated : Effect} {r : Result Effect Fault} → result ≡ Ok taken → r ≡ Ok stated → IfOk result Part → IfOk result Takes
        → first ≡ length f.was.world.sent → stated ≡ (let e : Effect = record { first = first + 1; sent = 0; dropped = No; taken = taken; opened = None } in e) → Answered r
    took_reply {taken = taken} {stated = stated} is returned part takes first_is stated_is =
        let ok = subst (λ a. IfOk a Part) is part in
        let took = subst (λ a. IfOk a Takes) is takes in
        let moved : after ≡ with_tasks (with_part w.tasks at.me (takes_reply at.me at.it.part n reply).part) =
        ap with_tasks
        (tasks_moved f at new
        ∙ ap (with_part w.tasks at.me) (ap (λ (k : Caller). k.part) ok ∙ ap (λ (k : ℕ). (takes_reply k at.it.part n reply).part) (number_here f at))) in
        subst Answered (sym returned)
        (as_seen f (AnsweredBy (Ok stated))
        (goes_as f tasks (Deliver number) stated
        (takes_it (setting f) w m at.it.part (task_here f at) n reply is_reply after taken stated moved (took ∙ ap (λ (k : ℕ). (takes_reply k at.it.part n reply).taken) (number_here f at))
        (stated_is ∙ ap (λ (k : ℕ). let e : Effect = record { first = k + 1; sent = 0; dropped = No; taken = taken; opened = None } in e) (first_seen f first_is)))))

  -- memory ran out for it
  pub not_taken : {E : Type 0} {result : Result (Option Answer) E} {e : E} {r : Result Effect Fault} → result ≡ Err e → r ≡ Err OutOfMemory → OnErr result (new ≡ at.it) → Answered r
  not_taken is returned err =
      let same = subst (λ a. OnErr a (new ≡ at.it)) is err in
      let results = reply_results (setting f) w m at.it.part (task_here f at) in
      subst Answered (sym returned)
      (as_seen f (AnsweredBy (Err OutOfMemory))
      (inr (inl (record {
        memory = refl;
        intended = results.0;
        resulted = results.1;
        unchanged = goes_to f f.nodes tasks f.messages (ap with_tasks (tasks_stay f at new (ap (λ (k : Caller). k.part) same))) refl;
      }))))
