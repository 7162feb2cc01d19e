-- The texts at the right of a drawing: what the actor of an event did.
use Rattle.std.specs.Prelude.{ℕ, ◌-◌, nat_lt, is_some, Option, Some, None, List, [], ◌++◌, codes}
use Rattle.std.specs.Prelude.{decimal, if◌then◌else◌}
use Rattle.rp_run.specs.rp_base.specs.Fault.{code_of, name_of}
use Rattle.rp_run.specs.rp_base.specs.declared.fault.Fault.{Fault}
use Rattle.rp_run.specs.rp_base.specs.declared.record.Rec.{Rec}
use Rattle.rp_run.specs.rp_base.specs.declared.record.Rec.TheVariants.{Started, Promised, Voted}
use Rattle.rp_run.specs.rp_base.specs.declared.record.Rec.TheVariants.{Learned}
use Rattle.rp_run.specs.rp_base.specs.declared.record.Rec.TheVariants.{PromisedRange}
use Rattle.rp_run.specs.rp_base.specs.declared.reply.Answer.{Answer}
use Rattle.rp_run.specs.rp_codec.specs.Message.{Message}
use Rattle.rp_run.specs.rp_codec.specs.declared.packet.Body.{Body}
use Rattle.rp_run.specs.rp_codec.specs.declared.packet.Body.TheVariants.{Prepare, Accept, Accepted}
use Rattle.rp_run.specs.rp_codec.specs.declared.packet.Body.TheVariants.{Decided}
use Rattle.rp_run.specs.rp_codec.specs.declared.packet.Body.TheVariants.{PrepareRange}
use Rattle.rp_history.specs.Histories.{delivered_by}
use Rattle.rp_history.specs.Views.{has_written, is_unheard}
use Rattle.rp_history.specs.declared.happened.Happened.{Happened}
use Rattle.rp_history.specs.declared.happened.NodeState.{NodeState}
use Rattle.rp_run.specs.rp_model.specs.declared.event.Event.{Event}
use Rattle.rp_run.specs.rp_model.specs.declared.event.Event.TheVariants.{Submit, Again, Node, Cut}
use Rattle.rp_run.specs.rp_model.specs.declared.event.Event.TheVariants.{Stop, Restart}
use Rattle.rp_run.specs.rp_output.specs.Printed.{reply_text_of}
use Rattle.rp_run.specs.rp_output.specs.Trace.{ballot_text_of, range_text_of}
use Rattle.rp_run.specs.Output.{is_full}

-- a record
abbrev pub record_text : Rec → List ℕ
record_text (Started ballot) = codes "started " ++ decimal ballot
record_text (Promised position ballot) = codes "promised " ++ ballot_text_of position ballot
record_text (Voted position ballot action) = codes "voted " ++ ballot_text_of position ballot
record_text (Learned position action) = codes "learned " ++ decimal position
record_text (PromisedRange range ballot) = codes "promised_range " ++ range_text_of range ballot

-- the record that a node writes when it takes a packet, if it writes one then
abbrev pub record_for : Body → Option Rec
record_for (Prepare position ballot) = Some (Promised position ballot)
record_for (Accept position ballot action) = Some (Voted position ballot action)
record_for (Accepted position ballot action) = Some (Learned position action)
record_for (Decided position action) = Some (Learned position action)
record_for (PrepareRange range ballot) = Some (PromisedRange range ballot)
record_for _ = None

-- the record that a leader writes before it sends a request, if it writes one then
abbrev pub record_before : Body → Option Rec
record_before (Prepare position ballot) = Some (Started ballot)
record_before (PrepareRange range ballot) = Some (Started ballot)
record_before _ = None

-- the record of an event, by the packet that it delivers or else sends first
abbrev pub record_by : Event → Option Message → Option Rec
record_by event None = None
record_by event (Some m) =
    if is_some (delivered_by event) then record_for m.body else record_before m.body

-- the record that an event's node wrote, if it wrote one
abbrev pub record_of : Happened → Option Rec
record_of h = if has_written h then record_by h.event h.packet else None

-- the record, and how many actions the node has then applied, if these are more than before
abbrev pub written_text : ℕ → ℕ → Option Rec → List ℕ
written_text before after None = []
written_text before after (Some written) =
    if nat_lt before after
    then record_text written ++ (codes ", applied " ++ decimal after)
    else record_text written

-- the reply that a task took, or else what the node wrote
abbrev pub taken_or_written : Happened → Option Answer → List ℕ
taken_or_written h None = written_text h.before.applied h.after.applied (record_of h)
taken_or_written h (Some answer) =
    codes "reply " ++ (decimal answer.number ++ (codes " " ++ reply_text_of answer.reply))

-- what a step did
abbrev pub step_text : Happened → List ℕ
step_text h =
    if is_unheard h then codes "not heard"
    else if is_full h.effect.dropped then codes "pending full"
    else taken_or_written h h.effect.taken

-- what a node found that runs again, and how many actions it has applied; or that it ran already
abbrev pub restart_text : ℕ → Option (ℕ × ℕ) → List ℕ
restart_text applied None = codes "already running"
restart_text applied (Some found) =
    codes "records " ++ (decimal found.0 ++ (codes ", cut " ++ (decimal found.1
    ++ (codes ", applied " ++ decimal applied))))

-- how many bytes more the device of a node holds that stopped within a step
abbrev pub cut_text : NodeState → NodeState → List ℕ
cut_text before after =
    codes "stopped, " ++ (decimal (after.stored - before.stored) ++ codes " bytes kept")

-- what the actor of an event did
abbrev pub effect_text : Happened → Event → List ℕ
effect_text h (Submit task node object operation arg) = []
effect_text h (Again task node) = []
effect_text h (Node step) = step_text h
effect_text h (Cut step kept) = cut_text h.before h.after
effect_text h (Stop node) = codes "stopped"
effect_text h (Restart node) = restart_text h.after.applied h.effect.opened

-- why a line was refused
abbrev pub refusal_text : Fault → List ℕ
refusal_text fault = codes "refused " ++ (decimal (code_of fault) ++ (codes " " ++ name_of fault))
