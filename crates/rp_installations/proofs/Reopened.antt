-- A task that is opened twice, played: its second call gets the reply to its first.
use Rattle.std.proofs.Common.{◌≡◌, ℕ, ◌≤◌, pos, Bool, true, Some, Ok, List, [], ◌∷◌, length, inl, inr, refl, arith}
use Rattle.rp_base.specs.Action.{IsRight}
use Rattle.rp_base.specs.declared.action.Operation.TheVariants.{Procedure}
use Rattle.rp_requests.specs.rp_codec.specs.Message.{IsPacket}
use Rattle.rp_requests.specs.rp_codec.specs.Text.{number_text}
use Rattle.rp_requests.specs.rp_model.specs.Effect.{NodeInput}
use Rattle.rp_requests.specs.rp_model.specs.Effect as inputs
use Rattle.rp_requests.specs.Texts.{step_text, FitsStep, task_request_text, FitsTaskRequest}
use Rattle.rp_requests.specs.Nodes.{step_bytes}
use Rattle.rp_requests.specs.Requests.{Step, asked_of}
use Rattle.rp_requests.specs.TaskRequests.{TaskAsked, MakeCall, task_asked_of}
use Rattle.rp_requests.specs.Tasks.{call_packet}
use Rattle.rp_installations.specs.Sites.{nothing_opened}
use Rattle.rp_installations.specs.Breaches.{Callers, MoveOr, Breaches}
use Rattle.rp_installations.proofs.Deeds.{Deed, Take, Hand, MakesCall, TakeReply, site_at, node_at, task_at, plays, plays_lead}
use Rattle.rp_installations.proofs.Packets.{node_1, task_1}
use Rattle.std.specs.Prelude.{is_some}
use Rattle.rp_base.specs.declared.action.Action.{Action}
use Rattle.rp_base.specs.declared.action.Action.TheVariants.{Call}
use Rattle.rp_installations.specs.Sites.{unopened_task}
use Rattle.rp_requests.specs.rp_model.specs.World.{part_at, with_part}
use Rattle.rp_requests.specs.rp_tasks.specs.Calls.{no_calls}
use Rattle.rp_installations.specs.Breaches.{OpensTaskAgain, TakesOldReply}
use Rattle.rp_installations.proofs.Deeds.{Break, some_is, on}
use Rattle.rp_installations.proofs.Kept.{answering, answering_fits, reply_packet, reply_is}

abbrev reopened_to : ℕ → Callers → Callers
reopened_to t i = record { nodes = i.nodes; tasks = with_part i.tasks t (record (task_at i t) { task = Some (no_calls t) }); handed_on = i.handed_on }

abbrev may_reopen : ℕ → Callers → Bool
may_reopen t i = is_some (part_at i.tasks t)

abbrev reopening_fits : ℕ → Type 0
reopening_fits t = Unit {0}

reopening : (t : ℕ) (i : Callers) → reopening_fits t → may_reopen t i ≡ true → MoveOr OpensTaskAgain i (reopened_to t i)
reopening t i fits may = Breaches (record { task = t; site = task_at i t; here = some_is (part_at i.tasks t) unopened_task may; goes = refl })

-- ---- the second call

abbrev other_call : Action
other_call = Call 1 1 1 (Procedure 1) (pos 7)

right_other : IsRight other_call
right_other = (task_1, (omega arith, omega arith), (omega arith, omega arith), (omega arith, omega arith), record { sfits = omega arith })

fits_other : FitsTaskRequest (MakeCall 1 1 (Procedure 1) (pos 7))
fits_other = (node_1, (omega arith, omega arith), (omega arith, omega arith), record { sfits = omega arith })

other_is : IsPacket (call_packet 1 1 other_call)
other_is = record { ranges = record { from = task_1; to = node_1; body = tt }; rules = (tt, tt, refl, right_other) }

abbrev again : List (Deed ℕ)
again =
    Break 1
    ∷ MakesCall 1 1 1 (Procedure 1) (pos 7)
    ∷ Take 1 (inputs.NodeInput.Receive (call_packet 1 1 other_call)) 11
    ∷ Hand 1 8 (reply_packet ∷ []) reply_packet
    ∷ TakeReply 1 reply_packet 12
    ∷ []

abbrev once : Callers
once = plays OpensTaskAgain ℕ reopened_to may_reopen reopening_fits reopening (answering ℕ) (nothing_opened 3)

abbrev twice : Callers
twice = plays OpensTaskAgain ℕ reopened_to may_reopen reopening_fits reopening again once

module _ (buffer : List ℕ) (room : step_bytes ≤ length buffer) (reads : (input : NodeInput) → FitsStep input → asked_of (step_text input) ≡ Some (Step (Ok input)))
    (reads_task : (request : TaskAsked) → FitsTaskRequest request → task_asked_of (task_request_text request) ≡ Some request) where
  pub old_reply : TakesOldReply OpensTaskAgain
  unfolding number_text
  old_reply =
      let first = plays_lead OpensTaskAgain ℕ reopened_to may_reopen reopening_fits reopening buffer room reads reads_task (answering ℕ) (nothing_opened 3) (answering_fits OpensTaskAgain ℕ reopened_to may_reopen reopening_fits reopening) refl in
      let second = plays_lead OpensTaskAgain ℕ reopened_to may_reopen reopening_fits reopening buffer room reads reads_task again once (tt, ((fits_other, omega arith), (other_is, (((reply_is, tt), inl refl), (reply_is, tt))))) refl in
      let led = on OpensTaskAgain ℕ reopened_to may_reopen reopening_fits reopening (nothing_opened 3) once twice first second in
      record {
        moves = led.0;
        now = twice;
        all = led.1;
        task = task_at twice 1;
        here = refl;
        replies = refl;
        called = inr (inr (inr (inr (inr (inr (inr (inr (inr (inr (inr (inl refl)))))))))));
        site = site_at twice 1;
        node = node_at twice 1;
        opened = record { site_is = refl; node_is = refl };
        applied = refl;
      }
