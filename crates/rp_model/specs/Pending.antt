-- Calls, interrupts and ticks that wait at a node to be proposed.
use Rattle.std.specs.Prelude.{ℕ, Bool, false, true, not, ◌&&◌, nat_eq, nat_lt, nat_le, is_none}
use Rattle.std.specs.Prelude.{Option, Some, None, unwrap_or, List, map, filter, find}
use Rattle.std.specs.List.{list_any}
use Rattle.rp_base.specs.declared.action.Action.{Action}
use Rattle.rp_base.specs.declared.action.Action.TheVariants.{Noop, Call, Interrupt, Tick}
use Rattle.rp_base.specs.declared.reply.Answer.{Answer}
use Rattle.rp_base.specs.Action.{same_action, equal_items}
use Rattle.rp_base.specs.Proposals.{Proposal}
use Rattle.rp_codec.specs.Message.{Message}
use Rattle.rp_codec.specs.declared.packet.Body.TheVariants as bodies
use Rattle.rp_machine.specs.Asked.{last_number, last_occurrence, answer_to}
use Rattle.rp_model.specs.Says.{says_to_task}

-- how many items may be pending
abbrev pub most_pending : ℕ
most_pending = 32

-- the two are one call, by its task and number
abbrev pub is_same_call : Action → Action → Bool
is_same_call (Call task number o p a) (Call other same q r b) =
    nat_eq task other && nat_eq number same
is_same_call item other = false

-- ---- what a proposal takes as its own action

-- the item did not count yet, and none above it did
abbrev pub is_ahead : List Action → Action → Bool
is_ahead kept Noop = false
is_ahead kept (Call task number object operation arg) = nat_lt (last_number task kept) number
is_ahead kept (Interrupt source occurrence) = nat_lt (last_occurrence source kept) occurrence
is_ahead kept (Tick now) = true

-- the item is the own action of a proposal, or equals it
abbrev pub is_own : Action → Option Action → Bool
is_own item None = false
is_own item (Some own) = equal_items item own

-- a pending item is free if it is ahead, and its equal is not the own action of a proposal
abbrev pub is_free_item : List Action → List Proposal → Action → Bool
is_free_item kept proposals item =
    not (list_any (λ p. is_own item p.own) proposals) && is_ahead kept item

-- the first free pending item, else nothing
abbrev pub own_action : List Action → List Proposal → List Action → Action
own_action kept proposals pending = unwrap_or (find (is_free_item kept proposals) pending) Noop

-- ---- what is answered, and what stays

-- whether the pending item is the call that is answered
abbrev pub is_answered_by : Answer → Action → Bool
is_answered_by answer Noop = false
is_answered_by answer (Call task number object operation arg) =
    nat_eq task answer.task && nat_eq number answer.number
is_answered_by answer (Interrupt source occurrence) = false
is_answered_by answer (Tick now) = false

-- the replies to those answers whose call is pending here
abbrev pub replies_to : ℕ → List Action → List Answer → List Message
replies_to me pending given =
    map (λ answer. says_to_task me (bodies.Reply answer.number answer.reply) answer.task)
    (filter (λ answer. list_any (is_answered_by answer) pending) given)

-- Whether a pending item stays, once these actions counted with these answers, of which the last
-- were newly applied. A call stays until its answer is given or a higher one of its task counted,
-- an interrupt until it or a higher one of its source counted, a tick until an equal one is
-- applied.
abbrev pub stays : List Action → List Answer → List Action → Action → Bool
stays kept given applied Noop = false
stays kept given applied (Call task number object operation arg) =
    is_none (answer_to task number given) && nat_le (last_number task kept) number
stays kept given applied (Interrupt source occurrence) =
    nat_lt (last_occurrence source kept) occurrence
stays kept given applied (Tick now) = not (list_any (same_action (Tick now)) applied)
