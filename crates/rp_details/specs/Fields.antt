-- The fields of a packet, in words.
use Rattle.std.specs.Fmt.{signed_decimal}
use Rattle.std.specs.Prelude.{ℕ, ℤ, ◌+◌, ◌-◌, Option, Some, None, List, ◌++◌, codes, decimal}
use Rattle.rp_world.specs.rp_base.specs.Ranges.{Range}
use Rattle.rp_world.specs.rp_base.specs.declared.action.Action.{Action}
use Rattle.rp_world.specs.rp_base.specs.declared.action.Action.TheVariants as actions
use Rattle.rp_world.specs.rp_base.specs.declared.action.Operation.{Operation}
use Rattle.rp_world.specs.rp_base.specs.declared.action.Operation.TheVariants.{Function, Procedure}
use Rattle.rp_world.specs.rp_base.specs.declared.action.Operation.TheVariants.{Entry, SetTimer}
use Rattle.rp_world.specs.rp_base.specs.declared.action.Operation.TheVariants.{CancelTimer}
use Rattle.rp_world.specs.rp_base.specs.declared.record.Vote.{Vote}
use Rattle.rp_world.specs.rp_codec.specs.declared.packet.Body.{Body}
use Rattle.rp_world.specs.rp_codec.specs.declared.packet.Body.TheVariants.{Call, Prepare, Promise}
use Rattle.rp_world.specs.rp_codec.specs.declared.packet.Body.TheVariants.{Accept}
use Rattle.rp_world.specs.rp_codec.specs.declared.packet.Body.TheVariants.{Accepted, Decided, Ask}
use Rattle.rp_world.specs.rp_codec.specs.declared.packet.Body.TheVariants.{Nack, Reply}
use Rattle.rp_world.specs.rp_codec.specs.declared.packet.Body.TheVariants.{Report, PrepareRange}
use Rattle.rp_world.specs.rp_codec.specs.declared.packet.Body.TheVariants.{PromiseRange}
use Rattle.rp_run.specs.rp_output.specs.Printed.{reply_text_of}

-- an operation of an object, by its kind and its index from 1
abbrev pub operation_words : Operation → List ℕ
operation_words (Function index) = codes "function " ++ decimal index
operation_words (Procedure index) = codes "procedure " ++ decimal index
operation_words (Entry index) = codes "entry " ++ decimal index
operation_words (SetTimer index) = codes "setting of timer " ++ decimal index
operation_words (CancelTimer index) = codes "cancelling of timer " ++ decimal index

-- what a call asks for
abbrev pub asked_words : ℕ → Operation → ℤ → List ℕ
asked_words object operation arg =
    operation_words operation ++ (codes " of object " ++ (decimal object
    ++ (codes ", argument " ++ signed_decimal arg)))

-- a call of a task, by its number
abbrev pub call_words : ℕ → ℕ → List ℕ
call_words task number = codes "call " ++ (decimal number ++ (codes " of task " ++ decimal task))

-- an action, with all that distinguishes it from others
abbrev pub action_words : Action → List ℕ
action_words actions.Noop = codes "no action"
action_words (actions.Call task number object operation arg) =
    call_words task number ++ (codes ": " ++ asked_words object operation arg)
action_words (actions.Interrupt source occurrence) =
    codes "interrupt " ++ (decimal source ++ (codes ", occurrence " ++ decimal occurrence))
action_words (actions.Tick now) = codes "tick " ++ decimal now

-- a vote, if there is one
abbrev pub last_vote_words : Option Vote → List ℕ
last_vote_words None = codes "no vote before"
last_vote_words (Some vote) =
    codes "last vote in ballot " ++ (decimal vote.ballot
    ++ (codes ", for " ++ action_words vote.action))

-- a position
abbrev pub position_words : ℕ → List ℕ
position_words position = codes "position " ++ decimal position

-- the bound of a node at a position, and its last vote there
abbrev pub bound_words : ℕ → ℕ → Option Vote → List ℕ
bound_words position bound last =
    position_words position ++ (codes ": bound " ++ (decimal bound
    ++ (codes ", " ++ last_vote_words last)))

-- a position, and a ballot there
abbrev pub ballot_words : ℕ → ℕ → List ℕ
ballot_words position ballot = position_words position ++ (codes ", ballot " ++ decimal ballot)

-- positions that follow one another, and a ballot there
abbrev pub range_words : Range → ℕ → List ℕ
range_words range ballot =
    codes "positions " ++ (decimal range.first ++ (codes " to "
    ++ (decimal (range.first + range.count - 1) ++ (codes ", ballot " ++ decimal ballot))))

-- the fields of a packet; of a report and of a promise for a range only those that a trace has
abbrev pub fields_words : Body → List ℕ
fields_words (Call action) = action_words action
fields_words (Prepare position ballot) = ballot_words position ballot
fields_words (Promise position ballot last) =
    ballot_words position ballot ++ (codes ", " ++ last_vote_words last)
fields_words (Accept position ballot action) =
    ballot_words position ballot ++ (codes ", " ++ action_words action)
fields_words (Accepted position ballot action) =
    ballot_words position ballot ++ (codes ", " ++ action_words action)
fields_words (Decided position action) = position_words position ++ (codes ", " ++ action_words action)
fields_words (Ask position) = position_words position
fields_words (Nack position ballot bound) =
    ballot_words position ballot ++ (codes ", bound " ++ decimal bound)
fields_words (Reply number reply) =
    codes "call " ++ (decimal number ++ (codes ", " ++ reply_text_of reply))
fields_words (Report first applied printed) = position_words first
fields_words (PrepareRange range ballot) = range_words range ballot
fields_words (PromiseRange range ballot votes) = range_words range ballot
