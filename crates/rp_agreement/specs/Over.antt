-- When an item that waits at a node to be proposed is over, and what an input brings to wait there.
-- The rules are ours.
use Rattle.std.specs.Prelude.{◌≡◌, ◌⊎◌, ℕ, ◌<◌, ◌≤◌, List, [], ◌∷◌, length, drop, ◌++◌}
use Rattle.rp_base.specs.Records.{applied_of}
use Rattle.rp_base.specs.Sets.{Has}
use Rattle.rp_base.specs.declared.action.Action.{Action}
use Rattle.rp_base.specs.declared.action.Action.TheVariants as actions
use Rattle.rp_base.specs.declared.record.Rec.{Rec}
use Rattle.rp_base.specs.declared.record.Rec.TheVariants.{Learned}
use Rattle.rp_base.specs.declared.reply.Answer.{Answer}
use Rattle.rp_codec.specs.declared.packet.Body.{Body}
use Rattle.rp_codec.specs.declared.packet.Body.TheVariants.{Call}
use Rattle.rp_machine.specs.Asked.{last_number, last_occurrence}
use Rattle.rp_machine.specs.Calls.{CallName, calls_of, call_of}
use Rattle.rp_machine.specs.Replay.{counted_of, replay_answers}
use Rattle.rp_model.specs.Effect.{Setting, NodeInput, Receive, Interrupt, Tick}
use Rattle.rp_model.specs.Parts.{Running, Turn}
use Rattle.rp_model.specs.declared.effect.Dropped.TheVariants.{Full}
use Rattle.rp_agreement.specs.Answered.{named}

-- Whether an item is over, once these actions counted with these answers, of which the last were
-- newly applied: a call that is answered, or below the last one of its task; an interrupt that is
-- not above the last one of its source; a tick that is among those newly applied.
abbrev pub IsOver : List Action → List Answer → List Action → Action → Type 0
IsOver kept given newly actions.Noop = Unit {0}
IsOver kept given newly (actions.Call task number object operation arg) =
    ((answer : Answer) × Has answer given × (call_of answer ≡ named task number))
    ⊎ (number < last_number task kept)
IsOver kept given newly (actions.Interrupt source occurrence) =
    occurrence ≤ last_occurrence source kept
IsOver kept given newly (actions.Tick now) = Has (actions.Tick now) newly

-- an item is over at a node of these records, once it has learned the action at the position
abbrev pub IsOverOnce : {S : Type 0} → Setting S → List Rec → ℕ → Action → Action → Type 0
IsOverOnce s records i v item =
    let before = applied_of records in
    let after = applied_of (records ++ Learned i v ∷ []) in
    IsOver (counted_of s.next s.answers s.begin after) (replay_answers s.next s.answers s.begin after)
    (drop (length before) after) item

-- the call that a packet asks for
abbrev pub calls_in_body : Body → List Action
calls_in_body (Call action) = action ∷ []
calls_in_body body = []

-- what an input brings to wait: the call that is asked for, the interrupt, the tick
abbrev pub brought_by : NodeInput → List Action
brought_by (Receive message) = calls_in_body message.body
brought_by (Interrupt source occurrence) = actions.Interrupt source occurrence ∷ []
brought_by (Tick now) = actions.Tick now ∷ []
brought_by _ = []

-- the items that waited still do, in order, and one of these may come after them
abbrev pub AreKept : Running → Turn → List Action → Type 0
AreKept running turn brought =
    (turn.running.pending ≡ running.pending)
    ⊎ ((item : Action) × Has item brought
    × (turn.running.pending ≡ running.pending ++ item ∷ []))

-- the item waits after the turn, or the node says that it is full: 32 items or more wait already
abbrev pub IsTaken : Running → Turn → Action → Type 0
IsTaken running turn item =
    Has item turn.running.pending
    ⊎ ((turn.dropped ≡ Full) × (32 ≤ length running.pending))

-- the same of a call: one of this task and number waits after the turn, or the node is full
abbrev pub IsCallTaken : Running → Turn → CallName → Type 0
IsCallTaken running turn call =
    ((item : Action) × Has item turn.running.pending × (calls_of item ≡ call ∷ []))
    ⊎ ((turn.dropped ≡ Full) × (32 ≤ length running.pending))
