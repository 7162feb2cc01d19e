-- What a C caller gets when it opens or calls a handle.
use Rattle.std.specs.Prelude.{◌≡◌, ◌<◌, ◌≤◌, ◌⊎◌, ℕ, Option, Some, None, Result, Ok, Err, List}
use Rattle.std.specs.Prelude.{◌++◌, drop, length}
use Rattle.rp_script.specs.rp_base.specs.declared.fault.Fault.TheVariants as faults
use Rattle.rp_requests.specs.declared.not_taken.NotTaken.{NotTaken}
use Rattle.rp_requests.specs.declared.not_taken.NotTaken.TheVariants as takings
use Rattle.rp_handles.specs.DeckNodes.{OpensNoNode}
use Rattle.rp_handles.specs.Devices.{HasHeader, OpensDevice, OpensNoDevice, header_bytes}
use Rattle.rp_handles.specs.Handles.{ChangesNothing, Exchange, HandleAnswers, IsNoTask}
use Rattle.rp_handles.specs.Handles.{KeepsNode, KeepsTask, KeepsTaskAfter}
use Rattle.rp_handles.specs.declared.actor.Actor.{Actor}
use Rattle.rp_handles.specs.declared.actor.Actor.TheVariants as actors
use Rattle.rp_handles.specs.declared.actor.ActorKind.{ActorKind}
use Rattle.rp_requests.specs.Buffers.{with_front}
use Rattle.rp_requests.specs.Refusals.{refusal_code}
use Rattle.rp_requests.specs.Tails.{tail_of}
use Rattle.rp_requests.specs.declared.tail.Tail.{Tail}
use Rattle.rp_requests.specs.declared.tail.Tail.TheVariants as tails
use Rattle.rp_requests.specs.declared.buffer.Lengths.{Lengths}
use Rattle.rp_requests.specs.declared.refusal.Refusal.{Refusal}
use Rattle.rp_requests.specs.declared.refusal.Refusal.TheVariants as refusals
use Rattle.rp_script.specs.Given.{most_bytes}
use Rattle.rp_c.specs.Status.{deck_reason_code}
use Rattle.rp_c.specs.declared.answer.AnswerLengths.{AnswerLengths}
use Rattle.rp_c.specs.declared.nodes.NodeFound.{NodeFound}
use Rattle.rp_c.specs.declared.steps.StepLengths.{StepLengths}

-- the number that an opening returns: 0, or that of the refusal
abbrev pub opening_code : Option Refusal → ℕ
opening_code None = 0
opening_code (Some refusal) = refusal_code refusal

-- Why a node is not opened: the deck is too long; or it is not, and `OpensNoNode` says why.
abbrev pub IsNoNode : List ℕ → ℕ → Refusal → Type 0
IsNoNode text number refusal =
    ((refusal ≡ refusals.Fault faults.Io) × (most_bytes < length text))
    ⊎ ((length text ≤ most_bytes) × OpensNoNode text number refusal)

-- the number of what is after the whole records of a device
abbrev pub tail_code : Tail → ℕ
tail_code tails.Nothing = 0
tail_code tails.Torn = 1
tail_code tails.Damaged = 2

-- what is written of a refusal: the first bad line of a bad deck and its first reason
abbrev pub with_bad_line : Refusal → NodeFound → NodeFound
with_bad_line (refusals.Fault (faults.BadDeck line reason)) found =
    record found { line = line; reason = deck_reason_code reason }
with_bad_line refusal found = found

-- The handle keeps the node of a deck that is not too long, and what it found on its device was
-- written, with no bad line; or the handle keeps what it kept, for a reason that holds, and only
-- the bad line of a bad deck was written.
abbrev pub OpensByHandle : List ℕ → ℕ → List ℕ → Option Actor → Option Actor → NodeFound
    → NodeFound → Option Refusal → Type 0
OpensByHandle text number bytes old new before found None =
    (length text ≤ most_bytes) × KeepsNode text number bytes new found.records found.kept
    × (found.tail ≡ tail_code (tail_of (drop found.kept bytes)))
    × (found.line ≡ 0) × (found.reason ≡ 0)
OpensByHandle text number bytes old new before found (Some refusal) =
    (new ≡ old) × (found ≡ with_bad_line refusal before) × IsNoNode text number refusal

-- Why a node is not opened over a device with a header: the deck is too long; or it is not, and
-- `OpensNoDevice` says why.
abbrev pub IsNoDevice : List ℕ → ℕ → List ℕ → Refusal → Type 0
IsNoDevice text number device refusal =
    ((refusal ≡ refusals.Fault faults.Io) × (most_bytes < length text))
    ⊎ ((length text ≤ most_bytes) × OpensNoDevice text number device refusal)

-- The same of a device that begins with the node's header, by the records after that.
abbrev pub OpensDeviceByHandle : List ℕ → ℕ → List ℕ → Option Actor → Option Actor → NodeFound
    → NodeFound → Option Refusal → Type 0
OpensDeviceByHandle text number device old new before found None =
    (length text ≤ most_bytes) × OpensDevice text number device new found.records found.kept
    × (found.tail ≡ tail_code (tail_of (drop found.kept (drop header_bytes device))))
    × (found.line ≡ 0) × (found.reason ≡ 0)
OpensDeviceByHandle text number device old new before found (Some refusal) =
    (new ≡ old) × (found ≡ with_bad_line refusal before) × IsNoDevice text number device refusal

-- Why there is no header: the buffer has too few bytes; or it has not, and `IsNoNode` says why.
abbrev pub IsNoHeader : List ℕ → ℕ → List ℕ → Refusal → Type 0
IsNoHeader text number buffer refusal =
    ((refusal ≡ refusals.ShortAnswer header_bytes) × (length buffer < header_bytes))
    ⊎ ((header_bytes ≤ length buffer) × IsNoNode text number refusal)

-- The header of a node's device is at the front of the buffer, whose other bytes are as they were;
-- or nothing changed, for a reason that holds.
abbrev pub PutsHeader : List ℕ → ℕ → List ℕ → List ℕ → Option Refusal → Type 0
PutsHeader text number before after None =
    (header : List ℕ) × (length text ≤ most_bytes) × HasHeader text number header
    × (after ≡ header ++ drop header_bytes before)
PutsHeader text number before after (Some refusal) =
    (after ≡ before) × IsNoHeader text number before refusal

-- The handle keeps the task; or it keeps what it kept, for a reason that holds.
abbrev pub TaskByHandle : ℕ → Option Actor → Option Actor → Option Refusal → Type 0
TaskByHandle number old new None = KeepsTask number new
TaskByHandle number old new (Some refusal) = (new ≡ old) × IsNoTask number refusal

-- The same of a task that has made n calls.
abbrev pub TaskByHandleAfter : ℕ → ℕ → Option Actor → Option Actor → Option Refusal → Type 0
TaskByHandleAfter number calls old new None = KeepsTaskAfter number calls new
TaskByHandleAfter number calls old new (Some refusal) = (new ≡ old) × IsNoTask number refusal

-- The answer to a request by a handle to an actor of this kind; none if there is no such kind: then
-- nothing changed.
abbrev pub CallByHandle : Option ActorKind → Exchange → Option Actor → Option Actor
    → Option (Result Lengths Refusal) → Type 0
CallByHandle (Some kind) exchange old new ended = HandleAnswers kind exchange old new ended
CallByHandle None exchange old new ended = (ended ≡ None) × ChangesNothing exchange old new

-- the number that a call returns: 0, that of the refusal, or `RP_WRONG_HANDLE` if the handle keeps
-- no actor of that kind
abbrev pub answer_code : Option (Result Lengths Refusal) → ℕ
answer_code None = 68
answer_code (Some (Ok lengths)) = 0
answer_code (Some (Err refusal)) = refusal_code refusal

-- What was written: the lengths of the answer, or the length that it needs, or nothing.
abbrev pub WritesLengths : Option (Result Lengths Refusal) → AnswerLengths → AnswerLengths → Type 0
WritesLengths None old new = new ≡ old
WritesLengths (Some (Ok lengths)) old new =
    new ≡ record { stored = lengths.stored; used = lengths.used }
WritesLengths (Some (Err (refusals.Fault fault))) old new = new ≡ old
WritesLengths (Some (Err (refusals.ShortAnswer needed))) old new =
    new ≡ record { stored = old.stored; used = needed }
WritesLengths (Some (Err refusals.BadRequest)) old new = new ≡ old
WritesLengths (Some (Err refusals.NoObjects)) old new = new ≡ old
WritesLengths (Some (Err refusals.TooFar)) old new = new ≡ old
WritesLengths (Some (Err refusals.WrongDevice)) old new = new ≡ old
WritesLengths (Some (Err (refusals.LongAnswer needed))) old new =
    new ≡ record { stored = old.stored; used = needed }

-- ---- steps

-- the number of what a step did not take
abbrev pub dropped_code : NotTaken → ℕ
dropped_code takings.Nothing = 0
dropped_code takings.Full = 1
dropped_code takings.Foreign = 2
dropped_code takings.Early = 3
dropped_code takings.Stale = 4

-- What was written of an answer: its lengths, and what the last step of the handle's node gave
-- besides, as many of the ends of its packets as there is room for.
abbrev pub WritesLast : Lengths → Option Actor → List ℕ → List ℕ → StepLengths → StepLengths
    → Type 0
WritesLast lengths (Some (actors.Node node)) before after old new =
    (after ≡ with_front node.ends before)
    × (new ≡ record {
      stored = lengths.stored;
      used = lengths.used;
      packets = length node.ends;
      dropped = dropped_code node.not_taken;
    })
WritesLast lengths (Some (actors.Task task)) before after old new = (after ≡ before) × (new ≡ old)
WritesLast lengths None before after old new = (after ≡ before) × (new ≡ old)

-- What was written: that, or the length that an answer needs, or nothing.
abbrev pub WritesStep : Option (Result Lengths Refusal) → Option Actor → List ℕ → List ℕ
    → StepLengths → StepLengths → Type 0
WritesStep (Some (Ok lengths)) kept before after old new =
    WritesLast lengths kept before after old new
WritesStep (Some (Err (refusals.ShortAnswer needed))) kept before after old new =
    (after ≡ before) × (new ≡ record old { used = needed })
WritesStep (Some (Err (refusals.LongAnswer needed))) kept before after old new =
    (after ≡ before) × (new ≡ record old { used = needed })
WritesStep (Some (Err (refusals.Fault fault))) kept before after old new =
    (after ≡ before) × (new ≡ old)
WritesStep (Some (Err refusals.BadRequest)) kept before after old new =
    (after ≡ before) × (new ≡ old)
WritesStep (Some (Err refusals.NoObjects)) kept before after old new =
    (after ≡ before) × (new ≡ old)
WritesStep (Some (Err refusals.TooFar)) kept before after old new =
    (after ≡ before) × (new ≡ old)
WritesStep (Some (Err refusals.WrongDevice)) kept before after old new =
    (after ≡ before) × (new ≡ old)
WritesStep None kept before after old new = (after ≡ before) × (new ≡ old)
