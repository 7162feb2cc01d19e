-- How the turns of a loop are numbered and counted.
use Rattle.std.specs.Prelude.{◌≡◌, ℕ, zero, suc, ◌+◌, ◌%◌, ◌/◌, nat_eq, Bool, true, false}
use Rattle.std.specs.Prelude.{Option, Some, None, if◌then◌else◌}
use Rattle.rp_base.specs.declared.fault.Fault.{Fault}
use Rattle.rp_base.specs.declared.fault.Fault.TheVariants.{BallotsSpent, LogFull}
use Rattle.rp_codec.specs.declared.packet.Party.{Party}
use Rattle.rp_codec.specs.declared.packet.Party.TheVariants.{Node, Task}
use Rattle.rp_tasks.specs.Line.{saturating_sum}
use Rattle.rp_threads.specs.declared.loops.Counts.{Counts}
use Rattle.rp_threads.specs.declared.turns.Turn.{Turn}
use Rattle.rp_threads.specs.declared.turns.Turn.TheVariants.{Received, Led, Idle}
use Rattle.rp_threads.specs.declared.turns.TurnResult.{TurnResult}

-- ---- whose box is emptied

-- the boxes of the nodes 1 to n, then that of one task, with the tasks 1 to 8 in rotation: turn 1
-- is node 1's
abbrev pub sender_of : ℕ → ℕ → Party
sender_of place round = if nat_eq place 0 then Task (round % 8 + 1) else Node place

abbrev pub sender_at : ℕ → ℕ → Party
sender_at nodes turn = sender_of (turn % (nodes + 1)) (turn / (nodes + 1))

-- the node that a task uses in a turn, among n nodes: all nodes in rotation
abbrev pub node_at : ℕ → ℕ → ℕ
node_at nodes turn = turn % nodes + 1

-- ---- in which turns a node is to lead

-- once in n turns
abbrev pub lead_period : ℕ → ℕ
lead_period number = 8 + number

abbrev pub is_to_lead : ℕ → ℕ → Bool
is_to_lead number turn = nat_eq (turn % lead_period number) 0

-- ---- how turns are counted

-- the fault only means that the node cannot lead, and the loop continues
abbrev pub is_refusal : Fault → Bool
is_refusal BallotsSpent = true
is_refusal LogFull = true
is_refusal _ = false

-- nothing arrived in the turn, and the node did not lead
abbrev pub is_idle : Turn → Bool
is_idle Idle = true
is_idle Received = false
is_idle Led = false

-- nothing happened in the turn: it was idle, or skipped
abbrev pub is_uneventful : Option TurnResult → Bool
is_uneventful (Some turned) = is_idle turned.turn
is_uneventful None = true

-- how many events a turn is
abbrev pub events_of : Turn → ℕ
events_of Received = 1
events_of Led = 1
events_of Idle = 0

-- no event if the turn is skipped
abbrev pub events_made : Option TurnResult → ℕ
events_made (Some turned) = events_of turned.turn
events_made None = 0

-- no turn yet
abbrev pub no_turns : Counts
no_turns = record { received = 0; led = 0; idle = 0; skipped = 0; lost = 0 }

-- the counts with one more turn of this kind
abbrev pub with_turn : Turn → Counts → Counts
with_turn Received counts = record counts { received = counts.received + 1 }
with_turn Led counts = record counts { led = counts.led + 1 }
with_turn Idle counts = record counts { idle = counts.idle + 1 }

-- the counts with one more turn, which was made or skipped; for a turn that was made, also with the
-- packets that it lost at boxes
abbrev pub counted : Option TurnResult → Counts → Counts
counted (Some turned) counts =
    record (with_turn turned.turn counts) { lost = saturating_sum counts.lost turned.packets.lost }
counted None counts = record counts { skipped = counts.skipped + 1 }

-- all turns that are counted
abbrev pub total_of : Counts → ℕ
total_of counts = counts.received + counts.led + counts.idle + counts.skipped

-- how many of the turns 1 to n are not 0 modulo k
abbrev pub turns_off : ℕ → ℕ → ℕ
turns_off k zero = 0
turns_off k (suc n) = if nat_eq (suc n % k) 0 then turns_off k n else suc (turns_off k n)
