-- Turns that follow one another, and the counts of a loop that made some.
use Rattle.std.specs.Prelude.{ℕ, ◌+◌, ◌<◌, ◌≤◌, Option, Some, List, [], ◌∷◌}
use Rattle.rp_threads.specs.Loops.{no_turns, counted}
use Rattle.rp_threads.specs.declared.loops.Counts.{Counts}
use Rattle.rp_threads.specs.declared.turns.Turn.{Turn}
use Rattle.rp_threads.specs.declared.turns.TurnResult.{TurnResult}

-- of the n turns from this one on one is such
abbrev pub IsAmongTurns : ℕ → ℕ → (ℕ → Type 0) → Type 0
IsAmongTurns first count Is = (turn : ℕ) × (first ≤ turn) × (turn < first + count) × Is turn

-- a turn of this kind that was made, of whose packets n are lost
abbrev pub turned : Turn → ℕ → Option TurnResult
turned turn lost = Some (record { turn = turn; packets = record { sent = lost; lost = lost; uncopied = 0 } })

-- the counts after these turns, of which the first in the list was the last
abbrev pub counts_after : List (Option TurnResult) → Counts
counts_after [] = no_turns
counts_after (made ∷ before) = counted made (counts_after before)
