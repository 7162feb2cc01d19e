-- How the turns of a loop are counted.
use Rattle.std.proofs.Common.{◌≡◌, ℕ, suc, ◌+◌, ◌%◌, ◌≤◌, Bool, true, false, Some, None, Option, nat_eq, refl, ap, arith, if◌then◌else◌}
use Rattle.rp_threads.specs.Loops.{events_made, events_of, counted, total_of, turns_off, with_turn}
use Rattle.rp_threads.specs.declared.loops.Counts.{Counts}
use Rattle.rp_threads.specs.declared.turns.Turn.{Turn}
use Rattle.rp_threads.specs.declared.turns.Turn.TheVariants.{Received, Led, Idle}
use Rattle.rp_threads.specs.declared.turns.TurnResult.{TurnResult}

-- one turn more, and as many events more as it is
abbrev pub CountsMore : Counts → Counts → ℕ → Type 0
CountsMore old new n = (total_of new ≡ total_of old + 1) × (new.received + new.led ≡ old.received + old.led + n)

with_turn_more : (turn : Turn) (counts : Counts) → CountsMore counts (with_turn turn counts) (events_of turn)
with_turn_more Received counts = (omega arith, omega arith)
with_turn_more Led counts = (omega arith, omega arith)
with_turn_more Idle counts = (omega arith, omega arith)

pub counted_more : (made : Option TurnResult) (counts : Counts) → CountsMore counts (counted made counts) (events_made made)
counted_more (Some turned) counts = with_turn_more turned.turn counts
counted_more None counts = (omega arith, omega arith)

-- the turn was made and idle
abbrev pub IsIdle : Option TurnResult → Type 0
IsIdle (Some turned) = turned.turn ≡ Idle
IsIdle None = ⊥

-- ---- the turns that are not 0 modulo k

off_grows : (k n : ℕ) → turns_off k n ≤ turns_off k (suc n)
off_grows k n =
    elim (nat_eq (suc n % k) 0) as (λ b. turns_off k n ≤ (if b then turns_off k n else suc (turns_off k n))) [ true ↦ omega arith | false ↦ omega arith ]

off_counts : (k n : ℕ) → nat_eq (suc n % k) 0 ≡ false → turns_off k (suc n) ≡ suc (turns_off k n)
off_counts k n off = ap (λ (b : Bool). if b then turns_off k n else suc (turns_off k n)) off

with_turn_idle : (turn : Turn) (counts : Counts) (k n : ℕ) → (turn ≡ Idle → nat_eq (suc n % k) 0 ≡ false) → counts.idle ≤ turns_off k n → (with_turn turn counts).idle ≤ turns_off k (suc n)
with_turn_idle Idle counts k n off few = let more = off_counts k n (off refl) in omega (arith, few, more)
with_turn_idle Received counts k n off few = let more = off_grows k n in omega (arith, few, more)
with_turn_idle Led counts k n off few = let more = off_grows k n in omega (arith, few, more)

pub counted_idle : (made : Option TurnResult) (counts : Counts) (k n : ℕ) → (IsIdle made → nat_eq (suc n % k) 0 ≡ false) → counts.idle ≤ turns_off k n → (counted made counts).idle ≤ turns_off k (suc n)
counted_idle (Some turned) counts k n off few = with_turn_idle turned.turn counts k n off few
counted_idle None counts k n off few = let more = off_grows k n in omega (arith, few, more)
