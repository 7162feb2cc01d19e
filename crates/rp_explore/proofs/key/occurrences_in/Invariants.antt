use Rattle.std.proofs.Common.{◌≡◌, ◌+◌, ◌<◌, ℕ, length, get_or}
use Rattle.rp_machine.specs.Asked.{last_occurrence}
use Rattle.rp_machine.specs.Numbered.{outcome}
use Rattle.rp_explore.proofs.key.occurrences_in.Given as goal

-- the last occurrences of the sources so far
abbrev pub invariant-loop-place : goal.invariant-loop-place
invariant-loop-place g l =
    let m = g.M.Machine in record {
      size : length l.occurrences ≡ 8;
      each : (k : ℕ) → k < l.place → get_or l.occurrences k 0 ≡ last_occurrence (k + 1) (outcome m.next m.answers l.state).kept;
    }
