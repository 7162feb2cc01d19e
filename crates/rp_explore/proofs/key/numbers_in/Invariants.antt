use Rattle.std.proofs.Common.{◌≡◌, ◌+◌, ◌<◌, ℕ, length, get_or}
use Rattle.rp_machine.specs.Asked.{last_number}
use Rattle.rp_machine.specs.Numbered.{outcome}
use Rattle.rp_explore.proofs.key.numbers_in.Given as goal

-- the numbers of the tasks so far
abbrev pub invariant-loop-place : goal.invariant-loop-place
invariant-loop-place g l =
    let m = g.M.Machine in record {
      size : length l.numbers ≡ 8;
      each : (k : ℕ) → k < l.place → get_or l.numbers k 0 ≡ last_number (k + 1) (outcome m.next m.answers l.state).kept;
    }
