use Rattle.std.proofs.Common.{◌≡◌, ◌+◌, ◌-◌, ◌<◌, ◌≤◌, ℕ, false, is_some}
use Rattle.rp_learner.specs.Places.{is_marked}
use Rattle.rp_log.specs.Contents.{action_at}
use Rattle.rp_server.proofs.window.learned_bits.Given as goal

-- the bits below are those of what was asked for, and the others are clear
abbrev pub invariant-loop-number : goal.invariant-loop-number
invariant-loop-number l =
    (l.first ≤ l.number)
    × ((j : ℕ) → j < l.number - l.first → l.entered ≤ l.first + j → is_marked l.bits j ≡ is_some (action_at l.log (l.first + j)))
    × ((j : ℕ) → l.number - l.first ≤ j → is_marked l.bits j ≡ false)
