use Rattle.std.proofs.Common.{◌≡◌, ◌+◌, ◌<◌, ◌≤◌, ℕ, false, is_some}
use Rattle.rp_base.specs.Records.{learned_at}
use Rattle.rp_learner.specs.Places.{is_marked}
use Rattle.rp_server.proofs.server.Roles.learned_mask.Given as goal

-- the bits below are those of what was asked for, and the others are clear
abbrev pub invariant-loop-index : goal.invariant-loop-index
invariant-loop-index g l =
    ((j : ℕ) → j < l.index → is_marked l.mask j ≡ is_some (learned_at l.self.records (l.range.first + j)))
    × ((j : ℕ) → l.index ≤ j → is_marked l.mask j ≡ false)
