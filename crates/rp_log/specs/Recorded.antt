-- A log beside the records of its node.
use Rattle.std.specs.Prelude.{ℕ, ◌≡◌, List}
use Rattle.rp_base.specs.declared.record.Rec.{Rec}
use Rattle.rp_base.specs.Records.{learned_at}
use Rattle.rp_log.specs.Contents.{Contents, action_at}

-- at each position the log learned what the records say
abbrev pub LearnedAlike : List Rec → Contents → Type 0
LearnedAlike records log = (i : ℕ) → action_at log i ≡ learned_at records i
