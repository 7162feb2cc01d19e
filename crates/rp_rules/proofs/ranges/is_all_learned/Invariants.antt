use Rattle.std.proofs.Common.{◌≡◌, ◌+◌, ◌-◌}
use Rattle.std.specs.Prelude.{is_none, filter}
use Rattle.std.specs.List.{range_with_len}
use Rattle.rp_base.specs.Records.{learned_at}
use Rattle.rp_model.specs.Leader.{unlearned_in}
use Rattle.rp_rules.proofs.ranges.is_all_learned.Given as goal

-- none of those before was unlearned, so what the rest has is what all have
abbrev pub invariant-loop-index : goal.invariant-loop-index
invariant-loop-index g l =
    filter (λ i. is_none (learned_at l.server.records i)) (range_with_len (l.range.first + l.index) (l.range.count - l.index)) ≡ unlearned_in l.server.records l.range
