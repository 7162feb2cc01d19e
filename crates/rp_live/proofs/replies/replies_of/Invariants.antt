-- The seats and replies of the tasks so far.
use Rattle.std.proofs.Common.{◌≡◌, ◌++◌, map}
use Rattle.std.specs.Prelude.{All, flat_map}
use Rattle.rp_live.specs.Ends.{HadMemory}
use Rattle.rp_live.specs.LiveOutcome.{replies_at}
use Rattle.rp_live.proofs.replies.replies_of.Given as goal

abbrev pub invariant-loop-end : goal.invariant-loop-end
invariant-loop-end g l = record {
  memory : All HadMemory l.end-iterator.rest.items → All HadMemory l.fn.tasks.items;
  seats : l.seats.items ++ map (λ end. end.seat) l.end-iterator.rest.items ≡ map (λ end. end.seat) l.fn.tasks.items;
  replies : l.replies.items ++ flat_map replies_at l.end-iterator.rest.items ≡ flat_map replies_at l.fn.tasks.items;
}
