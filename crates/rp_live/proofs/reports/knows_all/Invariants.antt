-- As many actions are known of the nodes so far as they have applied.
use Rattle.std.proofs.Common.{◌≡◌, ℕ, suc, ◌<◌, length, slice_get}
use Rattle.std.specs.Prelude.{IfSome}
use Rattle.rp_boxes.specs.Audits.{known_of}
use Rattle.rp_live.proofs.reports.knows_all.Given as goal

abbrev pub invariant-loop-count : goal.invariant-loop-count
invariant-loop-count g l = record {
  number : l.number ≡ l.count-index;
  known : (place : ℕ) → place < l.count-index → IfSome (slice_get l.applied place) (λ count. count ≡ length (known_of l.audit.known (suc place)));
}
