use Rattle.std.proofs.Common.{◌≡◌, ℕ, List, ◌++◌, length}
use Rattle.std.specs.List.{AllByRecursion}
use Rattle.rp_codec.specs.Record.{IsRecord}
use Rattle.rp_store.specs.Records.{AreTextsOf}
use Rattle.rp_store.proofs.reading.whole_records.Given as goal

abbrev pub invariant-loop-rec : goal.invariant-loop-rec
invariant-loop-rec l =
    (texts : List ℕ) × AreTextsOf l.records.items texts × (l.bytes ≡ texts ++ l.rest) × AllByRecursion IsRecord l.records.items

abbrev pub decreases-loop-rec : goal.decreases-loop-rec
decreases-loop-rec l = length l.rest
