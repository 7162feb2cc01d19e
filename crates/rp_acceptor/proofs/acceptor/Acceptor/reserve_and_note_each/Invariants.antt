use Rattle.std.proofs.Common.{◌≡◌, ◌++◌, List, ℕ, drop}
use Rattle.std.specs.Prelude.{flat_map}
use Rattle.rp_acceptor.specs.Noted.{places_in, restored_from}
use Rattle.rp_acceptor.proofs.acceptor.Acceptor.reserve_and_note_each.Given as goal

-- what was noted and the rest make all, and so do the places
abbrev pub invariant-loop-rec : goal.invariant-loop-rec
invariant-loop-rec l =
    (restored_from l.self (drop l.rec-index l.records) ≡ restored_from l.fn.self l.records)
    × ((before : List ℕ) × (before ++ flat_map places_in (drop l.rec-index l.records) ≡ flat_map places_in l.records))
