-- Reading a record from left to right.
use Rattle.std.specs.Prelude.{ℕ, List, Ok, Err, ◌==◌, if◌then◌else◌}
use Rattle.rp_base.specs.declared.fault.PacketReason.TheVariants.{Field}
use Rattle.rp_base.specs.declared.record.Rec.{Rec}
use Rattle.rp_base.specs.declared.record.Rec.TheVariants.{Started, Promised, Voted, Learned}
use Rattle.rp_base.specs.declared.record.Rec.TheVariants.{PromisedRange}
use Rattle.rp_codec.specs.declared.version.Version.{Version}
use Rattle.rp_codec.specs.Version.{version_of}
use Rattle.rp_codec.specs.Reading.{◌>>=◌, Read, known, byte_at, position_at, ballot_at}
use Rattle.rp_codec.specs.Reading.{place_at, range_place_at, action_at, placed_vote_at}

unfoldable pub started_at : List ℕ → Read Rec
started_at bytes = do
  ballot ← ballot_at bytes
  Ok (Started ballot.0, ballot.1)

unfoldable pub promised_at : List ℕ → Read Rec
promised_at bytes = do
  place ← place_at bytes
  Ok (Promised place.0.0 place.0.1, place.1)

unfoldable pub voted_at : Version → List ℕ → Read Rec
voted_at version bytes = do
  vote ← placed_vote_at version bytes
  Ok (Voted vote.0.position vote.0.vote.ballot vote.0.vote.action, vote.1)

unfoldable pub learned_at : Version → List ℕ → Read Rec
learned_at version bytes = do
  position ← position_at bytes
  action ← action_at version position.1
  Ok (Learned position.0 action.0, action.1)

unfoldable pub promised_range_at : List ℕ → Read Rec
promised_range_at bytes = do
  place ← range_place_at bytes
  Ok (PromisedRange place.0.0 place.0.1, place.1)

abbrev pub record_of_kind : Version → ℕ → List ℕ → Read Rec
record_of_kind version kind bytes =
    if kind == 1 then started_at bytes else
    if kind == 2 then promised_at bytes else
    if kind == 3 then voted_at version bytes else
    if kind == 4 then learned_at version bytes else
    if kind == 5 then promised_range_at bytes else
    Err Field

-- a record of either version and the bytes after it
unfoldable pub record_at : List ℕ → Read Rec
record_at bytes = do
  number ← byte_at bytes
  version ← known Field (version_of number.0) number.1
  kind ← byte_at version.1
  record_of_kind version.0 kind.0 kind.1
