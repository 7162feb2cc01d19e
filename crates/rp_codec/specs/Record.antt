-- The text of each record in each version, and which records have one (the format is ours).
use Rattle.std.specs.Prelude.{◌≡◌, ℕ, List, [], ◌∷◌, ◌++◌}
use Rattle.rp_base.specs.Number.{IsPosition}
use Rattle.rp_base.specs.Ballot.{IsBallot}
use Rattle.rp_base.specs.Ranges.{IsRange}
use Rattle.rp_base.specs.Right.{IsRightRecord}
use Rattle.rp_base.specs.declared.record.Rec.{Rec}
use Rattle.rp_base.specs.declared.record.Rec.TheVariants.{Started, Promised, Voted, Learned}
use Rattle.rp_base.specs.declared.record.Rec.TheVariants.{PromisedRange}
use Rattle.rp_codec.specs.declared.version.Version.{Version}
use Rattle.rp_codec.specs.declared.version.Version.TheVariants.{V2}
use Rattle.rp_codec.specs.Version.{version_number}
use Rattle.rp_codec.specs.Text.{range_text, position_text, ballot_text, action_text_at}
use Rattle.rp_codec.specs.Text.{HasActionText}

-- the version, the kind, and the fields in order
abbrev pub record_text_at : Version → Rec → List ℕ
record_text_at version (Started ballot) = (version_number version ∷ 1 ∷ []) ++ ballot_text ballot
record_text_at version (Promised position ballot) =
    (version_number version ∷ 2 ∷ []) ++ position_text position ++ ballot_text ballot
record_text_at version (Voted position ballot action) =
    (version_number version ∷ 3 ∷ []) ++ position_text position ++ ballot_text ballot
    ++ action_text_at version action
record_text_at version (Learned position action) =
    (version_number version ∷ 4 ∷ []) ++ position_text position ++ action_text_at version action
record_text_at version (PromisedRange range ballot) =
    (version_number version ∷ 5 ∷ []) ++ range_text range ++ ballot_text ballot

-- what is written of a record
abbrev pub record_text : Rec → List ℕ
record_text rec = record_text_at V2 rec

-- the record has a text of the version
abbrev pub HasRecordText : Version → Rec → Type 0
HasRecordText version (Started ballot) = Unit {0}
HasRecordText version (Promised position ballot) = Unit {0}
HasRecordText version (Voted position ballot action) = HasActionText version action
HasRecordText version (Learned position action) = HasActionText version action
HasRecordText version (PromisedRange range ballot) = Unit {0}

-- the bytes are a text of the record, and others after it
abbrev pub IsRecordTextBefore : Rec → List ℕ → List ℕ → Type 0
IsRecordTextBefore rec rest bytes =
    (version : Version) × HasRecordText version rec × (bytes ≡ record_text_at version rec ++ rest)

-- each position and each ballot is one
abbrev pub HasRecordRanges : Rec → Type 0
HasRecordRanges (Started ballot) = IsBallot ballot
HasRecordRanges (Promised position ballot) = IsPosition position × IsBallot ballot
HasRecordRanges (Voted position ballot action) = IsPosition position × IsBallot ballot
HasRecordRanges (Learned position action) = IsPosition position
HasRecordRanges (PromisedRange range ballot) = IsRange range × IsBallot ballot

-- each number of the record is within its range
pub record IsRecord (r : Rec) : Type 0 where
  pub ranges : HasRecordRanges r
  pub right : IsRightRecord r

-- bytes that begin with a record's text
abbrev pub BeginsWithRecord : List ℕ → Type 0
BeginsWithRecord bytes = (r : Rec) × (rest : List ℕ) × IsRecord r × IsRecordTextBefore r rest bytes
