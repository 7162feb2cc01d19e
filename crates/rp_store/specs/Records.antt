-- Which records the contents of a device are.
use Rattle.std.specs.Prelude.{◌≡◌, ℕ, ◌≤◌, min, List, [], ◌∷◌, ◌++◌, length, take}
use Rattle.std.specs.List.{AllByRecursion}
use Rattle.rp_codec.specs.rp_base.specs.declared.record.Rec.{Rec}
use Rattle.rp_codec.specs.Record.{record_text, IsRecord, IsRecordTextBefore}
use Rattle.rp_store.specs.Disk.{Disk}

-- the texts of the records as they are written, joined
abbrev pub records_text : List Rec → List ℕ
records_text [] = []
records_text (r ∷ rest) = record_text r ++ records_text rest

-- the bytes are texts of the records, joined, each of a version in which its record has one
abbrev pub AreTextsOf : List Rec → List ℕ → Type 0
AreTextsOf [] bytes = bytes ≡ []
AreTextsOf (r ∷ rest) bytes =
    (after : List ℕ) × IsRecordTextBefore r after bytes × AreTextsOf rest after

-- The texts of the records, joined, are the longest front of the contents that is made of whole
-- record texts, of either version in any order, and what is torn is after it.
pub record AreRecordsOf (contents : List ℕ) (records : List Rec) (torn : List ℕ) : Type 0 where
  pub texts : List ℕ
  pub are : AreTextsOf records texts
  pub whole : contents ≡ texts ++ torn
  pub each : AllByRecursion IsRecord records
  pub longest : (others : List Rec) (front rest : List ℕ) → AllByRecursion IsRecord others
      → AreTextsOf others front
      → contents ≡ front ++ rest → length front ≤ length texts

-- Each whole record of the old contents is one of the new, each that was stable is stable, and what
-- is after them is some beginning of what was torn. Nothing was appended.
pub record KeepsRecords (old new : Disk) : Type 0 where
  pub records : (records : List Rec) (torn : List ℕ) → AreRecordsOf old.contents records torn
      → (kept : ℕ) × AreRecordsOf new.contents records (take kept torn)
  pub stable : (records : List Rec) (torn : List ℕ) → AreRecordsOf old.contents records torn
      → min old.stable (length (records_text records)) ≤ new.stable
  pub appends : new.appends ≡ old.appends
