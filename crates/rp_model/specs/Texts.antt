-- What is written for a record.
use Rattle.std.specs.Prelude.{ℕ, List}
use Rattle.rp_base.specs.declared.record.Rec.{Rec}
use Rattle.rp_codec.specs.Record.{record_text}

-- what is written for a record
abbrev pub written_for : Rec → List ℕ
written_for rec = record_text rec
