-- What a device holds after its whole records.
use Rattle.std.specs.Prelude.{Bool, true, false, ℕ, Result, Ok, Err, List, [], ◌∷◌}
use Rattle.std.specs.Prelude.{if◌then◌else◌}
use Rattle.rp_base.specs.declared.fault.PacketReason.{PacketReason}
use Rattle.rp_base.specs.declared.fault.PacketReason.TheVariants.{Short, Long, Version, Kind, Field}
use Rattle.rp_codec.specs.RecordReading.{record_at}
use Rattle.rp_requests.specs.declared.tail.Tail.{Tail}
use Rattle.rp_requests.specs.declared.tail.Tail.TheVariants.{Nothing, Torn, Damaged}

-- the bytes end before the field does that is read next
abbrev pub is_short_reason : PacketReason → Bool
is_short_reason Short = true
is_short_reason Long = false
is_short_reason Version = false
is_short_reason Kind = false
is_short_reason Field = false

-- reading from left to right found right fields, up to the end of the bytes
abbrev pub is_short : {A : Type 0} → Result A PacketReason → Bool
is_short (Ok x) = false
is_short (Err reason) = is_short_reason reason

-- What is after the last whole record: nothing, the beginning of a record, or what begins none.
abbrev pub tail_of : List ℕ → Tail
tail_of [] = Nothing
tail_of (byte ∷ rest) = if is_short (record_at (byte ∷ rest)) then Torn else Damaged
