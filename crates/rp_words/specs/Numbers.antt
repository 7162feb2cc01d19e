-- The sizes of numbers, which have no sign (no public clause names them).
use Rattle.std.specs.Prelude.{ℕ, ◌&&◌, ◌^◌, nat_lt, List, Option, Some, None, if◌then◌else◌}
use Rattle.std.specs.Str.Parse.{digits_value}
use Rattle.rp_words.specs.Words.{is_digits}

-- the number that one decimal digit or more write, if it is one of 64 bits
abbrev pub size_of : List ℕ → Option ℕ
size_of digits =
    if is_digits digits && nat_lt (digits_value 10 digits) (2 ^ 64)
    then Some (digits_value 10 digits)
    else None
