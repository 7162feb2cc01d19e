-- Numbers as a figure shows them.
use Rattle.std.specs.Prelude.{ℕ, ◌-◌, ◌^◌, min}

-- the number, or the greatest of 64 bits if that is less
abbrev pub within_64_bits : ℕ → ℕ
within_64_bits n = min n (2 ^ 64 - 1)
