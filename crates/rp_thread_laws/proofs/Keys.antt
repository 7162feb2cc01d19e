-- Numbers from their bytes, and parties from their numbers.
use Rattle.std.proofs.Common.{◌≡◌, ℕ, ◌+◌, ◌*◌, ◌/◌, ◌%◌, ◌<◌, refl, ap, arith}
use Rattle.rp_threads.specs.rp_codec.specs.Message.{IsParty}
use Rattle.rp_threads.specs.rp_codec.specs.Text.{party_number}
use Rattle.rp_threads.specs.rp_codec.specs.declared.packet.Party.{Party}
use Rattle.rp_threads.specs.rp_codec.specs.declared.packet.Party.TheVariants.{Node, Task, Audit}

pub one_party : (a b : Party) → IsParty a → IsParty b → party_number a ≡ party_number b → a ≡ b
one_party (Node n) (Node m) is also same = ap Node same
one_party (Node n) (Task t) is also same = absurd (omega (arith, is.0, is.1, also.0, also.1, same))
one_party (Node n) Audit is also same = absurd (omega (arith, is.0, is.1, same))
one_party (Task t) (Node n) is also same = absurd (omega (arith, is.0, is.1, also.0, also.1, same))
one_party (Task t) (Task u) is also same = ap Task (omega (arith, same))
one_party (Task t) Audit is also same = absurd (omega (arith, is.0, is.1, same))
one_party Audit (Node n) is also same = absurd (omega (arith, also.0, also.1, same))
one_party Audit (Task t) is also same = absurd (omega (arith, also.0, also.1, same))
one_party Audit Audit is also same = refl

-- a number is its four bytes
whole : (n : ℕ) → n < 4294967296 → n ≡ n / 16777216 % 256 * 16777216 + n / 65536 % 256 * 65536 + n / 256 % 256 * 256 + n % 256
whole n small = omega (arith, small)

digits : (a b c d e f g h : ℕ) → a < 256 → b < 256 → c < 256 → e < 256 → f < 256 → g < 256
    → a + b * 256 + c * 65536 + d * 16777216 ≡ e + f * 256 + g * 65536 + h * 16777216
    → (a ≡ e) × (b ≡ f) × (c ≡ g) × (d ≡ h)
digits a b c d e f g h p q r s t u same = (omega (arith, p, q, r, s, t, u, same), omega (arith, p, q, r, s, t, u, same), omega (arith, p, q, r, s, t, u, same), omega (arith, p, q, r, s, t, u, same))

pub one_seed : (n m : ℕ) → n < 4294967296 → m < 4294967296
    → n / 16777216 % 256 + n / 65536 % 256 * 256 + n / 256 % 256 * 65536 + n % 256 * 16777216 ≡ m / 16777216 % 256 + m / 65536 % 256 * 256 + m / 256 % 256 * 65536 + m % 256 * 16777216
    → n ≡ m
one_seed n m small also same =
    let parts = digits (n / 16777216 % 256) (n / 65536 % 256) (n / 256 % 256) (n % 256) (m / 16777216 % 256) (m / 65536 % 256) (m / 256 % 256) (m % 256) (omega arith) (omega arith) (omega arith) (omega arith) (omega arith) (omega arith) same in
    omega (arith, parts.0, parts.1, parts.2, parts.3, whole n small, whole m also)
