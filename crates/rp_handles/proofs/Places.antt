-- The place of the first line that begins with `script`.
use Rattle.std.proofs.Common.{◌≡◌, ℕ, zero, suc, ◌+◌, ◌<◌, false, List, [], ◌∷◌, length, drop, ap, subst, arith, if◌then◌else◌}
use Rattle.rp_handles.specs.DeclaredParts.{begins_script, declared_len}

one_more : (text : List ℕ) (place : ℕ) → place < length text → begins_script (drop place text) ≡ false → declared_len (drop place text) ≡ suc (declared_len (drop (suc place) text))
one_more [] place below other = absurd (omega (arith, below))
one_more (byte ∷ rest) zero below other = ap (λ b. if b then 0 else suc (declared_len rest)) other
one_more (byte ∷ rest) (suc place) below other = one_more rest place (omega (arith, below)) other

pub later : (text : List ℕ) (place : ℕ) → place < length text → begins_script (drop place text) ≡ false → declared_len text ≡ place + declared_len (drop place text)
    → declared_len text ≡ (place + 1) + declared_len (drop (place + 1) text)
later text place below other before =
    let next : suc place ≡ place + 1 = omega arith in
    let more : declared_len (drop place text) ≡ suc (declared_len (drop (place + 1) text)) = subst (λ (n : ℕ). declared_len (drop place text) ≡ suc (declared_len (drop n text))) next (one_more text place below other) in
    omega (arith, before, more)
