-- Numbers that follow one another, divided by another number.
use Rattle.std.proofs.Common.{◌≡◌, ℕ, ◌+◌, ◌*◌, ◌/◌, ◌%◌, ◌<◌, ◌≤◌, inl, inr, ◌∙◌, arith}
use Rattle.std.proofs.lemmas.Bool.{cases_lt}
use Rattle.std.proofs.Math.Nat.{div-add-mod, mod-lt, mod-eq_of_lt, mul-add-mod_self_left}

-- Of the n numbers from this one on, this is the one with that remainder.
pub record Reached (modulus rest first : ℕ) : Type 0 where
  pub round : ℕ
  pub after : first ≤ modulus * round + rest
  pub before : modulus * round + rest < first + modulus

round_after : (m q : ℕ) → m * (q + 1) ≡ m * q + m
round_after m q = grind arith

pub reached : (m rest first : ℕ) → 0 < m → rest < m → Reached m rest first
reached m rest first some small =
    let parts = div-add-mod first m in
    let low = mod-lt first some in
    let next = round_after m (first / m) in
    elim (cases_lt rest (first % m)) [
      | inl late ↦ record { round = first / m + 1; after = omega (arith, parts, low, late, next); before = omega (arith, parts, low, late, small, next) }
      | inr soon ↦ record { round = first / m; after = omega (arith, parts, low, soon); before = omega (arith, parts, low, soon, small) }
    ]

-- the remainder of such a number
pub rest_of : (m q rest : ℕ) → rest < m → (m * q + rest) % m ≡ rest
rest_of m q rest small = mul-add-mod_self_left m q rest ∙ mod-eq_of_lt small

-- a round of rounds
pub rounds : (n m q k : ℕ) → n * m * q + m * k ≡ m * (n * q + k)
rounds n m q k = grind arith

pub product_below : (n m k : ℕ) → 0 < m → k < n → m * k < n * m
product_below n m k some small = grind arith
