-- What a node asks for, and what answers it.
use Rattle.std.proofs.Common.{◌≡◌, ◌↔◌, ℕ, zero, suc, ◌+◌, ◌-◌, ◌<◌, ◌≤◌, true, false, min, Option, Some, None, List, inl, inr, refl, ap, arith}
use Rattle.std.specs.Prelude.{is_none, nat_lt}
use Rattle.std.specs.List.{range_with_len}
use Rattle.std.proofs.lemmas.Bool.{ltb-true, ltb-false}
use Rattle.rp_base.specs.declared.action.Action.{Action}
use Rattle.rp_base.specs.declared.record.Rec.{Rec}
use Rattle.rp_base.specs.Number.{window}
use Rattle.rp_base.specs.Records.{learned_at, first_unlearned}
use Rattle.rp_base.specs.Sets.{Has}
use Rattle.rp_base.proofs.Members.{has_passing, passes}
use Rattle.rp_model.specs.Learner.{missing_in_window}

-- the members of a range
within : (first n i : ℕ) → Has i (range_with_len first n) → (first ≤ i) × (i < first + n)
within first zero i h = absurd h
within first (suc n) i h =
    elim h [
      | inl same ↦ (omega (arith, same), omega (arith, same))
      | inr later ↦ let is = within (first + 1) n i later in (omega (arith, is.0), omega (arith, is.1))
    ]

has_within : (first n i : ℕ) → first ≤ i → i < first + n → Has i (range_with_len first n)
has_within first zero i low high = absurd (omega (arith, low, high))
has_within first (suc n) i low high =
    elim (nat_lt first i) as (λ t. nat_lt first i ≡ t → Has i (range_with_len first (suc n))) [
      | true ↦ λ above. inr (has_within (first + 1) n i (let more : first < i = ltb-true first i above in omega (arith, more)) (omega (arith, high)))
      | false ↦ λ above. inl (let same : i ≤ first = ltb-false first i above in omega (arith, same, low))
    ] refl

none_is : (o : Option Action) → is_none o ≡ true → o ≡ None
none_is None is = refl
none_is (Some v) is = absurd cc

module _ (most i : ℕ) (records : List Rec) where
  abbrev first : ℕ
  first = first_unlearned records

  fewer : (low : first ≤ i) → i < first + min window (suc most - first) → (i < first + window) × (i ≤ most)
  fewer low high = (omega (arith, low, high), omega (arith, low, high))

  fits : (low : first ≤ i) → i < first + window → i ≤ most → i < first + min window (suc most - first)
  fits low high in_log = omega (arith, low, high, in_log)

  pub is_missing : Has i (missing_in_window most records) ↔ (first ≤ i) × (i < first + window) × (i ≤ most) × (learned_at records i ≡ None)
  is_missing = (
    (λ h.
        let both = has_passing (λ k. is_none (learned_at records k)) i (range_with_len first (min window (suc most - first))) h in
        let inside = within first (min window (suc most - first)) i both.0 in
        let far = fewer inside.0 inside.1 in
        (inside.0, far.0, far.1, none_is (learned_at records i) both.1)),
    (λ so. passes (λ k. is_none (learned_at records k)) i (range_with_len first (min window (suc most - first)))
        (has_within first (min window (suc most - first)) i so.0 (fits so.0 so.1 so.2)) (ap is_none so.3)),
  )
