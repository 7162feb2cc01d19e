-- The ballots of a round: what lies below them, and the next one of a node.
use Rattle.std.proofs.Common.{◌≡◌, ℕ, suc, ◌*◌, ◌<◌, ◌≤◌, Bool, true, false, cond, List, [], ◌∷◌, ◌⊎◌, inl, inr, refl, arith}
use Rattle.std.specs.Prelude.{nat_eq}
use Rattle.std.proofs.lemmas.Bool.{cases_lt}
use Rattle.rp_base.specs.Ballot.{ballot_of, round_of, owner_of, next_ballot}
use Rattle.rp_base.specs.Number.{IsNode}
use Rattle.rp_base.specs.Ranges.{is_covered}
use Rattle.rp_base.specs.declared.record.Rec.{Rec}
use Rattle.rp_base.specs.declared.record.Rec.TheVariants.{Started, Promised, Voted, Learned, PromisedRange}
use Rattle.rp_base.specs.Records.{started_in, started_of, bound_in, bound_at}
use Rattle.rp_possible.specs.Rounds.{round_on, AreWithinRound}

-- ---- the records of a round lie below the ballots of the next one

below_next : (round b : ℕ) → round_of b ≤ round → b < 8 * suc round
below_next round b within = omega (arith, within)

pub next_above : (round b : ℕ) → b < 8 * suc round → round_of b ≤ round
next_above round b below = omega (arith, below)

positive : (round : ℕ) → 0 < 8 * suc round
positive round = omega arith

low_if : (round : ℕ) (test : Bool) (b : ℕ) → round_of b ≤ round → cond test b 0 < 8 * suc round
low_if round true b within = below_next round b within
low_if round false b within = positive round

bound_low : (round i : ℕ) (rec : Rec) → round_on rec ≤ round → bound_in i rec < 8 * suc round
bound_low round i (Started ballot) within = positive round
bound_low round i (Promised position ballot) within = low_if round (nat_eq position i) ballot within
bound_low round i (Voted position ballot action) within = low_if round (nat_eq position i) ballot within
bound_low round i (Learned position action) within = positive round
bound_low round i (PromisedRange range ballot) within = low_if round (is_covered range i) ballot within

started_low : (round : ℕ) (rec : Rec) → round_on rec ≤ round → started_in rec < 8 * suc round
started_low round (Started ballot) within = below_next round ballot within
started_low round (Promised position ballot) within = positive round
started_low round (Voted position ballot action) within = positive round
started_low round (Learned position action) within = positive round
started_low round (PromisedRange range ballot) within = positive round

pub bounds_low : (round i : ℕ) (records : List Rec) → AreWithinRound round records → bound_at records i < 8 * suc round
bounds_low round i [] within = positive round
bounds_low round i (rec ∷ rest) within =
    let here : bound_in i rec < 8 * suc round = bound_low round i rec (within rec (inl refl)) in
    let later : bound_at rest i < 8 * suc round = bounds_low round i rest (λ other h. within other (inr h)) in
    omega (arith, here, later)

pub starts_low : (round : ℕ) (records : List Rec) → AreWithinRound round records → started_of records < 8 * suc round
starts_low round [] within = positive round
starts_low round (rec ∷ rest) within =
    let here : started_in rec < 8 * suc round = started_low round rec (within rec (inl refl)) in
    let later : started_of rest < 8 * suc round = starts_low round rest (λ other h. within other (inr h)) in
    omega (arith, here, later)

-- ---- the next ballot

module _ (x floor : ℕ) (node : IsNode x) where
  pub next_is_above : floor < next_ballot x floor
  next_is_above = omega (arith, node.0, node.1)

  pub next_owned : owner_of (next_ballot x floor) ≡ x
  next_owned = omega (arith, node.0, node.1)

  -- it is of the next round at most, and is the one of that round or lies below
  pub next_in_round : (round : ℕ) → floor < 8 * suc round → (next_ballot x floor ≡ ballot_of (suc round) x) ⊎ (next_ballot x floor < 8 * suc round)
  next_in_round round low =
      elim (cases_lt (next_ballot x floor) (8 * suc round)) [
        | inl below ↦ inr below
        | inr high ↦ inl (omega (arith, high, low, node.0, node.1))
      ]

  pub next_low : (round : ℕ) → floor < 8 * suc round → round_of (next_ballot x floor) ≤ suc round
  next_low round low = omega (arith, low, node.0, node.1)

pub is_of_round : (round x : ℕ) → IsNode x → round_of (ballot_of round x) ≡ round
is_of_round round x node = omega (arith, node.0, node.1)

pub is_owned : (round x : ℕ) → IsNode x → owner_of (ballot_of round x) ≡ x
is_owned round x node = omega (arith, node.0, node.1)
