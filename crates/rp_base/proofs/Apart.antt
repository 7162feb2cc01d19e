-- The proposals that run at a node lie at different positions, with one put in place or taken out.
use Rattle.std.proofs.Common.{◌≡◌, ℕ, Bool, true, false, List, [], ◌∷◌, map, ◌⊎◌, inl, inr, sym, ap, subst, refl, ◌∙◌}
use Rattle.std.specs.Prelude.{nat_eq, not, filter, ◌&&◌, if◌then◌else◌}
use Rattle.std.proofs.lemmas.Bool.{cases_Bool, cond-true, cond-false, eqb-true, eqb-false}
use Rattle.rp_base.specs.Sets.{Has, IsSet}
use Rattle.rp_base.specs.Proposals.{Proposal, with_proposal, without_proposal, with_range, range_proposal, once_promised, takes_range_promise, with_promise}
use Rattle.rp_base.specs.PlacedVotes.{placed_at}
use Rattle.rp_base.specs.Ranges.{Range, is_covered}
use Rattle.rp_base.specs.declared.placed.PlacedVote.{PlacedVote}

-- where each runs
abbrev pub positions_of : List Proposal → List ℕ
positions_of proposals = map (λ p. p.position) proposals

position_or_new : (i : ℕ) (p : Proposal) (proposals : List Proposal) → Has i (positions_of (with_proposal proposals p)) → Has i (positions_of proposals) ⊎ (i ≡ p.position)
position_or_new i p [] h = elim h [ inl e ↦ inr e | inr none ↦ absurd none ]
position_or_new i p (r ∷ rest) h =
    elim (cases_Bool (nat_eq r.position p.position)) [
      | inl here ↦ elim (subst (λ (ps : List Proposal). Has i (positions_of ps)) (cond-true (nat_eq r.position p.position) (p ∷ rest) (r ∷ with_proposal rest p) here) h) [
        | inl e ↦ inr e
        | inr later ↦ inl (inr later)
      ]
      | inr elsewhere ↦ elim (subst (λ (ps : List Proposal). Has i (positions_of ps)) (cond-false (nat_eq r.position p.position) (p ∷ rest) (r ∷ with_proposal rest p) elsewhere) h) [
        | inl e ↦ inl (inl e)
        | inr later ↦ elim (position_or_new i p rest later) [ inl old ↦ inl (inr old) | inr new ↦ inr new ]
      ]
    ]

-- they stay apart
pub with_apart : (p : Proposal) (proposals : List Proposal) → IsSet (positions_of proposals) → IsSet (positions_of (with_proposal proposals p))
with_apart p [] apart = (λ h. h, tt)
with_apart p (r ∷ rest) apart =
    elim (cases_Bool (nat_eq r.position p.position)) [
      | inl here ↦ subst (λ (ps : List Proposal). IsSet (positions_of ps)) (sym (cond-true (nat_eq r.position p.position) (p ∷ rest) (r ∷ with_proposal rest p) here))
          (λ h. apart.0 (subst (λ (i : ℕ). Has i (positions_of rest)) (sym (eqb-true r.position p.position here)) h), apart.1)
      | inr elsewhere ↦ subst (λ (ps : List Proposal). IsSet (positions_of ps)) (sym (cond-false (nat_eq r.position p.position) (p ∷ rest) (r ∷ with_proposal rest p) elsewhere)) (
        λ h. elim (position_or_new r.position p rest h) [ inl old ↦ apart.0 old | inr same ↦ eqb-false r.position p.position elsewhere same ],
        with_apart p rest apart.1,
      )
    ]

position_passing : (test : Proposal → Bool) (i : ℕ) (proposals : List Proposal) → Has i (positions_of (filter test proposals)) → Has i (positions_of proposals)
position_passing test i [] h = h
position_passing test i (r ∷ rest) h =
    elim (cases_Bool (test r)) [
      | inl hit ↦ elim (subst (λ (ps : List Proposal). Has i (positions_of ps)) (cond-true (test r) (r ∷ filter test rest) (filter test rest) hit) h) [
        | inl e ↦ inl e
        | inr later ↦ inr (position_passing test i rest later)
      ]
      | inr miss ↦ inr (position_passing test i rest (subst (λ (ps : List Proposal). Has i (positions_of ps)) (cond-false (test r) (r ∷ filter test rest) (filter test rest) miss) h))
    ]

pub passing_apart : (test : Proposal → Bool) (proposals : List Proposal) → IsSet (positions_of proposals) → IsSet (positions_of (filter test proposals))
passing_apart test [] apart = tt
passing_apart test (r ∷ rest) apart =
    elim (cases_Bool (test r)) [
      | inl hit ↦ subst (λ (ps : List Proposal). IsSet (positions_of ps)) (sym (cond-true (test r) (r ∷ filter test rest) (filter test rest) hit))
          (λ h. apart.0 (position_passing test r.position rest h), passing_apart test rest apart.1)
      | inr miss ↦ subst (λ (ps : List Proposal). IsSet (positions_of ps)) (sym (cond-false (test r) (r ∷ filter test rest) (filter test rest) miss)) (passing_apart test rest apart.1)
    ]

pub without_apart : (i : ℕ) (proposals : List Proposal) → IsSet (positions_of proposals) → IsSet (positions_of (without_proposal proposals i))
without_apart i proposals apart = passing_apart (λ p. not (nat_eq p.position i)) proposals apart

-- with those of a range
pub range_apart : (proposals : List Proposal) (b : ℕ) (positions : List ℕ) → IsSet (positions_of proposals) → IsSet (positions_of (with_range proposals b positions))
range_apart proposals b [] apart = apart
range_apart proposals b (i ∷ rest) apart = range_apart (with_proposal proposals (range_proposal b i)) b rest (with_apart (range_proposal b i) proposals apart)

-- what changes each in its place changes no position
pub positions_stay : (change : Proposal → Proposal) → ((p : Proposal) → (change p).position ≡ p.position) → (proposals : List Proposal) → positions_of (map change proposals) ≡ positions_of proposals
positions_stay change stays [] = refl
positions_stay change stays (p ∷ rest) = ap (λ (i : ℕ). i ∷ positions_of (map change rest)) (stays p) ∙ ap (λ (is : List ℕ). p.position ∷ is) (positions_stay change stays rest)

-- a proposal once a promise for a range is noted is where it was
pub promised_there : (nodes from : ℕ) (range : Range) (b : ℕ) (votes : List PlacedVote) (p : Proposal) → (once_promised nodes from range b votes p).position ≡ p.position
promised_there nodes from range b votes p =
    elim (is_covered range p.position && takes_range_promise nodes b p)
    as (λ t. (let q : Proposal = if t then with_promise p (from, placed_at votes p.position) else p in q).position ≡ p.position) [ true ↦ refl | false ↦ refl ]
