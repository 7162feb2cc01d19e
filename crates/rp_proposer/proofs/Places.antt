-- Where a proposal is, and what a change of it makes of all.
use Rattle.std.proofs.Common.{◌≡◌, ℕ, suc, ◌+◌, ◌<◌, true, false, Option, Some, None, List, [], ◌∷◌, ◌++◌, length, set, inl, inr, refl, sym, ap, subst, cond, ◌∙◌, arith}
use Rattle.std.specs.Prelude.{slice_get, slice_index_or, remove, drop, option_map, map, unwrap_or}
use Rattle.std.proofs.lemmas.Option.{slice_get_read}
use Rattle.std.proofs.lemmas.Bool.{eq-eqb, ne_eqb}
use Rattle.std.proofs.lemmas.Bool.Decides.{eqb_tells}
use Rattle.rp_base.specs.declared.action.Action.{Action}
use Rattle.rp_base.specs.Promises.{Promise}
use Rattle.rp_base.specs.Sets.{Has, IsSet}
use Rattle.rp_base.specs.Proposals.{Proposal, proposal_at, without_proposal, with_proposal, after_promise, takes_promise, is_promised, with_promise, is_prepared, as_offered}
use Rattle.rp_base.specs.declared.proposal.Phase.TheVariants.{Offering}
use Rattle.rp_proposer.specs.Proposing.{index_from, once_noted, once_offered}

-- a proposal is there, and another in its place is put there
pub record IsFound (proposals : List Proposal) (i n : ℕ) (p : Proposal) : Type 0 where
  pub within : n < length proposals
  pub at : slice_get proposals n ≡ Some p
  pub place : p.position ≡ i
  pub runs : proposal_at proposals i ≡ Some p
  pub put : (q : Proposal) → q.position ≡ i → with_proposal proposals q ≡ set proposals n q

index_found : (proposals : List Proposal) (k j i : ℕ) → index_from k i proposals ≡ Some j → (n : ℕ) × (p : Proposal) × (j ≡ k + n) × IsFound proposals i n p
index_found [] k j i h = absurd (cc)
index_found (p ∷ proposals) k j i h =
    elim (eqb_tells p.position i) [
      | inl same ↦
          let is : Some k ≡ Some j = rw same.0 at h in
          let here : k ≡ j = cc in (
            0,
            p,
            omega (arith, here),
            record {
              within = omega arith;
              at = refl;
              place = same.1;
              runs = rw same.0;
              put = λ q e. ap (λ t. cond t (q ∷ proposals) (p ∷ with_proposal proposals q)) (eq-eqb p.position q.position (same.1 ∙ sym e));
            },
          )
      | inr other ↦
          let rest = index_found proposals (suc k) j i (rw other.0 at h) in (
            suc rest.0,
            rest.1,
            omega (arith, rest.2),
            record {
              within = omega (arith, rest.3.within);
              at = rest.3.at;
              place = rest.3.place;
              runs = rw other.0 rest.3.runs;
              put = λ q e.
                  ap (λ t. cond t (q ∷ proposals) (p ∷ with_proposal proposals q)) (ne_eqb p.position q.position (λ same. other.1 (same ∙ e)))
                  ∙ ap (λ (l : List Proposal). p ∷ l) (rest.3.put q e);
            },
          )
    ]

pub index_at : (proposals : List Proposal) (j i : ℕ) → index_from 0 i proposals ≡ Some j → (p : Proposal) × IsFound proposals i j p
index_at proposals j i h =
    let hit = index_found proposals 0 j i h in
    let same : hit.0 ≡ j = omega (arith, hit.2) in
    (hit.1, subst (λ (n : ℕ). IsFound proposals i n hit.1) same hit.3)

-- what is read at the index is the proposal there
pub read_at : (proposals : List Proposal) (j i : ℕ) (now : Proposal) → index_from 0 i proposals ≡ Some j → now ≡ slice_index_or proposals j now → IsFound proposals i j now
read_at proposals j i now h is =
    let found = index_at proposals j i h in
    let at : slice_get proposals j ≡ Some now = slice_get_read proposals (length proposals) j now refl found.1.within is in
    let same : now ≡ found.0 = ap (λ (o : Option Proposal). unwrap_or o found.0) (sym at ∙ found.1.at) in
    subst (λ (p : Proposal). IsFound proposals i j p) (sym same) found.1

-- no proposal is there, and one that is put there is after the others
pub record IsAbsent (proposals : List Proposal) (i : ℕ) : Type 0 where
  pub none : proposal_at proposals i ≡ None
  pub others : without_proposal proposals i ≡ proposals
  pub put : (q : Proposal) → q.position ≡ i → with_proposal proposals q ≡ proposals ++ q ∷ []

pub index_none : (proposals : List Proposal) (k i : ℕ) → index_from k i proposals ≡ None → IsAbsent proposals i
index_none [] k i h = record { none = refl; others = refl; put = λ q e. refl }
index_none (p ∷ proposals) k i h =
    elim (eqb_tells p.position i) [
      | inl same ↦ let is : Some k ≡ None = rw same.0 at h in absurd (cc)
      | inr other ↦
          let rest = index_none proposals (suc k) i (rw other.0 at h) in
          record {
            none = rw other.0 rest.none;
            others = rw other.0 (ap (λ (l : List Proposal). p ∷ l) rest.others);
            put = λ q e.
                ap (λ t. cond t (q ∷ proposals) (p ∷ with_proposal proposals q)) (ne_eqb p.position q.position (λ same. other.1 (same ∙ e)))
                ∙ ap (λ (l : List Proposal). p ∷ l) (rest.put q e);
          }
    ]

-- the index where the first has another number
shifted : (ps : List Proposal) (d k i : ℕ) → index_from (d + k) i ps ≡ option_map (λ n. d + n) (index_from k i ps)
shifted [] d k i = refl
shifted (p ∷ ps) d k i =
    elim (eqb_tells p.position i) [
      | inl same ↦ rw same.0
      | inr other ↦
          let next : suc (d + k) ≡ d + suc k = omega arith in
          rw other.0 (ap (λ (n : ℕ). index_from n i ps) next ∙ shifted ps d (suc k) i)
    ]

-- among the first of two lists, if it is there
pub index_front : (xs ys : List Proposal) (k j i : ℕ) → index_from k i xs ≡ Some j → index_from k i (xs ++ ys) ≡ Some j
index_front [] ys k j i h = absurd (cc)
index_front (p ∷ xs) ys k j i h =
    elim (eqb_tells p.position i) [
      | inl same ↦ rw same.0 (rw same.0 at h)
      | inr other ↦ rw other.0 (index_front xs ys (suc k) j i (rw other.0 at h))
    ]

index_after : (xs ys : List Proposal) (k i : ℕ) → index_from k i xs ≡ None → index_from k i (xs ++ ys) ≡ index_from (length xs + k) i ys
index_after [] ys k i h = let none : k ≡ length {A = Proposal} [] + k = omega arith in ap (λ (n : ℕ). index_from n i ys) none
index_after (p ∷ xs) ys k i h =
    elim (eqb_tells p.position i) [
      | inl same ↦ let is : Some k ≡ None = rw same.0 at h in absurd (cc)
      | inr other ↦
          let next : length xs + suc k ≡ suc (length xs) + k = omega arith in
          rw other.0 (index_after xs ys (suc k) i (rw other.0 at h) ∙ ap (λ (n : ℕ). index_from n i ys) next)
    ]

-- else where it is among the second, if it is there
pub index_back : (xs ys : List Proposal) (i : ℕ) → index_from 0 i xs ≡ None → index_from 0 i (xs ++ ys) ≡ option_map (λ n. length xs + n) (index_from 0 i ys)
index_back xs ys i h = index_after xs ys 0 i h ∙ shifted ys (length xs) 0 i

none_elsewhere : (ps : List Proposal) (i : ℕ) → ¬ (Has i (map (λ p. p.position) ps)) → without_proposal ps i ≡ ps
none_elsewhere [] i h = refl
none_elsewhere (p ∷ ps) i h =
    let other = ne_eqb p.position i (λ same. h (inl (sym same))) in
    rw other (ap (λ (l : List Proposal). p ∷ l) (none_elsewhere ps i (λ there. h (inr there))))

removed : (ps : List Proposal) (k j n i : ℕ) → index_from k i ps ≡ Some j → j ≡ k + n → IsSet (map (λ p. p.position) ps) → remove ps n ≡ without_proposal ps i
removed [] k j n i h e apart = absurd (cc)
removed (p ∷ ps) k j n i h e apart =
    elim (eqb_tells p.position i) [
      | inl same ↦
          let is : Some k ≡ Some j = rw same.0 at h in
          let here : k ≡ j = cc in
          let first : 0 ≡ n = omega (arith, here, e) in
          let none = none_elsewhere ps i (λ there. apart.0 (subst (λ (m : ℕ). Has m (map (λ (q : Proposal). q.position) ps)) (sym same.1) there)) in
          rw same.0 (subst (λ (m : ℕ). remove (p ∷ ps) m ≡ without_proposal ps i) first (sym none))
      | inr other ↦
          let next = rw other.0 at h in
          let hit = index_found ps (suc k) j i next in
          let many : suc hit.0 ≡ n = omega (arith, e, hit.2) in
          rw other.0 (subst (λ (m : ℕ). remove (p ∷ ps) m ≡ p ∷ without_proposal ps i) many (ap (λ (l : List Proposal). p ∷ l) (removed ps (suc k) j hit.0 i next hit.2 apart.1)))
    ]

-- with its index taken out, those at other positions are left
pub left_out : (ps : List Proposal) (n i : ℕ) → index_from 0 i ps ≡ Some n → IsSet (map (λ p. p.position) ps) → remove ps n ≡ without_proposal ps i
left_out ps n i h apart = let same : n ≡ 0 + n = omega arith in removed ps 0 n n i h same apart

-- the first is taken out where the others are left
pub first_out : (ps : List Proposal) → remove ps 0 ≡ drop 1 ps
first_out [] = refl
first_out (p ∷ ps) = refl

stays_there : (nodes : ℕ) (p : Proposal) (promise : Promise) → (after_promise nodes p promise).position ≡ p.position
stays_there nodes p promise = elim (is_promised nodes (with_promise p promise)) as (λ t. (cond t (record (with_promise p promise) { phase = Offering }) (with_promise p promise)).position ≡ p.position) [ true ↦ refl | false ↦ refl ]

pub noted_there : (nodes b : ℕ) (p : Proposal) (promise : Promise) → (once_noted nodes b p promise).position ≡ p.position
noted_there nodes b p promise =
    elim (takes_promise b p) as (λ t. (cond t (after_promise nodes p promise) p).position ≡ p.position) [ true ↦ stays_there nodes p promise | false ↦ refl ]

pub offered_there : (nodes : ℕ) (own : Action) (p : Proposal) → (once_offered nodes own p).position ≡ p.position
offered_there nodes own p =
    elim (is_prepared nodes p) as (λ t. (cond t (as_offered own p) p).position ≡ p.position) [ true ↦ refl | false ↦ refl ]
