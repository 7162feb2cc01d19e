-- The least free position: it is free, and where it is found.
use Rattle.std.proofs.Common.{◌≡◌, ℕ, zero, suc, ◌+◌, ◌-◌, ◌<◌, ◌≤◌, Bool, true, false, ◌&&◌, ◌||◌, cond, nat_eq, is_none, Option, Some, None, is_some, List, [], ◌∷◌, length, ◌⊎◌, inl, inr, refl, sym, ap, subst, ◌∙◌, arith, eqb-true, eq-eqb}
use Rattle.std.specs.List.{list_any}
use Rattle.std.specs.Prelude.{IsSome, nat_le, nat_lt, min, option_map}
use Rattle.std.proofs.lemmas.Bool.{cases_lt, lt-ltb, le-leb, le-ltb, lt-leb}
use Rattle.std.proofs.lemmas.Map.Steps.{le-length_from_below}
use Rattle.rp_base.specs.declared.action.Action.{Action}
use Rattle.rp_base.specs.declared.record.Rec.{Rec}
use Rattle.rp_base.specs.declared.record.Rec.TheVariants.{Started, Promised, Voted, Learned, PromisedRange}
use Rattle.rp_base.specs.Records.{or_else, learned_at, first_unlearned}
use Rattle.rp_log.specs.Contents.{Contents, IsLearned}
use Rattle.rp_log.specs.Recorded.{LearnedAlike}
use Rattle.rp_base.specs.Promises.{highest_vote}
use Rattle.rp_base.specs.Proposals.{Proposal, proposal_at, is_prepared}
use Rattle.rp_proposer.specs.Proposing.{prepared_by}
use Rattle.rp_proposer.specs.Rows.{IsBusy}
use Rattle.rp_model.specs.Leader.{is_ready, is_free_position, free_from, least_free, is_out_of_reach}

-- ---- no more positions are taken than there are records and proposals

-- the positions of the proposals and those that the records learn at, less 1
run_spots : List Proposal → List ℕ
run_spots [] = []
run_spots (p ∷ rest) = (p.position - 1) ∷ run_spots rest

spots : List Rec → List Proposal → List ℕ
spots [] proposals = run_spots proposals
spots (Started ballot ∷ rest) proposals = spots rest proposals
spots (Promised position ballot ∷ rest) proposals = spots rest proposals
spots (Voted position ballot action ∷ rest) proposals = spots rest proposals
spots (Learned position action ∷ rest) proposals = (position - 1) ∷ spots rest proposals
spots (PromisedRange range ballot ∷ rest) proposals = spots rest proposals

length-run_spots : (proposals : List Proposal) → length (run_spots proposals) ≡ length proposals
unfolding run_spots
length-run_spots [] = refl
length-run_spots (p ∷ rest) = ap suc (length-run_spots rest)

length-spots : (records : List Rec) (proposals : List Proposal) → length (spots records proposals) ≤ length records + length proposals
unfolding spots
length-spots [] proposals = let h = length-run_spots proposals in omega arith
length-spots (Started ballot ∷ rest) proposals = let h = length-spots rest proposals in omega arith
length-spots (Promised position ballot ∷ rest) proposals = let h = length-spots rest proposals in omega arith
length-spots (Voted position ballot action ∷ rest) proposals = let h = length-spots rest proposals in omega arith
length-spots (Learned position action ∷ rest) proposals = let h = length-spots rest proposals in omega arith
length-spots (PromisedRange range ballot ∷ rest) proposals = let h = length-spots rest proposals in omega arith

or_true : (b : Bool) → (b || true) ≡ true
or_true true = refl
or_true false = refl

run_here : (nodes : ℕ) (p : Proposal) (rest : List Proposal) (q : ℕ) (here : Bool) → nat_eq p.position (suc q) ≡ here → (is_ready nodes (proposal_at rest (suc q)) ≡ false → list_any (nat_eq q) (run_spots rest) ≡ true)
    → is_ready nodes (cond here (Some p) (proposal_at rest (suc q))) ≡ false → list_any (nat_eq q) (run_spots (p ∷ rest)) ≡ true
unfolding run_spots
run_here nodes p rest q true at later e =
    let same : p.position ≡ suc q = eqb-true p.position (suc q) at in
    let spot : q ≡ p.position - 1 = omega arith in
    ap (λ b. b || list_any (nat_eq q) (run_spots rest)) (eq-eqb q (p.position - 1) spot)
run_here nodes p rest q false at later e = ap (λ b. nat_eq q (p.position - 1) || b) (later e) ∙ or_true (nat_eq q (p.position - 1))

run_spot : (nodes : ℕ) (proposals : List Proposal) (q : ℕ) → is_ready nodes (proposal_at proposals (suc q)) ≡ false → list_any (nat_eq q) (run_spots proposals) ≡ true
run_spot nodes [] q e = absurd cc
run_spot nodes (p ∷ rest) q e = run_here nodes p rest q (nat_eq p.position (suc q)) refl (run_spot nodes rest q) e

learned_here : (nodes i : ℕ) (v : Action) (rest : List Rec) (proposals : List Proposal) (q : ℕ) (here : Bool) → nat_eq i (suc q) ≡ here
    → (is_free_position nodes rest proposals (suc q) ≡ false → list_any (nat_eq q) (spots rest proposals) ≡ true)
    → (is_none (or_else (cond here (Some v) None) (learned_at rest (suc q))) && is_ready nodes (proposal_at proposals (suc q))) ≡ false → list_any (nat_eq q) (spots (Learned i v ∷ rest) proposals) ≡ true
unfolding spots
learned_here nodes i v rest proposals q true at later e =
    let same : i ≡ suc q = eqb-true i (suc q) at in
    let spot : q ≡ i - 1 = omega arith in
    ap (λ b. b || list_any (nat_eq q) (spots rest proposals)) (eq-eqb q (i - 1) spot)
learned_here nodes i v rest proposals q false at later e = ap (λ b. nat_eq q (i - 1) || b) (later e) ∙ or_true (nat_eq q (i - 1))

-- a position that is not free is one of them
is_spot : (nodes : ℕ) (records : List Rec) (proposals : List Proposal) (q : ℕ) → is_free_position nodes records proposals (suc q) ≡ false → list_any (nat_eq q) (spots records proposals) ≡ true
unfolding spots
is_spot nodes [] proposals q e = run_spot nodes proposals q e
is_spot nodes (Started ballot ∷ rest) proposals q e = is_spot nodes rest proposals q e
is_spot nodes (Promised position ballot ∷ rest) proposals q e = is_spot nodes rest proposals q e
is_spot nodes (Voted position ballot action ∷ rest) proposals q e = is_spot nodes rest proposals q e
is_spot nodes (Learned position action ∷ rest) proposals q e = learned_here nodes position action rest proposals q (nat_eq position (suc q)) refl (is_spot nodes rest proposals q) e
is_spot nodes (PromisedRange range ballot ∷ rest) proposals q e = is_spot nodes rest proposals q e

-- none of these positions is free
abbrev pub NoneFree : ℕ → List Rec → List Proposal → ℕ → ℕ → Type 0
NoneFree nodes records proposals first end = (j : ℕ) → first ≤ j → j < end → is_free_position nodes records proposals j ≡ false

-- n positions from 1 on are taken at most
few_taken : (nodes : ℕ) (records : List Rec) (proposals : List Proposal) (n : ℕ) → NoneFree nodes records proposals 1 (suc n) → n ≤ length records + length proposals
few_taken nodes records proposals n none =
    let few : n ≤ length (spots records proposals) = le-length_from_below (spots records proposals) n (λ q within. is_spot nodes records proposals q (none (suc q) (omega arith) (omega arith))) in
    omega (arith, length-spots records proposals)

-- ---- out of reach

pub out_by : (records : List Rec) (most i : ℕ) → (most < i) ⊎ (first_unlearned records + 64 ≤ i) → is_out_of_reach most records i ≡ true
out_by records most i (inl above) = ap (λ (b : Bool). b || nat_le (first_unlearned records + 64) i) (lt-ltb most i above)
out_by records most i (inr far) = ap (λ (b : Bool). nat_lt most i || b) (le-leb (first_unlearned records + 64) i far) ∙ or_true (nat_lt most i)

-- the position after one that is out of reach is out of reach
pub goes_on_out : (records : List Rec) (most i : ℕ) → is_out_of_reach most records i ≡ true → is_out_of_reach most records (i + 1) ≡ true
goes_on_out records most i out = elim (cases_lt most i) [
  | inl above ↦ out_by records most (i + 1) (inl (omega arith))
  | inr within ↦ elim (cases_lt i (first_unlearned records + 64)) [
    | inl near ↦ absurd (apart (sym out ∙ ap (λ (b : Bool). b || nat_le (first_unlearned records + 64) i) (le-ltb most i within) ∙ lt-leb (first_unlearned records + 64) i near))
    | inr far ↦ out_by records most (i + 1) (inr (omega (arith, far)))
  ]
]
  where
    apart : true ≡ false → ⊥
    apart e = cc

-- ---- the search

module _ (nodes : ℕ) (records : List Rec) (proposals : List Proposal) where
  -- it passes those that are not free
  passes : (most k i : ℕ) → k ≤ most → NoneFree nodes records proposals i (i + k) → free_from nodes records proposals most i ≡ free_from nodes records proposals (most - k) (i + k)
  passes most zero i within none =
      let all : most ≡ most - 0 = omega arith in
      let here : i ≡ i + 0 = omega arith in
      ap (λ (m : ℕ). free_from nodes records proposals m i) all ∙ ap (free_from nodes records proposals (most - 0)) here
  passes zero (suc k) i within none = absurd (omega arith)
  passes (suc most) (suc k) i within none =
      let taken : is_free_position nodes records proposals i ≡ false = none i (omega arith) (omega arith) in
      let left : most - k ≡ suc most - suc k = omega arith in
      let there : suc i + k ≡ i + suc k = omega arith in
      ap (λ (b : Bool). cond b i (free_from nodes records proposals most (suc i))) taken
      ∙ passes most k (suc i) (omega arith) (λ j low high. none j (omega arith) (omega (arith, there)))
      ∙ ap (λ (m : ℕ). free_from nodes records proposals m (suc i + k)) left ∙ ap (free_from nodes records proposals (suc most - suc k)) there

  -- it stops at one that is free
  stops : (most i : ℕ) → is_free_position nodes records proposals i ≡ true → free_from nodes records proposals most i ≡ i
  stops zero i free = refl
  stops (suc most) i free = ap (λ (b : Bool). cond b i (free_from nodes records proposals most (suc i))) free

  -- it finds no lower position than where it begins
  starts : (most i : ℕ) → i ≤ free_from nodes records proposals most i
  starts zero i = omega arith
  starts (suc most) i = by (is_free_position nodes records proposals i) (starts most (suc i))
    where
      by : (b : Bool) → suc i ≤ free_from nodes records proposals most (suc i) → i ≤ cond b i (free_from nodes records proposals most (suc i))
      by true rest = omega arith
      by false rest = omega (arith, rest)

  -- the first free position is the least one
  pub least_is : (i : ℕ) → 1 ≤ i → NoneFree nodes records proposals 1 i → is_free_position nodes records proposals i ≡ true → i ≡ least_free nodes records proposals
  least_is i low none free =
      let most = length records + length proposals in
      let k = i - 1 in
      let end : suc k ≡ i = omega arith in
      let there : 1 + k ≡ i = omega arith in
      let enough : k ≤ most = few_taken nodes records proposals k (λ j least below. none j least (omega (arith, end))) in
      sym (passes most k 1 enough (λ j least below. none j least (omega (arith, there)))
      ∙ ap (free_from nodes records proposals (most - k)) there ∙ stops (most - k) i free)

  -- it ends at a free position, or passes all
  ends : (most i : ℕ) → (is_free_position nodes records proposals (free_from nodes records proposals most i) ≡ true) ⊎ ((free_from nodes records proposals most i ≡ i + most) × NoneFree nodes records proposals i (i + most))
  ends zero i = inr (omega arith, λ j low high. absurd (omega arith))
  ends (suc most) i = by (is_free_position nodes records proposals i) refl (ends most (suc i))
    where
      by : (b : Bool) → is_free_position nodes records proposals i ≡ b
          → (is_free_position nodes records proposals (free_from nodes records proposals most (suc i)) ≡ true) ⊎ ((free_from nodes records proposals most (suc i) ≡ suc i + most) × NoneFree nodes records proposals (suc i) (suc i + most))
          → (is_free_position nodes records proposals (cond b i (free_from nodes records proposals most (suc i))) ≡ true) ⊎ ((cond b i (free_from nodes records proposals most (suc i)) ≡ i + suc most) × NoneFree nodes records proposals i (i + suc most))
      by true free rest = inl free
      by false taken (inl free) = inl free
      by false taken (inr (at, none)) = inr (
        omega (arith, at),
        λ j low high. elim (cases_lt i j) [
          | inl above ↦ none j (omega arith) (omega arith)
          | inr past ↦ let same : i ≡ j = omega arith in subst (λ (p : ℕ). is_free_position nodes records proposals p ≡ false) same taken
        ],
      )

  -- the least free position is free
  pub least_free_is_free : is_free_position nodes records proposals (least_free nodes records proposals) ≡ true
  least_free_is_free =
      let most = length records + length proposals in
      elim (ends most 1) [
        | inl free ↦ free
        | inr passed ↦ by most (is_free_position nodes records proposals (1 + most)) refl passed.0 passed.1 (omega arith)
      ]
    where
      by : (most : ℕ) (b : Bool) → is_free_position nodes records proposals (1 + most) ≡ b → least_free nodes records proposals ≡ 1 + most → NoneFree nodes records proposals 1 (1 + most) → most ≡ length records + length proposals
          → is_free_position nodes records proposals (least_free nodes records proposals) ≡ true
      by most true free at none is = ap (is_free_position nodes records proposals) at ∙ free
      by most false taken at none is =
          let many : suc most ≤ length records + length proposals = few_taken nodes records proposals (suc most) (λ j low high. elim (cases_lt j (1 + most)) [
            | inl below ↦ none j low below
            | inr past ↦ let same : 1 + most ≡ j = omega arith in subst (λ (p : ℕ). is_free_position nodes records proposals p ≡ false) same taken
          ]) in
          absurd (omega (arith, many, is))

  -- none below where it ends is free
  taken_below : (most i j : ℕ) → i ≤ j → j < free_from nodes records proposals most i → is_free_position nodes records proposals j ≡ false
  taken_below zero i j low below = absurd (omega arith)
  taken_below (suc most) i j low below = by (is_free_position nodes records proposals i) refl (taken_below most (suc i) j) below
    where
      by : (b : Bool) → is_free_position nodes records proposals i ≡ b
          → (suc i ≤ j → j < free_from nodes records proposals most (suc i) → is_free_position nodes records proposals j ≡ false)
          → j < cond b i (free_from nodes records proposals most (suc i)) → is_free_position nodes records proposals j ≡ false
      by true free later below = absurd (omega arith)
      by false taken later below = elim (cases_lt i j) [
        | inl above ↦ later (omega arith) below
        | inr past ↦ let same : i ≡ j = omega arith in subst (λ (p : ℕ). is_free_position nodes records proposals p ≡ false) same taken
      ]

  pub none_is_below : (j : ℕ) → 1 ≤ j → j < least_free nodes records proposals → is_free_position nodes records proposals j ≡ false
  none_is_below j low below = taken_below (length records + length proposals) 1 j low below

  pub least_is_positive : 1 ≤ least_free nodes records proposals
  least_is_positive = starts (length records + length proposals) 1

  -- it lies after positions of which none is free
  pub least_is_after : (end : ℕ) → NoneFree nodes records proposals 1 end → end ≤ least_free nodes records proposals
  least_is_after end none = elim (cases_lt (least_free nodes records proposals) end) [
    | inl below ↦ let taken = none (least_free nodes records proposals) least_is_positive below in absurd (apart (sym taken ∙ least_free_is_free))
    | inr past ↦ past
  ]
    where
      apart : false ≡ true → ⊥
      apart e = cc

  left_true : (a b : Bool) → (a && b) ≡ true → a ≡ true
  left_true true b e = refl
  left_true false b e = e

  none_of : (o : Option Action) → is_none o ≡ true → o ≡ None
  none_of None e = refl
  none_of (Some v) e = absurd cc

  -- nothing is learned there
  pub least_is_unlearned : learned_at records (least_free nodes records proposals) ≡ None
  least_is_unlearned =
      none_of (learned_at records (least_free nodes records proposals))
      (left_true (is_none (learned_at records (least_free nodes records proposals))) (is_ready nodes (proposal_at proposals (least_free nodes records proposals))) least_free_is_free)

  -- ---- what a leader looks at

  taken_by : (o : Option Action) (b : Bool) → IsSome o → (is_none o && b) ≡ false
  taken_by None b some = absurd cc
  taken_by (Some v) b some = refl

  -- none is free below the first position that the log has not learned
  pub none_below : (log : Contents) (first : ℕ) → LearnedAlike records log → ((i : ℕ) → 1 ≤ i → i < first → IsLearned log i) → NoneFree nodes records proposals 1 first
  none_below log first alike learned = λ j low below.
      taken_by (learned_at records j) (is_ready nodes (proposal_at proposals j)) (subst (λ (o : Option Action). IsSome o) (alike j) (learned j low below))

  pub none_joined : (first end : ℕ) → NoneFree nodes records proposals 1 first → NoneFree nodes records proposals first end → NoneFree nodes records proposals 1 end
  none_joined first end before trailing = λ j low below. elim (cases_lt j first) [ inl lower ↦ before j low lower | inr higher ↦ trailing j higher below ]

  pub none_more : (first n : ℕ) → NoneFree nodes records proposals first n → is_free_position nodes records proposals n ≡ false → NoneFree nodes records proposals first (n + 1)
  none_more first n none taken = λ j low below. elim (cases_lt j n) [
    | inl lower ↦ none j low lower
    | inr higher ↦ let same : n ≡ j = omega arith in subst (λ (p : ℕ). is_free_position nodes records proposals p ≡ false) same taken
  ]

  -- where none is free within reach, the least free one is out of reach
  pub least_is_out : (most first end : ℕ) → first ≡ first_unlearned records → end ≡ min (first + 64) (most + 1) → NoneFree nodes records proposals 1 end
      → is_out_of_reach most records (least_free nodes records proposals) ≡ true
  least_is_out most first end is at none =
      let trailing : end ≤ least_free nodes records proposals = least_is_after end none in
      out_by records most (least_free nodes records proposals) (elim (cases_lt most (least_free nodes records proposals)) [ inl above ↦ inl above | inr within ↦ inr (omega (arith, trailing, is, at)) ])

-- where a proposal runs that is not prepared, none is free
busy_taken : (nodes : ℕ) (learned : Option Action) (o : Option Proposal) → IsBusy nodes o → (is_none learned && is_ready nodes o) ≡ false
busy_taken nodes (Some v) o busy = refl
busy_taken nodes None None busy = absurd busy
busy_taken nodes None (Some p) busy = busy

pub none_in_row : (nodes : ℕ) (records : List Rec) (proposals : List Proposal) (first count : ℕ) → ((j : ℕ) → first ≤ j → j < first + count → IsBusy nodes (proposal_at proposals j))
    → NoneFree nodes records proposals first (first + count)
none_in_row nodes records proposals first count busy = λ j low high. busy_taken nodes (learned_at records j) (proposal_at proposals j) (busy j low high)

-- no proposal runs, or one that is prepared, as a proposer answers
pub ready_is : (nodes : ℕ) (o : Option Proposal) → (is_none (option_map (λ p. p.ballot) o) || is_some (prepared_by nodes o)) ≡ is_ready nodes o
ready_is nodes None = refl
ready_is nodes (Some p) = by (is_prepared nodes p) (p.ballot, option_map (λ vote. vote.action) (highest_vote p.promises))
  where
    by : (b : Bool) (found : ℕ × Option Action) → is_some (cond b (Some found) None) ≡ b
    by true found = refl
    by false found = refl
