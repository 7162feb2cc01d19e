-- The votes that a promise for a range reports are the last votes at its positions.
use Rattle.std.proofs.Common.{◌≡◌, ℕ, zero, suc, ◌+◌, ◌<◌, ◌≤◌, true, false, Option, Some, None, List, [], ◌∷◌, refl, ap, ◌∙◌, ◌⊎◌, inl, inr, arith}
use Rattle.std.specs.Prelude.{nat_eq, nat_lt, nat_le, filter_map, option_map, find}
use Rattle.std.specs.List.{cons_option, AllByRecursion, list_all, range_with_len}
use Rattle.std.proofs.lemmas.Bool.{cases_Bool, cond-true, cond-false, and_parts, leb-true, ltb-true, ne_eqb, eqb-true, eqb-false}
use Rattle.std.proofs.lemmas.Bool.Decides.{nat_tests}
use Rattle.std.proofs.lemmas.List.Elements.{All-from_recursion}
use Rattle.rp_base.specs.declared.record.Vote.{Vote}
use Rattle.rp_base.specs.declared.record.Rec.{Rec}
use Rattle.rp_base.specs.declared.placed.PlacedVote.{PlacedVote}
use Rattle.rp_base.specs.Ranges.{Range, end_of, is_covered}
use Rattle.rp_base.specs.Records.{bound_at, last_vote_at}
use Rattle.rp_base.specs.Right.{IsRightVote, IsRightRecord}
use Rattle.rp_base.specs.Voting.{is_above_bounds}
use Rattle.rp_base.specs.PlacedVotes.{placed_at, placed_last, last_votes, AreRising, AreReported}
use Rattle.rp_base.proofs.MoreRecords.{last_below, last_right}

-- a vote at a position, with the position
abbrev place : ℕ → Vote → PlacedVote
place i vote = record { position = i; vote = vote }

-- the last votes at these many positions from one on
abbrev votes_from : List Rec → ℕ → ℕ → List PlacedVote
votes_from records first n = filter_map (placed_last records) (range_with_len first n)

-- what is placed in front of others, at its position and at another
here : (a i : ℕ) (o : Option Vote) (rest : List PlacedVote) → nat_eq a i ≡ true → placed_at rest i ≡ None → placed_at (cons_option (option_map (place a) o) rest) i ≡ o
here a i None rest same none = none
here a i (Some v) rest same none = ap (option_map (λ placed. placed.vote)) (cond-true (nat_eq a i) (Some (place a v)) (find (λ placed. nat_eq placed.position i) rest) same)

other : (a i : ℕ) (o : Option Vote) (rest : List PlacedVote) → nat_eq a i ≡ false → placed_at (cons_option (option_map (place a) o) rest) i ≡ placed_at rest i
other a i None rest differs = refl
other a i (Some v) rest differs = ap (option_map (λ placed. placed.vote)) (cond-false (nat_eq a i) (Some (place a v)) (find (λ placed. nat_eq placed.position i) rest) differs)

none_outside : (records : List Rec) (first n i : ℕ) → (i < first) ⊎ (first + n ≤ i) → placed_at (votes_from records first n) i ≡ None
none_outside records first zero i outside = refl
none_outside records first (suc n) i outside =
    let differs : nat_eq first i ≡ false = ne_eqb first i (λ e. elim outside [ inl below ↦ absurd (omega (arith, below, e)) | inr above ↦ absurd (omega (arith, above, e)) ]) in
    let later : (i < first + 1) ⊎ (first + 1 + n ≤ i) = elim outside [ inl below ↦ inl (omega (arith, below)) | inr above ↦ inr (omega (arith, above)) ] in
    other first i (last_vote_at records first) (votes_from records (first + 1) n) differs ∙ none_outside records (first + 1) n i later

last_inside : (records : List Rec) (first n i : ℕ) → first ≤ i → i < first + n → placed_at (votes_from records first n) i ≡ last_vote_at records i
last_inside records first zero i low high = absurd (omega (arith, low, high))
last_inside records first (suc n) i low high =
    elim (cases_Bool (nat_eq first i)) [
      | inl same ↦
          let none : placed_at (votes_from records (first + 1) n) i ≡ None = none_outside records (first + 1) n i (inl (omega (arith, eqb-true first i same))) in
          here first i (last_vote_at records first) (votes_from records (first + 1) n) same none ∙ ap (last_vote_at records) (eqb-true first i same)
      | inr differs ↦
          let ne : first ≡ i → ⊥ = eqb-false first i differs in
          let later : first + 1 ≤ i = grind (arith, nat_tests, low, ne) in
          other first i (last_vote_at records first) (votes_from records (first + 1) n) differs ∙ last_inside records (first + 1) n i later (omega (arith, high))
    ]

pub covered_votes : (records : List Rec) (range : Range) (i : ℕ) → is_covered range i ≡ true → placed_at (last_votes records range) i ≡ last_vote_at records i
covered_votes records range i covered =
    let ends = and_parts (nat_le range.first i) (nat_lt i (end_of range)) covered in
    last_inside records range.first range.count i (leb-true range.first i ends.0) (ltb-true i (end_of range) ends.1)

pub no_votes_elsewhere : (records : List Rec) (range : Range) (i : ℕ) → is_covered range i ≡ false → placed_at (last_votes records range) i ≡ None
no_votes_elsewhere records range i elsewhere =
    let outside : (i < range.first) ⊎ (end_of range ≤ i) = grind (arith, nat_tests, elsewhere) in
    none_outside records range.first range.count i outside

-- ---- they rise, lie below the promised ballot, and are right

wider : (a b end : ℕ) (votes : List PlacedVote) → a ≤ b → AreRising b end votes → AreRising a end votes
wider a b end [] low rising = tt
wider a b end (placed ∷ rest) low (from, below, later) = (omega (arith, low, from), below, later)

rising_with : (a end : ℕ) (o : Option Vote) (rest : List PlacedVote) → a < end → AreRising (suc a) end rest → AreRising a end (cons_option (option_map (place a) o) rest)
rising_with a end None rest within rising = wider a (suc a) end rest (omega arith) rising
rising_with a end (Some v) rest within rising = (omega arith, within, rising)

rising_from : (records : List Rec) (first n end : ℕ) → first + n ≤ end → AreRising first end (votes_from records first n)
rising_from records first zero end within = tt
rising_from records first (suc n) end within =
    rising_with first end (last_vote_at records first) (votes_from records (first + 1) n) (omega (arith, within))
    (wider (suc first) (first + 1) end (votes_from records (first + 1) n) (omega arith) (rising_from records (first + 1) n end (omega (arith, within))))

each_with : (P : PlacedVote → Type 0) (a : ℕ) (o : Option Vote) (rest : List PlacedVote) → ((v : Vote) → o ≡ Some v → P (place a v)) → AllByRecursion P rest → AllByRecursion P (cons_option (option_map (place a) o) rest)
each_with P a None rest one all = all
each_with P a (Some v) rest one all = (one v refl, all)

below_from : (records : List Rec) (b first n : ℕ) → list_all (λ i. nat_lt (bound_at records i) b) (range_with_len first n) ≡ true
    → AllByRecursion (λ placed. placed.vote.ballot < b) (votes_from records first n)
below_from records b first zero above = tt
below_from records b first (suc n) above =
    let both = and_parts (nat_lt (bound_at records first) b) (list_all (λ i. nat_lt (bound_at records i) b) (range_with_len (first + 1) n)) above in
    each_with (λ placed. placed.vote.ballot < b) first (last_vote_at records first) (votes_from records (first + 1) n)
    (λ v e. last_below records first b v e (ltb-true (bound_at records first) b both.0)) (below_from records b (first + 1) n both.1)

right_from : (records : List Rec) (first n : ℕ) → AllByRecursion IsRightRecord records → AllByRecursion (λ placed. IsRightVote placed.vote) (votes_from records first n)
right_from records first zero right = tt
right_from records first (suc n) right =
    each_with (λ placed. IsRightVote placed.vote) first (last_vote_at records first) (votes_from records (first + 1) n)
    (λ v e. last_right records first v right e) (right_from records (first + 1) n right)

pub votes_are_reported : (records : List Rec) (range : Range) (b : ℕ) → AllByRecursion IsRightRecord records → is_above_bounds records range b ≡ true → AreReported range b (last_votes records range)
votes_are_reported records range b right above = record {
  rising = rising_from records range.first range.count (end_of range) (omega arith);
  below = All-from_recursion (λ placed. placed.vote.ballot < b) (last_votes records range) (below_from records b range.first range.count above);
  right = All-from_recursion (λ placed. IsRightVote placed.vote) (last_votes records range) (right_from records range.first range.count right);
}
