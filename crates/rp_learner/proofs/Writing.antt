-- What a write of one place does to the votes and positions that the places represent.
use Rattle.std.proofs.Common.{◌≡◌, ◌≢◌, ℕ, ◌+◌, ◌<◌, not, ◌↔◌, Option, Some, List, [], length, set, refl, sym, ap, subst, ◌∙◌, inl, inr, arith}
use Rattle.std.specs.Prelude.{nat_eq, filter, slice_get}
use Rattle.std.proofs.lemmas.Bool.{cases_eq, ne_eqb, eq-eqb, both_ways}
use Rattle.std.proofs.lemmas.Bool.Decides.{Decides-eqb}
use Rattle.rp_base.specs.Sets.{Has, SameMembers, with_member}
use Rattle.rp_base.specs.Promises.{HeardVote, same_heard}
use Rattle.rp_learner.specs.Casts.{CastVote, same_cast}
use Rattle.rp_learner.specs.Place.{Place}
use Rattle.rp_learner.specs.Place.{Settled}
use Rattle.rp_learner.specs.Learning.{Learning}
use Rattle.rp_learner.specs.Places.{votes_in, is_settled_in, heard_from, settled_from}
use Rattle.rp_learner.specs.Status.{SameLearning, with_mark}
use Rattle.rp_base.proofs.Sameness.{heard_decides}
use Rattle.rp_base.proofs.Members.{has_passing, passes, has_with, with_has}
use Rattle.rp_learner.proofs.Placing.{cast_of, votes_of, settled_of, heard_where, heard_there, settled_spot, settled_there, settled_kept}
use Rattle.rp_learner.proofs.VoteCounts.{cast_decides, get_written, get_other}

-- what the places of a learner's window represent
abbrev pub learning_of : ℕ → ℕ → ℕ → List Place → Learning
learning_of nodes most first places = record { nodes = nodes; max_positions = most; first = first; heard = heard_from first places; settled = settled_from first places }

module _ (places : List Place) (first k i : ℕ) (at : i ≡ first + k) (within : k < length places) where
  heard_settled : (h : HeardVote) → Has h (heard_from first (set places k Settled)) ↔ Has h (filter (λ h. not (nat_eq h.1 i)) (heard_from first places))
  heard_settled h =
      let now = set places k Settled in (
        λ m.
            let hit = heard_where now first h m in
            elim (cases_eq hit.0 k) [
              | inl same ↦
                  let there : slice_get now hit.0 ≡ Some Settled = ap (slice_get now) same ∙ get_written places k Settled within in
                  let none : Has (cast_of h) [] = subst (λ (o : Option Place). Has (cast_of h) (votes_of o)) there hit.2 in
                  absurd none
              | inr other ↦
                  passes (λ (h : HeardVote). not (nat_eq h.1 i)) h (heard_from first places)
                  (heard_there places first hit.0 h hit.1 (subst (λ (o : Option Place). Has (cast_of h) (votes_of o)) (get_other places k hit.0 Settled other) hit.2))
                  (ap not (ne_eqb h.1 i (λ e. other (omega (arith, e, at, hit.1)))))
            ],
        λ m.
            let both = has_passing (λ (h : HeardVote). not (nat_eq h.1 i)) h (heard_from first places) m in
            let hit = heard_where places first h both.0 in
            let other : hit.0 ≢ k = λ e. both_ways (not (nat_eq h.1 i)) (ap not (eq-eqb h.1 i (omega (arith, e, at, hit.1)))) both.1 in
            heard_there now first hit.0 h hit.1 (subst (λ (o : Option Place). Has (cast_of h) (votes_of o)) (sym (get_other places k hit.0 Settled other)) hit.2),
      )

  marks_settled : (j : ℕ) → Has j (settled_from first (set places k Settled)) ↔ Has j (with_member nat_eq (settled_from first places) i)
  marks_settled j =
      let now = set places k Settled in
      let here : j ≡ i → Has j (settled_from first now) = λ same.
      settled_there now first k j (same ∙ at) (ap settled_of (get_written places k Settled within)) in (
        λ m.
            let hit = settled_spot now first j m in
            with_has nat_eq Decides-eqb j i (settled_from first places) (elim (cases_eq hit.0 k) [
              | inl same ↦ inr (omega (arith, same, at, hit.1))
              | inr other ↦ inl (settled_there places first hit.0 j hit.1 (sym (ap settled_of (get_other places k hit.0 Settled other)) ∙ hit.2))
            ]),
        λ m. elim (has_with nat_eq Decides-eqb j i (settled_from first places) m) [
          | inl before ↦
              let hit = settled_spot places first j before in
              elim (cases_eq hit.0 k) [
                | inl same ↦ here (omega (arith, same, at, hit.1))
                | inr other ↦ settled_there now first hit.0 j hit.1 (ap settled_of (get_other places k hit.0 Settled other) ∙ hit.2)
              ]
          | inr same ↦ here same
        ],
      )

  -- a settled place settles its position
  pub settles : (nodes most : ℕ) → SameLearning (learning_of nodes most first (set places k Settled)) (with_mark (learning_of nodes most first places) i)
  settles nodes most = record { nodes = refl; positions = refl; first = refl; heard = heard_settled; settled = marks_settled }

  heard_more : (cast : CastVote) (p q : Place) → slice_get places k ≡ Some p → SameMembers (votes_in q) (with_member same_cast (votes_in p) cast)
      → (h : HeardVote) → Has h (heard_from first (set places k q)) ↔ Has h (with_member same_heard (heard_from first places) (cast.from, i, cast.vote))
  heard_more cast p q before votes h =
      let now = set places k q in
      let written : slice_get now k ≡ Some q = get_written places k q within in
      let Held : Option Place → Type 0 = λ o. Has (cast_of h) (votes_of o) in
      let here : h.1 ≡ i → Has (cast_of h) (with_member same_cast (votes_in p) cast) → Has h (heard_from first now) = λ same held.
      heard_there now first k h (same ∙ at) (subst Held (sym written) ((votes (cast_of h)).1 held)) in (
        λ m.
            let hit = heard_where now first h m in
            with_has same_heard heard_decides h (cast.from, i, cast.vote) (heard_from first places) (elim (cases_eq hit.0 k) [
              | inl same ↦
                  let held : Has (cast_of h) (votes_in q) = subst Held (ap (slice_get now) same ∙ written) hit.2 in
                  let place : h.1 ≡ i = omega (arith, same, at, hit.1) in
                  elim (has_with same_cast cast_decides (cast_of h) cast (votes_in p) ((votes (cast_of h)).0 held)) [
                    | inl old ↦ inl (heard_there places first k h (place ∙ at) (subst Held (sym before) old))
                    | inr new ↦ inr (λ t. ((new t).from, place t, (new t).vote))
                  ]
              | inr other ↦ inl (heard_there places first hit.0 h hit.1 (subst Held (get_other places k hit.0 q other) hit.2))
            ]),
        λ m. elim (has_with same_heard heard_decides h (cast.from, i, cast.vote) (heard_from first places) m) [
          | inl old ↦
              let hit = heard_where places first h old in
              elim (cases_eq hit.0 k) [
                | inl same ↦
                    let held : Has (cast_of h) (votes_in p) = subst Held (ap (slice_get places) same ∙ before) hit.2 in
                    here (omega (arith, same, at, hit.1)) (with_has same_cast cast_decides (cast_of h) cast (votes_in p) (inl held))
                | inr other ↦ heard_there now first hit.0 h hit.1 (subst Held (sym (get_other places k hit.0 q other)) hit.2)
              ]
          | inr new ↦ here (ap (λ (k : HeardVote). k.1) new) (with_has same_cast cast_decides (cast_of h) cast (votes_in p) (inr (ap cast_of new)))
        ],
      )

  -- a vote heard at an open place is heard at its position
  pub hears : (nodes most : ℕ) (cast : CastVote) (p q : Place) → slice_get places k ≡ Some p → is_settled_in q ≡ is_settled_in p → SameMembers (votes_in q) (with_member same_cast (votes_in p) cast)
      → SameLearning (learning_of nodes most first (set places k q)) (record (learning_of nodes most first places) { heard = with_member same_heard (heard_from first places) (cast.from, i, cast.vote) })
  hears nodes most cast p q before mark votes = record {
    nodes = refl;
    positions = refl;
    first = refl;
    heard = heard_more cast p q before votes;
    settled = λ j.
        let same = settled_kept places first k p q before mark in
        (subst (λ (l : List ℕ). Has j l) same, subst (λ (l : List ℕ). Has j l) (sym same));
  }

-- each holds what it holds
pub same_learning : (l : Learning) → SameLearning l l
same_learning l = record { nodes = refl; positions = refl; first = refl; heard = λ h. (λ m. m, λ m. m); settled = λ j. (λ m. m, λ m. m) }
