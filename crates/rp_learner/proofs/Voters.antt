-- Who cast a vote, by the votes that are heard at its position.
use Rattle.std.proofs.Common.{◌≡◌, ℕ, zero, suc, ◌+◌, ◌<◌, ◌≢◌, Bool, true, false, ◌&&◌, cond, List, [], ◌∷◌, ◌++◌, map, refl, sym, ap, ◌∙◌, inl, inr, arith}
use Rattle.std.specs.Prelude.{nat_eq, slice_get, filter}
use Rattle.std.specs.List.{list_any}
use Rattle.std.proofs.lemmas.Bool.{cases_Bool, ne_eqb, eq-eqb, and_from, cond-true, cond-false}
use Rattle.std.proofs.lemmas.Bool.Decides.{Decides-eqb}
use Rattle.std.proofs.lemmas.List.{map-append, append-nil}
use Rattle.std.proofs.lemmas.List.Elements.{filter-append}
use Rattle.rp_base.specs.Sets.{Has, with_member, with_members}
use Rattle.rp_base.specs.declared.record.Vote.{Vote}
use Rattle.rp_base.specs.Promises.{HeardVote, same_vote, same_heard, voters_of}
use Rattle.rp_learner.specs.Casts.{CastVote}
use Rattle.rp_learner.specs.Place.{Place}
use Rattle.rp_learner.specs.Places.{votes_in, heard_from}
use Rattle.rp_base.proofs.Sameness.{vote_same, heard_decides}
use Rattle.rp_base.proofs.Members.{found, finds, passes, has_mapped, member_stays, with_members-append}
use Rattle.rp_learner.proofs.VoteCounts.{senders_cast}
use Rattle.rp_learner.proofs.Placing.{heard_as, votes_of}

-- the senders of this vote at this position
abbrev senders_heard : ℕ → Vote → List HeardVote → List ℕ
senders_heard i vote heard = map (λ h. h.0) (filter (λ h. nat_eq h.1 i && same_vote h.2 vote) heard)

senders-append : (i : ℕ) (vote : Vote) (heard more : List HeardVote) → senders_heard i vote (heard ++ more) ≡ senders_heard i vote heard ++ senders_heard i vote more
senders-append i vote heard more =
    ap (map (λ h. h.0)) (filter-append (λ h. nat_eq h.1 i && same_vote h.2 vote) heard more)
    ∙ map-append (λ h. h.0) (filter (λ h. nat_eq h.1 i && same_vote h.2 vote) heard) (filter (λ h. nat_eq h.1 i && same_vote h.2 vote) more)

and_skip : (x y : Bool) → x ≡ true → (x && y) ≡ y
and_skip x y e = ap (λ (t : Bool). t && y) e

-- one choice mapped is the choice of the mapped
cast_first : (t : Bool) (i : ℕ) (c : CastVote) (rest : List HeardVote) → map (λ h. h.0) (cond t (heard_as i c ∷ rest) rest) ≡ cond t (c.from ∷ map (λ h. h.0) rest) (map (λ h. h.0) rest)
cast_first true i c rest = refl
cast_first false i c rest = refl

from_first : (t : Bool) (c : CastVote) (rest : List CastVote) → map (λ d. d.from) (cond t (c ∷ rest) rest) ≡ cond t (c.from ∷ map (λ d. d.from) rest) (map (λ d. d.from) rest)
from_first true c rest = refl
from_first false c rest = refl

-- at this position, the senders are those of the place
senders_here : (i j : ℕ) (vote : Vote) (votes : List CastVote) → i ≡ j → senders_heard j vote (map (heard_as i) votes) ≡ senders_cast vote votes
senders_here i j vote [] e = refl
senders_here i j vote (c ∷ votes) e =
    let rest = senders_here i j vote votes e in
    let heard = filter (λ (h : HeardVote). nat_eq h.1 j && same_vote h.2 vote) (map (heard_as i) votes) in
    cast_first (nat_eq i j && same_vote c.vote vote) i c heard
    ∙ ap (λ (t : Bool). cond t (c.from ∷ map (λ h. h.0) heard) (map (λ h. h.0) heard)) (and_skip (nat_eq i j) (same_vote c.vote vote) (eq-eqb i j e))
    ∙ ap (λ (l : List ℕ). cond (same_vote c.vote vote) (c.from ∷ l) l) rest
    ∙ sym (from_first (same_vote c.vote vote) c (filter (λ (d : CastVote). same_vote d.vote vote) votes))

-- at another, there are none
none_here : (i j : ℕ) (vote : Vote) (votes : List CastVote) → i ≢ j → senders_heard j vote (map (heard_as i) votes) ≡ []
none_here i j vote [] ne = refl
none_here i j vote (c ∷ votes) ne =
    let heard = filter (λ (h : HeardVote). nat_eq h.1 j && same_vote h.2 vote) (map (heard_as i) votes) in
    cast_first (nat_eq i j && same_vote c.vote vote) i c heard
    ∙ ap (λ (t : Bool). cond (t && same_vote c.vote vote) (c.from ∷ map (λ h. h.0) heard) (map (λ h. h.0) heard)) (ne_eqb i j ne)
    ∙ none_here i j vote votes ne

none_below : (places : List Place) (i j : ℕ) (vote : Vote) → j < i → senders_heard j vote (heard_from i places) ≡ []
none_below [] i j vote lt = refl
none_below (place ∷ places) i j vote lt =
    senders-append j vote (map (heard_as i) (votes_in place)) (heard_from (suc i) places)
    ∙ ap (λ (l : List ℕ). l ++ senders_heard j vote (heard_from (suc i) places)) (none_here i j vote (votes_in place) (λ e. omega (arith, lt, e)))
    ∙ none_below places (suc i) j vote (omega arith)

senders_where : (places : List Place) (i j k : ℕ) (vote : Vote) → j ≡ i + k → senders_heard j vote (heard_from i places) ≡ senders_cast vote (votes_of (slice_get places k))
senders_where [] i j k vote e = refl
senders_where (place ∷ places) i j zero vote e =
    senders-append j vote (map (heard_as i) (votes_in place)) (heard_from (suc i) places)
    ∙ ap (λ (l : List ℕ). senders_heard j vote (map (heard_as i) (votes_in place)) ++ l) (none_below places (suc i) j vote (omega (arith, e)))
    ∙ append-nil (senders_heard j vote (map (heard_as i) (votes_in place)))
    ∙ senders_here i j vote (votes_in place) (omega (arith, e))
senders_where (place ∷ places) i j (suc k) vote e =
    senders-append j vote (map (heard_as i) (votes_in place)) (heard_from (suc i) places)
    ∙ ap (λ (l : List ℕ). l ++ senders_heard j vote (heard_from (suc i) places)) (none_here i j vote (votes_in place) (λ same. omega (arith, e, same)))
    ∙ senders_where places (suc i) j k vote (omega (arith, e))

-- who cast a vote is who cast it at its place
pub voters_where : (places : List Place) (first j k : ℕ) (vote : Vote) → j ≡ first + k
    → with_members nat_eq [] (senders_cast vote (votes_of (slice_get places k))) ≡ voters_of j vote (heard_from first places)
voters_where places first j k vote at = ap (with_members nat_eq []) (sym (senders_where places first j k vote at))

-- its sender is one more voter
pub one_more_voter : (i from : ℕ) (vote : Vote) (heard : List HeardVote)
    → with_member nat_eq (voters_of i vote heard) from ≡ voters_of i vote (with_member same_heard heard (from, i, vote))
one_more_voter i from vote heard =
    let this : HeardVote = (from, i, vote) in
    let counts : (nat_eq i i && same_vote vote vote) ≡ true = and_from (nat_eq i i) (same_vote vote vote) (eq-eqb i i refl) (vote_same vote) in
    let there = list_any (same_heard this) heard in
    elim (cases_Bool there) [
      | inl hit ↦
          let cast : Has from (senders_heard i vote heard) =
          has_mapped (λ (h : HeardVote). h.0) this (filter (λ (h : HeardVote). nat_eq h.1 i && same_vote h.2 vote) heard)
          (passes (λ (h : HeardVote). nat_eq h.1 i && same_vote h.2 vote) this heard (found same_heard heard_decides this heard hit) counts) in
          let voter : list_any (nat_eq from) (voters_of i vote heard) ≡ true =
          finds nat_eq Decides-eqb from (voters_of i vote heard) (member_stays nat_eq Decides-eqb from [] (senders_heard i vote heard) cast) in
          cond-true (list_any (nat_eq from) (voters_of i vote heard)) (voters_of i vote heard) (voters_of i vote heard ++ from ∷ []) voter
          ∙ ap (voters_of i vote) (sym (cond-true there heard (heard ++ this ∷ []) hit))
      | inr miss ↦
          let last : senders_heard i vote (this ∷ []) ≡ from ∷ [] =
          ap (map (λ (h : HeardVote). h.0)) (cond-true (nat_eq i i && same_vote vote vote) (this ∷ []) [] counts) in
          sym (ap (voters_of i vote) (cond-false there heard (heard ++ this ∷ []) miss)
          ∙ ap (with_members nat_eq []) (senders-append i vote heard (this ∷ []) ∙ ap (λ (l : List ℕ). senders_heard i vote heard ++ l) last)
          ∙ with_members-append nat_eq from [] (senders_heard i vote heard))
    ]
