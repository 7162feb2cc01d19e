-- What records say with one record more, and of their last vote.
use Rattle.std.proofs.Common.{◌≡◌, ℕ, ◌<◌, ◌≤◌, max, cond, Option, Some, None, List, [], ◌∷◌, ◌++◌, refl, sym, ap, subst, ◌∙◌, ◌⊎◌, inl, inr, arith}
use Rattle.std.specs.Prelude.{nat_eq, nat_lt, filter_map, option_to_list, unwrap_or}
use Rattle.std.specs.List.{cons_option, AllByRecursion}
use Rattle.std.proofs.Math.Nat.{zero-max}
use Rattle.std.proofs.lemmas.Bool.{cases_Bool, cond-true, cond-false}
use Rattle.std.proofs.lemmas.List.Elements.{filter_map-append}
use Rattle.rp_base.specs.declared.action.Action.{Action}
use Rattle.rp_base.specs.declared.record.Vote.{Vote}
use Rattle.rp_base.specs.declared.record.Rec.{Rec}
use Rattle.rp_base.specs.declared.record.Rec.TheVariants.{Started, Promised, Voted, Learned, PromisedRange}
use Rattle.rp_base.specs.Action.{IsRight}
use Rattle.rp_base.specs.Right.{IsRightVote, IsRightRecord}
use Rattle.rp_base.specs.Records.{started_in, started_of, bound_in, bound_at, higher_vote, highest, vote_in, last_vote_at, learned_in, learned_at, or_else}

-- the bound with one more record
pub bound_push : (records : List Rec) (rec : Rec) (i : ℕ) → bound_at (records ++ rec ∷ []) i ≡ max (bound_at records i) (bound_at (rec ∷ []) i)
bound_push [] rec i = sym (zero-max (bound_at (rec ∷ []) i))
bound_push (first ∷ rest) rec i =
    let h : bound_at (rest ++ rec ∷ []) i ≡ max (bound_at rest i) (bound_at (rec ∷ []) i) = bound_push rest rec i in
    omega (arith, h)

-- of three votes the highest, whichever two are compared first
higher_assoc : (v w : Vote) (h : Option Vote) → higher_vote v (Some (higher_vote w h)) ≡ higher_vote (higher_vote v (Some w)) h
higher_assoc v w None = refl
higher_assoc v w (Some u) = grind arith

higher_joined : (v : Vote) (o : Option Vote) (ws : List Vote) → higher_vote v (highest (option_to_list o ++ ws)) ≡ higher_vote (higher_vote v o) (highest ws)
higher_joined v None ws = refl
higher_joined v (Some w) ws = higher_assoc v w (highest ws)

-- the highest of two lists, by the highest of the first
pub highest-append : (vs ws : List Vote) → highest (vs ++ ws) ≡ highest (option_to_list (highest vs) ++ ws)
highest-append [] ws = refl
highest-append (v ∷ vs) ws = ap (λ (o : Option Vote). Some (higher_vote v o)) (highest-append vs ws) ∙ ap Some (higher_joined v (highest vs) ws)

-- the last vote with one more record
pub last_push : (records : List Rec) (rec : Rec) (i : ℕ) → last_vote_at (records ++ rec ∷ []) i ≡ highest (option_to_list (last_vote_at records i) ++ filter_map (vote_in i) (rec ∷ []))
last_push records rec i = ap highest (filter_map-append (vote_in i) records (rec ∷ [])) ∙ highest-append (filter_map (vote_in i) records) (filter_map (vote_in i) (rec ∷ []))

-- the greatest ballot started with one more record
pub started_push : (records : List Rec) (rec : Rec) → started_of (records ++ rec ∷ []) ≡ max (started_of records) (started_in rec)
started_push [] rec = omega arith
started_push (first ∷ rest) rec =
    let h : started_of (rest ++ rec ∷ []) ≡ max (started_of rest) (started_in rec) = started_push rest rec in
    omega (arith, h)

-- the action learned with one more record: the first stays
learned_joined : (a b c : Option Action) → or_else a (or_else b c) ≡ or_else (or_else a b) c
learned_joined None b c = refl
learned_joined (Some action) b c = refl

or_none : (a : Option Action) → or_else a None ≡ a
or_none None = refl
or_none (Some action) = refl

pub learned_push : (records : List Rec) (rec : Rec) (i : ℕ) → learned_at (records ++ rec ∷ []) i ≡ or_else (learned_at records i) (learned_in i rec)
learned_push [] rec i = or_none (learned_in i rec)
learned_push (first ∷ rest) rec i =
    ap (or_else (learned_in i first)) (learned_push rest rec i) ∙ learned_joined (learned_in i first) (learned_at rest i) (learned_in i rec)

-- ---- the last vote

-- a vote is one of two
one_of_two : (v : Vote) (o : Option Vote) → (higher_vote v o ≡ v) ⊎ (o ≡ Some (higher_vote v o))
one_of_two v None = inl refl
one_of_two v (Some w) =
    elim (cases_Bool (nat_lt v.ballot w.ballot)) [
      | inl lower ↦ inr (ap Some (sym (cond-true (nat_lt v.ballot w.ballot) w v lower)))
      | inr not_lower ↦ inl (cond-false (nat_lt v.ballot w.ballot) w v not_lower)
    ]

some_vote : {v w : Vote} → Some v ≡ Some w → v ≡ w
some_vote {v} {w} e = ap (λ (o : Option Vote). unwrap_or o v) e

-- the highest of votes that all are so is so
highest_is : (P : Vote → Type 0) (v : Vote) (votes : List Vote) → AllByRecursion P votes → highest votes ≡ Some v → P v
highest_is P v [] all h = absurd (cc)
highest_is P v (first ∷ rest) all h =
    let is : higher_vote first (highest rest) ≡ v = some_vote h in
    elim (one_of_two first (highest rest)) [
      | inl e ↦ subst P (sym e ∙ is) all.0
      | inr e ↦ highest_is P v rest all.1 (e ∙ ap Some is)
    ]

below_bound : (i : ℕ) (rec : Rec) (v : Vote) → vote_in i rec ≡ Some v → v.ballot ≤ bound_in i rec
below_bound i (Started ballot) v h = absurd (cc)
below_bound i (Promised position ballot) v h = absurd (cc)
below_bound i (Voted position ballot action) v h =
    let vote : Vote = record { ballot = ballot; action = action } in
    elim (cases_Bool (nat_eq position i)) [
      | inl here ↦
          let is : vote ≡ v = some_vote (sym (cond-true (nat_eq position i) (Some vote) None here) ∙ h) in
          let bound : cond (nat_eq position i) ballot 0 ≡ ballot = cond-true (nat_eq position i) ballot 0 here in
          omega (arith, ap (λ (u : Vote). u.ballot) is, bound)
      | inr elsewhere ↦ let none : None ≡ Some v = sym (cond-false (nat_eq position i) (Some vote) None elsewhere) ∙ h in absurd (cc)
    ]
below_bound i (Learned position action) v h = absurd (cc)
below_bound i (PromisedRange range ballot) v h = absurd (cc)

right_vote : (i : ℕ) (rec : Rec) (v : Vote) → IsRightRecord rec → vote_in i rec ≡ Some v → IsRightVote v
right_vote i (Started ballot) v right h = absurd (cc)
right_vote i (Promised position ballot) v right h = absurd (cc)
right_vote i (Voted position ballot action) v right h =
    let vote : Vote = record { ballot = ballot; action = action } in
    elim (cases_Bool (nat_eq position i)) [
      | inl here ↦
          let is : vote ≡ v = some_vote (sym (cond-true (nat_eq position i) (Some vote) None here) ∙ h) in
          subst (λ (u : Vote). IsRight u.action) is right
      | inr elsewhere ↦ let none : None ≡ Some v = sym (cond-false (nat_eq position i) (Some vote) None elsewhere) ∙ h in absurd (cc)
    ]
right_vote i (Learned position action) v right h = absurd (cc)
right_vote i (PromisedRange range ballot) v right h = absurd (cc)

-- what is true of a record's vote is true of all votes of the records
each_vote : (P : Vote → Type 0) (i : ℕ) (o : Option Vote) (rest : List Vote) → ((v : Vote) → o ≡ Some v → P v) → AllByRecursion P rest → AllByRecursion P (cons_option o rest)
each_vote P i None rest one all = all
each_vote P i (Some v) rest one all = (one v refl, all)

votes_below : (records : List Rec) (i n : ℕ) → bound_at records i ≤ n → AllByRecursion (λ v. v.ballot ≤ n) (filter_map (vote_in i) records)
votes_below [] i n most = tt
votes_below (rec ∷ rest) i n most =
    each_vote (λ v. v.ballot ≤ n) i (vote_in i rec) (filter_map (vote_in i) rest)
    (λ v h. omega (arith, below_bound i rec v h, most)) (votes_below rest i n (omega (arith, most)))

votes_right : (records : List Rec) (i : ℕ) → AllByRecursion IsRightRecord records → AllByRecursion IsRightVote (filter_map (vote_in i) records)
votes_right [] i all = tt
votes_right (rec ∷ rest) i all =
    each_vote IsRightVote i (vote_in i rec) (filter_map (vote_in i) rest) (λ v h. right_vote i rec v all.0 h) (votes_right rest i all.1)

pub last_below : (records : List Rec) (i b : ℕ) (v : Vote) → last_vote_at records i ≡ Some v → bound_at records i < b → v.ballot < b
last_below records i b v h less =
    let most : v.ballot ≤ bound_at records i =
    highest_is (λ w. w.ballot ≤ bound_at records i) v (filter_map (vote_in i) records) (votes_below records i (bound_at records i) (omega arith)) h in
    omega (arith, most, less)

pub last_right : (records : List Rec) (i : ℕ) (v : Vote) → AllByRecursion IsRightRecord records → last_vote_at records i ≡ Some v → IsRightVote v
last_right records i v all h = highest_is IsRightVote v (filter_map (vote_in i) records) (votes_right records i all) h
