-- What a node's records say stays as they grow: votes, bounds, and what a promise reports.
use Rattle.std.proofs.Common.{◌≡◌, ℕ, ◌<◌, ◌≤◌, max, true, cond, ◌⊎◌, inl, inr, Option, Some, None, List, [], ◌∷◌, ◌++◌, refl, sym, ap, subst, ◌∙◌, arith}
use Rattle.std.specs.Prelude.{nat_eq}
use Rattle.rp_base.specs.Ranges.{Range, is_covered}
use Rattle.std.proofs.lemmas.Bool.{cases_Bool, cond-true, cond-false, eqb-true, eq-eqb}
use Rattle.rp_base.specs.declared.action.Action.{Action}
use Rattle.rp_base.specs.declared.record.Vote.{Vote}
use Rattle.rp_base.specs.declared.record.Rec.{Rec}
use Rattle.rp_base.specs.declared.record.Rec.TheVariants.{Started, Promised, Voted, Learned, PromisedRange}
use Rattle.rp_base.specs.Sets.{Has}
use Rattle.rp_base.specs.Records.{started_in, started_of, bound_at, vote_in, last_vote_at, learned_in, learned_at, or_else}
use Rattle.rp_base.proofs.MoreRecords.{bound_push, last_below}
use Rattle.rp_base.proofs.Members.{has_split, has_left}
use Rattle.rp_codec.specs.Message.{Message}
use Rattle.rp_model.specs.Parts.{with_record}
use Rattle.rp_agreement.specs.Justified.{Reports}
use Rattle.rp_agreement.specs.Steps.{MayWrite}
use Rattle.rp_agreement.proofs.Lists.{some_same, has_picked, picked_has, highest_has, highest_covers}

-- ---- records with one more

pub record_stays : (rec : Rec) (records : List Rec) (written : Option Rec) → Has rec records → Has rec (with_record records written)
record_stays rec records None h = h
record_stays rec records (Some more) h = has_left rec records (more ∷ []) h

-- a record is an old one, or the one that was written
pub record_or_new : (rec : Rec) (records : List Rec) (written : Option Rec) → Has rec (with_record records written) → Has rec records ⊎ (written ≡ Some rec)
record_or_new rec records None h = inl h
record_or_new rec records (Some more) h =
    elim (has_split rec records (more ∷ []) h) [
      | inl old ↦ inl old
      | inr new ↦ elim new [ inl same ↦ inr (ap Some (sym same)) | inr none ↦ absurd none ]
    ]

pub bound_stays : (records : List Rec) (written : Option Rec) (i : ℕ) → bound_at records i ≤ bound_at (with_record records written) i
bound_stays records None i = omega arith
bound_stays records (Some rec) i =
    let more : bound_at (records ++ rec ∷ []) i ≡ max (bound_at records i) (bound_at (rec ∷ []) i) = bound_push records rec i in
    omega (arith, more)

pub started_below : (b : ℕ) (records : List Rec) → Has (Started b) records → b ≤ started_of records
started_below b [] h = absurd h
started_below b (rec ∷ rest) h =
    elim h [
      | inl same ↦ let here : b ≡ started_in rec = ap started_in same in omega (arith, here)
      | inr later ↦ let below : b ≤ started_of rest = started_below b rest later in omega (arith, below)
    ]

-- ---- votes

vote_of : ℕ → Action → Vote
vote_of c v = record { ballot = c; action = v }

vote_picked : (i c : ℕ) (v : Action) → let w : Vote = record { ballot = c; action = v } in vote_in i (Voted i c v) ≡ Some w
vote_picked i c v = let w : Vote = record { ballot = c; action = v } in cond-true (nat_eq i i) (Some w) None (eq-eqb i i refl)

voted_is : (i : ℕ) (rec : Rec) (w : Vote) → vote_in i rec ≡ Some w → rec ≡ Voted i w.ballot w.action
voted_is i (Started ballot) w e = absurd (cc)
voted_is i (Promised position ballot) w e = absurd (cc)
voted_is i (Voted position ballot action) w e =
    let vote : Vote = record { ballot = ballot; action = action } in
    elim (cases_Bool (nat_eq position i)) [
      | inl here ↦
          let is : vote ≡ w = some_same (sym (cond-true (nat_eq position i) (Some vote) None here) ∙ e) in
          let place : position ≡ i = eqb-true position i here in
          subst (λ (k : ℕ). Voted position ballot action ≡ Voted k w.ballot w.action) place (ap (λ (u : Vote). Voted position u.ballot u.action) is)
      | inr elsewhere ↦ let none : None ≡ Some w = sym (cond-false (nat_eq position i) (Some vote) None elsewhere) ∙ e in absurd (cc)
    ]
voted_is i (Learned position action) w e = absurd (cc)
voted_is i (PromisedRange range ballot) w e = absurd (cc)

-- the last vote was cast
pub last_cast : (records : List Rec) (i : ℕ) (w : Vote) → last_vote_at records i ≡ Some w → Has (Voted i w.ballot w.action) records
last_cast records i w e =
    let picked = has_picked (vote_in i) w records (highest_has w _ e) in
    subst (λ (rec : Rec). Has rec records) (voted_is i picked.0 w picked.2) picked.1

-- and no other one is in a higher ballot
pub last_covers : (records : List Rec) (i c : ℕ) (v : Action) → Has (Voted i c v) records → (w : Vote) × (last_vote_at records i ≡ Some w) × (c ≤ w.ballot)
last_covers records i c v h =
    let vote : Vote = record { ballot = c; action = v } in
    highest_covers vote _ (picked_has (vote_in i) (Voted i c v) vote records h (vote_picked i c v))

-- ---- what a promise reports

promised_bound : (records : List Rec) (i b : ℕ) → b ≤ bound_at (records ++ Promised i b ∷ []) i
promised_bound records i b =
    let more : bound_at (records ++ Promised i b ∷ []) i ≡ max (bound_at records i) (bound_at (Promised i b ∷ []) i) = bound_push records (Promised i b) i in
    let here : cond (nat_eq i i) b 0 ≡ b = cond-true (nat_eq i i) b 0 (eq-eqb i i refl) in
    omega (arith, more, here)

-- the last vote is reported by a promise above the bound
pub reports : (records : List Rec) (i b : ℕ) → bound_at records i < b → Reports (records ++ Promised i b ∷ []) i b (last_vote_at records i)
reports records i b above = record {
  bound = promised_bound records i b;
  cast = λ w e. (has_left _ records _ (last_cast records i w e), last_below records i b w e above);
  covers = λ c v h below. elim (has_split _ records _ h) [
    | inl old ↦ last_covers records i c v old
    | inr new ↦ elim new [ inl same ↦ absurd (cc) | inr none ↦ absurd none ]
  ];
}

range_bound : (records : List Rec) (range : Range) (i b : ℕ) → is_covered range i ≡ true → b ≤ bound_at (records ++ PromisedRange range b ∷ []) i
range_bound records range i b covered =
    let more : bound_at (records ++ PromisedRange range b ∷ []) i ≡ max (bound_at records i) (bound_at (PromisedRange range b ∷ []) i) = bound_push records (PromisedRange range b) i in
    let here : cond (is_covered range i) b 0 ≡ b = cond-true (is_covered range i) b 0 covered in
    omega (arith, more, here)

-- a promise for a range above the bound at a position of it reports the last vote there
pub range_reports : (records : List Rec) (range : Range) (i b : ℕ) → is_covered range i ≡ true → bound_at records i < b → Reports (records ++ PromisedRange range b ∷ []) i b (last_vote_at records i)
range_reports records range i b covered above = record {
  bound = range_bound records range i b covered;
  cast = λ w e. (has_left _ records _ (last_cast records i w e), last_below records i b w e above);
  covers = λ c v h below. elim (has_split _ records _ h) [
    | inl old ↦ last_covers records i c v old
    | inr new ↦ elim new [ inl same ↦ absurd (cc) | inr none ↦ absurd none ]
  ];
}

-- and stays so, whatever is written
pub reports_stay : (nodes x : ℕ) (sent : List Message) (records : List Rec) (written : Option Rec) (i b : ℕ) (last : Option Vote)
    → MayWrite nodes sent x records written → Reports records i b last → Reports (with_record records written) i b last
reports_stay nodes x sent records written i b last may old =
    let stays : bound_at records i ≤ bound_at (with_record records written) i = bound_stays records written i in
    record {
      bound = omega (arith, stays, old.bound);
      cast = λ w e. (record_stays _ records written (old.cast w e).0, (old.cast w e).1);
      covers = λ c v h below. elim (record_or_new _ records written h) [
        | inl before ↦ old.covers c v before below
        | inr new ↦
            let vote = subst (λ (o : Option Rec). MayWrite nodes sent x records o) new may in
            absurd (omega (arith, vote.1, old.bound, below))
      ];
    }

-- ---- what is learned

learned_is : (i : ℕ) (rec : Rec) (v : Action) → learned_in i rec ≡ Some v → rec ≡ Learned i v
learned_is i (Started ballot) v e = absurd (cc)
learned_is i (Promised position ballot) v e = absurd (cc)
learned_is i (Voted position ballot action) v e = absurd (cc)
learned_is i (Learned position action) v e =
    elim (cases_Bool (nat_eq position i)) [
      | inl here ↦
          let is : action ≡ v = some_same (sym (cond-true (nat_eq position i) (Some action) None here) ∙ e) in
          let place : position ≡ i = eqb-true position i here in
          cc
      | inr elsewhere ↦ let none : None ≡ Some v = sym (cond-false (nat_eq position i) (Some action) None elsewhere) ∙ e in absurd (cc)
    ]
learned_is i (PromisedRange range ballot) v e = absurd (cc)

one_or_other : (a b : Option Action) (v : Action) → or_else a b ≡ Some v → (a ≡ Some v) ⊎ (b ≡ Some v)
one_or_other None b v e = inr e
one_or_other (Some w) b v e = inl e

pub learned_has : (records : List Rec) (i : ℕ) (v : Action) → learned_at records i ≡ Some v → Has (Learned i v) records
learned_has [] i v e = absurd (cc)
learned_has (rec ∷ rest) i v e =
    elim (one_or_other (learned_in i rec) (learned_at rest i) v e) [
      | inl here ↦ inl (sym (learned_is i rec v here))
      | inr later ↦ inr (learned_has rest i v later)
    ]
