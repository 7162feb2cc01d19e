-- One more record: what is kept for a position, and what the bounds are then.
use Rattle.std.proofs.Common.{◌≡◌, ℕ, suc, ◌+◌, ◌≢◌, max, Bool, true, false, cond, Option, Some, None, List, [], ◌∷◌, ◌++◌, nat_eq, refl, sym, ap, ◌∙◌, inl, inr, arith}
use Rattle.std.specs.Prelude.{option_to_list}
use Rattle.std.specs.List.{cons_option}
use Rattle.std.proofs.lemmas.Bool.{ne_eqb}
use Rattle.std.proofs.lemmas.Bool.Decides.{leb_tells}
use Rattle.rp_base.specs.declared.action.Action.{Action}
use Rattle.rp_base.specs.declared.record.Vote.{Vote}
use Rattle.rp_base.specs.declared.record.Rec.{Rec}
use Rattle.rp_base.specs.declared.record.Rec.TheVariants.{Started, Promised, Voted, Learned, PromisedRange}
use Rattle.rp_base.specs.Sets.{Has}
use Rattle.rp_base.specs.Records.{bound_in, bound_at, highest, vote_in, last_vote_at}
use Rattle.rp_base.proofs.MoreRecords.{bound_push, last_push}
use Rattle.rp_acceptor.specs.Levels.{Level, holding_ballot}
use Rattle.rp_acceptor.specs.Slots.{Kept, ballot_of_vote, stretch_in, ballot_promised, promise_in, promised_at, kept_at, with_record, single_in, AreBounds, KeepsRecords}

bound_more : (records : List Rec) (rec : Rec) (i : ℕ) → bound_at (records ++ rec ∷ []) i ≡ max (bound_at records i) (bound_in i rec)
bound_more records rec i = let h = bound_push records rec i in omega (arith, h)

promised_more : (records : List Rec) (rec : Rec) (i : ℕ) → promised_at (records ++ rec ∷ []) i ≡ max (promised_at records i) (promise_in i rec)
promised_more [] rec i = omega arith
promised_more (first ∷ rest) rec i = let h = promised_more rest rec i in omega (arith, h)

one_item : (o : Option Vote) → cons_option o [] ≡ option_to_list o
one_item None = refl
one_item (Some v) = refl

last_more : (records : List Rec) (rec : Rec) (i : ℕ) → last_vote_at (records ++ rec ∷ []) i ≡ highest (option_to_list (last_vote_at records i) ++ option_to_list (vote_in i rec))
last_more records rec i = last_push records rec i ∙ ap (λ (l : List Vote). highest (option_to_list (last_vote_at records i) ++ l)) (one_item (vote_in i rec))

-- a vote of these parts
abbrev pub cast : ℕ → Action → Vote
cast ballot action = record { ballot = ballot; action = action }

abbrev kept : ℕ → Option Vote → Kept
kept promised last = record { promised = promised; last = last }

-- ---- what is kept for a position

kept_more : (records : List Rec) (rec : Rec) (i : ℕ) → kept_at (records ++ rec ∷ []) i ≡ with_record i rec (kept_at records i)
kept_more records rec i =
    ap (λ (n : ℕ). kept n (last_vote_at (records ++ rec ∷ []) i)) (promised_more records rec i)
    ∙ ap (kept (max (promised_at records i) (promise_in i rec))) (last_more records rec i)

-- places with one more record noted keep what the records say then
pub records_kept : (before after : ℕ → Kept) (records : List Rec) (rec : Rec) → ((index : ℕ) → after index ≡ with_record (index + 1) rec (before index))
    → KeepsRecords before records → KeepsRecords after (records ++ rec ∷ [])
records_kept before after records rec noted are = λ index.
    noted index ∙ ap (with_record (index + 1) rec) (are index) ∙ sym (kept_more records rec (index + 1))

highest_again : (o : Option Vote) → highest (option_to_list o ++ []) ≡ o
highest_again None = refl
highest_again (Some v) = refl

no_more : (n : ℕ) → max n 0 ≡ n
no_more n = omega arith

-- a record that says nothing of the position
unsaid : (i : ℕ) (rec : Rec) (k : Kept) → promise_in i rec ≡ 0 → vote_in i rec ≡ None → with_record i rec k ≡ k
unsaid i rec k none nothing =
    ap (λ (n : ℕ). kept (max k.promised n) (highest (option_to_list k.last ++ option_to_list (vote_in i rec)))) none
    ∙ ap (λ (n : ℕ). kept n (highest (option_to_list k.last ++ option_to_list (vote_in i rec)))) (no_more k.promised)
    ∙ ap (λ (o : Option Vote). kept k.promised (highest (option_to_list k.last ++ option_to_list o))) nothing
    ∙ ap (kept k.promised) (highest_again k.last)

-- elsewhere what is kept stays
pub elsewhere : (i : ℕ) (rec : Rec) (k : Kept) → ((j : ℕ) → Has j (single_in rec) → i ≢ j) → with_record i rec k ≡ k
elsewhere i (Started ballot) k other = unsaid i (Started ballot) k refl refl
elsewhere i (Promised position ballot) k other =
    unsaid i (Promised position ballot) k (ap (λ (t : Bool). cond t ballot 0) (ne_eqb position i (λ e. other position (inl refl) (sym e)))) refl
elsewhere i (Voted position ballot action) k other =
    unsaid i (Voted position ballot action) k refl
    (ap (λ (t : Bool). cond t (Some (cast ballot action)) None) (ne_eqb position i (λ e. other position (inl refl) (sym e))))
elsewhere i (Learned position action) k other = unsaid i (Learned position action) k refl refl
elsewhere i (PromisedRange range ballot) k other = unsaid i (PromisedRange range ballot) k refl refl

-- ---- the bound

one_vote : (t : Bool) (b : ℕ) (vote : Vote) → vote.ballot ≡ b → cond t b 0 ≡ max 0 (max 0 (ballot_of_vote (cond t (Some vote) None)))
one_vote true b vote is = omega (arith, is)
one_vote false b vote is = refl

one_promise : (n : ℕ) → n ≡ max 0 (max n 0)
one_promise n = omega arith

range_promise : (n : ℕ) → n ≡ max n (max 0 0)
range_promise n = omega arith

-- a record's bound is that of its promise, for a range or alone, or that of its vote
bound_of_record : (i : ℕ) (rec : Rec) → bound_in i rec ≡ max (ballot_promised i (stretch_in rec)) (max (promise_in i rec) (ballot_of_vote (vote_in i rec)))
bound_of_record i (Started ballot) = refl
bound_of_record i (Promised position ballot) = one_promise (bound_in i (Promised position ballot))
bound_of_record i (Voted position ballot action) = one_vote (nat_eq position i) ballot (cast ballot action) refl
bound_of_record i (Learned position action) = refl
bound_of_record i (PromisedRange range ballot) = range_promise (bound_in i (PromisedRange range ballot))

-- the higher of two votes has the greater ballot
higher_ballot : (first second : Option Vote) → ballot_of_vote (highest (option_to_list first ++ option_to_list second)) ≡ max (ballot_of_vote first) (ballot_of_vote second)
higher_ballot None None = refl
higher_ballot None (Some w) = omega arith
higher_ballot (Some v) None = omega arith
higher_ballot (Some v) (Some w) =
    elim (leb_tells (suc v.ballot) w.ballot) [ inl lt ↦ rw lt.0 (omega (arith, lt.1)) | inr ge ↦ rw ge.0 (omega (arith, ge.1)) ]

-- the levels with the promise noted, if the record is one for a range
pub bounds_noted : (before after : List Level) (records : List Rec) (rec : Rec) → ((i : ℕ) → holding_ballot after i ≡ max (holding_ballot before i) (ballot_promised i (stretch_in rec)))
    → AreBounds before records → AreBounds after (records ++ rec ∷ [])
bounds_noted before after records rec raised are = λ i.
    let last : ballot_of_vote (last_vote_at (records ++ rec ∷ []) i) ≡ max (ballot_of_vote (last_vote_at records i)) (ballot_of_vote (vote_in i rec)) =
    ap ballot_of_vote (last_more records rec i) ∙ higher_ballot (last_vote_at records i) (vote_in i rec) in
    omega (arith, raised i, last, are i, promised_more records rec i, bound_more records rec i, bound_of_record i rec)
