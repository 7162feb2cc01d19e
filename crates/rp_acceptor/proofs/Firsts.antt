-- What is answered at a position whose place keeps no vote.
use Rattle.std.proofs.Common.{◌≡◌, ℕ, ◌+◌, ◌-◌, ◌<◌, ◌≤◌, max, Bool, true, false, cond, nat_lt, Option, Some, None, List, refl, sym, ap, subst, ◌∙◌, inl, arith}
use Rattle.std.specs.Prelude.{IfNone}
use Rattle.std.proofs.lemmas.Bool.{ltb-true, ltb-false, lt-ltb, le-ltb, cond-true, cond-false}
use Rattle.rp_base.specs.declared.action.Action.TheVariants.{Noop}
use Rattle.rp_base.specs.declared.record.Rec.{Rec}
use Rattle.rp_base.specs.declared.record.Rec.TheVariants.{Promised, Voted}
use Rattle.rp_base.specs.declared.record.Vote.{Vote}
use Rattle.rp_base.specs.declared.voting.PrepareAnswer.TheVariants as prepares
use Rattle.rp_base.specs.declared.voting.AcceptAnswer.{AcceptAnswer}
use Rattle.rp_base.specs.declared.voting.AcceptAnswer.TheVariants as accepts
use Rattle.rp_base.specs.Records.{bound_at, last_vote_at}
use Rattle.rp_base.specs.Sets.{Has}
use Rattle.rp_base.specs.Voting.{vote_answer}
use Rattle.rp_acceptor.specs.First.{IsFirstPromise, IsFirstVote}
use Rattle.rp_acceptor.specs.Levels.{Level, holding_ballot}
use Rattle.rp_acceptor.specs.Noted.{Noted, reserves, reserves_vote}
use Rattle.rp_acceptor.specs.Slots.{Kept, kept_at, kept_of, bound_of, HasSlot, HasFirstBound, HasMore, AreKept}
use Rattle.rp_acceptor.proofs.Keeping.{kept_both, kept_vote}

-- what holds anyway holds where there is nothing
pub on_none : {T P : Type 0} (o : Option T) → P → IfNone o P
on_none None h = h
on_none (Some x) h = tt

-- a promise with no vote to report is answered above the bound, where no vote was cast
promised_only : (above below : Bool) (last : Option Vote) (bound : ℕ) (rec : Rec)
    → cond above (prepares.Promise last rec) (cond below (prepares.Nack bound) prepares.Silent) ≡ prepares.Promise None rec → (above ≡ true) × (last ≡ None)
promised_only true below last bound rec is = (refl, cc)
promised_only false true last bound rec is = absurd (cc)
promised_only false false last bound rec is = absurd (cc)

-- a vote is cast where the ballot is not below the bound
cast_only : (below : Bool) (bound : ℕ) (answer : AcceptAnswer) (rec : Rec) → cond below (accepts.Nack bound) answer ≡ accepts.Vote rec → below ≡ false
cast_only true bound answer rec is = absurd (cc)
cast_only false bound answer rec is = refl

is_promised : (records : List Rec) (i b : ℕ) → IsFirstPromise records i b → (nat_lt (bound_at records i) b ≡ true) × (last_vote_at records i ≡ None)
is_promised records i b is = promised_only (nat_lt (bound_at records i) b) (nat_lt b (bound_at records i)) (last_vote_at records i) (bound_at records i) (Promised i b) is

-- pages as they are keep what they keep
same_pages : (pages : List (List Kept)) → HasMore pages pages
same_pages pages = record { same = λ index. refl; longer = λ n. omega arith; whole = λ n. inl refl }

module _ (levels : List Level) (pages : List (List Kept)) (noted : Noted) (i : ℕ) (first : 0 < i) (kept : AreKept levels pages noted) where
  kept_there : kept_of pages (i - 1) ≡ kept_at noted.records i
  kept_there = let next : i - 1 + 1 ≡ i = omega (arith, first) in kept.kept.right (i - 1) ∙ ap (kept_at noted.records) next

  module _ (bound : ℕ) (is : HasFirstBound levels pages i bound) where
    abbrev same : kept_at noted.records i ≡ record { promised = is.promised; last = None }
    same = sym kept_there ∙ is.kept.kept

    -- there was no vote, and it is the bound
    pub no_vote : last_vote_at noted.records i ≡ None
    no_vote = ap (λ (k : Kept). k.last) same

    pub bound_there : bound_at noted.records i ≡ bound
    bound_there =
        let alone : max (holding_ballot levels i) (bound_of (record { promised = is.promised; last = None })) ≡ max (holding_ballot levels i) is.promised = omega arith in
        sym (kept.bounds i) ∙ ap (λ (k : Kept). max (holding_ballot levels i) (bound_of k)) same ∙ alone ∙ sym is.greater

    -- a ballot above it is promised
    pub first_promise : (b : ℕ) → bound < b → IsFirstPromise noted.records i b
    first_promise b above =
        cond-true (nat_lt (bound_at noted.records i) b) (prepares.Promise (last_vote_at noted.records i) (Promised i b))
        (cond (nat_lt b (bound_at noted.records i)) (prepares.Nack (bound_at noted.records i)) prepares.Silent)
        (lt-ltb (bound_at noted.records i) b (omega (arith, above, bound_there)))
        ∙ ap (λ (last : Option Vote). prepares.Promise last (Promised i b)) no_vote

    -- and one that is not below it gets a vote
    pub first_vote : (b : ℕ) → bound ≤ b → IsFirstVote noted.records i b
    first_vote b enough = record {
      none = no_vote;
      cast = λ action.
          cond-false (nat_lt b (bound_at noted.records i)) (accepts.Nack (bound_at noted.records i)) (vote_answer i b action (last_vote_at noted.records i))
          (le-ltb b (bound_at noted.records i) (omega (arith, enough, bound_there)))
          ∙ ap (vote_answer i b action) no_vote;
    }

  slot_there : Has i noted.votes → HasSlot pages (i - 1)
  slot_there has = let next : i ≡ i - 1 + 1 = omega (arith, first) in kept.kept.room (i - 1) (subst (λ (j : ℕ). Has j noted.votes) next has)

  -- where no vote was cast, a place keeps none
  place_without_vote : HasSlot pages (i - 1) → last_vote_at noted.records i ≡ None → (bound : ℕ) × HasFirstBound levels pages i bound
  place_without_vote there none =
      let alone : ℕ = (kept_at noted.records i).promised in (
        max (holding_ballot levels i) alone,
        record {
          promised = alone;
          kept = record { there = there; kept = kept_there ∙ ap (λ (last : Option Vote). record { promised = alone; last = last }) none };
          greater = refl;
        },
      )

  -- so where a ballot is the first at a position with room, its place says so
  pub promise_found : Has i noted.votes → (b : ℕ) → IsFirstPromise noted.records i b → (HasSlot pages (i - 1) → (bound : ℕ) → ¬ HasFirstBound levels pages i bound) → ⊥
  promise_found has b is none =
      let found = place_without_vote (slot_there has) (is_promised noted.records i b is).1 in
      none (slot_there has) found.0 found.1

  pub promise_above : (b bound : ℕ) → IsFirstPromise noted.records i b → HasFirstBound levels pages i bound → bound < b
  promise_above b bound is found =
      omega (arith, ltb-true (bound_at noted.records i) b (is_promised noted.records i b is).0, bound_there bound found)

  pub vote_found : Has i noted.votes → (b : ℕ) → IsFirstVote noted.records i b → (HasSlot pages (i - 1) → (bound : ℕ) → ¬ HasFirstBound levels pages i bound) → ⊥
  vote_found has b is none =
      let found = place_without_vote (slot_there has) is.none in
      none (slot_there has) found.0 found.1

  pub vote_not_below : (b bound : ℕ) → IsFirstVote noted.records i b → HasFirstBound levels pages i bound → bound ≤ b
  vote_not_below b bound is found =
      let enough = cast_only (nat_lt b (bound_at noted.records i)) (bound_at noted.records i) (vote_answer i b Noop (last_vote_at noted.records i)) (Voted i b Noop) (is.cast Noop) in
      omega (arith, ltb-false b (bound_at noted.records i) enough, bound_there bound found)

  -- room for what is to be noted there
  pub room_promise : (bound : ℕ) → HasFirstBound levels pages i bound → AreKept levels pages (reserves noted i)
  room_promise bound is = let next : i - 1 + 1 ≡ i = omega (arith, first) in kept_both levels pages pages noted (i - 1) i next (same_pages pages) is.kept.there kept

  pub room_vote : (bound : ℕ) → HasFirstBound levels pages i bound → AreKept levels pages (reserves_vote noted i)
  room_vote bound is = let next : i - 1 + 1 ≡ i = omega (arith, first) in kept_vote levels pages pages noted (i - 1) i next (same_pages pages) is.kept.there kept
