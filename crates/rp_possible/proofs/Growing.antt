-- What a node's records say as a round goes on, against those before it.
use Rattle.std.proofs.Common.{◌≡◌, ◌≢◌, ℕ, suc, ◌*◌, ◌<◌, ◌≤◌, max, nat_eq, Some, None, List, [], ◌∷◌, ◌++◌, inl, inr, refl, sym, subst, ◌∙◌, arith}
use Rattle.std.proofs.lemmas.Bool.{eq-eqb, ne_eqb, cond-true, cond-false}
use Rattle.rp_base.specs.Ballot.{round_of}
use Rattle.rp_base.specs.Records.{bound_at, bound_in, last_vote_at, learned_in, applied_of, vote_in}
use Rattle.rp_base.specs.declared.action.Action.{Action}
use Rattle.rp_base.specs.declared.record.Rec.{Rec}
use Rattle.rp_base.specs.declared.record.Rec.TheVariants.{Started, Promised, Voted, Learned}
use Rattle.rp_base.specs.declared.record.Vote.{Vote}
use Rattle.rp_base.proofs.Members.{has_split}
use Rattle.rp_base.proofs.MoreRecords.{bound_push, last_below}
use Rattle.rp_possible.specs.Rounds.{round_on, AreWithinRound}
use Rattle.rp_possible.proofs.Ballots.{bounds_low}
use Rattle.rp_possible.proofs.Runs.{applied_same, last_same}

module _ (p round : ℕ) where
  -- nothing more is applied, no vote is cast elsewhere, and no ballot is of a round above the next one
  pub record Follows (old new : List Rec) : Type 0 where
    pub applied : applied_of new ≡ applied_of old
    pub votes : (j : ℕ) → j ≢ p → last_vote_at new j ≡ last_vote_at old j
    pub rounds : AreWithinRound (suc round) new

  -- before the promise: no ballot of the next round was promised or voted in at the position
  pub record IsAsked (old new : List Rec) : Type 0 where
    pub follows : Follows old new
    pub vote : last_vote_at new p ≡ last_vote_at old p
    pub bound : bound_at new p < 8 * suc round

  -- after the promise: the ballot is the bound, and the last vote is in a lower one
  pub record HasPromised (b : ℕ) (old new : List Rec) : Type 0 where
    pub follows : Follows old new
    pub bound : bound_at new p ≤ b
    pub below : (vote : Vote) → last_vote_at new p ≡ Some vote → vote.ballot < b

  rounds_more : (records : List Rec) (rec : Rec) → AreWithinRound (suc round) records → round_on rec ≤ suc round → AreWithinRound (suc round) (records ++ rec ∷ [])
  rounds_more records rec within low other h =
      elim (has_split other records (rec ∷ []) h) [
        | inl old ↦ within other old
        | inr new ↦ elim new [ inl same ↦ subst (λ (r : Rec). round_on r ≤ suc round) (sym same) low | inr none ↦ absurd none ]
      ]

  pub asked_first : (records : List Rec) → AreWithinRound round records → IsAsked records records
  asked_first records within = record {
    follows = record {
      applied = refl;
      votes = λ j other. refl;
      rounds = λ rec h. let low : round_on rec ≤ round = within rec h in omega (arith, low);
    };
    vote = refl;
    bound = bounds_low round p records within;
  }

  module _ (old new : List Rec) where
    -- a record that learns nothing, and is no vote elsewhere
    follows_more : (rec : Rec) → Follows old new → ((i : ℕ) → learned_in i rec ≡ None) → ((j : ℕ) → j ≢ p → vote_in j rec ≡ None) → round_on rec ≤ suc round
        → Follows old (new ++ rec ∷ [])
    follows_more rec follows nothing elsewhere low = record {
      applied = applied_same new rec nothing ∙ follows.applied;
      votes = λ j other. last_same new rec j (elsewhere j other) ∙ follows.votes j other;
      rounds = rounds_more new rec follows.rounds low;
    }

    -- the leader started a ballot
    pub one_started : (b : ℕ) → IsAsked old new → round_of b ≤ suc round → IsAsked old (new ++ Started b ∷ [])
    one_started b asked low =
        let more : bound_at (new ++ Started b ∷ []) p ≡ max (bound_at new p) (bound_at (Started b ∷ []) p) = bound_push new (Started b) p in
        record {
          follows = follows_more (Started b) asked.follows (λ i. refl) (λ j other. refl) low;
          vote = last_same new (Started b) p refl ∙ asked.vote;
          bound = omega (arith, more, asked.bound);
        }

    -- a promise
    pub one_promised : (b : ℕ) → IsAsked old new → 8 * suc round ≤ b → round_of b ≤ suc round → HasPromised b old (new ++ Promised p b ∷ [])
    one_promised b asked high low =
        let more : bound_at (new ++ Promised p b ∷ []) p ≡ max (bound_at new p) (bound_at (Promised p b ∷ []) p) = bound_push new (Promised p b) p in
        let here : bound_in p (Promised p b) ≡ b = cond-true (nat_eq p p) b 0 (eq-eqb p p refl) in
        record {
          follows = follows_more (Promised p b) asked.follows (λ i. refl) (λ j other. refl) low;
          bound = omega (arith, more, here, asked.bound, high);
          below = λ vote is. last_below new p b vote (sym (last_same new (Promised p b) p refl) ∙ is) (omega (arith, asked.bound, high));
        }

    -- a vote
    pub one_voted : (b : ℕ) (v : Action) → HasPromised b old new → round_of b ≤ suc round → Follows old (new ++ Voted p b v ∷ [])
    one_voted b v promised low =
        follows_more (Voted p b v) promised.follows (λ i. refl)
        (λ j other. cond-false (nat_eq p j) (let vote : Vote = record { ballot = b; action = v } in Some vote) None (ne_eqb p j (λ e. other (sym e)))) low

    -- what was learned
    pub one_learned : (v : Action) → Follows old new → (j : ℕ) → j ≢ p → last_vote_at (new ++ Learned p v ∷ []) j ≡ last_vote_at old j
    one_learned v follows j other = last_same new (Learned p v) j refl ∙ follows.votes j other

    pub learned_within : (v : Action) → Follows old new → AreWithinRound (suc round) (new ++ Learned p v ∷ [])
    learned_within v follows = rounds_more new (Learned p v) follows.rounds (omega arith)
