-- A leader with nothing pending leads on while some node of the majority has voted at its next
-- position; then it has learned all that is decided.
use Rattle.std.proofs.Common.{◌≡◌, ℕ, zero, suc, ◌+◌, ◌<◌, ◌≤◌, ◌^◌, ◌⊎◌, Option, Some, None, List, [], ◌∷◌, ◌++◌, length, inl, inr, refl, sym, ap, subst, ◌∙◌, arith, length-append}
use Rattle.std.proofs.lemmas.Bool.Decides.{leb_tells}
use Rattle.rp_base.specs.Config.{IsRightConfig}
use Rattle.rp_base.specs.Records.{applied_of, first_unlearned, last_vote_at}
use Rattle.rp_base.specs.Sets.{Has}
use Rattle.rp_base.specs.declared.action.Action.{Action}
use Rattle.rp_base.specs.declared.record.Rec.{Rec}
use Rattle.rp_base.specs.declared.record.Rec.TheVariants.{Learned}
use Rattle.rp_base.specs.declared.record.Vote.{Vote}
use Rattle.rp_codec.specs.Message.{Message}
use Rattle.rp_model.specs.Effect.{Setting}
use Rattle.rp_model.specs.Events.{Event}
use Rattle.rp_model.specs.World.{World}
use Rattle.rp_possible.specs.Rounds.{GoesOnBy, AreWithinRound, AreRunning, only_pending, new_replies, IsRound, IsBareQuorum}
use Rattle.rp_possible.proofs.Round.{a_round}
use Rattle.rp_possible.proofs.Runs.{learned_next}
use Rattle.rp_progress.proofs.BareQuorums.{goes_then}

-- none of these nodes, which have these records, has a vote at the position
abbrev pub NoVotes : (ℕ → List Rec) → List ℕ → ℕ → Type 0
NoVotes records nodes i = (y : ℕ) → Has y nodes → last_vote_at (records y) i ≡ None

no_votes_or_some : (records : ℕ → List Rec) (ys : List ℕ) (i : ℕ) → NoVotes records ys i ⊎ (¬ NoVotes records ys i)
no_votes_or_some records [] i = inl (λ y h. absurd h)
no_votes_or_some records (y ∷ ys) i = by (last_vote_at (records y) i) refl (no_votes_or_some records ys i)
  where
    by : (o : Option Vote) → last_vote_at (records y) i ≡ o → NoVotes records ys i ⊎ (¬ NoVotes records ys i) → NoVotes records (y ∷ ys) i ⊎ (¬ NoVotes records (y ∷ ys) i)
    by (Some vote) is others = inr (λ all. absurd (let e : None ≡ Some vote = sym (all y (inl refl)) ∙ is in cc))
    by None is (inr some) = inr (λ all. some (λ z h. all z (inr h)))
    by None is (inl others) = inl (λ z h. elim h [
      | inl same ↦ subst (λ (u : ℕ). last_vote_at (records u) i ≡ None) (sym same) is
      | inr later ↦ others z later
    ])

module _ {S : Type 0} (s : Setting S) (quorum : List ℕ) (t first x : ℕ) where
  -- ---- after a round

  module _ (w : World) (records : ℕ → List Rec) (pending : List Action) (round : ℕ) (turn : IsRound s quorum t first w x records pending round) where
    -- what it learned is applied next
    pub applied_next : (further : List Action) × (applied_of (turn.later x) ≡ applied_of (records x) ++ turn.v ∷ further)
    applied_next =
        let place : first_unlearned turn.before ≡ first_unlearned (records x) = ap (λ (list : List Action). suc (length list)) turn.applied in
        let next = learned_next turn.before turn.v in (
          next.0,
          ap (λ (list : List Rec). applied_of list) turn.learns
              ∙ ap (λ (p : ℕ). applied_of (turn.before ++ Learned p turn.v ∷ [])) (sym place)
              ∙ next.1
              ∙ ap (λ (list : List Action). list ++ turn.v ∷ next.0) turn.applied,
        )

    -- so more is applied
    unlearned_more : first_unlearned (records x) < first_unlearned (turn.later x)
    unlearned_more =
        let next = applied_next in
        let long : length (applied_of (turn.later x)) ≡ length (applied_of (records x)) + suc (length next.0) =
        ap (λ (list : List Action). length list) next.1 ∙ length-append (applied_of (records x)) (turn.v ∷ next.0) in
        omega (arith, long)

    sent_more : length w.sent ≤ length turn.after.sent
    sent_more =
        let replies = new_replies s x pending turn.before (turn.later x) in
        let long : length turn.after.sent ≡ length turn.sends + length replies =
        ap (λ (list : List Message). length list) turn.sent ∙ length-append turn.sends replies in
        omega (arith, long, turn.grows)

  -- ---- round after round

  -- The leader has nothing pending. It leads next at a position up to the limit where no node of the quorum has voted, and a ballot is left for that; or it has
  -- learned all positions up to the limit. Where nobody had voted nobody has.
  pub record CaughtUp (limit : ℕ) (w : World) (records : ℕ → List Rec) : Type 0 where
    pub events : List Event
    pub after : World
    pub goes_on : GoesOnBy s quorum t first w events after
    pub tasks : after.tasks ≡ w.tasks
    pub grows : length w.sent ≤ length after.sent
    pub later : ℕ → List Rec
    pub running : AreRunning after quorum x later (only_pending [])
    pub unvoted : (i : ℕ) → NoVotes records quorum i → NoVotes later quorum i
    pub round : ℕ
    pub within : (y : ℕ) → Has y quorum → AreWithinRound round (later y)
    pub ends : ((first_unlearned (later x) ≤ limit) × (suc round < 2 ^ 32) × NoVotes later quorum (first_unlearned (later x))) ⊎ (limit < first_unlearned (later x))

  module _ (limit : ℕ) (w : World) (records : ℕ → List Rec) (round : ℕ) where
    stands : AreRunning w quorum x records (only_pending []) → ((y : ℕ) → Has y quorum → AreWithinRound round (records y))
        → ((first_unlearned (records x) ≤ limit) × (suc round < 2 ^ 32) × NoVotes records quorum (first_unlearned (records x))) ⊎ (limit < first_unlearned (records x)) → CaughtUp limit w records
    stands running within ends = record {
      events = [];
      after = w;
      goes_on = refl;
      tasks = refl;
      grows = omega arith;
      later = records;
      running = running;
      unvoted = λ i none. none;
      round = round;
      within = within;
      ends = ends;
    }

    -- a round at a position where some node has voted, and what comes then
    goes_from : (turn : IsRound s quorum t first w x records [] round) → (¬ NoVotes records quorum (first_unlearned (records x))) → CaughtUp limit turn.after turn.later → CaughtUp limit w records
    goes_from turn some rest = record {
      events = turn.events ++ rest.events;
      after = rest.after;
      goes_on = goes_then s quorum t first w turn.events turn.after rest.events rest.after turn.goes_on rest.goes_on;
      tasks = rest.tasks ∙ turn.tasks;
      grows = let here = sent_more w records [] round turn in omega (arith, here, rest.grows);
      later = rest.later;
      running = rest.running;
      unvoted = λ i none. rest.unvoted i (λ y h. turn.votes y i h (λ same. some (λ z there. subst (λ (p : ℕ). last_vote_at (records z) p ≡ None) same (none z there))) ∙ none y h);
      round = rest.round;
      within = rest.within;
      ends = rest.ends;
    }

  pub catch_up : IsRightConfig s.config → IsBareQuorum s quorum x → (n limit : ℕ) (w : World) (records : ℕ → List Rec) (round : ℕ) → first ≤ length w.sent
      → AreRunning w quorum x records (only_pending []) → limit ≤ s.config.max_positions
      → limit < first_unlearned (records x) + n → round + n < 2 ^ 32 → ((y : ℕ) → Has y quorum → AreWithinRound round (records y))
      → CaughtUp limit w records
  catch_up right bare zero limit w records round enough running in_log near rounds within = stands limit w records round running within (inr (omega (arith, near)))
  catch_up right bare (suc n) limit w records round enough running in_log near rounds within =
      elim (leb_tells (first_unlearned (records x)) limit) [
        | inr beyond ↦ stands limit w records round running within (inr beyond.1)
        | inl left ↦ elim (no_votes_or_some records quorum (first_unlearned (records x))) [
          | inl none ↦ stands limit w records round running within (inl (left.1, omega (arith, rounds), none))
          | inr some ↦
              let low = left.1 in
              let turn = a_round s quorum t first w x records [] round right bare enough running (omega (arith, low, in_log)) within (omega (arith, rounds)) in
              let more = unlearned_more w records [] round turn in
              let long = sent_more w records [] round turn in
              goes_from limit w records round turn some
              (catch_up right bare n limit turn.after turn.later (suc round) (omega (arith, enough, long)) turn.running in_log (omega (arith, near, more)) (omega (arith, rounds)) turn.rounds)
        ]
      ]
