-- One round: a leader decides its first unlearned position with a bare majority of nodes that know
-- nothing but their records.
use Rattle.std.proofs.Common.{◌≡◌, ◌≢◌, ℕ, suc, ◌≤◌, ◌<◌, ◌^◌, nat_eq, Some, List, [], ◌∷◌, ◌++◌, length, refl, sym, ap, subst, ◌∙◌, inl, inr, arith, append_assoc, length-append}
use Rattle.std.specs.Prelude.{not}
use Rattle.std.proofs.lemmas.Bool.{cases_eq, cond-false, eq-eqb, not_from_true}
use Rattle.rp_base.specs.Ballot.{ballot_of}
use Rattle.rp_base.specs.Promises.{action_or}
use Rattle.rp_base.specs.Proposals.{Proposal, without_proposal}
use Rattle.rp_model.specs.rp_codec.specs.declared.packet.Body.TheVariants.{Decided}
use Rattle.rp_model.specs.Says.{says_to_others}
use Rattle.rp_base.specs.Config.{IsRightConfig}
use Rattle.rp_base.specs.Records.{first_unlearned, last_vote_at}
use Rattle.rp_base.specs.Sets.{Has}
use Rattle.rp_base.specs.declared.action.Action.{Action}
use Rattle.rp_base.specs.declared.record.Rec.{Rec}
use Rattle.rp_base.specs.declared.record.Rec.TheVariants.{Learned}
use Rattle.rp_model.specs.Effect.{Setting}
use Rattle.rp_model.specs.Pending.{own_action}
use Rattle.rp_model.specs.World.{World}
use Rattle.rp_possible.specs.Rounds.{AreWithinRound, AreRunning, only_pending, kept_after, left_pending, new_replies, IsRound, IsBareQuorum}
use Rattle.rp_possible.proofs.Counts.{promises_of, none_highest}
use Rattle.rp_possible.proofs.Gathering.{offered, all_promised}
use Rattle.rp_possible.proofs.Growing.{one_learned, learned_within}
use Rattle.rp_possible.proofs.Leading.{led_up}
use Rattle.rp_possible.proofs.Plans.{offering}
use Rattle.rp_possible.proofs.Stepping.{with_written, written_self}
use Rattle.rp_possible.proofs.Voting.{IsLearned, all_voted}
use Rattle.rp_possible.proofs.Walking.{IsBegun, wrote_self, wrote_other}

module _ {S : Type 0} (s : Setting S) (quorum : List ℕ) (t first : ℕ) (w : World) (x : ℕ) (records : ℕ → List Rec) (pending : List Action) (round : ℕ) (begun : IsBegun s quorum x records round) (long : first ≤ length w.sent) where
  abbrev p : ℕ
  p = first_unlearned (records x)

  abbrev v : Action
  v = offered s quorum t first x w records pending round begun long

  abbrev proposals : List Proposal
  proposals = offering p (ballot_of (suc round) x) (own_action (kept_after s (records x)) [] pending) (promises_of (λ y. last_vote_at (records y) p) quorum) ∷ []

  alone : without_proposal proposals p ≡ []
  alone = cond-false (not (nat_eq p p)) proposals [] (not_from_true (nat_eq p p) (eq-eqb p p refl))

  module _ (learned : IsLearned s quorum t first x w records pending round begun long v proposals alone) where
    abbrev before : ℕ → List Rec
    before = learned.before

    abbrev later : ℕ → List Rec
    later = with_written before x (Some (Learned p v))

    votes_elsewhere : (y j : ℕ) → Has y quorum → j ≢ p → last_vote_at (later y) j ≡ last_vote_at (records y) j
    votes_elsewhere y j has other =
        elim (cases_eq y x) [
          | inl same ↦ subst (λ (k : ℕ). last_vote_at (later k) j ≡ last_vote_at (records k) j) (sym same)
              (wrote_self (λ r. last_vote_at r j ≡ last_vote_at (records x) j) before x (Some (Learned p v)) (one_learned p round (records x) (before x) v (learned.follows x begun.bare.leader) j other))
          | inr apart ↦ wrote_other (λ r. last_vote_at r j ≡ last_vote_at (records y) j) before x (Some (Learned p v)) y apart ((learned.follows y has).votes j other)
        ]

    within_next : (y : ℕ) → Has y quorum → AreWithinRound (suc round) (later y)
    within_next y has =
        elim (cases_eq y x) [
          | inl same ↦ subst (λ (k : ℕ). AreWithinRound (suc round) (later k)) (sym same)
              (wrote_self (AreWithinRound (suc round)) before x (Some (Learned p v)) (learned_within p round (records x) (before x) v (learned.follows x begun.bare.leader)))
          | inr apart ↦ wrote_other (AreWithinRound (suc round)) before x (Some (Learned p v)) y apart (learned.follows y has).rounds
        ]

    is_round : IsRound s quorum t first w x records pending round
    is_round =
        let learns : later x ≡ before x ++ Learned p v ∷ [] = written_self before x (Some (Learned p v)) in
        let others = says_to_others s.config.nodes x (Decided p v) in
        let sent : learned.learned.after.sent ≡ learned.w.sent ++ (others ++ new_replies s x pending (before x) (later x)) =
        subst (λ (r : List Rec). learned.learned.after.sent ≡ learned.w.sent ++ (others ++ new_replies s x pending (before x) r)) (sym learns) learned.learned.sent in
        record {
          events = learned.learned.on.events;
          after = learned.learned.after;
          goes_on = learned.learned.on.goes_on;
          tasks = learned.learned.on.tasks;
          v = v;
          before = before x;
          applied = (learned.follows x begun.bare.leader).applied;
          later = later;
          learns = learns;
          running = subst (λ (r : List Rec). AreRunning learned.learned.after quorum x later (only_pending (left_pending s pending (before x) r))) (sym learns) learned.learned.on.are;
          votes = votes_elsewhere;
          rounds = within_next;
          own = λ none. ap (action_or (own_action (kept_after s (records x)) [] pending)) (none_highest (λ y. last_vote_at (records y) p) quorum none);
          sends = learned.w.sent ++ others;
          sent = sent ∙ sym (append_assoc learned.w.sent others (new_replies s x pending (before x) (later x)));
          grows = omega (arith, learned.grows, length-append learned.w.sent others);
        }

module _ {S : Type 0} (s : Setting S) where
  pub a_round : (quorum : List ℕ) (t first : ℕ) (w : World) (x : ℕ) (records : ℕ → List Rec) (pending : List Action) (round : ℕ)
      → IsRightConfig s.config → IsBareQuorum s quorum x → first ≤ length w.sent
      → AreRunning w quorum x records (only_pending pending)
      → first_unlearned (records x) ≤ s.config.max_positions
      → ((y : ℕ) → Has y quorum → AreWithinRound round (records y)) → suc round < 2 ^ 32
      → IsRound s quorum t first w x records pending round
  a_round quorum t first w x records pending round config bare long are position rounds left =
      let begun : IsBegun s quorum x records round = record { config = config; bare = bare; position = position; rounds = rounds; left = left } in
      let offers = all_promised s quorum t first x w records pending round begun long (led_up s quorum t first x w records pending round begun long are) in
      is_round s quorum t first w x records pending round begun long
      (all_voted s quorum t first x w records pending round begun long (v s quorum t first w x records pending round begun long) (proposals s quorum t first w x records pending round begun long)
      (alone s quorum t first w x records pending round begun long) offers.w offers.now offers.on offers.promised offers.packets)
