-- Each node of the quorum votes, and the leader hears the votes until it learns the action.
use Rattle.std.proofs.Common.{◌≡◌, ℕ, suc, ◌<◌, ◌≤◌, true, false, Some, None, Ok, List, [], ◌∷◌, ◌++◌, length, inl, inr, refl, sym, ap, subst, ◌∙◌, arith}
use Rattle.rp_base.specs.Ballot.{ballot_of, round_of}
use Rattle.rp_base.specs.Promises.{makes_majority}
use Rattle.rp_base.specs.Proposals.{Proposal, without_proposal}
use Rattle.rp_base.specs.Records.{first_unlearned, learned_at}
use Rattle.rp_base.specs.Sets.{Has}
use Rattle.rp_base.specs.declared.action.Action.{Action}
use Rattle.rp_base.specs.declared.record.Rec.{Rec}
use Rattle.rp_base.specs.declared.record.Rec.TheVariants.{Voted, Learned}
use Rattle.rp_base.specs.declared.record.Vote.{Vote}
use Rattle.rp_base.proofs.Members.{has_split}
use Rattle.rp_model.specs.rp_codec.specs.Message.{Message}
use Rattle.rp_model.specs.rp_codec.specs.declared.packet.Body.TheVariants.{Accept, Accepted, Decided}
use Rattle.rp_model.specs.Effect as nodes
use Rattle.rp_model.specs.Effect.{Setting, running_effect}
use Rattle.rp_model.specs.Parts.{Running, Turn}
use Rattle.rp_model.specs.Says.{says, says_to_others, writes, notes}
use Rattle.rp_model.specs.World.{World, part_at}
use Rattle.rp_possible.proofs.Ballots.{is_of_round, is_owned}
use Rattle.rp_possible.proofs.Counts.{votes_of, vote_added, voted_by, none_elsewhere}
use Rattle.rp_possible.proofs.Growing.{Follows, HasPromised, one_voted}
use Rattle.rp_possible.proofs.Leading.{still_unlearned}
use Rattle.rp_possible.proofs.Packets.{part_last}
use Rattle.rp_possible.proofs.Plans.{hears, votes, notes_vote, learns}
use Rattle.rp_possible.specs.Rounds.{only_pending, left_pending, new_replies}
use Rattle.rp_possible.proofs.Stepping.{IsOn, IsMoved, with_written, known, known_self, delivered}
use Rattle.rp_possible.proofs.Walking.{IsBegun, within, is_node, IsNext, is_next, walked, few_done, all_done, wrote_self, wrote_other, wrote_nothing, is_other, AreSent, still_sent}

module _ {S : Type 0} (s : Setting S) (quorum : List ℕ) (t first x : ℕ) (from : World) (records : ℕ → List Rec) (pending : List Action) (round : ℕ) (begun : IsBegun s quorum x records round) (long : first ≤ length from.sent)
    (v : Action) (proposals : List Proposal) (alone : without_proposal proposals (first_unlearned (records x)) ≡ []) where
  abbrev p : ℕ
  p = first_unlearned (records x)

  abbrev b : ℕ
  b = ballot_of (suc round) x

  abbrev vote : Vote
  vote = record { ballot = b; action = v }

  abbrev knows : List ℕ → Running
  knows done = hears pending proposals (votes_of p vote done)

  -- these nodes voted and were heard, the others promised
  pub record IsVoting (done rest : List ℕ) : Type 0 where
    pub w : World
    pub now : ℕ → List Rec
    pub on : IsOn s quorum t first x from w now (knows done)
    pub promised : (y : ℕ) → Has y rest → HasPromised p round b (records y) (now y)
    pub voted : (y : ℕ) → Has y done → Follows p round (records y) (now y)
    pub packets : AreSent quorum first x w (Accept p b v)

  -- all of them voted, and the leader learns the action
  pub record IsLearned : Type 0 where
    pub w : World
    pub before : ℕ → List Rec
    pub grows : length from.sent ≤ length w.sent
    pub follows : (y : ℕ) → Has y quorum → Follows p round (records y) (before y)
    pub learned : IsMoved s quorum t first x from w
        (says_to_others s.config.nodes x (Decided p v) ++ new_replies s x pending (before x) (before x ++ Learned p v ∷ []))
        (with_written before x (Some (Learned p v))) (only_pending (left_pending s pending (before x) (before x ++ Learned p v ∷ [])))

  module _ (done : List ℕ) (y : ℕ) (rest : List ℕ) (is : quorum ≡ done ++ y ∷ rest) (voting : IsVoting done (y ∷ rest)) where
    next : IsNext s.config.nodes quorum done y rest
    next = is_next s.config.nodes quorum done y rest begun.bare.nodes is

    -- what each wrote once the node has voted
    abbrev wrote : ℕ → List Rec
    wrote = with_written voting.now y (Some (Voted p b v))

    abbrev answer : Message
    answer = says y (Accepted p b v) x

    votes_now : IsMoved s quorum t first x from voting.w (answer ∷ []) wrote (knows done)
    votes_now =
        let promised = voting.promised y (inl refl) in
        let packet = voting.packets y next.has in
        let node = is_node s quorum x records round begun x begun.bare.leader in
        delivered s quorum t first x from voting.w voting.now (knows done) (knows done) y packet.0 (says x (Accept p b v) y)
        (writes (Voted p b v) (known x y (knows done)) (answer ∷ [])) voting.on next.has packet.1 packet.2 refl tt
        (record {
          result = votes s y x (voting.now y) (known x y (knows done)) (within s quorum x records round begun x begun.bare.leader) p b begun.position v
              (is_owned (suc round) x node) promised.bound promised.below;
          becomes = refl;
          others = inr refl;
        })

    answer_there : part_at votes_now.after.sent (suc (length voting.w.sent)) ≡ Some answer
    answer_there = ap (λ (l : List Message). part_at l (suc (length voting.w.sent))) votes_now.sent ∙ part_last voting.w.sent answer

    answer_new : first < suc (length voting.w.sent)
    answer_new = omega (arith, long, voting.on.grows)

    -- the leader takes the vote
    taken : (after : Running) (turn : Turn) → turn.running ≡ after
        → running_effect s x (wrote x) (knows done) (nodes.Receive answer) ≡ Ok turn
        → IsMoved s quorum t first x from votes_now.after turn.sent (with_written wrote x turn.written) after
    taken after turn becomes result =
        delivered s quorum t first x from votes_now.after wrote (knows done) after x (suc (length voting.w.sent)) answer turn votes_now.on begun.bare.leader
        answer_new answer_there refl tt
        (record {
          result = ap (λ (r : Running). running_effect s x (wrote x) r (nodes.Receive answer)) (known_self x (knows done)) ∙ result;
          becomes = becomes ∙ sym (known_self x after);
          others = inl refl;
        })

    one_follows : Follows p round (records y) (wrote y)
    one_follows =
        let node = is_node s quorum x records round begun x begun.bare.leader in
        let low : round_of b ≡ suc round = is_of_round (suc round) x node in
        wrote_self (Follows p round (records y)) voting.now y (Some (Voted p b v))
        (one_voted p round (records y) (voting.now y) b v (voting.promised y (inl refl)) (omega (arith, low)))

    old_follow : (z : ℕ) → Has z done → Follows p round (records z) (wrote z)
    old_follow z h = wrote_other (Follows p round (records z)) voting.now y (Some (Voted p b v)) z (is_other y z done next.new h) (voting.voted z h)

    still_promised : (z : ℕ) → Has z rest → HasPromised p round b (records z) (wrote z)
    still_promised z h = wrote_other (HasPromised p round b (records z)) voting.now y (Some (Voted p b v)) z (is_other y z rest next.others h) (voting.promised z (inr h))

    one_is : (z : ℕ) → z ≡ y → Follows p round (records z) (wrote z)
    one_is z same = subst (λ (k : ℕ). Follows p round (records k) (wrote k)) (sym same) one_follows

    all_follow : (z : ℕ) → Has z quorum → Follows p round (records z) (wrote z)
    all_follow z h =
        elim (has_split z done (y ∷ rest) (subst (λ (l : List ℕ). Has z l) is h)) [
          | inl old ↦ old_follow z old
          | inr other ↦ elim other [ inl same ↦ one_is z same | inr later ↦ (still_promised z later).follows ]
        ]

    have_voted : (z : ℕ) → Has z (done ++ y ∷ []) → Follows p round (records z) (wrote z)
    have_voted z h =
        elim (has_split z done (y ∷ []) h) [
          | inl old ↦ old_follow z old
          | inr new ↦ elim new [ inl same ↦ one_is z same | inr none ↦ absurd none ]
        ]

    unlearned : learned_at (wrote x) p ≡ None
    unlearned = still_unlearned (records x) (wrote x) (all_follow x begun.bare.leader).applied

    place : p ≡ first_unlearned (wrote x)
    place = ap (λ (l : List Action). suc (length l)) (sym (all_follow x begun.bare.leader).applied)

    heard : makes_majority s.config.nodes p vote (votes_of p vote (done ++ y ∷ [])) ≡ false → IsVoting (done ++ y ∷ []) rest
    heard few =
        let moved = taken (knows (done ++ y ∷ [])) (notes (knows (done ++ y ∷ []))) refl
        (notes_vote s x p (wrote x) pending begun.position unlearned place b y v proposals (votes_of p vote done) (votes_of p vote (done ++ y ∷ []))
        (within s quorum x records round begun y next.has) (vote_added p vote y done next.new) few) in
        record {
          w = moved.after;
          now = with_written wrote x None;
          on = moved.on;
          promised = λ z h. wrote_nothing (HasPromised p round b (records z)) wrote x z (still_promised z h);
          voted = λ z h. wrote_nothing (Follows p round (records z)) wrote x z (have_voted z h);
          packets = still_sent quorum first x votes_now.after moved.after (Accept p b v) [] moved.sent
              (still_sent quorum first x voting.w votes_now.after (Accept p b v) (answer ∷ []) votes_now.sent voting.packets);
        }

    learns_now : makes_majority s.config.nodes p vote (votes_of p vote (done ++ y ∷ [])) ≡ true → IsLearned
    learns_now many =
        let left = only_pending (left_pending s pending (wrote x) (wrote x ++ Learned p v ∷ [])) in
        let packets = says_to_others s.config.nodes x (Decided p v) ++ new_replies s x pending (wrote x) (wrote x ++ Learned p v ∷ []) in
        record {
          w = votes_now.after;
          before = wrote;
          grows = votes_now.on.grows;
          follows = all_follow;
          learned = taken left (writes (Learned p v) left packets) refl
              (learns s x p (wrote x) pending begun.position unlearned place b y v proposals (votes_of p vote done) (votes_of p vote (done ++ y ∷ []))
              (within s quorum x records round begun y next.has) (vote_added p vote y done next.new) many alone (none_elsewhere p vote done));
        }

  more : (done : List ℕ) (y z : ℕ) (rest : List ℕ) → quorum ≡ done ++ y ∷ z ∷ rest → IsVoting done (y ∷ z ∷ rest) → IsVoting (done ++ y ∷ []) (z ∷ rest)
  more done y z rest is voting =
      heard done y (z ∷ rest) is voting
      (voted_by p vote s.config.nodes (done ++ y ∷ []) (next done y (z ∷ rest) is voting).are ∙ few_done s.config.nodes quorum done y z rest begun.bare.bare is)

  learns_last : (done : List ℕ) (y : ℕ) → quorum ≡ done ++ y ∷ [] → IsVoting done (y ∷ []) → IsLearned
  learns_last done y is voting =
      learns_now done y [] is voting
      (voted_by p vote s.config.nodes (done ++ y ∷ []) (next done y [] is voting).are ∙ all_done s.config.nodes quorum done y begun.bare.bare is)

  pub all_voted : (w : World) (now : ℕ → List Rec) → IsOn s quorum t first x from w now (hears pending proposals [])
      → ((y : ℕ) → Has y quorum → HasPromised p round b (records y) (now y)) → AreSent quorum first x w (Accept p b v) → IsLearned
  all_voted w now on promised packets =
      walked quorum IsVoting IsLearned more learns_last x begun.bare.leader
      (record {
        w = w;
        now = now;
        on = on;
        promised = promised;
        voted = λ y h. absurd h;
        packets = packets;
      })
