-- Above a decided ballot its action alone is offered. Lamport, "Paxos Made Simple", section 2.2: P2c keeps
-- P2b, by induction on the ballot.
use Rattle.std.proofs.Common.{◌≡◌, ℕ, zero, suc, ◌<◌, ◌≤◌, Some, List, length, inl, inr, refl, sym, ◌∙◌, subst, arith}
use Rattle.std.proofs.lemmas.Bool.{cases_eq, cases_order}
use Rattle.rp_base.specs.declared.action.Action.{Action}
use Rattle.rp_base.specs.declared.record.Vote.{Vote}
use Rattle.rp_base.specs.declared.record.Rec.TheVariants.{Voted}
use Rattle.rp_base.specs.Sets.{Has}
use Rattle.rp_base.specs.Majority.{majority_of, AreNodes}
use Rattle.rp_base.proofs.SetsIntersect.{sets_intersect}
use Rattle.rp_codec.specs.Message.{Message}
use Rattle.rp_model.specs.Facts.{HasPromised, HasVoted, IsOffered, IsDecided}
use Rattle.rp_model.specs.Parts.{NodePart}
use Rattle.rp_agreement.specs.Asked.{IsAsked}
use Rattle.rp_agreement.specs.Justified.{IsJustified}
use Rattle.rp_agreement.specs.Sound.{IsSound}
use Rattle.rp_agreement.specs.Decided.{IsCast}
use Rattle.rp_agreement.proofs.Offering.{promise_kept, offer_asked}
use Rattle.rp_agreement.proofs.Highest.{highest_reported}

-- two majorities of the same nodes share one
majorities_share : (nodes : ℕ) (xs ys : List ℕ) → AreNodes nodes xs → AreNodes nodes ys → majority_of nodes ≤ length xs → majority_of nodes ≤ length ys → (a : ℕ) × Has a xs × Has a ys
majorities_share nodes xs ys left right some more = sets_intersect nodes xs ys left.distinct right.distinct left.members right.members (omega (arith, some, more))

module _ {nodes : ℕ} {node : ℕ → NodePart} {sent : List Message} (sound : IsSound nodes node sent) where
  -- a vote that was sent is in its node's records
  pub vote_kept : (a i b : ℕ) (v : Action) → HasVoted sent a i b v → Has (Voted i b v) (node a).records
  vote_kept a i b v stated = (sound.says _ stated.1).1

  -- what is offered is justified
  pub offer_justified : (i b : ℕ) (v : Action) → IsOffered sent i b v → IsJustified nodes sent i b v
  offer_justified i b v offered = (sound.says _ offered.2).1.1

  -- what is decided is cast, in its ballot
  pub decided_cast : (i : ℕ) (v : Action) (decided : IsDecided nodes sent i v) → IsCast nodes node i decided.ballot v
  decided_cast i v decided =
      record {
        voters = decided.voters;
        members = decided.members;
        majority = decided.majority;
        voted = λ a voter. vote_kept a i decided.ballot v (decided.voted a voter);
      }

  -- what is cast is offered, in its ballot
  pub cast_offered : (i b : ℕ) (v : Action) → IsCast nodes node i b v → IsOffered sent i b v
  cast_offered i b v cast =
      let one = majorities_share nodes cast.voters cast.voters cast.members cast.members cast.majority cast.majority in
      sound.voted one.0 i b v (cast.voted one.0 one.1)

  -- a vote that a promise reports was cast for what is offered in its ballot, which is lower
  vote_reported : (a i c : ℕ) (vote : Vote) → HasPromised sent a i c (Some vote) → IsOffered sent i vote.ballot vote.action × (vote.ballot < c)
  vote_reported a i c vote promised =
      let reported = (promise_kept nodes node sent sound a i c (Some vote) promised).1.cast vote refl in
      (sound.voted a i vote.ballot vote.action reported.0, reported.1)

  -- in the ballot in which an action is cast it alone is offered
  same_ballot : (i b c : ℕ) (v w : Action) → IsCast nodes node i b v → b ≡ c → IsOffered sent i c w → w ≡ v
  same_ballot i b c v w cast same offered = sound.one_offer i c w v offered (subst (λ (d : ℕ). IsOffered sent i d v) same (cast_offered i b v cast))

  -- What is offered above the ballot in which an action is cast is the action of a vote from there up to
  -- below the offer: the two majorities share a node, whose promise reports such a vote.
  takes_from : (i b c : ℕ) (v w : Action) → IsCast nodes node i b v → b < c → IsOffered sent i c w
      → (vote : Vote) × (w ≡ vote.action) × IsOffered sent i vote.ballot vote.action × (b ≤ vote.ballot) × (vote.ballot < c)
  takes_from i b c v w cast above offered =
      let justified = offer_justified i c w offered in
      let shared = majorities_share nodes justified.promisers cast.voters justified.members cast.members justified.majority cast.majority in
      let promise = justified.promised shared.0 shared.1 in
      let reports = (promise_kept nodes node sent sound shared.0 i c promise.0 (justified.stated shared.0 promise.0 promise.1)).1 in
      let last = reports.covers b v (cast.voted shared.0 shared.2) above in
      let highest = highest_reported shared.0 promise.0 last.0 justified.promises promise.1 last.1 in
      let vote = highest.0 in
      let reported = vote_reported highest.3 i c vote (justified.stated highest.3 (Some vote) highest.4) in
      (vote, justified.highest vote highest.1, reported.0, omega (arith, last.2, highest.2), reported.1)

  -- by induction on a bound of the higher ballot
  follows_below : (i b : ℕ) (v : Action) → IsCast nodes node i b v → (most c : ℕ) (w : Action) → c < most → b < c → IsOffered sent i c w → w ≡ v
  follows_below i b v cast zero c w below above offered = absurd (omega arith)
  follows_below i b v cast (suc most) c w below above offered =
      let taken = takes_from i b c v w cast above offered in
      let vote = taken.0 in
      taken.1
      ∙ elim (cases_eq b vote.ballot) [
        | inl same ↦ same_ballot i b vote.ballot v vote.action cast same taken.2
        | inr other ↦ follows_below i b v cast most vote.ballot vote.action (omega (arith, below, taken.4)) (omega (arith, other, taken.3)) taken.2
      ]

  -- above the ballot in which an action is cast it alone is offered
  pub follows : (i b : ℕ) (v : Action) → IsCast nodes node i b v → (c : ℕ) (w : Action) → b < c → IsOffered sent i c w → w ≡ v
  follows i b v cast c w above offered = follows_below i b v cast (suc c) c w (omega arith) above offered

  -- two actions that are cast at a position are one
  pub one_cast : (i b c : ℕ) (v w : Action) → IsCast nodes node i b v → IsCast nodes node i c w → v ≡ w
  one_cast i b c v w left right =
      elim (cases_order b c) [
        | inl same ↦ sym (same_ballot i b c v w left same (cast_offered i c w right))
        | inr other ↦ elim other [
          | inl below ↦ sym (follows i b v left c w below (cast_offered i c w right))
          | inr above ↦ follows i c w right b v above (cast_offered i b v left)
        ]
      ]

  -- two decided actions are one
  pub one_decided : (i : ℕ) (v w : Action) → IsDecided nodes sent i v → IsDecided nodes sent i w → v ≡ w
  one_decided i v w left right = one_cast i left.ballot right.ballot v w (decided_cast i v left) (decided_cast i w right)

  -- what is decided was asked for
  pub decided_asked : (i : ℕ) (v : Action) → IsDecided nodes sent i v → IsAsked sent v
  decided_asked i v decided = offer_asked nodes node sent sound i decided.ballot v (cast_offered i decided.ballot v (decided_cast i v decided))
