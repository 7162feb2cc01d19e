-- A node's steps as a learner are sound.
use Rattle.std.proofs.Common.{◌≡◌, ℕ, Bool, true, Option, Some, None, List, [], ◌∷◌, ◌++◌, length, drop, inl, inr, refl, sym, ap, subst}
use Rattle.std.specs.Prelude.{nat_eq, not, filter}
use Rattle.std.specs.List.{list_any}
use Rattle.rp_base.specs.declared.action.Action.{Action}
use Rattle.rp_base.specs.declared.reply.Answer.{Answer}
use Rattle.rp_base.specs.declared.record.Vote.{Vote}
use Rattle.rp_base.specs.declared.record.Rec.{Rec}
use Rattle.rp_base.specs.declared.record.Rec.TheVariants.{Learned}
use Rattle.rp_base.specs.Sets.{Has, with_member}
use Rattle.rp_base.specs.Records.{applied_of}
use Rattle.rp_base.specs.Promises.{HeardVote, same_heard, makes_majority, heard_elsewhere}
use Rattle.rp_base.specs.Proposals.{without_proposal}
use Rattle.rp_base.proofs.Members.{has_passing}
use Rattle.rp_codec.specs.Message.{Message}
use Rattle.rp_codec.specs.declared.packet.Body.TheVariants as bodies
use Rattle.rp_machine.specs.Replay.{counted_of, replay_answers}
use Rattle.rp_agreement.specs.Sound.{IsRunning}
use Rattle.rp_agreement.proofs.Turns.{IsSoundTurn, ArePlain, none_plain, one_plain, both_plain, mapped_plain, plain, runs_written}
use Rattle.rp_agreement.proofs.Counting.{majority_decides}
use Rattle.rp_agreement.proofs.Proposing.{member_or_new, stays_there}
use Rattle.rp_base.proofs.Apart.{without_apart}
use Rattle.rp_model.specs.Learner.{asks_for, learns}
use Rattle.rp_model.specs.Facts.{HasVoted, IsDecided}
use Rattle.rp_model.specs.Parts.{Running}
use Rattle.rp_model.specs.Pending.{is_answered_by, replies_to, stays}
use Rattle.rp_model.specs.Says.{says, says_to_task}

-- each vote of the list was sent
abbrev pub AreCast : List Message → List HeardVote → Type 0
AreCast sent heard = (a i : ℕ) (w : Vote) → (let h : HeardVote = (a, i, w) in Has h heard) → HasVoted sent a i w.ballot w.action

-- ---- votes that make a majority

pub decides : (nodes : ℕ) (sent : List Message) (i : ℕ) (vote : Vote) (heard : List HeardVote) → AreCast sent heard → makes_majority nodes i vote heard ≡ true
    → IsDecided nodes sent i vote.action
decides nodes sent i vote heard cast most = majority_decides nodes sent i vote heard (λ a there. cast a i vote there) most

pub heard_more : (sent : List Message) (heard : List HeardVote) (from i : ℕ) (vote : Vote) → AreCast sent heard → HasVoted sent from i vote.ballot vote.action
    → AreCast sent (with_member same_heard heard (from, i, vote))
heard_more sent heard from i vote cast stated a j w h =
    let one : HeardVote = (a, j, w) in
    let other : HeardVote = (from, i, vote) in
    elim (member_or_new same_heard one other heard h) [
      | inl old ↦ cast a j w old
      | inr same ↦
          subst (λ (k : ℕ). HasVoted sent k j w.ballot w.action) (sym (ap (λ (k : HeardVote). k.0) same))
          (subst (λ (k : ℕ). HasVoted sent from k w.ballot w.action) (sym (ap (λ (k : HeardVote). k.1) same))
          (subst (λ (u : Vote). HasVoted sent from i u.ballot u.action) (sym (ap (λ (k : HeardVote). k.2) same)) stated))
    ]

pub runs_heard : (sent : List Message) (records : List Rec) (running : Running) (heard : List HeardVote) → IsRunning sent records running → AreCast sent heard
    → IsRunning sent records (record running { heard = heard })
runs_heard sent records running heard runs cast = record { proposals = runs.proposals; apart = runs.apart; pending = runs.pending; heard = cast }

-- ---- replies, and questions for what is missing

replies_plain : (nodes x : ℕ) (sent : List Message) (records : List Rec) (pending : List Action) (given : List Answer) → ArePlain nodes x sent records (replies_to x pending given)
replies_plain nodes x sent records pending given =
    mapped_plain nodes x sent records (λ (answer : Answer). says_to_task x (bodies.Reply answer.number answer.reply) answer.task)
    (filter (λ (answer : Answer). list_any (is_answered_by answer) pending) given) (λ answer. record { from = refl; so = tt; no_offer = λ h. h })

pub asking_plain : (nodes x : ℕ) (sent : List Message) (records : List Rec) (from : ℕ) (missing : Option ℕ) → ArePlain nodes x sent records (asks_for x from missing)
asking_plain nodes x sent records from None = none_plain nodes x sent records
asking_plain nodes x sent records from (Some i) = one_plain nodes x sent records (says x (bodies.Ask i) from) (record { from = refl; so = tt; no_offer = λ h. h })

-- ---- an action is learned

-- a node that lets go what ended, and keeps some of what is pending, knows what it knew
runs_learned : (sent : List Message) (records : List Rec) (running : Running) (i : ℕ) (test : Action → Bool) → IsRunning sent records running
    → IsRunning sent records
    (record running { proposals = without_proposal running.proposals i; heard = heard_elsewhere running.heard i; pending = filter test running.pending })
runs_learned sent records running i test runs = record {
  proposals = λ p h. runs.proposals p (stays_there p i running.proposals h);
  apart = without_apart i running.proposals runs.apart;
  pending = λ c h. runs.pending c (has_passing test c running.pending h).0;
  heard = λ a j w h. let one : HeardVote = (a, j, w) in runs.heard a j w (has_passing (λ (k : HeardVote). not (nat_eq k.1 i)) one running.heard h).0;
}

module _ {S : Type 0} (next : S → Action → S) (answers : S → Action → List Answer) (begin : S) where
  pub learned_sound : (nodes x : ℕ) (records : List Rec) (sent : List Message) (running : Running) (i : ℕ) (v : Action) (packets following : List Message)
      → IsDecided nodes sent i v → IsRunning sent records running
      → ArePlain nodes x sent (records ++ Learned i v ∷ []) packets → ArePlain nodes x sent (records ++ Learned i v ∷ []) following
      → IsSoundTurn nodes x records sent (learns next answers begin x records running i v packets following)
  learned_sound nodes x records sent running i v packets following decided runs first last =
      let more = records ++ Learned i v ∷ [] in
      let before = applied_of records in
      let after = applied_of more in
      let given = replay_answers next answers begin after in
      let test = stays (counted_of next answers begin after) given (drop (length before) after) in
      let replies = replies_to x running.pending (drop (length (replay_answers next answers begin before)) given) in
      plain nodes x records sent (learns next answers begin x records running i v packets following) decided
      (both_plain nodes x sent more (packets ++ replies) following
      (both_plain nodes x sent more packets replies first (replies_plain nodes x sent more running.pending (drop (length (replay_answers next answers begin before)) given))) last)
      (runs_learned sent more running i test (runs_written sent records (Some (Learned i v)) running runs))
