-- A learner that counts one vote more.
use Rattle.std.proofs.Common.{◌≡◌, ℕ, suc, ◌+◌, ◌<◌, ◌≤◌, Bool, false, cond, is_some, Option, Some, None, List, length, refl, sym, ap, subst, ◌∙◌, inl, inr, arith}
use Rattle.std.specs.Prelude.{nat_le}
use Rattle.std.proofs.lemmas.Bool.{cases_Bool, leb-false, cond-true, cond-false}
use Rattle.rp_base.specs.declared.action.Action.{Action}
use Rattle.rp_base.specs.declared.config.Config.{Config}
use Rattle.rp_base.specs.declared.record.Vote.{Vote}
use Rattle.rp_base.specs.declared.record.Rec.{Rec}
use Rattle.rp_base.specs.Sets.{Has, with_member}
use Rattle.rp_base.specs.Promises.{HeardVote, same_heard, makes_majority}
use Rattle.rp_base.specs.Records.{learned_at, first_unlearned}
use Rattle.rp_base.proofs.Members.{has_with, same_with}
use Rattle.rp_base.proofs.Sameness.{heard_decides}
use Rattle.rp_proposer.specs.Proposing.{ProposerPart}
use Rattle.rp_learner.specs.Learning.{Learning}
use Rattle.rp_learner.specs.Status.{SameLearning, NotesVote, IsOneMore, is_beyond, is_settled, heard_with, status_with, with_status}
use Rattle.rp_learner.specs.declared.learner.VoteStatus.{VoteStatus}
use Rattle.rp_learner.specs.declared.learner.VoteStatus.TheVariants.{Counting, Learned, Known, Beyond}
use Rattle.rp_learner.proofs.Alike.{status_alike, settled_alike}
use Rattle.rp_log.specs.Contents.{Contents}
use Rattle.rp_machine.specs.Numbered.{Applied}
use Rattle.rp_server.specs.Status.{status_of}
use Rattle.rp_server.specs.Invariant.{IsLearner, IsServer}

-- what the learner answers is what the votes heard say
pub status_is : (config : Config) (records : List Rec) (taken : ℕ) (learner : Learning) (votes : List HeardVote) (from i : ℕ) (vote : Vote) → IsLearner config records taken learner votes
    → suc taken ≡ first_unlearned records → 1 ≤ i → status_with learner from i vote ≡ status_of config.nodes records votes from i vote
status_is config records taken learner votes from i vote l front position =
    let stated : Learning = record { nodes = config.nodes; max_positions = config.max_positions; first = learner.first; heard = votes; settled = learner.settled } in
    let same : SameLearning learner stated = record { nodes = l.nodes; positions = l.positions; first = refl; heard = l.heard; settled = λ j. ((λ t. t), (λ t. t)) } in
    let counted : VoteStatus = cond (makes_majority config.nodes i vote (with_member same_heard votes (from, i, vote))) Learned Counting in
    let at : learner.first ≡ first_unlearned records = l.first ∙ front in
    let far : Bool = nat_le (first_unlearned records + 64) i in
    status_alike learner stated from i vote same
    ∙ ap (λ (n : ℕ). cond (nat_le (n + 64) i) Beyond (cond (is_settled learner i) Known counted)) at
    ∙ elim (cases_Bool far) [
      | inl beyond ↦ cond-true far Beyond (cond (is_settled learner i) Known counted) beyond ∙ sym (cond-true far Beyond (cond (is_some (learned_at records i)) Known counted) beyond)
      | inr no_more ↦
          let within : i < learner.first + 64 = omega (arith, at, leb-false (first_unlearned records + 64) i no_more) in
          ap (λ (b : Bool). cond far Beyond (cond b Known counted)) (l.settled i position within)
    ]

-- where a vote is counted, its position is an open one of the window
open_by : (l : Learning) (from i : ℕ) (vote : Vote) → status_with l from i vote ≡ Counting → (is_beyond l i ≡ false) × (is_settled l i ≡ false)
open_by l from i vote counting =
    let counted : VoteStatus = cond (makes_majority l.nodes i vote (heard_with l from i vote)) Learned Counting in
    elim (cases_Bool (is_beyond l i)) [
      | inl far ↦ let never : Beyond ≡ Counting = sym (cond-true (is_beyond l i) Beyond (cond (is_settled l i) Known counted) far) ∙ counting in absurd (cc)
      | inr near ↦ elim (cases_Bool (is_settled l i)) [
        | inl known ↦
            let never : Known ≡ Counting =
            sym (cond-false (is_beyond l i) Beyond (cond (is_settled l i) Known counted) near ∙ cond-true (is_settled l i) Known counted known) ∙ counting in
            absurd (cc)
        | inr unsettled ↦ (near, unsettled)
      ]
    ]

none_is : (o : Option Action) → is_some o ≡ false → o ≡ None
none_is None e = refl
none_is (Some v) e = absurd (cc)

-- one vote more is counted
pub hears_more : (config : Config) (records : List Rec) (taken : ℕ) (before after : Learning) (votes : List HeardVote) (from i : ℕ) (vote : Vote) → IsLearner config records taken before votes → 1 ≤ i
    → status_with before from i vote ≡ Counting → NotesVote before from i vote after → IsLearner config records taken after (with_member same_heard votes (from, i, vote))
hears_more config records taken before after votes from i vote l position counting noted =
    let same : SameLearning after (with_status before from i vote Counting) = subst (λ (s : VoteStatus). SameLearning after (with_status before from i vote s)) counting noted in
    let more = same_with same_heard heard_decides (from, i, vote) before.heard votes l.heard in
    let this : HeardVote = (from, i, vote) in
    let free = open_by before from i vote counting in
    let within : i < before.first + 64 = leb-false (before.first + 64) i free.0 in
    let unlearned : learned_at records i ≡ None = none_is (learned_at records i) (sym (l.settled i position within) ∙ free.1) in
    record {
      nodes = same.nodes ∙ l.nodes;
      positions = same.positions ∙ l.positions;
      first = same.first ∙ l.first;
      heard = λ h. ((λ t. (more h).0 ((same.heard h).0 t)), (λ t. (same.heard h).1 ((more h).1 t)));
      open_votes = λ h m. elim (has_with same_heard heard_decides h this votes m) [
        | inl old ↦ let o = l.open_votes h old in record { position = o.position; within = omega (arith, o.within, same.first); unlearned = o.unlearned }
        | inr new ↦
            let at : h.1 ≡ i = ap (λ (k : HeardVote). k.1) new in
            record { position = omega (arith, position, at); within = omega (arith, within, at, same.first); unlearned = ap (learned_at records) at ∙ unlearned }
      ];
      settled = λ j low near. settled_alike after (with_status before from i vote Counting) j same ∙ l.settled j low (omega (arith, near, same.first));
    }

-- a vote that the learner had not heard is none of those
pub none_of_those : (config : Config) (records : List Rec) (taken : ℕ) (learner : Learning) (votes : List HeardVote) (from i : ℕ) (vote : Vote) → IsLearner config records taken learner votes
    → IsOneMore learner from i vote → ¬ Has {A = HeardVote} (from, i, vote) votes
none_of_those config records taken learner votes from i vote l more = λ h. more.unheard ((l.heard (from, i, vote)).1 h)

-- records that learn the same change nothing for a learner
pub learns_alike : (config : Config) (records after : List Rec) (taken : ℕ) (learner : Learning) (votes : List HeardVote) → ((j : ℕ) → learned_at after j ≡ learned_at records j)
    → IsLearner config records taken learner votes → IsLearner config after taken learner votes
learns_alike config records after taken learner votes same l = record {
  nodes = l.nodes;
  positions = l.positions;
  first = l.first;
  heard = l.heard;
  open_votes = λ h m. let o = l.open_votes h m in record { position = o.position; within = o.within; unlearned = same h.1 ∙ o.unlearned };
  settled = λ j low within. l.settled j low within ∙ ap is_some (sym (same j));
}

module _ {S : Type 0} (me : ℕ) (config : Config) (records : List Rec) (proposer : ProposerPart) (learner after : Learning) (votes heard : List HeardVote) (log : Contents) (applied : Applied S) where
  -- the same parts with another learner
  pub server_hearing : IsServer me config records proposer learner votes log applied → IsLearner config records (length log.taken) after heard → IsServer me config records proposer after heard log applied
  server_hearing t learns = record {
    sizes = t.sizes;
    member = t.member;
    right = t.right;
    leads = t.leads;
    learns = learns;
    applies = t.applies;
  }
