-- A server that begins by its records.
use Rattle.std.proofs.Common.{◌≡◌, ℕ, ◌≤◌, Option, List, [], length, refl, sym, ap, subst, ◌∙◌}
use Rattle.std.specs.Prelude.{option_and_then}
use Rattle.std.specs.FinMap.{get}
use Rattle.rp_base.specs.declared.action.Action.{Action}
use Rattle.rp_base.specs.declared.config.Config.{Config}
use Rattle.rp_base.specs.declared.record.Rec.{Rec}
use Rattle.rp_base.specs.Config.{IsRightConfig}
use Rattle.rp_base.specs.Right.{IsRightRecord}
use Rattle.std.specs.List.{AllByRecursion}
use Rattle.rp_proposer.specs.Proposing.{ProposerPart, restored}
use Rattle.rp_learner.specs.Learning.{Learning}
use Rattle.rp_log.specs.Contents.{Contents, Places}
use Rattle.rp_log.specs.Recorded.{LearnedAlike}
use Rattle.rp_machine.specs.Numbered.{Applied}
use Rattle.rp_server.specs.Invariant.{IsProposer, IsLearner, IsApplied, IsServer}

-- a log with the same places learned the same
pub same_learned : (records : List Rec) (log after : Contents) → after.places ≡ log.places → LearnedAlike records log → LearnedAlike records after
same_learned records log after same alike = λ i. ap (λ (p : Places). option_and_then (λ (o : Option Action). o) (get p i)) same ∙ alike i

-- all parts hang together
pub server_fresh : {S : Type 0} (me : ℕ) (config : Config) (records : List Rec) (proposer : ProposerPart) (learner : Learning) (log : Contents) (applied : Applied S) → IsRightConfig config → me ≤ config.nodes
    → AllByRecursion IsRightRecord records → proposer ≡ restored me config.nodes records → IsLearner config records (length log.taken) learner [] → IsApplied records log applied
    → IsServer me config records proposer learner [] log applied
server_fresh me config records proposer learner log applied sizes member right fresh learns applies = record {
  sizes = sizes;
  member = member;
  right = right;
  leads = subst (λ (p : ProposerPart). IsProposer me config records (length log.taken) p) (sym fresh)
      (record {
        node = refl;
        nodes = refl;
        started = refl;
        window = record { different = tt; inside = λ i h. absurd h };
        unlearned = λ i h. absurd h;
        right = tt;
      });
  learns = learns;
  applies = applies;
}
