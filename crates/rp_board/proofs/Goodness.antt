-- What a step keeps beside agreement: each part and each packet is within its ranges.
use Rattle.std.proofs.Common.{ℕ, List, inl, inr, sym, subst}
use mathlib.Core.Logic.{dite}
use native.Mathlib.Decide.{ℕ_discrete}
use Rattle.rp_base.specs.Sets.{Has}
use Rattle.rp_codec.specs.Message.{Message, IsPacket}
use Rattle.rp_model.specs.Effect.{Setting, Done}
use Rattle.rp_model.specs.Parts.{NodePart, TaskPart}
use Rattle.rp_agreement.specs.Answered.{IsKept}
use Rattle.rp_agreement.specs.Inputs.{NodeMoves, TaskMoves}
use Rattle.rp_agreement.specs.Ranges.{IsRangedPart, IsRangedStep}
use Rattle.rp_agreement.specs.Steps.{SentToo}
use Rattle.rp_board.specs.Rule.{IsGood}

all_packets : (sends sent later : List Message) → SentToo sends sent later → ((m : Message) → Has m sent → IsPacket m) → ((m : Message) → Has m sends → IsPacket m)
    → (m : Message) → Has m later → IsPacket m
all_packets sends sent later too old new m h = elim ((too m).0 h) [ inl before ↦ old m before | inr now ↦ new m now ]

pub node_good : {S : Type 0} (s : Setting S) (x : ℕ) (done : Done NodePart) (node after : ℕ → NodePart) (task : ℕ → TaskPart) (sent later : List Message)
    → IsGood s node task sent → IsRangedStep x done → NodeMoves x done node sent after later → IsKept s after task later → IsGood s after task later
node_good s x done node after task sent later good step moves kept = record {
  kept = kept;
  ranged = λ k. dite (ℕ_discrete k x)
      (λ e. subst (λ (j : ℕ). IsRangedPart (after j)) (sym e) (subst IsRangedPart (sym moves.part) step.part))
      (λ other. subst IsRangedPart (sym (moves.others k other)) (good.ranged k));
  packets = all_packets done.sends sent later moves.sends good.packets step.packets;
}

pub task_good : {S : Type 0} (s : Setting S) (t : ℕ) (done : Done TaskPart) (node : ℕ → NodePart) (task moved : ℕ → TaskPart) (sent later : List Message)
    → IsGood s node task sent → ((m : Message) → Has m done.sends → IsPacket m) → TaskMoves t done task sent moved later → IsKept s node moved later → IsGood s node moved later
task_good s t done node task moved sent later good packets moves kept = record {
  kept = kept;
  ranged = good.ranged;
  packets = all_packets done.sends sent later moves.sends good.packets packets;
}
