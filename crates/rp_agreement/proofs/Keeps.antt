-- A sound step of one node keeps the invariant of the world.
use Rattle.std.proofs.Common.{◌≡◌, ◌≢◌, ℕ, Option, Some, List, ◌⊎◌, inl, inr, refl, sym, ap, subst, ◌∙◌}
use Rattle.std.proofs.lemmas.Bool.{cases_eq}
use Rattle.rp_base.specs.declared.action.Action.{Action}
use Rattle.rp_base.specs.declared.record.Rec.{Rec}
use Rattle.rp_base.specs.declared.record.Rec.TheVariants.{Started, Voted, Learned}
use Rattle.rp_base.specs.declared.proposal.Phase.TheVariants.{Preparing}
use Rattle.rp_base.specs.Ballot.{owner_of}
use Rattle.rp_base.specs.Sets.{Has}
use Rattle.rp_base.specs.Proposals.{Proposal}
use Rattle.rp_codec.specs.Message.{Message}
use Rattle.rp_codec.specs.declared.packet.Party.{Party}
use Rattle.rp_codec.specs.declared.packet.Party.TheVariants.{Node, Task, Audit}
use Rattle.rp_codec.specs.declared.packet.Body.{Body}
use Rattle.rp_model.specs.Parts.{Running}
use Rattle.rp_model.specs.Parts.{NodePart}
use Rattle.rp_model.specs.Parts.{with_record}
use Rattle.rp_model.specs.Facts.{IsOffered, IsDecided}
use Rattle.rp_agreement.specs.Sound.{IsMember, IsSo, SaysSo, IsRunning, IsSound}
use Rattle.rp_agreement.specs.Steps.{Happens, MayWrite, IsSoundStep}
use Rattle.rp_agreement.proofs.RecordGrowth.{record_or_new}
use Rattle.rp_agreement.proofs.Sending.{Within, promised_more, voted_more, offered_more, decided_more, asked_more, own_asked_more, so_sent, so_written}

-- an offer after the step was there before it or is one of the packets
offered_split : (sent packets after : List Message) → ((m : Message) → Has m after → Has m sent ⊎ Has m packets)
    → (i b : ℕ) (v : Action) → IsOffered after i b v → IsOffered sent i b v ⊎ IsOffered packets i b v
offered_split sent packets after more i b v h =
    elim (more _ h.2) [ inl old ↦ inl (h.0, h.1, old) | inr new ↦ inr (h.0, h.1, new) ]

-- what a node knows stays so, as packets are sent that offer nothing in its proposals
pub running_more : (sent packets after : List Message) (records : List Rec) (running : Running)
    → Within sent after → ((m : Message) → Has m after → Has m sent ⊎ Has m packets)
    → ((p : Proposal) → Has p running.proposals → p.phase ≡ Preparing → (v : Action) → ¬ IsOffered packets p.position p.ballot v)
    → IsRunning sent records running → IsRunning after records running
running_more sent packets after records running in_after more waits old = record {
  proposals = λ p is. let before = old.proposals p is in record {
    started = before.started;
    promised = λ a last h. promised_more sent after in_after a p.position p.ballot last (before.promised a last h);
    asked = own_asked_more sent after in_after p.own before.asked;
    unoffered = λ preparing v offer. elim (offered_split sent packets after more p.position p.ballot v offer) [
      | inl occurred ↦ before.unoffered preparing v occurred
      | inr new ↦ waits p is preparing v new
    ];
  };
  apart = old.apart;
  pending = λ c h. asked_more sent after in_after c (old.pending c h);
  heard = λ a i w h. voted_more sent after in_after a i w.ballot w.action (old.heard a i w h);
}

-- what a running part of another node knows offers nothing that this node offers
others_wait : (nodes x k : ℕ) (node : ℕ → NodePart) (sent packets : List Message) (records : List Rec) → IsSound nodes node sent → k ≢ x
    → ((m : Message) → Has m packets → m.from ≡ Node x) → ((m : Message) → Has m packets → IsSo nodes sent records m.body)
    → ((b : ℕ) → Has (Started b) records → owner_of b ≡ x)
    → (i b : ℕ) (v : Action) → Has (Started b) (node k).records → ¬ IsOffered packets i b v
others_wait nodes x k node sent packets records sound other from says own i b v started offer =
    other (sym (sound.started k b started) ∙ own b (says _ offer.2).0)

-- the ballots that a step starts are its node's
pub owned_after : (nodes x : ℕ) (node : ℕ → NodePart) (sent : List Message) (written : Option Rec) → IsSound nodes node sent
    → MayWrite nodes sent x (node x).records written → (b : ℕ) → Has (Started b) (with_record (node x).records written) → owner_of b ≡ x
owned_after nodes x node sent written sound may b h =
    elim (record_or_new _ (node x).records written h) [
      | inl old ↦ sound.started x b old
      | inr new ↦ (subst (λ (o : Option Rec). MayWrite nodes sent x (node x).records o) new may).0
    ]

pub voted_after : (nodes x : ℕ) (node : ℕ → NodePart) (sent : List Message) (written : Option Rec) → IsSound nodes node sent
    → MayWrite nodes sent x (node x).records written → (i b : ℕ) (v : Action) → Has (Voted i b v) (with_record (node x).records written) → IsOffered sent i b v
voted_after nodes x node sent written sound may i b v h =
    elim (record_or_new _ (node x).records written h) [
      | inl old ↦ sound.voted x i b v old
      | inr new ↦ (subst (λ (o : Option Rec). MayWrite nodes sent x (node x).records o) new may).0
    ]

pub learned_after : (nodes x : ℕ) (node : ℕ → NodePart) (sent : List Message) (written : Option Rec) → IsSound nodes node sent
    → MayWrite nodes sent x (node x).records written → (i : ℕ) (v : Action) → Has (Learned i v) (with_record (node x).records written) → IsDecided nodes sent i v
learned_after nodes x node sent written sound may i v h =
    elim (record_or_new _ (node x).records written h) [
      | inl old ↦ sound.learned x i v old
      | inr new ↦ subst (λ (o : Option Rec). MayWrite nodes sent x (node x).records o) new may
    ]

-- the records of each node after the step, for a property of records
each_node : (P : ℕ → List Rec → Type 0) (x : ℕ) (written : Option Rec) (running : Option Running) (packets : List Message)
    (node : ℕ → NodePart) (sent : List Message) (node_after : ℕ → NodePart) (sent_after : List Message)
    → Happens x written running packets node sent node_after sent_after
    → P x (with_record (node x).records written) → ((k : ℕ) → P k (node k).records) → (k : ℕ) → P k (node_after k).records
each_node P x written running packets node sent node_after sent_after happens here there k =
    elim (cases_eq k x) [
      | inl same ↦ subst (λ (j : ℕ). P j (node_after j).records) (sym same) (subst (P x) (sym happens.records) here)
      | inr other ↦ subst (λ (part : NodePart). P k part.records) (sym (happens.others k other)) (there k)
    ]

-- what a packet that a node sent before says is so after the step
old_says : (nodes x : ℕ) (written : Option Rec) (running : Option Running) (packets : List Message)
    (node : ℕ → NodePart) (sent : List Message) (node_after : ℕ → NodePart) (sent_after : List Message)
    → MayWrite nodes sent x (node x).records written → Happens x written running packets node sent node_after sent_after
    → (party : Party) (body : Body) → SaysSo nodes node sent party body → SaysSo nodes node_after sent_after party body
old_says nodes x written running packets node sent node_after sent_after may happens (Node a) body so =
    let in_after : Within sent sent_after = λ m h. (happens.sends m).1 (inl h) in (
      so.0,
      each_node (λ k records. (k ≡ a → IsSo nodes sent_after records body)) x written running packets node sent node_after sent_after happens
          (λ e. so_sent nodes sent sent_after in_after _ body (so_written nodes x sent (node x).records written may body (subst (λ (k : ℕ). IsSo nodes sent (node k).records body) (sym e) so.1)))
          (λ k e. so_sent nodes sent sent_after in_after _ body (subst (λ (j : ℕ). IsSo nodes sent (node j).records body) (sym e) so.1))
          a refl,
    )
old_says nodes x written running packets node sent node_after sent_after may happens (Task t) body so = so
old_says nodes x written running packets node sent node_after sent_after may happens Audit body so = so

-- the invariant is kept
pub keeps : (nodes x : ℕ) (written : Option Rec) (running : Option Running) (packets : List Message)
    (node : ℕ → NodePart) (sent : List Message) (node_after : ℕ → NodePart) (sent_after : List Message)
    → IsMember nodes x → IsSound nodes node sent → IsSoundStep nodes x (node x).records sent written running packets
    → Happens x written running packets node sent node_after sent_after → IsSound nodes node_after sent_after
keeps nodes x written running packets node sent node_after sent_after member sound step happens =
    let in_after : Within sent sent_after = λ m h. (happens.sends m).1 (inl h) in
    let split = offered_split sent packets sent_after (λ m. (happens.sends m).0) in
    let owned = owned_after nodes x node sent written sound step.writes in
    record {
      says = λ m h. elim ((happens.sends m).0 h) [
        | inl old ↦ old_says nodes x written running packets node sent node_after sent_after step.writes happens m.from m.body (sound.says m old)
        | inr new ↦ subst (λ (party : Party). SaysSo nodes node_after sent_after party m.body) (sym (step.from m new))
            (member, subst (λ (records : List Rec). IsSo nodes sent_after records m.body) (sym happens.records) (so_sent nodes sent sent_after in_after _ m.body (step.says m new)))
      ];
      one_offer = λ i b v w one two. elim (split i b v one) [
        | inl old ↦ elim (split i b w two) [
          | inl older ↦ sound.one_offer i b v w old older
          | inr new ↦ absurd (step.unoffered i b w v new old)
        ]
        | inr new ↦ elim (split i b w two) [
          | inl old ↦ absurd (step.unoffered i b v w new old)
          | inr newer ↦ step.one_offer i b v w new newer
        ]
      ];
      started = each_node (λ k records. (b : ℕ) → Has (Started b) records → owner_of b ≡ k) x written running packets node sent node_after sent_after happens
          owned (λ k. sound.started k);
      voted = each_node (λ k records. (i b : ℕ) (v : Action) → Has (Voted i b v) records → IsOffered sent_after i b v) x written running packets node sent node_after sent_after happens
          (λ i b v h. offered_more sent sent_after in_after i b v (voted_after nodes x node sent written sound step.writes i b v h))
          (λ k i b v h. offered_more sent sent_after in_after i b v (sound.voted k i b v h));
      learned = each_node (λ k records. (i : ℕ) (v : Action) → Has (Learned i v) records → IsDecided nodes sent_after i v) x written running packets node sent node_after sent_after happens
          (λ i v h. decided_more nodes sent sent_after in_after i v (learned_after nodes x node sent written sound step.writes i v h))
          (λ k i v h. decided_more nodes sent sent_after in_after i v (sound.learned k i v h));
      runs = λ k after is. elim (cases_eq k x) [
        | inl same ↦
            let goes_on : running ≡ Some after = sym happens.part ∙ ap (λ (j : ℕ). (node_after j).running) (sym same) ∙ is in
            subst (λ (j : ℕ). IsRunning sent_after (node_after j).records after) (sym same)
            (subst (λ (records : List Rec). IsRunning sent_after records after) (sym happens.records)
            (running_more sent packets sent_after _ after in_after (λ m. (happens.sends m).0) (step.waits after goes_on) (step.runs after goes_on)))
        | inr other ↦
            let part = happens.others k other in
            let before = sound.runs k after (ap (λ (p : NodePart). p.running) (sym part) ∙ is) in
            subst (λ (p : NodePart). IsRunning sent_after p.records after) (sym part)
            (running_more sent packets sent_after _ after in_after (λ m. (happens.sends m).0)
            (λ p at preparing v. others_wait nodes x k node sent packets _ sound other step.from step.says owned p.position p.ballot v (before.proposals p at).started)
            before)
      ];
    }
