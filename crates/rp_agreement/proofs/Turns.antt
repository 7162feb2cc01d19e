-- Which turns are sound steps.
use Rattle.std.proofs.Common.{◌≡◌, ℕ, Option, Some, List, [], ◌∷◌, ◌++◌, map, inl, inr, refl, sym, subst}
use Rattle.rp_base.specs.declared.action.Action.{Action}
use Rattle.rp_base.specs.declared.record.Rec.{Rec}
use Rattle.rp_base.specs.declared.record.Rec.TheVariants.{Started}
use Rattle.rp_base.specs.Sets.{Has}
use Rattle.rp_base.proofs.Members.{has_split, mapped_has}
use Rattle.rp_codec.specs.Message.{Message}
use Rattle.rp_codec.specs.declared.packet.Party.TheVariants.{Node}
use Rattle.rp_codec.specs.declared.packet.Body.{Body}
use Rattle.rp_codec.specs.declared.packet.Body.TheVariants as bodies
use Rattle.rp_model.specs.Parts.{Running}
use Rattle.rp_model.specs.Parts.{Turn}
use Rattle.rp_model.specs.Parts.{with_record}
use Rattle.rp_model.specs.Says.{says, sends, notes}
use Rattle.rp_model.specs.Facts.{IsOffered}
use Rattle.rp_agreement.specs.Sound.{IsSo, IsRunning}
use Rattle.rp_agreement.specs.Steps.{MayWrite, IsSoundStep}
use Rattle.rp_agreement.proofs.Lists.{some_same}
use Rattle.rp_agreement.proofs.RecordGrowth.{record_stays}

-- the turn is a sound step of the node
abbrev pub IsSoundTurn : ℕ → ℕ → List Rec → List Message → Turn → Type 0
IsSoundTurn nodes x records sent turn = IsSoundStep nodes x records sent turn.written (Some turn.running) turn.sent

-- the body offers an action
abbrev pub IsOffer : Body → Type 0
IsOffer (bodies.Accept i b v) = Unit {0}
IsOffer _ = ⊥

-- the packet is the node's, what it says is so, and it offers nothing
pub record IsPlain (nodes x : ℕ) (sent : List Message) (records : List Rec) (m : Message) : Type 0 where
  pub from : m.from ≡ Node x
  pub so : IsSo nodes sent records m.body
  pub no_offer : ¬ IsOffer m.body

-- each packet is so
abbrev pub ArePlain : ℕ → ℕ → List Message → List Rec → List Message → Type 0
ArePlain nodes x sent records packets = (m : Message) → Has m packets → IsPlain nodes x sent records m

pub none_plain : (nodes x : ℕ) (sent : List Message) (records : List Rec) → ArePlain nodes x sent records []
none_plain nodes x sent records m h = absurd h

pub one_plain : (nodes x : ℕ) (sent : List Message) (records : List Rec) (m : Message) → IsPlain nodes x sent records m → ArePlain nodes x sent records (m ∷ [])
one_plain nodes x sent records m is k h = elim h [ inl same ↦ subst (IsPlain nodes x sent records) (sym same) is | inr none ↦ absurd none ]

pub both_plain : (nodes x : ℕ) (sent : List Message) (records : List Rec) (ms ks : List Message) → ArePlain nodes x sent records ms → ArePlain nodes x sent records ks
    → ArePlain nodes x sent records (ms ++ ks)
both_plain nodes x sent records ms ks left right m h = elim (has_split m ms ks h) [ inl before ↦ left m before | inr following ↦ right m following ]

-- the same said to several
pub mapped_plain : {A : Type 0} (nodes x : ℕ) (sent : List Message) (records : List Rec) (f : A → Message) (xs : List A) → ((a : A) → IsPlain nodes x sent records (f a))
    → ArePlain nodes x sent records (map f xs)
mapped_plain nodes x sent records f xs each m h = let hit = mapped_has f m xs h in subst (IsPlain nodes x sent records) (sym hit.2) (each hit.0)

-- packets to nodes, of one body
pub said_plain : (nodes x : ℕ) (sent : List Message) (records : List Rec) (body : Body) → IsSo nodes sent records body → (¬ IsOffer body) → (to : List ℕ)
    → ArePlain nodes x sent records (map (says x body) to)
said_plain nodes x sent records body so none to =
    mapped_plain nodes x sent records (says x body) to (λ k. let is : IsPlain nodes x sent records (says x body k) = record { from = refl; so = so; no_offer = none } in is)

plain_silent : (nodes x : ℕ) (sent : List Message) (records : List Rec) (packets : List Message) → ArePlain nodes x sent records packets
    → (i b : ℕ) (v : Action) → ¬ IsOffered packets i b v
plain_silent nodes x sent records packets plain i b v offer = (plain _ offer.2).no_offer tt

-- a turn that offers nothing
pub plain : (nodes x : ℕ) (records : List Rec) (sent : List Message) (turn : Turn) → MayWrite nodes sent x records turn.written
    → ArePlain nodes x sent (with_record records turn.written) turn.sent → IsRunning sent (with_record records turn.written) turn.running
    → IsSoundTurn nodes x records sent turn
plain nodes x records sent turn may packets runs =
    let silent = plain_silent nodes x sent _ turn.sent packets in
    record {
      writes = may;
      from = λ m h. (packets m h).from;
      says = λ m h. (packets m h).so;
      unoffered = λ i b v w offer. absurd (silent i b v offer);
      one_offer = λ i b v w one. absurd (silent i b v one);
      runs = λ after e. subst (IsRunning sent (with_record records turn.written)) (some_same e) runs;
      waits = λ after e p is preparing v offer. silent p.position p.ballot v offer;
    }

-- nothing is sent or written
pub quiet : (nodes x : ℕ) (records : List Rec) (sent : List Message) (running : Running) → IsRunning sent records running
    → IsSoundTurn nodes x records sent (notes running)
quiet nodes x records sent running runs = plain nodes x records sent (notes running) tt (none_plain nodes x sent records) runs

-- nothing is written
pub sending : (nodes x : ℕ) (records : List Rec) (sent : List Message) (running : Running) (packets : List Message)
    → ArePlain nodes x sent records packets → IsRunning sent records running → IsSoundTurn nodes x records sent (sends running packets)
sending nodes x records sent running packets are runs = plain nodes x records sent (sends running packets) tt are runs

-- what a node knows stays so as it writes
pub runs_written : (sent : List Message) (records : List Rec) (written : Option Rec) (running : Running) → IsRunning sent records running
    → IsRunning sent (with_record records written) running
runs_written sent records written running runs = record {
  proposals = λ p is. let before = runs.proposals p is in record {
    started = record_stays (Started p.ballot) records written before.started;
    promised = before.promised;
    asked = before.asked;
    unoffered = before.unoffered;
  };
  apart = runs.apart;
  pending = runs.pending;
  heard = runs.heard;
}
