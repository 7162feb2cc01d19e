-- What packets say stays as more are sent.
use Rattle.std.proofs.Common.{◌≡◌, ℕ, ◌+◌, ◌-◌, Option, Some, None, List, [], ◌∷◌, ◌++◌, length, take, drop, sym, ap, subst, ◌∙◌, arith, length-append}
use Rattle.std.specs.Prelude.{IfSome}
use Rattle.std.proofs.lemmas.List.{take-append-le}
use Rattle.rp_base.specs.PlacedVotes.{placed_at}
use Rattle.rp_base.specs.declared.action.Action.{Action}
use Rattle.rp_base.specs.declared.record.Vote.{Vote}
use Rattle.rp_base.specs.declared.record.Rec.{Rec}
use Rattle.rp_base.specs.declared.record.Rec.TheVariants.{Started, Promised, Voted, Learned, PromisedRange}
use Rattle.rp_base.specs.Sets.{Has}
use Rattle.rp_base.specs.Records.{applied_of}
use Rattle.rp_codec.specs.Message.{Message, report_len}
use Rattle.rp_codec.specs.declared.packet.Body.{Body}
use Rattle.rp_codec.specs.declared.packet.Body.TheVariants as bodies
use Rattle.rp_model.specs.Parts.{with_record}
use Rattle.rp_model.proofs.AppliedGrowing.{applied_more}
use Rattle.rp_model.specs.Facts.{HasPromised, HasVoted, IsOffered, IsDecided}
use Rattle.rp_agreement.specs.Asked.{IsAsked}
use Rattle.rp_agreement.specs.Justified.{IsJustified}
use Rattle.rp_agreement.specs.Sound.{IsSo, IsReported}
use Rattle.rp_agreement.specs.Steps.{MayWrite}
use Rattle.rp_agreement.proofs.RecordGrowth.{record_stays, reports_stay}

-- each packet of the one list is in the other
abbrev pub Within : List Message → List Message → Type 0
Within sent after = (m : Message) → Has m sent → Has m after

pub promised_more : (sent after : List Message) → Within sent after → (a i b : ℕ) (last : Option Vote) → HasPromised sent a i b last → HasPromised after a i b last
promised_more sent after in_after a i b last h = (h.0, in_after h.0 h.1, h.2, h.3)

pub voted_more : (sent after : List Message) → Within sent after → (a i b : ℕ) (v : Action) → HasVoted sent a i b v → HasVoted after a i b v
voted_more sent after in_after a i b v h = (h.0, in_after _ h.1)

pub offered_more : (sent after : List Message) → Within sent after → (i b : ℕ) (v : Action) → IsOffered sent i b v → IsOffered after i b v
offered_more sent after in_after i b v h = (h.0, h.1, in_after _ h.2)

pub decided_more : (nodes : ℕ) (sent after : List Message) → Within sent after → (i : ℕ) (v : Action) → IsDecided nodes sent i v → IsDecided nodes after i v
decided_more nodes sent after in_after i v d = record {
  ballot = d.ballot;
  voters = d.voters;
  members = d.members;
  majority = d.majority;
  voted = λ a h. voted_more sent after in_after a i d.ballot v (d.voted a h);
}

pub justified_more : (nodes : ℕ) (sent after : List Message) → Within sent after → (i b : ℕ) (v : Action) → IsJustified nodes sent i b v → IsJustified nodes after i b v
justified_more nodes sent after in_after i b v f = record {
  promises = f.promises;
  stated = λ a last h. promised_more sent after in_after a i b last (f.stated a last h);
  promisers = f.promisers;
  members = f.members;
  majority = f.majority;
  promised = f.promised;
  highest = f.highest;
}

pub asked_more : (sent after : List Message) → Within sent after → (action : Action) → IsAsked sent action → IsAsked after action
asked_more sent after in_after action h = record {
  right = h.right;
  asked = λ call of_it. let question = h.asked call of_it in (question.0, in_after _ question.1);
}

-- so does what the own action of a proposal was asked for
pub own_asked_more : (sent after : List Message) → Within sent after → (own : Option Action) → IfSome own (IsAsked sent) → IfSome own (IsAsked after)
own_asked_more sent after in_after None h = tt
own_asked_more sent after in_after (Some action) h = asked_more sent after in_after action h

-- a report stays so, as its sender applies more
pub reported_more : (all further : List Action) (first applied : ℕ) (actions : List Action) → IsReported all first applied actions → IsReported (all ++ further) first applied actions
reported_more all further first applied actions so =
    let longer : length (all ++ further) ≡ length all + length further = length-append all further in
    let same : take applied (all ++ further) ≡ take applied all = take-append-le applied all further so.0 in
    (omega (arith, so.0, longer), so.1 ∙ ap (λ (list : List Action). take (report_len first applied) (drop (first - 1) list)) (sym same))

reported_written : (records : List Rec) (written : Option Rec) (first applied : ℕ) (actions : List Action)
    → IsReported (applied_of records) first applied actions → IsReported (applied_of (with_record records written)) first applied actions
reported_written records None first applied actions so = so
reported_written records (Some rec) first applied actions so =
    let more = applied_more records (rec ∷ []) in
    subst (λ (all : List Action). IsReported all first applied actions) (sym more.1) (reported_more (applied_of records) more.0 first applied actions so)

-- what a body says stays so, as packets are sent
pub so_sent : (nodes : ℕ) (sent after : List Message) → Within sent after → (records : List Rec) (body : Body) → IsSo nodes sent records body → IsSo nodes after records body
so_sent nodes sent after in_after records (bodies.Accept i b v) so = (so.0, justified_more nodes sent after in_after i b v so.1, asked_more sent after in_after v so.2)
so_sent nodes sent after in_after records _ so = so

-- and as its sender writes
pub so_written : (nodes x : ℕ) (sent : List Message) (records : List Rec) (written : Option Rec) → MayWrite nodes sent x records written
    → (body : Body) → IsSo nodes sent records body → IsSo nodes sent (with_record records written) body
so_written nodes x sent records written may (bodies.Prepare i b) so = record_stays (Started b) records written so
so_written nodes x sent records written may (bodies.Promise i b last) so = (record_stays (Promised i b) records written so.0, reports_stay nodes x sent records written i b last may so.1)
so_written nodes x sent records written may (bodies.Accept i b v) so = (record_stays (Started b) records written so.0, so.1, so.2)
so_written nodes x sent records written may (bodies.Accepted i b v) so = record_stays (Voted i b v) records written so
so_written nodes x sent records written may (bodies.Decided i v) so = record_stays (Learned i v) records written so
so_written nodes x sent records written may (bodies.Report first applied stated) so = reported_written records written first applied stated so
so_written nodes x sent records written may (bodies.PrepareRange range b) so = record_stays (Started b) records written so
so_written nodes x sent records written may (bodies.PromiseRange range b votes) so =
    (record_stays (PromisedRange range b) records written so.0, λ i covered. reports_stay nodes x sent records written i b (placed_at votes i) may (so.1 i covered))
so_written nodes x sent records written may _ so = so
