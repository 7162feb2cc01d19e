-- The steps of a turn: what each leaves of the seat, and what they are together.
use Rattle.std.proofs.Common.{◌≡◌, ◌⊎◌, ℕ, ◌≤◌, Bool, Option, Some, Result, Ok, Err, List, length, inl, inr, refl, sym, ap, subst, ◌∙◌}
use Rattle.std.specs.Prelude.{IfOk, IfErr}
use Rattle.rp_base.specs.Sets.{Has}
use Rattle.rp_base.specs.declared.action.Action.{Action}
use Rattle.rp_base.specs.declared.fault.Fault.{Fault}
use Rattle.rp_base.specs.declared.fault.Fault.TheVariants.{OutOfMemory}
use Rattle.rp_base.specs.declared.reply.Answer.{Answer}
use Rattle.rp_base.proofs.Members.{has_right}
use Rattle.rp_codec.specs.Message.{Message}
use Rattle.rp_codec.specs.declared.packet.Party.{Party}
use Rattle.rp_codec.specs.declared.packet.Party.TheVariants.{Node}
use Rattle.rp_replica.specs.rp_outbox.specs.Packets.{texts_of}
use Rattle.rp_replica.specs.rp_rules.specs.declared.input.Input.{Input}
use Rattle.rp_replica.specs.declared.sent.Sent.{Sent}
use Rattle.rp_tasks.specs.Line.{Line}
use Rattle.rp_board.specs.Parts.{Part, Role, OfNode, part_after}
use Rattle.rp_board.specs.Seats.{SeatState}
use Rattle.rp_boxes.specs.NodeSeats.{IsTurn}
use Rattle.rp_threads.specs.Turns.{IsBrought, IsLost, turn_of, IsReceipt, AreGivenOut, AreSent, IsAllOffered, IsEventBy, IsStopBy, Works, Fails, IsNodeTurn, IsStoppedTurn}
use Rattle.rp_threads.specs.Lines.{given_on, line_after}
use Rattle.rp_threads.specs.declared.turns.PacketCounts.{PacketCounts}
use Rattle.rp_threads.specs.declared.turns.TurnResult.{TurnResult}
use Rattle.rp_threads.proofs.Puts.{HasOnlyPut, offers_put}

-- ---- an event, and then what was put

module _ {P : Type 0} (role : Role) (sends : List Message) where
  pub given_out : (old new : SeatState P) (sent : Sent) → new ≡ record old { part = part_after old.part role sends } → sent.bytes.items ≡ texts_of sends → sent.packets ≡ length sends
      → AreGivenOut new.part sent sends
  given_out old new sent after texts count = record {
    texts = texts;
    count = count;
    sent_all = λ m has. subst (λ (c : SeatState P). Has m c.part.sent) (sym after) (has_right m old.part.sent sends has);
  }

  pub stepped_got : (old stepped new : SeatState P) → stepped ≡ record old { part = part_after old.part role sends } → HasOnlyPut stepped new → new.part.got ≡ old.part.got
  stepped_got old stepped new after puts = ap (λ (c : SeatState P). c.part.got) puts.after ∙ ap (λ (c : SeatState P). c.part.got) after

  pub stepped_same : (old stepped new : SeatState P) → stepped ≡ record old { part = part_after old.part role sends } → HasOnlyPut stepped new → new.setup ≡ old.setup
  stepped_same old stepped new after puts = ap (λ (c : SeatState P). c.setup) puts.after ∙ ap (λ (c : SeatState P). c.setup) after

module _ {S P : Type 0} (next : S → Action → S) (answers : S → Action → List Answer) (begin : P → S) where
  all_given_out : (old new : SeatState P) (input : Input) (sent : Sent) (t : IsTurn next answers begin old input new sent) → AreGivenOut new.part sent t.done.sends
  all_given_out old new input sent t = given_out (OfNode t.done.part) t.done.sends old new sent t.after t.describes.bytes t.describes.packets

  pub sent_by : (old new : SeatState P) (input : Input) (sent : Sent) → IsTurn next answers begin old input new sent → AreSent new.part sent
  sent_by old new input sent t = (t.done.sends, all_given_out old new input sent t)

  -- ---- an event

  -- by this input, once its packets were offered
  pub event_by : (old stepped new : SeatState P) (input : Input) (sent : Sent) (lost uncopied : ℕ) → IsTurn next answers begin old input stepped sent
      → IsAllOffered next answers begin (Node stepped.setup.number) sent stepped new lost uncopied → (sent.packets ≤ 1 → uncopied ≡ 0)
      → IsEventBy next answers begin (λ given. given ≡ input) old new (record { sent = sent.packets; lost = lost; uncopied = uncopied })
  event_by old stepped new input sent lost uncopied turn offered alone = record {
    input = input;
    is = refl;
    stepped = stepped;
    sent = sent;
    turn = turn;
    stated = refl;
    offered = offered turn.done.sends (all_given_out old stepped input sent turn);
    alone = alone;
  }

  -- the packets of an event change at the seat what was put alone
  pub event_puts : (Is : Input → Type 0) (old new : SeatState P) (packets : PacketCounts) (e : IsEventBy next answers begin Is old new packets) → HasOnlyPut e.stepped new
  event_puts Is old new packets e = offers_put next answers begin (Node e.stepped.setup.number) e.turn.done.sends e.stepped new packets.lost packets.uncopied e.offered

  pub event_got : (Is : Input → Type 0) (old new : SeatState P) (packets : PacketCounts) → IsEventBy next answers begin Is old new packets → new.part.got ≡ old.part.got
  event_got Is old new packets e = stepped_got (OfNode e.turn.done.part) e.turn.done.sends old e.stepped new e.turn.after (event_puts Is old new packets e)

  pub event_same : (Is : Input → Type 0) (old new : SeatState P) (packets : PacketCounts) → IsEventBy next answers begin Is old new packets → new.setup ≡ old.setup
  event_same Is old new packets e = stepped_same (OfNode e.turn.done.part) e.turn.done.sends old e.stepped new e.turn.after (event_puts Is old new packets e)

  pub stop_got : (Is : Input → Type 0) (old new : SeatState P) (fault : Fault) → IsStopBy next answers begin Is old new fault → new.part.got ≡ old.part.got
  stop_got Is old new fault s = elim s.why [
    | inl cut ↦ ap (λ (c : SeatState P). c.part.got) cut.after
    | inr none ↦ ap (λ (c : SeatState P). c.part.got) none.unchanged
  ]

  -- ---- the work of a turn

  -- the node receives what is given on
  pub received : (given : Option (List ℕ)) (text : List ℕ) (lead : Bool) (input : Input) (old new : SeatState P) (packets : PacketCounts) → given ≡ Some text → IsReceipt text input
      → IsEventBy next answers begin (λ i. i ≡ input) old new packets → Works next answers begin given lead old new packets
  received given text lead input old new packets is receipt e =
      subst (λ (o : Option (List ℕ)). Works next answers begin o lead old new packets) (sym is)
      (record { input = e.input; is = subst (IsReceipt text) (sym e.is) receipt; stepped = e.stepped; sent = e.sent; turn = e.turn; stated = e.stated; offered = e.offered; alone = e.alone })

  -- ---- what was brought, and the work after it

  module _ (from : Party) (lead : Bool) (old new : SeatState P) (line after : Line) (between : SeatState P) (full : Line) (brought : IsBrought next answers begin from (Node old.setup.number) old between line full)
      (gives : after ≡ line_after full) where
    pub is_turn : (result : Result TurnResult Fault) → IfOk result (λ turned. turned.turn ≡ turn_of (given_on full) lead)
        → IfOk result (λ turned. Works next answers begin (given_on full) lead between new turned.packets)
        → IfOk result (λ turned. IsNodeTurn next answers begin from lead old new line after turned)
    is_turn (Ok turned) turn works = record { between = between; full = full; brought = brought; turn = turn; works = works; gives = gives }
    is_turn (Err fault) turn works = tt

    pub is_stopped : (result : Result TurnResult Fault) → IfErr result (λ fault. Fails next answers begin (given_on full) lead between new fault)
        → IfErr result (λ fault. IsLost from (Node old.setup.number) old new line after fault ⊎ IsStoppedTurn next answers begin from lead old new line after fault)
    is_stopped (Ok turned) fails = tt
    is_stopped (Err fault) fails = inr (record { between = between; full = full; brought = brought; fails = fails; gives = gives })
