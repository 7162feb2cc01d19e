-- A node leads anew after an idle turn, or need not.
use Rattle.std.proofs.Common.{◌≡◌, ◌⊎◌, ℕ, ◌+◌, ◌<◌, ◌≤◌, nat_lt, length, Bool, true, false, Option, Some, None, Result, Ok, Err, List, inl, inr, refl, sym, ap, subst, ◌∙◌, arith}
use Rattle.std.proofs.lemmas.Grind.{common_steps}
use Rattle.std.specs.Prelude.{IfOk, IfErr, IfNone, IfSome, IsSome, OnSome}
use Rattle.rp_base.specs.Records.{applied_of}
use Rattle.rp_base.specs.declared.action.Action.{Action}
use Rattle.rp_base.specs.declared.fault.Fault.{Fault}
use Rattle.rp_base.specs.declared.reply.Answer.{Answer}
use Rattle.rp_codec.specs.declared.packet.Party.{Party}
use Rattle.rp_codec.specs.declared.packet.Party.TheVariants.{Node}
use Rattle.rp_replica.specs.rp_model.specs.Parts.{NodePart, Running}
use Rattle.rp_board.specs.Parts.{Part}
use Rattle.rp_board.specs.Seats.{SeatState}
use Rattle.rp_boxes.specs.NodeSeats.{HasApplied, HasUncounted, IsStopped}
use Rattle.rp_threads.specs.Loops.{is_idle, is_to_lead, sender_at}
use Rattle.rp_patience.specs.Patience.{waits, is_over, after_quiet}
use Rattle.rp_threads.specs.Rounds.{HasWaited, IsToLeadAt, NeedNotLead, still_waits, no_position_left, CountsQuiet, IsLeadAnew, WorkerAt, IsMade, IsUnmade}
use Rattle.rp_threads.specs.Turns.{IsEventBy, IsLost, IsStopBy, IsNodeTurn, IsStoppedTurn}
use Rattle.rp_patience.specs.declared.patience.Patience.{Patience}
use Rattle.rp_threads.specs.declared.turns.Turn.{Turn}
use Rattle.rp_threads.specs.declared.turns.Turn.TheVariants.{Received, Led, Idle}
use Rattle.rp_threads.specs.declared.turns.TurnResult.{TurnResult}
use Rattle.rp_threads.proofs.Running.{not_stopped, same_node}

pub idle_of : (turn : Turn) → is_idle turn ≡ true → turn ≡ Idle
idle_of Received is = absurd (cc)
idle_of Led is = absurd (cc)
idle_of Idle is = refl

pub busy_of : (turn : Turn) → is_idle turn ≡ false → turn ≡ Idle → ⊥
busy_of turn busy idle = let clash : true ≡ false = sym (ap is_idle idle) ∙ busy in absurd (cc)

-- ---- what is pending, and what is applied

pub stopped_idles : {S P : Type 0} (next : S → Action → S) (answers : S → Action → List Answer) (begin : P → S) (seat : SeatState P) → IsStopped seat.part → ¬ HasUncounted next answers begin seat
stopped_idles next answers begin seat stopped pending =
    not_stopped seat.part (pending.node, pending.is, subst (λ (o : Option Running). IsSome o) (sym pending.runs) refl) stopped

one_applied : (part : Part) (a b : ℕ) → HasApplied part a → HasApplied part b → a ≡ b
one_applied part a b has also =
    has.3 ∙ ap (λ (n : NodePart). length (applied_of n.records)) (same_node part.role has.0 also.0 has.1 also.1) ∙ sym also.3

-- ---- after an idle turn

module _ {S P : Type 0} (next : S → Action → S) (answers : S → Action → List Answer) (begin : P → S) (seat : SeatState P) (old : Patience) where
  pub uncounted : (new : Patience) → new ≡ old → ¬ HasUncounted next answers begin seat → CountsQuiet next answers begin seat old new
  uncounted new same none = record { quiet = λ applied has pending. absurd (none pending); other = λ fails. same }

  module _ (number applied : ℕ) (is : number ≡ seat.setup.number) (has : HasApplied seat.part applied) where
    pub quiet_counted : (new : Patience) → HasUncounted next answers begin seat → new ≡ after_quiet 1 number applied old → CountsQuiet next answers begin seat old new
    quiet_counted new pending after = record {
      quiet = λ n also some. after ∙ ap (λ k. after_quiet 1 k applied old) is ∙ ap (λ k. after_quiet 1 seat.setup.number k old) (one_applied seat.part applied n has also);
      other = λ none. absurd (none pending);
    }

    module _ (over : Bool) (answer : over ≡ is_over number (waits 1 applied old)) where
      at_seat : over ≡ is_over seat.setup.number (waits 1 applied old)
      at_seat = answer ∙ ap (λ k. is_over k (waits 1 applied old)) is

      pub has_waited : over ≡ true → (result : Option ℕ) → OnSome result (HasWaited seat old)
      has_waited holds None = tt
      has_waited holds (Some position) = (applied, has, sym at_seat ∙ holds)

      pub waits_still : over ≡ false → NeedNotLead next answers begin seat old
      waits_still fails = still_waits applied has (sym at_seat ∙ fails)

    pub none_left : (result : Option ℕ) → (result ≡ None → 65535 ≤ applied) → IfNone result (NeedNotLead next answers begin seat old)
    none_left None full = no_position_left applied has (full refl)
    none_left (Some position) full = tt

pub to_lead : {S P : Type 0} (next : S → Action → S) (answers : S → Action → List Answer) (begin : P → S) (seat : SeatState P) (applied : ℕ) (result : Option ℕ) → HasApplied seat.part applied → HasUncounted next answers begin seat
    → IfSome result (λ position. position ≡ applied + 1) → IfSome result (IsToLeadAt next answers begin seat)
to_lead next answers begin seat applied None has pending at = tt
to_lead next answers begin seat applied (Some position) has pending at = record { applied = applied; has = has; follows = at; pending = pending }

-- ---- the turn of a worker

module _ {S P : Type 0} (next : S → Action → S) (answers : S → Action → List Answer) (begin : P → S) (from : Party) (lead : Bool) (old new : WorkerAt P) where
  pub unmade : new.patience ≡ old.patience → (fault : Fault)
      → IsLost from (Node old.seat.setup.number) old.seat new.seat old.line new.line fault ⊎ IsStoppedTurn next answers begin from lead old.seat new.seat old.line new.line fault
      → IsUnmade next answers begin from lead old new fault
  unmade same fault why = inl (why, same)

  module _ (turned : TurnResult) where
    pub busy_turn : IsNodeTurn next answers begin from lead old.seat new.seat old.line new.line turned → is_idle turned.turn ≡ false → new.patience ≡ old.patience → IsMade next answers begin from lead old new turned
    busy_turn turn busy same = inl (record { turn = turn; busy = λ other. same; idle = λ idle. absurd (busy_of turned.turn busy idle) })

    pub idle_turn : IsNodeTurn next answers begin from lead old.seat new.seat old.line new.line turned → turned.turn ≡ Idle → NeedNotLead next answers begin new.seat old.patience → CountsQuiet next answers begin new.seat old.patience new.patience
        → IsMade next answers begin from lead old new turned
    idle_turn turn idle need counts = inl (record { turn = turn; busy = λ busy. absurd (busy idle); idle = λ is. (need, counts) })

    module _ (between : SeatState P) (turn : IsNodeTurn next answers begin from lead old.seat between old.line new.line turned) (idle : turned.turn ≡ Idle) (waited : HasWaited between old.patience)
        (counts : CountsQuiet next answers begin between old.patience new.patience) where
      pub led_anew : (result : Result TurnResult Fault)
          → IfOk result (λ made. (made.turn ≡ Led) × IsEventBy next answers begin (IsLeadAnew next answers begin between) between new.seat made.packets)
          → IfOk result (IsMade next answers begin from lead old new)
      led_anew (Ok made) ok = inr (ok.0, record { between = between; first = record { turned = turned; turn = turn; idle = idle; waited = waited; counts = counts }; leads = ok.1 })
      led_anew (Err fault) ok = tt

      pub not_led_anew : (result : Result TurnResult Fault)
          → IfErr result (λ fault. IsStopBy next answers begin (IsLeadAnew next answers begin between) between new.seat fault)
          → IfErr result (IsUnmade next answers begin from lead old new)
      not_led_anew (Ok made) err = tt
      not_led_anew (Err fault) err = inr (record { between = between; first = record { turned = turned; turn = turn; idle = idle; waited = waited; counts = counts }; stops = err })

-- ---- the turn of a worker with its number

module _ {S P : Type 0} (next : S → Action → S) (answers : S → Action → List Answer) (begin : P → S) (lets : ℕ → ℕ → Bool → Type 0) (nodes turn number : ℕ) (old new : WorkerAt P) (is : number ≡ old.seat.setup.number) where
  pub answer_is : (passes is_so : Bool) → lets number turn passes → passes ≡ is_so → lets old.seat.setup.number turn is_so
  answer_is passes is_so answer same = subst (λ (n : ℕ). lets n turn is_so) is (subst (lets number turn) same answer)

  pub unmade_at : (from : Party) (lead : Bool) (fault : Fault) → from ≡ sender_at nodes turn → lead ≡ is_to_lead number turn → IsUnmade next answers begin from lead old new fault
      → IsUnmade next answers begin (sender_at nodes turn) (is_to_lead old.seat.setup.number turn) old new fault
  unmade_at from lead fault sent leads why =
      subst (λ (l : Bool). IsUnmade next answers begin (sender_at nodes turn) l old new fault) (leads ∙ ap (λ (n : ℕ). is_to_lead n turn) is)
      (subst (λ (p : Party). IsUnmade next answers begin p lead old new fault) sent why)
