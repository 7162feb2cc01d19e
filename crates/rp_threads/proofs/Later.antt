-- What a turn of a loop does to the seat of its node: it stays the same seat, and has one event more or none.
use Rattle.std.proofs.Common.{◌≡◌, ◌⊎◌, ℕ, ◌+◌, ◌<◌, Bool, true, false, Option, Some, None, List, inl, inr, refl, sym, ap, subst, ◌∙◌, arith}
use Rattle.rp_base.specs.declared.action.Action.{Action}
use Rattle.rp_base.specs.declared.fault.Fault.{Fault}
use Rattle.rp_base.specs.declared.fault.Fault.TheVariants.{Device, Failed, OutOfMemory}
use Rattle.rp_base.specs.declared.reply.Answer.{Answer}
use Rattle.rp_codec.specs.declared.packet.Party.{Party}
use Rattle.rp_codec.specs.declared.packet.Party.TheVariants.{Node}
use Rattle.rp_replica.specs.rp_rules.specs.declared.input.Input.{Input}
use Rattle.rp_replica.specs.declared.sent.Sent.{Sent}
use Rattle.rp_tasks.specs.Line.{Line}
use Rattle.rp_board.specs.Parts.{Part, OfNode, with_got}
use Rattle.rp_board.specs.Seats.{SeatState, setting_at}
use Rattle.rp_boxes.specs.NodeSeats.{IsStopped, IsTurn, IsCutTurn, IsNoTurn}
use Rattle.rp_threads.specs.Lines.{given_on}
use Rattle.rp_threads.specs.Loops.{events_made, events_of, is_refusal}
use Rattle.rp_threads.specs.Rounds.{WorkerAt, IsIdleTurn, IsLeadAnew, IsMade, IsOwnUnmade, IsUnmade, IsMadeOrSkipped, Runs}
use Rattle.rp_threads.specs.Turns.{MayFetch, IsReceipt, IsEventBy, IsStopBy, Works, Fails, IsLead, IsNodeTurn, turn_of}
use Rattle.rp_threads.specs.declared.turns.PacketCounts.{PacketCounts}
use Rattle.rp_threads.specs.declared.turns.Turn.{Turn}
use Rattle.rp_threads.specs.declared.turns.Turn.TheVariants.{Received, Led, Idle}
use Rattle.rp_threads.specs.declared.turns.TurnResult.{TurnResult}
use Rattle.rp_threads.proofs.Puts.{HasOnlyPut}
use Rattle.rp_threads.proofs.Refusals.{GivesNoRange, lead_no_range, reason, receipt_no_range}
use Rattle.rp_threads.proofs.Rounds.{IsIdle}
use Rattle.rp_threads.proofs.Running.{not_stopped, turn_runs}
use Rattle.rp_threads.proofs.Steps.{event_puts, stepped_same}

-- The same seat, n events later. No call of its device failed, and its node runs as before.
pub record IsLater {P : Type 0} (old new : SeatState P) (n : ℕ) : Type 0 where
  pub same : new.setup ≡ old.setup
  pub failures : new.failures ≡ old.failures
  pub events : new.part.events ≡ old.part.events + n
  pub stopped : IsStopped new.part → IsStopped old.part
  pub runs : Runs old.part → Runs new.part

-- why a step or a turn is not made: the device failed, the node is stopped, memory ran out, or it is only refused that
-- the node leads
abbrev pub IsCause : {P : Type 0} → SeatState P → SeatState P → Fault → Type 0
IsCause old new fault =
    ((fault ≡ Device) × (old.failures < new.failures))
    ⊎ (((fault ≡ Failed) × IsStopped old.part × (new.failures ≡ old.failures))
    ⊎ (((fault ≡ OutOfMemory) × (new.failures ≡ old.failures)) ⊎ ((is_refusal fault ≡ true) × IsLater old new 0)))

-- The same seat, after a fault.
pub record IsLeft {P : Type 0} (old new : SeatState P) (fault : Fault) : Type 0 where
  pub same : new.setup ≡ old.setup
  pub cause : IsCause old new fault

module _ {P : Type 0} where
  -- ---- no event

  later_part : (old new : SeatState P) (part : Part) → new ≡ record old { part = part } → part.role ≡ old.part.role → part.events ≡ old.part.events → IsLater old new 0
  later_part old new part is role events = record {
    same = ap (λ (c : SeatState P). c.setup) is;
    failures = ap (λ (c : SeatState P). c.failures) is;
    events = let e = ap (λ (c : SeatState P). c.part.events) is ∙ events in omega (arith, e);
    stopped = λ stopped. (stopped.0, sym (ap (λ (c : SeatState P). c.part.role) is ∙ role) ∙ stopped.1, stopped.2);
    runs = λ runs. (runs.0, ap (λ (c : SeatState P). c.part.role) is ∙ role ∙ runs.1, runs.2);
  }

  pub later_same : (old new : SeatState P) → new ≡ old → IsLater old new 0
  later_same old new is = later_part old new old.part is refl refl

  -- ---- one after the other

  pub later_on : (a b c : SeatState P) (m n : ℕ) → IsLater a b m → IsLater b c n → IsLater a c (m + n)
  later_on a b c m n ab bc = record {
    same = bc.same ∙ ab.same;
    failures = bc.failures ∙ ab.failures;
    events = let first = ab.events in let more = bc.events in omega (arith, first, more);
    stopped = λ stopped. ab.stopped (bc.stopped stopped);
    runs = λ runs. bc.runs (ab.runs runs);
  }

  then_later : (a b c : SeatState P) (n : ℕ) → IsLater a b 0 → IsLater b c n → IsLater a c n
  then_later a b c n ab bc = let same : 0 + n ≡ n = omega arith in subst (IsLater a c) same (later_on a b c 0 n ab bc)

  cause_on : (old between new : SeatState P) (fault : Fault) → IsLater old between 0 → IsCause between new fault → IsCause old new fault
  cause_on old between new fault later (inl device) = inl (device.0, subst (λ (n : ℕ). n < new.failures) later.failures device.1)
  cause_on old between new fault later (inr (inl failed)) = inr (inl (failed.0, later.stopped failed.1, failed.2 ∙ later.failures))
  cause_on old between new fault later (inr (inr (inl memory))) = inr (inr (inl (memory.0, memory.1 ∙ later.failures)))
  cause_on old between new fault later (inr (inr (inr refused))) = inr (inr (inr (refused.0, then_later old between new 0 later refused.1)))

  left_on : (old between new : SeatState P) (fault : Fault) → IsLater old between 0 → IsLeft between new fault → IsLeft old new fault
  left_on old between new fault later left = record { same = left.same ∙ later.same; cause = cause_on old between new fault later left.cause }

  -- at a refusal to lead there is no event
  refused_later : (old new : SeatState P) (fault : Fault) → is_refusal fault ≡ true → IsCause old new fault → IsLater old new 0
  refused_later old new fault refuses (inl device) = let clash : false ≡ true = ap is_refusal (sym device.0) ∙ refuses in absurd (cc)
  refused_later old new fault refuses (inr (inl failed)) = let clash : false ≡ true = ap is_refusal (sym failed.0) ∙ refuses in absurd (cc)
  refused_later old new fault refuses (inr (inr (inl memory))) = let clash : false ≡ true = ap is_refusal (sym memory.0) ∙ refuses in absurd (cc)
  refused_later old new fault refuses (inr (inr (inr refused))) = refused.1

module _ {S P : Type 0} (next : S → Action → S) (answers : S → Action → List Answer) (begin : P → S) where
  fetch_later : (fetched : Option (List ℕ)) (from to : Party) (old new : SeatState P) → MayFetch next answers begin fetched from to old new → IsLater old new 0
  fetch_later None from to old new f = later_same old new f.0
  fetch_later (Some text) from to old new f = later_part old new (with_got f.packet old.part) f.after refl refl

  -- ---- one step

  stepped_runs : (old stepped new : SeatState P) (input : Input) (sent : Sent) → IsTurn next answers begin old input stepped sent → HasOnlyPut stepped new → Runs new.part
  stepped_runs old stepped new input sent t puts =
      let runs = turn_runs next answers begin old stepped input sent t in
      (runs.0, ap (λ (c : SeatState P). c.part.role) puts.after ∙ runs.1, runs.2)

  stepped_later : (old stepped new : SeatState P) (input : Input) (sent : Sent) → IsTurn next answers begin old input stepped sent → HasOnlyPut stepped new → IsLater old new 1
  stepped_later old stepped new input sent t puts =
      let now = stepped_runs old stepped new input sent t puts in
      record {
        same = stepped_same (OfNode t.done.part) t.done.sends old stepped new t.after puts;
        failures = ap (λ (c : SeatState P). c.failures) puts.after ∙ ap (λ (c : SeatState P). c.failures) t.after;
        events = ap (λ (c : SeatState P). c.part.events) puts.after ∙ ap (λ (c : SeatState P). c.part.events) t.after;
        stopped = λ stopped. absurd (not_stopped new.part now stopped);
        runs = λ before. now;
      }

  pub event_runs : (Is : Input → Type 0) (old new : SeatState P) (packets : PacketCounts) → IsEventBy next answers begin Is old new packets → Runs new.part
  event_runs Is old new packets e = stepped_runs old e.stepped new e.input e.sent e.turn (event_puts next answers begin Is old new packets e)

  event_later : (Is : Input → Type 0) (old new : SeatState P) (packets : PacketCounts) → IsEventBy next answers begin Is old new packets → IsLater old new 1
  event_later Is old new packets e = stepped_later old e.stepped new e.input e.sent e.turn (event_puts next answers begin Is old new packets e)

  no_turn : (old new : SeatState P) (fault : Fault) (input : Input) (none : IsNoTurn next answers begin old input new fault)
      → ((fault ≡ Failed) × (none.node.running ≡ None)) ⊎ ((fault ≡ OutOfMemory) ⊎ (is_refusal fault ≡ true)) → IsCause old new fault
  no_turn old new fault input none (inl failed) = inr (inl (failed.0, (none.node, none.was, failed.1), ap (λ (c : SeatState P). c.failures) none.unchanged))
  no_turn old new fault input none (inr (inl memory)) = inr (inr (inl (memory, ap (λ (c : SeatState P). c.failures) none.unchanged)))
  no_turn old new fault input none (inr (inr refused)) = inr (inr (inr (refused, later_same old new none.unchanged)))

  left_by : (old new : SeatState P) (input : Input) (fault : Fault) → GivesNoRange input
      → IsCutTurn next answers begin old input new fault ⊎ IsNoTurn next answers begin old input new fault → IsLeft old new fault
  left_by old new input fault small (inl cut) = record { same = ap (λ (c : SeatState P). c.setup) cut.after; cause = inl (cut.device, cut.failed) }
  left_by old new input fault small (inr none) = record {
    same = ap (λ (c : SeatState P). c.setup) none.unchanged;
    cause = no_turn old new fault input none
        (reason (setting_at next answers begin old) old.setup.number none.node none.given none.node.running fault (small none.given none.gives) none.why);
  }

  stop_left : (Is : Input → Type 0) (old new : SeatState P) (fault : Fault) → ((input : Input) → Is input → GivesNoRange input) → IsStopBy next answers begin Is old new fault → IsLeft old new fault
  stop_left Is old new fault small s = left_by old new s.input fault (small s.input s.is) s.why

  -- ---- the work of a turn

  works_later : (given : Option (List ℕ)) (lead : Bool) (old new : SeatState P) (packets : PacketCounts) → Works next answers begin given lead old new packets → IsLater old new (events_of (turn_of given lead))
  works_later (Some text) lead old new packets w = event_later (IsReceipt text) old new packets w
  works_later None true old new packets w = event_later IsLead old new packets w
  works_later None false old new packets w = later_same old new w.0

  fails_left : (given : Option (List ℕ)) (lead : Bool) (old new : SeatState P) (fault : Fault) → Fails next answers begin given lead old new fault → IsLeft old new fault
  fails_left (Some text) lead old new fault f = stop_left (IsReceipt text) old new fault (receipt_no_range text) f
  fails_left None true old new fault f = stop_left IsLead old new fault (lead_no_range None) f
  fails_left None false old new fault f = absurd f

  -- an idle turn was not to lead
  not_led : (given : Option (List ℕ)) (lead : Bool) (turn : Turn) → turn ≡ turn_of given lead → turn ≡ Idle → lead ≡ false
  not_led (Some text) lead turn is idle = let e : Received ≡ Idle = sym is ∙ idle in absurd (cc)
  not_led None true turn is idle = let e : Led ≡ Idle = sym is ∙ idle in absurd (cc)
  not_led None false turn is idle = refl

  -- ---- a turn

  module _ (from : Party) (lead : Bool) (old between : SeatState P) (line after : Line) (turned : TurnResult) (t : IsNodeTurn next answers begin from lead old between line after turned) where
    turn_later : IsLater old between (events_of turned.turn)
    turn_later =
        subst (λ (u : Turn). IsLater old between (events_of u)) (sym t.turn)
        (then_later old t.between between (events_of (turn_of (given_on t.full) lead)) (fetch_later t.brought.fetched from (Node old.setup.number) old t.between t.brought.fetch)
        (works_later (given_on t.full) lead t.between between turned.packets t.works))

    idle_later : turned.turn ≡ Idle → IsLater old between 0
    idle_later idle = subst (λ (u : Turn). IsLater old between (events_of u)) idle turn_later

  module _ (from : Party) (lead : Bool) (old new : WorkerAt P) where
    first_later : (between : SeatState P) → IsIdleTurn next answers begin from lead old new between → IsLater old.seat between 0
    first_later between t = idle_later from lead old.seat between old.line new.line t.turned t.turn t.idle

    made_later : (turned : TurnResult) → IsMade next answers begin from lead old new turned → IsLater old.seat new.seat (events_of turned.turn)
    made_later turned (inl own) = turn_later from lead old.seat new.seat old.line new.line turned own.turn
    made_later turned (inr anew) =
        let led = anew.1 in
        subst (λ (u : Turn). IsLater old.seat new.seat (events_of u)) (sym anew.0)
        (then_later old.seat led.between new.seat 1 (first_later led.between led.first) (event_later (IsLeadAnew next answers begin led.between) led.between new.seat turned.packets led.leads))

    own_left : (fault : Fault) → IsOwnUnmade next answers begin from lead old new fault → IsLeft old.seat new.seat fault
    own_left fault (inl lost) =
        let later = fetch_later (Some lost.packet) from (Node old.seat.setup.number) old.seat new.seat lost.fetch in
        record { same = later.same; cause = inr (inr (inl (lost.memory, later.failures))) }
    own_left fault (inr stopped) =
        left_on old.seat stopped.between new.seat fault (fetch_later stopped.brought.fetched from (Node old.seat.setup.number) old.seat stopped.between stopped.brought.fetch)
        (fails_left (given_on stopped.full) lead stopped.between new.seat fault stopped.fails)

    pub unmade_left : (fault : Fault) → IsUnmade next answers begin from lead old new fault → IsLeft old.seat new.seat fault
    unmade_left fault (inl own) = own_left fault own.0
    unmade_left fault (inr anew) =
        left_on old.seat anew.between new.seat fault (first_later anew.between anew.first)
        (stop_left (IsLeadAnew next answers begin anew.between) anew.between new.seat fault (λ input is. lead_no_range (Some is.0) input is.2) anew.stops)

    -- a turn that is made or skipped
    pub turned_later : (heard : ℕ → Type 0) (passes : Bool → Type 0) (made : Option TurnResult) → IsMadeOrSkipped next answers begin from lead old new heard passes made → IsLater old.seat new.seat (events_made made)
    turned_later heard passes (Some turned) made = made_later turned made.1
    turned_later heard passes None (inl skipped) = later_same old.seat new.seat (ap (λ (w : WorkerAt P). w.seat) skipped.1)
    turned_later heard passes None (inr refused) = refused_later old.seat new.seat refused.1 refused.2 (unmade_left refused.1 refused.3).cause

    made_idle : (turned : TurnResult) → IsMade next answers begin from lead old new turned → turned.turn ≡ Idle → lead ≡ false
    made_idle turned (inl own) idle = not_led (given_on own.turn.full) lead turned.turn own.turn.turn idle
    made_idle turned (inr anew) idle = let clash : Led ≡ Idle = sym anew.0 ∙ idle in absurd (cc)

    pub turned_idle : (heard : ℕ → Type 0) (passes : Bool → Type 0) (made : Option TurnResult) → IsMadeOrSkipped next answers begin from lead old new heard passes made → IsIdle made → lead ≡ false
    turned_idle heard passes (Some turned) made is = made_idle turned made.1 is
    turned_idle heard passes None skipped is = absurd is
