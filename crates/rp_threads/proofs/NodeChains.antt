-- The turns of a node's loop, one after the other: what they leave of its seat, and their counts.
use Rattle.std.proofs.Common.{◌≡◌, ◌≢◌, ◌⊎◌, ℕ, suc, ◌+◌, ◌<◌, ◌≤◌, Bool, true, false, Option, Some, None, Result, Ok, Err, List, inl, inr, refl, sym, ap, subst, ◌∙◌, arith}
use Rattle.std.specs.Prelude.{IfSome}
use Rattle.rp_base.specs.declared.action.Action.{Action}
use Rattle.rp_base.specs.declared.fault.Fault.{Fault}
use Rattle.rp_base.specs.declared.fault.Fault.TheVariants.{Device}
use Rattle.rp_base.specs.declared.reply.Answer.{Answer}
use Rattle.rp_codec.specs.declared.packet.Party.{Party}
use Rattle.rp_codec.specs.declared.packet.Party.TheVariants.{Node}
use Rattle.rp_tasks.specs.Line.{Line}
use Rattle.rp_board.specs.Seats.{SeatSetup, SeatState}
use Rattle.rp_threads.specs.Loops.{events_made, is_refusal, is_to_lead, lead_period, sender_at, total_of, turns_off}
use Rattle.rp_threads.specs.LoopTurns.{HasEnded, IsAsked, IsNeverOver, IsStoppedBy}
use Rattle.rp_threads.specs.Rounds.{NodeAt, IsCountedTurn, IsUncountedTurn, IsNodeFault, Runs, before_turns, node_party, node_rested}
use Rattle.rp_threads.specs.Threads.{CountsTurns, IsLooped, end_of}
use Rattle.rp_threads.specs.declared.loops.Counts.{Counts}
use Rattle.rp_threads.specs.declared.loops.NodeEnd.{NodeEnd}
use Rattle.rp_threads.proofs.Chains.{by_end, made_all}
use Rattle.rp_threads.proofs.Later.{IsCause, IsLater, later_on, later_same, turned_idle, turned_later, unmade_left}
use Rattle.rp_threads.proofs.Rounds.{IsIdle, counted_idle, counted_more}

-- What n turns leave of a seat, and what they count.
pub record HasMadeTurns {P : Type 0} (first : SeatState P) (n : ℕ) (now : NodeAt P) : Type 0 where
  pub later : IsLater first now.worker.seat (now.counts.received + now.counts.led)
  pub total : total_of now.counts ≡ n
  pub idle : now.counts.idle ≤ turns_off (lead_period first.setup.number) n

-- What a loop that made n turns and ended by this fault, or without one, leaves of a seat.
pub record IsLeftBy {P : Type 0} (over : Party → ℕ → ℕ → Result Bool Fault → Type 0) (first : SeatState P) (n : ℕ) (last : NodeAt P) (fault : Option Fault) : Type 0 where
  pub same : last.worker.seat.setup ≡ first.setup
  pub failures : fault ≢ Some Device → last.worker.seat.failures ≡ first.failures
  pub turned : fault ≡ None → HasMadeTurns first n last
  pub cause : IfSome fault (λ f. IsNodeFault first last.worker.seat f ⊎ IsStoppedBy over (Node first.setup.number) f)

-- ---- why a loop ends

module _ {P : Type 0} (first before last : SeatState P) (n : ℕ) (fault : Fault) (later : IsLater first before n) where
  cause_of : is_refusal fault ≡ false → IsCause before last fault → IsNodeFault first last fault
  cause_of ends (inl device) = subst (IsNodeFault first last) (sym device.0) (subst (λ (k : ℕ). k < last.failures) later.failures device.1)
  cause_of ends (inr (inl failed)) = subst (IsNodeFault first last) (sym failed.0) (later.stopped failed.1)
  cause_of ends (inr (inr (inl memory))) = subst (IsNodeFault first last) (sym memory.0) tt
  cause_of ends (inr (inr (inr refused))) = let clash : true ≡ false = sym refused.0 ∙ ends in absurd (cc)

  kept_failures : IsCause before last fault → fault ≢ Device → last.failures ≡ first.failures
  kept_failures (inl device) other = absurd (other device.0)
  kept_failures (inr (inl failed)) other = failed.2 ∙ later.failures
  kept_failures (inr (inr (inl memory))) other = memory.1 ∙ later.failures
  kept_failures (inr (inr (inr refused))) other = refused.1.failures ∙ later.failures

module _ {S P : Type 0} (next : S → Action → S) (answers : S → Action → List Answer) (begin : P → S) (lets : ℕ → ℕ → Bool → Type 0) (heard : ℕ → ℕ → ℕ → Type 0) (nodes : ℕ) where
  abbrev IsTurn : ℕ → NodeAt P → NodeAt P → Type 0
  IsTurn = IsCountedTurn next answers begin lets heard nodes

  abbrev IsNoTurn : ℕ → NodeAt P → NodeAt P → Fault → Type 0
  IsNoTurn = IsUncountedTurn next answers begin lets heard nodes

  one_turned : (first : SeatState P) (n : ℕ) (before now : NodeAt P) → HasMadeTurns first n before → IsTurn (suc n) before now → HasMadeTurns first (suc n) now
  one_turned first n before now has t =
      let from = sender_at nodes (suc n) in
      let number = before.worker.seat.setup.number in
      let lead = is_to_lead number (suc n) in
      let passes = lets number (suc n) in
      let hears = heard number (suc n) in
      let one = counted_more t.made before.counts in
      let count : now.counts.received + now.counts.led ≡ before.counts.received + before.counts.led + events_made t.made = ap (λ (c : Counts). c.received + c.led) t.counts ∙ one.1 in
      let off : IsIdle t.made → is_to_lead first.setup.number (suc n) ≡ false =
      λ idle. subst (λ (s : SeatSetup P). is_to_lead s.number (suc n) ≡ false) has.later.same
      (turned_idle next answers begin from lead before.worker now.worker hears passes t.made t.turns idle) in
      record {
        later = subst (IsLater first now.worker.seat) (sym count)
            (later_on first before.worker.seat now.worker.seat (before.counts.received + before.counts.led) (events_made t.made) has.later
            (turned_later next answers begin from lead before.worker now.worker hears passes t.made t.turns));
        total = let total = ap total_of t.counts ∙ one.0 in let totals = has.total in omega (arith, total, totals);
        idle = subst (λ (c : Counts). c.idle ≤ turns_off (lead_period first.setup.number) (suc n)) (sym t.counts)
            (counted_idle t.made before.counts (lead_period first.setup.number) n off has.idle);
      }

  none_turned : (seat : SeatState P) (line : Line) → HasMadeTurns seat 0 (before_turns seat line)
  none_turned seat line = record { later = later_same seat seat refl; total = refl; idle = omega arith }

  -- ---- ends of loops

  some_fault : (f : Fault) → Some f ≡ None → ⊥
  some_fault f is = cc

  module _ (over : Party → ℕ → ℕ → Result Bool Fault → Type 0) where
    whole_left : (seat : SeatState P) (n : ℕ) (now : NodeAt P) → HasMadeTurns seat n now → IsLeftBy over seat n now None
    whole_left seat n now has = record { same = has.later.same; failures = λ other. has.later.failures; turned = λ none. has; cause = tt }

    halted_left : (seat : SeatState P) (n : ℕ) (now : NodeAt P) (fault : Fault) → HasMadeTurns seat n now → IsAsked over node_party node_rested IsTurn n now (Err fault) → IsLeftBy over seat n now (Some fault)
    halted_left seat n now fault has answer = record {
      same = has.later.same;
      failures = λ other. has.later.failures;
      turned = λ none. absurd (some_fault fault none);
      cause = inr (suc n, node_rested n now, subst (λ (s : SeatSetup P). over (Node s.number) (suc n) (node_rested n now) (Err fault)) has.later.same answer);
    }

    stopped_left : (seat : SeatState P) (n : ℕ) (before last : NodeAt P) (fault : Fault) → HasMadeTurns seat n before → IsNoTurn (suc n) before last fault → IsLeftBy over seat n last (Some fault)
    stopped_left seat n before last fault has none =
        let now = before.worker.seat in
        let left = unmade_left next answers begin (sender_at nodes (suc n)) (is_to_lead now.setup.number (suc n)) before.worker last.worker fault none.unmade.1 in
        let count = before.counts.received + before.counts.led in
        record {
          same = left.same ∙ has.later.same;
          failures = λ other. kept_failures seat now last.worker.seat count fault has.later left.cause (λ device. other (ap (λ (f : Fault). Some f) device));
          turned = λ none. absurd (some_fault fault none);
          cause = inl (cause_of seat now last.worker.seat count fault has.later none.ends left.cause);
        }

    module _ (turns : ℕ) (seat : SeatState P) (line : Line) where
      abbrev Ended : NodeAt P → Option Fault → Type 0
      Ended last fault = HasEnded over node_party node_rested IsTurn IsNoTurn turns (before_turns seat line) last fault

      ended_left : (last : NodeAt P) (fault : Option Fault) (ended : Ended last fault) → IsLeftBy over seat ended.done last fault
      ended_left last fault ended =
          by_end over node_party node_rested IsTurn IsNoTurn (HasMadeTurns seat) (IsLeftBy over seat) (one_turned seat) (whole_left seat) (halted_left seat) (stopped_left seat) turns (before_turns seat line) last fault
          (none_turned seat line) ended

      module _ {M D : Type 0} (notifies : Party → Option Fault → Type 0) where
        abbrev IsEnd : NodeEnd M D P → Type 0
        IsEnd end = IsLooped next answers begin lets heard over notifies nodes turns seat line end

        counts_turns : (n : ℕ) (last : NodeAt P) (fault : Option Fault) → HasMadeTurns seat n last → CountsTurns {M = M} {D = D} seat n (end_of last fault)
        counts_turns n last fault has = let events = has.later.events in record { counted = has.total; events = omega (arith, events); idle = has.idle }

        pub looped : (last : NodeAt P) (fault : Option Fault) → Ended last fault → notifies (node_party last) fault → IsEnd (end_of last fault)
        looped last fault ended notified =
            let left = ended_left last fault ended in
            record {
              last = last;
              is = refl;
              ran = ended;
              same = left.same;
              notified = subst (λ (s : SeatSetup P). notifies (Node s.number) fault) left.same notified;
              failures = left.failures;
              counts = λ none. counts_turns ended.done last fault (left.turned none);
              whole = λ never none. subst (λ (n : ℕ). CountsTurns {M = M} {D = D} seat n (end_of last fault)) (made_all over node_party node_rested IsTurn IsNoTurn turns (before_turns seat line) last fault never none ended)
                  (counts_turns ended.done last fault (left.turned none));
              cause = left.cause;
            }

        -- the node still runs if its loop ended without a fault
        pub still_runs : (end : NodeEnd M D P) → IsEnd end → end.fault ≡ None → Runs seat.part → Runs end.seat.part
        still_runs end looped none runs =
            subst (λ (s : SeatState P). Runs s.part) (sym (ap (λ (e : NodeEnd M D P). e.seat) looped.is)) (((ended_left looped.last end.fault looped.ran).turned none).later.runs runs)
