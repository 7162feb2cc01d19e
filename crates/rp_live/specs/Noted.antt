-- What nodes note before they run.
use Rattle.std.specs.Prelude.{◌≡◌, ℕ, zero, suc, ◌-◌, Option, Some, None, List, set, slice_get}
use Rattle.rp_threads.specs.rp_base.specs.declared.action.Action.{Action}
use Rattle.rp_threads.specs.rp_base.specs.declared.reply.Answer.{Answer}
use Rattle.rp_board.specs.Seats.{SeatState}
use Rattle.rp_boxes.specs.rp_model.specs.declared.event.Event.{Event}
use Rattle.rp_boxes.specs.rp_model.specs.declared.event.Event.TheVariants.{Submit, Again, Node, Cut}
use Rattle.rp_boxes.specs.rp_model.specs.declared.event.Event.TheVariants.{Stop, Restart}
use Rattle.rp_boxes.specs.rp_model.specs.declared.event.Step.{Step}
use Rattle.rp_boxes.specs.rp_model.specs.declared.event.Step.TheVariants.{Deliver, Lead, LeadRange}
use Rattle.rp_boxes.specs.rp_model.specs.declared.event.Step.TheVariants.{Interrupt}
use Rattle.rp_boxes.specs.rp_model.specs.declared.event.Step.TheVariants.{Tick, Report, Ask}
use Rattle.rp_boxes.specs.rp_rules.specs.declared.input.Input.{Input}
use Rattle.rp_boxes.specs.rp_rules.specs.declared.input.Input.TheVariants as inputs
use Rattle.rp_threads.specs.Turns.{IsEventBy}
use Rattle.rp_threads.specs.declared.turns.PacketCounts.{PacketCounts}

-- which node notes the step, and the input that it is to it
abbrev pub noted_in : Step → Option (ℕ × Input)
noted_in (Deliver number) = None
noted_in (Lead node position) = None
noted_in (LeadRange node first count) = None
noted_in (Interrupt node interrupt) =
    Some (node, inputs.Interrupt interrupt.source interrupt.occurrence)
noted_in (Tick node now) = Some (node, inputs.Tick now)
noted_in (Report node first) = None
noted_in (Ask node to) = None

-- the same of an event
abbrev pub noted_by : Event → Option (ℕ × Input)
noted_by (Submit task node object operation arg) = None
noted_by (Again task node) = None
noted_by (Node step) = noted_in step
noted_by (Cut step kept) = None
noted_by (Stop node) = None
noted_by (Restart node) = None

module _ {S P : Type 0} (next : S → Action → S) (answers : S → Action → List Answer)
    (begin : P → S) where
  -- One event of the node of this number, by this input, whose packets were offered to their boxes;
  -- the other nodes stay as they are.
  pub record IsTakenAt (node : ℕ) (input : Input) (olds news : List (SeatState P)) : Type 0 where
    pub old : SeatState P
    pub new : SeatState P
    pub at : slice_get olds (node - 1) ≡ Some old
    pub news_are : news ≡ set olds (node - 1) new
    pub packets : PacketCounts
    pub event : IsEventBy next answers begin (λ given. given ≡ input) old new packets

  -- what is noted at its node, if something is
  abbrev pub IsNotedInput : Option (ℕ × Input) → List (SeatState P) → List (SeatState P) → Type 0
  IsNotedInput None olds news = news ≡ olds
  IsNotedInput (Some note) olds news = IsTakenAt note.0 note.1 olds news

  -- the first n of the events are noted, one after the other
  abbrev pub AreNoted : List Event → ℕ → List (SeatState P) → List (SeatState P) → Type 0
  AreNoted events zero olds news = news ≡ olds
  AreNoted events (suc n) olds news =
      (between : List (SeatState P)) × (event : Event) × AreNoted events n olds between
      × (slice_get events n ≡ Some event) × IsNotedInput (noted_by event) between news
