-- How the sketch of a cluster's run describes its history: which messages were sent in each moment,
-- which one was settled there, and how, and the texts beside it.
use Rattle.std.specs.Prelude.{◌≡◌, ℕ, suc, ◌+◌, ◌^◌, ◌≤◌, ◌&&◌, Bool, Option, Some, None, List}
use Rattle.std.specs.Prelude.{[], ◌∷◌, length, map, drop, if◌then◌else◌, not, nat_lt, true, false}
use Rattle.std.specs.Prelude.{string_bytes}
use Rattle.rp_model.specs.rp_codec.specs.Message.{Message}
use Rattle.rp_model.specs.rp_codec.specs.declared.packet.Party.{Party}
use Rattle.rp_model.specs.rp_codec.specs.declared.packet.Party.TheVariants.{Node, Task, Audit}
use Rattle.rp_drawing.specs.Drawings.{IsDrawnBy, page_text}
use Rattle.rp_drawing.specs.Ways.{AddsMoment, AreDown, AreWays}
use Rattle.rp_drawing.specs.declared.drawing.Lane.{Lane}
use Rattle.rp_drawing.specs.declared.sketch.End.{End}
use Rattle.rp_drawing.specs.declared.sketch.End.TheVariants.{Taken, Unheard, Lost}
use Rattle.rp_drawing.specs.declared.sketch.Ending.{Ending}
use Rattle.rp_drawing.specs.declared.sketch.Label.{Label}
use Rattle.rp_drawing.specs.declared.sketch.Mark.{Mark}
use Rattle.rp_drawing.specs.declared.sketch.Moment.{Moment}
use Rattle.rp_drawing.specs.declared.sketch.Row.{Row}
use Rattle.rp_drawing.specs.declared.sketch.Sketch.{Sketch}
use Rattle.rp_model.specs.Effect.{Setting}
use Rattle.rp_model.specs.Events.{event_of}
use Rattle.rp_model.specs.Parts.{NodePart, Running}
use Rattle.rp_model.specs.Answers.{ResultsIn}
use Rattle.rp_model.specs.World.{World, opening_world, part_at}
use Rattle.rp_model.specs.declared.event.Event.{Event}
use Rattle.rp_model.specs.declared.event.Event.TheVariants.{Submit, Again, Node as NodeStep, Cut}
use Rattle.rp_model.specs.declared.event.Event.TheVariants.{Stop, Restart}
use Rattle.rp_model.specs.declared.event.Step.{Step}
use Rattle.rp_model.specs.declared.event.Step.TheVariants.{Deliver, Lead, LeadRange, Interrupt}
use Rattle.rp_model.specs.declared.event.Step.TheVariants.{Tick, Report, Ask}
use Rattle.rp_history.specs.Views.{is_part, is_within, sending_of}
use Rattle.rp_history.specs.declared.stage.Stage.{Stage}

-- ---- which message an event settles, and how

-- the message that a step delivers
abbrev pub delivered_in : Step → Option ℕ
delivered_in (Deliver message) = Some message
delivered_in (Lead node position) = None
delivered_in (LeadRange node first count) = None
delivered_in (Interrupt node interrupt) = None
delivered_in (Tick node now) = None
delivered_in (Report node first) = None
delivered_in (Ask node to) = None

-- the message that an event delivers, whole or cut
abbrev pub delivered_by : Event → Option ℕ
delivered_by (Submit task node object operation arg) = None
delivered_by (Again task node) = None
delivered_by (NodeStep step) = delivered_in step
delivered_by (Cut step kept) = delivered_in step
delivered_by (Stop node) = None
delivered_by (Restart node) = None

-- A running node takes what it is given; a stopped node, or one that does not exist, does not hear
-- it.
abbrev pub end_by_state : Option Running → End
end_by_state None = Unheard
end_by_state (Some running) = Taken

abbrev pub end_by_part : Option NodePart → End
end_by_part None = Unheard
end_by_part (Some part) = end_by_state part.running

abbrev pub end_at : World → Party → End
end_at w (Node node) = end_by_part (part_at w.nodes node)
end_at w (Task task) = Taken
end_at w Audit = Taken

-- how the way of a message of this number ends if it is delivered
abbrev pub ending_of : World → ℕ → Option Message → Option Ending
ending_of w number None = None
ending_of w number (Some m) = Some (record { message = number; end = end_at w m.to })

abbrev pub ending_at : World → Option ℕ → Option Ending
ending_at w None = None
ending_at w (Some number) = ending_of w number (part_at w.sent number)

-- how the way of the message that an event delivers ends, if it delivers one
abbrev pub ending_by : World → Event → Option Ending
ending_by w event = ending_at w (delivered_by event)

-- how the way of a lost message ends, if one is lost
abbrev pub lost_of : Option ℕ → Option Ending
lost_of None = None
lost_of (Some number) = Some (record { message = number; end = Lost })

-- ---- histories

-- What happened in a moment: an event, the loss of the message of this number, or nothing, as where
-- a line was refused or a node was shown.
pub data HistoryItem : Type 0 where
  EventHappened : Event → HistoryItem
  MessageLost : ℕ → HistoryItem
  NothingHappened : HistoryItem

-- a message was lost, or nothing happened
abbrev pub loss_of : Option ℕ → HistoryItem
loss_of None = NothingHappened
loss_of (Some number) = MessageLost number

-- how the way of a message ends by it, if one ends
abbrev pub item_ending : World → HistoryItem → Option Ending
item_ending w (EventHappened event) = ending_by w event
item_ending w (MessageLost number) = lost_of (Some number)
item_ending w NothingHappened = lost_of None

-- ---- the texts of a drawing

-- What is drawn of a moment beside the ways of packets: the texts at the left and at the right, the
-- mark, and whether the moment has a line also where no packet's way is drawn from it; and what a
-- page says of the moment, which is not drawn.
pub record LabelText : Type 0 where
  pub cause : List ℕ
  pub effect : List ℕ
  pub mark : Option Mark
  pub is_drawn : Bool
  pub details : List ℕ

-- the bytes of a label
abbrev pub label_text : Label → LabelText
label_text label = record {
  cause = string_bytes label.cause.text;
  effect = string_bytes label.effect.text;
  mark = label.mark;
  is_drawn = label.is_drawn;
  details = label.details.items;
}

-- A lane: its name and its colour.
pub record LaneText : Type 0 where
  pub name : List ℕ
  pub colour : ℕ

abbrev pub lane_text : Lane → LaneText
lane_text lane = record { name = string_bytes lane.name.text; colour = lane.colour }

-- What happened in a moment, and its label.
pub record Happening : Type 0 where
  pub item : HistoryItem
  pub label : LabelText

-- ---- the part of a run that is drawn

-- outside it no label is drawn
abbrev pub label_within : Bool → Label → Label
label_within is_within label = record label { is_drawn = is_within && label.is_drawn }

abbrev pub text_within : Bool → LabelText → LabelText
text_within is_within label = record label { is_drawn = is_within && label.is_drawn }

-- and no way ends
abbrev pub ending_within : Bool → Option Ending → Option Ending
ending_within is_within ending = if is_within then ending else None

-- ---- histories as they are drawn

-- A step of a history: a moment and its label as they are drawn, what happened in it, and the world
-- after it.
pub record HistoryStep : Type 0 where
  pub moment : Moment
  pub label : LabelText
  pub happening : Happening
  pub after : World

module _ {S : Type 0} (s : Setting S) (stage : Stage) where
  -- An event leads to the world after it. Neither a loss nor nothing changes the world.
  abbrev pub HappensBy : World → HistoryItem → World → Type 0
  HappensBy w (EventHappened event) after = ResultsIn s w (event_of event) after
  HappensBy w (MessageLost number) after = after ≡ w
  HappensBy w NothingHappened after = after ≡ w

  -- The moment of this number, from 1: the packets that it sends are the messages after those that
  -- were sent before it. If it is in the part that is drawn, the way ends that ends by what
  -- happened, and the label is the one of that.
  pub record IsStepFrom (number : ℕ) (w : World) (step : HistoryStep) : Type 0 where
    pub before : step.moment.before ≡ length w.sent
    pub sends : step.moment.sends.items
        ≡ map (sending_of stage (is_within stage.view number)) (drop (length w.sent) step.after.sent)
    pub happens : HappensBy w step.happening.item step.after
    pub ending : step.moment.ending
        ≡ ending_within (is_within stage.view number) (item_ending w step.happening.item)
    pub label : step.label ≡ text_within (is_within stage.view number) step.happening.label

  -- steps, of which the first has this number, lead from one world to another
  abbrev pub Leads : ℕ → World → List HistoryStep → World → Type 0
  Leads number w [] last = last ≡ w
  Leads number w (step ∷ rest) last =
      IsStepFrom number w step × Leads (suc number) step.after rest last

  -- The rows are the moments of the history in which this happened, in this order, under these
  -- labels: it leads from the opening world to this one.
  pub record IsHistory (rows : List Row) (happened : List Happening) (last : World)
      : Type 0 where
    pub steps : List HistoryStep
    pub moments_are : map (λ row. row.moment) rows ≡ map (λ step. step.moment) steps
    pub labels_are : map (λ row. label_text row.label) rows ≡ map (λ step. step.label) steps
    pub happened_are : happened ≡ map (λ step. step.happening) steps
    pub leads : Leads 1 (opening_world s.config.nodes) steps last

-- Each message has its way in the sketch, none of them upwards.
pub record IsDrawable (sketch : Sketch) : Type 0 where
  pub ways : AreWays sketch.rows.items sketch.ways.items
  pub down : AreDown sketch.lines sketch.ways.items
  pub few : sketch.lines ≤ 2 ^ 32

-- the next moment of a sketch is in the part that is drawn
abbrev pub is_next_within : Stage → Sketch → Bool
is_next_within stage sketch = is_within stage.view (length sketch.rows.items + 1)

-- The new sketch is the old one and a moment in which these packets are sent, and this way ends,
-- under this label.
pub record HasMoment (stage : Stage) (old new : Sketch) (packets : List Message)
    (ending : Option Ending) (label : Label)
    : Type 0 where
  pub moment : Moment
  pub before : moment.before ≡ length old.ways.items
  pub sends : moment.sends.items ≡ map (sending_of stage (is_next_within stage old)) packets
  pub ending_is : moment.ending ≡ ending_within (is_next_within stage old) ending
  pub added : AddsMoment old new moment (label_within (is_next_within stage old) label)

-- The sketch is that of the history in which this happened, which leads to this world, and each
-- message of the history has its way.
pub record IsSketchOf {S : Type 0} (s : Setting S) (stage : Stage) (sketch : Sketch)
    (happened : List Happening) (last : World)
    : Type 0 where
  pub history : IsHistory s stage sketch.rows.items happened last
  pub drawable : IsDrawable sketch
  pub count : length sketch.ways.items ≡ length last.sent

-- the drawing has more than 2,000 lines, and no part of the run is chosen
abbrev pub is_too_long : Stage → Sketch → Bool
is_too_long stage sketch = not (is_part stage.view) && nat_lt 2000 sketch.lines

-- The text is to the byte the page of a sketch of the history in which this happened, which leads
-- to this world, under these lanes. The sketch is not too long. It has the ways of the messages of that history as its arrows,
-- and no others, each from the moment in which the message was sent down to the one in which it was
-- settled.
pub record IsDrawingOf {S : Type 0} (s : Setting S) (stage : Stage) (lanes : List LaneText)
    (happened : List Happening) (last : World) (text : List ℕ)
    : Type 0 where
  pub sketch : Sketch
  pub sketched : IsSketchOf s stage sketch happened last
  pub short : is_too_long stage sketch ≡ false
  pub names : List Lane
  pub lanes_are : map lane_text names ≡ lanes
  pub page : text ≡ page_text names sketch
  pub drawn : IsDrawnBy sketch (length lanes) text

-- The sketch of that history is too long.
pub record IsTooLongFor {S : Type 0} (s : Setting S) (stage : Stage) (happened : List Happening)
    (last : World)
    : Type 0 where
  pub sketch : Sketch
  pub sketched : IsSketchOf s stage sketch happened last
  pub long : is_too_long stage sketch ≡ true

-- The drawing of that history, or none if its sketch is too long.
abbrev pub IsDrawnIfShort : {S : Type 0} → Setting S → Stage → List LaneText → List Happening
    → World → Option (List ℕ)
    → Type 0
IsDrawnIfShort s stage lanes happened last None = IsTooLongFor s stage happened last
IsDrawnIfShort s stage lanes happened last (Some text) =
    IsDrawingOf s stage lanes happened last text
