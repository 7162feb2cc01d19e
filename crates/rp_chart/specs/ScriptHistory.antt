-- What happens in the lines of a script, in order, and what is drawn beside each moment.
use Rattle.std.specs.Prelude.{ℕ, zero, suc, ◌+◌, ◌-◌, ◌^◌, ◌&&◌, min, not, nat_le, Bool, true}
use Rattle.std.specs.Prelude.{Option, Some, None, Result, Ok, Err, List, [], ◌∷◌, ◌++◌, length, map}
use Rattle.std.specs.Prelude.{filter}
use Rattle.std.specs.Prelude.{if◌then◌else◌, codes}
use Rattle.rp_run.specs.rp_base.specs.Records.{applied_of}
use Rattle.rp_run.specs.rp_base.specs.declared.action.Action.{Action}
use Rattle.rp_run.specs.rp_base.specs.declared.fault.Fault.{Fault}
use Rattle.rp_run.specs.rp_base.specs.declared.fault.Fault.TheVariants.{NoSuchMessage}
use Rattle.rp_run.specs.rp_base.specs.declared.record.Rec.{Rec}
use Rattle.rp_run.specs.rp_base.specs.declared.reply.Answer.{Answer}
use Rattle.rp_run.specs.rp_codec.specs.Message.{Message}
use Rattle.rp_run.specs.rp_codec.specs.declared.packet.Party.TheVariants as parties
use Rattle.rp_run.specs.rp_deck.specs.declared.deck.Command.{Command}
use Rattle.rp_run.specs.rp_deck.specs.declared.deck.Command.TheVariants.{Take, Lose, Drain, Show}
use Rattle.rp_run.specs.rp_deck.specs.declared.deck.Line.{Line}
use Rattle.rp_history.specs.rp_drawing.specs.Words.{fitted_text, whole_text}
use Rattle.rp_history.specs.rp_drawing.specs.declared.sketch.Kind.TheVariants.{State}
use Rattle.rp_history.specs.Histories.{Happening, EventHappened, MessageLost, NothingHappened}
use Rattle.rp_history.specs.Histories.{LabelText, delivered_by}
use Rattle.rp_history.specs.Views.{is_event_drawn, lane_of, mark_of, shows_all}
use Rattle.rp_history.specs.declared.happened.Happened.{Happened}
use Rattle.rp_history.specs.declared.stage.Stage.{Stage}
use Rattle.rp_run.specs.rp_machine.specs.Replay.{one_to, replay_state}
use Rattle.rp_run.specs.rp_model.specs.Parts.{NodePart, Running}
use Rattle.rp_run.specs.rp_model.specs.World.{World, Transition, part_at}
use Rattle.rp_run.specs.rp_model.specs.declared.event.Event.{Event}
use Rattle.rp_run.specs.rp_model.specs.declared.event.Event.TheVariants.{Node}
use Rattle.rp_run.specs.rp_model.specs.declared.event.Step.TheVariants.{Deliver}
use Rattle.rp_run.specs.rp_output.specs.Printed.{applied_line_of, stopped_line_of}
use Rattle.rp_details.specs.Details.{details_text}
use Rattle.rp_history.specs.declared.page.Form.{Form}
use Rattle.rp_history.specs.declared.page.Form.TheVariants.{Drawing}
use Rattle.rp_run.specs.Output.{RunSetting, Play, transition_of, event_said, command_said, from_to}
use Rattle.rp_run.specs.Output.{is_among, least_unsettled, opening_play}
use Rattle.rp_run.specs.Runs.{run_setting}
use Rattle.rp_world.specs.rp_actors.specs.Steps.{ClusterState}
use Rattle.rp_chart.specs.Causes.{cause_text, line_text, packet_text}
use Rattle.rp_chart.specs.Effects.{effect_text, refusal_text}
use Rattle.rp_chart.specs.Prospects.{happened_in}
use Rattle.rp_chart.specs.declared.scene.Scene.{Scene}

-- A run that is drawn: what is constant in it, the lines of its deck, what is drawn where, and what
-- is made of it.
pub record DrawnRun (S : Type 0) : Type 0 where
  pub run : RunSetting S
  pub deck : List (List ℕ)
  pub stage : Stage
  pub form : Form

-- the lines of a scene's deck
abbrev pub deck_of : Scene → List (List ℕ)
deck_of scene = map (λ line. line.now) scene.deck.now

-- the run of a cluster that a scene draws
abbrev pub drawn_run : {S P : Type 0} → (S → Action → S) → (S → Action → List Answer) → (P → S)
    → (S → List ℕ) → ClusterState P → Scene → DrawnRun S
drawn_run next answers start image cluster scene = record {
  run = run_setting next answers start image cluster scene.options.now;
  deck = deck_of scene;
  stage = scene.stage;
  form = scene.form;
}

-- the text of an image, as it is drawn
abbrev pub image_text : List ℕ → List ℕ
image_text image = whole_text image

-- What is drawn beside an event: what was delivered, or the line of the deck, and what the actor
-- did; and what a page says of it.
abbrev pub event_label : List (List ℕ) → List ℕ → Stage → Happened → List ℕ → LabelText
event_label names line stage h details = record {
  cause = fitted_text (cause_text names line (delivered_by h.event) h.packet);
  effect = whole_text (effect_text h h.event);
  mark = mark_of stage h;
  is_drawn = is_event_drawn stage.view.position h.packet;
  details = details;
}

-- beside a line of the deck in which nothing happened
abbrev pub line_label : List ℕ → List ℕ → Bool → LabelText
line_label line effect is_drawn = record {
  cause = fitted_text line;
  effect = effect;
  mark = None;
  is_drawn = is_drawn;
  details = [];
}

-- beside a message that was lost
abbrev pub lost_label : List (List ℕ) → Stage → ℕ → Option Message → LabelText
lost_label names stage number packet = record {
  cause = fitted_text (packet_text names [] number packet);
  effect = whole_text (codes "lost");
  mark = None;
  is_drawn = is_event_drawn stage.view.position packet;
  details = [];
}

-- beside a node that is shown
abbrev pub shown_label : Stage → ℕ → List ℕ → List ℕ → LabelText
shown_label stage node cause effect = record {
  cause = cause;
  effect = effect;
  mark = Some (record { lane = lane_of stage.tasks (parties.Node node); colour = 0; kind = State });
  is_drawn = true;
  details = [];
}

abbrev pub stopped_label : Stage → ℕ → LabelText
stopped_label stage node = shown_label stage node (fitted_text (stopped_line_of node)) []

abbrev pub running_label : Stage → ℕ → ℕ → List ℕ → LabelText
running_label stage node applied image =
    shown_label stage node (fitted_text (applied_line_of node applied)) (image_text image)

-- the messages from the first to the last that are not settled, in order
abbrev pub unsettled_in : Play → ℕ → ℕ → List ℕ
unsettled_in play first last = filter (λ m. not (is_among play.settled m)) (from_to first last)

-- a moment in which nothing happens, under this label
abbrev pub under : LabelText → Happening
under label = record { item = NothingHappened; label = label }

module _ {S : Type 0} (d : DrawnRun S) where
  -- the line of this number was refused
  abbrev pub refused : ℕ → Fault → Happening
  refused line fault = under (line_label (line_text d.deck line) (whole_text (refusal_text fault))
      (shows_all d.stage.view.position))

  -- a message was lost
  abbrev pub message_lost : World → ℕ → Happening
  message_lost w number = record {
    item = MessageLost number;
    label = lost_label d.run.names d.stage number (part_at w.sent number);
  }

  -- the line of this number lost nothing
  abbrev pub lost_nothing : ℕ → Happening
  lost_nothing line = under (line_label (line_text d.deck line) (whole_text (codes "lost nothing"))
      (shows_all d.stage.view.position))

  -- the `drain` in the line of this number ended at its limit
  abbrev pub drain_ended : ℕ → Happening
  drain_ended line = under (line_label (line_text d.deck line)
      (whole_text (codes "drain limit")) true)

  -- a node with these records is shown, stopped or running
  abbrev pub state_label : ℕ → List Rec → Option Running → LabelText
  state_label node records None = stopped_label d.stage node
  state_label node records (Some running) =
      running_label d.stage node (min (length (applied_of records)) (2 ^ 16 - 1))
      (d.run.image (replay_state d.run.setting.next d.run.setting.answers d.run.setting.begin
      (applied_of records)))

  -- the node of this number is shown
  abbrev pub part_label : ℕ → Option NodePart → LabelText
  part_label node None = stopped_label d.stage node
  part_label node (Some part) = state_label node part.records part.running

  abbrev pub node_shown : World → ℕ → Happening
  node_shown w node = under (part_label node (part_at w.nodes node))

  -- What a page says of an event, in which the first packet that is sent has this number, by the
  -- world after it. A drawing says nothing.
  abbrev pub details_as : Form → Event → ℕ → World → List ℕ
  details_as Drawing event first after = []
  details_as _ event first after =
      details_text d.run d.stage.tasks (delivered_by event) first after

  -- an event of the line of this number happens, or is refused, and then nothing happens
  abbrev pub happening_of : ℕ → World → Event → Result Transition Fault → Happening
  happening_of line w event (Ok transition) = record {
    item = EventHappened event;
    label = event_label d.run.names (line_text d.deck line) d.stage
        (happened_in w event transition)
        (details_as d.form event (length w.sent + 1) transition.world);
  }
  happening_of line w event (Err refusal) = refused line refusal

  -- what an event of the line of this number is to a play
  unfoldable pub event_happens : ℕ → Play → Event → Happening
  event_happens line play event =
      happening_of line play.world event (transition_of d.run play.world event)

  -- one moment if none is lost
  abbrev pub none_lost : ℕ → List ℕ → List Happening
  none_lost line [] = lost_nothing line ∷ []
  none_lost line (message ∷ rest) = []

  -- Those of the messages from the first to the last that are not settled are lost, in this order,
  -- if all of them were sent; or the line of this number says that it lost nothing.
  abbrev pub losses : ℕ → Play → ℕ → ℕ → List Happening
  losses line play first last =
      map (message_lost play.world) (unsettled_in play first last)
      ++ none_lost line (unsettled_in play first last)

  abbrev pub lose_happens : ℕ → Play → ℕ → ℕ → List Happening
  lose_happens line play first last =
      if nat_le first (length play.world.sent) && nat_le last (length play.world.sent)
      then losses line play first last
      else refused line NoSuchMessage ∷ []

  -- The least unsettled message, if there is one, is delivered, and so on, until none is left; or n
  -- were delivered, and then nothing happens.
  unfoldable pub happens_from : ℕ → Play → Option ℕ → ℕ → List Happening
  happens_from line play None most = []
  happens_from line play (Some message) zero = drain_ended line ∷ []
  happens_from line play (Some message) (suc most) =
      let after = (event_said d.run line play (Node (Deliver message))).play in
      event_happens line play (Node (Deliver message))
      ∷ happens_from line after (least_unsettled after) most

  -- by `drain`, in a line of this number
  abbrev pub drain_happens : ℕ → ℕ → Play → List Happening
  drain_happens line most play = happens_from line play (least_unsettled play) most

  -- the nodes 1 to n are shown
  abbrev pub nodes_shown : World → ℕ → List Happening
  nodes_shown w count = map (node_shown w) (one_to count)

  -- what happens by a command in the line of this number, where a `drain` may deliver n messages
  abbrev pub command_happens : ℕ → ℕ → Play → Command → List Happening
  command_happens most line play (Take event) = event_happens line play event ∷ []
  command_happens most line play (Lose first last) = lose_happens line play first last
  command_happens most line play Drain = drain_happens line most play
  command_happens most line play Show =
      nodes_shown play.world d.run.setting.config.nodes

  -- what happens by lines in order, each in the play that the lines before it lead to
  unfoldable pub lines_happen : ℕ → Play → List Line → List Happening
  lines_happen most play [] = []
  lines_happen most play (line ∷ rest) =
      command_happens most line.number play line.command
      ++ lines_happen most (command_said d.run most line.number play line.command).play rest

  -- what happens by a script, where a `drain` may deliver n messages
  abbrev pub script_happens : ℕ → List Line → List Happening
  script_happens most lines = lines_happen most (opening_play d.run) lines
