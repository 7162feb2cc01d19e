-- The events of a deck that live mode takes are right for a run in threads.
use Rattle.std.proofs.Common.{ℕ, suc, List, [], ◌∷◌, arith}
use Rattle.std.specs.Prelude.{All}
use Rattle.std.specs.List.{cons_option}
use Rattle.std.proofs.lemmas.List.Elements.{All-nil, All-cons}
use Rattle.rp_output.specs.rp_model.specs.declared.event.Event.{Event}
use Rattle.rp_output.specs.rp_model.specs.declared.event.Event.TheVariants.{Submit, Again, Node, Cut, Stop, Restart}
use Rattle.rp_output.specs.rp_model.specs.declared.event.Step.{Step}
use Rattle.rp_output.specs.rp_model.specs.declared.event.Step.TheVariants.{Deliver, Lead, LeadRange, Interrupt, Tick, Report, Ask}
use Rattle.rp_live.specs.Events.{IsLive, IsNoting}
use Rattle.rp_deck.specs.Live.{IsLiveCommand, IsLiveEvent, IsLiveStep}
use Rattle.rp_deck.specs.Script.{FitsIn, IsEventWithin, IsStepWithin}
use Rattle.rp_deck.specs.declared.deck.Command.{Command}
use Rattle.rp_deck.specs.declared.deck.Command.TheVariants.{Take, Lose, Drain, Show}
use Rattle.rp_deck.specs.declared.deck.Line.{Line}
use Rattle.rp_live_run.specs.LiveRun.{event_of, events_of}

module _ (nodes tasks objects : ℕ) where
  noting : (step : Step) → IsStepWithin nodes step → IsLiveStep step → IsNoting nodes step
  noting (Deliver message) within live = absurd live
  noting (Lead node position) within live = absurd live
  noting (LeadRange node first count) within live = absurd live
  noting (Interrupt node interrupt) within live = within.1
  noting (Tick node now) within live = within.1
  noting (Report node first) within live = absurd live
  noting (Ask node to) within live = absurd live

  live_event : (event : Event) → IsEventWithin nodes tasks objects event → IsLiveEvent event → IsLive nodes event
  live_event (Submit task node object operation arg) within live = within.1.1
  live_event (Again task node) within live = absurd live
  live_event (Node step) within live = noting step within live
  live_event (Cut step kept) within live = absurd live
  live_event (Stop node) within live = absurd live
  live_event (Restart node) within live = absurd live

  one_more : (command : Command) (events : List Event) → FitsIn nodes tasks objects command → IsLiveCommand command → All (IsLive nodes) events
      → All (IsLive nodes) (cons_option (event_of command) events)
  one_more (Take event) events fits live others = All-cons (IsLive nodes) event events (live_event event fits live) others
  one_more (Lose first last) events fits live others = absurd live
  one_more Drain events fits live others = absurd live
  one_more Show events fits live others = absurd live

  pub live_events : (lines : List Line) → All (λ line. FitsIn nodes tasks objects line.command) lines → All (λ line. IsLiveCommand line.command) lines
      → All (IsLive nodes) (events_of lines)
  live_events [] fit live = All-nil (IsLive nodes)
  live_events (line ∷ rest) fit live =
      one_more line.command (events_of rest) (fit 0 line (omega arith)) (live 0 line (omega arith))
      (live_events rest (λ k d below. fit (suc k) d (omega arith)) (λ k d below. live (suc k) d (omega arith)))
