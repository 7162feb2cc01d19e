-- The events are those of a right script that live mode takes, and their result is a possible one of the deck.
use Rattle.std.proofs.Common.{◌≡◌, ℕ, pos, Result, List, replicate, sym, ap, subst, ◌∙◌, arith}
use Rattle.std.specs.Prelude.{All, IfOk}
use Rattle.std.specs.Arc.{arc_value}
use Rattle.rp_deck.specs.rp_base.specs.declared.fault.Fault.{Fault}
use Rattle.rp_object.specs.rp_machine.specs.TallyRule.{tally_next, tally_answers}
use Rattle.rp_object.specs.State.{first_state}
use Rattle.rp_object.specs.Step.{objects_next, objects_answers}
use Rattle.rp_object.specs.declared.program.Program.{Program}
use Rattle.rp_live.specs.LiveOutcome.{IsLiveRun}
use Rattle.rp_live.specs.declared.run.LiveOutcome.{LiveOutcome}
use Rattle.rp_deck.specs.rp_deck_declarations.specs.declared.deck_program.DeckProgram.{DeckProgram}
use Rattle.rp_deck.specs.rp_deck_declarations.specs.declared.deck_program.DeckProgram.TheVariants.{Tally, Objects}
use Rattle.rp_deck.specs.indexmap.specs.IndexMap.{index_map_len}
use Rattle.rp_deck.specs.indexmap.specs.IndexSet.{index_set_len}
use Rattle.rp_output.specs.rp_model.specs.declared.event.Event.{Event}
use Rattle.rp_live.specs.Events.{IsLive}
use Rattle.rp_deck.specs.declared.deck.Deck.{Deck}
use Rattle.rp_deck.specs.declared.deck.Mode.TheVariants.{Live}
use Rattle.rp_deck.specs.Deck.{IsRightDeck}
use Rattle.rp_deck.specs.Live.{IsDeckFor}
use Rattle.rp_live_run.specs.LiveRun.{events_of, IsOutcomeOf, IsOutcome}
use Rattle.rp_live_run.proofs.LiveEvents.{live_events}
use Rattle.rp_live_run.proofs.live_run.live_deck.Goals as goal

of_deck : (deck : Deck) → IsRightDeck deck → IsDeckFor Live deck → All (IsLive deck.config.nodes) (events_of deck.script.items)
of_deck deck right live = live_events deck.config.nodes (index_map_len deck.tasks) (index_set_len deck.objects) deck.script.items right.script live

pub live-requires-clause-events : goal.live-requires-clause-events
live-requires-clause-events g c κs within =
    let deck = c.args.deck.now in
    subst (λ (l : List Event). All (IsLive deck.config.nodes) l)
    (sym (c.deref.ensures.value ∙ c.in_ok-events.ensures ∙ ap events_of c.as_slice.ensures.value))
    (of_deck deck c.requires.right c.requires.live)

pub live_objects-requires-clause-events : goal.live_objects-requires-clause-events
live_objects-requires-clause-events g c κs within =
    let deck = c.args.deck.now in
    subst (λ (l : List Event). All (IsLive deck.config.nodes) l)
    (sym (c.deref-in-Objects.ensures.value ∙ c.in_ok-events.ensures ∙ ap events_of c.as_slice.ensures.value))
    (of_deck deck c.requires.right c.requires.live)

module _ (deck : Deck) (seed turns count : ℕ) (events : List Event) (r : Result LiveOutcome Fault) (same : count ≡ turns) (script : events ≡ events_of deck.script.items) where
  of_tally : (objects : ℕ) → deck.program ≡ Tally objects
      → IfOk r (IsLiveRun tally_next tally_answers (λ objects. replicate objects (pos 0)) deck.config objects events seed count) → IfOk r (IsOutcome deck seed turns)
  of_tally objects program outcome =
      subst (λ (p : DeckProgram). IfOk r (IsOutcomeOf deck p seed turns)) (sym program)
      (subst (λ (n : ℕ). IfOk r (IsLiveRun tally_next tally_answers (λ objects. replicate objects (pos 0)) deck.config objects (events_of deck.script.items) seed n)) same
      (subst (λ (l : List Event). IfOk r (IsLiveRun tally_next tally_answers (λ objects. replicate objects (pos 0)) deck.config objects l seed count)) script outcome))

  of_objects : (objects : Program) → deck.program ≡ Objects objects
      → IfOk r (IsLiveRun objects_next objects_answers (λ program. first_state (arc_value program.declarations)) deck.config objects events seed count) → IfOk r (IsOutcome deck seed turns)
  of_objects objects program outcome =
      subst (λ (p : DeckProgram). IfOk r (IsOutcomeOf deck p seed turns)) (sym program)
      (subst (λ (n : ℕ). IfOk r (IsLiveRun objects_next objects_answers (λ program. first_state (arc_value program.declarations)) deck.config objects (events_of deck.script.items) seed n)) same
      (subst (λ (l : List Event). IfOk r (IsLiveRun objects_next objects_answers (λ program. first_state (arc_value program.declarations)) deck.config objects l seed count)) script outcome))

pub returns-in-Tally-clause-outcome : goal.returns-in-Tally-clause-outcome
returns-in-Tally-clause-outcome g c =
    of_tally c.args.deck.now c.args.request.seed c.args.request.turns c.from.result c.deref.result.now c.live.result (omega (arith, c.from.ensures))
    (c.deref.ensures.value ∙ c.in_ok-events.ensures ∙ ap events_of c.as_slice.ensures.value) c.in-Tally.program c.in-Tally.is c.live.ensures.outcome

pub returns-clause-outcome : goal.returns-clause-outcome
returns-clause-outcome g c =
    of_objects c.args.deck.now c.args.request.seed c.args.request.turns c.from.result c.deref-in-Objects.result.now c.live_objects.result (omega (arith, c.from.ensures))
    (c.deref-in-Objects.ensures.value ∙ c.in_ok-events.ensures ∙ ap events_of c.as_slice.ensures.value) c.in-Objects.program c.in-Objects.is c.live_objects.ensures.outcome
