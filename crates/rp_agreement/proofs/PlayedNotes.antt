-- Histories in which a tick or an interrupt that a node noted is decided and applied.
use Rattle.std.proofs.Common.{List, ◌∷◌, ◌++◌, inl, refl, arith}
use Rattle.rp_base.specs.declared.action.Action.{Action}
use Rattle.rp_base.specs.declared.action.Action.TheVariants.{Interrupt, Tick}
use Rattle.rp_base.specs.declared.reply.Answer.{Answer}
use Rattle.rp_model.specs.Answers.{Happen}
use Rattle.rp_model.specs.Events as events
use Rattle.rp_model.specs.Events.{Step, Event, IsRightStep, Makes}
use Rattle.rp_model.specs.World.{World, opening_world}
use Rattle.rp_agreement.specs.Possible.{FirstHasApplied, IsNotedAndApplied, three_nodes}
use Rattle.rp_agreement.specs.Noted.{IsNoted}
use Rattle.rp_agreement.proofs.Playing.{deciding, learning, right_on, right_deciding, right_learning, history_of, two_decide, Votes}

-- node 1 notes something, leads and learns
abbrev noting : Step → List Event
noting note = Makes note ∷ (deciding 0 ++ learning 0)

module _ {S : Type 0} (next : S → Action → S) (answers : S → Action → List Answer) (begin : S) where
  -- what that leads to
  abbrev Noted : Step → Action → Type 0
  Noted note v = (w : World) × Happen (three_nodes 1 next answers begin) (opening_world 3) (noting note) w × Votes w.sent 9 1 1 9 v × Votes w.sent 10 2 1 9 v × FirstHasApplied w v

  applied_so : (note : Step) (v : Action) → IsRightStep note → IsNoted (noting note) v → Noted note v → IsNotedAndApplied (three_nodes 1 next answers begin) v
  applied_so note v right noted played = record {
    events = noting note;
    world = played.0;
    history = history_of 1 (omega arith, omega arith) next answers begin (noting note) played.0
        (right, right_on (deciding 0) (learning 0) (right_deciding 0) (right_learning 0)) played.1;
    noted = noted;
    decided = two_decide played.0.sent 9 10 1 9 v played.2 played.3;
    applied = played.4;
  }

  play_tick : Noted (events.Tick 1 7) (Tick 7)
  play_tick = (_, (_, refl, (_, refl, (_, refl, (_, refl, (_, refl, (_, refl, (_, refl, (_, refl, (_, refl, (_, refl, refl)))))))))), refl, refl, (_, refl, refl))

  play_interrupt : Noted (events.Interrupt 1 2 1) (Interrupt 2 1)
  play_interrupt = (_, (_, refl, (_, refl, (_, refl, (_, refl, (_, refl, (_, refl, (_, refl, (_, refl, (_, refl, (_, refl, refl)))))))))), refl, refl, (_, refl, refl))

  pub notes_a_tick : IsNotedAndApplied (three_nodes 1 next answers begin) (Tick 7)
  notes_a_tick = applied_so (events.Tick 1 7) (Tick 7) ((omega arith, omega arith), omega arith) (1, inl refl) play_tick

  pub notes_an_interrupt : IsNotedAndApplied (three_nodes 1 next answers begin) (Interrupt 2 1)
  notes_an_interrupt =
      applied_so (events.Interrupt 1 2 1) (Interrupt 2 1) ((omega arith, omega arith), (omega arith, omega arith), (omega arith, omega arith)) (1, inl refl) play_interrupt
