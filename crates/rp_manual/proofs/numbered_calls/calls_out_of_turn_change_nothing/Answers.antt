-- By computing.
use Rattle.std.proofs.Common.{◌≡◌, pos, false, [], ◌∷◌, refl, ap, ◌∙◌}
use Rattle.rp_object.specs.rp_machine.specs.Replay.{Replayed, replay_step, replay_of}
use Rattle.rp_object.specs.declared.program.Declarations.{Declarations}
use Rattle.rp_object.specs.State.{Running, first_state}
use Rattle.rp_object.specs.Step.{objects_next, objects_answers}
use Rattle.rp_manual.specs.Memory.{Unread}
use Rattle.rp_manual.specs.Gate.{gate, gate_is, passes, lifts_next, first_call}
use Rattle.rp_manual.proofs.Computing.{works}
use Rattle.rp_manual.proofs.numbered_calls.calls_out_of_turn_change_nothing.Goals as goal

-- the caller waits, and another call of its task changes nothing
module _ (unread : Unread) where
  abbrev program : Declarations
  program = gate unread 5 5 (pos 0)

  abbrev waiting : Replayed Running
  waiting = record { state = record { program = program; state = gate_is unread (pos 0) false (first_call 1 ∷ []) }; kept = passes 1 ∷ []; given = [] }

  after_one : replay_of objects_next objects_answers (first_state program) (passes 1 ∷ []) ≡ waiting
  after_one = simp works

  no_more : replay_step objects_next objects_answers waiting (lifts_next 1) ≡ waiting
  no_more = refl

  after_two : replay_of objects_next objects_answers (first_state program) (passes 1 ∷ lifts_next 1 ∷ []) ≡ waiting
  after_two = ap (λ (r : Replayed Running). replay_step objects_next objects_answers r (lifts_next 1)) after_one ∙ no_more

pub returns : goal.returns
returns c = record {
  again = λ unread. record { answered = simp works; left = simp works };
  before_its_turn = λ unread. record { answered = refl; left = refl };
  while_its_task_waits = λ unread. record { answered = ap (λ (r : Replayed Running). r.given) (after_two unread); left = ap (λ (r : Replayed Running). r.state.state) (after_two unread) };
  in_turn = λ unread. record { answered = simp works; left = simp works };
}
