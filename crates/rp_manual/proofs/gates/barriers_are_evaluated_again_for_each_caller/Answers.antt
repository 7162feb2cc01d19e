-- By computing, one action at a time.
use Rattle.std.proofs.Common.{◌≡◌, pos, true, false, List, [], ◌∷◌, refl, ap, ◌∙◌}
use Rattle.rp_object.specs.rp_base.specs.declared.action.Action.{Action}
use Rattle.rp_object.specs.rp_base.specs.declared.reply.Reply.TheVariants.{Value}
use Rattle.rp_object.specs.rp_base.specs.declared.reply.Answer.{Answer}
use Rattle.rp_object.specs.rp_body.specs.declared.statement.Outcome.TheVariants.{Out}
use Rattle.rp_object.specs.rp_body.specs.Meaning.{body_effect}
use Rattle.rp_object.specs.rp_machine.specs.Replay.{Replayed, replay_step, replay_of}
use Rattle.rp_object.specs.State.{ProgramState, Running, first_state}
use Rattle.rp_object.specs.Step.{objects_next, objects_answers}
use Rattle.rp_manual.specs.Memory.{Unread}
use Rattle.rp_manual.specs.Outcomes.{gets}
use Rattle.rp_manual.specs.Gate.{passes, first_call}
use Rattle.rp_manual.specs.Gates.{lift_body, pass_body, late_body, gates_components, gates, gates_are, passes_late, lifts_as}
use Rattle.rp_manual.proofs.Computing.{works, first_get}
use Rattle.rp_manual.proofs.gates.barriers_are_evaluated_again_for_each_caller.Goals as goal

lift_first : body_effect lift_body (pos 0) (gates_components (pos 0) false) ≡ (gates_components (pos 0) true, Out (pos 0))
lift_first = simp works

lift_again : body_effect lift_body (pos 0) (gates_components (pos 2) false) ≡ (gates_components (pos 2) true, Out (pos 0))
lift_again = simp works

late_passes : body_effect late_body (pos 0) (gates_components (pos 2) true) ≡ (gates_components (pos 2) true, Out (pos 7))
late_passes = simp works

-- one action more
module _ {S : Type 0} (next : S → Action → S) (answers : S → Action → List Answer) (begin : S) (a b c d e : Action) where
  four_is : replay_of next answers begin (a ∷ b ∷ c ∷ d ∷ []) ≡ replay_step next answers (replay_of next answers begin (a ∷ b ∷ c ∷ [])) d
  four_is = refl

  five_is : replay_of next answers begin (a ∷ b ∷ c ∷ d ∷ e ∷ []) ≡ replay_step next answers (replay_of next answers begin (a ∷ b ∷ c ∷ d ∷ [])) e
  five_is = refl

module _ (unread : Unread) where
  first_passes : body_effect (pass_body unread) (pos 0) (gates_components (pos 0) true) ≡ (gates_components (pos 1) true, Out (pos 1))
  first_passes = simp works

  second_passes : body_effect (pass_body unread) (pos 0) (gates_components (pos 1) true) ≡ (gates_components (pos 2) false, Out (pos 2))
  second_passes = simp works

  abbrev after : List Action → List Answer → ProgramState → Replayed Running
  after kept given state = record { state = record { program = gates unread; state = state }; kept = kept; given = given }

  abbrev three : List Action
  three = passes 1 ∷ passes 2 ∷ passes_late 3 ∷ []

  abbrev four : List Action
  four = passes 1 ∷ passes 2 ∷ passes_late 3 ∷ lifts_as 4 1 ∷ []

  abbrev five : List Action
  five = passes 1 ∷ passes 2 ∷ passes_late 3 ∷ lifts_as 4 1 ∷ lifts_as 1 2 ∷ []

  abbrev waiting : Replayed Running
  waiting = after three [] (gates_are unread (pos 0) false (first_call 1 ∷ first_call 2 ∷ []) (first_call 3 ∷ []))

  abbrev two_passed : Replayed Running
  two_passed = after four (gets 4 1 (Value (pos 0)) ∷ gets 1 1 (Value (pos 1)) ∷ gets 2 1 (Value (pos 2)) ∷ []) (gates_are unread (pos 2) false [] (first_call 3 ∷ []))

  abbrev all_passed : Replayed Running
  all_passed = after five (gets 4 1 (Value (pos 0)) ∷ gets 1 1 (Value (pos 1)) ∷ gets 2 1 (Value (pos 2)) ∷ gets 1 2 (Value (pos 0)) ∷ gets 3 1 (Value (pos 7)) ∷ []) (gates_are unread (pos 2) true [] [])

  two_pass : replay_step objects_next objects_answers waiting (lifts_as 4 1) ≡ two_passed
  two_pass = simp (lift_first, first_passes, second_passes, first_get)

  third_passes : replay_step objects_next objects_answers two_passed (lifts_as 1 2) ≡ all_passed
  third_passes = simp (lift_again, late_passes, first_get)

  abbrev begin : Running
  begin = first_state (gates unread)

  after_three : replay_of objects_next objects_answers begin three ≡ waiting
  after_three = simp first_get

  after_four : replay_of objects_next objects_answers begin four ≡ two_passed
  after_four =
      four_is objects_next objects_answers begin (passes 1) (passes 2) (passes_late 3) (lifts_as 4 1) (lifts_as 1 2)
      ∙ ap (λ (r : Replayed Running). replay_step objects_next objects_answers r (lifts_as 4 1)) after_three ∙ two_pass

  after_five : replay_of objects_next objects_answers begin five ≡ all_passed
  after_five =
      five_is objects_next objects_answers begin (passes 1) (passes 2) (passes_late 3) (lifts_as 4 1) (lifts_as 1 2)
      ∙ ap (λ (r : Replayed Running). replay_step objects_next objects_answers r (lifts_as 1 2)) after_four ∙ third_passes

pub returns : goal.returns
returns c = record {
  two_pass = λ unread. let done = after_four unread in record { answered = ap (λ (r : Replayed Running). r.given) done; left = ap (λ (r : Replayed Running). r.state.state) done };
  third_passes = λ unread. let done = after_five unread in record { answered = ap (λ (r : Replayed Running). r.given) done; left = ap (λ (r : Replayed Running). r.state.state) done };
}
