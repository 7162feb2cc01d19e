-- When two starts of a machine behave alike: no node and no task can tell them apart.
use Rattle.std.specs.Prelude.{◌≡◌, ℕ, List}
use Rattle.rp_base.specs.declared.action.Action.{Action}
use Rattle.rp_base.specs.declared.reply.Answer.{Answer}
use Rattle.rp_model.specs.rp_machine.specs.Replay.{counted_of, replay_answers, replay_state}

module _ {S : Type 0} (next : S → Action → S) (answers : S → Action → List Answer) where
  -- From either start the same actions of each log count, and the same answers are given.
  pub record AnswerAlike (one other : S) : Type 0 where
    pub kept : (log : List Action) → counted_of next answers one log ≡ counted_of next answers other log
    pub given : (log : List Action)
        → replay_answers next answers one log ≡ replay_answers next answers other log

  -- And the same is shown after each log.
  pub record BehaveAlike (image : S → List ℕ) (one other : S) : Type 0 where
    pub answer : AnswerAlike one other
    pub shown : (log : List Action)
        → image (replay_state next answers one log) ≡ image (replay_state next answers other log)
