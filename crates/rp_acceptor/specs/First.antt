-- Where no vote was cast at a position yet.
use Rattle.std.specs.Prelude.{◌≡◌, ℕ, None, List}
use Rattle.rp_base.specs.declared.action.Action.{Action}
use Rattle.rp_base.specs.declared.record.Rec.{Rec}
use Rattle.rp_base.specs.declared.record.Rec.TheVariants.{Promised, Voted}
use Rattle.rp_base.specs.declared.voting.PrepareAnswer.TheVariants as prepares
use Rattle.rp_base.specs.declared.voting.AcceptAnswer.TheVariants as accepts
use Rattle.rp_base.specs.Records.{last_vote_at}
use Rattle.rp_base.specs.Voting.{prepare_answer, accept_answer}

-- a prepare of the ballot at the position is promised, with no vote to report
abbrev pub IsFirstPromise : List Rec → ℕ → ℕ → Type 0
IsFirstPromise records i b = prepare_answer records i b ≡ prepares.Promise None (Promised i b)

-- no vote was cast at the position, and one in the ballot is cast for whichever action
pub record IsFirstVote (records : List Rec) (i b : ℕ) : Type 0 where
  pub none : last_vote_at records i ≡ None
  pub cast : (action : Action)
      → accept_answer records i b action ≡ accepts.Vote (Voted i b action)
