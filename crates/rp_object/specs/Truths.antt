-- Which functions are true in a state.
use Rattle.std.specs.Prelude.{ℕ, pos, Bool, false, Option, Some}
use Rattle.rp_base.specs.declared.reply.Reply.TheVariants.{Truth}
use Rattle.rp_entry.specs.Actions.{calls_function}
use Rattle.rp_entry.specs.declared.state.CallOutcome.{CallOutcome}
use Rattle.rp_entry.specs.declared.state.CallOutcome.TheVariants.{Reply}
use Rattle.rp_object.specs.State.{ProgramState}
use Rattle.rp_object.specs.Step.{asks}

-- the outcome of a call is the reply True
abbrev pub is_true_reply : Option CallOutcome → Bool
is_true_reply (Some (Reply (Truth value))) = value
is_true_reply _ = false

-- a call of this function of an object with the argument 0 gets the reply True
abbrev pub is_true : ProgramState → ℕ → ℕ → Bool
is_true state object index = is_true_reply (asks state object (calls_function index (pos 0))).caller
