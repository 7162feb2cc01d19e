-- The reply to a caller of an operation that ran.
use Rattle.std.specs.Prelude.{ℤ, pos, if◌then◌else◌}
use Rattle.rp_base.specs.declared.reply.Reply.{Reply}
use Rattle.rp_base.specs.declared.reply.Reply.TheVariants.{Value, Truth, ConstraintError}
use Rattle.rp_body.specs.declared.statement.Outcome.{Outcome}
use Rattle.rp_body.specs.declared.statement.Outcome.TheVariants.{Out, Raised}
use Rattle.rp_body.specs.Store.{Store}
use Rattle.rp_body.specs.Expressions.{value_of, truth_of, fits_64}
use Rattle.rp_entry.specs.declared.operations.Function.{Function}
use Rattle.rp_entry.specs.declared.operations.Function.TheVariants.{Value as Whole}
use Rattle.rp_entry.specs.declared.operations.Function.TheVariants.{Truth as Condition}

-- the out value of a body, or the exception that it raised (Ada Reference Manual, section 11.4)
abbrev pub reply_of : Outcome → Reply
reply_of (Out out) = Value out
reply_of Raised = ConstraintError

-- the value of a function's expression, with Constraint_Error outside 64 signed bits (section 4.5),
-- or the truth of its condition
abbrev pub function_reply : Function → Store → ℤ → Reply
function_reply (Whole expr) store arg =
    let value = value_of expr store arg (pos 0) in if fits_64 value then Value value
    else ConstraintError
function_reply (Condition test) store arg = Truth (truth_of test store arg (pos 0))
