-- A counter with a bound and a reset: what each action makes of it, and the answers (the rule is
-- ours).
use Rattle.std.specs.Prelude.{◌≡◌, ℕ, ◌+◌, ◌≤◌, ◌==◌, nat_le, ℤ, pos, negsuc, Option, Some, None}
use Rattle.std.specs.Prelude.{List, [], ◌∷◌, ◌++◌, if◌then◌else◌, decimal, codes}
use Rattle.rp_base.specs.declared.action.Action.{Action}
use Rattle.rp_base.specs.declared.action.Action.TheVariants.{Noop, Call, Interrupt, Tick}
use Rattle.rp_base.specs.declared.action.Operation.{Operation}
use Rattle.rp_base.specs.declared.action.Operation.TheVariants.{Function, Procedure, Entry}
use Rattle.rp_base.specs.declared.action.Operation.TheVariants.{SetTimer, CancelTimer}
use Rattle.rp_base.specs.declared.reply.Reply.{Reply}
use Rattle.rp_base.specs.declared.reply.Reply.TheVariants.{Value, ConstraintError, NoSuchOperation}
use Rattle.rp_base.specs.declared.reply.Answer.{Answer}
use Rattle.rp_examples.specs.declared.counter.BoundedCounter.{BoundedCounter}
use Rattle.rp_examples.specs.declared.program.CounterProgram.{CounterProgram}

-- the start of a program
abbrev pub begun : CounterProgram → BoundedCounter
begun program = record { most = program.most; count = 0 }

-- a state of the program
pub record IsCounterOf (program : CounterProgram) (counter : BoundedCounter) : Type 0 where
  pub bound : counter.most ≡ program.most
  pub within : counter.count ≤ counter.most

-- the counter with another count
abbrev pub with_count : BoundedCounter → ℕ → BoundedCounter
with_count counter count = record counter { count = count }

-- the count after an `add`, if it is within the bound
abbrev pub increased : BoundedCounter → ℤ → Option ℕ
increased counter (pos n) =
    if nat_le (counter.count + n) counter.most then Some (counter.count + n) else None
increased counter (negsuc n) = None

-- the count after an `add`, and the reply
abbrev pub after_add : BoundedCounter → Option ℕ → ℕ × Reply
after_add counter None = (counter.count, ConstraintError)
after_add counter (Some sum) = (sum, Value (pos sum))

-- the count after a procedure, and the reply: the first one is `add`, the second one `reset`
abbrev pub after_procedure : BoundedCounter → ℕ → ℤ → ℕ × Reply
after_procedure counter index arg =
    if index == 1 then after_add counter (increased counter arg)
    else (if index == 2 then (0, Value (pos 0)) else (counter.count, NoSuchOperation))

-- the count after a call, and the reply
abbrev pub called : BoundedCounter → Operation → ℤ → ℕ × Reply
called counter (Procedure index) arg = after_procedure counter index arg
called counter (Function index) arg = (counter.count, NoSuchOperation)
called counter (Entry index) arg = (counter.count, NoSuchOperation)
called counter (SetTimer index) arg = (counter.count, NoSuchOperation)
called counter (CancelTimer index) arg = (counter.count, NoSuchOperation)

-- the counter after an action: a call alone changes it
abbrev pub counter_next : BoundedCounter → Action → BoundedCounter
counter_next counter Noop = counter
counter_next counter (Call task number object operation arg) =
    with_count counter (called counter operation arg).0
counter_next counter (Interrupt source occurrence) = counter
counter_next counter (Tick now) = counter

-- the answers to an action: a call's own reply, and nothing else
abbrev pub counter_answers : BoundedCounter → Action → List Answer
counter_answers counter Noop = []
counter_answers counter (Call task number object operation arg) =
    record { task = task; number = number; reply = (called counter operation arg).1 } ∷ []
counter_answers counter (Interrupt source occurrence) = []
counter_answers counter (Tick now) = []

-- the line that shows the count
abbrev pub counter_image : BoundedCounter → List ℕ
counter_image counter = codes "count " ++ decimal counter.count ++ codes "\n"
