-- The counter keeps the laws of a machine.
use Rattle.std.proofs.Common.{◌≡◌, ℕ, ◌+◌, ◌<◌, ◌≤◌, ◌^◌, ◌==◌, nat_le, ℤ, pos, negsuc, Bool, true}
use Rattle.std.proofs.Common.{false, Some, None, [], ◌++◌, codes, decimal, if◌then◌else◌, refl, sym}
use Rattle.std.proofs.Common.{ap₂, ◌∙◌, subst, inl, inr, arith}
use Rattle.std.proofs.lemmas.Bool.{leb-true}
use Rattle.std.proofs.lemmas.List.{append_cancel_left, append_cancel_right}
use Rattle.std.proofs.lemmas.Fmt.{decimal_injective}
use Rattle.rp_base.specs.Action.{IsRight}
use Rattle.rp_base.specs.Right.{IsReply}
use Rattle.rp_base.specs.Sets.{Has}
use Rattle.rp_base.specs.declared.action.Action.{Action}
use Rattle.rp_base.specs.declared.action.Action.TheVariants.{Noop, Call, Interrupt, Tick}
use Rattle.rp_base.specs.declared.action.Operation.{Operation}
use Rattle.rp_base.specs.declared.action.Operation.TheVariants.{Function, Procedure, Entry}
use Rattle.rp_base.specs.declared.action.Operation.TheVariants.{SetTimer, CancelTimer}
use Rattle.rp_base.specs.declared.reply.Answer.{Answer}
use Rattle.rp_base.specs.declared.reply.Reply.{Reply}
use Rattle.rp_base.specs.declared.reply.Reply.TheVariants.{Value, NoSuchOperation}
use Rattle.rp_machine.specs.Calls.{MayApply, AccountsFor}
use Rattle.rp_machine.proofs.AtOnce.{none_answered, own_answered}
use Rattle.rp_examples.specs.Counter.{begun, increased, after_add, called, counter_next}
use Rattle.rp_examples.specs.Counter.{counter_answers, counter_image, IsCounterOf}
use Rattle.rp_examples.specs.declared.counter.BoundedCounter.{BoundedCounter}
use Rattle.rp_examples.specs.declared.program.CounterProgram.{CounterProgram}

-- ---- the count stays within the bound, and the reply fits

-- what holds of the count after a call, and of the reply
record Fits (most : ℕ) (after : ℕ × Reply) : Type 0 where
  within : after.0 ≤ most
  reply : IsReply after.1

small : (program : CounterProgram) (n : ℕ) → n ≤ program.most → n < 2 ^ 63
small program n within = omega (arith, program.fits)

value_fits : (program : CounterProgram) (n : ℕ) → n ≤ program.most → IsReply (Value (pos n))
value_fits program n within = record { sfits = small program n within }

sum_fits : (program : CounterProgram) (counter : BoundedCounter) → IsCounterOf program counter
    → (sum : ℕ) (b : Bool)
    → nat_le sum counter.most ≡ b
    → Fits program.most (after_add counter (if b then Some sum else None))
sum_fits program counter runs sum true e =
    let within : sum ≤ program.most = omega (arith, leb-true sum counter.most e, runs.bound) in
    record { within = within; reply = value_fits program sum within }
sum_fits program counter runs sum false e =
    record { within = omega (arith, runs.bound, runs.within); reply = tt }

add_fits : (program : CounterProgram) (counter : BoundedCounter) → IsCounterOf program counter → (arg : ℤ)
    → Fits program.most (after_add counter (increased counter arg))
add_fits program counter runs (pos n) =
    sum_fits program counter runs (counter.count + n) (nat_le (counter.count + n) counter.most) refl
add_fits program counter runs (negsuc n) =
    record { within = omega (arith, runs.bound, runs.within); reply = tt }

procedure_fits : (program : CounterProgram) (counter : BoundedCounter) → IsCounterOf program counter
    → (arg : ℤ)
    (adds resets : Bool)
    → Fits program.most (if adds then after_add counter (increased counter arg)
    else (if resets then (0, Value (pos 0)) else (counter.count, NoSuchOperation)))
procedure_fits program counter runs arg true resets = add_fits program counter runs arg
procedure_fits program counter runs arg false true =
    record { within = omega arith; reply = value_fits program 0 (omega arith) }
procedure_fits program counter runs arg false false =
    record { within = omega (arith, runs.bound, runs.within); reply = tt }

call_fits : (program : CounterProgram) (counter : BoundedCounter) → IsCounterOf program counter
    → (operation : Operation)
    (arg : ℤ) → Fits program.most (called counter operation arg)
call_fits program counter runs (Procedure index) arg =
    procedure_fits program counter runs arg (index == 1) (index == 2)
call_fits program counter runs (Function index) arg =
    record { within = omega (arith, runs.bound, runs.within); reply = tt }
call_fits program counter runs (Entry index) arg =
    record { within = omega (arith, runs.bound, runs.within); reply = tt }
call_fits program counter runs (SetTimer index) arg =
    record { within = omega (arith, runs.bound, runs.within); reply = tt }
call_fits program counter runs (CancelTimer index) arg =
    record { within = omega (arith, runs.bound, runs.within); reply = tt }

-- the start is a state of the program
pub Runs-begun : (program : CounterProgram) → IsCounterOf program (begun program)
Runs-begun program = record { bound = refl; within = omega arith }

-- an action leads to a state of the program
pub Runs-next : (program : CounterProgram) (counter : BoundedCounter) (action : Action)
    → IsCounterOf program counter
    → IsRight action → MayApply [] action → IsCounterOf program (counter_next counter action)
Runs-next program counter Noop runs right may = runs
Runs-next program counter (Call task number object operation arg) runs right may = record {
  bound = runs.bound;
  within = omega (arith, runs.bound, (call_fits program counter runs operation arg).within);
}
Runs-next program counter (Interrupt source occurrence) runs right may = runs
Runs-next program counter (Tick now) runs right may = runs

-- ---- the image shows the count

same_counter : (s t : BoundedCounter) → s.most ≡ t.most → s.count ≡ t.count → s ≡ t
same_counter s t most count =
    ap₂ (λ (m n : ℕ). let c : BoundedCounter = record { most = m; count = n } in c) most count

-- counters of one program that look the same are the same
pub counter_image-injective : (program : CounterProgram) (s t : BoundedCounter) → IsCounterOf program s
    → IsCounterOf program t
    → counter_image s ≡ counter_image t → s ≡ t
counter_image-injective program s t first second e =
    let line = append_cancel_left (codes "count ") (decimal s.count ++ codes "\n")
    (decimal t.count ++ codes "\n") e in
    let number : decimal s.count ≡ decimal t.count =
    append_cancel_right (decimal s.count) (decimal t.count)
    (codes "\n") line in
    let count : s.count ≡ t.count = decimal_injective s.count t.count
    (omega (arith, program.fits, first.bound, first.within))
    (omega (arith, program.fits, second.bound, second.within))
    number in
    same_counter s t (first.bound ∙ sym second.bound) count

-- ---- a call is answered at once

pub counter_accounts : (program : CounterProgram) (counter : BoundedCounter) (action : Action)
    → IsCounterOf program counter
    → IsRight action → MayApply [] action
    → AccountsFor [] action (counter_answers counter action) []
counter_accounts program counter Noop runs right may = none_answered Noop refl
counter_accounts program counter (Call task number object operation arg) runs right may =
    own_answered (Call task number object operation arg) _ refl
counter_accounts program counter (Interrupt source occurrence) runs right may =
    none_answered (Interrupt source occurrence) refl
counter_accounts program counter (Tick now) runs right may = none_answered (Tick now) refl

-- the value of each reply has 64 signed bits
pub counter_replies : (program : CounterProgram) (counter : BoundedCounter) (action : Action)
    → IsCounterOf program counter
    → IsRight action → MayApply [] action
    → (answer : Answer) → Has answer (counter_answers counter action) → IsReply answer.reply
counter_replies program counter Noop runs right may answer h = absurd h
counter_replies program counter (Call task number object operation arg) runs right may answer h =
    elim h [
      | inl same ↦ subst (λ (a : Answer). IsReply a.reply) (sym same)
          (call_fits program counter runs operation arg).reply
      | inr none ↦ absurd none
    ]
counter_replies program counter (Interrupt source occurrence) runs right may answer h = absurd h
counter_replies program counter (Tick now) runs right may answer h = absurd h
