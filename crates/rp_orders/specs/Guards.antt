-- Which calls a task makes, by the replies that it got.
use Rattle.std.specs.Prelude.{ℕ, ◌+◌, Bool, true, false, not, ◌&&◌, ◌||◌, nat_eq, Option, Some}
use Rattle.std.specs.Prelude.{None, List}
use Rattle.std.specs.Prelude.{if◌then◌else◌}
use Rattle.std.specs.List.{list_all}
use Rattle.rp_machine.specs.rp_base.specs.declared.action.Action.{Action}
use Rattle.rp_machine.specs.rp_base.specs.declared.action.Action.TheVariants.{Noop, Call, Interrupt}
use Rattle.rp_machine.specs.rp_base.specs.declared.action.Action.TheVariants.{Tick}
use Rattle.rp_machine.specs.rp_base.specs.declared.reply.Answer.{Answer}
use Rattle.rp_machine.specs.rp_base.specs.declared.reply.Reply.{Reply}
use Rattle.rp_machine.specs.rp_base.specs.contracts.reply.ReplyPartialEq.TheImpl.{eq-value}
use Rattle.rp_machine.specs.Asked.{last_number, kept_reply}
use Rattle.rp_orders.specs.declared.guard.Guard.{Guard}

-- it is a guard of this call
abbrev pub is_of : Guard → ℕ → ℕ → Bool
is_of guard task number = nat_eq guard.task task && nat_eq guard.number number

-- the call may be made where this is the reply to the one before
abbrev pub fits : Guard → Reply → Bool
fits guard reply =
    if guard.is_wanted then eq-value.it guard.reply reply else not (eq-value.it guard.reply reply)

-- where there is no reply to the one before, it may not
abbrev pub holds : Guard → Option Reply → Bool
holds guard None = false
holds guard (Some reply) = fits guard reply

-- each guard of this call holds, where this is the reply to the one before
abbrev pub all_hold : List Guard → ℕ → ℕ → Option Reply → Bool
all_hold guards task number before =
    list_all (λ guard. not (is_of guard task number) || holds guard before) guards

-- the reply to the task's last call, once there is one
abbrev pub last_reply : ℕ → List Action → List Answer → Option Reply
last_reply task kept given = kept_reply task (last_number task kept) kept given

-- Whether an action may be decided next, after those that counted, which gave these answers: a call
-- only if the reply to its task's last call is one at which it is made.
abbrev pub is_allowed : List Guard → List Action → List Answer → Action → Bool
is_allowed guards kept given Noop = true
is_allowed guards kept given (Call task number object operation arg) =
    all_hold guards task number (last_reply task kept given)
is_allowed guards kept given (Interrupt source occurrence) = true
is_allowed guards kept given (Tick now) = true

-- the task's next call may be made, by its guards
abbrev pub may_go_on : List Guard → List Action → List Answer → ℕ → Bool
may_go_on guards kept given task =
    all_hold guards task (last_number task kept + 1) (last_reply task kept given)
