-- What a node decides of calls, interrupts and ticks that arrive.
use Rattle.std.specs.Prelude.{ℕ, nat_lt, Option, Some, None, List, length, if◌then◌else◌}
use Rattle.std.specs.List.{list_any}
use Rattle.rp_base.specs.declared.action.Action.{Action}
use Rattle.rp_base.specs.declared.action.Action.TheVariants.{Noop, Call, Interrupt, Tick}
use Rattle.rp_base.specs.declared.reply.Reply.{Reply}
use Rattle.rp_machine.specs.Asked.{last_number, last_occurrence, kept_reply}
use Rattle.rp_model.specs.Node.{RunningNode, counted_by, given_by}
use Rattle.rp_model.specs.Pending.{most_pending, is_same_call}
use Rattle.rp_model.specs.declared.effect.Dropped.TheVariants.{No, Full}
use Rattle.rp_model.specs.declared.plan.Plan.{Plan}
use Rattle.rp_model.specs.declared.plan.Plan.TheVariants as plans

-- an item becomes pending after the others, unless it is a call that is there or no place is left
abbrev pub adds_pending : List Action → Action → Plan
adds_pending pending item =
    if list_any (is_same_call item) pending then plans.Pass No
    else if nat_lt (length pending) most_pending then plans.Await item
    else plans.Pass Full

module _ {S : Type 0} (node : RunningNode S) where
  -- a call of which a reply is kept, or none: that reply again; nothing for a call below the task's
  -- last one that counted; else the call becomes pending
  abbrev pub on_numbered : ℕ → ℕ → Action → Option Reply → Plan
  on_numbered task number call (Some reply) = plans.Answer task number reply
  on_numbered task number call None =
      if nat_lt number (last_number task (counted_by node)) then plans.Pass No
      else adds_pending node.running.pending call

  -- Call: a task asks (the action is a call by the packet's rules)
  abbrev pub on_call : Action → Plan
  on_call Noop = plans.Pass No
  on_call (Call task number object operation arg) =
      on_numbered task number (Call task number object operation arg)
      (kept_reply task number (counted_by node) (given_by node))
  on_call (Interrupt source occurrence) = plans.Pass No
  on_call (Tick now) = plans.Pass No

  -- an interrupt is noted: it becomes pending unless it or a higher one of its source counted
  abbrev pub on_interrupt : ℕ → ℕ → Plan
  on_interrupt source occurrence =
      if nat_lt (last_occurrence source (counted_by node)) occurrence
      then adds_pending node.running.pending (Interrupt source occurrence)
      else plans.Pass No

  -- a tick is noted: it becomes pending
  abbrev pub on_tick : ℕ → Plan
  on_tick now = adds_pending node.running.pending (Tick now)
