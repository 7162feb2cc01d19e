-- The task has the replies to all its calls, or not.
use Rattle.std.proofs.Common.{ℕ, ◌-◌, Bool, sym, ap, ◌∙◌, if◌then◌else◌}
use Rattle.rp_threads.proofs.tasks.TaskLoopActor.rested.Goals as goal

pub returns-then-has_all_replies : goal.returns-then-has_all_replies
returns-then-has_all_replies g c =
    c.saturating_sub.ensures ∙ sym (ap (λ (b : Bool). if b then c.args.done - c.args.self.now.caller.so_far.last_reply else 0) (sym c.has_all_replies.ensures ∙ c.if-has_all_replies.true))

pub returns-else-has_all_replies : goal.returns-else-has_all_replies
returns-else-has_all_replies g c =
    sym (ap (λ (b : Bool). if b then c.args.done - c.args.self.now.caller.so_far.last_reply else 0) (sym c.has_all_replies.ensures ∙ c.if-has_all_replies.false))
