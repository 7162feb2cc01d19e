-- A call that cannot count is not its task's next, or its task waits.
use Rattle.std.proofs.Common.{ℕ, Bool, not, ◌&&◌, nat_lt, lt-ltb, sym, ap, ◌∙◌}
use Rattle.rp_base.specs.Records.{applied_of}
use Rattle.rp_replica.specs.rp_machine.specs.Asked.{last_number}
use Rattle.rp_machine.proofs.Asking.{call_counts}
use Rattle.rp_machine.proofs.Numbering.{counted}
use Rattle.rp_requests.specs.Nodes.{NodeState}
use Rattle.rp_requests.specs.Timing.{answered_by, counted_by, is_early}
use Rattle.rp_requests.proofs.Timely.{and_true_left}
use Rattle.rp_requests.proofs.node.HandleNode.is_early.Goals as goal

pub returns-then-last_number-number : goal.returns-then-last_number-number
returns-then-last_number-number g c =
    let m = g.M.Machine in
    let r = c.args.self.now.replica in
    let done = counted_by m.next m.answers r in
    let given = answered_by m.next m.answers r in
    let call = c.in-Call in
    let last = c.last_number.ensures ∙ ap (λ (n : NodeState g.row.M.Denot). last_number call.task (counted_by m.next m.answers n.replica)) c.self.view_is in
    and_true_left (nat_lt c.last_number.result call.number) (not c.can_count.result) (lt-ltb c.last_number.result call.number c.if-last_number-number.true)
    ∙ ap (λ (n : ℕ). nat_lt n call.number && not c.can_count.result) last
    ∙ ap (λ (b : Bool). nat_lt (last_number call.task done) call.number && not b) (c.can_count.ensures ∙ call_counts done given (counted m.next m.answers r.begin (applied_of r.records)) call.task call.number call.object call.operation call.arg)
    ∙ ap (is_early done given) (sym call.is)
