-- The task's last call has no reply.
use Rattle.std.proofs.Common.{◌≡◌, ℕ, Bool, not, ◌&&◌, nat_eq, is_none, eq-eqb, refl, ap, ◌∙◌}
use Rattle.std.proofs.lemmas.Bool.{ne_eqb}
use Rattle.rp_replica.specs.rp_machine.specs.Asked.{kept_reply, waits}
use Rattle.rp_replica.specs.rp_machine.specs.Replay.{counted_of, replay_answers}
use Rattle.rp_replica.specs.rp_server.specs.State.{ServerState}
use Rattle.rp_base.specs.Records.{applied_of}
use Rattle.rp_machine.proofs.Asking.{waits_as}
use Rattle.rp_machine.proofs.Numbering.{counted}
use Rattle.rp_requests.specs.Nodes.{NodeState}
use Rattle.rp_requests.specs.Timing.{answered_by, counted_by}
use Rattle.rp_requests.proofs.Timely.{and_true_left, none_if, same_if_zero}
use Rattle.rp_requests.proofs.node.HandleNode.waits.Goals as goal

pub returns-then-last-ne0 : goal.returns-then-last-ne0
returns-then-last-ne0 g c =
    let m = g.M.Machine in
    let r = c.self.inside.replica in
    let last = c.last_number-last.result in
    and_true_left (not (nat_eq last 0)) c.is_none.result (ap not (ne_eqb last 0 c.if-last-ne0.true))
    ∙ ap (λ (b : Bool). not (nat_eq last 0) && b) (none_if c.kept_reply.result c.is_none.result c.is_none.ensures)
    ∙ waits_as (counted_by m.next m.answers r) (answered_by m.next m.answers r) (counted m.next m.answers r.begin (applied_of r.records)) c.args.task last c.kept_reply.result c.last_number-last.ensures
    (c.kept_reply.ensures ∙ ap (λ (s : ServerState g.row.M.Denot). kept_reply c.args.task last (counted_of m.next m.answers s.begin (applied_of s.records)) (replay_answers m.next m.answers s.begin (applied_of s.records))) c.server.ensures)
    ∙ ap (λ (n : NodeState g.row.M.Denot). waits c.args.task (counted_by m.next m.answers n.replica) (answered_by m.next m.answers n.replica)) c.self.view_is

pub returns-else-last-ne0 : goal.returns-else-last-ne0
returns-else-last-ne0 g c =
    let m = g.M.Machine in
    let r = c.self.inside.replica in
    let last = c.last_number-last.result in
    same_if_zero (not (nat_eq last 0)) (is_none (kept_reply c.args.task last (counted_by m.next m.answers r) (answered_by m.next m.answers r))) (ap not (eq-eqb last 0 c.if-last-ne0.false))
    ∙ waits_as (counted_by m.next m.answers r) (answered_by m.next m.answers r) (counted m.next m.answers r.begin (applied_of r.records)) c.args.task last (kept_reply c.args.task last (counted_by m.next m.answers r) (answered_by m.next m.answers r)) c.last_number-last.ensures refl
    ∙ ap (λ (n : NodeState g.row.M.Denot). waits c.args.task (counted_by m.next m.answers n.replica) (answered_by m.next m.answers n.replica)) c.self.view_is
