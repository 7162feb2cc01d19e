-- The gate lets the turn pass, and it was not made because of a fault.
use Rattle.std.proofs.Common.{ℕ, true, false, inl, inr, refl, sym, subst, ◌∙◌}
use Rattle.rp_threads.specs.Rounds.{worker_at}
use Rattle.rp_threads.proofs.Leads.{answer_is, unmade_at}
use Rattle.rp_threads.proofs.loops.Worker.turn.Goals as goal

pub returns-in-Err-clause-ok : goal.returns-in-Err-clause-ok
returns-in-Err-clause-ok g c =
    let m = g.M.Machine in
    let a = c.args in
    let lets = g.G.Gate.lets in
    let node = c.number-node in
    let old = worker_at a.self.now in
    let new = worker_at c.work.new.self in
    inr (
      answer_is m.next m.answers m.begin lets a.nodes a.turn node.result old new node.ensures c.before-2.result true c.before-2.ensures c.if-not-before.false,
      c.in-Err.fault,
      sym c.refuses_to_lead.ensures ∙ c.if-refuses_to_lead.true,
      unmade_at m.next m.answers m.begin lets a.nodes a.turn node.result old new node.ensures c.sender.result c.is_to_lead-lead.result c.in-Err.fault c.sender.ensures c.is_to_lead-lead.ensures c.in-Err.ensures.err,
      subst (λ (n : ℕ). g.G.Gate.heard n a.turn 0) node.ensures c.after-in-Err.ensures,
    )

pub returns-in-Err-2-clause-err : goal.returns-in-Err-2-clause-err
returns-in-Err-2-clause-err g c =
    let m = g.M.Machine in
    let a = c.args in
    let lets = g.G.Gate.lets in
    let node = c.number-node in
    let old = worker_at a.self.now in
    let new = worker_at c.work.new.self in (
      sym c.refuses_to_lead.ensures ∙ c.if-refuses_to_lead.false,
      (
        answer_is m.next m.answers m.begin lets a.nodes a.turn node.result old new node.ensures c.before-2.result true c.before-2.ensures c.if-not-before.false,
        unmade_at m.next m.answers m.begin lets a.nodes a.turn node.result old new node.ensures c.sender.result c.is_to_lead-lead.result c.in-Err.fault c.sender.ensures c.is_to_lead-lead.ensures c.in-Err.ensures.err,
      ),
    )
