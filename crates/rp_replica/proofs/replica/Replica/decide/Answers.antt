use Rattle.std.proofs.Common.{◌≡◌, false, sym, subst, ◌∙◌}
use Rattle.std.specs.Prelude.{Ok, OnOk, IfErr}
use Rattle.rp_rules.specs.Inputs.{IsLong, Refuses, given_by, input_plan}
use Rattle.rp_rules.specs.Plans.{MayCommit}
use Rattle.rp_replica.specs.Inputs.{input_effect}
use Rattle.rp_replica.specs.State.{ReplicaState, server_of}
use Rattle.rp_replica.proofs.Certain.{is_planned}
use Rattle.rp_replica.proofs.Planned.{planned_on, refuses_on}
use Rattle.rp_replica.proofs.Planning.{unplanned_if}
use Rattle.rp_replica.proofs.replica.Replica.decide.Goals as goal

pub returns-clause-ok : goal.returns-clause-ok
returns-clause-ok g c =
    let m = g.M.Machine in
    planned_on m.next m.answers (server_of c.args.self.now) (given_by c.args.input.now) c.decide.result c.decide.new.plan
    (subst (λ (k : ReplicaState g.row.M.Denot). OnOk c.decide.result (Ok c.decide.new.plan ≡ input_plan m.next m.answers (server_of k) c.args.input.now)) c.self.view_is c.decide.ensures.ok)

pub returns-clause-may : goal.returns-clause-may
returns-clause-may g c = subst (λ (k : ReplicaState g.row.M.Denot). OnOk c.decide.result (MayCommit (server_of k) c.decide.new.plan)) c.self.view_is c.decide.ensures.may

pub returns-clause-err : goal.returns-clause-err
returns-clause-err g c =
    let m = g.M.Machine in
    let h = c.args.self.now in
    let working : h.failed ≡ false = sym c.has_failed.ensures ∙ c.if-has_failed.false in
    let refuses = subst (λ (k : ReplicaState g.row.M.Denot). IfErr c.decide.result (Refuses (IsLong c.args.input.now) (input_plan m.next m.answers (server_of k) c.args.input.now))) c.self.view_is c.decide.ensures.err in
    unplanned_if (IsLong c.args.input.now) h (input_effect m.next m.answers h c.args.input.now) c.decide.result working
    (refuses_on m.next m.answers (server_of h) (given_by c.args.input.now) (IsLong c.args.input.now) c.decide.result refuses)

pub returns-clause-certain : goal.returns-clause-certain
returns-clause-certain g c = λ turn is short working.
    let m = g.M.Machine in
    let h = c.args.self.now in
    let refuses = subst (λ (k : ReplicaState g.row.M.Denot). IfErr c.decide.result (Refuses (IsLong c.args.input.now) (input_plan m.next m.answers (server_of k) c.args.input.now))) c.self.view_is c.decide.ensures.err in
    is_planned (IsLong c.args.input.now) (input_effect m.next m.answers h c.args.input.now) c.decide.result turn
    (refuses_on m.next m.answers (server_of h) (given_by c.args.input.now) (IsLong c.args.input.now) c.decide.result refuses) is short
