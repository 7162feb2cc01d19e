use Rattle.std.proofs.Common.{◌≡◌, true, false}
use Rattle.rp_replica.specs.Inputs.{input_effect}
use Rattle.rp_replica.proofs.Certain.{plan_takes_none}
use Rattle.rp_replica.proofs.Planning.{committed, refused}
use Rattle.rp_replica.proofs.replica.Replica.turn_into.Goals as goal

pub returns-clause-answer : goal.returns-clause-answer
returns-clause-answer g c =
    let m = g.M.Machine in
    let h = c.args.self.now in
    committed m.next m.answers h (input_effect m.next m.answers h c.args.input.now) c.decide.new.plan c.commit.new.self c.args.out.now.sent c.commit.new.out.sent c.dropped.result
    c.in_ok-decide.ensures.ok c.in_ok-decide.ensures.working c.in_ok-commit.ensures.ok c.dropped.ensures

pub returns-in_err-commit-clause-answer : goal.returns-in_err-commit-clause-answer
returns-in_err-commit-clause-answer g c =
    let m = g.M.Machine in
    let h = c.args.self.now in
    refused m.next m.answers h (input_effect m.next m.answers h c.args.input.now) c.decide.new.plan c.commit.new.self c.args.out.now.sent c.commit.new.out.sent c.from_residual-in_err-commit.result c.in_err-commit.field-0.0
    c.from_residual-in_err-commit.ensures.1 c.in_ok-decide.ensures.ok c.in_err-commit.ensures.err c.in_err-commit.ensures.unsent

pub returns-in_err-commit-clause-certain : goal.returns-in_err-commit-clause-certain
returns-in_err-commit-clause-certain g c = λ short turn is free working.
    let m = g.M.Machine in
    let h = c.args.self.now in
    let never : false ≡ true = c.in_err-commit.ensures.certain (plan_takes_none m.next m.answers h (input_effect m.next m.answers h c.args.input.now) c.decide.new.plan turn c.in_ok-decide.ensures.ok is free) in
    cc
