use Rattle.std.proofs.Common.{◌≡◌, ◌-◌, ◌<◌, true, false, length, inl, refl, ap, arith}
use Rattle.rp_model.specs.World.{commanded, chosen_effect}
use Rattle.rp_world.proofs.Ending.{none_seen}
use Rattle.rp_actors.proofs.Fields.{fields_of, member, setting_by}
use Rattle.rp_actors.proofs.Moving.{part, represents_now}
use Rattle.rp_world.proofs.NodeTurns.{goes_given, answers_given, light_given}
use Rattle.rp_actors.proofs.Placing.{found_at, placed_at}
use Rattle.rp_world.proofs.Taking.{still_turned, still_refused}
use Rattle.rp_world.proofs.world.World.give_input.Goals as goal

pub returns-in_default-clause-answer : goal.returns-in_default-clause-answer
returns-in_default-clause-answer g c = λ given gives.
    let f = fields_of g.M.Machine.next g.M.Machine.answers g.M.Machine.begin c.self.inside.messages c.self.invariant c.self.view_is in
    let off : c.from.result - 1 < length f.nodes → ⊥ = λ h. let yes = c.in_default.ensures.variant.1 (omega (arith, h, c.self.inside.nodes.ok.0)) in absurd cc in
    let none = none_seen f (placed_at c.get.ensures c.from.ensures) (omega (arith, off)) in
    inl (record { resulted = ap (λ o. chosen_effect (setting_by f f.was) f.was.world (commanded c.args.node given o)) none; unchanged = f.view_is })

pub invariant_of-self-in_err-dropped : goal.invariant_of-self-in_err-dropped
invariant_of-self-in_err-dropped g c =
    let f = fields_of g.M.Machine.next g.M.Machine.answers g.M.Machine.begin c.self.inside.messages c.self.invariant c.self.view_is in
    let at = found_at f.nodes c.in-Some.node.now c.get.ensures c.from.ensures c.self.inside.nodes.ok.0 (c.in-Some.ensures.variant.0 refl) c.in-Some.ensures.value in
    let given = c.requires.given in
    still_refused f at c.turn.new.self given.0 c.in_err-dropped.field-0.0 (c.in_err-dropped.ensures.err (member f at.me) given.0 given.1)

pub returns-in_err-dropped : goal.returns-in_err-dropped
returns-in_err-dropped g c =
    let f = fields_of g.M.Machine.next g.M.Machine.answers g.M.Machine.begin c.self.inside.messages c.self.invariant c.self.view_is in
    let at = found_at f.nodes c.in-Some.node.now c.get.ensures c.from.ensures c.self.inside.nodes.ok.0 (c.in-Some.ensures.variant.0 refl) c.in-Some.ensures.value in
    let err = c.in_err-dropped.ensures in
    record {
      answer = λ given gives. answers_given f at c.turn.new.self given c.in_err-dropped.field-0.0 (err.err (member f at.me) given gives) c.from_residual.result c.from_residual.ensures.1 c.turn.new.messages err.unsent c.args.effect.now;
      certain = λ given p gives short here light. let never : false ≡ true = err.certain (member f at.me) (part f at) given (represents_now f at) gives short (light_given f at given p here light) in cc;
    }

pub invariant_of-self-2 : goal.invariant_of-self-2
invariant_of-self-2 g c =
    let f = fields_of g.M.Machine.next g.M.Machine.answers g.M.Machine.begin c.self.inside.messages c.self.invariant c.self.view_is in
    let at = found_at f.nodes c.in-Some.node.now c.get.ensures c.from.ensures c.self.inside.nodes.ok.0 (c.in-Some.ensures.variant.0 refl) c.in-Some.ensures.value in
    let given = c.requires.given in
    still_turned f at c.turn.new.self given.0 c.in_ok-dropped.dropped c.turn.new.messages (c.in_ok-dropped.ensures.ok (member f at.me) given.0 given.1)

pub returns : goal.returns
returns g c =
    let f = fields_of g.M.Machine.next g.M.Machine.answers g.M.Machine.begin c.self.inside.messages c.self.invariant c.self.view_is in
    let at = found_at f.nodes c.in-Some.node.now c.get.ensures c.from.ensures c.self.inside.nodes.ok.0 (c.in-Some.ensures.variant.0 refl) c.in-Some.ensures.value in
    record {
      answer = λ given gives. goes_given f at c.turn.new.self given c.in_ok-dropped.dropped c.turn.new.messages (c.in_ok-dropped.ensures.ok (member f at.me) given gives)
          c.messages-first.ensures.value c.messages.ensures.value c.of_step.ensures;
      certain = λ given p gives short here light. refl;
    }
