use Rattle.std.proofs.Common.{◌≡◌, ◌-◌, ◌<◌, true, false, length, refl, sym, subst, arith}
use Rattle.std.specs.Prelude.{IsTrue}
use Rattle.rp_actors.proofs.Fields.{fields_of, member}
use Rattle.rp_actors.proofs.Messages.{at_place, packet_to, place_below}
use Rattle.rp_actors.proofs.Moving.{part, represents_now}
use Rattle.rp_world.proofs.NodeTurns.{goes_aside, goes_past, goes_resting, still_heard, goes_heard, goes_only_sending, still_unheard, answers_heard, light_heard, short_heard}
use Rattle.rp_actors.proofs.Placing.{found_at, placed_at}
use Rattle.rp_world.proofs.world.World.deliver.Goals as goal

pub returns-in-Audit-clause-answer : goal.returns-in-Audit-clause-answer
returns-in-Audit-clause-answer g c =
    let f = fields_of g.M.Machine.next g.M.Machine.answers g.M.Machine.begin c.self.inside.messages c.self.invariant c.self.view_is in
    goes_aside f (packet_to f c.args.number c.in-Some.ensures c.in-Audit.is)

pub returns-in_default-get_mut-clause-answer : goal.returns-in_default-get_mut-clause-answer
returns-in_default-get_mut-clause-answer g c =
    let f = fields_of g.M.Machine.next g.M.Machine.answers g.M.Machine.begin c.self.inside.messages c.self.invariant c.self.view_is in
    let off : c.from.result - 1 < length f.nodes → ⊥ = λ h. let yes = c.in_default-get_mut.ensures.variant.1 (omega (arith, h, c.self.inside.nodes.ok.0)) in absurd cc in
    goes_past f (packet_to f c.args.number c.in-Some.ensures c.in-Node.is) (placed_at c.get.ensures c.from.ensures) (omega (arith, off))

pub returns-then-not-is_running-clause-answer : goal.returns-then-not-is_running-clause-answer
returns-then-not-is_running-clause-answer g c =
    let f = fields_of g.M.Machine.next g.M.Machine.answers g.M.Machine.begin c.self.inside.messages c.self.invariant c.self.view_is in
    let at = found_at f.nodes c.in-Some-get_mut.node.now c.get.ensures c.from.ensures c.self.inside.nodes.ok.0 (c.in-Some-get_mut.ensures.variant.0 refl) c.in-Some-get_mut.ensures.value in
    goes_resting f at (packet_to f c.args.number c.in-Some.ensures c.in-Node.is) (c.is_running.ensures.rests c.if-not-is_running.true)

pub hear-requires : goal.hear-requires
hear-requires g c =
    let f = fields_of g.M.Machine.next g.M.Machine.answers g.M.Machine.begin c.self.inside.messages c.self.invariant c.self.view_is in
    record { place = place_below (packet_to f c.args.number c.in-Some.ensures c.in-Node.is) }

pub invariant_of-self-in-Ok-No : goal.invariant_of-self-in-Ok-No
invariant_of-self-in-Ok-No g c =
    let f = fields_of g.M.Machine.next g.M.Machine.answers g.M.Machine.begin c.self.inside.messages c.self.invariant c.self.view_is in
    let at = found_at f.nodes c.in-Some-get_mut.node.now c.get.ensures c.from.ensures c.self.inside.nodes.ok.0 (c.in-Some-get_mut.ensures.variant.0 refl) c.in-Some-get_mut.ensures.value in
    still_heard f at (packet_to f c.args.number c.in-Some.ensures c.in-Node.is) c.hear.new.self c.in-Ok-No.field-0 c.hear.new.messages c.in-Ok-No.ensures.ok

pub returns-in-Ok-No-clause-answer : goal.returns-in-Ok-No-clause-answer
returns-in-Ok-No-clause-answer g c =
    let f = fields_of g.M.Machine.next g.M.Machine.answers g.M.Machine.begin c.self.inside.messages c.self.invariant c.self.view_is in
    let at = found_at f.nodes c.in-Some-get_mut.node.now c.get.ensures c.from.ensures c.self.inside.nodes.ok.0 (c.in-Some-get_mut.ensures.variant.0 refl) c.in-Some-get_mut.ensures.value in
    let runs = c.is_running.ensures.runs (subst (λ b. IsTrue b) (sym c.if-not-is_running.false) refl) in
    goes_only_sending f at (packet_to f c.args.number c.in-Some.ensures c.in-Node.is) c.hear.new.self c.hear.new.messages (rw c.in-Ok-No.field-0-is at c.in-Ok-No.ensures.ok) runs

pub invariant_of-self-in-Ok : goal.invariant_of-self-in-Ok
invariant_of-self-in-Ok g c =
    let f = fields_of g.M.Machine.next g.M.Machine.answers g.M.Machine.begin c.self.inside.messages c.self.invariant c.self.view_is in
    let at = found_at f.nodes c.in-Some-get_mut.node.now c.get.ensures c.from.ensures c.self.inside.nodes.ok.0 (c.in-Some-get_mut.ensures.variant.0 refl) c.in-Some-get_mut.ensures.value in
    still_heard f at (packet_to f c.args.number c.in-Some.ensures c.in-Node.is) c.hear.new.self c.in-Ok.dropped c.hear.new.messages c.in-Ok.ensures.ok

pub returns-in-Ok : goal.returns-in-Ok
returns-in-Ok g c =
    let f = fields_of g.M.Machine.next g.M.Machine.answers g.M.Machine.begin c.self.inside.messages c.self.invariant c.self.view_is in
    let at = found_at f.nodes c.in-Some-get_mut.node.now c.get.ensures c.from.ensures c.self.inside.nodes.ok.0 (c.in-Some-get_mut.ensures.variant.0 refl) c.in-Some-get_mut.ensures.value in
    let runs = c.is_running.ensures.runs (subst (λ b. IsTrue b) (sym c.if-not-is_running.false) refl) in
    record {
      answer = goes_heard f at (packet_to f c.args.number c.in-Some.ensures c.in-Node.is) c.hear.new.self c.in-Ok.dropped c.hear.new.messages c.in-Ok.ensures.ok
          runs c.messages-first.ensures.value c.messages.ensures.value c.of_step.ensures;
      certain = λ light. refl;
    }

pub invariant_of-self-in-Err : goal.invariant_of-self-in-Err
invariant_of-self-in-Err g c =
    let f = fields_of g.M.Machine.next g.M.Machine.answers g.M.Machine.begin c.self.inside.messages c.self.invariant c.self.view_is in
    let at = found_at f.nodes c.in-Some-get_mut.node.now c.get.ensures c.from.ensures c.self.inside.nodes.ok.0 (c.in-Some-get_mut.ensures.variant.0 refl) c.in-Some-get_mut.ensures.value in
    still_unheard f at (packet_to f c.args.number c.in-Some.ensures c.in-Node.is) c.hear.new.self c.in-Err.fault c.in-Err.ensures.err

pub returns-in-Err-clause-answer : goal.returns-in-Err-clause-answer
returns-in-Err-clause-answer g c =
    let f = fields_of g.M.Machine.next g.M.Machine.answers g.M.Machine.begin c.self.inside.messages c.self.invariant c.self.view_is in
    let at = found_at f.nodes c.in-Some-get_mut.node.now c.get.ensures c.from.ensures c.self.inside.nodes.ok.0 (c.in-Some-get_mut.ensures.variant.0 refl) c.in-Some-get_mut.ensures.value in
    let runs = c.is_running.ensures.runs (subst (λ b. IsTrue b) (sym c.if-not-is_running.false) refl) in
    answers_heard f at (packet_to f c.args.number c.in-Some.ensures c.in-Node.is) c.hear.new.self c.in-Err.fault c.in-Err.ensures.err runs c.hear.new.messages c.in-Err.ensures.unsent

pub returns-in-Err-clause-certain : goal.returns-in-Err-clause-certain
returns-in-Err-clause-certain g c = λ light.
    let f = fields_of g.M.Machine.next g.M.Machine.answers g.M.Machine.begin c.self.inside.messages c.self.invariant c.self.view_is in
    let at = found_at f.nodes c.in-Some-get_mut.node.now c.get.ensures c.from.ensures c.self.inside.nodes.ok.0 (c.in-Some-get_mut.ensures.variant.0 refl) c.in-Some-get_mut.ensures.value in
    let runs = c.is_running.ensures.runs (subst (λ b. IsTrue b) (sym c.if-not-is_running.false) refl) in
    let packet = packet_to f c.args.number c.in-Some.ensures c.in-Node.is in
    let never : false ≡ true = c.in-Err.ensures.certain (member f at.me) (part f at) packet.packet (represents_now f at) (at_place packet) (short_heard f at packet runs light) (light_heard f at packet runs light) in
    cc
