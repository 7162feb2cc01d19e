use Rattle.std.proofs.Common.{◌<◌, ◌≤◌, length, refl, sym, ap, subst, ◌∙◌, arith}
use Rattle.rp_base.specs.declared.fault.Fault.TheVariants.{NotRunning, NoSuchMessage}
use Rattle.rp_codec.specs.Reading.{all_of}
use Rattle.rp_model.specs.Effect as nodes
use Rattle.rp_model.specs.Events.{step_of}
use Rattle.rp_model.specs.World.{part_at}
use Rattle.rp_replica.specs.rp_rules.specs.Inputs.{packet_given}
use Rattle.rp_replica.specs.rp_rules.specs.declared.input.Input.TheVariants.{Receive}
use Rattle.rp_world.specs.Choosing.{IsOf, IsOfNone}
use Rattle.rp_world.proofs.Choosing.{as_many, no_text, no_message, for_no_node, past_all, delivered, none_chosen, one_chosen}
use Rattle.rp_actors.proofs.Messages.{packet_found}
use Rattle.rp_world.proofs.world.World.step_to_cut.Goals.{in-Lead, in-LeadRange+in-Ok, in-Interrupt, in-Tick, in-Report, in-Ask}
use Rattle.rp_world.proofs.world.World.step_to_cut.Goals as goal

pub receiver_of-requires : goal.receiver_of-requires
receiver_of-requires g c =
    let m = packet_found c.args.messages.now.sent c.in-Deliver.number c.in-Some.text.now c.requires.packets c.in-Some.ensures in
    (m.message, m.packet, m.reads)

pub returns-in_default : goal.returns-in_default
returns-in_default g c = record {
  right = tt;
  maker = λ s w sent are.
      let number = c.in-Deliver.number in
      subst (λ step. IsOfNone s w (step_of step) NoSuchMessage) (sym c.in-Deliver.is)
      (no_message s w number (ap (λ ms. part_at ms number) sent ∙ no_text (part_at c.args.messages.now.sent number) c.in_default.ensures));
}

pub returns-in_default-receiver_of : goal.returns-in_default-receiver_of
returns-in_default-receiver_of g c = record {
  right = tt;
  maker = λ s w sent are.
      let number = c.in-Deliver.number in
      let m = packet_found c.args.messages.now.sent number c.in-Some.text.now c.requires.packets c.in-Some.ensures in
      subst (λ step. IsOfNone s w (step_of step) NotRunning) (sym c.in-Deliver.is)
      (for_no_node s w number m.message (ap (λ ms. part_at ms number) sent ∙ m.found) c.receiver_of.result (c.receiver_of.ensures m.message m.packet m.reads) c.in_default-receiver_of.not-Node);
}

pub returns-then-from-nodes-clause-maker : goal.returns-then-from-nodes-clause-maker
returns-then-from-nodes-clause-maker g c = λ s w sent are.
    let number = c.in-Deliver.number in
    let m = packet_found c.args.messages.now.sent number c.in-Some.text.now c.requires.packets c.in-Some.ensures in
    subst (λ step. IsOfNone s w (step_of step) NotRunning) (sym c.in-Deliver.is)
    (past_all s w number m.message (ap (λ ms. part_at ms number) sent ∙ m.found) c.in-Node.node (c.in-Node.ensures m.message m.packet m.reads)
    (omega (arith, c.if-from-nodes.true, c.from.ensures, c.get.ensures.value, as_many g.D.Device.disk s.begin c.args.nodes.now w are)))

pub returns-in-Deliver-clause-maker : goal.returns-in-Deliver-clause-maker
returns-in-Deliver-clause-maker g c = λ s w sent are.
    let number = c.in-Deliver.number in
    let m = packet_found c.args.messages.now.sent number c.in-Some.text.now c.requires.packets c.in-Some.ensures in
    let me = c.in-Node.node in
    subst (λ step. IsOf s w (step_of step) me (Receive c.in-Some.text)) (sym c.in-Deliver.is)
    (delivered s w number m.message (ap (λ ms. part_at ms number) sent ∙ m.found) me (c.in-Node.ensures m.message m.packet m.reads) (Receive c.in-Some.text)
    (ap (λ l. packet_given (all_of l)) m.reads ∙ c.texts_are_packets.ensures m.message m.packet) c.get.ensures.in_range.0
    (omega (arith, c.if-from-nodes.false, c.from.ensures, c.get.ensures.value, as_many g.D.Device.disk s.begin c.args.nodes.now w are)))

pub returns-in-Err-clause-maker : goal.returns-in-Err-clause-maker
returns-in-Err-clause-maker g c = λ s w sent are.
    subst (λ step. IsOfNone s w (step_of step) c.in-Err.fault) (sym c.in-LeadRange.is) (c.in-Err.ensures.err s w are).none

pub returns-then-from-nodes-2-clause-maker : goal.returns-then-from-nodes-2-clause-maker
returns-then-from-nodes-2-clause-maker g c = λ s w sent are.
    let past : length w.nodes < c.match-step.node.0 = omega (arith, c.if-from-nodes-2.true, c.from-2.ensures, c.get-2.ensures.value, as_many g.D.Device.disk s.begin c.args.nodes.now w are) in
    elim c.match-step.branch [
      | in-Lead b ↦ none_chosen s w b.in-Lead.is b.node-is (nodes.Lead b.in-Lead.position) refl past
      | in-LeadRange+in-Ok b ↦ none_chosen s w b.in-LeadRange.is b.node-is (nodes.LeadRange b.in-LeadRange.first b.in-LeadRange.count) refl past
      | in-Interrupt b ↦
          none_chosen s w b.in-Interrupt.is b.node-is (nodes.Interrupt b.in-Interrupt.interrupt.source b.in-Interrupt.interrupt.occurrence) refl past
      | in-Tick b ↦ none_chosen s w b.in-Tick.is b.node-is (nodes.Tick b.in-Tick.now) refl past
      | in-Report b ↦ none_chosen s w b.in-Report.is b.node-is (nodes.Report b.in-Report.first) refl past
      | in-Ask b ↦ none_chosen s w b.in-Ask.is b.node-is (nodes.Ask b.in-Ask.to) refl past
    ]

pub returns-clause-maker : goal.returns-clause-maker
returns-clause-maker g c = λ s w sent are.
    let within : c.match-step.node.0 ≤ length w.nodes = omega (arith, c.if-from-nodes-2.false, c.from-2.ensures, c.get-2.ensures.value, as_many g.D.Device.disk s.begin c.args.nodes.now w are) in
    elim c.match-step.branch [
      | in-Lead b ↦ one_chosen s w b.in-Lead.is b.node-is (nodes.Lead b.in-Lead.position) refl refl within
      | in-LeadRange+in-Ok b ↦
          one_chosen s w b.in-LeadRange.is b.node-is (nodes.LeadRange b.in-LeadRange.first b.in-LeadRange.count) refl b.in-Ok.ensures.ok within
      | in-Interrupt b ↦
          one_chosen s w b.in-Interrupt.is b.node-is (nodes.Interrupt b.in-Interrupt.interrupt.source b.in-Interrupt.interrupt.occurrence) refl b.input_of.ensures.given within
      | in-Tick b ↦ one_chosen s w b.in-Tick.is b.node-is (nodes.Tick b.in-Tick.now) refl refl within
      | in-Report b ↦ one_chosen s w b.in-Report.is b.node-is (nodes.Report b.in-Report.first) refl refl within
      | in-Ask b ↦ one_chosen s w b.in-Ask.is b.node-is (nodes.Ask b.in-Ask.to) refl refl within
    ]
