use Rattle.std.proofs.Common.{◌≡◌, Ok, Some, None, slice_set, refl, sym, ap, subst, ◌∙◌}
use Rattle.rp_codec.specs.Message.{IsParty}
use Rattle.rp_model.specs.World.{part_at}
use Rattle.rp_model.specs.Tasks.{takes_reply}
use Rattle.rp_actors.specs.Going.{reply_in}
use Rattle.rp_actors.proofs.Fields.{cluster_with, fields_of, sent_seen}
use Rattle.rp_actors.proofs.Hearing.{take_keeps}
use Rattle.rp_actors.proofs.Messages.{has_at, seen_to, text_found, text_is}
use Rattle.rp_actors.proofs.Moving.{still_tasks}
use Rattle.rp_actors.proofs.Placing.{found_task}
use Rattle.rp_actors.proofs.OnlySent.{only_sent_none, as_reported, as_unreported}
use Rattle.rp_actors.proofs.Replied.{Answered, heard_no_reply, took_reply, not_taken, reply_of_text}
use Rattle.rp_world.proofs.world.World.give_to_task.Goals.{in-Ok-Some, in-Ok-None, in-Err}
use Rattle.rp_world.proofs.world.World.give_to_task.Goals as goal

pub unwrap-text-requires : goal.unwrap-text-requires
unwrap-text-requires g c = text_found c.text.result (part_at c.args.self.now.world.sent c.args.number) c.requires.to.0 c.text.ensures c.requires.to.1

pub returns-in_default-reply : goal.returns-in_default-reply
returns-in_default-reply g c =
    let f = fields_of g.M.Machine.next g.M.Machine.answers g.M.Machine.begin c.self.inside.messages c.self.invariant c.self.view_is in
    let m = seen_to f c.args.number c.requires.to in
    let packet = c.requires.ranged.packets m.packet (has_at f.was.world.sent c.args.number m.packet c.requires.to.1) in
    let text = text_is c.text.result c.unwrap-text.result (part_at f.was.world.sent c.args.number) m.packet c.unwrap-text.ensures c.text.ensures c.requires.to.1 in
    let none : reply_in m.packet.body ≡ None = sym (reply_of_text c.unwrap-text.result.now m.packet c.in-Ok.reply packet text c.in-Ok.ensures.reply) ∙ c.in_default-reply.is in
    record { answer = heard_no_reply f m (subst IsParty c.requires.to.2 packet.ranges.to) none }

pub invariant_of-self : goal.invariant_of-self
invariant_of-self g c =
    let f = fields_of g.M.Machine.next g.M.Machine.answers g.M.Machine.begin c.self.inside.messages c.self.invariant c.self.view_is in
    let at = found_task f.tasks c.index_mut.result.now c.self.invariant.eight c.get.ensures c.from.ensures c.index_mut.ensures.value in
    still_tasks f at c.take.new.self
    (take_keeps c.take.result at.it c.take.new.self (takes_reply at.it.task at.it.part c.in-Some.number c.in-Some.reply).part c.take.ensures.part c.take.ensures.err)

pub returns : goal.returns
returns g c =
    let f = fields_of g.M.Machine.next g.M.Machine.answers g.M.Machine.begin c.self.inside.messages c.self.invariant c.self.view_is in
    let at = found_task f.tasks c.index_mut.result.now c.self.invariant.eight c.get.ensures c.from.ensures c.index_mut.ensures.value in
    let m = seen_to f c.args.number c.requires.to in
    let packet = c.requires.ranged.packets m.packet (has_at f.was.world.sent c.args.number m.packet c.requires.to.1) in
    let text = text_is c.text.result c.unwrap-text.result (part_at f.was.world.sent c.args.number) m.packet c.unwrap-text.ensures c.text.ensures c.requires.to.1 in
    let is_reply : reply_in m.packet.body ≡ Some (c.in-Some.number, c.in-Some.reply) = sym (reply_of_text c.unwrap-text.result.now m.packet c.in-Ok.reply packet text c.in-Ok.ensures.reply) ∙ c.in-Some.is in
    let after = (cluster_with f f.nodes (slice_set f.tasks at.place c.take.new.self) f.messages).world in
    let answers = Answered f at c.take.new.self m in
    record {
      answer = elim c.match-take.branch [
        | in-Ok-Some w ↦
            as_reported answers f.was.world after c.match-take.reported w.result-is w.reported-is
            (took_reply f at c.take.new.self m is_reply (w.in-Ok-Some.is ∙ ap Ok w.in-Ok-Some.field-0-is) refl c.take.ensures.part c.take.ensures.taken c.messages-first.ensures.value w.taken.ensures)
        | in-Ok-None w ↦
            as_unreported answers f.was.world after c.match-take.reported w.result-is
            (took_reply f at c.take.new.self m is_reply (w.in-Ok-None.is ∙ ap Ok w.in-Ok-None.field-0-is) refl c.take.ensures.part c.take.ensures.taken refl (only_sent_none f.was.world after (sent_seen f)))
        | in-Err w ↦ as_reported answers f.was.world after c.match-take.reported w.result-is w.reported-is (not_taken f at c.take.new.self m w.in-Err.is refl c.take.ensures.err)
      ];
    }
