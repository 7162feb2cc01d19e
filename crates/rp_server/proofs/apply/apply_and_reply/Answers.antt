use Rattle.std.proofs.Common.{◌≡◌, ◌+◌, ◌*◌, ◌≤◌, List, length, subst, sym, ◌++◌}
use Rattle.rp_base.specs.declared.reply.Answer.{Answer}
use Rattle.rp_model.specs.Pending.{replies_to}
use Rattle.rp_outbox.specs.Packets.{longest_text}
use Rattle.rp_server.proofs.Replying.{room_left, replied_more}
use Rattle.rp_server.proofs.apply.apply_and_reply.Goals as goal

pub reply_to-requires : goal.reply_to-requires
reply_to-requires g c =
    let m = g.M.Machine in
    let a = c.args in
    let given : List Answer = c.apply_next.new.answers in
    let room : longest_text * length (replies_to a.me a.pending.now given) ≤ c.loop-me.out.room =
    room_left m.next m.answers a.me a.pending.now a.log.now c.loop-me.log c.apply_next.new.log a.machine.now c.loop-me.machine c.apply_next.new.machine a.out.now c.loop-me.out given
    c.loop-me.invariant (c.apply_next.ensures.more c.loop-me-test.true) (c.apply_next.ensures.once c.loop-me-test.true) c.requires.room in
    subst (λ (given : List Answer). longest_text * length (replies_to a.me a.pending.now given) ≤ c.loop-me.out.room) (sym c.as_slice.ensures) room

pub loop-me-preserved : goal.loop-me-preserved
loop-me-preserved g c =
    let m = g.M.Machine in
    let a = c.args in
    let given : List Answer = c.apply_next.new.answers in
    let said = c.reply_to.new.out in
    replied_more m.next m.answers a.me a.pending.now a.log.now c.loop-me.log c.apply_next.new.log a.machine.now c.loop-me.machine c.apply_next.new.machine a.out.now c.loop-me.out given
    c.loop-me.invariant (c.apply_next.ensures.more c.loop-me-test.true) (c.apply_next.ensures.once c.loop-me-test.true) said
    (subst (λ (given : List Answer). said.sent ≡ c.loop-me.out.sent ++ (replies_to a.me a.pending.now given)) c.as_slice.ensures c.reply_to.ensures.sent)
    (subst (λ (given : List Answer). c.loop-me.out.room ≤ said.room + longest_text * length (replies_to a.me a.pending.now given)) c.as_slice.ensures c.reply_to.ensures.room)
