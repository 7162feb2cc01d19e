use Rattle.std.proofs.Common.{◌≡◌, ◌+◌, ◌*◌, ◌≤◌, take, length, ◌++◌}
use Rattle.rp_model.specs.Pending.{replies_to}
use Rattle.rp_outbox.specs.Packets.{longest_text}
use Rattle.rp_server.proofs.apply.reply_to.Given as goal

-- the replies to the answers so far are among the packets
abbrev pub invariant-loop-answer : goal.invariant-loop-answer
invariant-loop-answer l =
    let so_far = replies_to l.me l.pending (take l.answer-index l.answers) in
    (l.out.sent ≡ l.fn.out.sent ++ so_far) × (l.fn.out.room ≤ l.out.room + longest_text * length so_far)
