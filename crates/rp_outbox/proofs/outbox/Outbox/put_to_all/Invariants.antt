use Rattle.std.proofs.Common.{◌≡◌, ◌+◌, ◌*◌, ◌≤◌, ◌++◌, ℕ}
use Rattle.rp_model.specs.rp_codec.specs.declared.packet.Body.{Body}
use Rattle.rp_model.specs.Says.{says, says_to_all}
use Rattle.rp_outbox.specs.Packets.{IsTextOf, longest_text}
use Rattle.rp_outbox.proofs.outbox.Outbox.put_to_all.Given as goal

abbrev pub invariant-loop-place : goal.invariant-loop-place
invariant-loop-place l =
    ((me : ℕ) (body : Body) → IsTextOf l.fn.text (says me body me) → l.self.sent ≡ l.fn.self.sent ++ says_to_all l.place me body)
    × (l.fn.self.room ≤ l.self.room + longest_text * l.place)
