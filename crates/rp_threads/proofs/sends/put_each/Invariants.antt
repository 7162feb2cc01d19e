-- What is left are texts of packets that the node sent, and those up to there were offered. Each packet that is lost
-- has a byte at least.
use Rattle.std.proofs.Common.{◌+◌, ◌≤◌, length}
use Rattle.rp_codec.specs.declared.packet.Party.TheVariants.{Node}
use Rattle.rp_threads.specs.Turns.{AreSentTexts}
use Rattle.rp_threads.proofs.Offers.{IsPartOffered}
use Rattle.rp_threads.proofs.sends.put_each.Given as goal

abbrev pub invariant-packets : goal.invariant-packets
invariant-packets g l =
    let m = g.M.Machine in
    record {
      texts : AreSentTexts l.fn.seat.part l.rest;
      offered : IsPartOffered m.next m.answers m.begin (Node l.fn.seat.setup.number) l.fn.seat l.seat l.texts l.rest l.lost l.uncopied;
      few : l.lost + length l.rest ≤ length l.texts;
      fewer : l.uncopied + length l.rest ≤ length l.texts;
    }

abbrev pub decreases-packets : goal.decreases-packets
decreases-packets g l = length l.rest
