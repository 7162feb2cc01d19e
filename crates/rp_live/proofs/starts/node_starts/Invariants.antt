-- The nodes so far are ready.
use Rattle.std.proofs.Common.{◌≡◌, ◌++◌, All, map}
use Rattle.rp_threads.specs.rp_codec.specs.declared.packet.Party.TheVariants.{Node}
use Rattle.rp_live.specs.Lines.{party_line}
use Rattle.rp_live.proofs.starts.node_starts.Given as goal

abbrev pub invariant-loop-seat : goal.invariant-loop-seat
invariant-loop-seat g l = record {
  seats : map (λ start. start.seat) l.starts.items ++ l.seat-iterator.rest.items ≡ l.fn.seats.items;
  lines : All (λ start. start.line ≡ party_line l.seed (Node start.seat.setup.number)) l.starts.items;
}
