use Rattle.std.proofs.Common.{◌≡◌, ◌++◌, take}
use Rattle.std.specs.List.{list_any}
use Rattle.rp_drawing.specs.Ways.{sent_ways}
use Rattle.rp_drawing.proofs.sketch.Sketch.send.Given as goal

-- the ways of the packets so far have begun
abbrev pub invariant-loop-sending : goal.invariant-loop-sending
invariant-loop-sending l = record {
  rows : l.self.rows ≡ l.fn.self.rows;
  lines : l.self.lines ≡ l.fn.self.lines;
  ways : l.self.ways.items ≡ l.fn.self.ways.items ++ sent_ways (take l.sending-index l.sends) l.moment l.line;
  drawn : l.is_drawn ≡ list_any (λ s. s.is_drawn) (take l.sending-index l.sends);
}
