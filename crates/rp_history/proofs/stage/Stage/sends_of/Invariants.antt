use Rattle.std.proofs.Common.{◌≡◌, map, take}
use Rattle.rp_history.specs.Views.{sending_of}
use Rattle.rp_history.proofs.stage.Stage.sends_of.Given as goal

-- the packets so far
abbrev pub invariant-loop-packet : goal.invariant-loop-packet
invariant-loop-packet l = l.sends.items ≡ map (sending_of l.self l.is_within) (take l.packet-index l.packets)
