use Rattle.std.proofs.Common.{ap}
use Rattle.rp_codec.proofs.Decoded.{whole_again}
use Rattle.rp_rules.specs.Inputs.{packet_given}
use Rattle.rp_replica.proofs.laws.texts_are_packets.Goals as goal

pub returns : goal.returns
returns c = λ m packet. ap packet_given (whole_again m packet)
