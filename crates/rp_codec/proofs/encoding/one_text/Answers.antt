use Rattle.rp_codec.proofs.Decoded.{same_packet}
use Rattle.rp_codec.proofs.encoding.one_text.Goals as goal

pub returns : goal.returns
returns c = same_packet
