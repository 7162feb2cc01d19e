-- By the words of the line.
use Rattle.rp_printed_texts.proofs.PacketsRead.{packet_back}
use Rattle.rp_printed_texts.proofs.laws.lines_of_packets_are_read_back.Goals as goal

pub returns : goal.returns
returns c number from to body small one two fits = packet_back number from to body small one two fits
