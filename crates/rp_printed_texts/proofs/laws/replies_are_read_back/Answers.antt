-- By the words of the line.
use Rattle.rp_printed_texts.proofs.LinesRead.{replies}
use Rattle.rp_printed_texts.proofs.laws.replies_are_read_back.Goals as goal

pub returns : goal.returns
returns c = replies
