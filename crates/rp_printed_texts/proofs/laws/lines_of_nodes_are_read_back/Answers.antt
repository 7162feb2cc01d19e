-- By the words of the lines.
use Rattle.rp_printed_texts.proofs.LinesRead.{opened, running, full, applied_back, stopped}
use Rattle.rp_printed_texts.proofs.laws.lines_of_nodes_are_read_back.Goals as goal

pub returns : goal.returns
returns c = record { opened = opened; running = running; full = full; applied = applied_back; stopped = stopped }
