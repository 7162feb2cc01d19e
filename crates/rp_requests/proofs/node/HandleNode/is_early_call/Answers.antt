-- A text for which memory runs out is that of no call.
use Rattle.std.proofs.Common.{sym}
use Rattle.rp_requests.proofs.Timely.{long_early}
use Rattle.rp_requests.proofs.node.HandleNode.is_early_call.Goals as goal

pub returns-in-Err : goal.returns-in-Err
returns-in-Err g c = let m = g.M.Machine in sym (long_early m.next m.answers c.args.self.now.replica c.args.bytes.now c.in-Err.ensures.memory)
