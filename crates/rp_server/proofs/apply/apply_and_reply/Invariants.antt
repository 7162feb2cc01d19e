use Rattle.std.proofs.Common.{◌-◌, length}
use Rattle.rp_server.specs.Applying.{HasReplied}
use Rattle.rp_server.proofs.apply.apply_and_reply.Given as goal

abbrev pub invariant-loop-me : goal.invariant-loop-me
invariant-loop-me g l = HasReplied g.M.Machine.next g.M.Machine.answers l.me l.pending l.fn.log l.log l.fn.machine l.machine l.fn.out l.out

abbrev pub decreases-loop-me : goal.decreases-loop-me
decreases-loop-me g l = 65536 - length l.log.taken
