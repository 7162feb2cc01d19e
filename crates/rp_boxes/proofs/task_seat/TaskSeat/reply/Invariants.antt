-- What is said of the task's part once it got a packet.
use Rattle.std.proofs.Common.{[]}
use Rattle.rp_boxes.proofs.TaskTurns.{BecomesPart}
use Rattle.rp_boxes.proofs.task_seat.TaskSeat.reply.Given as goal

abbrev pub ghosts-note : goal.ghosts-note
ghosts-note g a = record { says = BecomesPart a.self.now.part a.event.now.part [] }
