-- What is said of the task's part once its question is counted.
use Rattle.rp_boxes.specs.TaskSeats.{asked_of}
use Rattle.rp_boxes.proofs.TaskTurns.{BecomesPart}
use Rattle.rp_boxes.proofs.task_seat.TaskSeat.retry.Given as goal

abbrev pub ghosts-note : goal.ghosts-note
ghosts-note g a = record { says = BecomesPart a.self.now.part a.event.now.0.now.part (asked_of a.event.now.1 a.event.now.2 a.event.now.3) }
