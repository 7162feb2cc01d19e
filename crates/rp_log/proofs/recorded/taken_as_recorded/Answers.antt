use Rattle.rp_log.proofs.RecordedRuns.{reserved_alike, learned_with, taken_so_far, all_taken}
use Rattle.rp_log.proofs.recorded.taken_as_recorded.Goals as goal

pub returns-clause-learns : goal.returns-clause-learns
returns-clause-learns c = learned_with

pub returns-clause-so_far : goal.returns-clause-so_far
returns-clause-so_far c = taken_so_far

pub returns-clause-all : goal.returns-clause-all
returns-clause-all c = all_taken

pub returns-clause-reserves : goal.returns-clause-reserves
returns-clause-reserves c = reserved_alike
