use Rattle.std.proofs.Common.{◌≡◌, ◌++◌, map, take}
use Rattle.rp_history.specs.Histories.{lane_text}
use Rattle.rp_script.specs.rp_machine.specs.Replay.{one_to}
use Rattle.rp_script.specs.rp_run.specs.Output.{names_of}
use Rattle.rp_chart.specs.Charts.{node_lane, task_lane}
use Rattle.rp_chart.proofs.chart.lanes_of.Given as goal

-- a lane for each task so far
abbrev pub invariant-loop-index : goal.invariant-loop-index
invariant-loop-index l = map lane_text l.lanes.items ≡ map task_lane (take l.index (names_of l.tasks))

-- and for each node
abbrev pub invariant-loop-place : goal.invariant-loop-place
invariant-loop-place l = map lane_text l.lanes.items ≡ map task_lane (names_of l.tasks) ++ map node_lane (one_to l.place)
