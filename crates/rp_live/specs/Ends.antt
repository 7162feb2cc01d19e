-- How the loops of a run ended.
use Rattle.std.specs.Prelude.{◌≡◌, ◌≢◌, Some, None}
use Rattle.rp_threads.specs.rp_base.specs.declared.fault.Fault.TheVariants.{OutOfMemory}
use Rattle.rp_threads.specs.declared.loops.NodeEnd.{NodeEnd}
use Rattle.rp_threads.specs.declared.tasks.TaskEnd.{TaskEnd}

-- no fault ended the loop of the node
abbrev pub HadNoFault : {M D P : Type 0} → NodeEnd M D P → Type 0
HadNoFault end = end.fault ≡ None

-- the loop of the task did not run out of memory
abbrev pub HadMemory : {M P : Type 0} → TaskEnd M P → Type 0
HadMemory end = end.fault ≢ Some OutOfMemory
