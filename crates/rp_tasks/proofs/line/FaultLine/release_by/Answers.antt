use Rattle.std.proofs.Common.{arith}
use Rattle.std.proofs.lemmas.Grind.{common_steps}
use Rattle.std.proofs.lemmas.List.{length-map}
use Rattle.rp_tasks.proofs.Holding.{map-remove}
use Rattle.rp_tasks.proofs.line.FaultLine.release_by.Goals as goal

pub returns-clause-after : goal.returns-clause-after
returns-clause-after c = grind (arith, common_steps, length-map, map-remove)
