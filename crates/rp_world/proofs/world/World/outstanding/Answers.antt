use Rattle.std.proofs.Common.{◌≡◌, Some}
use Rattle.rp_model.specs.Parts.{TaskPart}
use Rattle.rp_model.specs.World.{part_at}
use Rattle.rp_actors.proofs.Fields.{as_seen, fields_of}
use Rattle.rp_actors.proofs.Moving.{task_here}
use Rattle.rp_actors.proofs.Placing.{found_task}
use Rattle.rp_world.proofs.world.World.outstanding.Goals as goal

pub returns : goal.returns
returns g c =
    let f = fields_of g.M.Machine.next g.M.Machine.answers g.M.Machine.begin c.self.inside.messages c.self.invariant c.self.view_is in
    let at = found_task f.tasks c.index.result.now c.self.invariant.eight c.get.ensures c.from.ensures c.index.ensures in
    as_seen f (λ v. (part : TaskPart) × (part_at v.world.tasks c.args.task ≡ Some part) × (c.outstanding.result ≡ part.outstanding)) (c.index.result.now.part, task_here f at, c.outstanding.ensures)
