use Rattle.rp_model.specs.Effect.{restart_part}
use Rattle.rp_actors.specs.Nodes.{member_of}
use Rattle.rp_actors.proofs.Represented.{represents, starts_again, refused, opening_counted}
use Rattle.rp_actors.proofs.node.starts.Goals as goal

pub returns-in-Ok-clause-ok : goal.returns-in-Ok-clause-ok
returns-in-Ok-clause-ok g c = λ part rests.
    let opening = c.in-Ok.opening in
    let member = member_of c.args.me c.args.config (g.M.Machine.begin c.args.program.now) in
    let again = starts_again member (g.D.Device.disk c.args.device) opening.replica opening.records opening.cut_bytes c.in-Ok.ensures.ok part rests in
    (represents member opening.replica (restart_part part).part again.0, again.1, c.in-Ok.ensures.ok.opened.failures)

pub returns-in-Err-clause-err : goal.returns-in-Err-clause-err
returns-in-Err-clause-err g c = λ part rests.
    refused c.args.config.max_positions (g.D.Device.disk c.args.device) (g.D.Device.disk c.in-Err.device) part rests c.in-Err.fault c.in-Err.ensures.err

pub returns-in-Err-clause-why : goal.returns-in-Err-clause-why
returns-in-Err-clause-why g c = opening_counted (g.D.Device.disk c.args.device) (g.D.Device.disk c.in-Err.device) c.in-Err.fault c.in-Err.ensures.err
