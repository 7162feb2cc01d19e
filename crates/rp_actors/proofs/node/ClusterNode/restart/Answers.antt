use Rattle.std.proofs.Common.{None, refl, sym, ap, subst, ◌∙◌}
use Rattle.rp_model.specs.Effect.{Done, restart_part}
use Rattle.rp_model.specs.Parts.{NodePart}
use Rattle.rp_store.specs.Disk.{Disk}
use Rattle.rp_actors.specs.declared.node.ClusterNode.TheVariants.{Running}
use Rattle.rp_actors.specs.Nodes.{member_of, Represents, DescribesOpened, failures_in}
use Rattle.rp_actors.proofs.Represented.{node_runs, runs_as, represents, rests_failed, rests_stopped, if_err, goes_on_running, started, not_started, why_not_started}
use Rattle.rp_actors.proofs.node.ClusterNode.restart.Goals as goal

pub returns-then-has_failed : goal.returns-then-has_failed
returns-then-has_failed g c =
    let disk = g.D.Device.disk in
    let member = member_of c.args.me c.args.config (g.M.Machine.begin c.args.program.now) in
    let rests = rests_failed disk member c.in-Running.is c.has_failed.ensures c.if-has_failed.true c.close.ensures.disk in
    let same = ap (λ (d : Disk). d.failures) c.close.ensures.disk ∙ ap (failures_in disk) (sym c.in-Running.is) in
    let new = c.starts.result in
    record {
      ok = started disk member c.args.self new.0 (disk c.close.result) same rests new.1 c.starts.ensures.ok;
      err = not_started disk member c.args.self new.0 (disk c.close.result) same rests new.1 c.starts.ensures.err;
      rests = if_err new.1 (λ part is. (rests part is).stopped);
      why = why_not_started disk member c.args.self new.0 (disk c.close.result) same rests new.1 c.starts.ensures.why;
    }

pub returns-else-has_failed-clause-ok : goal.returns-else-has_failed-clause-ok
returns-else-has_failed-clause-ok g c = λ part is.
    let r = node_runs g.D.Device.disk g.M.Machine.next g.M.Machine.answers c.in-Running.is c.has_failed.ensures c.if-has_failed.false in
    let member = member_of c.args.me c.args.config (g.M.Machine.begin c.args.program.now) in
    let runs = runs_as r member part is in
    let same = goes_on_running member r.replica part runs in
    (restart_part part, refl, subst (λ (d : Done NodePart). Represents {P = g.row.M-Program.Denot} r.disk member (Running r.replica) d.part) (sym same) (represents member r.replica part runs), subst (λ (d : Done NodePart). DescribesOpened None d) (sym same) refl, ap (failures_in r.disk) (sym r.is))

pub returns-in-Stopped : goal.returns-in-Stopped
returns-in-Stopped g c =
    let disk = g.D.Device.disk in
    let member = member_of c.args.me c.args.config (g.M.Machine.begin c.args.program.now) in
    let rests = rests_stopped disk member c.in-Stopped.is in
    let same = ap (failures_in disk) (sym c.in-Stopped.is) in
    let new = c.starts-in-Stopped.result in
    record {
      ok = started disk member c.args.self new.0 (disk c.in-Stopped.device) same rests new.1 c.starts-in-Stopped.ensures.ok;
      err = not_started disk member c.args.self new.0 (disk c.in-Stopped.device) same rests new.1 c.starts-in-Stopped.ensures.err;
      rests = if_err new.1 (λ part is. (rests part is).stopped);
      why = why_not_started disk member c.args.self new.0 (disk c.in-Stopped.device) same rests new.1 c.starts-in-Stopped.ensures.why;
    }
