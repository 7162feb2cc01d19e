use Rattle.std.proofs.Common.{subst}
use Rattle.rp_replica.specs.Cutting.{IsNotCutIf}
use Rattle.rp_replica.specs.Inputs.{input_effect}
use Rattle.rp_actors.proofs.Represented.{node_runs}
use Rattle.rp_actors.proofs.Turning.{is_cut_so, failed_in_cut, refused_in_cut}
use Rattle.rp_actors.proofs.node.ClusterNode.cut.Goals as goal

pub returns-in-Ok : goal.returns-in-Ok
returns-in-Ok g c =
    let r = node_runs g.D.Device.disk g.M.Machine.next g.M.Machine.answers c.in-Running.is c.has_failed.ensures c.if-has_failed.false in
    record {
      ok = is_cut_so r c.args.input.now c.args.kept c.in-Ok.device c.in-Ok.ensures.ok;
      err = tt;
    }

pub returns-in-Err-Failed : goal.returns-in-Err-Failed
returns-in-Err-Failed g c =
    let r = node_runs g.D.Device.disk g.M.Machine.next g.M.Machine.answers c.in-Running.is c.has_failed.ensures c.if-has_failed.false in
    let failed = c.in-Err-Failed in
    let fails = subst (λ n. IsNotCutIf r.disk (input_effect r.next r.answers r.replica c.args.input.now) r.replica n) failed.field-0-is failed.ensures.err in
    record { ok = tt; err = failed_in_cut r c.args.input.now failed.device fails }

pub returns-in-Err-Refused : goal.returns-in-Err-Refused
returns-in-Err-Refused g c =
    let r = node_runs g.D.Device.disk g.M.Machine.next g.M.Machine.answers c.in-Running.is c.has_failed.ensures c.if-has_failed.false in
    let refused = c.in-Err-Refused in
    let stops = subst (λ n. IsNotCutIf r.disk (input_effect r.next r.answers r.replica c.args.input.now) r.replica n) refused.field-0-is refused.ensures.err in
    record {
      ok = tt;
      err = refused_in_cut r c.args.input.now refused.fault refused.replica stops;
    }
