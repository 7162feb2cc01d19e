use Rattle.std.proofs.Common.{rules}
use Rattle.rp_output.proofs.StreamLemmas.{appends_next}
use Rattle.rp_output.proofs.Writing.{begins_taking, begins_failing, writes_failed}
use Rattle.rp_output.proofs.stream.write_whole.Goals as goal

pub loop-preserved : goal.loop-preserved
loop-preserved g c = record {
  within = search rules;
  sent = appends_next _ _ _ c.args.bytes.now _ _ c.loop.invariant.sent c.in_ok-written.ensures.bytes;
}

pub returns-in_err-written-clause-written : goal.returns-in_err-written-clause-written
returns-in_err-written-clause-written g c =
    writes_failed _ _ _ c.from_residual.result c.from_residual.ensures.0
    (begins_failing _ _ _ c.args.bytes.now c.loop.written c.loop.invariant.sent c.in_err-written.ensures.bytes)

pub returns-clause-written : goal.returns-clause-written
returns-clause-written g c = begins_taking _ _ c.args.bytes.now c.loop.written c.loop.invariant.sent
