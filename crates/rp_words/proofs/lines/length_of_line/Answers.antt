use Rattle.std.proofs.Common.{arith}
use Rattle.rp_words.proofs.LinesLemmas.{past_lanes}
use Rattle.rp_words.proofs.lines.length_of_line.Goals as goal

pub loop-end-preserved : goal.loop-end-preserved
loop-end-preserved c =
    let past = past_lanes c.args.bytes.now c.loop-end.end (omega arith) (omega (arith, c.length_in_lanes-run.ensures)) in
    record {
      within = omega arith;
      line = omega (arith, past, c.loop-end.invariant.line);
    }
