-- The place that the code reads is the object's, and `checked_add` reports whether the sum fits.
use Rattle.std.proofs.Common.{rules, arith}
use Rattle.rp_machine.proofs.Adding.{Reads, reply_fits, sums_fits, reply_unfit, sums_unfit}
use Rattle.rp_machine.proofs.tally.Tally.add.Goals as goal

pub returns-in-Some : goal.returns-in-Some
returns-in-Some c =
    let reads : Reads c.self.inside.sums.items c.from-place.result c.index.result.now c.args.arg = record {
      some = c.if-place-eq0.false;
      within = omega (arith, c.self.inside.sums.ok.0, c.len.ensures);
      read = c.index.ensures;
      sum_fits = search rules;
      arg_fits = c.ranges.arg;
    } in
    rw (← c.self.view_is, ← c.from-place.ensures) (record {
      reply = reply_fits _ _ _ _ _ reads c.in-Some.ensures;
      sums = sums_fits _ _ _ _ _ reads c.in-Some.ensures;
    })

pub returns-in-None : goal.returns-in-None
returns-in-None c =
    let reads : Reads c.self.inside.sums.items c.from-place.result c.index.result.now c.args.arg = record {
      some = c.if-place-eq0.false;
      within = omega (arith, c.self.inside.sums.ok.0, c.len.ensures);
      read = c.index.ensures;
      sum_fits = search rules;
      arg_fits = c.ranges.arg;
    } in
    rw (← c.self.view_is, ← c.from-place.ensures) (record {
      reply = reply_unfit _ _ _ _ reads c.in-None.ensures;
      sums = sums_unfit _ _ _ _ reads c.in-None.ensures;
    })
