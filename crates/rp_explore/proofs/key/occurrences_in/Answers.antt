-- One source more.
use Rattle.std.proofs.Common.{ℕ, ◌∙◌, arith, length-set}
use Rattle.rp_machine.specs.Asked.{last_occurrence}
use Rattle.rp_machine.specs.Numbered.{outcome}
use Rattle.rp_explore.proofs.KeyLemmas.{eight, eight_more}
use Rattle.rp_explore.proofs.key.occurrences_in.Goals as goal

pub loop-place-preserved : goal.loop-place-preserved
loop-place-preserved g c =
    let m = g.M.Machine in
    let kept = (outcome m.next m.answers c.args.state.now).kept in
    let before = c.loop-place.invariant in
    let f : ℕ → ℕ = λ source. last_occurrence source kept in
    record {
      size = length-set c.loop-place.occurrences c.from.result c.last_occurrence.result ∙ before.size;
      each = eight_more 0 f c.loop-place.occurrences c.loop-place.place c.from.result c.last_occurrence.result c.from.ensures (omega (arith, before.size, c.loop-place-test.true)) c.last_occurrence.ensures before.each;
    }

pub returns : goal.returns
returns g c =
    let m = g.M.Machine in
    eight 0 (λ source. last_occurrence source (outcome m.next m.answers c.args.state.now).kept) c.loop-place.occurrences c.loop-place.invariant.size
    (λ k lt. c.loop-place.invariant.each k (omega (arith, c.loop-place-test.false)))
