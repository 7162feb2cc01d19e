-- One task more.
use Rattle.std.proofs.Common.{◌≡◌, ◌+◌, ℕ, List, length, get_or, true≢false, ap, sym, ◌∙◌, arith, length-set}
use Rattle.rp_machine.specs.Asked.{last_number}
use Rattle.rp_machine.specs.Numbered.{outcome}
use Rattle.rp_explore.proofs.KeyLemmas.{eight, eight_more}
use Rattle.rp_explore.proofs.key.numbers_in.Goals as goal
use Rattle.rp_explore.proofs.key.numbers_in.Goals.{in-Some, in_default}

pub loop-place-preserved : goal.loop-place-preserved
loop-place-preserved g c =
    let m = g.M.Machine in
    let kept = (outcome m.next m.answers c.args.state.now).kept in
    let before = c.loop-place.invariant in
    let f : ℕ → ℕ = λ task. last_number task kept in
    elim c.match-new.branch [
      | in-Some w ↦
          let number : w.last.result ≡ f (c.loop-place.place + 1) = w.last.ensures ∙ ap f w.in-Some.ensures.value in
          record {
            size = ap length w.numbers-is ∙ length-set c.loop-place.numbers w.from.result w.last.result ∙ before.size;
            each = λ k lt. ap (λ (xs : List ℕ). get_or xs k 0) w.numbers-is
                ∙ eight_more 0 f c.loop-place.numbers c.loop-place.place w.from.result w.last.result w.from.ensures (omega (arith, before.size, c.loop-place-test.true)) number before.each k lt;
          }
      | in_default w ↦ absurd (true≢false (sym (w.in_default.ensures.valid.1 (omega arith, omega (arith, c.loop-place-test.true)))))
    ]

pub returns : goal.returns
returns g c =
    let m = g.M.Machine in
    eight 0 (λ task. last_number task (outcome m.next m.answers c.args.state.now).kept) c.loop-place.numbers c.loop-place.invariant.size
    (λ k lt. c.loop-place.invariant.each k (omega (arith, c.loop-place-test.false)))
