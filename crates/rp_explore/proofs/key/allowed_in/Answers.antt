-- One task more.
use Rattle.std.proofs.Common.{◌≡◌, ◌+◌, ℕ, List, if◌then◌else◌, length, get_or, true≢false, ap, sym, ◌∙◌, arith, length-set}
use Rattle.rp_orders.specs.Guards.{may_go_on}
use Rattle.rp_machine.specs.Numbered.{outcome}
use Rattle.rp_explore.proofs.KeyLemmas.{bit, eight, eight_more}
use Rattle.rp_explore.proofs.key.allowed_in.Goals as goal
use Rattle.rp_explore.proofs.key.allowed_in.Goals.{in-Some, in_default}

pub loop-place-preserved : goal.loop-place-preserved
loop-place-preserved g c =
    let m = g.M.Machine in
    let r = outcome m.next m.answers c.args.state.now in
    let before = c.loop-place.invariant in
    let f : ℕ → ℕ = λ task. if may_go_on c.args.guards.now r.kept r.given task then 1 else 0 in
    elim c.match-new.branch [
      | in-Some w ↦
          let is : w.one_if.result ≡ f (c.loop-place.place + 1) = w.one_if.ensures ∙ ap bit w.may_go_on.ensures ∙ ap f w.in-Some.ensures.value in
          record {
            size = ap length w.allowed-is ∙ length-set c.loop-place.allowed w.from.result w.one_if.result ∙ before.size;
            each = λ k lt. ap (λ (xs : List ℕ). get_or xs k 0) w.allowed-is
                ∙ eight_more 0 f c.loop-place.allowed c.loop-place.place w.from.result w.one_if.result w.from.ensures (omega (arith, before.size, c.loop-place-test.true)) is before.each k lt;
          }
      | in_default w ↦ absurd (true≢false (sym (w.in_default.ensures.valid.1 (omega arith, omega (arith, c.loop-place-test.true)))))
    ]

pub returns : goal.returns
returns g c =
    let m = g.M.Machine in
    let r = outcome m.next m.answers c.args.state.now in
    eight 0 (λ task. if may_go_on c.args.guards.now r.kept r.given task then 1 else 0) c.loop-place.allowed c.loop-place.invariant.size
    (λ k lt. c.loop-place.invariant.each k (omega (arith, c.loop-place-test.false)))
