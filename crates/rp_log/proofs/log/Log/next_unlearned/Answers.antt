use Rattle.std.proofs.Common.{◌≡◌, ◌+◌, ℕ, length, ap, subst, sym, ◌∙◌, arith}
use Rattle.rp_log.specs.Contents.{Contents, IsLearned, ready_of, next_to_take}
use Rattle.rp_log.proofs.Views.{seen, learned_below, not_next, all_taken}
use Rattle.rp_log.proofs.log.Log.next_unlearned.Goals as goal

pub returns-clause-below : goal.returns-clause-below
returns-clause-below c = λ i low high.
    let front = c.self.inside.front.items in
    subst (λ (log : Contents). IsLearned log i) c.self.view_is
    (learned_below front c.self.inside.next_reserved c.self.inside.ahead.entries c.self.inside.taken i low (omega (arith, c.len.ensures, high)))

pub returns-clause-unlearned : goal.returns-clause-unlearned
returns-clause-unlearned c = λ there.
    let front = c.self.inside.front.items in
    let next : c.len.result + 1 ≡ length front + 1 = omega (arith, c.len.ensures) in
    not_next front c.self.inside.next_reserved c.self.inside.ahead.entries c.self.inside.taken c.self.invariant.gap
    (subst (λ (n : ℕ). IsLearned (seen front c.self.inside.next_reserved c.self.inside.ahead.entries c.self.inside.taken) n) next (subst (λ (log : Contents). IsLearned log (c.len.result + 1)) (sym c.self.view_is) there))

pub returns-clause-taken : goal.returns-clause-taken
returns-clause-taken c = λ none.
    let front = c.self.inside.front.items in
    let next : c.len.result + 1 ≡ length front + 1 = omega (arith, c.len.ensures) in
    next ∙ all_taken front c.self.inside.next_reserved c.self.inside.ahead.entries c.self.inside.taken c.self.invariant.taken_within
    (ap ready_of c.self.view_is ∙ none) ∙ ap next_to_take c.self.view_is
