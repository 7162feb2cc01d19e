-- Each push moves the window on by one place.
use Rattle.std.proofs.Common.{◌≡◌, ◌≤◌, ◌-◌, ◌∙◌, ℕ, List, [], ◌∷◌, ◌++◌, length, sym, ap, subst, arith}
use Rattle.circular_buffer.specs.Buffer.{keep_last}
use Rattle.rp_learner.specs.Place.{Place}
use Rattle.rp_base.specs.Number.{window}
use Rattle.rp_learner.proofs.Advancing.{moved_on, length-moved, moves_on, advances}
use Rattle.rp_learner.proofs.learner.Learner.advance.Goals as goal

pub loop-offset-preserved : goal.loop-offset-preserved
loop-offset-preserved c =
    let inv = c.loop-offset.invariant in
    let old = c.self.inside.places.items in
    let moved = c.min-moved.result in
    let bits = c.args.settled in
    let n = c.loop-offset.offset - (window - moved) in (
      omega (arith, inv.0),
      inv.1,
      inv.2,
      ap (λ b. b.capacity) c.push_back.ensures.items ∙ inv.3,
      ap (λ b. b.items) c.push_back.ensures.items
          ∙ ap (λ (k : ℕ). keep_last k (c.loop-offset.self-inside.places.items ++ c.opened.result ∷ [])) inv.3
          ∙ ap (λ (xs : List Place). keep_last window (xs ++ c.opened.result ∷ [])) inv.4
          ∙ ap (λ (p : Place). keep_last window (moved_on old moved bits n ++ p ∷ [])) c.opened.ensures
          ∙ moves_on old c.self.invariant.2 bits moved c.loop-offset.offset (omega (arith, c.min-moved.ensures)) inv.0 c.loop-offset-test.true,
    )

pub invariant_of-self : goal.invariant_of-self
invariant_of-self c =
    let inv = c.loop-offset.invariant in
    let n = c.loop-offset.offset - (window - c.min-moved.result) in (
      omega (arith, inv.1, c.self.invariant.0),
      omega (arith, inv.1, c.self.invariant.1),
      ap length inv.4
          ∙ length-moved c.self.inside.places.items c.self.invariant.2 c.args.settled c.min-moved.result n (omega (arith, c.min-moved.ensures, c.loop-offset.auto.offset-end (omega arith))),
      inv.3,
    )

pub returns : goal.returns
returns c =
    let inv = c.loop-offset.invariant in
    let l = c.self.inside in
    let moved = c.min-moved.result in
    let all : c.loop-offset.offset - (window - moved) ≡ moved =
    omega (arith, c.min-moved.ensures, c.loop-offset-test.false, c.loop-offset.auto.offset-end (omega arith)) in
    rw (← c.self.view_is, inv.1, inv.2)
    (advances l.nodes l.max_positions l.first c.args.first c.args.settled l.places.items c.self.invariant.2
    (subst (λ v. v.first ≤ c.args.first) (sym c.self.view_is) c.requires.on)
    c.loop-offset.self-inside.places.items moved c.min-moved.ensures (inv.4 ∙ ap (λ (n : ℕ). moved_on l.places.items moved c.args.settled n) all))
