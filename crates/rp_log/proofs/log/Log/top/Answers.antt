use Rattle.std.proofs.Common.{ℕ, ◌≤◌, arith}
use Rattle.rp_log.specs.Contents.{IsLearned}
use Rattle.rp_log.proofs.Tops.{top_bound, top_there, top_zero, fits_bound, top_some, top_none}
use Rattle.rp_log.proofs.log.Log.top.Goals as goal

pub returns-clause-learned : goal.returns-clause-learned
returns-clause-learned c =
    top_some c.new.result c.self.inside.top (λ top. IsLearned c.args.self.now top) c.new.ensures.valid c.new.ensures.value
    (top_there c.self.invariant c.args.self.now c.self.view_is)

pub returns-clause-greatest : goal.returns-clause-greatest
returns-clause-greatest c =
    top_some c.new.result c.self.inside.top (λ top. (i : ℕ) → IsLearned c.args.self.now i → i ≤ top) c.new.ensures.valid c.new.ensures.value
    (λ positive. top_bound c.self.invariant c.args.self.now c.self.view_is)

pub returns-clause-none : goal.returns-clause-none
returns-clause-none c =
    top_none c.new.result c.self.inside.top ((i : ℕ) → IsLearned c.args.self.now i → ⊥) c.new.ensures.valid
    (top_zero c.self.invariant c.args.self.now c.self.view_is) (omega (arith, fits_bound c.self.invariant))
