use Rattle.std.proofs.Common.{◌≡◌, ◌-◌, ℕ, arith, subst}
use Rattle.rp_acceptor.specs.Slots.{HasSlot, HasNoVote}
use Rattle.rp_acceptor.proofs.Firsts.{on_none}
use Rattle.rp_acceptor.proofs.acceptor.bound_without_vote.Goals as goal

pub returns-in_err-alone-clause-none : goal.returns-in_err-alone-clause-none
returns-in_err-alone-clause-none c =
    let at : c.index_of_position.result ≡ c.args.position - 1 = omega (arith, c.index_of_position.ensures) in
    let none = subst (λ (k : ℕ). HasSlot c.args.pages.now k → (n : ℕ) → ¬ HasNoVote c.args.pages.now k n) at c.in_err-alone.ensures.none in
    on_none c.from_residual.result (λ there bound is. none there is.promised is.kept)
