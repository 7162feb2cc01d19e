use Rattle.std.proofs.Common.{◌≡◌, ℕ, suc, ◌-◌, ◌<◌, length, sym, ap, subst, ◌∙◌, arith}
use Rattle.rp_acceptor.specs.Levels.{Level, ballot_before}
use Rattle.rp_acceptor.proofs.Splitting.{no_ballot, last_ballot}
use Rattle.rp_acceptor.proofs.levels.number_before.Goals as goal

pub returns-then-count-eq0-clause-value : goal.returns-then-count-eq0-clause-value
returns-then-count-eq0-clause-value c = subst (λ (n : ℕ). 0 ≡ ballot_before 0 c.args.levels.now n) (sym c.if-count-eq0.true) (sym (no_ballot 0 c.args.levels.now))

pub returns-else-count-eq0-clause-value : goal.returns-else-count-eq0-clause-value
returns-else-count-eq0-clause-value c =
    let last : ℕ = c.args.count - 1 in
    let some : ¬ (c.args.count ≡ 0) = c.if-count-eq0.false in
    let count : suc last ≡ c.args.count = omega (arith, some) in
    let within : last < length c.args.levels.now = omega (arith, c.requires, count) in
    ap (λ (s : Level). s.ballot) (c.level.view_is ∙ c.index-levels-count.is)
    ∙ sym (last_ballot 0 c.args.levels.now last c.index-levels-count.result within)
    ∙ ap (ballot_before 0 c.args.levels.now) count
