use Rattle.std.proofs.Common.{◌≡◌, ℕ, suc, ◌+◌, ◌-◌, ◌<◌, sym, ap, ◌∙◌, arith}
use Rattle.std.specs.List.{range_with_len}
use Rattle.rp_base.specs.Ballot.{number_of}
use Rattle.rp_acceptor.specs.Comparing.{compared, compared_at}
use Rattle.rp_acceptor.proofs.Comparing.{compared_flat}
use Rattle.rp_acceptor.proofs.levels.compare_stretch.Goals as goal

pub returns : goal.returns
returns c =
    let from : ℕ = c.args.from in
    let held : ℕ = number_of c.args.held in
    let less : ℕ = c.args.end - from - 1 in
    let some : from < c.args.end = omega (arith, c.if-end-from.false) in
    let many : suc less ≡ c.args.end - from = omega (arith, some) in
    let here : c.args.range.first + (from - c.from.result) ≡ from = omega (arith, c.requires.within.0, c.from.ensures, c.get.ensures.value, c.first.ensures.value) in
    c.at.ensures
    ∙ ap (λ (i : ℕ). compared_at i held c.args.ballot) here
    ∙ sym (compared_flat c.args.ballot held from less)
    ∙ ap (λ (n : ℕ). compared (λ i. held) c.args.ballot (range_with_len from n)) many
