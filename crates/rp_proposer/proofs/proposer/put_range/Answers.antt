use Rattle.std.proofs.Common.{◌≡◌, ◌+◌, ◌-◌, ◌++◌, ℕ, List, map, length, length-append, sym, ap, ◌∙◌, arith}
use Rattle.std.proofs.lemmas.List.{length-map}
use Rattle.std.specs.Prelude.{nat_eq, not}
use Rattle.std.specs.Int.{bit_at}
use Rattle.rp_base.specs.Proposals.{Proposal, range_proposal}
use Rattle.rp_proposer.specs.Proposing.{unskipped}
use Rattle.rp_proposer.specs.Room.{own_actions_of}
use Rattle.rp_proposer.proofs.Owning.{own_append, own_range}
use Rattle.rp_proposer.proofs.Starting.{pushed, none_covered}
use Rattle.rp_proposer.proofs.proposer.put_range.Goals as goal

pub push_each-requires : goal.push_each-requires
push_each-requires c =
    let items : List Proposal = c.args.proposals.now.items in
    let all : List ℕ = unskipped c.args.range c.args.skip in
    let none = none_covered c.args.range items (sym c.runs_in.ensures ∙ c.if-runs_in.false) in
    let long = ap length (pushed (λ i. not (nat_eq (bit_at c.args.skip (i - c.args.range.first)) 1)) items c.args.ballot c.args.range.first c.args.range.count none) in
    let parts : length (items ++ map (range_proposal c.args.ballot) all) ≡ length items + length all = simp (length-append, length-map) in
    omega (arith, long, parts, c.requires.room)

pub returns-else-runs_in-clause-own : goal.returns-else-runs_in-clause-own
returns-else-runs_in-clause-own c =
    let begun : List ℕ = unskipped c.args.range c.args.skip in
    let pushed_all = ap own_actions_of c.push_each.ensures.items in
    omega (arith, c.requires.own, pushed_all, own_append c.args.proposals.now.items (map (range_proposal c.args.ballot) begun), own_range c.args.ballot begun)

pub returns-else-runs_in-clause-items : goal.returns-else-runs_in-clause-items
returns-else-runs_in-clause-items c =
    let items : List Proposal = c.args.proposals.now.items in
    let none = none_covered c.args.range items (sym c.runs_in.ensures ∙ c.if-runs_in.false) in
    c.push_each.ensures.items ∙ sym (pushed (λ i. not (nat_eq (bit_at c.args.skip (i - c.args.range.first)) 1)) items c.args.ballot c.args.range.first c.args.range.count none)
