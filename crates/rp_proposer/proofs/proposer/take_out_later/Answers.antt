use Rattle.std.proofs.Common.{◌≡◌, ◌<◌, Option, OnSome, subst, arith}
use Rattle.std.specs.Prelude.{remove}
use Rattle.rp_base.specs.Proposals.{Proposal, range_proposal}
use Rattle.rp_proposer.proofs.proposer.take_out_later.Goals as goal

pub returns-clause-items : goal.returns-clause-items
returns-clause-items c =
    let items = c.args.proposals.now.items in
    let within : c.args.index < c.args.proposals.now.len = omega (arith, c.requires, c.args.proposals.now.ok.0) in
    subst (λ (o : Option Proposal). OnSome o (c.remove.new.self.items ≡ remove items c.args.index)) (c.remove.ensures.succeeds (range_proposal 0 0) within) c.remove.ensures.items
