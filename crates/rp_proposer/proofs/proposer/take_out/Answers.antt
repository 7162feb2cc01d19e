use Rattle.std.proofs.Common.{List, sym, ap, ◌∙◌}
use Rattle.std.specs.Prelude.{remove}
use Rattle.rp_base.specs.Proposals.{Proposal}
use Rattle.rp_proposer.proofs.Places.{first_out}
use Rattle.rp_proposer.proofs.proposer.take_out.Goals as goal

pub returns-then-index-eq0-clause-items : goal.returns-then-index-eq0-clause-items
returns-then-index-eq0-clause-items c =
    let items : List Proposal = c.args.proposals.now.items in
    c.pop_front.ensures.rest ∙ sym (first_out items) ∙ ap (remove items) (sym c.if-index-eq0.true)
