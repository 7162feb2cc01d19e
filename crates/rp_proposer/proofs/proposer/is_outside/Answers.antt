use Rattle.std.proofs.Common.{◌<◌, List, length, refl, arith}
use Rattle.std.proofs.lemmas.Option.{slice_get_read}
use Rattle.rp_base.specs.Proposals.{Proposal}
use Rattle.rp_proposer.proofs.Rising.{none_before, none_after}
use Rattle.rp_proposer.proofs.proposer.is_outside.Goals as goal

pub returns-then-get : goal.returns-then-get
returns-then-get c = λ up yes.
    let items : List Proposal = c.args.proposals.now.items in
    let at = slice_get_read items (length items) 0 c.index.result.now refl c.requires.some c.index.ensures in
    let less : c.args.position < c.index.result.now.position = omega (arith, c.if-get.true, c.get.ensures.value, c.get-2.ensures.value, c.position.ensures) in
    none_before items c.args.position c.index.result.now at less up

pub returns-else-get : goal.returns-else-get
returns-else-get c = λ up yes.
    let below = c.is_after.ensures yes in
    none_after c.args.proposals.now.items below.others c.args.position below.last below.count below.at below.below up
