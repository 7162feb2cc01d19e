use Rattle.std.proofs.Common.{◌<◌, ℕ, List, length, set, ap, ◌∙◌, arith}
use Rattle.std.proofs.lemmas.List.{length-set}
use Rattle.std.proofs.lemmas.List.Edits.{map_over_more}
use Rattle.rp_base.specs.Proposals.{Proposal, once_promised}
use Rattle.rp_proposer.proofs.proposer.note_range.Goals as goal

pub loop-index-preserved : goal.loop-index-preserved
loop-index-preserved c =
    let old : List Proposal = c.args.proposals.now.items in
    let index : ℕ = c.loop-index.index in
    let is = c.loop-index.invariant in
    let within : index < length old = omega (arith, c.loop-index-test.true, c.len.ensures, c.loop-index.proposals.ok.0, is.long) in
    let noted : Proposal → Proposal = once_promised c.args.nodes c.args.heard.now.from c.args.heard.now.range c.args.heard.now.ballot c.args.heard.now.votes.now in
    record {
      noted = ap (λ (p : Proposal). set c.loop-index.proposals.items index p) c.note_range.ensures
          ∙ map_over_more noted old c.loop-index.proposals.items index c.index_mut.result.now within is.noted c.index_mut.ensures.value;
      long = length-set c.loop-index.proposals.items index c.note_range.new.self ∙ is.long;
      bound = omega (arith, within);
      room = is.room;
    }
