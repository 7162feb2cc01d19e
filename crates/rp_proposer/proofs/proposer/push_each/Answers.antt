use Rattle.std.proofs.Common.{◌≡◌, ◌+◌, ◌<◌, ◌≤◌, ◌++◌, [], ◌∷◌, ℕ, Bool, List, map, cond, length, length-append, sym, ap, ◌∙◌, arith, deque_capacity}
use Rattle.std.proofs.lemmas.List.{length-map}
use Rattle.std.specs.Prelude.{nat_eq}
use Rattle.std.specs.Int.{bit_at}
use Rattle.rp_base.specs.Proposals.{Proposal, range_proposal}
use Rattle.rp_proposer.specs.Proposing.{unskipped}
use Rattle.rp_proposer.proofs.Starting.{open_from, pushed_next, push_room}
use Rattle.rp_proposer.proofs.proposer.push_each.Goals as goal

pub push_unless-requires : goal.push_unless-requires
push_unless-requires c = λ unskipped.
    let items : List Proposal = c.loop-index.proposals.items in
    let old : List Proposal = c.args.proposals.now.items in
    let index : ℕ = c.loop-index.index in
    let first : ℕ = c.args.range.first in
    let within : index < c.args.range.count = omega (arith, c.loop-index-test.true, c.count-index-end.ensures.value) in
    let all : List ℕ = Rattle.rp_proposer.specs.Proposing.unskipped c.args.range c.args.skip in
    let long = ap length c.loop-index.invariant.rest in
    let parts : length (old ++ map (range_proposal c.args.ballot) all) ≡ length old + length all = simp (length-append, length-map) in
    let most : length (items ++ map (range_proposal c.args.ballot) (open_from c.args.skip first c.args.range.count index)) ≤ deque_capacity c.loop-index.proposals =
    omega (arith, long, parts, c.requires, c.loop-index.invariant.room) in
    push_room items c.args.ballot c.args.skip first c.args.range.count index (deque_capacity c.loop-index.proposals) within (sym c.has_bit.ensures ∙ unskipped) most

pub loop-index-preserved : goal.loop-index-preserved
loop-index-preserved c =
    let items : List Proposal = c.loop-index.proposals.items in
    let index : ℕ = c.loop-index.index in
    let first : ℕ = c.args.range.first in
    let within : index < c.args.range.count = omega (arith, c.loop-index-test.true, c.count-index-end.ensures.value) in
    let put : c.push_unless.new.proposals.items ≡ cond (nat_eq (bit_at c.args.skip index) 1) items (items ++ range_proposal c.args.ballot (first + index) ∷ []) =
    c.push_unless.ensures.items
    ∙ ap (λ (t : Bool). cond t items (items ++ range_proposal c.args.ballot c.at.result ∷ [])) c.has_bit.ensures
    ∙ ap (λ (i : ℕ). cond (nat_eq (bit_at c.args.skip index) 1) items (items ++ range_proposal c.args.ballot i ∷ [])) c.at.ensures in
    record {
      rest = ap (λ (l : List Proposal). l ++ map (range_proposal c.args.ballot) (open_from c.args.skip first c.args.range.count (index + 1))) put
          ∙ pushed_next items c.args.ballot c.args.skip first c.args.range.count index within ∙ c.loop-index.invariant.rest;
      room = c.push_unless.ensures.capacity ∙ c.loop-index.invariant.room;
    }
