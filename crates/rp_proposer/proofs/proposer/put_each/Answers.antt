use Rattle.std.proofs.Common.{◌≡◌, ◌+◌, ◌<◌, ◌≤◌, ℕ, Bool, List, cond, length, sym, ap, subst, ◌∙◌, arith, deque_capacity}
use Rattle.std.specs.Prelude.{nat_eq}
use Rattle.std.specs.Int.{bit_at}
use Rattle.rp_base.specs.Proposals.{Proposal, with_proposal, without_proposal, with_range, range_proposal}
use Rattle.rp_proposer.proofs.Starting.{open_from, begins_next, room_next}
use Rattle.rp_proposer.proofs.proposer.put_each.Goals as goal

pub put_unless-requires : goal.put_unless-requires
put_unless-requires c = λ unskipped.
    let items : List Proposal = c.loop-index.proposals.items in
    let index : ℕ = c.loop-index.index in
    let first : ℕ = c.args.range.first in
    let within : index < c.args.range.count = omega (arith, c.loop-index-test.true, c.count-index-end.ensures.value) in
    let here : c.of_range-proposal.result.position ≡ first + index = ap (λ (p : Proposal). p.position) c.of_range-proposal.ensures ∙ c.at.ensures in
    let long = ap length c.loop-index.invariant.rest in
    let most : length (with_range items c.args.ballot (open_from c.args.skip first c.args.range.count index)) ≤ deque_capacity c.loop-index.proposals =
    omega (arith, long, c.requires, c.loop-index.invariant.room) in
    subst (λ (n : ℕ). length (without_proposal items n) < deque_capacity c.loop-index.proposals) (sym here)
    (room_next items c.args.ballot c.args.skip first c.args.range.count index (deque_capacity c.loop-index.proposals) within (sym c.has_bit.ensures ∙ unskipped) most)

pub loop-index-preserved : goal.loop-index-preserved
loop-index-preserved c =
    let items : List Proposal = c.loop-index.proposals.items in
    let index : ℕ = c.loop-index.index in
    let first : ℕ = c.args.range.first in
    let within : index < c.args.range.count = omega (arith, c.loop-index-test.true, c.count-index-end.ensures.value) in
    let put : c.put_unless.new.proposals.items ≡ cond (nat_eq (bit_at c.args.skip index) 1) items (with_proposal items (range_proposal c.args.ballot (first + index))) =
    c.put_unless.ensures.items
    ∙ ap (λ (t : Bool). cond t items (with_proposal items c.of_range-proposal.result)) c.has_bit.ensures
    ∙ ap (λ (p : Proposal). cond (nat_eq (bit_at c.args.skip index) 1) items (with_proposal items p)) (c.of_range-proposal.ensures ∙ ap (λ (i : ℕ). range_proposal c.args.ballot i) c.at.ensures) in
    record {
      rest = ap (λ (l : List Proposal). with_range l c.args.ballot (open_from c.args.skip first c.args.range.count (index + 1))) put
          ∙ begins_next items c.args.ballot c.args.skip first c.args.range.count index within ∙ c.loop-index.invariant.rest;
      room = c.put_unless.ensures.capacity ∙ c.loop-index.invariant.room;
    }
