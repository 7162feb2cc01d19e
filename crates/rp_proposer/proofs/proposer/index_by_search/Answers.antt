use Rattle.std.proofs.Common.{◌+◌, List, length, sym, ap, ◌∙◌, arith}
use Rattle.std.specs.Prelude.{option_map}
use Rattle.rp_base.specs.Proposals.{Proposal}
use Rattle.rp_proposer.specs.Proposing.{index_from}
use Rattle.rp_proposer.proofs.Places.{index_at, index_front, index_back}
use Rattle.rp_proposer.proofs.proposer.index_by_search.Goals as goal

pub overflow_add-result : goal.overflow_add-result
overflow_add-result c =
    let found = index_at c.as_slices.result.1.now c.in-Some-index_in.index c.args.position (sym c.index_in-in-None.ensures ∙ c.in-Some-index_in.is) in
    omega (arith, found.1.within, c.as_slices.ensures.len, c.args.proposals.now.small)

pub returns-in-Some : goal.returns-in-Some
returns-in-Some c =
    let front : List Proposal = c.as_slices.result.0.now in
    let back : List Proposal = c.as_slices.result.1.now in
    sym (ap (index_from 0 c.args.position) (sym c.as_slices.ensures.items) ∙ index_front front back 0 c.in-Some.index c.args.position (sym c.index_in.ensures ∙ c.in-Some.is))

pub returns-in-Some-index_in : goal.returns-in-Some-index_in
returns-in-Some-index_in c =
    let front : List Proposal = c.as_slices.result.0.now in
    let back : List Proposal = c.as_slices.result.1.now in
    sym (ap (index_from 0 c.args.position) (sym c.as_slices.ensures.items) ∙ index_back front back c.args.position (sym c.index_in.ensures ∙ c.in-None.is)
    ∙ ap (option_map (λ n. length front + n)) (sym c.index_in-in-None.ensures ∙ c.in-Some-index_in.is))

pub returns-in-None-index_in : goal.returns-in-None-index_in
returns-in-None-index_in c =
    let front : List Proposal = c.as_slices.result.0.now in
    let back : List Proposal = c.as_slices.result.1.now in
    sym (ap (index_from 0 c.args.position) (sym c.as_slices.ensures.items) ∙ index_back front back c.args.position (sym c.index_in.ensures ∙ c.in-None.is)
    ∙ ap (option_map (λ n. length front + n)) (sym c.index_in-in-None.ensures ∙ c.in-None-index_in.is))
