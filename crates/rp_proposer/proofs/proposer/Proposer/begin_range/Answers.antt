use Rattle.std.proofs.Common.{◌≤◌, ℕ, List, length, sym, subst}
use Rattle.rp_base.specs.Proposals.{Proposal, with_range}
use Rattle.rp_base.proofs.Apart.{range_apart}
use Rattle.rp_proposer.specs.Proposing.{ProposerPart, most_running, unskipped}
use Rattle.rp_proposer.specs.Room.{Rises}
use Rattle.rp_proposer.proofs.Within.{kept}
use Rattle.rp_proposer.proofs.proposer.Proposer.begin_range.Goals as goal

pub invariant_of-self : goal.invariant_of-self
invariant_of-self c =
    let items : List Proposal = c.self.inside.proposals.items in
    let is = c.self.invariant in
    let begun : List ℕ = unskipped c.args.range c.args.skip in
    let room : length (with_range items c.args.ballot begun) ≤ most_running =
    subst (λ (part : ProposerPart). length (with_range part.proposals c.args.ballot begun) ≤ most_running) (sym c.self.view_is) c.requires.room in
    kept _ _ _ _ _ _ _ _ _ _ is c.put_range-self-inside.ensures.items c.put_range-self-inside.ensures.capacity (range_apart items c.args.ballot begun is.apart)
    (subst (λ (l : List Proposal). length l ≤ most_running) (sym c.put_range-self-inside.ensures.items) room)
    (λ yes. subst (λ (l : List Proposal). Rises 0 l) c.put_range-self-inside.ensures.items (c.ascend-self-inside.ensures yes))
    c.put_range-self-inside.ensures.own
