use Rattle.std.proofs.Common.{◌≡◌, drop}
use Rattle.rp_proposer.specs.Proposing.{index_from}
use Rattle.rp_proposer.proofs.proposer.index_in.Given as goal

-- none was found so far, so what the rest has is what all have
abbrev pub invariant-loop-proposal : goal.invariant-loop-proposal
invariant-loop-proposal l = (l.index ≡ l.proposal-index) × (index_from l.index l.position (drop l.proposal-index l.proposals) ≡ index_from 0 l.position l.proposals)
