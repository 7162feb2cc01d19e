use Rattle.std.proofs.Common.{◌≡◌, drop}
use Rattle.rp_proposer.specs.Proposing.{is_own_elsewhere}
use Rattle.rp_proposer.proofs.proposer.is_own_elsewhere.Given as goal

-- none was found so far, so what the rest says is what all say
abbrev pub invariant-loop-proposal : goal.invariant-loop-proposal
invariant-loop-proposal l = is_own_elsewhere (drop l.proposal-index l.proposals) l.position l.item ≡ is_own_elsewhere l.proposals l.position l.item
