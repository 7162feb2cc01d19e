use Rattle.rp_proposer.proofs.OneOffer.{one_offer}
use Rattle.rp_proposer.proofs.proposal.one_offer_at_most.Goals as goal

pub returns : goal.returns
returns c nodes proposal promises = one_offer nodes proposal promises
