use Rattle.std.proofs.Common.{List, refl, subst, arith}
use Rattle.std.specs.Prelude.{nat_eq, not}
use Rattle.rp_base.specs.Proposals.{Proposal}
use Rattle.rp_proposer.specs.Proposing.{ProposerPart, HasRoom}
use Rattle.rp_proposer.proofs.Starting.{few_pass}
use Rattle.rp_proposer.proofs.proposer.Proposer.has_room.Goals as goal

pub returns-then-len-lt-MOST_RUNNING : goal.returns-then-len-lt-MOST_RUNNING
returns-then-len-lt-MOST_RUNNING c =
    let items : List Proposal = c.self.inside.proposals.items in
    let fewer = few_pass (λ p. not (nat_eq p.position c.args.position)) items in
    let room : HasRoom items c.args.position = omega (arith, fewer, c.if-len-lt-MOST_RUNNING.true, c.len.ensures, c.self.inside.proposals.ok.0) in
    (λ yes. subst (λ (part : ProposerPart). HasRoom part.proposals c.args.position) c.self.view_is room, λ h. refl)
