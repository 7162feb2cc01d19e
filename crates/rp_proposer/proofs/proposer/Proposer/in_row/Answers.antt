use Rattle.std.proofs.Common.{◌≡◌, ℕ, ap, ◌∙◌, arith}
use Rattle.rp_proposer.specs.Proposing.{ProposerPart}
use Rattle.rp_proposer.specs.Rows.{in_row}
use Rattle.rp_proposer.proofs.Rows.{busy_in_row}
use Rattle.rp_proposer.proofs.proposer.Proposer.in_row.Goals as goal

pub returns-clause-busy : goal.returns-clause-busy
returns-clause-busy c = λ j low high.
    let now = c.args.self.now in
    let count : c.in_row.result ≡ in_row now.nodes c.args.first now.proposals =
    c.in_row.ensures.value
    ∙ ap (λ (n : ℕ). in_row c.self.inside.nodes n c.self.inside.proposals.items) c.from.ensures
    ∙ ap (λ (part : ProposerPart). in_row part.nodes c.args.first part.proposals) c.self.view_is in
    busy_in_row now.nodes c.args.first now.proposals j low (omega (arith, high, count))
