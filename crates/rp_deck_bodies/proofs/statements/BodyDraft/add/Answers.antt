use Rattle.std.proofs.Common.{ap}
use Rattle.rp_deck_bodies.specs.Bodies.{BodyText}
use Rattle.rp_deck_bodies.specs.BodyViews.{body_draft_text}
use Rattle.rp_deck_bodies.proofs.BodyLemmas.{added}
use Rattle.rp_deck_bodies.proofs.statements.BodyDraft.add.Goals as goal

pub returns-clause-text : goal.returns-clause-text
returns-clause-text c =
    let old = c.args.self.now in
    ap (λ (b : BodyText). record (body_draft_text old) { statements = b }) (added old.statements.items c.push.new.self.items c.args.statement c.in_ok-push.ensures.items)
