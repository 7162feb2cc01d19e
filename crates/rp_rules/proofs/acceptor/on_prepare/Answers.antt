use Rattle.std.proofs.Common.{◌≡◌, ◌≤◌, refl, sym, subst}
use Rattle.std.specs.Prelude.{IfSome}
use Rattle.rp_model.specs.rp_codec.specs.Message.{IsVoteBelow}
use Rattle.rp_model.specs.rp_codec.specs.declared.usual_texts.Header.{Header}
use Rattle.rp_rules.proofs.Answering.{IsPromise, promised, may_report}
use Rattle.rp_rules.proofs.acceptor.on_prepare.Goals as goal

pub returns-in-Promise-clause-may : goal.returns-in-Promise-clause-may
returns-in-Promise-clause-may g c =
    let h = c.args.server.now in
    let stated : IsPromise h.records c.args.position c.args.ballot c.in-Promise.last c.in-Promise.rec =
    promised h.records c.args.position c.args.ballot c.in-Promise.last c.in-Promise.rec c.in-Promise.ensures.answer in
    subst (λ (p : Header). (p.from ≡ h.me) × (p.position ≤ h.config.max_positions) × IfSome c.in-Promise.last (IsVoteBelow p.ballot)) (sym c.header_to.ensures)
    (refl, c.requires.place, may_report h.records c.args.position c.args.ballot c.in-Promise.last c.has_right_records.ensures stated.stated stated.above)
