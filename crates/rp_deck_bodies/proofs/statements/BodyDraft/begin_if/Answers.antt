use Rattle.std.proofs.Common.{◌≡◌, List, [], ◌∷◌, ◌∙◌, ap, None, rules}
use Rattle.std.specs.Prelude.{Vec}
use Rattle.std.specs.declared.alloc.Global.{Global}
use Rattle.rp_body.specs.declared.statement.Stmt.{Stmt}
use Rattle.rp_deck_bodies.specs.declared.statements.OpenIf.{OpenIf}
use Rattle.rp_deck_bodies.specs.ExpressionViews.{cond_text}
use Rattle.rp_deck_bodies.specs.BodyViews.{body_text, within}
use Rattle.rp_deck_bodies.proofs.BodyLemmas.{innermost_is}
use Rattle.std.proofs.Common.{refl, subst, sym}
use Rattle.rp_deck_bodies.specs.BodyLimits.{KeepsBody}
use Rattle.rp_deck_bodies.proofs.LimitsLemmas.{begins}
use Rattle.rp_deck_bodies.proofs.statements.BodyDraft.begin_if.Goals as goal

pub returns-clause-text : goal.returns-clause-text
returns-clause-text c =
    let old = c.args.self.now in
    let open_if : OpenIf = record { cond = c.args.cond; before = c.replace-before.result; first = None } in
    let none : c.replace-before.new.dest.items ≡ [] = search rules in
    let ifs = innermost_is old.ifs.items c.push.new.self.items open_if c.in_ok-push.ensures.items
    ∙ ap (λ (v : Vec Stmt Global). record { condition = cond_text c.args.cond; before = body_text v.items; first = None } ∷ within old.ifs.items []) c.replace-before.ensures.value in
    λ i. record { ifs = ifs i; statements = body_text (none i); left = old.left }

pub returns-clause-limits : goal.returns-clause-limits
returns-clause-limits c =
    let old = c.args.self.now in
    let open_if : OpenIf = record { cond = c.args.cond; before = c.replace-before.result; first = None } in
    let none : c.replace-before.new.dest.items ≡ [] = search rules in
    λ declared k cond. subst (λ (l : List Stmt). KeepsBody declared 0 c.push.new.self.items l old.left) (sym none)
    (begins declared old.ifs.items c.push.new.self.items old.statements.items old.left open_if k c.in_ok-push.ensures.items
    (ap (λ (v : Vec Stmt Global). v.items) c.replace-before.ensures.value) refl cond)
