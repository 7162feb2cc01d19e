use Rattle.std.proofs.Common.{◌≡◌, List, [], ◌∷◌, ◌++◌, Some, ap, sym, ◌∙◌, rules}
use Rattle.std.specs.Prelude.{Vec}
use Rattle.std.specs.declared.alloc.Global.{Global}
use Rattle.rp_body.specs.declared.statement.Stmt.{Stmt}
use Rattle.rp_deck_bodies.specs.declared.statements.OpenIf.{OpenIf}
use Rattle.rp_deck_bodies.specs.Bodies.{Empty}
use Rattle.rp_deck_bodies.specs.BodyViews.{body_text, body_draft_text, if_text, within}
use Rattle.rp_deck_bodies.proofs.BodyLemmas.{innermost_is, turned_is}
use Rattle.std.proofs.Common.{refl, subst}
use Rattle.rp_deck_bodies.specs.BodyLimits.{KeepsBody}
use Rattle.rp_deck_bodies.proofs.LimitsLemmas.{turns_at}
use Rattle.rp_deck_bodies.proofs.statements.BodyDraft.turn.Goals as goal

pub returns-in_ok-push-clause-text : goal.returns-in_ok-push-clause-text
returns-in_ok-push-clause-text c =
    let old = c.args.self.now in
    let rest = c.pop.new.self.items in
    let popped : old.ifs.items ≡ rest ++ c.in-Some.innermost ∷ [] = search rules in
    let was = turned_is (body_draft_text old) (if_text c.in-Some.innermost) (within rest []) (innermost_is rest old.ifs.items c.in-Some.innermost popped) in
    let turned_if : OpenIf = record c.in-Some.innermost { first = Some c.replace-first.result } in
    let none : c.replace-first.new.dest.items ≡ [] = search rules in
    let ifs = innermost_is rest c.push.new.self.items turned_if c.in_ok-push.ensures.items
    ∙ ap (λ (v : Vec Stmt Global). record (if_text c.in-Some.innermost) { first = Some (body_text v.items) } ∷ within rest []) c.replace-first.ensures.value in
    let now : body_draft_text (record { ifs = c.push.new.self; statements = c.replace-first.new.dest; left = old.left })
    ≡ record (body_draft_text old) { ifs = record (if_text c.in-Some.innermost) { first = Some (body_draft_text old).statements } ∷ within rest []; statements = Empty } =
    λ i. record { ifs = ifs i; statements = body_text (none i); left = old.left } in
    now ∙ sym was

pub returns-in_ok-push-clause-limits : goal.returns-in_ok-push-clause-limits
returns-in_ok-push-clause-limits c =
    let old = c.args.self.now in
    let rest = c.pop.new.self.items in
    let innermost : OpenIf = c.in-Some.innermost in
    let popped : old.ifs.items ≡ rest ++ innermost ∷ [] = search rules in
    let turned_if : OpenIf = record innermost { first = Some c.replace-first.result } in
    let none : c.replace-first.new.dest.items ≡ [] = search rules in
    λ declared k. subst (λ (l : List Stmt). KeepsBody declared 0 c.push.new.self.items l old.left) (sym none)
    (turns_at declared rest c.push.new.self.items old.statements.items old.left innermost turned_if c.replace-first.result
    (subst (λ (l : List OpenIf). KeepsBody declared 0 l old.statements.items old.left) popped k) c.in_ok-push.ensures.items refl refl refl
    (ap (λ (v : Vec Stmt Global). v.items) c.replace-first.ensures.value))
