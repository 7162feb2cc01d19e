use Rattle.std.proofs.Common.{◌≡◌, List, [], ◌∷◌, ◌++◌, ap, sym, ◌∙◌, rules}
use Rattle.std.specs.Prelude.{Vec}
use Rattle.std.specs.declared.alloc.Global.{Global}
use Rattle.rp_body.specs.declared.statement.Stmt.{Stmt}
use Rattle.rp_deck_bodies.specs.declared.statements.OpenIf.{OpenIf}
use Rattle.rp_deck_bodies.specs.Bodies.{If, first_part, second_part}
use Rattle.rp_deck_bodies.specs.ExpressionViews.{cond_text}
use Rattle.rp_deck_bodies.specs.BodyViews.{body_text, and_then, part_text, body_draft_text, if_text, within}
use Rattle.rp_deck_bodies.proofs.BodyLemmas.{innermost_is, closed_is, some_open}
use Rattle.std.proofs.Common.{ℕ, ◌+◌, max, subst}
use Rattle.std.specs.Prelude.{IsTrue}
use Rattle.rp_body.specs.Check.{statement_count, depth_of, body_fits, stmt_count, stmt_depth}
use Rattle.rp_deck_bodies.specs.BodyLimits.{KeepsBody, part_count, part_depth}
use Rattle.rp_deck_bodies.proofs.LimitsLemmas.{closes}
use Rattle.rp_deck_bodies.proofs.statements.BodyDraft.close.Goals as goal

pub returns-clause-text : goal.returns-clause-text
returns-clause-text c =
    let old = c.args.self.now in
    let rest = c.pop.new.self.items in
    let last : OpenIf = c.in-Some.field-0 in
    let popped : old.ifs.items ≡ rest ++ last ∷ [] = search rules in
    let was = closed_is (body_draft_text old) (if_text last) (within rest []) (innermost_is rest old.ifs.items last popped) in
    let made = λ (v : Vec Stmt Global). If (body_text last.before.items) (cond_text last.cond) (first_part (part_text last.first) (body_text v.items)) (second_part (part_text last.first) (body_text v.items)) in
    let statements = ap (λ (v : Vec Stmt Global). and_then c.if_statement.result (body_text v.items)) c.replace-last.ensures.after
    ∙ c.if_statement.ensures.text (body_text last.before.items) ∙ ap made c.replace-last.ensures.value in
    c.in_ok-add.ensures.text ∙ (λ i. record { ifs = within rest []; statements = statements i; left = old.left }) ∙ sym was

pub returns-clause-ends : goal.returns-clause-ends
returns-clause-ends c =
    let old = c.args.self.now in
    let rest = c.pop.new.self.items in
    let last : OpenIf = c.in-Some.field-0 in
    let popped : old.ifs.items ≡ rest ++ last ∷ [] = search rules in
    sym (some_open last rest old.ifs.items popped)

pub returns-clause-limits : goal.returns-clause-limits
returns-clause-limits c =
    let old = c.args.self.now in
    let rest = c.pop.new.self.items in
    let last : OpenIf = c.in-Some.field-0 in
    let s = c.if_statement.result in
    let popped : old.ifs.items ≡ rest ++ last ∷ [] = search rules in
    let same : c.replace-last.result ≡ old.statements = c.replace-last.ensures.value in
    let items = c.in_ok-add.ensures.items ∙ ap (λ (v : Vec Stmt Global). v.items ++ s ∷ []) c.replace-last.ensures.after in
    let count : stmt_count s ≡ 1 + part_count last.first + statement_count old.statements.items = c.if_statement.ensures.count ∙ ap (λ (v : Vec Stmt Global). 1 + part_count last.first + statement_count v.items) same in
    let depth : stmt_depth s ≡ 1 + max (part_depth last.first) (depth_of old.statements.items) = c.if_statement.ensures.depth ∙ ap (λ (v : Vec Stmt Global). 1 + max (part_depth last.first) (depth_of v.items)) same in
    λ declared k. subst (λ (v : Vec OpenIf Global). KeepsBody declared 0 v.items c.add.new.self.statements.items c.add.new.self.left) (sym c.in_ok-add.ensures.same.0)
    (subst (λ (n : ℕ). KeepsBody declared 0 rest c.add.new.self.statements.items n) (sym c.in_ok-add.ensures.same.1)
    (closes declared rest old.statements.items c.add.new.self.statements.items old.left last s
    (subst (λ (l : List OpenIf). KeepsBody declared 0 l old.statements.items old.left) popped k) items count depth
    (λ limits cond first fit. c.if_statement.ensures.fits limits cond first (subst (λ (v : Vec Stmt Global). IsTrue (body_fits limits v.items)) (sym same) fit))))
