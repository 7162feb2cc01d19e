-- Bodies as a text says them.
use Rattle.std.specs.Prelude.{List, [], ◌∷◌, Option, Vec, map, option_map}
use Rattle.std.specs.declared.alloc.Global.{Global}
use Rattle.rp_body.specs.declared.statement.Stmt.{Stmt}
use Rattle.rp_body.specs.declared.statement.Stmt.TheOpen.{Stmt-F}
use Rattle.rp_body.specs.declared.statement.Stmt.TheFolds.{fold-Stmt}
use Rattle.rp_deck_bodies.specs.declared.statements.OpenIf.{OpenIf}
use Rattle.rp_deck_bodies.specs.declared.statements.BodyDraft.{BodyDraft}
use Rattle.rp_deck_bodies.specs.Bodies.{BodyText, Empty, Set, Put, Out, If, OpenIfText}
use Rattle.rp_deck_bodies.specs.Bodies.{OpenBodyText}
use Rattle.rp_deck_bodies.specs.ExpressionViews.{expr_text, cond_text}

-- some statements after others, where each one is given as what it adds
abbrev pub with_statements : List (BodyText → BodyText) → BodyText → BodyText
with_statements [] before = before
with_statements (statement ∷ rest) before = with_statements rest (statement before)

-- what one statement adds, where each statement in it is given as what it adds itself
abbrev pub added_by : Stmt-F (BodyText → BodyText) → BodyText → BodyText
added_by (Stmt-F.Set name expr) before = Set before name (expr_text expr)
added_by (Stmt-F.Put name cond) before = Put before name (cond_text cond)
added_by (Stmt-F.Out expr) before = Out before (expr_text expr)
added_by (Stmt-F.If cond first second) before =
    If before (cond_text cond) (with_statements first.items Empty) (with_statements second.items Empty)

-- a statement after others
abbrev pub and_then : Stmt → BodyText → BodyText
and_then = fold-Stmt (BodyText → BodyText) added_by

abbrev pub body_text : List Stmt → BodyText
body_text body = with_statements (map and_then body) Empty

-- the statements before an `else`, where there was one
abbrev pub part_text : Option (Vec Stmt Global) → Option BodyText
part_text part = option_map (λ body. body_text body.items) part

abbrev pub if_text : OpenIf → OpenIfText
if_text i = record {
  condition = cond_text i.cond;
  before = body_text i.before.items;
  first = part_text i.first;
}

-- the open `if`s, the innermost first
abbrev pub within : List OpenIf → List OpenIfText → List OpenIfText
within [] outer = outer
within (i ∷ inner) outer = within inner (if_text i ∷ outer)

abbrev pub body_draft_text : BodyDraft → OpenBodyText
body_draft_text b = record {
  ifs = within b.ifs.items [];
  statements = body_text b.statements.items;
  left = b.left;
}
