-- The text of statements.
use Rattle.std.specs.Prelude.{ℕ, ◌+◌, min, nat_lt, List, [], ◌∷◌, ◌++◌, codes, map}
use Rattle.rp_deck_declarations.specs.rp_body.specs.declared.expression.Cond.{Cond}
use Rattle.rp_deck_declarations.specs.rp_body.specs.declared.expression.Expr.{Expr}
use Rattle.rp_deck_declarations.specs.rp_body.specs.declared.statement.Stmt.{Stmt}
use Rattle.rp_deck_declarations.specs.rp_body.specs.declared.statement.Stmt.TheOpen.{Stmt-F}
use Rattle.rp_deck_declarations.specs.rp_body.specs.declared.statement.Stmt.TheFolds.{fold-Stmt}
use Rattle.rp_bind_local.specs.Numbered.{each_below}
use Rattle.rp_bind_local.specs.Expressions.{Within, bool_text, cond_text, expr_text, int_text, margin_of}

-- the blanks before a statement that is within this many others
abbrev pub blanks : ℕ → List ℕ
blanks depth = each_below (λ _. codes "   ") depth

abbrev pub indent : ℕ → List ℕ
indent depth = codes "         " ++ blanks depth

-- a text of a statement, by how many others it is within
abbrev pub Text : Type 0
Text = ℕ → List ℕ

abbrev pub joined : List Text → Text
joined [] depth = []
joined (text ∷ rest) depth = text depth ++ joined rest depth

-- one deeper; a body is at most 8 deep
abbrev pub deeper : ℕ → ℕ
deeper depth = min (depth + 1) 255

-- what runs if a condition holds, and what if not
abbrev pub then_joined : List Text → Text
then_joined [] depth = indent depth ++ codes "   null;\n"
then_joined (text ∷ rest) depth = joined (text ∷ rest) (deeper depth)

abbrev pub else_joined : List Text → Text
else_joined [] depth = []
else_joined (text ∷ rest) depth =
    indent depth ++ (codes "else\n" ++ joined (text ∷ rest) (deeper depth))

abbrev pub test_text : Within → Cond → Text
test_text scope cond depth =
    codes "if " ++ (cond_text scope cond ++ (codes "\n" ++ (indent depth ++ codes "then\n")))

-- the scope of a statement that is within this many others
abbrev pub scope_at : Within → ℕ → Within
scope_at scope depth = record scope { is_inner = nat_lt 0 depth }

-- the assignments
abbrev pub set_text : Within → ℕ → Expr → List ℕ
set_text scope name expr =
    int_text scope name ++ (codes " :=" ++ (margin_of scope ++ (expr_text scope expr ++ codes ";\n")))

abbrev pub put_text : Within → ℕ → Cond → List ℕ
put_text scope name cond =
    bool_text scope name ++ (codes " :=" ++ (margin_of scope ++ (cond_text scope cond ++ codes ";\n")))

abbrev pub out_text : Within → Expr → List ℕ
out_text scope expr =
    codes "Result := Value_Of_This_Deck"
    ++ (margin_of scope ++ (codes "(" ++ (expr_text scope expr ++ codes ");\n")))

-- a statement without its blanks, where each statement inside an `if` is given as its text
abbrev pub statement_step : Within → Stmt-F Text → Text
statement_step scope (Stmt-F.Set name expr) depth = set_text (scope_at scope depth) name expr
statement_step scope (Stmt-F.Put name cond) depth = put_text (scope_at scope depth) name cond
statement_step scope (Stmt-F.Out expr) depth = out_text (scope_at scope depth) expr
statement_step scope (Stmt-F.If cond first second) depth =
    test_text (scope_at scope depth) cond depth
    ++ (then_joined first.items depth
    ++ (else_joined second.items depth ++ (indent depth ++ codes "end if;\n")))

abbrev pub indented_step : Within → Stmt-F Text → Text
indented_step scope statement depth = indent depth ++ statement_step scope statement depth

abbrev pub statement_text : Within → Stmt → Text
statement_text scope = fold-Stmt Text (indented_step scope)

abbrev pub statements_text : Within → List Stmt → Text
statements_text scope statements = joined (map (statement_text scope) statements)

abbrev pub then_text : Within → List Stmt → Text
then_text scope statements = then_joined (map (statement_text scope) statements)

abbrev pub else_text : Within → List Stmt → Text
else_text scope statements = else_joined (map (statement_text scope) statements)
