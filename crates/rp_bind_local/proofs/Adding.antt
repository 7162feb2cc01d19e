-- The text of a statement, part by part.
use Rattle.std.proofs.Common.{◌≡◌, ◌∙◌, ◌++◌, ℕ, List, [], ◌∷◌, Vec, Global, Result, Ok, Err, IfOk, ap, rules, sym, append_assoc}
use Rattle.std.specs.Prelude.{codes, flat_map, is_ok, if◌then◌else◌}
use Rattle.rp_deck_declarations.specs.rp_body.specs.declared.expression.Cond.{Cond}
use Rattle.rp_deck_declarations.specs.rp_body.specs.declared.expression.Expr.{Expr}
use Rattle.rp_deck_declarations.specs.rp_body.specs.declared.statement.Stmt.{Stmt}
use Rattle.rp_deck_declarations.specs.rp_body.specs.declared.statement.Stmt.TheOpen.{Stmt-F}
use Rattle.rp_deck_declarations.specs.rp_body.specs.declared.statement.Stmt.TheVariants.{Set, Put, Out, If, rolls-Set, rolls-Put, rolls-Out, rolls-If}
use Rattle.rp_deck_declarations.specs.rp_body.specs.declared.statement.Stmt.TheFolds.{fold-roll-Stmt}
use Rattle.rp_bind_local.specs.Expressions.{Within}
use Rattle.rp_bind_local.specs.Statements.{Text, else_text, indent, indented_step, out_text, put_text, scope_at, set_text, statement_text, test_text, then_text}

-- the last text is written where there is memory for it
pub pushed : {X Y : Type 0} (result : Result X Y) (text more all : List ℕ) → all ≡ (if is_ok result then text ++ more else text) → IfOk result (λ _. all ≡ text ++ more)
pushed (Ok x) text more all written = written
pushed (Err e) text more all written = tt

-- texts that are written one after another
pub after_two : (text a b : List ℕ) {one all : List ℕ} → one ≡ text ++ a → all ≡ one ++ b → all ≡ text ++ (a ++ b)
after_two text a b first second = second ∙ ap (λ (l : List ℕ). l ++ b) first ∙ append_assoc text a b

pub after_three : (text a b c : List ℕ) {one two all : List ℕ} → one ≡ text ++ a → two ≡ one ++ b → all ≡ two ++ c → all ≡ text ++ (a ++ (b ++ c))
after_three text a b c {one} first second third =
    after_two text a (b ++ c) first (after_two one b c second third)

pub after_four : (text a b c d : List ℕ) {one two three all : List ℕ} → one ≡ text ++ a → two ≡ one ++ b → three ≡ two ++ c → all ≡ three ++ d → all ≡ text ++ (a ++ (b ++ (c ++ d)))
after_four text a b c d {one} first second third fourth =
    after_two text a (b ++ (c ++ d)) first (after_three one b c d second third fourth)

pub after_five : (text a b c d e : List ℕ) {one two three four all : List ℕ} → one ≡ text ++ a → two ≡ one ++ b → three ≡ two ++ c → four ≡ three ++ d → all ≡ four ++ e → all ≡ text ++ (a ++ (b ++ (c ++ (d ++ e))))
after_five text a b c d e {one} first second third fourth fifth =
    after_two text a (b ++ (c ++ (d ++ e))) first (after_four one b c d e second third fourth fifth)

pub after_six : (text a b c d e f : List ℕ) {one two three four five all : List ℕ} → one ≡ text ++ a → two ≡ one ++ b → three ≡ two ++ c → four ≡ three ++ d → five ≡ four ++ e → all ≡ five ++ f → all ≡ text ++ (a ++ (b ++ (c ++ (d ++ (e ++ f)))))
after_six text a b c d e f {one} first second third fourth fifth sixth =
    after_two text a (b ++ (c ++ (d ++ (e ++ f)))) first (after_five one b c d e f second third fourth fifth sixth)

one_more : {X : Type 0} (f : X → List ℕ) (xs : List X) (x : X) → flat_map f (xs ++ x ∷ []) ≡ flat_map f xs ++ f x
one_more f [] x = search rules
one_more f (y ∷ ys) x = ap (λ (l : List ℕ). f y ++ l) (one_more f ys x) ∙ sym (append_assoc (f y) (flat_map f ys) (f x))

-- one more of the texts of a list
pub written_more : {X : Type 0} (xs : List X) (f : X → List ℕ) (x : X) (start before after : List ℕ) → before ≡ start ++ flat_map f xs → after ≡ before ++ f x
    → after ≡ start ++ flat_map f (xs ++ x ∷ [])
written_more xs f x start before after so_far more =
    more ∙ ap (λ (t : List ℕ). t ++ f x) so_far ∙ append_assoc start (flat_map f xs) (f x)
    ∙ ap (λ (l : List ℕ). start ++ l) (sym (one_more f xs x))

-- the text of each statement, its blanks first
pub set_lines : (scope : Within) (name : ℕ) (expr : Expr) (depth : ℕ) → statement_text scope (Set name expr) depth ≡ indent depth ++ set_text (scope_at scope depth) name expr
set_lines scope name expr depth =
    ap (λ (s : Stmt). statement_text scope s depth) (sym (rolls-Set name expr))
    ∙ ap (λ (text : Text). text depth) (fold-roll-Stmt Text (indented_step scope) (Stmt-F.Set name expr))

pub put_lines : (scope : Within) (name : ℕ) (cond : Cond) (depth : ℕ) → statement_text scope (Put name cond) depth ≡ indent depth ++ put_text (scope_at scope depth) name cond
put_lines scope name cond depth =
    ap (λ (s : Stmt). statement_text scope s depth) (sym (rolls-Put name cond))
    ∙ ap (λ (text : Text). text depth) (fold-roll-Stmt Text (indented_step scope) (Stmt-F.Put name cond))

pub out_lines : (scope : Within) (expr : Expr) (depth : ℕ) → statement_text scope (Out expr) depth ≡ indent depth ++ out_text (scope_at scope depth) expr
out_lines scope expr depth =
    ap (λ (s : Stmt). statement_text scope s depth) (sym (rolls-Out expr))
    ∙ ap (λ (text : Text). text depth) (fold-roll-Stmt Text (indented_step scope) (Stmt-F.Out expr))

pub if_lines : (scope : Within) (test : Cond) (first second : Vec Stmt Global) (depth : ℕ) → statement_text scope (If test first second) depth ≡ indent depth ++ (test_text (scope_at scope depth) test depth ++ (then_text scope first.items depth ++ (else_text scope second.items depth ++ (indent depth ++ codes "end if;\n"))))
if_lines scope test first second depth =
    ap (λ (s : Stmt). statement_text scope s depth) (sym (rolls-If test first second))
    ∙ ap (λ (text : Text). text depth) (fold-roll-Stmt Text (indented_step scope) (Stmt-F.If test first second))
