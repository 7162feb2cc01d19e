-- Which bodies keep the limits of the language.
use Rattle.std.specs.Prelude.{ℕ, ◌+◌, ◌≤◌, max, nat_lt, nat_le, Bool, true, ◌&&◌, IsTrue, List, map}
use Rattle.std.specs.Prelude.{sum}
use Rattle.std.specs.List.{list_all}
use Rattle.rp_base.specs.Number.{greatest}
use Rattle.rp_body.specs.declared.components.Limits.{Limits}
use Rattle.rp_body.specs.declared.expression.Expr.{Expr}
use Rattle.rp_body.specs.declared.expression.Expr.TheVariants.{Number, Arg, Out, Int, Add', Sub'}
use Rattle.rp_body.specs.declared.expression.Cond.{Cond}
use Rattle.rp_body.specs.declared.expression.Cond.TheVariants.{Constant, Bool as Named, Less}
use Rattle.rp_body.specs.declared.expression.Cond.TheVariants.{LessOrEqual, Equal, Not', And', Or'}
use Rattle.rp_body.specs.declared.statement.Stmt.{Stmt}
use Rattle.rp_body.specs.declared.statement.Stmt.TheOpen.{Stmt-F}
use Rattle.rp_body.specs.declared.statement.Stmt.TheFolds.{fold-Stmt}

-- the nodes of an expression
abbrev pub expr_nodes : Expr → ℕ
expr_nodes (Number n) = 1
expr_nodes Arg = 1
expr_nodes Out = 1
expr_nodes (Int name) = 1
expr_nodes (Add' p a q b) = 1 + expr_nodes a + expr_nodes b
expr_nodes (Sub' p a q b) = 1 + expr_nodes a + expr_nodes b

-- the nodes of a condition, those of its expressions too
abbrev pub cond_nodes : Cond → ℕ
cond_nodes (Constant b) = 1
cond_nodes (Named name) = 1
cond_nodes (Less a b) = 1 + expr_nodes a + expr_nodes b
cond_nodes (LessOrEqual a b) = 1 + expr_nodes a + expr_nodes b
cond_nodes (Equal a b) = 1 + expr_nodes a + expr_nodes b
cond_nodes (Not' p c) = 1 + cond_nodes c
cond_nodes (And' p c q d) = 1 + cond_nodes c + cond_nodes d
cond_nodes (Or' p c q d) = 1 + cond_nodes c + cond_nodes d

-- the expression names only components that are counted
abbrev pub expr_names : Limits → Expr → Bool
expr_names limits (Number n) = true
expr_names limits Arg = true
expr_names limits Out = true
expr_names limits (Int name) = nat_lt name limits.ints
expr_names limits (Add' p a q b) = expr_names limits a && expr_names limits b
expr_names limits (Sub' p a q b) = expr_names limits a && expr_names limits b

-- the condition names only components that are counted
abbrev pub cond_names : Limits → Cond → Bool
cond_names limits (Constant b) = true
cond_names limits (Named name) = nat_lt name limits.bools
cond_names limits (Less a b) = expr_names limits a && expr_names limits b
cond_names limits (LessOrEqual a b) = expr_names limits a && expr_names limits b
cond_names limits (Equal a b) = expr_names limits a && expr_names limits b
cond_names limits (Not' p c) = cond_names limits c
cond_names limits (And' p c q d) = cond_names limits c && cond_names limits d
cond_names limits (Or' p c q d) = cond_names limits c && cond_names limits d

-- the expression has at most 32 nodes and names only components that are counted
abbrev pub expr_fits : Limits → Expr → Bool
expr_fits limits expr = nat_le (expr_nodes expr) 32 && expr_names limits expr

-- the condition has at most 32 nodes and names only components that are counted
abbrev pub cond_fits : Limits → Cond → Bool
cond_fits limits cond = nat_le (cond_nodes cond) 32 && cond_names limits cond

-- the statements of one statement, where each one inside it is given as its own number
abbrev pub count_step : Stmt-F ℕ → ℕ
count_step (Stmt-F.Set name expr) = 1
count_step (Stmt-F.Put name cond) = 1
count_step (Stmt-F.Out expr) = 1
count_step (Stmt-F.If cond first second) = 1 + sum first.items + sum second.items

-- the statements of one statement: itself and those inside it
abbrev pub stmt_count : Stmt → ℕ
stmt_count = fold-Stmt ℕ count_step

-- the number of statements in a body, those inside an `if` too
abbrev pub statement_count : List Stmt → ℕ
statement_count body = sum (map stmt_count body)

-- how deep one statement is, where each one inside it is given as its own depth
abbrev pub depth_step : Stmt-F ℕ → ℕ
depth_step (Stmt-F.Set name expr) = 1
depth_step (Stmt-F.Put name cond) = 1
depth_step (Stmt-F.Out expr) = 1
depth_step (Stmt-F.If cond first second) = 1 + max (greatest first.items) (greatest second.items)

-- how deep a statement is
abbrev pub stmt_depth : Stmt → ℕ
stmt_depth = fold-Stmt ℕ depth_step

-- the depth of a body: that of its statements is 1, and an `if` adds one
abbrev pub depth_of : List Stmt → ℕ
depth_of body = greatest (map stmt_depth body)

-- each of them holds
abbrev pub all_hold : List Bool → Bool
all_hold = list_all (λ holds. holds)

-- whether one statement fits, where each one inside it is given as whether it fits itself
abbrev pub fits_step : Limits → Stmt-F Bool → Bool
fits_step limits (Stmt-F.Set name expr) = nat_lt name limits.ints && expr_fits limits expr
fits_step limits (Stmt-F.Put name cond) = nat_lt name limits.bools && cond_fits limits cond
fits_step limits (Stmt-F.Out expr) = expr_fits limits expr
fits_step limits (Stmt-F.If cond first second) =
    cond_fits limits cond && all_hold first.items && all_hold second.items

-- the expressions and conditions of a statement fit, and it names only components that are counted
abbrev pub stmt_fits : Limits → Stmt → Bool
stmt_fits limits = fold-Stmt Bool (fits_step limits)

-- the same of each statement of a body
abbrev pub body_fits : Limits → List Stmt → Bool
body_fits limits body = all_hold (map (stmt_fits limits) body)

-- at most 64 statements, at most 8 deep, each expression and condition of at most 32 nodes, and
-- each name counted
pub record KeepsLimits (limits : Limits) (body : List Stmt) : Type 0 where
  pub count : statement_count body ≤ 64
  pub depth : depth_of body ≤ 8
  pub fits : IsTrue (body_fits limits body)
