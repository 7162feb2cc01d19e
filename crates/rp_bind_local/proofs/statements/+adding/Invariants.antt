use Rattle.std.proofs.Common.{◌≡◌, ◌++◌, drop, string_bytes}
use Rattle.rp_bind_local.specs.Expressions.{within}
use Rattle.rp_bind_local.specs.Statements.{statements_text}
use Rattle.rp_bind_local.proofs.statements.+adding.Given as goal

-- the statements before this one are written, and the others are left
abbrev pub invariant-add_statements-loop-statement : goal.invariant-add_statements-loop-statement
invariant-add_statements-loop-statement l =
    string_bytes l.text ++ statements_text (within l.scope) (drop l.statement-index l.statements) l.depth
    ≡ string_bytes l.initial.text ++ statements_text (within l.scope) l.statements l.depth
