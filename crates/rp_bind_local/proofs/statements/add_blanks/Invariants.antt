use Rattle.std.proofs.Common.{◌≡◌, ◌++◌, string_bytes}
use Rattle.rp_bind_local.specs.Statements.{blanks}
use Rattle.rp_bind_local.proofs.statements.add_blanks.Given as goal

-- the blanks before these are written
abbrev pub invariant-loop-number : goal.invariant-loop-number
invariant-loop-number l =
    string_bytes l.text ≡ string_bytes l.initial.text ++ blanks l.number
