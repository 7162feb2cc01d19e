-- What is reported of a fault, with and without a hint.
use Rattle.std.proofs.Common.{◌≡◌, ℕ, Option, Result, Ok, Err, List, [], ◌++◌, true, false, is_err, sym, append-nil}
use Rattle.rp_deck_hints.specs.rp_base.specs.declared.fault.Fault.{Fault}
use Rattle.rp_bind_run.specs.rp_output.specs.Stream.{Writes}
use Rattle.rp_bind_run.specs.rp_output.proofs.Writing.{begins_longer, writes_after, writes_same}

pub nothing_after : (a b : Option (List ℕ)) (x : List ℕ) (answer : Result Unit Fault) → Writes a b x answer → Writes a b (x ++ []) answer
nothing_after a b x answer written = writes_same a b x (x ++ []) answer (sym (append-nil x)) written

pub failed_before : (a b : Option (List ℕ)) (x y : List ℕ) (answer : Result Unit Fault) → is_err answer ≡ true → Writes a b x answer → Writes a b (x ++ y) answer
failed_before a b x y (Ok done) h written = absurd cc
failed_before a b x y (Err fault) h begun = begins_longer a b x y begun

pub after_line : (a b c : Option (List ℕ)) (x y : List ℕ) (first second : Result Unit Fault) → is_err first ≡ false → Writes a b x first → Writes b c y second → Writes a c (x ++ y) second
after_line a b c x y (Ok done) second h written next = writes_after a b c x y second written next
after_line a b c x y (Err fault) second h begun next = absurd cc
