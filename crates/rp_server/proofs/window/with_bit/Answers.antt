-- The bit that is set, and the others.
use Rattle.std.proofs.Common.{◌∙◌, ℕ, nat_eq, sym, ap, w64, eq-eqb}
use Rattle.std.proofs.lemmas.Nat.Bits.{bit_at_set_same, bit_at_set_other}
use Rattle.rp_server.proofs.window.with_bit.Goals as goal

pub returns-then-is_set-clause-here : goal.returns-then-is_set-clause-here
returns-then-is_set-clause-here c = eq-eqb _ 1 (bit_at_set_same w64 c.args.bits c.args.offset c.requires.offset) ∙ sym c.if-is_set.true

pub returns-then-is_set-clause-others : goal.returns-then-is_set-clause-others
returns-then-is_set-clause-others c = λ j other. ap (λ (n : ℕ). nat_eq n 1) (bit_at_set_other w64 c.args.bits c.args.offset c.requires.offset j other)
