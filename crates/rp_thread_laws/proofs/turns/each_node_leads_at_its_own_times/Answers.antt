-- The turn of remainder 0.
use Rattle.std.proofs.Common.{◌+◌, ◌*◌, nat_eq, ap, ◌∙◌, arith}
use Rattle.std.proofs.lemmas.Bool.{ne_eqb}
use Rattle.std.proofs.Math.Nat.{mod-eq_of_lt, mod_self}
use Rattle.rp_thread_laws.proofs.Rotating.{reached, rest_of}
use Rattle.rp_thread_laws.proofs.turns.each_node_leads_at_its_own_times.Goals as goal

pub returns-clause-leads : goal.returns-clause-leads
returns-clause-leads c = λ number first.
    let at = reached (8 + number) 0 first (omega arith) (omega arith) in
    ((8 + number) * at.round + 0, at.after, at.before, ap (λ k. nat_eq k 0) (rest_of (8 + number) at.round 0 (omega arith)))

pub returns-clause-apart : goal.returns-clause-apart
returns-clause-apart c = λ one other less. (
  ap (λ k. nat_eq k 0) (mod_self (8 + one)),
  ap (λ k. nat_eq k 0) (mod-eq_of_lt (omega (arith, less))) ∙ ne_eqb (8 + one) 0 (λ e. omega (arith, e)),
)
