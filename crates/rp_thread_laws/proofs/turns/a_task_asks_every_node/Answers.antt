-- The turn of that remainder.
use Rattle.std.proofs.Common.{◌≡◌, ℕ, ◌+◌, ◌-◌, ◌*◌, ◌/◌, ◌%◌, nat_eq, Option, Some, None, ap, ◌∙◌, arith}
use Rattle.std.specs.Prelude.{if◌then◌else◌}
use Rattle.std.proofs.Math.Nat.{mul-div_cancel_left, mul-mod_right}
use Rattle.rp_threads.specs.rp_model.specs.Tasks.{TaskInput, Again}
use Rattle.rp_threads.specs.Loops.{node_at}
use Rattle.rp_thread_laws.proofs.Rotating.{reached, rest_of}
use Rattle.rp_thread_laws.proofs.turns.a_task_asks_every_node.Goals as goal

asked : (rest round nodes node : ℕ) → rest ≡ 0 → node_at nodes round ≡ node → ◌≡◌ {A = Option TaskInput} (if nat_eq rest 0 then Some (Again (node_at nodes round)) else None) (Some (Again node))
asked rest round nodes node is at = ap (λ k. if nat_eq k 0 then Some (Again (node_at nodes round)) else None) is ∙ ap (λ k. Some (Again k)) at

pub returns-clause-gets : goal.returns-clause-gets
returns-clause-gets c = λ nodes first node is.
    let at = reached nodes (node - 1) first (omega (arith, is.0, is.1)) (omega (arith, is.0, is.1)) in
    let rest = rest_of nodes at.round (node - 1) (omega (arith, is.0, is.1)) in
    (nodes * at.round + (node - 1), at.after, at.before, omega (arith, rest, is.0))

pub returns-clause-asks : goal.returns-clause-asks
returns-clause-asks c = λ nodes first node made calls is.
    let at = reached (16 * nodes) (16 * (node - 1)) first (omega (arith, is.0, is.1)) (omega (arith, is.0, is.1)) in
    let turn = 16 * nodes * at.round + 16 * (node - 1) in
    let whole : turn ≡ 16 * (nodes * at.round + (node - 1)) = grind arith in
    let rest : turn % 16 ≡ 0 = ap (λ k. k % 16) whole ∙ mul-mod_right 16 (nodes * at.round + (node - 1)) in
    let round : turn / 16 ≡ nodes * at.round + (node - 1) = ap (λ k. k / 16) whole ∙ mul-div_cancel_left (nodes * at.round + (node - 1)) (omega arith) in
    let place = ap (λ k. k % nodes) round ∙ (rest_of nodes at.round (node - 1) (omega (arith, is.0, is.1))) in
    (turn, at.after, at.before, asked (turn % 16) (turn / 16) nodes node rest (omega (arith, place, is.0)))
