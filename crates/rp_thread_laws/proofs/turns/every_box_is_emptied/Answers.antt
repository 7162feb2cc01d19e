-- The turn of that remainder.
use Rattle.std.proofs.Common.{◌≡◌, ℕ, ◌+◌, ◌-◌, ◌*◌, ◌/◌, ◌%◌, ◌≤◌, Bool, ap, ◌∙◌, arith}
use Rattle.std.specs.Prelude.{if◌then◌else◌}
use Rattle.std.proofs.lemmas.Bool.{ne_eqb}
use Rattle.std.proofs.Math.Nat.{mul-div_cancel_left, mul-mod_right}
use Rattle.rp_threads.specs.rp_codec.specs.declared.packet.Party.TheVariants.{Node, Task}
use Rattle.rp_threads.specs.Loops.{sender_of}
use Rattle.rp_thread_laws.proofs.Rotating.{reached, rest_of, rounds, product_below}
use Rattle.rp_thread_laws.proofs.turns.every_box_is_emptied.Goals as goal

at_node : (place round node : ℕ) → place ≡ node → 1 ≤ node → sender_of place round ≡ Node node
at_node place round node is from =
    ap (λ k. sender_of k round) is
    ∙ ap (λ (b : Bool). if b then Task (round % 8 + 1) else Node node) (ne_eqb node 0 (λ e. omega (arith, e, from)))

at_task : (place round task : ℕ) → place ≡ 0 → round % 8 + 1 ≡ task → sender_of place round ≡ Task task
at_task place round task is rest = ap (λ k. sender_of k round) is ∙ ap Task rest

pub returns-clause-nodes : goal.returns-clause-nodes
returns-clause-nodes c = λ nodes first node is.
    let at = reached (nodes + 1) node first (omega arith) (omega (arith, is.1)) in
    let turn = (nodes + 1) * at.round + node in
    (turn, at.after, at.before, at_node (turn % (nodes + 1)) (turn / (nodes + 1)) node (rest_of (nodes + 1) at.round node (omega (arith, is.1))) is.0)

pub returns-clause-tasks : goal.returns-clause-tasks
returns-clause-tasks c = λ nodes first task is.
    let m = nodes + 1 in
    let at = reached (8 * m) (m * (task - 1)) first (omega arith) (product_below 8 m (task - 1) (omega arith) (omega (arith, is.0, is.1))) in
    let turn = 8 * m * at.round + m * (task - 1) in
    let whole : turn ≡ m * (8 * at.round + (task - 1)) = rounds 8 m at.round (task - 1) in
    let place : turn % m ≡ 0 = ap (λ k. k % m) whole ∙ mul-mod_right m (8 * at.round + (task - 1)) in
    let round : turn / m ≡ 8 * at.round + (task - 1) = ap (λ k. k / m) whole ∙ mul-div_cancel_left (8 * at.round + (task - 1)) (omega arith) in
    let rest : turn / m % 8 ≡ task - 1 = ap (λ k. k % 8) round ∙ rest_of 8 at.round (task - 1) (omega (arith, is.0, is.1)) in
    (turn, at.after, at.before, at_task (turn % m) (turn / m) task place (omega (arith, rest, is.0)))
