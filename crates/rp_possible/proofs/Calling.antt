-- One call after another: it is made, a node leads, the nodes promise and vote, and the reply is delivered.
use Rattle.std.proofs.Common.{◌≡◌, ℕ, ◌+◌, ◌-◌, ◌*◌, ℤ, true, None, List, [], ◌∷◌, ◌++◌, length, map, arith}
use Rattle.std.specs.Prelude.{◌%◌, FitsSigned}
use Rattle.std.specs.Int.{w64}
use Rattle.std.specs.List.{list_all}
use Rattle.std.proofs.lemmas.Bool.{and_parts, leb-true}
use Rattle.rp_base.specs.Majority.{majority_of}
use Rattle.rp_base.specs.Number.{IsNode, IsTask, in_range}
use Rattle.rp_base.specs.declared.action.Operation.TheVariants.{Procedure}
use Rattle.rp_model.specs.rp_machine.specs.Replay.{one_to}
use Rattle.rp_model.specs.Events.{Event, Submit, Makes, Stop, Deliver, Lead}
use Rattle.rp_possible.proofs.Playing.{AllRight, right_on, deliveries, right_deliveries}

-- the node k places after this one, in a circle
abbrev pub place_after : ℕ → ℕ → ℕ → ℕ
place_after nodes node k = (node - 1 + k) % nodes + 1

-- a bare majority in the circle, from this node on, and the others
abbrev pub present : ℕ → ℕ → List ℕ
present nodes node = map (λ k. place_after nodes node (k - 1)) (one_to (majority_of nodes))

abbrev pub away : ℕ → ℕ → List ℕ
away nodes node = map (λ k. place_after nodes node (majority_of nodes + k - 1)) (one_to (nodes - majority_of nodes))

-- the packets after this many others: those to these nodes, of one to each, and n in a row
abbrev pub to_each : ℕ → List ℕ → List Event
to_each sent voters = deliveries (map (λ k. sent + k) voters)

abbrev pub in_row : ℕ → ℕ → List Event
in_row sent n = to_each sent (one_to n)

-- The node leads, and these nodes promise and vote, where n nodes are asked and so many packets were sent; it learns the
-- action.
abbrev pub deciding : ℕ → ℕ → List ℕ → ℕ → List Event
deciding nodes leader voters sent =
    let m = length voters in
    Makes (Lead leader None)
    ∷ (to_each sent voters ++ (in_row (sent + nodes) m ++ (to_each (sent + nodes + m) voters ++ in_row (sent + 2 * nodes + m) m)))

-- how many packets were sent when it has told the other nodes
abbrev pub told : ℕ → List ℕ → ℕ → ℕ
told nodes voters sent = sent + 3 * nodes + 2 * length voters - 1

-- A task calls a node, which leads, and the task gets the reply.
abbrev pub calling : ℕ → ℕ → List ℕ → ℕ → ℤ → ℕ → List Event
calling nodes leader voters task arg sent =
    Submit task leader 1 (Procedure 1) arg
    ∷ Makes (Deliver (sent + 1))
    ∷ (deciding nodes leader voters (sent + 1) ++ Makes (Deliver (told nodes voters (sent + 1) + 1)) ∷ [])

-- ---- right events

right_to_each : (sent : ℕ) (voters : List ℕ) → AllRight (to_each sent voters)
right_to_each sent voters = right_deliveries (map (λ k. sent + k) voters)

pub right_deciding : (nodes leader : ℕ) (voters : List ℕ) (sent : ℕ) → IsNode leader → AllRight (deciding nodes leader voters sent)
right_deciding nodes leader voters sent is_node =
    let m = length voters in
    let votes = right_on (to_each (sent + nodes + m) voters) (in_row (sent + 2 * nodes + m) m) (right_to_each (sent + nodes + m) voters) (right_to_each (sent + 2 * nodes + m) (one_to m)) in
    let promises = right_on (in_row (sent + nodes) m) (to_each (sent + nodes + m) voters ++ in_row (sent + 2 * nodes + m) m) (right_to_each (sent + nodes) (one_to m)) votes in
    let asked = right_on (to_each sent voters) (in_row (sent + nodes) m ++ (to_each (sent + nodes + m) voters ++ in_row (sent + 2 * nodes + m) m)) (right_to_each sent voters) promises in
    ((is_node, tt), asked)

pub right_calling : (nodes leader : ℕ) (voters : List ℕ) (task : ℕ) (arg : ℤ) (sent : ℕ) → IsNode leader → IsTask task → FitsSigned w64 arg
    → AllRight (calling nodes leader voters task arg sent)
right_calling nodes leader voters task arg sent is_node is_task fits =
    let decided = right_on (deciding nodes leader voters (sent + 1)) (Makes (Deliver (told nodes voters (sent + 1) + 1)) ∷ []) (right_deciding nodes leader voters (sent + 1) is_node) (tt, tt) in
    ((is_task, is_node, omega arith, omega arith, fits), (tt, decided))

pub right_stops : (absent : List ℕ) → list_all (in_range 1 7) absent ≡ true → AllRight (map Stop absent)
right_stops [] all = tt
right_stops (node ∷ rest) all =
    let both = and_parts _ _ all in
    let this = and_parts _ _ both.0 in
    ((leb-true 1 node this.0, leb-true node 7 this.1), right_stops rest both.1)
