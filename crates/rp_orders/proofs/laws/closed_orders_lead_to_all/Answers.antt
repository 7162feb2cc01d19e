-- By induction on the order, with the laws of the machine.
use Rattle.rp_orders.proofs.Closing.{all_reached, all_given, all_stuck, is_order, given_is}
use Rattle.rp_orders.proofs.laws.closed_orders_lead_to_all.Goals as goal

pub returns-clause-states : goal.returns-clause-states
returns-clause-states g c =
    let m = g.M.Machine in
    let laws = c.laws.ensures in
    λ program guards may found right closed order is.
    all_reached m.next m.answers m.waiting m.begin m.runs laws.none_waits laws.starts laws.keeps laws.accounts program guards may found right closed order is

pub returns-clause-replies : goal.returns-clause-replies
returns-clause-replies g c =
    let m = g.M.Machine in
    let laws = c.laws.ensures in
    λ program guards may found right closed answer. (
      λ can. all_given m.next m.answers m.waiting m.begin m.runs laws.none_waits laws.starts laws.keeps laws.accounts program guards may found right closed can.0 answer can.1 can.2,
      λ given. given_is m.next m.answers m.waiting m.begin m.runs laws.none_waits laws.starts laws.keeps laws.accounts program guards may found answer right closed given,
    )

pub returns-clause-stuck : goal.returns-clause-stuck
returns-clause-stuck g c =
    let m = g.M.Machine in
    let laws = c.laws.ensures in
    λ program guards may found right closed task order _ is stuck.
    all_stuck m.next m.answers m.waiting m.begin m.runs laws.none_waits laws.starts laws.keeps laws.accounts program guards may found right closed task order is stuck

pub returns-clause-orders : goal.returns-clause-orders
returns-clause-orders g c =
    let m = g.M.Machine in
    let laws = c.laws.ensures in
    λ program guards may order right among guarded.
    is_order m.next m.answers m.waiting m.begin m.runs laws.none_waits laws.starts laws.keeps laws.accounts program guards may order right among guarded
