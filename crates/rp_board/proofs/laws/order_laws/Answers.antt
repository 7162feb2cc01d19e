-- The laws of agreement and of the machine, at a setting.
use Rattle.rp_board.proofs.laws.order_laws.Goals as goal

pub returns : goal.returns
returns g c = let m = g.M.Machine in λ config program. record {
  exists = c.the_order_exists.ensures;
  replies = c.replies_answer_calls_that_count.ensures config program;
  calls = c.calls_count_in_order.ensures config program;
  made = c.only_made_calls_count.ensures config program;
  once = c.a_call_has_one_place.ensures (m.begin program);
}
