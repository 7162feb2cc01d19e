-- The place knows all, and looks.
use Rattle.std.proofs.Common.{◌++◌, map, ap, subst, ◌∙◌}
use Rattle.rp_board.specs.Looks.{HasWorld}
use Rattle.rp_board.specs.Plays.{Sight}
use Rattle.rp_board.specs.Seats.{table_setting}
use Rattle.rp_boxes.specs.Together.{of_task}
use Rattle.rp_boxes.proofs.together.look_as_one.Goals as goal

pub look-requires-clause-follows : goal.look-requires-clause-follows
look-requires-clause-follows g c = λ parts world. (parts, world)

pub returns : goal.returns
returns g c =
    let all = c.take_seats-2.ensures.all ∙ ap (λ (me : Sight). (me.0 ++ map of_task c.args.tasks.items, me.1)) c.take_seats.ensures.all in
    subst (λ (me : Sight). HasWorld (table_setting g.M.Machine c.args.slots.now.key) me.0) all c.look.ensures.picked
