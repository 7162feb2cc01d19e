-- What follows of every world allows the step.
use Rattle.std.proofs.Common.{◌<◌, arith}
use Rattle.rp_board.specs.Parts.{part_in}
use Rattle.rp_board.specs.Seats.{table_setting}
use Rattle.rp_board.proofs.WorldLooks.{look_allows}
use Rattle.rp_board.proofs.looks.look.Goals as goal

pub load-requires : goal.load-requires
load-requires g c =
    let s = table_setting g.M.Machine c.args.slots.now.key in
    let table = c.args.slots.now.table_id in
    let place = c.args.place.now in
    let inside : 0 < table.words = rw c.requires.sized.0 (omega arith) in
    (c.requires.table, inside, look_allows s table.slots place.id 0 place.me (g.J.Fact.says (part_in place.me.0)) c.requires.follows)
