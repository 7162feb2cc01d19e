-- The place knows an actor, which is split off.
use Rattle.std.proofs.Common.{◌<◌, arith}
use Rattle.rp_board.specs.Seats.{table_setting}
use Rattle.rp_board.proofs.Splitting.{split_allows}
use Rattle.rp_board.proofs.joins.split.Goals as goal

pub split_seat-requires : goal.split_seat-requires
split_seat-requires g c =
    let words : 0 < c.args.slots.now.table_id.words = omega (arith, c.requires.sized.0) in
    (c.requires.table, words, split_allows (table_setting g.M.Machine c.args.slots.now.key) c.args.place.now.id c.args.place.now.me.0 c.requires.some)
