-- The place knows what both knew.
use Rattle.std.proofs.Common.{◌<◌, ap, arith}
use Rattle.rp_board.specs.Plays.{Sight}
use Rattle.rp_board.specs.Seats.{table_setting}
use Rattle.rp_board.proofs.Joining.{join_allows}
use Rattle.rp_board.proofs.joins.take_in.Goals as goal

pub join_seat-requires : goal.join_seat-requires
join_seat-requires g c =
    let words : 0 < c.args.slots.now.table_id.words = omega (arith, c.requires.sized.0) in
    let both = join_allows (table_setting g.M.Machine c.args.slots.now.key) c.args.all.now.id c.args.all.now.me.0 c.args.other.id c.args.other.me c.requires.other in
    (c.requires.table.0, c.requires.table.1, ap (λ (me : Sight). me.1) c.requires.other, words, both)
