-- The two places are joined and split again.
use Rattle.std.proofs.Common.{◌<◌, ap, subst, ◌∙◌, arith}
use Rattle.rp_board.specs.Looks.{HasWorld}
use Rattle.rp_board.specs.Plays.{Sight}
use Rattle.rp_board.specs.Seats.{table_setting}
use Rattle.rp_board.proofs.Joining.{join_allows, some_first, one_back, other_back}
use Rattle.rp_board.proofs.joins.look_together.Goals as goal

pub join_seat-requires : goal.join_seat-requires
join_seat-requires g c =
    let words : 0 < c.args.slots.now.table_id.words = omega (arith, c.requires.sized.0) in
    let both = join_allows (table_setting g.M.Machine c.args.slots.now.key) c.args.one.id c.args.one.me.0 c.args.other.id c.args.other.me c.requires.other in
    (c.requires.table.0, c.requires.table.1, ap (λ (me : Sight). me.1) c.requires.other, words, both)

pub look-requires-clause-follows : goal.look-requires-clause-follows
look-requires-clause-follows g c = λ parts world. (parts, world)

pub split-first-requires-clause-some : goal.split-first-requires-clause-some
split-first-requires-clause-some g c =
    some_first c.args.one.me c.args.other.me c.look.new.place.me c.requires.one c.requires.other (c.look.ensures.place ∙ c.join_seat.ensures.2)

pub returns-clause-places : goal.returns-clause-places
returns-clause-places g c =
    let one = c.args.one.me in
    let other = c.args.other.me in
    let joined = c.look.ensures.place ∙ c.join_seat.ensures.2 in (
      one_back one other c.look.new.place.me c.requires.one c.requires.other joined c.split-first.result.me c.split-first.ensures.first,
      other_back one other c.look.new.place.me c.requires.one c.requires.other joined c.split-first.new.place.me c.split-first.ensures.others,
    )

pub returns-clause-world : goal.returns-clause-world
returns-clause-world g c = subst (λ (me : Sight). HasWorld (table_setting g.M.Machine c.args.slots.now.key) me.0) c.join_seat.ensures.2 c.look.ensures.picked
