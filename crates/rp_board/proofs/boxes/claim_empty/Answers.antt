-- The box is claimed where it is empty.
use Rattle.std.proofs.lemmas.Bool.{eqb-true}
use Rattle.rp_board.specs.Parts.{part_in, box_of}
use Rattle.rp_board.proofs.Filling.{claim_allows}
use Rattle.rp_board.specs.Seats.{table_setting}
use Rattle.rp_board.proofs.Sights.{box_within, sees_claimed}
use Rattle.rp_board.proofs.boxes.claim_empty.Goals as goal

pub compare_exchange-requires : goal.compare_exchange-requires
compare_exchange-requires g c =
    let place = c.args.place.now in
    (c.requires.same, box_within c.requires, claim_allows (table_setting g.M.Machine c.args.slots.now.key) c.args.slots.now.table_id place.table_id place.id c.args.from c.args.to place.me g.J.Fact.says c.requires)

pub returns-clause-hit : goal.returns-clause-hit
returns-clause-hit g c = λ hit. sees_claimed c.args.from (box_of c.args.from c.args.to) (part_in c.args.place.now.me.0) _ _ _ c.requires.place c.compare_exchange.ensures.2.0 (eqb-true _ _ hit)
