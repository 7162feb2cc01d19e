-- The box is written and published.
use Rattle.std.proofs.Common.{◌≡◌, ◌<◌, ◌≤◌, Some, sym, subst, ◌∙◌, arith}
use Rattle.rp_board.specs.Parts.{part_in, box_of}
use Rattle.rp_board.specs.Plays.{holding}
use Rattle.rp_board.specs.Rule.{IsVacant}
use Rattle.rp_board.specs.Seats.{table_setting}
use Rattle.rp_board.proofs.Filling.{publish_allows}
use Rattle.rp_board.proofs.Sights.{taken_out, out_with, sees_published, sees_written}
use Rattle.rp_board.proofs.boxes.deliver.Given as given
use Rattle.rp_board.proofs.boxes.deliver.Goals as goal
use Rattle.rp_board.proofs.boxes.deliver.Goals.{After-exchange-left}

-- the packet is written
written : (g : given.Over) (c : After-exchange-left g) → c.exchange-left.new.seat.me ≡ holding c.args.from (part_in c.args.place.now.me.0) (box_of c.args.from c.args.to) (Some c.args.packet)
written g c = sees_written c.args.from (box_of c.args.from c.args.to) (part_in c.args.place.now.me.0) c.requires.place.0 (Some c.args.packet) _ _ c.requires.place.2 c.exchange-left.ensures.3

pub exchange-left-requires : goal.exchange-left-requires
exchange-left-requires g c = (c.requires.table, (c.requires.place.0, out_with c.args.from (box_of c.args.from c.args.to) _ c.requires.place.0 _ c.requires.place.2))

pub returns-clause-vacant : goal.returns-clause-vacant
returns-clause-vacant g c =
    let was = c.requires.place in
    subst IsVacant (sym (taken_out c.args.from (box_of c.args.from c.args.to) _ _ was.0 _ _ was.2 c.exchange-left.ensures.2)) was.1

pub store-requires : goal.store-requires
store-requires g c =
    let table = c.args.slots.now.table_id in
    let packet = c.requires.packet in
    let inside : box_of c.args.from c.args.to < table.words = rw c.requires.sized.0 (omega (arith, c.requires.from, c.requires.to)) in
    let buffer : 256 ≤ table.slots = rw c.requires.sized.1 (omega arith) in (
      c.exchange-left.ensures.0 ∙ c.requires.table,
      inside,
      publish_allows (table_setting g.M.Machine c.args.slots.now.key) table.slots c.exchange-left.new.seat.id c.args.from c.args.to (part_in c.args.place.now.me.0) c.requires.from c.requires.to buffer _ packet.0
          c.args.packet (written g (goal.at.store-requires g c).After-exchange-left) c.requires.fills packet.1 packet.2 g.J.Fact.says packet.3,
    )

pub returns-clause-place : goal.returns-clause-place
returns-clause-place g c =
    (sees_published g.J.Fact.says c.args.from (box_of c.args.from c.args.to) (part_in c.args.place.now.me.0) (Some c.args.packet) _ _
    (written g (goal.at.returns-clause-place g c).After-exchange-left) c.store.ensures.2).0

pub returns-clause-picked : goal.returns-clause-picked
returns-clause-picked g c =
    (sees_published g.J.Fact.says c.args.from (box_of c.args.from c.args.to) (part_in c.args.place.now.me.0) (Some c.args.packet) _ _
    (written g (goal.at.returns-clause-picked g c).After-exchange-left) c.store.ensures.2).1
