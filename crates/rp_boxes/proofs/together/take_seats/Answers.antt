-- One more place is taken in.
use Rattle.std.proofs.Common.{◌≡◌, ◌++◌, All, map, refl, sym, ap, subst, ◌∙◌, arith}
use Rattle.rp_actors.proofs.Fresh.{first_of, rest_of}
use Rattle.rp_board.specs.Plays.{Sight}
use Rattle.rp_boxes.proofs.OneWorld.{one_taken, all_taken}
use Rattle.rp_boxes.proofs.together.take_seats.Goals as goal

pub loop-seat-init : goal.loop-seat-init
loop-seat-init g c =
    let same = c.into_iter-seat-iterator.ensures.into_iter_gives.0 in
    record {
      table = refl;
      out = refl;
      knows = ap (λ l. c.args.all.now.me.0 ++ map g.S.Leaves.known l) same;
      left = subst (All (λ seat. g.S.Leaves.at seat ≡ c.args.slots.now.table_id)) (sym same) c.requires.seats;
    }

pub take_in-requires-clause-table : goal.take_in-requires-clause-table
take_in-requires-clause-table g c = (
  c.loop-seat.invariant.table ∙ c.requires.table,
  c.into_place.ensures.table ∙ first_of (λ seat. g.S.Leaves.at seat ≡ c.args.slots.now.table_id) c.loop-seat.seat-iterator.rest.items c.in-Some.seat c.next.new.self.rest.items c.in-Some.ensures.steps.0 c.loop-seat.invariant.left,
)

pub loop-seat-preserved : goal.loop-seat-preserved
loop-seat-preserved g c =
    let was = c.loop-seat.invariant in
    let rest = c.loop-seat.seat-iterator.rest.items in
    let rest' = c.next.new.self.rest.items in
    let steps = c.in-Some.ensures.steps.0 in
    let both = c.take_in.ensures.both in
    record {
      table = c.take_in.ensures.table ∙ was.table;
      out = ap (λ (me : Sight). me.1) both ∙ was.out;
      knows = one_taken g.S.Leaves.known c.loop-seat.all.me.0 c.take_in.new.all.me.0 _ c.in-Some.seat rest rest' c.into_place.result.me (ap (λ (me : Sight). me.0) both) c.into_place.ensures.knows steps was.knows;
      left = rest_of (λ seat. g.S.Leaves.at seat ≡ c.args.slots.now.table_id) rest c.in-Some.seat rest' steps was.left;
    }

pub returns-clause-all : goal.returns-clause-all
returns-clause-all g c =
    let rest = c.loop-seat.seat-iterator.rest in
    all_taken g.S.Leaves.known c.loop-seat.all.me c.args.all.now.me _ rest.items (omega (arith, rest.ok.0, c.in-None.ensures.steps.0)) c.loop-seat.invariant.knows c.loop-seat.invariant.out
