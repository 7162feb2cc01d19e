-- The node runs if it reports what it has applied, and its patience counts the turn if something is pending that did not count yet.
use Rattle.std.proofs.Common.{refl}
use Rattle.rp_threads.specs.Rounds.{nothing_pending}
use Rattle.rp_threads.proofs.Leads.{has_waited, none_left, quiet_counted, stopped_idles, to_lead, uncounted, waits_still}
use Rattle.rp_threads.proofs.loops.position_to_lead.Goals as goal

pub returns-in_default-clause-none : goal.returns-in_default-clause-none
returns-in_default-clause-none g c =
    let m = g.M.Machine in
    nothing_pending (stopped_idles m.next m.answers m.begin c.args.seat.now c.in_default.ensures.stopped)

pub returns-in_default-clause-counts : goal.returns-in_default-clause-counts
returns-in_default-clause-counts g c =
    let m = g.M.Machine in
    uncounted m.next m.answers m.begin c.args.seat.now c.args.patience.now c.args.patience.now refl (stopped_idles m.next m.answers m.begin c.args.seat.now c.in_default.ensures.stopped)

pub returns-then-not-has_uncounted-clause-none : goal.returns-then-not-has_uncounted-clause-none
returns-then-not-has_uncounted-clause-none g c = nothing_pending (c.has_uncounted.ensures.none c.if-not-has_uncounted.true)

pub returns-then-not-has_uncounted-clause-counts : goal.returns-then-not-has_uncounted-clause-counts
returns-then-not-has_uncounted-clause-counts g c =
    let m = g.M.Machine in
    uncounted m.next m.answers m.begin c.args.seat.now c.args.patience.now c.args.patience.now refl (c.has_uncounted.ensures.none c.if-not-has_uncounted.true)

pub returns-then-not-is_over-clause-none : goal.returns-then-not-is_over-clause-none
returns-then-not-is_over-clause-none g c =
    let m = g.M.Machine in
    waits_still m.next m.answers m.begin c.args.seat.now c.args.patience.now c.number.result c.in-Ok.applied c.number.ensures c.in-Ok.ensures.ok c.is_over.result c.is_over.ensures.answer c.if-not-is_over.true

pub returns-then-not-is_over-clause-counts : goal.returns-then-not-is_over-clause-counts
returns-then-not-is_over-clause-counts g c =
    let m = g.M.Machine in
    quiet_counted m.next m.answers m.begin c.args.seat.now c.args.patience.now c.number.result c.in-Ok.applied c.number.ensures c.in-Ok.ensures.ok c.is_over.new.self
    (c.has_uncounted.ensures.some c.if-not-has_uncounted.false) c.is_over.ensures.after

pub returns-clause-some : goal.returns-clause-some
returns-clause-some g c =
    let m = g.M.Machine in
    to_lead m.next m.answers m.begin c.args.seat.now c.in-Ok.applied c.position_after.result c.in-Ok.ensures.ok (c.has_uncounted.ensures.some c.if-not-has_uncounted.false) c.position_after.ensures.some

pub returns-clause-waited : goal.returns-clause-waited
returns-clause-waited g c =
    let m = g.M.Machine in
    has_waited m.next m.answers m.begin c.args.seat.now c.args.patience.now c.number.result c.in-Ok.applied c.number.ensures c.in-Ok.ensures.ok c.is_over.result c.is_over.ensures.answer c.if-not-is_over.false
    c.position_after.result

pub returns-clause-none : goal.returns-clause-none
returns-clause-none g c =
    let m = g.M.Machine in
    none_left m.next m.answers m.begin c.args.seat.now c.args.patience.now c.number.result c.in-Ok.applied c.number.ensures c.in-Ok.ensures.ok c.position_after.result c.position_after.ensures.none

pub returns-clause-counts : goal.returns-clause-counts
returns-clause-counts g c =
    let m = g.M.Machine in
    quiet_counted m.next m.answers m.begin c.args.seat.now c.args.patience.now c.number.result c.in-Ok.applied c.number.ensures c.in-Ok.ensures.ok c.is_over.new.self
    (c.has_uncounted.ensures.some c.if-not-has_uncounted.false) c.is_over.ensures.after
