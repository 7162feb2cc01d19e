use Rattle.std.proofs.Common.{◌≡◌, ◌≢◌, ◌+◌, ◌≤◌, ℕ, true, false, cond, Some, None, List, length, ap, subst, sym, ◌∙◌, arith}
use Rattle.std.specs.Prelude.{is_some}
use Rattle.std.specs.FinMap.{get}
use Rattle.std.proofs.lemmas.Grind.{common_steps}
use Rattle.rp_base.specs.declared.action.Action.{Action}
use Rattle.rp_log.specs.Contents.{with_room}
use Rattle.rp_log.specs.Holding.{place_ahead, Fits}
use Rattle.rp_log.proofs.Places.{same}
use Rattle.rp_log.proofs.Views.{seen}
use Rattle.rp_log.proofs.Steps.{is_free, reserves_next, reserves_ahead, has_room_after}
use Rattle.rp_log.proofs.log.Log.reserve.Goals as goal
use Rattle.rp_log.proofs.log.Log.reserve.Goals.{Then-number-len, In_ok-insert}

-- the position after the front is reserved
reserved_next : (c : Then-number-len) → Fits c.reserve.new.self.items true c.self.inside.ahead.entries c.reserve.new.self.room c.self.inside.taken c.self.inside.top
    × (seen c.reserve.new.self.items true c.self.inside.ahead.entries c.self.inside.taken ≡ with_room c.args.self.now c.args.position)
reserved_next c =
    let front = c.self.inside.front.items in
    let ahead = c.self.inside.ahead.entries in
    let items : c.reserve.new.self.items ≡ front = c.reserve.ensures.items in
    let none : false ≡ is_some (get c.args.self.now.places c.args.position) = sym c.if-has_room.false ∙ c.has_room.ensures in
    let enough : length front + (length ahead + 2) ≤ c.reserve.new.self.room = grind (arith, common_steps) in
    let next : c.args.position ≡ length front + 1 = omega (arith, c.if-number-len.true, c.from-number.ensures, c.get.ensures.value, c.len-2.ensures, ap length items) in
    subst (λ (l : List Action). Fits l true ahead c.reserve.new.self.room c.self.inside.taken c.self.inside.top × (seen l true ahead c.self.inside.taken ≡ with_room c.args.self.now c.args.position)) (sym items)
    (reserves_next front c.self.inside.next_reserved ahead c.self.inside.front.room c.reserve.new.self.room c.self.inside.taken c.self.inside.top
    c.args.self.now c.args.position c.self.invariant c.self.view_is (omega (arith, c.get.ensures.in_range)) (omega (arith, c.get.ensures.in_range)) none enough next)

pub invariant_of-self-then-number-len : goal.invariant_of-self-then-number-len
invariant_of-self-then-number-len c = (reserved_next (goal.at.invariant_of-self-then-number-len c).Then-number-len).0

pub returns-then-number-len-clause-ok : goal.returns-then-number-len-clause-ok
returns-then-number-len-clause-ok c = (reserved_next (goal.at.returns-then-number-len-clause-ok c).Then-number-len).1

-- a position ahead is reserved
reserved_ahead : (c : In_ok-insert) → Fits c.reserve.new.self.items c.self.inside.next_reserved c.insert.new.self.entries c.reserve.new.self.room c.self.inside.taken c.self.inside.top
    × (seen c.reserve.new.self.items c.self.inside.next_reserved c.insert.new.self.entries c.self.inside.taken ≡ with_room c.args.self.now c.args.position)
reserved_ahead c =
    let front = c.self.inside.front.items in
    let reserved = c.self.inside.next_reserved in
    let ahead = c.self.inside.ahead.entries in
    let new = c.insert.new.self.entries in
    let items : c.reserve.new.self.items ≡ front = c.reserve.ensures.items in
    let none : false ≡ is_some (get c.args.self.now.places c.args.position) = sym c.if-has_room.false ∙ c.has_room.ensures in
    let enough : length front + (length ahead + 2) ≤ c.reserve.new.self.room = grind (arith, common_steps) in
    let number : c.from-number.result ≡ c.args.position = omega (arith, c.from-number.ensures, c.get.ensures.value) in
    let apart : c.args.position ≢ length front + 1 = λ e. c.if-number-len.false (omega (arith, e, number, c.len-2.ensures, ap length items)) in
    let written : (i : ℕ) → place_ahead new i ≡ cond (same c.args.position i) (Some None) (place_ahead ahead i) =
    λ i. c.in_ok-insert.ensures.updates.0 i ∙ ap (λ n. cond (same n i) (Some None) (place_ahead ahead i)) number in
    let gone : place_ahead ahead c.args.position ≡ None =
    (is_free front reserved ahead c.self.inside.taken c.args.self.now c.args.position c.self.view_is (omega (arith, c.get.ensures.in_range)) none).none in
    let old_none : c.in_ok-insert.field-0 ≡ None = grind (arith, common_steps) in
    let longer : length new ≡ length ahead + 1 = grind (arith, common_steps) in
    subst (λ (l : List Action). Fits l reserved new c.reserve.new.self.room c.self.inside.taken c.self.inside.top × (seen l reserved new c.self.inside.taken ≡ with_room c.args.self.now c.args.position)) (sym items)
    (reserves_ahead front reserved ahead c.self.inside.front.room c.reserve.new.self.room c.self.inside.taken c.self.inside.top
    c.args.self.now c.args.position c.self.invariant c.self.view_is (omega (arith, c.get.ensures.in_range)) (omega (arith, c.get.ensures.in_range)) none enough new apart written longer)

pub invariant_of-self-in_ok-insert : goal.invariant_of-self-in_ok-insert
invariant_of-self-in_ok-insert c = (reserved_ahead (goal.at.invariant_of-self-in_ok-insert c).In_ok-insert).0

pub returns-in_ok-insert-clause-ok : goal.returns-in_ok-insert-clause-ok
returns-in_ok-insert-clause-ok c = (reserved_ahead (goal.at.returns-in_ok-insert-clause-ok c).In_ok-insert).1

pub returns-then-number-len-clause-room : goal.returns-then-number-len-clause-room
returns-then-number-len-clause-room c = has_room_after c.args.self.now _ c.args.position (returns-then-number-len-clause-ok c)

pub returns-in_ok-insert-clause-room : goal.returns-in_ok-insert-clause-room
returns-in_ok-insert-clause-room c = has_room_after c.args.self.now _ c.args.position (returns-in_ok-insert-clause-ok c)
