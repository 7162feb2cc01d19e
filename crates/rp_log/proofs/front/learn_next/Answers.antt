-- The place after the front is taken out of those ahead, and what follows moves up.
use Rattle.std.proofs.Common.{◌≡◌, ◌+◌, ℕ, List, cond, None, [], ◌∷◌, length, ap, sym, ◌∙◌, length-append, false, arith}
use Rattle.std.specs.Prelude.{is_some, option_and_then, if◌then◌else◌}
use Rattle.rp_base.specs.declared.action.Action.{Action}
use Rattle.rp_log.specs.Holding.{place_ahead, place_of}
use Rattle.rp_log.proofs.Places.{same, next_put, place_alone, follows_alone, put_alone}
use Rattle.rp_log.proofs.front.learn_next.Goals as goal

pub push_reserved-requires-clause-room : goal.push_reserved-requires-clause-room
push_reserved-requires-clause-room c =
    let front = c.args.front.now.items in
    let ahead = c.args.ahead.now.entries in
    let none : length ahead ≡ 0 = c.is_empty.ensures.0 c.if-is_empty.true in
    let enough = c.requires.room 0 (ap (λ x. 0 + (if is_some x then 1 else 0)) (place_alone ahead none (length front + 1)) ∙ sym none) in
    omega (arith, enough)

pub returns-then-is_empty : goal.returns-then-is_empty
returns-then-is_empty c =
    let front = c.args.front.now.items in
    let ahead = c.args.ahead.now.entries in
    let none : length ahead ≡ 0 = c.is_empty.ensures.0 c.if-is_empty.true in
    let items = c.push_reserved.ensures.items in
    let enough = c.requires.room 0 (ap (λ x. 0 + (if is_some x then 1 else 0)) (place_alone ahead none (length front + 1)) ∙ sym none) in
    let longer : length c.push_reserved.new.self.items ≡ length front + 1 = ap length items ∙ length-append front (c.args.action ∷ []) in
    record {
      places = λ reserved i. ap (λ (l : List Action). place_of l false ahead i) items ∙ put_alone front reserved ahead c.args.action none i;
      grown = ([], items);
      ahead = follows_alone (length c.push_reserved.new.self.items) ahead none;
      gap = ap (option_and_then (λ learned. learned)) (place_alone ahead none (length c.push_reserved.new.self.items + 1));
      room = omega (arith, longer, enough, none, c.push_reserved.ensures.room);
      bound = omega (arith, longer, c.requires.bound);
    }

pub push_reserved-requires-2-clause-room : goal.push_reserved-requires-2-clause-room
push_reserved-requires-2-clause-room c =
    let front = c.args.front.now.items in
    let ahead = c.args.ahead.now.entries in
    let at : c.len.result + 1 ≡ length front + 1 = omega (arith, c.len.ensures) in
    let gone : c.remove.result ≡ place_ahead ahead (length front + 1) = c.remove.ensures.value ∙ ap (place_ahead ahead) at in
    let enough = c.requires.room (length c.remove.new.self.entries) (ap (λ x. length c.remove.new.self.entries + (if is_some x then 1 else 0)) (sym gone) ∙ c.remove.ensures.len) in
    omega (arith, enough)

pub advance-requires-clause-room : goal.advance-requires-clause-room
advance-requires-clause-room c =
    let front = c.args.front.now.items in
    let ahead = c.args.ahead.now.entries in
    let at : c.len.result + 1 ≡ length front + 1 = omega (arith, c.len.ensures) in
    let gone : c.remove.result ≡ place_ahead ahead (length front + 1) = c.remove.ensures.value ∙ ap (place_ahead ahead) at in
    let enough = c.requires.room (length c.remove.new.self.entries) (ap (λ x. length c.remove.new.self.entries + (if is_some x then 1 else 0)) (sym gone) ∙ c.remove.ensures.len) in
    let longer : length c.push_reserved-2.new.self.items ≡ length front + 1 = ap length c.push_reserved-2.ensures.items ∙ length-append front (c.args.action ∷ []) in
    omega (arith, longer, enough, c.push_reserved-2.ensures.room)

pub returns-clause-places : goal.returns-clause-places
returns-clause-places c =
    let front = c.args.front.now.items in
    let ahead = c.args.ahead.now.entries in
    let fewer = c.remove.new.self.entries in
    let at : c.len.result + 1 ≡ length front + 1 = omega (arith, c.len.ensures) in
    let removed : (i : ℕ) → place_ahead fewer i ≡ cond (same (length front + 1) i) None (place_ahead ahead i) =
    λ i. c.remove.ensures.updates.0 i ∙ ap (λ n. cond (same n i) None (place_ahead ahead i)) at in
    λ reserved i. c.advance.ensures.places i ∙ ap (λ (l : List Action). place_of l false fewer i) c.push_reserved-2.ensures.items ∙ next_put front reserved ahead fewer c.args.action removed i
