use Rattle.std.proofs.Common.{◌≡◌, ℕ, ◌+◌, ◌<◌, ◌≤◌, [], ◌∷◌, ◌++◌, Some, None, false, cond, length, refl, ap, subst, sym, ◌∙◌, append_assoc, length-append, arith}
use Rattle.std.specs.Prelude.{option_and_then}
use Rattle.rp_log.specs.Holding.{place_of, place_ahead}
use Rattle.rp_log.proofs.Places.{same, action_some, removed_ahead, one_fewer, next_advanced}
use Rattle.rp_log.proofs.front.advance.Goals as goal

pub push_reserved-requires-clause-bound : goal.push_reserved-requires-clause-bound
push_reserved-requires-clause-bound c =
    let front = c.loop-action.front.items in
    let len : c.len.result + 1 ≡ length front + 1 = omega (arith, c.len.ensures) in
    let there = action_some (place_ahead c.loop-action.ahead.entries (length front + 1)) c.in-Some.action
    (c.in-Some.ensures ∙ ap (λ k. option_and_then (λ learned. learned) (place_ahead c.loop-action.ahead.entries k)) len) in
    let low = c.loop-action.invariant.ahead (length front + 1) (rw there refl) in
    omega (arith, low.1)

pub loop-action-preserved : goal.loop-action-preserved
loop-action-preserved c =
    let front = c.loop-action.front.items in
    let old = c.loop-action.ahead.entries in
    let new = c.remove.new.self.entries in
    let a = c.in-Some.action in
    let len : c.len.result + 1 ≡ length front + 1 = omega (arith, c.len.ensures) in
    let again : c.len-in-Some.result + 1 ≡ length front + 1 = omega (arith, c.len-in-Some.ensures) in
    let there : place_ahead old (length front + 1) ≡ Some (Some a) =
    action_some (place_ahead old (length front + 1)) a (c.in-Some.ensures ∙ ap (λ k. option_and_then (λ learned. learned) (place_ahead old k)) len) in
    let removed : (i : ℕ) → place_ahead new i ≡ cond (same (length front + 1) i) None (place_ahead old i) =
    λ i. c.remove.ensures.updates.0 i ∙ ap (λ k. cond (same k i) None (place_ahead old i)) again in
    let items = c.push_reserved.ensures.items in
    let grown = c.loop-action.invariant.grown in
    let longer : length c.push_reserved.new.self.items ≡ length front + 1 = ap length items ∙ length-append front (a ∷ []) in
    let ahead = removed_ahead (length front) old new c.loop-action.invariant.ahead removed in
    let found : c.remove.result ≡ Some (Some a) = c.remove.ensures.value ∙ ap (place_ahead old) again ∙ there in
    let fewer = one_fewer (length new) c.remove.result (length old) (Some a) found c.remove.ensures.len in
    let low = c.loop-action.invariant.ahead (length front + 1) (rw there refl) in
    record {
      places = λ i. ap (λ f. place_of f false new i) items ∙ next_advanced front old new a there removed i ∙ c.loop-action.invariant.places i;
      grown = (grown.0 ++ a ∷ [], items ∙ ap (λ f. f ++ a ∷ []) grown.1 ∙ append_assoc _ grown.0 (a ∷ []));
      ahead = λ i is. subst (λ n. (n < i) × (i ≤ 65535)) (sym longer) (ahead i is);
      room = omega (arith, longer, fewer, c.loop-action.invariant.room, c.push_reserved.ensures.room);
      bound = omega (arith, longer, low.1);
    }
