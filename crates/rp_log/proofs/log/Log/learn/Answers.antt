use Rattle.std.proofs.Common.{◌≡◌, ◌+◌, ◌<◌, ◌≤◌, ℕ, false, cond, Some, None, IsSome, ◌∷◌, take, length, refl, ap, subst, sym, ◌∙◌, length-append, arith}
use Rattle.std.specs.Prelude.{max}
use Rattle.std.proofs.lemmas.Grind.{common_steps}
use Rattle.rp_log.specs.Contents.{action_at}
use Rattle.rp_log.specs.Holding.{place_ahead, place_of}
use Rattle.rp_log.proofs.Places.{same, ahead_written}
use Rattle.rp_log.proofs.Learning.{unlearned_next, learned_again, learned_one, fits_learned_ahead, room_to_put, ahead_there, place_there, fits_put, taken_same}
use Rattle.rp_log.proofs.log.Log.learn.Goals as goal
use Rattle.rp_log.proofs.log.Log.learn.Goals.{Then-number-len, Else-number-len, After-learn_ahead, After-learn_next}

pub returns-then-is_learned : goal.returns-then-is_learned
returns-then-is_learned c =
    let there : IsSome (action_at c.args.self.now c.args.position) = grind (arith, common_steps) in
    learned_again c.args.self.now c.args.position c.args.action.now there

-- ---- ahead of the front

number : (c : Then-number-len) → c.from-number.result ≡ c.args.position
number c = omega (arith, c.from-number.ensures, c.get.ensures.value)

far : (c : Then-number-len) → length c.self.inside.front.items + 1 < c.args.position
far c = omega (arith, number c, c.if-number-len.true, c.len.ensures)

written : (c : After-learn_ahead) → c.from-number.result ≡ c.args.position
    → (i : ℕ) → place_ahead c.learn_ahead.new.ahead.entries i ≡ cond (same c.args.position i) (Some (Some c.args.action.now)) (place_ahead c.self.inside.ahead.entries i)
written c is i = c.learn_ahead.ensures.written i ∙ ap (λ n. cond (same n i) (Some (Some c.args.action.now)) (place_ahead c.self.inside.ahead.entries i)) is

pub learn_ahead-requires : goal.learn_ahead-requires
learn_ahead-requires c =
    let at = (goal.at.learn_ahead-requires c).Then-number-len in
    subst (λ (n : ℕ). IsSome (place_ahead c.self.inside.ahead.entries n)) (sym (number at))
    (ahead_there c.self.inside.front.items c.self.inside.next_reserved c.self.inside.ahead.entries c.self.inside.taken c.args.self.now c.args.position c.self.view_is c.requires (far at))

pub invariant_of-self : goal.invariant_of-self
invariant_of-self c =
    let at = (goal.at.invariant_of-self c).Then-number-len in
    let top_is : c.max-self-inside.result ≡ max c.self.inside.top c.args.position = grind (arith, common_steps) in
    fits_learned_ahead c.self.inside.front.items c.self.inside.next_reserved c.self.inside.ahead.entries c.learn_ahead.new.ahead.entries c.self.inside.front.room c.self.inside.taken c.self.inside.top c.max-self-inside.result
    c.args.position c.args.action.now c.self.invariant (far at) (omega (arith, c.get.ensures.in_range)) (written c (number at)) c.learn_ahead.ensures.length top_is

pub returns-then-number-len : goal.returns-then-number-len
returns-then-number-len c =
    let at = (goal.at.returns-then-number-len c).Then-number-len in
    let front = c.self.inside.front.items in
    let reserved = c.self.inside.next_reserved in
    let old = c.self.inside.ahead.entries in
    let new = c.learn_ahead.new.ahead.entries in
    let p = c.args.position in
    let none : action_at c.args.self.now p ≡ None = grind (arith, common_steps) in
    learned_one front front reserved reserved old new c.self.inside.taken c.args.self.now p c.args.action.now c.self.view_is none refl
    (ahead_written front reserved old new p (Some c.args.action.now) (far at) (written c (number at)))

-- ---- after the front

-- the position is the one after the front
next : (c : Else-number-len) → c.args.position ≡ length c.self.inside.front.items + 1
next c =
    let p = c.args.position in
    let none : action_at c.args.self.now p ≡ None = grind (arith, common_steps) in
    let near : p ≤ length c.self.inside.front.items + 1 = omega (arith, c.from-number.ensures, c.get.ensures.value, c.if-number-len.false, c.len.ensures) in
    unlearned_next c.self.inside.front.items c.self.inside.next_reserved c.self.inside.ahead.entries c.self.inside.taken c.args.self.now p c.self.view_is (omega (arith, c.get.ensures.in_range)) none near

pub learn_next-requires-clause-room : goal.learn_next-requires-clause-room
learn_next-requires-clause-room c =
    let front = c.self.inside.front.items in
    let reserved = c.self.inside.next_reserved in
    let ahead = c.self.inside.ahead.entries in
    let taken = c.self.inside.taken in
    let there : IsSome (place_of front reserved ahead (length front + 1)) =
    subst (λ (n : ℕ). IsSome (place_of front reserved ahead n)) (next (goal.at.learn_next-requires-clause-room c).Else-number-len)
    (place_there front reserved ahead taken c.args.self.now c.args.position c.self.view_is c.requires) in
    λ fewer count. room_to_put front reserved ahead c.self.inside.front.room taken c.self.inside.top fewer c.self.invariant there count

pub learn_next-requires-clause-bound : goal.learn_next-requires-clause-bound
learn_next-requires-clause-bound c = omega (arith, next (goal.at.learn_next-requires-clause-bound c).Else-number-len, c.get.ensures.in_range)

-- the places after the action is put
here : (c : After-learn_next) → c.args.position ≡ length c.self.inside.front.items + 1
    → (i : ℕ) → place_of c.learn_next.new.front.items false c.learn_next.new.ahead.entries i
    ≡ cond (same i c.args.position) (Some (Some c.args.action.now)) (place_of c.self.inside.front.items c.self.inside.next_reserved c.self.inside.ahead.entries i)
here c is i =
    c.learn_next.ensures.places c.self.inside.next_reserved i
    ∙ ap (λ n. cond (same i n) (Some (Some c.args.action.now)) (place_of c.self.inside.front.items c.self.inside.next_reserved c.self.inside.ahead.entries i)) (sym is)

pub invariant_of-self-2 : goal.invariant_of-self-2
invariant_of-self-2 c =
    let front = c.self.inside.front.items in
    let last = c.learn_next.new.front.items in
    let next_is = next (goal.at.invariant_of-self-2 c).Else-number-len in
    let top_is : c.max-self-inside.result ≡ max c.self.inside.top c.args.position = grind (arith, common_steps) in
    let tail = c.args.action.now ∷ c.learn_next.ensures.grown.0 in
    let long : length last ≡ length front + length tail = ap length c.learn_next.ensures.grown.1 ∙ length-append front tail in
    fits_put front last c.self.inside.next_reserved c.self.inside.ahead.entries c.learn_next.new.ahead.entries c.self.inside.front.room c.learn_next.new.front.room c.self.inside.taken c.self.inside.top c.max-self-inside.result
    c.args.position c.args.action.now c.self.invariant next_is (omega (arith, c.get.ensures.in_range)) (here c next_is) (omega (arith, long)) c.learn_next.ensures.bound c.learn_next.ensures.ahead c.learn_next.ensures.gap c.learn_next.ensures.room top_is

pub returns : goal.returns
returns c =
    let front = c.self.inside.front.items in
    let taken = c.self.inside.taken in
    let tail = c.args.action.now ∷ c.learn_next.ensures.grown.0 in
    let none : action_at c.args.self.now c.args.position ≡ None = grind (arith, common_steps) in
    learned_one front c.learn_next.new.front.items c.self.inside.next_reserved false c.self.inside.ahead.entries c.learn_next.new.ahead.entries taken c.args.self.now c.args.position c.args.action.now c.self.view_is none
    (ap (take taken) c.learn_next.ensures.grown.1 ∙ taken_same taken front tail c.self.invariant.taken_within) (here c (next (goal.at.returns c).Else-number-len))
