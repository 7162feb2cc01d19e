use Rattle.std.proofs.Common.{◌≡◌, ◌+◌, ◌<◌, ◌≤◌, ℕ, true, false, length, IsSome, ap, subst, ◌∙◌, arith}
use Rattle.std.specs.Prelude.{is_some}
use Rattle.std.specs.FinMap.{get}
use Rattle.rp_log.specs.Holding.{places_of, place_ahead}
use Rattle.rp_log.proofs.Views.{room_front}
use Rattle.rp_log.proofs.Steps.{has_room, room_after, next_has_room}
use Rattle.rp_log.proofs.log.Log.has_room.Goals as goal
use Rattle.rp_log.proofs.log.Log.has_room.Goals.{else-number-next-2-via-then-number-next-2+else-self, else-number-next-2-via-else-number-next-2}

pub returns-then-number-next : goal.returns-then-number-next
returns-then-number-next c =
    let front = c.self.inside.front.items in
    let reserved = c.self.inside.next_reserved in
    let ahead = c.self.inside.ahead.entries in
    let taken = c.self.inside.taken in
    let within : c.args.position ≤ length front = omega (arith, c.from-number.ensures, c.get.ensures.value, c.len.ensures, c.if-number-next.true) in
    has_room front reserved ahead taken c.args.self.now c.args.position c.self.view_is
    (room_front front reserved ahead taken c.args.position (omega (arith, c.get.ensures.in_range)) within)

pub returns-then-self : goal.returns-then-self
returns-then-self c =
    let front = c.self.inside.front.items in
    let reserved = c.self.inside.next_reserved in
    let ahead = c.self.inside.ahead.entries in
    let taken = c.self.inside.taken in
    let next : length front + 1 ≡ c.args.position = omega (arith, c.from-number.ensures, c.get.ensures.value, c.len.ensures, c.if-number-next-2.true) in
    let on : true ≡ reserved = grind arith in
    has_room front reserved ahead taken c.args.self.now c.args.position c.self.view_is
    (subst (λ (n : ℕ). IsSome (get (places_of front reserved ahead) n)) next
    (subst (λ b. IsSome (get (places_of front b ahead) (length front + 1))) on (next_has_room front ahead)))

pub returns : goal.returns
returns c =
    let front = c.self.inside.front.items in
    let reserved = c.self.inside.next_reserved in
    let ahead = c.self.inside.ahead.entries in
    let taken = c.self.inside.taken in
    let number : c.from-number.result ≡ c.args.position = omega (arith, c.from-number.ensures, c.get.ensures.value) in
    let past : length front < c.args.position = omega (arith, number, c.len.ensures, c.if-number-next.false) in
    let off : c.args.position ≡ length front + 1 → reserved ≡ false = elim c.else-number-next-2.branch [ else-number-next-2-via-then-number-next-2+else-self w ↦ (λ e. grind arith) | else-number-next-2-via-else-number-next-2 w ↦ (λ e. grind arith) ] in
    c.contains_key.ensures ∙ ap (λ n. is_some (place_ahead ahead n)) number
    ∙ room_after front reserved ahead taken c.args.self.now c.args.position c.self.view_is past off
