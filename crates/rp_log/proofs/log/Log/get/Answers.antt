use Rattle.std.proofs.Common.{◌≡◌, ◌≤◌, suc, Some, None, length, ap, sym, ◌∙◌, arith}
use Rattle.std.specs.List.{slice_get}
use Rattle.std.proofs.lemmas.Grind.{common_steps}
use Rattle.rp_log.specs.Contents.{action_at}
use Rattle.rp_log.specs.Holding.{action_ahead}
use Rattle.rp_log.proofs.Views.{seen, map_missed, found_within, missed_past, action_front, action_after}
use Rattle.rp_log.proofs.log.Log.get.Goals as goal

pub returns-in-Some : goal.returns-in-Some
returns-in-Some c =
    let front = c.self.inside.front.items in
    let reserved = c.self.inside.next_reserved in
    let ahead = c.self.inside.ahead.entries in
    let taken = c.self.inside.taken in
    let k = c.from.result in
    let at : suc k ≡ c.args.position = omega (arith, c.from.ensures, c.get.ensures.value, c.get.ensures.in_range) in
    let found : slice_get front k ≡ Some c.in-Some.action.now = grind (arith, common_steps) in
    sym (action_front front reserved ahead taken k (found_within front k c.in-Some.action.now found) ∙ found)
    ∙ ap (action_at (seen front reserved ahead taken)) at ∙ ap (λ log. action_at log c.args.position) c.self.view_is

pub returns : goal.returns
returns c =
    let front = c.self.inside.front.items in
    let reserved = c.self.inside.next_reserved in
    let ahead = c.self.inside.ahead.entries in
    let taken = c.self.inside.taken in
    let k = c.from.result in
    let at : suc k ≡ c.args.position = omega (arith, c.from.ensures, c.get.ensures.value, c.get.ensures.in_range) in
    let missed : slice_get front k ≡ None = sym c.get-2.ensures ∙ map_missed (λ x. x.now) c.get-2.result (λ a found. c.in_default.not-Some a found) in
    let past : length front ≤ k = missed_past front k missed in
    let is : c.from-2.result ≡ c.args.position = omega (arith, c.from-2.ensures, c.get-3.ensures.value) in
    c.learned_at.ensures ∙ ap (action_ahead ahead) is
    ∙ sym (action_after front reserved ahead taken c.args.position (omega arith) c.self.invariant.gap)
    ∙ ap (λ log. action_at log c.args.position) c.self.view_is
