use Rattle.std.proofs.Common.{◌≡◌, ◌+◌, ◌<◌, length, ap, subst, sym, ◌∙◌, arith}
use Rattle.std.specs.Prelude.{is_some}
use Rattle.rp_log.specs.Contents.{Contents, IsLearned, action_at}
use Rattle.rp_log.specs.Holding.{action_ahead}
use Rattle.rp_log.proofs.Views.{learned_below, action_after}
use Rattle.rp_log.proofs.log.Log.is_learned.Goals as goal

pub returns-then-from-len : goal.returns-then-from-len
returns-then-from-len c =
    let front = c.self.inside.front.items in
    let within : c.args.position < length front + 1 = omega (arith, c.from.ensures, c.get.ensures.value, c.len.ensures, c.if-from-len.true) in
    sym (subst (λ (log : Contents). IsLearned log c.args.position) c.self.view_is
    (learned_below front c.self.inside.next_reserved c.self.inside.ahead.entries c.self.inside.taken c.args.position (omega (arith, c.get.ensures.in_range)) within))

pub returns : goal.returns
returns c =
    let front = c.self.inside.front.items in
    let ahead = c.self.inside.ahead.entries in
    let past : length front < c.args.position = omega (arith, c.from.ensures, c.get.ensures.value, c.len.ensures, c.if-from-len.false) in
    let number : c.from-2.result ≡ c.args.position = omega (arith, c.from-2.ensures, c.get-2.ensures.value) in
    c.is_some.ensures ∙ ap is_some (c.learned_at.ensures ∙ ap (action_ahead ahead) number
    ∙ sym (action_after front c.self.inside.next_reserved ahead c.self.inside.taken c.args.position past c.self.invariant.gap)
    ∙ ap (λ (log : Contents). action_at log c.args.position) c.self.view_is)
