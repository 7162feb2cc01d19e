-- One packet more, or the end.
use Rattle.std.proofs.Common.{◌≡◌, ◌∙◌, ◌+◌, ◌-◌, ◌≤◌, ℕ, List, [], ◌∷◌, ◌++◌, length, drop, arith, sym, ap, append-nil}
use Rattle.std.proofs.lemmas.List.{drop_all}
use Rattle.rp_run.specs.rp_codec.specs.Message.{Message}
use Rattle.rp_chart.proofs.Charting.{one_more}
use Rattle.rp_chart.proofs.prospect.packets_from.Goals as goal

pub loop-number-init : goal.loop-number-init
loop-number-init g c = record {
  above = omega arith;
  so_far = ap (λ (l : List Message). l ++ drop (c.args.first - 1) c.args.cluster.now.world.sent) c.new-packets.ensures.items;
}

pub loop-number-preserved : goal.loop-number-preserved
loop-number-preserved g c =
    let sent = c.args.cluster.now.world.sent in
    let number = c.loop-number.number in
    let packets = c.loop-number.packets.items in
    let whole = drop (c.args.first - 1) sent in
    let next : number + 1 - 1 ≡ number = omega arith in
    record {
      above = omega (arith, c.loop-number.invariant.above);
      so_far =
          ap (λ (l : List Message). l ++ drop (number + 1 - 1) sent) c.in_ok-push.ensures.items
          ∙ ap (λ (n : ℕ). (packets ++ c.in-Some.packet ∷ []) ++ drop n sent) next
          ∙ one_more sent number c.in-Some.packet packets whole (sym c.in_ok-packet.ensures.packet ∙ c.in-Some.is) c.loop-number.invariant.so_far;
    }

pub returns : goal.returns
returns g c =
    let sent = c.args.cluster.now.world.sent in
    let number = c.loop-number.number in
    let packets = c.loop-number.packets.items in
    let past : length sent ≤ number - 1 = omega (arith, c.loop-number.invariant.above, c.messages-number-end.ensures.value) in
    sym (append-nil packets) ∙ ap (λ (l : List Message). packets ++ l) (sym (drop_all (number - 1) sent past)) ∙ c.loop-number.invariant.so_far
