-- One packet more, or the end.
use Rattle.std.proofs.Common.{◌≡◌, ◌∙◌, ◌≤◌, ◌<◌, ◌+◌, ◌-◌, ◌++◌, List, ℕ, length, drop, arith, refl, sym, ap, append_assoc, append-nil}
use Rattle.rp_world.specs.rp_model.specs.World.{part_at}
use Rattle.rp_run.specs.Output.{names_of}
use Rattle.rp_details.specs.Details.{found_lines, packets_lines}
use Rattle.rp_details.proofs.Texts.{packets_end, packets_next}
use Rattle.rp_details.proofs.packets.add_packets.Goals as goal

pub loop-number-init : goal.loop-number-init
loop-number-init g c = record { above = omega arith; so_far = refl }

pub loop-number-preserved : goal.loop-number-preserved
loop-number-preserved g c =
    let names = names_of c.args.tasks.now in
    let sent = c.args.cluster.now.world.sent in
    let number = c.loop-number.number in
    let text = c.loop-number.text.items in
    let one : 1 ≤ number = omega (arith, c.requires, c.loop-number.invariant.above) in
    let rest = packets_lines names (number + 1) (drop (number + 1 - 1) sent) in
    record {
      above = omega (arith, c.loop-number.invariant.above);
      so_far = ap (λ (l : List ℕ). l ++ rest) c.in_ok-add_found.ensures
          ∙ append_assoc text (found_lines names number (part_at sent number)) rest
          ∙ ap (λ (l : List ℕ). text ++ l) (sym (packets_next names sent number one))
          ∙ c.loop-number.invariant.so_far;
    }

pub returns : goal.returns
returns g c =
    let names = names_of c.args.tasks.now in
    let sent = c.args.cluster.now.world.sent in
    let number = c.loop-number.number in
    let text = c.loop-number.text.items in
    let past : length sent < number = omega arith in
    sym (append-nil text) ∙ ap (λ (l : List ℕ). text ++ l) (sym (packets_end names sent number past)) ∙ c.loop-number.invariant.so_far
