-- The ranges are those of its step, and the sender is that of a sound step.
use Rattle.std.proofs.Common.{ℕ, ◌≤◌, arith}
use Rattle.rp_base.specs.Config.{IsRightConfig}
use Rattle.rp_base.specs.Number.{IsNode}
use Rattle.rp_base.specs.declared.config.Config.{Config}
use Rattle.rp_agreement.specs.Answered.{setting_for}
use Rattle.rp_agreement.specs.Sound.{IsMember}
use Rattle.rp_agreement.proofs.NodeEffects.{below_eight, if_done, input_sound, cut_sound}
use Rattle.rp_agreement.proofs.RangeKeeping.{input_ranged, cut_input_ranged}
use Rattle.rp_agreement.proofs.sends.nodes_send_right_packets.Goals as goal

one_of_seven : (config : Config) (x : ℕ) → IsRightConfig config → IsMember config.nodes x → IsNode x
one_of_seven config x right member =
    let most : config.nodes ≤ 7 = right.nodes.1 in
    let least : x ≤ config.nodes = member.1 in
    (member.0, omega (arith, most, least))

pub returns-clause-input : goal.returns-clause-input
returns-clause-input g c = let m = g.M.Machine in λ config program x input done node sent right member sound ranged packets is resulted.
    let s = setting_for m.next m.answers m.begin config program in
    let within = input_ranged s right (λ actions all. c.replies_fit.ensures program actions all) x (node x) sent input done (one_of_seven config x right member) ranged packets is resulted in
    let step = if_done config.nodes x (node x) sent _ done (input_sound s x node sent input (below_eight config x right member) sound is) resulted in
    record { part = within.0; packets = within.1; own = step.step.from }

pub returns-clause-cut : goal.returns-clause-cut
returns-clause-cut g c = let m = g.M.Machine in λ config program x kept input done node sent right member sound ranged packets is resulted.
    let s = setting_for m.next m.answers m.begin config program in
    let within = cut_input_ranged s right (λ actions all. c.replies_fit.ensures program actions all) x kept (node x) sent input done (one_of_seven config x right member) ranged packets is resulted in
    let step = if_done config.nodes x (node x) sent _ done (cut_sound s x kept node sent input (below_eight config x right member) sound is) resulted in
    record { part = within.0; packets = within.1; own = step.step.from }
