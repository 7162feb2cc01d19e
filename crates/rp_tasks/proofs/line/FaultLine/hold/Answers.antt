use Rattle.std.proofs.Common.{◌≡◌, ◌%◌, ◌<◌, ◌≤◌, ◌∙◌, length, arith}
use Rattle.std.proofs.lemmas.Grind.{common_steps}
use Rattle.std.proofs.lemmas.List.{length-map}
use Rattle.rp_tasks.proofs.Holding.{none_accepted, two_accepted}
use Rattle.rp_tasks.proofs.line.FaultLine.hold.Goals as goal

pub returns-in-0-clause-ok : goal.returns-in-0-clause-ok
returns-in-0-clause-ok c =
    let within : length c.args.self.now.held ≤ 16 = grind (arith, common_steps, length-map) in
    c.lose.ensures ∙ none_accepted c.args.word c.args.packet.items c.args.self.now c.in-0.is within

pub returns-in_ok-copy-in-2-clause-ok : goal.returns-in_ok-copy-in-2-clause-ok
returns-in_ok-copy-in-2-clause-ok c =
    let within : length c.args.self.now.held ≤ 16 = grind (arith, common_steps, length-map) in
    let low : 2 ≤ c.args.word % 16 = omega arith in
    let high : c.args.word % 16 < 4 = omega arith in
    let both = two_accepted c.args.word c.args.packet.items c.args.self.now low high within in
    let copied : c.in_ok-copy-in-2.copy.items ≡ c.args.packet.items = c.in_ok-copy-in-2.ensures.copy ∙ c.as_slice.ensures.value in
    rw (c.hold_one-in-2.ensures, c.hold_one.ensures, copied, c.copy_of.ensures.same) both
