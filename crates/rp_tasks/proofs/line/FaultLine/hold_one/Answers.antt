use Rattle.std.proofs.Common.{◌≤◌, ◌∙◌, length, arith}
use Rattle.std.proofs.lemmas.Grind.{common_steps}
use Rattle.std.proofs.lemmas.List.{length-map}
use Rattle.rp_tasks.proofs.Holding.{none_added}
use Rattle.rp_tasks.proofs.line.FaultLine.hold_one.Goals as goal

pub returns-else-len-lt-ROOM : goal.returns-else-len-lt-ROOM
returns-else-len-lt-ROOM c =
    let within : length c.args.self.now.held ≤ 16 = grind (arith, common_steps, length-map) in
    let full : 16 ≤ length c.args.self.now.held = grind (arith, common_steps, length-map) in
    c.lose.ensures ∙ none_added c.args.packet.items c.args.self.now full within
