use Rattle.std.proofs.Common.{◌≡◌, drop, find}
use Rattle.rp_base.specs.Proposals.{without_proposal}
use Rattle.rp_base.specs.Records.{applied_of}
use Rattle.rp_machine.specs.Replay.{counted_of}
use Rattle.rp_model.specs.Pending.{is_free_item}
use Rattle.rp_server.proofs.server.Roles.first_free.Given as goal

-- none was found so far, so what the rest gives is what all give
abbrev pub invariant-loop-item : goal.invariant-loop-item
invariant-loop-item g l =
    let kept = counted_of g.M.Machine.next g.M.Machine.answers l.self.begin (applied_of l.self.records) in
    let test = is_free_item kept (without_proposal l.self.running.proposals l.position) in
    find test (drop l.item-index l.items) ≡ find test l.items
