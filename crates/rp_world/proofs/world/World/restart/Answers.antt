use Rattle.std.proofs.Common.{inl, refl, ap, arith}
use Rattle.rp_model.specs.World.{restarts}
use Rattle.rp_world.proofs.Ending.{none_seen}
use Rattle.rp_actors.proofs.Fields.{fields_of}
use Rattle.rp_world.proofs.Leaving.{still_by_restart, restart_ok, restart_err}
use Rattle.rp_actors.proofs.Placing.{changed, placed_at}
use Rattle.rp_world.proofs.world.World.restart.Goals.{in-Ok, in-Err}
use Rattle.rp_world.proofs.world.World.restart.Goals as goal

pub returns-then-place-len : goal.returns-then-place-len
returns-then-place-len g c =
    let f = fields_of g.M.Machine.next g.M.Machine.answers g.M.Machine.begin c.self.inside.messages c.self.invariant c.self.view_is in
    let none = none_seen f (placed_at c.get.ensures c.from-place.ensures) (omega (arith, c.if-place-len.true, c.len.ensures, c.self.inside.nodes.ok.0)) in
    record { answer = inl (record { resulted = ap (restarts f.was.world c.args.node) none; unchanged = refl }) }

pub invariant_of-self : goal.invariant_of-self
invariant_of-self g c =
    let f = fields_of g.M.Machine.next g.M.Machine.answers g.M.Machine.begin c.self.inside.messages c.self.invariant c.self.view_is in
    let change = changed f.nodes c.remove-stopped.result c.restart-node.result.0 c.get.ensures c.from-place.ensures (omega (arith, c.if-place-len.false, c.len.ensures, c.self.inside.nodes.ok.0)) c.remove-stopped.ensures.value c.remove-stopped.ensures.items c.put_back.ensures in
    still_by_restart f change c.restart-node.result.1 c.restart-node.ensures.ok c.restart-node.ensures.err

pub returns : goal.returns
returns g c =
    let f = fields_of g.M.Machine.next g.M.Machine.answers g.M.Machine.begin c.self.inside.messages c.self.invariant c.self.view_is in
    let change = changed f.nodes c.remove-stopped.result c.restart-node.result.0 c.get.ensures c.from-place.ensures (omega (arith, c.if-place-len.false, c.len.ensures, c.self.inside.nodes.ok.0)) c.remove-stopped.ensures.value c.remove-stopped.ensures.items c.put_back.ensures in
    let restart = c.restart-node.ensures in
    record {
      answer = elim c.match-found.branch [
        | in-Ok b ↦ restart_ok f change b.in-Ok.is b.result-is restart.ok c.messages-first.ensures.value b.opened.ensures
        | in-Err b ↦ restart_err f change b.in-Err.is b.result-is restart.err restart.rests restart.why
      ];
    }
