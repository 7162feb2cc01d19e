use Rattle.std.proofs.Common.{◌+◌, inl, refl, sym, subst, arith}
use Rattle.rp_agreement.specs.Ranges.{IsRangedWorld}
use Rattle.rp_world.proofs.Choosing.{nodes_of, nodes_seen}
use Rattle.rp_actors.proofs.Fields.{fields_of, sent_seen, setting, world, setting_by}
use Rattle.rp_world.proofs.NodeCuts.{IsStated, within, still_cut, answers_cut, stated_ok, stated_err}
use Rattle.rp_actors.proofs.Placing.{changed, placed_at}
use Rattle.rp_world.proofs.world.World.make_cut.Goals.{in-Ok-answer, in-Err-answer}
use Rattle.rp_world.proofs.world.World.make_cut.Goals as goal

pub step_to_cut-requires : goal.step_to_cut-requires
step_to_cut-requires g c =
    let ranged = subst (λ v. IsRangedWorld v.setup.config.nodes v.world) (sym c.self.view_is) c.requires.ranged in
    record { packets = ranged.packets }

pub returns-in-Err : goal.returns-in-Err
returns-in-Err g c =
    let f = fields_of g.M.Machine.next g.M.Machine.answers g.M.Machine.begin c.self.inside.messages c.self.invariant c.self.view_is in
    let none = c.in-Err.ensures.maker (setting_by f f.was) f.was.world (sym (sent_seen f)) (nodes_seen f c.deref.ensures.value) in
    record {
      answer = inl (record { resulted = none c.args.kept; unchanged = refl });
    }

pub remove-requires : goal.remove-requires
remove-requires g c =
    let f = fields_of g.M.Machine.next g.M.Machine.answers g.M.Machine.begin c.self.inside.messages c.self.invariant c.self.view_is in
    let one = c.in-Ok.ensures.maker (setting f) (world f) refl (nodes_of f c.deref.ensures.value) in
    omega (arith, within f one (placed_at c.get.ensures c.from-place.ensures), c.self.inside.nodes.ok.0)

pub invariant_of-self : goal.invariant_of-self
invariant_of-self g c =
    let f = fields_of g.M.Machine.next g.M.Machine.answers g.M.Machine.begin c.self.inside.messages c.self.invariant c.self.view_is in
    let one = c.in-Ok.ensures.maker (setting f) (world f) refl (nodes_of f c.deref.ensures.value) in
    let change = changed f.nodes c.remove.result c.cut-node.result.0 c.get.ensures c.from-place.ensures (within f one (placed_at c.get.ensures c.from-place.ensures)) c.remove.ensures.value c.remove.ensures.items c.put_back.ensures in
    still_cut f change one c.args.kept c.cut-node.result.1 c.cut-node.ensures.ok c.cut-node.ensures.err

pub returns : goal.returns
returns g c =
    let f = fields_of g.M.Machine.next g.M.Machine.answers g.M.Machine.begin c.self.inside.messages c.self.invariant c.self.view_is in
    let one = c.in-Ok.ensures.maker (setting f) (world f) refl (nodes_of f c.deref.ensures.value) in
    let change = changed f.nodes c.remove.result c.cut-node.result.0 c.get.ensures c.from-place.ensures (within f one (placed_at c.get.ensures c.from-place.ensures)) c.remove.ensures.value c.remove.ensures.items c.put_back.ensures in
    let cut = c.cut-node in
    let stated : IsStated (c.messages-first.result + 1) cut.result.1 c.match-answer.result =
    elim c.match-answer.branch [
      | in-Ok-answer b ↦ stated_ok b.in-Ok-answer.is b.result-is b.no_effect.ensures
      | in-Err-answer b ↦ stated_err _ b.in-Err-answer.is b.result-is
    ] in
    record {
      answer = answers_cut f change one c.args.kept cut.result.1 cut.ensures.ok cut.ensures.err c.messages-first.ensures.value c.match-answer.result stated;
    }
