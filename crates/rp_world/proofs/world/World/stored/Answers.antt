use Rattle.std.proofs.Common.{◌-◌, ◌≤◌, ℕ, Result, Err, length, refl, sym, subst}
use Rattle.std.proofs.lemmas.Bool.{ltb-false}
use Rattle.rp_base.specs.declared.fault.Fault.{Fault}
use Rattle.rp_base.specs.declared.fault.Fault.TheVariants.{BadConfig}
use Rattle.rp_actors.specs.Steps.{IsStored}
use Rattle.rp_world.proofs.Asked.{stored_of}
use Rattle.rp_world.proofs.Ending.{none_seen}
use Rattle.rp_actors.proofs.Fields.{fields_of}
use Rattle.rp_actors.proofs.Placing.{found_in, placed_at}
use Rattle.rp_world.proofs.world.World.stored.Goals as goal

pub returns-in-Some : goal.returns-in-Some
returns-in-Some g c =
    let f = fields_of g.M.Machine.next g.M.Machine.answers g.M.Machine.begin c.self.inside.messages c.self.invariant c.self.view_is in
    let at = found_in c.in-Some.node.now c.deref.ensures.value c.get.ensures c.from.ensures c.in-Some.ensures.lookup.0 c.in-Some.ensures.lookup.1 in
    stored_of f at c.stored.result c.stored.ensures

pub returns-in-None : goal.returns-in-None
returns-in-None g c =
    let f = fields_of g.M.Machine.next g.M.Machine.answers g.M.Machine.begin c.self.inside.messages c.self.invariant c.self.view_is in
    let i = c.from.result - 1 in
    let past : length f.nodes ≤ i = subst (λ l. length l ≤ i) c.deref.ensures.value (ltb-false i (length c.deref.result.now) (sym c.in-None.ensures.lookup.0)) in
    subst (IsStored (let r : Result ℕ Fault = Err BadConfig in r)) (sym (none_seen f (placed_at c.get.ensures c.from.ensures) past)) refl
