use Rattle.std.proofs.Common.{◌≡◌, Option, Some, List, [], ◌∷◌, ◌++◌, sym, ap, ◌∙◌}
use Rattle.std.specs.Option.{option_map}
use Rattle.rp_base.specs.declared.action.Action.{Action}
use Rattle.rp_server.proofs.Replying.{applies_one}
use Rattle.rp_server.proofs.apply.apply_next.Goals as goal

same_list : (xs ys : List Action) → Some xs ≡ Some ys → xs ≡ ys
same_list xs ys e = cc

pub returns-clause-more : goal.returns-clause-more
returns-clause-more g c _ =
    let log = c.args.log.now in
    let action = c.in-Some.action.now in
    let took : c.take.new.self.taken ≡ log.taken ++ action ∷ [] =
    same_list _ _ (c.take.ensures.taken ∙ ap (λ (ready : Option Action). option_map (λ action. log.taken ++ action ∷ []) ready) (sym c.in-Some.ensures.ready)) in
    applies_one g.M.Machine.next g.M.Machine.answers log c.take.new.self c.args.machine.now c.apply.new.self action c.apply.new.answers
    c.apply.ensures.applied c.apply.ensures.answers c.requires.taken took c.take.ensures.places
