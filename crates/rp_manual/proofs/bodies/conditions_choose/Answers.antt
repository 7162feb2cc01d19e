-- By what an `if` does.
use Rattle.std.proofs.Common.{ap, ◌∙◌, cond}
use Rattle.rp_object.specs.rp_body.specs.Meaning.{effects_of}
use Rattle.rp_manual.proofs.Assigning.{effect-If}
use Rattle.rp_manual.proofs.bodies.conditions_choose.Goals as goal

pub returns : goal.returns
returns c = record {
  first = λ arg out condition one other store is. effect-If arg out store condition one other ∙ ap (λ b. cond b (effects_of arg one.items store out) (effects_of arg other.items store out)) is;
  second = λ arg out condition one other store is. effect-If arg out store condition one other ∙ ap (λ b. cond b (effects_of arg one.items store out) (effects_of arg other.items store out)) is;
}
