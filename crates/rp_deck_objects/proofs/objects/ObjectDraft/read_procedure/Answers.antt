use Rattle.std.proofs.Common.{arith}
use Rattle.rp_object.specs.declared.program.Profile.{Profile}
use Rattle.rp_object.specs.declared.program.Profile.TheVariants.{Ravenscar, Jorvik}
use Rattle.rp_deck_objects.specs.declared.objects.Head.TheVariants.{Procedure}
use Rattle.rp_deck_objects.specs.ObjectLimits.{HeadKeeps}
use Rattle.rp_deck_objects.proofs.objects.ObjectDraft.read_procedure.Goals as goal

always_keeps : (profile : Profile) → HeadKeeps profile Procedure
always_keeps Ravenscar = tt
always_keeps Jorvik = tt

pub returns-clause-object : goal.returns-clause-object
returns-clause-object c = (
  (λ profile may. c.begin.ensures.object profile may (record {
    room = omega arith;
    new = c.in_ok-name.ensures.new;
    fits = λ limits counted. tt;
    keeps = always_keeps profile;
  })),
  c.begin.ensures.grows,
)
