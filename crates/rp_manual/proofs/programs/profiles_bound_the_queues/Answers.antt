-- By the declared object and the declared entry.
use Rattle.std.proofs.Common.{◌≡◌, subst, arith}
use Rattle.rp_object.specs.rp_body.specs.Store.{limits_of}
use Rattle.rp_object.specs.rp_entry.specs.declared.operations.Entry.{Entry}
use Rattle.rp_object.specs.rp_entry.specs.Operations.{EntryFits}
use Rattle.rp_object.specs.rp_entry.proofs.Naming.{all_at}
use Rattle.rp_object.specs.rp_entry.proofs.Queues.{index_there}
use Rattle.rp_object.specs.declared.program.ObjectDeclaration.{ObjectDeclaration}
use Rattle.rp_object.specs.declared.program.Profile.{Profile}
use Rattle.rp_object.specs.declared.program.Profile.TheVariants.{Ravenscar}
use Rattle.rp_object.specs.Program.{operations_of, DeclarationFits, KeepsProfile}
use Rattle.rp_manual.proofs.programs.profiles_bound_the_queues.Goals as goal

pub returns : goal.returns
returns c = record {
  ravenscar = λ program object index declared entry right is object_is entry_is.
      let keeps = all_at (λ (d : ObjectDeclaration). KeepsProfile program.profile (operations_of d)) program.objects.items object declared right.profile object_is in
      let ravenscar : KeepsProfile Ravenscar (operations_of declared) = subst (λ (p : Profile). KeepsProfile p (operations_of declared)) is keeps in
      let within = index_there (operations_of declared).entries.items index entry entry_is in
      let single : entry.longest ≡ 1 = all_at (λ (e : Entry). e.longest ≡ 1) (operations_of declared).entries.items index entry ravenscar.1 entry_is in
      (omega (arith, within.0, within.1, ravenscar.0), single);
  jorvik = λ program object index declared entry right object_is entry_is.
      let fits = (all_at DeclarationFits program.objects.items object declared right.objects object_is).operations in
      let within = index_there (operations_of declared).entries.items index entry entry_is in
      let limits = limits_of declared.components in
      let own = all_at (EntryFits limits) (operations_of declared).entries.items index entry fits.entries entry_is in
      (omega (arith, within.0, within.1, fits.entry_count), own.some_room, own.room);
}
