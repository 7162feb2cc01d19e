-- The start is as declared.
use Rattle.std.proofs.Common.{List, length, map, ap, sym, subst, ◌∙◌}
use Rattle.std.proofs.lemmas.List.{length-map}
use Rattle.rp_object.specs.declared.program.ObjectDeclaration.{ObjectDeclaration}
use Rattle.rp_object.specs.declared.program.TimingEvent.{TimingEvent}
use Rattle.rp_object.specs.declared.program.Declarations.{Declarations}
use Rattle.rp_object.specs.Program.{IsProgram}
use Rattle.rp_object.specs.State.{first_object, unset}
use Rattle.rp_object.proofs.Starting.{objects_first, starts_so}
use Rattle.rp_object.proofs.objects.Objects.start.Goals as goal

pub invariant_of-result : goal.invariant_of-result
invariant_of-result c =
    let shared = c.in_ok-declarations.ensures.shared in
    let first = c.in_ok-objects.ensures ∙ ap (λ (l : List ObjectDeclaration). map first_object l) (c.deref-2.ensures.value ∙ ap (λ (p : Declarations). p.objects.items) c.deref.ensures) in
    let times = c.in_ok-timers.ensures ∙ ap (λ (l : List TimingEvent). map unset l) (c.deref-4.ensures.value ∙ ap (λ (p : Declarations). p.timers.items) c.deref-3.ensures) in
    objects_first _ _ _ (subst IsProgram (sym shared) c.args.program.now.right) first (ap length times ∙ length-map _ unset)

pub returns : goal.returns
returns c =
    let shared = c.in_ok-declarations.ensures.shared in
    let first = c.in_ok-objects.ensures ∙ ap (λ (l : List ObjectDeclaration). map first_object l) (c.deref-2.ensures.value ∙ ap (λ (p : Declarations). p.objects.items) c.deref.ensures) in
    let times = c.in_ok-timers.ensures ∙ ap (λ (l : List TimingEvent). map unset l) (c.deref-4.ensures.value ∙ ap (λ (p : Declarations). p.timers.items) c.deref-3.ensures) in
    starts_so _ _ _ _ shared first times
