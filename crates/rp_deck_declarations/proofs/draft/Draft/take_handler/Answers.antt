use Rattle.std.proofs.Common.{◌≡◌, List, Some, subst}
use Rattle.std.specs.Prelude.{slice_get}
use Rattle.rp_deck_objects.specs.declared.objects.ObjectDraft.{ObjectDraft}
use Rattle.rp_deck_objects.specs.ObjectLimits.{IsObject}
use Rattle.rp_deck_objects.specs.rp_deck_bodies.proofs.CountedLemmas.{at_place}
use Rattle.rp_deck_declarations.proofs.DeclaringLemmas.{read_at}
use Rattle.rp_deck_declarations.proofs.HandlerLemmas.{handled_by}
use Rattle.rp_deck_declarations.proofs.draft.Draft.take_handler.Goals as goal

pub returns-clause-handled : goal.returns-clause-handled
returns-clause-handled c =
    let items = c.args.self.now.drafts.items in
    let place = c.in_ok-place.place in
    let draft : ObjectDraft = c.in-Some.draft.now in
    let index = c.in-Some-procedure_named.index in
    let at : slice_get items place ≡ Some draft =
    subst (λ (l : List ObjectDraft). slice_get l place ≡ Some draft) c.deref.ensures.value (read_at c.deref.result.now place draft c.in-Some.ensures.lookup.3.0 c.in-Some.ensures.lookup.1) in
    λ profile kept. handled_by items place index.number draft at index.in_range.0 (c.in-Some-procedure_named.ensures.handled profile (at_place (IsObject profile) items place draft kept at))
