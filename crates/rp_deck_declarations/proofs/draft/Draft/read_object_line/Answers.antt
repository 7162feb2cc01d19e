-- A line of the last object.
use Rattle.std.proofs.Common.{◌≡◌, ◌+◌, Some, Ok, List, length, rules, arith, refl, ap, sym, ◌∙◌}
use Rattle.std.specs.Prelude.{slice_get, unwrap_or}
use Rattle.std.proofs.lemmas.Grind.{common_steps}
use Rattle.std.proofs.lemmas.List.Elements.{All-set}
use Rattle.rp_words.specs.indexmap.specs.IndexMap.{values}
use Rattle.rp_object.specs.declared.program.Profile.TheVariants.{Ravenscar}
use Rattle.rp_deck_objects.specs.ObjectLimits.{IsObject}
use Rattle.rp_deck_declarations.proofs.HandlerLemmas.{handled_grown}
use Rattle.rp_object.specs.declared.program.Profile.{Profile}
use Rattle.rp_words.specs.Ahead.{text_of}
use Rattle.rp_deck_objects.specs.ObjectViews.{object_text}
use Rattle.rp_deck_declarations.specs.DraftViews.{draft_text}
use Rattle.rp_deck_objects.specs.Objects.{ObjectText, object_step}
use Rattle.rp_deck_declarations.proofs.DeclaringLemmas.{object_line_is, read_at, last_is, drafts_set}
use Rattle.rp_deck_declarations.proofs.draft.Draft.read_object_line.Goals as goal

pub returns-clause-read : goal.returns-clause-read
returns-clause-read c =
    let d = draft_text c.args.self.now in
    let items = c.args.self.now.drafts.items in
    let last = c.in-Some.last in
    let old = c.index_mut-object.result.now in
    let new = c.read_line.new.self in
    let place : last + 1 ≡ length items = search rules in
    let here : slice_get items last ≡ Some old = read_at items last old (omega arith) c.index_mut-object.ensures.value in
    object_line_is d (object_text old) (object_text new) (text_of c.args.line) (last_is items (length items) last old refl place here)
    (ap (λ (p : Profile). object_step p (object_text old) (text_of c.args.line)) (sym c.profile-profile.ensures) ∙ c.in_ok-read_line.ensures.read)
    ∙ ap (λ (l : List ObjectText). Ok (record d { drafts = l })) (sym (drafts_set items last new place))

pub returns-clause-draft : goal.returns-clause-draft
returns-clause-draft c =
    let self = c.args.self.now in
    let items = self.drafts.items in
    let last = c.in-Some.last in
    let old = c.index_mut-object.result.now in
    let new = c.read_line.new.self in
    let profile = unwrap_or self.profile Ravenscar in
    let here : slice_get items last ≡ Some old = read_at items last old (omega arith) c.index_mut-object.ensures.value in
    let object : IsObject profile new = search rules in (
      record {
        nodes = search rules;
        tasks = search rules;
        objects = search rules;
        counted = grind (arith, common_steps);
        drafts = grind (arith, common_steps);
        kept = All-set (IsObject profile) items last new object c.requires.kept;
        interrupts = search rules;
        timers = search rules;
        interrupts_handled = handled_grown items last old new (values self.interrupts) here c.in_ok-read_line.ensures.grows c.requires.interrupts_handled;
        timers_handled = handled_grown items last old new (values self.timers) here c.in_ok-read_line.ensures.grows c.requires.timers_handled;
      },
      refl,
    )
