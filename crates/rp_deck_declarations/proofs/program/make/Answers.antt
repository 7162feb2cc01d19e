use Rattle.std.proofs.lemmas.Result.{IfOk-weaker}
use Rattle.std.proofs.Common.{◌≡◌, true, length, arith, ap, sym, subst, ◌∙◌}
use Rattle.std.specs.Prelude.{All}
use Rattle.rp_words.specs.indexmap.specs.IndexMap.{values, index_map_len}
use Rattle.rp_words.specs.indexmap.specs.IndexSet.{index_set_len}
use Rattle.rp_object.specs.Program.{operations_of, IsPriority, KeepsProfile, is_handler}
use Rattle.rp_object.specs.declared.program.Declarations.{Declarations}
use Rattle.rp_object.specs.declared.program.Handler.{Handler}
use Rattle.rp_object.specs.declared.program.ObjectDeclaration.{ObjectDeclaration}
use Rattle.rp_object.specs.declared.program.TimingEvent.{TimingEvent}
use Rattle.rp_deck_declarations.specs.declared.deck_program.Task.{Task}
use Rattle.rp_deck_declarations.proofs.RightLemmas.{map_len, all_of_map, values_len, all_priorities, handlers_there}
use Rattle.rp_deck_declarations.proofs.program.make.Goals as goal

pub returns-then-draft-clause-declared : goal.returns-then-draft-clause-declared
returns-then-draft-clause-declared g c = IfOk-weaker c.tally.result _ _ (λ made all. all _ _ _ _) c.tally.ensures.declared

pub protected_objects-requires : goal.protected_objects-requires
protected_objects-requires g c =
    let draft = c.args.draft.now in
    let drafts = c.args.drafts.items in
    let declarations : Declarations = record {
      profile = c.profile.result;
      priorities = c.in_ok-priorities.priorities;
      objects = c.in_ok-objects.objects;
      interrupts = c.in_ok-interrupts.interrupts;
      timers = c.in_ok-timers.timers;
    } in
    let profile : g.profile ≡ c.profile.result = c.requires.1.1.1.0 ∙ sym c.profile.ensures in
    let objects : length declarations.objects.items ≡ index_set_len draft.objects = c.in_ok-objects.ensures.objects ∙ c.requires.1.1.0 c.if-draft.false in
    let tasks : length declarations.priorities.items ≡ index_map_len draft.tasks = ap length c.in_ok-priorities.ensures ∙ map_len (λ (task : Task). task.priority) (values draft.tasks) ∙ values_len draft.tasks in
    let interrupts : length declarations.interrupts.items ≡ index_map_len draft.interrupts = ap length c.in_ok-interrupts.ensures ∙ values_len draft.interrupts in
    let timers : length declarations.timers.items ≡ index_map_len draft.timers =
    sym (map_len (λ (event : TimingEvent). event.handler) declarations.timers.items) ∙ ap length c.in_ok-timers.ensures.handlers ∙ values_len draft.timers in
    let right = λ (h : Handler). is_handler declarations h ≡ true in
    record {
      task_count = omega (arith, tasks, c.requires.1.1.1.1.1.0);
      object_count = omega (arith, objects, c.requires.1.0);
      interrupt_count = omega (arith, interrupts, c.requires.1.1.1.1.1.1.0.few);
      timer_count = omega (arith, timers, c.requires.1.1.1.1.1.1.1.0.few);
      tasks = subst (λ l. All IsPriority l) (sym c.in_ok-priorities.ensures) (all_priorities (values draft.tasks));
      objects = c.in_ok-objects.ensures.fits;
      profile = subst (λ p. All (λ (object : ObjectDeclaration). KeepsProfile p (operations_of object)) declarations.objects.items) profile c.in_ok-objects.ensures.keeps;
      interrupts = subst (λ l. All right l) (sym c.in_ok-interrupts.ensures) (handlers_there declarations drafts (values draft.interrupts) c.in_ok-objects.ensures.text c.requires.1.1.1.1.1.1.1.1.0);
      timers = all_of_map right (λ (event : TimingEvent). event.handler) declarations.timers.items
          (subst (λ l. All right l) (sym c.in_ok-timers.ensures.handlers) (handlers_there declarations drafts (values draft.timers) c.in_ok-objects.ensures.text c.requires.1.1.1.1.1.1.1.1.1));
    }
