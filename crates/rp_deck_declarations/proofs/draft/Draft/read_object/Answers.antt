-- An object more.
use Rattle.std.proofs.Common.{rules, arith, refl, sym, subst}
use Rattle.std.specs.Prelude.{All, unwrap_or}
use Rattle.std.proofs.lemmas.Grind.{common_steps}
use Rattle.rp_object.specs.declared.program.Profile.TheVariants.{Ravenscar}
use Rattle.rp_words.specs.indexmap.specs.IndexMap.{values}
use Rattle.rp_deck_objects.specs.ObjectLimits.{IsObject}
use Rattle.rp_deck_declarations.proofs.HandlerLemmas.{handled_still}
use Rattle.rp_deck_objects.specs.rp_deck_bodies.proofs.ListLemmas.{all_last}
use Rattle.rp_deck_declarations.specs.Drafts.{object_line}
use Rattle.rp_words.proofs.TablesLemmas.{map_last}
use Rattle.rp_deck_declarations.proofs.draft.Draft.read_object.Goals as goal

pub returns-clause-draft : goal.returns-clause-draft
returns-clause-draft c =
    let self = c.args.self.now in
    let profile = unwrap_or self.profile Ravenscar in
    let kept = all_last (IsObject profile) self.drafts.items c.new.result c.requires.0.kept (c.new.ensures.object profile) in (
      record {
        nodes = search rules;
        tasks = search rules;
        objects = search rules;
        counted = grind (arith, common_steps);
        drafts = grind (arith, common_steps);
        kept = subst (λ l. All (IsObject profile) l) (sym c.in_ok-push.ensures.items) kept;
        interrupts = search rules;
        timers = search rules;
        interrupts_handled = handled_still self.drafts.items c.push.new.self.items c.new.result (values self.interrupts) c.in_ok-push.ensures.items c.requires.0.interrupts_handled;
        timers_handled = handled_still self.drafts.items c.push.new.self.items c.new.result (values self.timers) c.in_ok-push.ensures.items c.requires.0.timers_handled;
      },
      refl,
    )

pub returns-then-len-from-clause-read : goal.returns-then-len-from-clause-read
unfolding object_line
returns-then-len-from-clause-read c = grind (arith, common_steps)

pub returns-in_err-name-clause-read : goal.returns-in_err-name-clause-read
unfolding object_line
returns-in_err-name-clause-read c = grind (arith, common_steps)

pub returns-in_err-ceiling-clause-read : goal.returns-in_err-ceiling-clause-read
unfolding object_line
returns-in_err-ceiling-clause-read c = grind (arith, common_steps)

pub returns-in_err-end-clause-read : goal.returns-in_err-end-clause-read
unfolding object_line
returns-in_err-end-clause-read c = grind (arith, common_steps)

pub returns-in_err-insert_in_set-clause-read : goal.returns-in_err-insert_in_set-clause-read
unfolding object_line
returns-in_err-insert_in_set-clause-read c = grind (arith, common_steps)

pub returns-clause-read : goal.returns-clause-read
unfolding object_line
returns-clause-read c = grind (arith, common_steps, map_last)
