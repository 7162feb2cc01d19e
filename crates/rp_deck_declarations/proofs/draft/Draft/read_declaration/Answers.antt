use Rattle.std.proofs.Common.{arith, refl}
use Rattle.std.specs.Prelude.{unwrap_or}
use Rattle.std.proofs.lemmas.Grind.{common_steps}
use Rattle.rp_words.specs.indexmap.specs.IndexMap.{values}
use Rattle.rp_object.specs.declared.program.Profile.TheVariants.{Ravenscar}
use Rattle.rp_deck_declarations.specs.Declarations.{IsNameTable, procedure_counts}
use Rattle.rp_deck_declarations.proofs.HandlerLemmas.{handled_more, with_handlers}
use Rattle.rp_deck_declarations.proofs.draft.Draft.read_declaration.Goals as goal

pub returns-in_ok-insert_in_map-in-Interrupt-clause-draft : goal.returns-in_ok-insert_in_map-in-Interrupt-clause-draft
returns-in_ok-insert_in_map-in-Interrupt-clause-draft c =
    let self = c.args.self.now in
    let d = c.requires.0 in
    let table : IsNameTable c.insert_in_map.new.table = grind (arith, common_steps) in
    let new = c.in_ok-name-in-Interrupt.ensures.handled (unwrap_or self.profile Ravenscar) d.kept in
    let handled = handled_more (procedure_counts self.drafts.items) (values self.interrupts) (values c.insert_in_map.new.table) c.in_ok-name-in-Interrupt.handler c.in_ok-insert_in_map-in-Interrupt.ensures.values d.interrupts_handled new in
    (with_handlers self (record self { interrupts = c.insert_in_map.new.table }) refl d table d.timers handled d.timers_handled, refl)

pub returns-in_ok-insert_in_map-in-Timer-clause-draft : goal.returns-in_ok-insert_in_map-in-Timer-clause-draft
returns-in_ok-insert_in_map-in-Timer-clause-draft c =
    let self = c.args.self.now in
    let d = c.requires.0 in
    let table : IsNameTable c.insert_in_map-in-Timer.new.table = grind (arith, common_steps) in
    let new = c.in_ok-name-in-Timer.ensures.handled (unwrap_or self.profile Ravenscar) d.kept in
    let handled = handled_more (procedure_counts self.drafts.items) (values self.timers) (values c.insert_in_map-in-Timer.new.table) c.in_ok-name-in-Timer.handler c.in_ok-insert_in_map-in-Timer.ensures.values d.timers_handled new in
    (with_handlers self (record self { timers = c.insert_in_map-in-Timer.new.table }) refl d d.interrupts table d.interrupts_handled handled, refl)
