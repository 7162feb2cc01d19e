-- The packages before those of the objects, one after another.
use Rattle.std.proofs.Common.{◌≡◌, ◌∙◌, ◌++◌, ℕ, List, Global, ap, append_assoc, rules, string_bytes}
use Rattle.std.specs.Prelude.{codes, String}
use Rattle.std.proofs.lemmas.Result.{IfOk-weaker}
use Rattle.rp_deck_declarations.specs.indexmap.specs.IndexMap.{keys}
use Rattle.rp_bind.specs.declared.lines.Language.TheVariants.{Ada}
use Rattle.rp_bind.specs.Packages.{ceilings_text, priorities_text, tasks_text, timers_text}
use Rattle.rp_bind_local.proofs.Adding.{after_five, after_four, after_two, pushed}
use Rattle.rp_bind.proofs.packages.write_ada_constants.Goals as goal

regrouped : (h p q c r i s t e : List ℕ) → (h ++ (p ++ (q ++ (c ++ r)))) ++ (i ++ (s ++ (t ++ e))) ≡ h ++ (p ++ (q ++ (c ++ (r ++ (i ++ (s ++ (t ++ e)))))))
regrouped h p q c r i s t e = simp append_assoc

pub returns : goal.returns
returns c =
    let declared = c.args.declared.now in
    let text = string_bytes c.args.text.now in
    let before_priorities = codes "\n   package Priorities_Of_Tasks is\n" in
    let priorities = priorities_text declared.tasks.entries in
    let before_ceilings = codes "   end Priorities_Of_Tasks;\n\n   package Ceilings_Of_Objects is\n" in
    let ceilings = ceilings_text declared.program declared.objects.keys in
    let before_interrupts = codes "   end Ceilings_Of_Objects;\n\n   package Interrupts_Of_This_Deck is\n" in
    let interrupts = tasks_text Ada (keys declared.interrupts) in
    let before_timers = codes "   end Interrupts_Of_This_Deck;\n\n   package Timing_Events_Of_This_Deck is\n" in
    let timers = timers_text declared.program (keys declared.timers) in
    let after_timers = codes "   end Timing_Events_Of_This_Deck;\n" in
    let objects : c.as_slice.result.now ≡ declared.objects.keys = search rules in
    let interrupt_names : c.as_slice-2.result.now ≡ keys declared.interrupts = search rules in
    let timer_names : c.as_slice-3.result.now ≡ keys declared.timers = search rules in
    let write_ceilings = c.in_ok-write_ceilings.ensures ∙ ap (λ (names : List (String Global)). string_bytes c.push_str-2.new.self ++ ceilings_text declared.program names) objects in
    let write_interrupts = c.in_ok-write_tasks.ensures ∙ ap (λ (names : List (String Global)). string_bytes c.push_str-3.new.self ++ tasks_text Ada names) interrupt_names in
    let write_timers = c.in_ok-write_timers.ensures ∙ ap (λ (names : List (String Global)). string_bytes c.push_str-4.new.self ++ timers_text declared.program names) timer_names in
    let first = after_five text before_priorities priorities before_ceilings ceilings before_interrupts c.in_ok-push_str.ensures.bytes c.in_ok-write_priorities.ensures c.in_ok-push_str-2.ensures.bytes write_ceilings c.in_ok-push_str-3.ensures.bytes in
    IfOk-weaker c.push_str-5.result _ _
    (λ r last. after_two text (before_priorities ++ (priorities ++ (before_ceilings ++ (ceilings ++ before_interrupts)))) (interrupts ++ (before_timers ++ (timers ++ after_timers))) first
    (after_four (string_bytes c.push_str-3.new.self) interrupts before_timers timers after_timers write_interrupts c.in_ok-push_str-4.ensures.bytes write_timers last)
    ∙ ap (λ (l : List ℕ). text ++ l) (regrouped before_priorities priorities before_ceilings ceilings before_interrupts interrupts before_timers timers after_timers))
    (pushed c.push_str-5.result (string_bytes c.write_timers.new.text) after_timers (string_bytes c.push_str-5.new.self) c.push_str-5.ensures.bytes)
