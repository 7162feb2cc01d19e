-- The parts of the body, one after another.
use Rattle.std.proofs.Common.{◌≡◌, ◌∙◌, ◌++◌, ℕ, List, string_bytes, ap, append_assoc}
use Rattle.rp_bind_local.specs.Bodies.{after_calls, all_calls_text, before_calls, before_interrupts, before_objects, before_timers, interrupts_text, objects_text, timers_text}
use Rattle.rp_bind_local.proofs.Adding.{after_five, after_four, after_two}
use Rattle.rp_bind_local.proofs.body.local_body.Goals as goal

regrouped : (h o e t i n c a z : List ℕ) → (h ++ (o ++ (e ++ (t ++ i)))) ++ (n ++ (c ++ (a ++ z))) ≡ h ++ (o ++ (e ++ (t ++ (i ++ (n ++ (c ++ (a ++ z)))))))
regrouped h o e t i n c a z = simp append_assoc

pub returns : goal.returns
returns c =
    let declared = c.args.declared.now in
    let text = string_bytes c.new-text.result in
    let first = after_five text before_objects (objects_text declared) before_timers (timers_text declared.program) before_interrupts c.in_ok-push_str.ensures.bytes c.in_ok-add_objects.ensures c.in_ok-push_str-2.ensures.bytes c.in_ok-add_timers.ensures c.in_ok-push_str-3.ensures.bytes in
    let second = after_four (string_bytes c.push_str-3.new.self) (interrupts_text declared.program) before_calls (all_calls_text declared) after_calls c.in_ok-add_interrupts.ensures c.in_ok-push_str-4.ensures.bytes c.in_ok-add_all_calls.ensures c.in_ok-push_str-5.ensures.bytes in
    after_two text (before_objects ++ (objects_text declared ++ (before_timers ++ (timers_text declared.program ++ before_interrupts)))) (interrupts_text declared.program ++ (before_calls ++ (all_calls_text declared ++ after_calls))) first second
    ∙ ap (λ (t : List ℕ). t ++ ((before_objects ++ (objects_text declared ++ (before_timers ++ (timers_text declared.program ++ before_interrupts)))) ++ (interrupts_text declared.program ++ (before_calls ++ (all_calls_text declared ++ after_calls))))) c.new-text.ensures.bytes
    ∙ regrouped before_objects (objects_text declared) before_timers (timers_text declared.program) before_interrupts (interrupts_text declared.program) before_calls (all_calls_text declared) after_calls
