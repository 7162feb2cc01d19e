-- One event more, after the others.
use Rattle.std.proofs.Common.{[], ◌∷◌, ◌++◌, Bool, Some, None, refl, sym, ap, ◌∙◌, append-nil}
use Rattle.std.proofs.lemmas.List.Elements.{filter_map-append}
use Rattle.std.proofs.lemmas.Bool.{eq-eqb, ne_eqb}
use Rattle.std.specs.List.{cons_option}
use Rattle.std.specs.Prelude.{if◌then◌else◌}
use Rattle.rp_threads.specs.rp_model.specs.declared.event.Event.TheVariants.{Submit, Node}
use Rattle.rp_live.specs.Events.{call_by, calls_at}
use Rattle.rp_thread_laws.proofs.calls.each_call_is_made_by_its_task.Goals as goal

pub returns-clause-own : goal.returns-clause-own
returns-clause-own c = λ events task node object operation arg.
    filter_map-append (call_by task) events (Submit task node object operation arg ∷ [])
    ∙ ap (λ (b : Bool). calls_at events task ++ cons_option (if b then Some (record { node = node; object = object; operation = operation; arg = arg }) else None) []) (eq-eqb task task refl)

pub returns-clause-others : goal.returns-clause-others
returns-clause-others c = λ events task node object operation arg other apart.
    filter_map-append (call_by other) events (Submit task node object operation arg ∷ [])
    ∙ ap (λ (b : Bool). calls_at events other ++ cons_option (if b then Some (record { node = node; object = object; operation = operation; arg = arg }) else None) []) (ne_eqb task other (λ e. apart (sym e)))
    ∙ append-nil (calls_at events other)

pub returns-clause-steps : goal.returns-clause-steps
returns-clause-steps c = λ events step task.
    filter_map-append (call_by task) events (Node step ∷ []) ∙ append-nil (calls_at events task)
