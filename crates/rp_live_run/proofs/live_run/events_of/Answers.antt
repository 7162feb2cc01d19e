-- One line more asks for an event, or for none.
use Rattle.std.proofs.Common.{◌≡◌, ℕ, ◌+◌, ◌<◌, Option, Some, None, List, [], ◌∷◌, ◌++◌, length, take, get_or, filter_map, sym, ap, ◌∙◌, arith, append-nil}
use Rattle.std.specs.Prelude.{option_to_list}
use Rattle.std.proofs.lemmas.List.{take_more}
use Rattle.std.proofs.lemmas.List.Elements.{filter_map-append}
use Rattle.rp_output.specs.rp_model.specs.declared.event.Event.{Event}
use Rattle.rp_deck.specs.declared.deck.Line.{Line}
use Rattle.rp_live_run.specs.LiveRun.{event_of}
use Rattle.rp_live_run.proofs.live_run.events_of.Goals as goal
use Rattle.rp_live_run.proofs.live_run.events_of.Goals.{in-Some+in_ok-push, in_default}

one_kept : {X Y : Type 0} (h : X → Option Y) (x : X) (found : Option Y) → h x ≡ found → filter_map h (x ∷ []) ≡ option_to_list found
one_kept h x None is = ap (λ o. filter_map (λ _. o) (x ∷ [])) is
one_kept h x (Some y) is = ap (λ o. filter_map (λ _. o) (x ∷ [])) is

-- what is kept of one item more
more_kept : {X Y : Type 0} (h : X → Option Y) (xs : List X) (k : ℕ) (x : X) (found : Option Y) → k < length xs → x ≡ get_or xs k x → h x ≡ found
    → filter_map h (take (k + 1) xs) ≡ filter_map h (take k xs) ++ option_to_list found
more_kept {X} {Y} h xs k x found within is found_is =
    ap (filter_map h) (take_more xs k x within ∙ ap (λ (z : X). take k xs ++ z ∷ []) (sym is)) ∙ filter_map-append h (take k xs) (x ∷ []) ∙ ap (λ (l : List Y). filter_map h (take k xs) ++ l) (one_kept h x found found_is)

pub loop-line-preserved : goal.loop-line-preserved
loop-line-preserved c =
    let more = more_kept (λ (line : Line). event_of line.command) c.args.script.now c.loop-line.line-index c.line-item.result in
    let so_far = c.loop-line.invariant in
    elim c.match-event_of.branch [
      | in-Some+in_ok-push w ↦
          ap (λ v. v.items) w.events-is ∙ w.in_ok-push.ensures.items ∙ ap (λ (l : List Event). l ++ w.in-Some.event ∷ []) so_far
          ∙ sym (more (Some w.in-Some.event) (omega (arith, c.loop-line-test.true)) c.line-item.is (sym w.in-Some.ensures))
      | in_default w ↦
          ap (λ v. v.items) w.events-is ∙ so_far ∙ sym (more None (omega (arith, c.loop-line-test.true)) c.line-item.is (sym w.in_default.ensures) ∙ append-nil _)
    ]
