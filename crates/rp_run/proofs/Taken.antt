-- What the effect of an event settles, and what is printed of it where that is little.
use Rattle.std.proofs.Common.{◌≡◌, ◌∙◌, ◌||◌, ℕ, ◌-◌, ◌++◌, drop, false, Option, List, [], append_assoc, refl, sym, ap}
use Rattle.std.proofs.lemmas.Bool.{or_parts}
use Rattle.std.proofs.lemmas.List.Concat.{flat_map-append}
use Rattle.rp_model.specs.World.{World}
use Rattle.rp_output.specs.FaultMessage.{with_line_feed}
use Rattle.rp_model.specs.declared.effect.Dropped.{Dropped}
use Rattle.rp_model.specs.declared.effect.Dropped.TheVariants.{No, Full, Foreign}
use Rattle.rp_model.specs.declared.effect.Effect.{Effect}
use Rattle.rp_model.specs.declared.event.Event.{Event}
use Rattle.rp_model.specs.declared.event.Event.TheVariants.{Submit, Again, Node, Cut, Stop, Restart}
use Rattle.rp_run.specs.Output.{is_among, message_list, is_restart, is_full, opened_notes, dropped_notes, traced_notes, taken_items, node_of_event, names_of}
use Rattle.rp_run.specs.Items.{Note, note_line, notes_text, items_text}
use Rattle.rp_run.specs.Runs.{printed_text}
use Rattle.rp_run.specs.Settled.{is_settled}
use Rattle.rp_run.specs.declared.options.RunOptions.{RunOptions}
use Rattle.rp_run.specs.declared.settled.Settled.{Settled}

-- a message that is settled, by the list of it
pub settled_alike : (before after : Settled) (message : Option ℕ) (messages : List ℕ) → message_list message ≡ messages
    → ((m : ℕ) → is_settled after m ≡ (is_among (message_list message) m || is_settled before m)) → (m : ℕ) → is_settled after m ≡ (is_among messages m || is_settled before m)
settled_alike before after message messages same settles = λ m. settles m ∙ ap (λ (l : List ℕ). is_among l m || is_settled before m) same

-- nothing is printed of an event but the reply that a task takes
unopened : (event : Event) (opened : Option (ℕ × ℕ)) → is_restart event ≡ false → opened_notes event opened ≡ []
unopened (Submit task node object operation arg) opened isnt = refl
unopened (Again task node) opened isnt = refl
unopened (Node step) opened isnt = refl
unopened (Cut step kept) opened isnt = refl
unopened (Stop node) opened isnt = refl
unopened (Restart node) opened isnt = absurd cc

not_full : (place : Option ℕ) (dropped : Dropped) → is_full dropped ≡ false → dropped_notes place dropped ≡ []
not_full place No isnt = refl
not_full place Full isnt = absurd cc
not_full place Foreign isnt = refl

pub just_taken : (options : RunOptions) (world : World) (event : Event) (effect : Effect) → (options.traced || (is_restart event || is_full effect.dropped)) ≡ false
    → items_text (taken_items (names_of options.tasks.now) effect.taken) ≡ printed_text options world event effect
just_taken options world event effect none =
    let parts = or_parts options.traced (is_restart event || is_full effect.dropped) none in
    let others = or_parts (is_restart event) (is_full effect.dropped) parts.1 in
    let place = node_of_event world.sent event in
    sym (rw (parts.0, unopened event effect.opened others.0, not_full place effect.dropped others.1) refl)

-- What is printed of the effect of an event, part by part: the packets, the restart, the pending
-- item that was dropped, and the reply.
pub whole_is : (options : RunOptions) (world : World) (event : Event) (effect : Effect)
    → notes_text (traced_notes options.traced (names_of options.tasks.now) effect.first (drop (effect.first - 1) world.sent))
    ++ (notes_text (opened_notes event effect.opened)
    ++ (notes_text (dropped_notes (node_of_event world.sent event) effect.dropped) ++ items_text (taken_items (names_of options.tasks.now) effect.taken)))
    ≡ printed_text options world event effect
whole_is options world event effect =
    let names = names_of options.tasks.now in
    let line = λ (note : Note). with_line_feed (note_line note) in
    let traced = traced_notes options.traced names effect.first (drop (effect.first - 1) world.sent) in
    let opened = opened_notes event effect.opened in
    let dropped = dropped_notes (node_of_event world.sent event) effect.dropped in
    let taken = items_text (taken_items names effect.taken) in
    sym (
    ap (λ (l : List ℕ). l ++ taken) (flat_map-append line traced (opened ++ dropped) ∙ ap (λ (l : List ℕ). notes_text traced ++ l) (flat_map-append line opened dropped))
    ∙ append_assoc (notes_text traced) (notes_text opened ++ notes_text dropped) taken
    ∙ ap (λ (l : List ℕ). notes_text traced ++ l) (append_assoc (notes_text opened) (notes_text dropped) taken))
