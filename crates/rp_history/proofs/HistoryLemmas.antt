-- One step more of a history.
use Rattle.std.proofs.Common.{◌≡◌, ◌∙◌, ℕ, zero, suc, ◌+◌, ◌≤◌, ◌^◌, Bool, true, false, Option, Some, None, Result, Ok, Err, OnOk, List, [], ◌∷◌, ◌++◌, length, map, drop, arith, refl, sym, ap, subst}
use Rattle.std.proofs.lemmas.List.{map-append, length-map, length-drop}
use Rattle.std.proofs.lemmas.Option.{slice_get_within}
use Rattle.rp_model.specs.rp_base.specs.declared.fault.Fault.{Fault}
use Rattle.rp_model.specs.rp_codec.specs.Message.{Message}
use Rattle.rp_drawing.specs.Ways.{AddsMoment, AreDown, AreWays, IsEndingWithin, row_of}
use Rattle.rp_drawing.specs.declared.sketch.Ending.{Ending}
use Rattle.rp_drawing.specs.declared.sketch.Label.{Label}
use Rattle.rp_drawing.specs.declared.sketch.Moment.{Moment}
use Rattle.rp_drawing.specs.declared.sketch.Row.{Row}
use Rattle.rp_drawing.specs.declared.sketch.Sketch.{Sketch}
use Rattle.rp_model.specs.Effect.{Setting}
use Rattle.rp_model.specs.World.{World, opening_world, part_at}
use Rattle.rp_model.specs.declared.event.Event.{Event}
use Rattle.rp_history.specs.Histories.{Happening, HasMoment, HistoryStep, IsStepFrom, Leads, IsHistory, IsDrawable, IsSketchOf, ending_of, ending_at, ending_by, delivered_by, HappensBy, LabelText, ending_within, is_next_within, item_ending, label_text, label_within, loss_of, lost_of}
use Rattle.rp_history.specs.Views.{sending_of}
use Rattle.rp_history.specs.declared.stage.Stage.{Stage}

-- ---- what is ended was sent before

message_within : (sent : List Message) (number : ℕ) (m : Message) → part_at sent number ≡ Some m → (1 ≤ number) × (number ≤ length sent)
message_within sent zero m there = absurd (cc)
message_within sent (suc k) m there = let below = slice_get_within sent k m there in (omega arith, omega (arith, below))

ending_of_within : (w : World) (number : ℕ) (found : Option Message) → part_at w.sent number ≡ found → IsEndingWithin (length w.sent) (ending_of w number found)
ending_of_within w number None there = tt
ending_of_within w number (Some m) there = message_within w.sent number m there

ending_at_within : (w : World) (number : Option ℕ) → IsEndingWithin (length w.sent) (ending_at w number)
ending_at_within w None = tt
ending_at_within w (Some number) = ending_of_within w number (part_at w.sent number) refl

pub ending_was_sent : (w : World) (event : Event) → IsEndingWithin (length w.sent) (ending_by w event)
ending_was_sent w event = ending_at_within w (delivered_by event)

-- also in the part that is drawn
pub drawn_was_sent : (b : Bool) (n : ℕ) (ending : Option Ending) → IsEndingWithin n ending → IsEndingWithin n (ending_within b ending)
drawn_was_sent true n ending is = is
drawn_was_sent false n ending is = tt

-- ---- one step more

module _ {S : Type 0} (s : Setting S) (stage : Stage) where
  lead_more : (n : ℕ) (w : World) (steps : List HistoryStep) (last : World) (step : HistoryStep) → Leads s stage n w steps last → IsStepFrom s stage (n + length steps) last step
      → Leads s stage n w (steps ++ step ∷ []) step.after
  lead_more n w [] last step lead is =
      let here : n + 0 ≡ n = omega arith in
      (subst (λ (x : World). IsStepFrom s stage n x step) lead (subst (λ (k : ℕ). IsStepFrom s stage k last step) here is), refl)
  lead_more n w (first ∷ rest) last step lead is =
      let next : n + length (first ∷ rest) ≡ suc n + length rest = omega arith in
      (lead.0, lead_more (suc n) first.after rest last step lead.1 (subst (λ (k : ℕ). IsStepFrom s stage k last step) next is))

  history_more : (rows : List Row) (row : Row) (so_far : List Happening) (happening : Happening) (last after : World) → IsHistory s stage rows so_far last
      → IsStepFrom s stage (length rows + 1) last (record { moment = row.moment; label = label_text row.label; happening = happening; after = after })
      → IsHistory s stage (rows ++ row ∷ []) (so_far ++ happening ∷ []) after
  history_more rows row so_far happening last after history is =
      let step : HistoryStep = record { moment = row.moment; label = label_text row.label; happening = happening; after = after } in
      let counted : length rows ≡ length history.steps =
      sym (length-map rows (λ (r : Row). r.moment)) ∙ ap length history.moments_are ∙ length-map history.steps (λ (x : HistoryStep). x.moment) in
      let number : length rows + 1 ≡ 1 + length history.steps = omega (arith, counted) in
      record {
        steps = history.steps ++ step ∷ [];
        moments_are = map-append (λ (r : Row). r.moment) rows (row ∷ []) ∙ ap (λ (l : List Moment). l ++ row.moment ∷ []) history.moments_are
            ∙ sym (map-append (λ (x : HistoryStep). x.moment) history.steps (step ∷ []));
        labels_are = map-append (λ (r : Row). label_text r.label) rows (row ∷ []) ∙ ap (λ (l : List LabelText). l ++ label_text row.label ∷ []) history.labels_are
            ∙ sym (map-append (λ (x : HistoryStep). x.label) history.steps (step ∷ []));
        happened_are = ap (λ (l : List Happening). l ++ happening ∷ []) history.happened_are ∙ sym (map-append (λ (x : HistoryStep). x.happening) history.steps (step ∷ []));
        leads = lead_more 1 (opening_world s.config.nodes) history.steps last step history.leads (subst (λ (k : ℕ). IsStepFrom s stage k last step) number is);
      }

  -- a message is lost, or nothing happens
  pub stays_by : (w : World) (lost : Option ℕ) → HappensBy s stage w (loss_of lost) w
  stays_by w None = refl
  stays_by w (Some number) = refl

-- how the way ends of a message that is lost
pub loss_ending : (w : World) (lost : Option ℕ) → lost_of lost ≡ item_ending w (loss_of lost)
loss_ending w None = refl
loss_ending w (Some number) = refl

-- ---- the sketch of one moment more

pub drawable_now : (answer : Result Unit Fault) (new : Sketch) → OnOk answer (AreWays new.rows.items new.ways.items)
    → OnOk answer (AreDown new.lines new.ways.items) → OnOk answer (new.lines ≤ 2 ^ 32) → OnOk answer (IsDrawable new)
drawable_now (Ok done) new ways down few = record { ways = ways; down = down; few = few }
drawable_now (Err fault) new ways down few = tt

module _ {S : Type 0} (s : Setting S) (stage : Stage) (old new : Sketch) (moment : Moment) (label : Label) (before after : World) where
  -- all goes well, or nothing is promised
  pub sketch_more : (answer : Result Unit Fault) (happened : List Happening) (happening : Happening) → OnOk answer (AddsMoment old new moment label)
      → OnOk answer (length new.ways.items ≡ moment.before + length moment.sends.items)
      → IsStepFrom s stage (length old.rows.items + 1) before (record { moment = moment; label = label_text label; happening = happening; after = after })
      → length before.sent ≤ length after.sent
      → IsSketchOf s stage old happened before → OnOk answer (IsDrawable new) → OnOk answer (IsSketchOf s stage new (happened ++ happening ∷ []) after)
  sketch_more (Ok done) happened happening added count step grows so_far drawable =
      let sends = ap length step.sends ∙ length-map (drop (length before.sent) after.sent) (sending_of stage (is_next_within stage old)) ∙ length-drop (length before.sent) after.sent in
      record {
        history = subst (λ (l : List Row). IsHistory s stage l (happened ++ happening ∷ []) after) (sym added.rows)
            (history_more s stage old.rows.items (row_of old moment label) happened happening before after so_far.history step);
        drawable = drawable;
        count = omega (arith, count, sends, step.before, grows);
      }
  sketch_more (Err fault) happened happening added count step grows so_far drawable = tt

-- what is added is a moment under this label
pub moment_now : (answer : Result Unit Fault) (stage : Stage) (old new : Sketch) (moment : Moment) (packets : List Message) (ending : Option Ending) (label drawn : Label)
    → moment.before ≡ length old.ways.items → moment.sends.items ≡ map (sending_of stage (is_next_within stage old)) packets
    → moment.ending ≡ ending_within (is_next_within stage old) ending → drawn ≡ label_within (is_next_within stage old) label
    → OnOk answer (AddsMoment old new moment drawn) → OnOk answer (HasMoment stage old new packets ending label)
moment_now (Ok done) stage old new moment packets ending label drawn before sends ends is added =
    record { moment = moment; before = before; sends = sends; ending_is = ends; added = subst (λ (l : Label). AddsMoment old new moment l) is added }
moment_now (Err fault) stage old new moment packets ending label drawn before sends ends is added = tt

-- as many ways more as packets
pub counted_now : (answer : Result Unit Fault) (stage : Stage) (b : Bool) (old new : Sketch) (moment : Moment) (packets : List Message)
    → moment.before ≡ length old.ways.items → moment.sends.items ≡ map (sending_of stage b) packets
    → OnOk answer (length new.ways.items ≡ moment.before + length moment.sends.items) → OnOk answer (length new.ways.items ≡ length old.ways.items + length packets)
counted_now (Ok done) stage b old new moment packets before sends count =
    let sent = ap length sends ∙ length-map packets (sending_of stage b) in
    omega (arith, count, before, sent)
counted_now (Err fault) stage b old new moment packets before sends count = tt
