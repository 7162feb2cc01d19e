-- A moment more is read, the one before those that were.
use Rattle.std.proofs.Common.{◌≡◌, ◌∙◌, ◌++◌, ◌-◌, ◌<◌, ℕ, List, ◌∷◌, length, drop, get_or, take, string_bytes, ap, ap₂, sym, arith, append_assoc}
use Rattle.std.specs.Prelude.{if◌then◌else◌, slice_index}
use Rattle.rp_drawing.specs.Stops.{mark_y, restart_y, restarts, stop_by, stops_text}
use Rattle.rp_drawing.specs.declared.sketch.Row.{Row}
use Rattle.rp_drawing.proofs.StopLemmas.{all_written, drop_before, stop_same}
use Rattle.rp_drawing.proofs.stops.write_stops.Goals as goal

pub loop-place-preserved : goal.loop-place-preserved
loop-place-preserved c =
    let lanes = c.args.page.lanes in
    let end = c.args.end in
    let rows = c.args.rows.now in
    let place = c.loop-place.place in
    let row = c.index-rows-place.result in
    let rest = drop place rows in
    let now = c.note_restart.new.next in
    let items = c.loop-place.next.items in
    let before = string_bytes c.args.text.now in
    let step : drop (place - 1) rows ≡ row ∷ rest = drop_before rows place row (omega (arith, c.loop-place-test.true)) c.loop-place.invariant.within c.index-rows-place.is in
    let same : length now ≡ length items = c.note_restart.ensures.same ∙ ap length c.deref_mut.ensures.value in
    let few : length now ≡ c.loop-place.next.len = c.note_restart.ensures.same ∙ c.deref_mut.ensures.len in
    let written : take c.loop-place.next.len (now ++ drop (length now) items) ≡ now = all_written now items c.loop-place.next.len same (omega (arith, few)) in
    record {
      within = omega (arith, c.loop-place.invariant.within);
      lanes = ap length written ∙ same ∙ c.loop-place.invariant.lanes;
      next = λ lane below.
          let known : lane < length c.deref_mut.result.now = omega (arith, below, ap length c.deref_mut.ensures.value, c.loop-place.invariant.lanes) in
          ap (λ (l : List ℕ). get_or l lane 0) written
          ∙ c.note_restart.ensures.next lane known
          ∙ ap₂ (λ (y later : ℕ). if restarts lane row.label.mark then y else later) c.mark_y-y.ensures
          (ap (λ (l : List ℕ). get_or l lane 0) c.deref_mut.ensures.value ∙ c.loop-place.invariant.next lane below)
          ∙ ap (λ (l : List Row). restart_y lanes end lane l) (sym step);
      stops =
          c.in_ok-write_stop.ensures.stop
          ∙ ap₂ (λ (t s : List ℕ). t ++ s) c.loop-place.invariant.stops
          (ap (λ (y : ℕ). stop_by lanes y (slice_index c.deref.result.now) row.label.mark) c.mark_y-y.ensures
          ∙ stop_same lanes (slice_index c.deref.result.now) (λ lane. restart_y lanes end lane rest)
          (λ lane below. ap (λ (l : List ℕ). get_or l lane 0) c.deref.ensures.value ∙ c.loop-place.invariant.next lane below)
          (mark_y lanes row.line) row.label.mark)
          ∙ append_assoc before (stops_text lanes end rest) (stop_by lanes (mark_y lanes row.line) (λ lane. restart_y lanes end lane rest) row.label.mark)
          ∙ ap (λ (l : List Row). before ++ stops_text lanes end l) (sym step);
      short = omega (arith, c.in_ok-write_stop.ensures.short, c.loop-place.invariant.short, c.loop-place-test.true);
    }
