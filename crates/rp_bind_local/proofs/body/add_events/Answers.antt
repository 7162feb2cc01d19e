-- One handler more.
use Rattle.std.proofs.Common.{◌≡◌, ◌+◌, ℕ, List, string_bytes, arith, ◌<◌, length, ◌++◌}
use Rattle.rp_deck_declarations.specs.rp_object.specs.declared.program.TimingEvent.{TimingEvent}
use Rattle.rp_bind_local.specs.Bodies.{handler_text, events_text}
use Rattle.rp_bind_local.proofs.Numbered.{one_written}
use Rattle.rp_bind_local.proofs.body.add_events.Goals as goal

pub loop-place-preserved : goal.loop-place-preserved
loop-place-preserved c =
    let rows = c.args.timers.now in
    let place = c.loop-place.place in
    let within : place < length rows = omega (arith, c.loop-place-test.true) in
    let line : ℕ → TimingEvent → List ℕ = λ number timer. handler_text number timer.handler in
    one_written line rows place c.index-timers-place.result within c.index-timers-place.is
    (string_bytes c.loop-place.text) (string_bytes c.add_handler.new.text) (string_bytes c.args.text.now ++ events_text rows)
    c.in_ok-add_handler.ensures c.loop-place.invariant
