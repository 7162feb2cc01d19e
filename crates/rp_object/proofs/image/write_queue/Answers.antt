-- One call more.
use Rattle.std.proofs.Common.{pos, string_bytes, sym, ◌∙◌, ap, arith}
use Rattle.std.proofs.lemmas.Option.{slice_get-get_or}
use Rattle.rp_entry.specs.declared.state.Waiting.{Waiting}
use Rattle.rp_object.proofs.Writing.{calls_more}
use Rattle.rp_object.proofs.image.write_queue.Goals.{in-Some+in_ok-write_call, in_default}
use Rattle.rp_object.proofs.image.write_queue.Goals as goal

pub loop-place-preserved : goal.loop-place-preserved
loop-place-preserved c =
    let queue = c.args.queue.now in
    let place = c.loop-place.place in
    elim c.match-get.branch [
      | in-Some+in_ok-write_call w ↦
          calls_more queue place w.in-Some.call (sym c.get.ensures ∙ w.in-Some.is) (string_bytes c.args.text.now) (string_bytes c.loop-place.text) (string_bytes c.match-get.text) c.loop-place.invariant (ap string_bytes w.text-is ∙ w.in_ok-write_call.ensures)
      | in_default w ↦
          let none : Waiting = record { task = 1; number = 0; arg = pos 0 } in
          absurd (w.in_default.not-Some _ (c.get.ensures ∙ slice_get-get_or queue place none (omega (arith, c.loop-place-test.true, c.len-place-end.ensures.value))))
    ]
