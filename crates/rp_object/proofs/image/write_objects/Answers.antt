-- One line more.
use Rattle.std.proofs.Common.{◌≤◌, ◌<◌, ◌++◌, length, string_bytes, refl, ◌∙◌, ap, ap₂, arith}
use Rattle.std.proofs.lemmas.List.{take_all}
use Rattle.std.proofs.lemmas.Option.{slice_get_read}
use Rattle.rp_object.specs.Image.{object_lines}
use Rattle.rp_object.proofs.Writing.{objects_more, made_many, made_queues}
use Rattle.rp_object.proofs.image.write_objects.Goals as goal

pub bounds-objects-place : goal.bounds-objects-place
bounds-objects-place c = omega (arith, c.loop-place-test.true, made_many c.args.declared.now c.args.objects.now c.requires.made)

pub write_object-requires-clause-each : goal.write_object-requires-clause-each
write_object-requires-clause-each c =
    let declared = c.args.declared.now in
    let objects = c.args.objects.now in
    let place = c.loop-place.place in
    let below : place < length objects = omega (arith, c.loop-place-test.true, made_many declared objects c.requires.made) in
    made_queues declared objects place c.index-declared-place.result c.index-objects-place.result c.requires.made
    (slice_get_read declared (length declared) place c.index-declared-place.result refl c.loop-place-test.true c.index-declared-place.is)
    (slice_get_read objects (length objects) place c.index-objects-place.result refl below c.index-objects-place.is)

pub loop-place-preserved : goal.loop-place-preserved
loop-place-preserved c = objects_more c.args.profile c.args.declared.now c.args.objects.now c.loop-place.place c.index-declared-place.result c.index-objects-place.result c.index-objects-place.result (made_many c.args.declared.now c.args.objects.now c.requires.made) c.loop-place-test.true c.index-declared-place.is c.index-objects-place.is (string_bytes c.args.text.now) (string_bytes c.loop-place.text) (string_bytes c.write_object.new.text) c.loop-place.invariant c.in_ok-write_object.ensures

pub returns : goal.returns
returns c =
    let declared = c.args.declared.now in
    let objects = c.args.objects.now in
    let place = c.loop-place.place in
    let past : length declared ≤ place = omega (arith, c.loop-place-test.false) in
    let beyond : length objects ≤ place = omega (arith, past, made_many declared objects c.requires.made) in
    c.loop-place.invariant ∙ ap (λ l. string_bytes c.args.text.now ++ l) (ap₂ (object_lines c.args.profile) (take_all place declared past) (take_all place objects beyond))
