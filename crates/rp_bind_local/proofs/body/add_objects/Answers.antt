-- One object more.
use Rattle.std.proofs.Common.{◌≡◌, ◌∙◌, ◌+◌, ℕ, List, ap, rules, string_bytes, arith, ◌<◌, length, ◌++◌}
use Rattle.std.specs.Prelude.{String}
use Rattle.std.specs.declared.alloc.Global.{Global}
use Rattle.rp_bind_local.specs.Bodies.{object_text_at, objects_text}
use Rattle.rp_bind_local.proofs.Numbered.{one_written}
use Rattle.rp_bind_local.proofs.body.add_objects.Goals as goal

pub loop-place-preserved : goal.loop-place-preserved
loop-place-preserved c =
    let names = c.as_slice-names.result.now in
    let place = c.loop-place.place in
    let within : place < length names = omega (arith, c.loop-place-test.true) in
    let line : ℕ → String Global → List ℕ = λ number name. object_text_at c.args.declared.now number (string_bytes name) in
    let same : c.deref.result.now ≡ string_bytes c.index-names-place.result = search rules in
    let more = c.in_ok-add_object_at.ensures ∙ ap (λ (n : List ℕ). string_bytes c.loop-place.text ++ object_text_at c.args.declared.now (place + 1) n) same in
    one_written line names place c.index-names-place.result within c.index-names-place.is
    (string_bytes c.loop-place.text) (string_bytes c.add_object_at.new.text) (string_bytes c.args.text.now ++ objects_text c.args.declared.now)
    more c.loop-place.invariant
