-- One task more.
use Rattle.std.proofs.Common.{◌≡◌, ◌∙◌, ◌+◌, ℕ, List, ap, rules, string_bytes, arith, ◌<◌, length, ◌++◌}
use Rattle.std.specs.Prelude.{String}
use Rattle.std.specs.declared.alloc.Global.{Global}
use Rattle.rp_bind.specs.Packages.{tasks_text}
use Rattle.rp_bind.specs.Texts.{task_constant}
use Rattle.rp_bind_local.proofs.Numbered.{one_written}
use Rattle.rp_bind.proofs.packages.write_tasks.Goals as goal

pub loop-place-preserved : goal.loop-place-preserved
loop-place-preserved c =
    let names = c.args.names.now in
    let place = c.loop-place.place in
    let within : place < length names = omega (arith, c.loop-place-test.true) in
    let line : ℕ → String Global → List ℕ = λ number name. task_constant c.args.language (string_bytes name) number in
    let same : c.deref.result.now ≡ string_bytes c.index-names-place.result = search rules in
    let more = c.in_ok-write.ensures.bytes ∙ ap (λ (n : List ℕ). string_bytes c.loop-place.text ++ task_constant c.args.language n (place + 1)) same in
    one_written line names place c.index-names-place.result within c.index-names-place.is
    (string_bytes c.loop-place.text) (string_bytes c.write.new.self) (string_bytes c.args.text.now ++ tasks_text c.args.language names)
    more c.loop-place.invariant
