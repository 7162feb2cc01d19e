-- One more.
use Rattle.std.proofs.Common.{◌≡◌, ◌∙◌, ◌+◌, ℕ, List, ap, rules, string_bytes, arith, ◌<◌, length, ◌++◌}
use Rattle.std.specs.Prelude.{String}
use Rattle.std.specs.declared.alloc.Global.{Global}
use Rattle.rp_bind.specs.Packages.{owner_at, timers_text}
use Rattle.rp_bind.specs.Texts.{timer_lines}
use Rattle.rp_bind_local.proofs.Numbered.{one_written}
use Rattle.rp_bind.proofs.packages.write_timers.Goals as goal

pub loop-place-preserved : goal.loop-place-preserved
loop-place-preserved c =
    let names = c.args.names.now in
    let place = c.loop-place.place in
    let within : place < length names = omega (arith, c.loop-place-test.true) in
    let line : ℕ → String Global → List ℕ = λ number name. timer_lines (string_bytes name) (owner_at c.args.program.now number) number in
    let same : c.deref.result.now ≡ string_bytes c.index-names-place.result = search rules in
    let more : string_bytes c.write.new.self ≡ string_bytes c.loop-place.text ++ timer_lines (string_bytes c.index-names-place.result) (owner_at c.args.program.now (place + 1)) (place + 1) =
    c.in_ok-write.ensures.bytes ∙ (λ i. string_bytes c.loop-place.text ++ timer_lines (same i) (c.owner_at.ensures i) (place + 1)) in
    one_written line names place c.index-names-place.result within c.index-names-place.is
    (string_bytes c.loop-place.text) (string_bytes c.write.new.self) (string_bytes c.args.text.now ++ timers_text c.args.program.now names)
    more c.loop-place.invariant
