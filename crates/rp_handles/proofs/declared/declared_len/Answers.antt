-- The next line does not begin with it.
use Rattle.rp_handles.proofs.Places.{later}
use Rattle.std.proofs.Common.{◌≡◌, ◌<◌, length, false, drop, ◌∙◌, ap, sym, rules}
use Rattle.rp_handles.specs.DeclaredParts.{begins_script}
use Rattle.rp_handles.proofs.declared.declared_len.Goals as goal

pub loop-place-preserved : goal.loop-place-preserved
loop-place-preserved c =
    let below : c.loop-place.place < length c.args.text.now = search rules in
    let rest : c.split_at.result.1.now ≡ drop c.loop-place.place c.args.text.now = search rules in
    let other : begins_script (drop c.loop-place.place c.args.text.now) ≡ false = ap begins_script (sym rest) ∙ sym c.begins_script.ensures ∙ c.if-begins_script.false in
    later c.args.text.now c.loop-place.place below other c.loop-place.invariant
