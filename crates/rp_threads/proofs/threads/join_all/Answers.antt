-- Each end keeps the promise of the handle at its place.
use Rattle.std.proofs.Common.{◌≡◌, length, sym, ◌∙◌, arith}
use Rattle.std.specs.Prelude.{vec_len}
use Rattle.rp_threads.proofs.Places.{zipped}
use Rattle.rp_threads.proofs.threads.join_all.Goals as goal

pub returns : goal.returns
returns g c =
    let stated = c.in_ok-ends.ensures in
    let handles = c.args.handles in
    let ends = c.in_ok-ends.ends in
    let long : vec_len handles ≡ length handles.items = handles.ok.0 in
    zipped (λ handle end. g.S.Start.ends handle.promise.start.value handle.promise.nodes handle.promise.turns end) handles.items ends.items (sym ends.ok.0 ∙ stated.len ∙ long)
    (λ i d below. let at = (stated.each i d (omega (arith, long, below))).1 in record { item = at.handle; is = at.handle_is; fits = at.kept })
