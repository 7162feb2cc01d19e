-- One handler more.
use Rattle.std.proofs.Common.{◌≡◌, ◌+◌, ℕ, List, string_bytes, arith, rules, ◌<◌, drop, get_or, length, ◌++◌}
use Rattle.rp_deck_declarations.specs.rp_object.specs.declared.program.Handler.{Handler}
use Rattle.rp_bind_local.specs.Bodies.{handler_text, handlers_text}
use Rattle.rp_bind_local.specs.Numbered.{numbered}
use Rattle.rp_bind_local.proofs.Numbered.{one_written}
use Rattle.rp_bind_local.proofs.body.add_handlers.Goals as goal

written : (rows : List Handler) (place : ℕ) (row : Handler) (text next all : List ℕ) → place < length rows → next ≡ text ++ handler_text (place + 1) row
    → text ++ numbered handler_text (place + 1) (drop place rows) ≡ all → row ≡ get_or rows place row → next ++ numbered handler_text (place + 1 + 1) (drop (place + 1) rows) ≡ all
written rows place row text next all within more so_far is = one_written handler_text rows place row within is text next all more so_far

pub loop-place-preserved : goal.loop-place-preserved
loop-place-preserved c =
    let rows = c.args.handlers.now in
    let place = c.loop-place.place in
    let within : place < length rows = omega (arith, c.loop-place-test.true) in
    written rows place _ (string_bytes c.loop-place.text) (string_bytes c.add_handler.new.text) (string_bytes c.args.text.now ++ handlers_text rows) within
    c.in_ok-add_handler.ensures c.loop-place.invariant (search rules)
