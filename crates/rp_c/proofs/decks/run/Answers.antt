-- What the run printed is put into the buffer.
use Rattle.std.proofs.Common.{◌≡◌, List, ℕ, Some, subst, sym}
use Rattle.rp_script.specs.Agreeing.{ScriptPrints}
use Rattle.rp_c.specs.Decks.{IsOutput}
use Rattle.rp_c.proofs.Putting.{output_put}
use Rattle.rp_c.proofs.decks.run.Goals as goal

pub returns-in-Ok : goal.returns-in-Ok
returns-in-Ok c =
    let bytes : List ℕ = c.args.deck.now in
    let text : List ℕ = c.run_script.new.writer.items in
    let output : IsOutput c.args.traced bytes text =
    subst (λ (before : List ℕ). ScriptPrints c.args.traced (Some bytes) (Some before) (Some text)) c.new-text.ensures.items c.in-Ok.ensures.output in
    let given : IsOutput c.args.traced bytes c.as_slice.result.now = subst (λ (all : List ℕ). IsOutput c.args.traced bytes all) (sym c.as_slice.ensures.value) output in
    output_put c.args.traced bytes c.as_slice.result.now c.args.answer.now c.put.new.answer c.args.used.now c.put.new.used c.put.result given c.put.ensures
