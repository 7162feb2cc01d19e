-- The deck is the one that was read, and what it printed is kept.
use Rattle.std.proofs.Common.{Result, Ok, Err, Option, List, ℕ, inr}
use Rattle.std.specs.Prelude.{OnOk}
use Rattle.rp_deck.specs.rp_base.specs.declared.fault.Fault.{Fault}
use Rattle.rp_script.specs.Agreeing.{ScriptPrints}
use Rattle.rp_script.specs.Output.{output_of}
use Rattle.rp_script.proofs.Failing.{on_err}
use Rattle.rp_script.proofs.Kept.{deck_kept}
use Rattle.rp_output.proofs.Writing.{appends_kept, begins_all}
use Rattle.rp_script.proofs.deck_run.run_script.Goals as goal

pub returns-clause-output : goal.returns-clause-output
returns-clause-output g c = at c.write_out.result
  where
    old : Option (List ℕ)
    old = g.W.Write.contents c.args.writer.now

    written : Option (List ℕ)
    written = g.W.Write.contents c.run_deck.new.writer

    new : Option (List ℕ)
    new = g.W.Write.contents c.write_out.new.writer

    at : (answer : Result Unit Fault) → OnOk answer (ScriptPrints c.args.traced (g.R.Read.remaining c.args.reader.now) old new)
    at (Ok done) =
        let deck = c.in_ok-deck.deck in
        let kept = c.write_out.ensures.kept in (
          deck,
          c.in_ok-deck.ensures.deck,
          appends_kept old written new (output_of c.args.traced deck) c.in_ok-run_deck.ensures.output kept,
          deck_kept c.args.traced deck deck.program old written new c.in_ok-run_deck.ensures.headline kept,
        )
    at (Err fault) = tt

pub returns-in_err-run_deck-clause-begun : goal.returns-in_err-run_deck-clause-begun
returns-in_err-run_deck-clause-begun g c =
    on_err c.from_residual-in_err-run_deck.result _ (inr (c.in_ok-deck.deck, c.in_ok-deck.ensures.deck, c.in_err-run_deck.ensures.output))

pub returns-clause-begun : goal.returns-clause-begun
returns-clause-begun g c =
    let old = g.W.Write.contents c.args.writer.now in
    let written = g.W.Write.contents c.run_deck.new.writer in
    let new = g.W.Write.contents c.write_out.new.writer in
    let output = output_of c.args.traced c.in_ok-deck.deck in
    let whole = begins_all old new output (appends_kept old written new output c.in_ok-run_deck.ensures.output c.write_out.ensures.kept) in
    on_err c.write_out.result _ (inr (c.in_ok-deck.deck, c.in_ok-deck.ensures.deck, whole))
