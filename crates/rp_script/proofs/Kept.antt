-- What was printed and is kept.
use Rattle.std.proofs.Common.{ℕ, Bool, Option, List}
use Rattle.std.specs.Io.KnownBytes.{Keeps}
use Rattle.rp_deck.specs.declared.deck.Deck.{Deck}
use Rattle.rp_deck.specs.rp_deck_declarations.specs.declared.deck_program.DeckProgram.{DeckProgram}
use Rattle.rp_deck.specs.rp_deck_declarations.specs.declared.deck_program.DeckProgram.TheVariants.{Tally, Objects}
use Rattle.rp_deck.specs.declared.deck.Line.{Line}
use Rattle.rp_run.specs.Agreeing.{RunPrints}
use Rattle.rp_script.specs.Agreeing.{PrintsAt}
use Rattle.rp_run.specs.Output.{RunSetting}
use Rattle.rp_script.specs.Output.{tally_run, objects_run, drain_limit}
use Rattle.rp_output.proofs.Writing.{appends_kept}

run_kept : {S : Type 0} (s : RunSetting S) (most : ℕ) (lines : List Line) (a b c : Option (List ℕ)) → RunPrints s most lines a b → Keeps b c → RunPrints s most lines a c
run_kept s most lines a b c p kept = record { written = appends_kept a b c _ p.written kept; printed = p.printed; agrees = p.agrees }

pub deck_kept : (traced : Bool) (deck : Deck) (program : DeckProgram) (a b c : Option (List ℕ)) → PrintsAt traced deck a b program → Keeps b c → PrintsAt traced deck a c program
deck_kept traced deck (Tally objects) a b c p kept = run_kept (tally_run traced deck objects) drain_limit deck.script.items a b c p kept
deck_kept traced deck (Objects program) a b c p kept = run_kept (objects_run traced deck program) drain_limit deck.script.items a b c p kept
