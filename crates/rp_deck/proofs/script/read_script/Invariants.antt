use Rattle.std.proofs.Common.{◌≡◌, map, length}
use Rattle.std.specs.Prelude.{All}
use Rattle.rp_words.specs.Ahead.{left, ahead}
use Rattle.rp_deck.specs.Live.{IsTaken}
use Rattle.rp_deck.specs.Script.{IsRightLine}
use Rattle.rp_deck.specs.ScriptLines.{script_of}
use Rattle.rp_deck_declarations.specs.DeclaredViews.{names_of}
use Rattle.rp_deck.specs.DeckViews.{line_command}
use Rattle.rp_deck.proofs.ScriptLemmas.{goes_on}
use Rattle.rp_deck.proofs.script.read_script.Given as goal

-- the commands that were read go before those of the lines that are left
abbrev pub invariant-loop-line : goal.invariant-loop-line
invariant-loop-line l = record {
  read : script_of l.mode (names_of l.declared) (ahead l.fn.lines) ≡ goes_on (map line_command l.script.items) (script_of l.mode (names_of l.declared) (ahead l.lines));
  right : All (IsRightLine l.declared) l.script.items;
  taken : All (λ line. IsTaken l.mode line.command) l.script.items;
}

abbrev pub decreases-loop-line : goal.decreases-loop-line
decreases-loop-line l = length (left l.lines)
