-- The output is that of the deck.
use Rattle.std.proofs.Common.{◌∙◌, ◌++◌, List, ℕ, Option, false, ap, subst}
use Rattle.std.specs.Prelude.{IfSome}
use Rattle.rp_script.specs.rp_deck.specs.declared.deck.Deck.{Deck}
use Rattle.rp_explore_run.specs.Trials.{IsDeckText}
use Rattle.rp_script.specs.Output.{output_of}
use Rattle.rp_explore_run.proofs.trial.output_of.Goals as goal

pub returns-clause-output : goal.returns-clause-output
returns-clause-output c = record {
  deck = c.in-Some.deck;
  is_text = subst (λ (d : Option Deck). IfSome d (IsDeckText c.args.text.now)) c.in-Some.is c.in_ok-deck.ensures.deck;
  output_is = c.in_ok-run_deck.ensures.output ∙ ap (λ (l : List ℕ). l ++ output_of false c.in-Some.deck) c.new-output.ensures.items;
}
