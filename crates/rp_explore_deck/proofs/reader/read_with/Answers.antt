use Rattle.std.proofs.Common.{◌≡◌, ◌≤◌, map, sym, subst, length, arith, refl}
use Rattle.std.proofs.lemmas.List.{length-map}
use Rattle.rp_deck.specs.rp_base.specs.declared.fault.Fault.{Fault}
use Rattle.rp_deck.specs.DeckViews.{deck_text, line_command}
use Rattle.rp_deck.specs.Meaning.{meaning_of}
use Rattle.rp_deck.specs.declared.deck.Mode.TheVariants.{Live}
use Rattle.rp_explore_deck.specs.Plans.{planned}
use Rattle.rp_explore_deck.specs.RuleViews.{placed_rule_text}
use Rattle.rp_words.specs.LineFaults.{Reads, Refuses}
use Rattle.rp_explore_deck.proofs.PlanLemmas.{refused_added}
use Rattle.rp_explore_deck.proofs.ShortLemmas.{deck_is_short}
use Rattle.rp_explore_deck.proofs.reader.read_with.Goals as goal

pub plan_with-requires-clause-size : goal.plan_with-requires-clause-size
plan_with-requires-clause-size c =
    let deck = c.in_ok-deck-in-Ok.field-0 in
    let plain = c.args.plain.now in
    let short : length (map line_command deck.script.items) ≤ length plain = deck_is_short Live plain (deck_text deck) c.in_ok-deck-in-Ok.ensures.meaning in
    let mapped : length (map line_command deck.script.items) ≡ length deck.script.items = simp length-map in
    omega (arith, short, mapped, c.requires.size)

pub returns-in-Err-clause-meaning : goal.returns-in-Err-clause-meaning
returns-in-Err-clause-meaning c = λ said reads.
    let deck = meaning_of Live c.args.plain.now in
    let refused : Refuses c.in-Err.fault said = subst (λ a. Reads (λ a. (map placed_rule_text a.rules.items, a.guards.items)) a said) c.in-Err.is reads in
    subst (λ (f : Fault). Refuses f (planned deck said)) (sym c.first_of.ensures) (refused_added deck_text c.in-Err.fault c.read_deck-deck.result deck said (planned deck said) refl refused c.read_deck-deck.ensures.meaning)
