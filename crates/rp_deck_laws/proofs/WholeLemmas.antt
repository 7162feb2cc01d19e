-- The text of a right deck means what is said of it.
use Rattle.std.proofs.Common.{◌≡◌, ◌+◌, List, ◌++◌, length, map, Ok, ap, sym, subst, ◌∙◌}
use Rattle.std.specs.List.{AllByRecursion}
use Rattle.rp_deck.specs.declared.deck.Mode.TheVariants.{Script}
use Rattle.rp_deck.specs.Meaning.{meaning_of, deck_of}
use Rattle.rp_deck.specs.ScriptLines.{CommandText}
use Rattle.rp_deck_declarations.specs.Drafts.{DraftText}
use Rattle.rp_deck_declarations.specs.DeclaredTexts.{DeclaredText}
use Rattle.rp_deck_declarations.specs.ScriptNames.{declared_names}
use Rattle.rp_deck_laws.specs.ObjectTexts.{ObjectsText, IsObjectsText, objects_draft, declared_lines, objects_text, objects_deck}
use Rattle.rp_deck_laws.specs.ScriptText.{AreDeclared, IsCommandOf, command_words, text_of_lines, numbered_commands}
use Rattle.rp_deck_laws.specs.Named.{NamedDeck}
use Rattle.rp_deck_laws.specs.NamedTexts as written
use Rattle.rp_deck_laws.specs.NamedTexts.{named_deck_text}
use Rattle.rp_deck_laws.specs.NamedMeanings.{command_meant, deck_meant}
use Rattle.rp_deck_laws.specs.RightDecks.{IsRight}
use Rattle.rp_deck_laws.proofs.DeckLemmas.{declarations, draft_made, declarations_are, lines_same, declared_is}
use Rattle.rp_deck_laws.proofs.CommandLemmas.{names_are_declared, commands_are, commands_same}

-- every such text is read back
abbrev pub ReadBack : Type 0
ReadBack = (t : ObjectsText) (commands : List CommandText) → IsObjectsText t → AreDeclared (declared_names (objects_draft t)) → AllByRecursion (IsCommandOf (declared_names (objects_draft t))) commands
    → meaning_of Script (objects_text t commands) ≡ Ok (objects_deck t commands)

text_same : (deck : NamedDeck) → IsRight deck → objects_text (declarations deck) (map (command_meant deck) deck.script) ≡ named_deck_text deck
text_same deck right =
    ap (λ (d : DraftText). text_of_lines (declared_lines (declarations deck) ++ map (command_words (declared_names d)) (map (command_meant deck) deck.script))) (draft_made deck)
    ∙ (λ k. text_of_lines (lines_same deck right k ++ commands_same deck right deck.script right.script k))

deck_same : (deck : NamedDeck) → IsRight deck → objects_deck (declarations deck) (map (command_meant deck) deck.script) ≡ deck_meant deck
deck_same deck right =
    (λ k. deck_of (draft_made deck k) (numbered_commands (1 + length (lines_same deck right k)) (map (command_meant deck) deck.script)))
    ∙ ap (λ (d : DeclaredText). record { declared = d; script = numbered_commands (1 + length (written.declaration_lines deck)) (map (command_meant deck) deck.script) }) (declared_is deck)

pub means_it : ReadBack → (deck : NamedDeck) → IsRight deck → meaning_of Script (named_deck_text deck) ≡ Ok (deck_meant deck)
means_it back deck right =
    let draft = draft_made deck in
    let declared = subst (λ (d : DraftText). AreDeclared (declared_names d)) (sym draft) (names_are_declared deck right) in
    let script = subst (λ (d : DraftText). AllByRecursion (IsCommandOf (declared_names d)) (map (command_meant deck) deck.script)) (sym draft) (commands_are deck right deck.script right.script) in
    ap (meaning_of Script) (sym (text_same deck right)) ∙ back (declarations deck) (map (command_meant deck) deck.script) (declarations_are deck right) declared script ∙ ap Ok (deck_same deck right)
