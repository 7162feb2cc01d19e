-- Which advice is given for a word at fault, by the reason, the first word of the line and the word's
-- number in it.
use Rattle.std.specs.Prelude.{ℕ, nat_eq, Option, Some, None, unwrap_or, List, [], ◌∷◌}
use Rattle.std.specs.Prelude.{if◌then◌else◌}
use Rattle.std.specs.List.{starts_with}
use Rattle.rp_deck.specs.rp_base.specs.declared.fault.DeckReason.{DeckReason}
use Rattle.rp_deck.specs.rp_base.specs.declared.fault.DeckReason.TheVariants as reasons
use Rattle.rp_deck.specs.rp_words.specs.Words.{first_named}
use Rattle.rp_deck_hints.specs.Tables.{Table, fifth_numbers, fifth_words, fourth_known, fourth_names}
use Rattle.rp_deck_hints.specs.Tables.{fourth_numbers, places, second_known, second_names}
use Rattle.rp_deck_hints.specs.Tables.{second_numbers, second_words, sixth_numbers, third_names}
use Rattle.rp_deck_hints.specs.Tables.{third_numbers, third_words}
use Rattle.rp_deck_hints.specs.declared.advice.Advice.{Advice}
use Rattle.rp_deck_hints.specs.declared.advice.Advice.TheVariants as advices

-- of a number, by the first word of the line and the place in it
abbrev pub number_advice : List ℕ → ℕ → Advice
number_advice first number =
    unwrap_or (if nat_eq number 2 then first_named second_numbers first
    else if nat_eq number 3 then first_named third_numbers first
    else if nat_eq number 4 then first_named fourth_numbers first
    else if nat_eq number 5 then first_named fifth_numbers first
    else if nat_eq number 6 then first_named sixth_numbers first
    else None) advices.Number

-- of a name that has not a name's form
abbrev pub name_advice : List ℕ → ℕ → Advice
name_advice first number =
    unwrap_or (if nat_eq number 2 then first_named second_names first
    else if nat_eq number 3 then first_named third_names first
    else if nat_eq number 4 then first_named fourth_names first
    else None) advices.Name

-- of a name that is not declared, or of another kind
abbrev pub known_advice : List ℕ → ℕ → Advice
known_advice first number =
    unwrap_or (if nat_eq number 2 then first_named second_known first
    else if nat_eq number 4 then first_named fourth_known first
    else None) advices.Unknown

-- of a fixed word
abbrev pub word_advice : List ℕ → ℕ → Option Advice
word_advice first number =
    if nat_eq number 1 then first_named places first
    else if nat_eq number 2 then first_named second_words first
    else if nat_eq number 3 then first_named third_words first
    else if nat_eq number 5 then first_named fifth_words first
    else None

-- of a first word that is not `nodes`
abbrev pub first_line_advice : List ℕ → Advice
first_line_advice first =
    if starts_with nat_eq first (239 ∷ 187 ∷ 191 ∷ []) then advices.ByteOrderMark else advices.FirstLine

-- of any word, by the reason for which it is at fault
abbrev pub advice_of : DeckReason → List ℕ → ℕ → Option Advice
advice_of reasons.BadNumber first number = Some (number_advice first number)
advice_of reasons.BadName first number = Some (name_advice first number)
advice_of reasons.DuplicateName first number = Some advices.Declared
advice_of reasons.UnknownName first number = Some (known_advice first number)
advice_of reasons.UnknownWord first number = word_advice first number
advice_of reasons.NodesExpected first number = Some (first_line_advice first)
advice_of reasons.NotInLive first number = Some advices.Live
advice_of _ first number = None
