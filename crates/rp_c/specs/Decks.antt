-- The result of running a deck.
use Rattle.std.specs.Prelude.{◌≡◌, ◌⊎◌, ◌<◌, ◌≤◌, ℕ, Bool, Some, Err, List, [], ◌++◌, length, drop}
use Rattle.rp_script.specs.rp_base.specs.declared.fault.Fault.TheVariants as faults
use Rattle.rp_script.specs.rp_base.specs.declared.fault.DeckReason.{DeckReason}
use Rattle.rp_script.specs.rp_deck.specs.Meaning.{meaning_of}
use Rattle.rp_script.specs.rp_deck.specs.declared.deck.Mode.TheVariants.{Script}
use Rattle.rp_script.specs.Agreeing.{ScriptPrints}
use Rattle.rp_script.specs.rp_output.specs.FaultMessage.{fault_message_of, with_line_feed}
use Rattle.rp_script.specs.Given.{most_bytes}
use Rattle.rp_c.specs.declared.status.Status.{Status}
use Rattle.rp_c.specs.declared.status.Status.TheVariants.{Done, OutOfMemory, BadPacket, BadDeck, Io}
use Rattle.rp_c.specs.declared.status.Status.TheVariants.{ShortAnswer}

-- The text is the whole output of the deck that the bytes mean, and `DeckPrints` holds of it.
abbrev pub IsOutput : Bool → List ℕ → List ℕ → Type 0
IsOutput traced bytes text = ScriptPrints traced (Some bytes) (Some []) (Some text)

-- The bytes, no more than a deck may have, mean no deck, and the text is the line that reports the
-- first bad line and its first reason.
abbrev pub IsBadLine : List ℕ → List ℕ → Type 0
IsBadLine bytes text = (line : ℕ) × (reason : DeckReason)
    × (length bytes ≤ most_bytes)
    × (meaning_of Script bytes ≡ Err (record { line = line; reason = reason }))
    × (text ≡ with_line_feed (fault_message_of (faults.BadDeck line reason)))

-- The text is at the front of the buffer, whose other bytes are as they were, and its length was
-- written.
pub record IsTextPut (text old new : List ℕ) (used : ℕ) : Type 0 where
  pub front : new ≡ text ++ drop (length text) old
  pub length_is : used ≡ length text

-- The text is longer than the buffer, which is as it was, and its length was written.
pub record IsTextTooLong (text old new : List ℕ) (used : ℕ) : Type 0 where
  pub longer : length old < length text
  pub kept : new ≡ old
  pub length_is : used ≡ length text

-- How a run ends, by its status: what is in the buffer, and what is written as its length.
abbrev pub RunsDeck : Bool → List ℕ → List ℕ → List ℕ → ℕ → ℕ → Status → Type 0
RunsDeck traced bytes old new before used Done =
    (text : List ℕ) × IsOutput traced bytes text × IsTextPut text old new used
RunsDeck traced bytes old new before used BadDeck =
    (text : List ℕ) × IsBadLine bytes text × IsTextPut text old new used
RunsDeck traced bytes old new before used ShortAnswer =
    (text : List ℕ) × (IsOutput traced bytes text ⊎ IsBadLine bytes text)
    × IsTextTooLong text old new used
RunsDeck traced bytes old new before used OutOfMemory =
    (length bytes ≤ most_bytes) × (new ≡ old) × (used ≡ before)
RunsDeck traced bytes old new before used Io =
    (most_bytes < length bytes) × (new ≡ old) × (used ≡ before)
RunsDeck traced bytes old new before used BadPacket = ⊥

-- A text is put into a buffer, if it fits, with this status.
abbrev pub PutsText : List ℕ → List ℕ → List ℕ → ℕ → Status → Status → Type 0
PutsText text old new used done status =
    ((status ≡ done) × IsTextPut text old new used)
    ⊎ ((status ≡ ShortAnswer) × IsTextTooLong text old new used)
