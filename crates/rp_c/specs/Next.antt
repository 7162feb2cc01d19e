-- The result of a request for the next deck of a station.
use Rattle.std.specs.Prelude.{◌≡◌, ◌≤◌, ◌<◌, ℕ, Option, Some, None, Ok, Err, List, length, Vec}
use Rattle.std.specs.declared.alloc.Global.{Global}
use Rattle.rp_script.specs.rp_base.specs.Fault.{code_of}
use Rattle.rp_script.specs.rp_base.specs.declared.fault.Fault.TheVariants as faults
use Rattle.rp_handles.specs.NextDecks.{HandleGoesOn}
use Rattle.rp_handles.specs.declared.actor.Actor.{Actor}
use Rattle.rp_handles.specs.declared.next.NoNextDeck.TheVariants.{OutOfMemory, NotEnded, AtWork}
use Rattle.rp_script.specs.Given.{most_bytes}
use Rattle.rp_c.specs.Decks.{IsTextPut, IsTextTooLong}
use Rattle.rp_c.specs.declared.next.NextEnding.{NextEnding}
use Rattle.rp_c.specs.declared.next.NextEnding.TheVariants.{Done, ShortAnswer, Io, WrongHandle}
use Rattle.rp_c.specs.declared.next.NextEnding.TheVariants.{NoDeck}

-- the number that is returned
abbrev pub next_code : NextEnding → ℕ
next_code Done = 0
next_code (NoDeck OutOfMemory) = code_of faults.OutOfMemory
next_code Io = code_of faults.Io
next_code ShortAnswer = 64
next_code WrongHandle = 68
next_code (NoDeck NotEnded) = 72
next_code (NoDeck AtWork) = 73

-- The next deck is in the buffer, or it does not fit, and its length was written; or there is none,
-- for this reason, and nothing has changed.
abbrev pub GivesNextDeck : List ℕ → Option Actor → List ℕ → List ℕ → ℕ → ℕ → NextEnding → Type 0
GivesNextDeck text kept old new before used Done =
    (next : Vec ℕ Global) × HandleGoesOn text kept (Some (Ok next)) × IsTextPut next.items old new used
GivesNextDeck text kept old new before used ShortAnswer =
    (next : Vec ℕ Global) × HandleGoesOn text kept (Some (Ok next))
    × IsTextTooLong next.items old new used
GivesNextDeck text kept old new before used Io =
    (new ≡ old) × (used ≡ before) × (most_bytes < length text)
GivesNextDeck text kept old new before used WrongHandle =
    (new ≡ old) × (used ≡ before) × HandleGoesOn text kept None
GivesNextDeck text kept old new before used (NoDeck reason) =
    (new ≡ old) × (used ≡ before) × (length text ≤ most_bytes)
    × HandleGoesOn text kept (Some (Err reason))
