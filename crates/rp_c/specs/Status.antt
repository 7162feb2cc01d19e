-- The numbers that a C caller gets.
use Rattle.std.specs.Prelude.{ℕ}
use Rattle.rp_script.specs.rp_base.specs.Fault.{code_of}
use Rattle.rp_script.specs.rp_base.specs.declared.fault.Fault.TheVariants as faults
use Rattle.rp_script.specs.rp_base.specs.declared.fault.DeckReason.{DeckReason}
use Rattle.rp_script.specs.rp_base.specs.declared.fault.DeckReason.TheVariants.{NodesExpected}
use Rattle.rp_script.specs.rp_base.specs.declared.fault.DeckReason.TheVariants.{UnknownWord}
use Rattle.rp_script.specs.rp_base.specs.declared.fault.DeckReason.TheVariants.{WrongNumberOfWords}
use Rattle.rp_script.specs.rp_base.specs.declared.fault.DeckReason.TheVariants.{BadNumber}
use Rattle.rp_script.specs.rp_base.specs.declared.fault.DeckReason.TheVariants.{BadName}
use Rattle.rp_script.specs.rp_base.specs.declared.fault.DeckReason.TheVariants.{DuplicateName}
use Rattle.rp_script.specs.rp_base.specs.declared.fault.DeckReason.TheVariants.{UnknownName}
use Rattle.rp_script.specs.rp_base.specs.declared.fault.DeckReason.TheVariants.{TooMany}
use Rattle.rp_script.specs.rp_base.specs.declared.fault.DeckReason.TheVariants.{BadExpression}
use Rattle.rp_script.specs.rp_base.specs.declared.fault.DeckReason.TheVariants.{TaskExpected}
use Rattle.rp_script.specs.rp_base.specs.declared.fault.DeckReason.TheVariants.{ObjectExpected}
use Rattle.rp_script.specs.rp_base.specs.declared.fault.DeckReason.TheVariants.{EndExpected}
use Rattle.rp_script.specs.rp_base.specs.declared.fault.DeckReason.TheVariants.{ScriptExpected}
use Rattle.rp_script.specs.rp_base.specs.declared.fault.DeckReason.TheVariants.{NotInLive}
use Rattle.rp_script.specs.rp_base.specs.declared.fault.PacketReason.{PacketReason}
use Rattle.rp_script.specs.rp_base.specs.declared.fault.PacketReason.TheVariants.{Short, Long}
use Rattle.rp_script.specs.rp_base.specs.declared.fault.PacketReason.TheVariants.{Version, Kind}
use Rattle.rp_script.specs.rp_base.specs.declared.fault.PacketReason.TheVariants.{Field}
use Rattle.rp_c.specs.declared.status.Status.{Status}
use Rattle.rp_c.specs.declared.status.Status.TheVariants.{Done, OutOfMemory, BadPacket, BadDeck, Io}
use Rattle.rp_c.specs.declared.status.Status.TheVariants.{ShortAnswer}

-- 0, the number of the fault of the same name, or 64 for the status that only this library has
abbrev pub status_code : Status → ℕ
status_code Done = 0
status_code OutOfMemory = code_of faults.OutOfMemory
status_code BadPacket = code_of (faults.BadPacket Short)
status_code BadDeck = code_of (faults.BadDeck 1 NodesExpected)
status_code Io = code_of faults.Io
status_code ShortAnswer = 64

abbrev pub reason_code : PacketReason → ℕ
reason_code Short = 1
reason_code Long = 2
reason_code Version = 3
reason_code Kind = 4
reason_code Field = 5

-- the number of the first reason for which a deck is bad
abbrev pub deck_reason_code : DeckReason → ℕ
deck_reason_code NodesExpected = 1
deck_reason_code UnknownWord = 2
deck_reason_code WrongNumberOfWords = 3
deck_reason_code BadNumber = 4
deck_reason_code BadName = 5
deck_reason_code DuplicateName = 6
deck_reason_code UnknownName = 7
deck_reason_code TooMany = 8
deck_reason_code BadExpression = 9
deck_reason_code TaskExpected = 10
deck_reason_code ObjectExpected = 11
deck_reason_code EndExpected = 12
deck_reason_code ScriptExpected = 13
deck_reason_code NotInLive = 14
