-- The number and the name of each fault, and the words for why a deck is bad.
use Rattle.std.specs.Prelude.{ℕ, List, codes}
use Rattle.rp_base.specs.declared.fault.DeckReason.{DeckReason}
use Rattle.rp_base.specs.declared.fault.DeckReason.TheVariants.{NodesExpected, UnknownWord}
use Rattle.rp_base.specs.declared.fault.DeckReason.TheVariants.{WrongNumberOfWords, BadNumber}
use Rattle.rp_base.specs.declared.fault.DeckReason.TheVariants.{BadName, DuplicateName, UnknownName}
use Rattle.rp_base.specs.declared.fault.DeckReason.TheVariants.{TooMany, BadExpression}
use Rattle.rp_base.specs.declared.fault.DeckReason.TheVariants.{TaskExpected, ObjectExpected}
use Rattle.rp_base.specs.declared.fault.DeckReason.TheVariants.{EndExpected, ScriptExpected}
use Rattle.rp_base.specs.declared.fault.DeckReason.TheVariants.{NotInLive}
use Rattle.rp_base.specs.declared.fault.Fault.{Fault}
use Rattle.rp_base.specs.declared.fault.Fault.TheVariants.{OutOfMemory, Device, Failed, BadPacket}
use Rattle.rp_base.specs.declared.fault.Fault.TheVariants.{NotRunning, BallotsSpent, LogFull}
use Rattle.rp_base.specs.declared.fault.Fault.TheVariants.{NoSuchMessage, TaskBusy, NumbersSpent}
use Rattle.rp_base.specs.declared.fault.Fault.TheVariants.{BadDeck, BadConfig, Io}

-- its number
abbrev pub code_of : Fault → ℕ
code_of OutOfMemory = 1
code_of Device = 2
code_of Failed = 3
code_of (BadPacket reason) = 4
code_of NotRunning = 5
code_of BallotsSpent = 6
code_of LogFull = 7
code_of NoSuchMessage = 8
code_of TaskBusy = 9
code_of NumbersSpent = 10
code_of (BadDeck line reason) = 11
code_of BadConfig = 12
code_of Io = 13

-- its name
abbrev pub name_of : Fault → List ℕ
name_of OutOfMemory = codes "OutOfMemory"
name_of Device = codes "Device"
name_of Failed = codes "Failed"
name_of (BadPacket reason) = codes "BadPacket"
name_of NotRunning = codes "NotRunning"
name_of BallotsSpent = codes "BallotsSpent"
name_of LogFull = codes "LogFull"
name_of NoSuchMessage = codes "NoSuchMessage"
name_of TaskBusy = codes "TaskBusy"
name_of NumbersSpent = codes "NumbersSpent"
name_of (BadDeck line reason) = codes "BadDeck"
name_of BadConfig = codes "BadConfig"
name_of Io = codes "Io"

-- the words for a reason
abbrev pub reason_text_of : DeckReason → List ℕ
reason_text_of NodesExpected = codes "nodes expected"
reason_text_of UnknownWord = codes "unknown word"
reason_text_of WrongNumberOfWords = codes "wrong number of words"
reason_text_of BadNumber = codes "bad number"
reason_text_of BadName = codes "bad name"
reason_text_of DuplicateName = codes "duplicate name"
reason_text_of UnknownName = codes "unknown name"
reason_text_of TooMany = codes "too many"
reason_text_of BadExpression = codes "bad expression"
reason_text_of TaskExpected = codes "task expected"
reason_text_of ObjectExpected = codes "object expected"
reason_text_of EndExpected = codes "end expected"
reason_text_of ScriptExpected = codes "script expected"
reason_text_of NotInLive = codes "not in live"
