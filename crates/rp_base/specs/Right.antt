-- Which replies, votes and records keep the rules of their fields.
use Rattle.std.specs.Prelude.{FitsSigned}
use Rattle.std.specs.Int.{w64}
use Rattle.rp_base.specs.Action.{IsRight}
use Rattle.rp_base.specs.declared.reply.Reply.{Reply}
use Rattle.rp_base.specs.declared.reply.Reply.TheVariants.{Value, Truth, ConstraintError}
use Rattle.rp_base.specs.declared.reply.Reply.TheVariants.{ProgramError, NoSuchOperation}
use Rattle.rp_base.specs.declared.record.Vote.{Vote}
use Rattle.rp_base.specs.declared.record.Rec.{Rec}
use Rattle.rp_base.specs.declared.record.Rec.TheVariants.{Started, Promised, Voted, Learned}
use Rattle.rp_base.specs.declared.record.Rec.TheVariants.{PromisedRange}

-- the value of the reply has 64 signed bits
abbrev pub IsReply : Reply → Type 0
IsReply (Value z) = FitsSigned w64 z
IsReply (Truth b) = Unit {0}
IsReply ConstraintError = Unit {0}
IsReply ProgramError = Unit {0}
IsReply NoSuchOperation = Unit {0}

-- the action of the vote is right
abbrev pub IsRightVote : Vote → Type 0
IsRightVote vote = IsRight vote.action

-- the action of the record, if it has one, is right
abbrev pub IsRightRecord : Rec → Type 0
IsRightRecord (Started ballot) = Unit {0}
IsRightRecord (Promised position ballot) = Unit {0}
IsRightRecord (Voted position ballot action) = IsRight action
IsRightRecord (Learned position action) = IsRight action
IsRightRecord (PromisedRange range ballot) = Unit {0}
