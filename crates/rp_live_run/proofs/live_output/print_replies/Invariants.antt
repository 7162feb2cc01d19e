use Rattle.std.proofs.Common.{drop}
use Rattle.rp_live_run.specs.LiveOutput.{replies_text}
use Rattle.rp_run.specs.Output.{names_of}
use Rattle.rp_output.specs.Stream.{WroteBefore}
use Rattle.rp_live_run.proofs.live_output.print_replies.Given as goal

-- the replies before this one are printed
abbrev pub invariant-loop-reply : goal.invariant-loop-reply
invariant-loop-reply g l =
    WroteBefore (g.W.Write.contents l.fn.writer) (g.W.Write.contents l.writer) (replies_text (names_of l.tasks) (drop l.reply-index l.replies)) (replies_text (names_of l.tasks) l.replies)
