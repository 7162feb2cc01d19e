-- One reply more, or the end.
use Rattle.std.proofs.Common.{List, ℕ, arith, sym, subst}
use Rattle.std.specs.Io.KnownBytes.{Appends}
use Rattle.std.proofs.KnownBytes.{Appends-nil}
use Rattle.rp_run.specs.Output.{names_of}
use Rattle.rp_live_run.proofs.LivePrinting.{replies_next, replies_end}
use Rattle.rp_output.proofs.Writing.{writes_failed, wrote_nothing, wrote_more, wrote_some, wrote_all}
use Rattle.rp_live_run.proofs.live_output.print_replies.Goals as goal

pub loop-reply-init : goal.loop-reply-init
loop-reply-init g c = wrote_nothing _ _

pub returns-in_err-print_reply-clause-printed : goal.returns-in_err-print_reply-clause-printed
returns-in_err-print_reply-clause-printed g c =
    let next = replies_next (names_of c.args.tasks.now) c.args.replies.now c.loop-reply.reply-index c.reply-item.result (omega arith) c.reply-item.is in
    writes_failed _ _ _ c.from_residual.result c.from_residual.ensures.0
    (wrote_some _ _ _ _ _ c.loop-reply.invariant _ _ next c.in_err-print_reply.ensures.printed)

pub loop-reply-preserved : goal.loop-reply-preserved
loop-reply-preserved g c =
    let next = replies_next (names_of c.args.tasks.now) c.args.replies.now c.loop-reply.reply-index c.reply-item.result (omega arith) c.reply-item.is in
    wrote_more _ _ _ _ _ c.loop-reply.invariant _ _ next c.in_ok-print_reply.ensures.printed

pub returns-clause-printed : goal.returns-clause-printed
returns-clause-printed g c =
    let now = g.W.Write.contents c.loop-reply.writer in
    let ended = replies_end (names_of c.args.tasks.now) c.args.replies.now c.loop-reply.reply-index (omega arith) in
    wrote_all _ _ _ _ _ c.loop-reply.invariant (subst (λ (l : List ℕ). Appends now now l) (sym ended) (Appends-nil now))
