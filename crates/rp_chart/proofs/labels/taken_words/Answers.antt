-- The reply is the one that was taken.
use Rattle.rp_chart.proofs.labels.taken_words.Goals as goal

pub returns-in-Some : goal.returns-in-Some
returns-in-Some c = rw c.in-Some.is (c.reply_words.ensures c.args.happened.now)
