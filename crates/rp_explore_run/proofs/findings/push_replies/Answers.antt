-- One reply more.
use Rattle.std.proofs.Common.{◌≡◌, ◌<◌, ◌∙◌, get_or, length, ap}
use Rattle.rp_script.specs.rp_base.specs.declared.reply.Answer.{Answer}
use Rattle.std.proofs.Common.{List}
use Rattle.rp_explore_run.proofs.Given.{given_more}
use Rattle.rp_explore_run.proofs.findings.push_replies.Goals as goal

pub loop-index-preserved : goal.loop-index-preserved
loop-index-preserved c =
    let replies = c.args.explored.now.replies in
    let answer = c.index-replies-index.result in
    let all = c.replies-replies.ensures in
    let below : c.loop-index.index < length replies = rw all at c.loop-index-test.true in
    let here : answer ≡ get_or replies c.loop-index.index answer = c.index-replies-index.is ∙ ap (λ (l : List Answer). get_or l c.loop-index.index answer) all in
    given_more replies c.args.explored.now.givers c.loop-index.index answer answer c.giver-giver.result c.requires below here (c.giver-giver.ensures c.giver-giver.result)
    c.args.found.now.items c.loop-index.found.items c.push.new.self.items c.loop-index.invariant c.in_ok-push.ensures.items
