-- One answer more.
use Rattle.std.proofs.Common.{◌≡◌, ◌+◌, ◌++◌, ◌∷◌, List, [], take, ap, sym, subst, ◌∙◌}
use Rattle.std.proofs.lemmas.List.{take_all, take_more}
use Rattle.rp_base.specs.declared.reply.Answer.{Answer}
use Rattle.rp_explore.specs.Searched.{AreAnswersNoted}
use Rattle.rp_explore.proofs.GivenLemmas.{noted_none, noted_join}
use Rattle.rp_explore.proofs.findings.Given.note.Goals as goal

pub loop-answer-init : goal.loop-answer-init
loop-answer-init c = noted_none c.args.giver c.args.self.now.replies.keys c.args.self.now.givers.items

pub loop-answer-preserved : goal.loop-answer-preserved
loop-answer-preserved c =
    let xs = c.args.answers.now in
    let i = c.loop-answer.answer-index in
    let x = c.answer-item.result in
    let is : take (i + 1) xs ≡ take i xs ++ x ∷ [] = take_more xs i x c.loop-answer-test.true ∙ ap (λ (z : Answer). take i xs ++ z ∷ []) (sym c.answer-item.is) in
    let first = c.args.self.now in
    let old = c.loop-answer.self in
    let new = c.note_one.new.self in
    subst (λ (ys : List Answer). AreAnswersNoted ys c.args.giver first.replies.keys first.givers.items new.replies.keys new.givers.items) (sym is)
    (noted_join (take i xs) (x ∷ []) c.args.giver first.replies.keys old.replies.keys new.replies.keys first.givers.items old.givers.items new.givers.items c.loop-answer.invariant c.in_ok-note_one.ensures)

pub returns : goal.returns
returns c =
    let first = c.args.self.now in
    let last = c.loop-answer.self in
    subst (λ (ys : List Answer). AreAnswersNoted ys c.args.giver first.replies.keys first.givers.items last.replies.keys last.givers.items) (take_all c.loop-answer.answer-index c.args.answers.now c.loop-answer-test.false) c.loop-answer.invariant
