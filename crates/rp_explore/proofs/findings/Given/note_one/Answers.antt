-- An answer is there, or it goes last.
use Rattle.std.proofs.Common.{◌∷◌, ◌++◌, [], Bool, if◌then◌else◌, ap, sym, ◌∙◌, true≢false}
use Rattle.rp_explore.proofs.AnswerLemmas.{found, has_found}
use Rattle.rp_explore.proofs.GivenLemmas.{noted_old, noted_new}
use Rattle.rp_explore.proofs.findings.Given.note_one.Goals as goal

pub returns-then-contains : goal.returns-then-contains
returns-then-contains c = noted_old c.args.answer.now c.args.giver c.args.self.now.replies.keys c.args.self.now.givers.items (found c.args.answer.now c.args.self.now.replies.keys (sym c.contains.ensures ∙ c.if-contains.true))

pub returns : goal.returns
returns c =
    let old = c.args.self.now.replies.keys in
    let x = c.args.answer.now in
    let none = sym c.contains.ensures ∙ c.if-contains.false in
    noted_new x c.args.giver old c.insert.new.self.keys c.args.self.now.givers.items c.push.new.self.items
    (λ h. true≢false (sym (has_found x old h) ∙ none))
    (c.in_ok-insert.ensures.keys ∙ ap (λ (b : Bool). if b then old else old ++ x ∷ []) none)
    c.in_ok-push.ensures.items
