-- What the window represents once the vote is noted in its place.
use Rattle.std.proofs.Common.{◌∙◌, sym, ap, set}
use Rattle.rp_learner.specs.Place.{Place}
use Rattle.rp_learner.specs.Status.{vote_for}
use Rattle.rp_learner.proofs.Outcomes.{kept, notes_here, one_more_here, offset_at, after_err, after_errs, after_ok}
use Rattle.rp_learner.proofs.Writing.{learning_of}
use Rattle.rp_learner.proofs.learner.Learner.note_vote.Goals as goal

pub returns-clause-unchanged : goal.returns-clause-unchanged
returns-clause-unchanged c =
    let l = c.self.inside in
    after_err c.hear.result
    (λ same. ap (λ (p : Place). learning_of l.nodes l.max_positions l.first (set l.places.items c.in-Some.offset p)) same
    ∙ ap (learning_of l.nodes l.max_positions l.first) (kept l.places.items c.in-Some.offset c.in-Some-get_mut.place.now (sym c.in-Some-get_mut.ensures.value))
    ∙ c.self.view_is)
    c.hear.ensures.err

pub returns-clause-full : goal.returns-clause-full
returns-clause-full c =
    let l = c.self.inside in
    after_errs c.hear.result (λ more unheard. rw (← c.self.view_is) (more unheard))
    (after_errs c.hear.result
    (λ free few. one_more_here l.nodes l.max_positions l.first l.places.items c.args.position c.in-Some.offset c.in-Some-get_mut.place.now
    (offset_at l.first c.args.position c.in-Some.offset c.in-Some.ensures) c.self.invariant.2 (sym c.in-Some-get_mut.ensures.value)
    c.args.from (vote_for c.args.ballot c.args.action.now) c.self.invariant.0 free few)
    c.hear.ensures.open c.hear.ensures.few)
    c.hear.ensures.unheard

pub returns-clause-noted : goal.returns-clause-noted
returns-clause-noted c =
    let l = c.self.inside in
    after_ok c.hear.result
    (λ noted. rw (← c.self.view_is)
    (notes_here l.nodes l.max_positions l.first l.places.items c.args.position c.in-Some.offset c.in-Some-get_mut.place.now
    (offset_at l.first c.args.position c.in-Some.offset c.in-Some.ensures) c.self.invariant.2 (sym c.in-Some-get_mut.ensures.value)
    c.args.from (vote_for c.args.ballot c.args.action.now) c.hear.new.self noted))
    c.hear.ensures.ok
