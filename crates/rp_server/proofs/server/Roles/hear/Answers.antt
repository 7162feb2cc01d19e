use Rattle.std.proofs.Common.{◌≡◌, ◌≤◌, List, length, Result, Ok, Err, ap, subst, sym, ◌∙◌}
use Rattle.std.specs.Prelude.{OnErr}
use Rattle.rp_base.specs.Promises.{HeardVote}
use Rattle.rp_base.specs.Sets.{Has}
use Rattle.rp_learner.specs.Status.{status_with}
use Rattle.rp_learner.specs.declared.learner.VoteStatus.TheVariants.{Counting}
use Rattle.rp_server.specs.State.{ServerState}
use Rattle.rp_server.specs.Status.{status_of}
use Rattle.rp_server.specs.Invariant.{IsLearner}
use Rattle.rp_server.proofs.Beginning.{front_is}
use Rattle.rp_server.proofs.Hearing.{status_is, hears_more, none_of_those, server_hearing}
use Rattle.rp_server.proofs.server.Roles.hear.Goals as goal

pub invariant_of-self-2 : goal.invariant_of-self-2
invariant_of-self-2 g c =
    let r = c.self.inside in
    let vote = c.args.vote.now in
    let position : 1 ≤ c.args.position = c.requires.place.0 in
    let counting : status_with r.learner c.args.from c.args.position vote ≡ Counting =
    status_is r.config r.acceptor.records (length r.log.taken) r.learner r.heard c.args.from c.args.position vote c.self.invariant.learns
    (front_is r.acceptor.records r.log r.machine c.self.invariant.applies) position
    ∙ ap (λ (h : ServerState g.row.M.Denot). status_of h.config.nodes h.records h.running.heard c.args.from c.args.position vote) c.self.view_is
    ∙ c.requires.counting in
    server_hearing r.me r.config r.acceptor.records r.proposer r.learner c.note_vote.new.self r.heard c.hear.new.self r.log r.machine c.self.invariant
    (subst (λ (votes : List HeardVote). IsLearner r.config r.acceptor.records (length r.log.taken) c.note_vote.new.self votes) (sym c.hear.ensures)
    (hears_more r.config r.acceptor.records (length r.log.taken) r.learner c.note_vote.new.self r.heard c.args.from c.args.position vote c.self.invariant.learns position counting c.in_ok-note_vote.ensures.noted))

on_err : {T E P : Type 0} (r : Result T E) → P → OnErr r P
on_err (Ok v) p = tt
on_err (Err e) p = p

pub returns-in_err-note_vote-clause-unheard : goal.returns-in_err-note_vote-clause-unheard
returns-in_err-note_vote-clause-unheard g c =
    let r = c.self.inside in
    let from = c.args.from in
    let i = c.args.position in
    let vote = c.args.vote.now in
    let unheard = none_of_those r.config r.acceptor.records (length r.log.taken) r.learner r.heard from i vote c.self.invariant.learns c.in_err-note_vote.ensures.full in
    on_err c.from_residual.result (subst (λ (k : ServerState g.row.M.Denot). ¬ Has {A = HeardVote} (from, i, vote) k.running.heard) c.self.view_is unheard)
