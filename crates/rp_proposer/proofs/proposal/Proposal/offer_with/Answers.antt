use Rattle.std.proofs.Common.{◌≡◌, Option, ◌++◌, sym, ap, ◌∙◌}
use Rattle.std.specs.Prelude.{option_to_list, unwrap_or}
use Rattle.rp_base.specs.declared.action.Action.TheVariants.{Noop}
use Rattle.rp_base.specs.declared.record.Vote.{Vote}
use Rattle.rp_base.specs.Sets.{with_member}
use Rattle.rp_base.specs.Records.{highest}
use Rattle.rp_base.specs.Promises.{Promise, same_promise, highest_vote, action_or}
use Rattle.rp_proposer.specs.Heard.{set_of}
use Rattle.rp_proposer.proofs.OnePromiseMore.{vote_after}
use Rattle.rp_proposer.proofs.proposal.Proposal.offer_with.Goals as goal

pub returns-in-Some : goal.returns-in-Some
returns-in-Some c =
    let found : c.higher.result ≡ highest_vote (with_member same_promise (set_of c.self.inside.heard) c.args.promise.now) =
    c.higher.ensures
    ∙ ap (λ (last : Option Vote). highest (option_to_list last ++ option_to_list c.promise.inside.last)) c.self.invariant.1
    ∙ ap (λ (p : Promise). highest (option_to_list (highest_vote (set_of c.self.inside.heard)) ++ option_to_list p.1)) c.promise.view_is
    ∙ sym (vote_after (set_of c.self.inside.heard) c.args.promise.now) in
    rw (← c.self.view_is) (ap (action_or (unwrap_or c.self.inside.own Noop)) (sym c.in-Some.is ∙ found))

pub returns-in-None : goal.returns-in-None
returns-in-None c =
    let found : c.higher.result ≡ highest_vote (with_member same_promise (set_of c.self.inside.heard) c.args.promise.now) =
    c.higher.ensures
    ∙ ap (λ (last : Option Vote). highest (option_to_list last ++ option_to_list c.promise.inside.last)) c.self.invariant.1
    ∙ ap (λ (p : Promise). highest (option_to_list (highest_vote (set_of c.self.inside.heard)) ++ option_to_list p.1)) c.promise.view_is
    ∙ sym (vote_after (set_of c.self.inside.heard) c.args.promise.now) in
    rw (← c.self.view_is) (c.unwrap_or.ensures ∙ ap (action_or (unwrap_or c.self.inside.own Noop)) (sym c.in-None.is ∙ found))
