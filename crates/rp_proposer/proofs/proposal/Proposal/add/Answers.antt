use Rattle.std.proofs.Common.{◌≡◌, ◌++◌, List, Option, nat_eq, sym, ap, subst, ◌∙◌}
use Rattle.std.specs.Prelude.{option_to_list}
use Rattle.rp_base.specs.declared.record.Vote.{Vote}
use Rattle.rp_base.specs.Sets.{SameMembers, with_member}
use Rattle.rp_base.specs.Records.{highest}
use Rattle.rp_base.specs.Promises.{Promise, same_promise, promisers_of, highest_vote}
use Rattle.rp_proposer.specs.Heard.{set_of}
use Rattle.rp_proposer.proofs.OnePromiseMore.{vote_after}
use Rattle.rp_proposer.proofs.Promised.{heard_more, senders_more}
use Rattle.rp_proposer.proofs.proposal.Proposal.add.Goals as goal

-- the fields say of the promises with one more what they said of those before
pub invariant_of-self : goal.invariant_of-self
invariant_of-self c =
    let heard : set_of c.push.new.self ≡ with_member same_promise (set_of c.self.inside.heard) c.args.promise =
    ap set_of c.push.ensures ∙ heard_more c.self.inside.heard c.args.promise in (
      subst (λ (l : List Promise). SameMembers c.insert.new.self (promisers_of l)) (sym heard)
          (senders_more c.self.inside.senders c.insert.new.self (set_of c.self.inside.heard) c.args.promise c.self.invariant.0
          (subst (λ (p : Promise). SameMembers c.insert.new.self (with_member nat_eq c.self.inside.senders p.0)) c.promise.view_is c.insert.ensures)),
      c.raise.ensures
          ∙ ap (λ (last : Option Vote). highest (option_to_list last ++ option_to_list c.promise.inside.last)) c.self.invariant.1
          ∙ ap (λ (p : Promise). highest (option_to_list (highest_vote (set_of c.self.inside.heard)) ++ option_to_list p.1)) c.promise.view_is
          ∙ sym (vote_after (set_of c.self.inside.heard) c.args.promise)
          ∙ ap highest_vote (sym heard),
    )

pub returns : goal.returns
returns c =
    let heard : set_of c.push.new.self ≡ with_member same_promise (set_of c.self.inside.heard) c.args.promise =
    ap set_of c.push.ensures ∙ heard_more c.self.inside.heard c.args.promise in
    rw (← c.self.view_is) (ap (λ (l : List Promise). record {
      position = c.self.inside.position;
      ballot = c.self.inside.ballot;
      own = c.self.inside.own;
      ranged = c.self.inside.ranged;
      phase = c.self.inside.phase;
      promises = l;
    }) heard)
