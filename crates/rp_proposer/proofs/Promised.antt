-- What a proposal keeps says of the promises what they say themselves.
use Rattle.std.proofs.Common.{◌≡◌, ℕ, List, [], ◌∷◌, ◌++◌, length, map, nat_eq, sym, subst}
use Rattle.std.proofs.lemmas.Bool.Decides.{Decides-eqb}
use Rattle.rp_base.specs.Number.{in_range}
use Rattle.rp_base.specs.Sets.{IsSet, SameMembers, with_member}
use Rattle.rp_base.specs.Majority.{nodes_among}
use Rattle.rp_base.specs.Promises.{Promise, same_promise, promisers_of}
use Rattle.rp_base.proofs.Members.{same_with, same_size, same_passing, set_passing, set_members, with_members-append}
use Rattle.rp_proposer.specs.Heard.{set_of}
use Rattle.rp_proposer.proofs.OnePromiseMore.{senders_after}

pub heard_more : (heard : List Promise) (p : Promise) → set_of (heard ++ p ∷ []) ≡ with_member same_promise (set_of heard) p
heard_more heard p = with_members-append same_promise p [] heard

-- the senders with one more
pub senders_more : (senders more : List ℕ) (promises : List Promise) (p : Promise) → SameMembers senders (promisers_of promises) → SameMembers more (with_member nat_eq senders p.0)
    → SameMembers more (promisers_of (with_member same_promise promises p))
senders_more senders more promises p are added =
    subst (λ (l : List ℕ). SameMembers more l) (sym (senders_after promises p))
    (λ x.
    let with = same_with nat_eq Decides-eqb p.0 senders (promisers_of promises) are x in
    (λ h. with.0 ((added x).0 h), λ h. (added x).1 (with.1 h)))

-- n of them are nodes
pub as_many : (nodes : ℕ) (senders : List ℕ) (promises : List Promise) → IsSet senders → SameMembers senders (promisers_of promises)
    → length (nodes_among nodes senders) ≡ length (nodes_among nodes (promisers_of promises))
as_many nodes senders promises distinct are =
    same_size (nodes_among nodes senders) (nodes_among nodes (promisers_of promises))
    (set_passing (in_range 1 nodes) senders distinct)
    (set_passing (in_range 1 nodes) (promisers_of promises) (set_members nat_eq Decides-eqb [] (map (λ (p : Promise). p.0) promises) tt))
    (same_passing (in_range 1 nodes) senders (promisers_of promises) are)
