-- A majority of promises justifies an offer.
use Rattle.std.proofs.Common.{◌≡◌, ℕ, true, Option, Some, None, List, [], length, map, inl, inr, refl, sym, ap, subst}
use Rattle.std.specs.Prelude.{nat_eq, IfSome, unwrap_or}
use Rattle.std.proofs.lemmas.Bool.{leb-true, and_parts}
use Rattle.std.proofs.lemmas.Bool.Decides.{Decides-eqb}
use Rattle.rp_base.specs.PlacedVotes.{placed_at}
use Rattle.rp_base.specs.declared.action.Action.{Action}
use Rattle.rp_base.specs.declared.action.Action.TheVariants.{Noop}
use Rattle.rp_base.specs.declared.record.Vote.{Vote}
use Rattle.rp_base.specs.declared.record.Rec.{Rec}
use Rattle.rp_base.specs.declared.record.Rec.TheVariants.{Promised, PromisedRange}
use Rattle.rp_base.specs.Number.{in_range}
use Rattle.rp_base.specs.Sets.{Has}
use Rattle.rp_base.specs.Majority.{majority_of, nodes_among, is_majority}
use Rattle.rp_base.specs.Promises.{Promise, promisers_of, highest_vote, action_or, offer_of}
use Rattle.rp_base.proofs.Members.{has_passing, has_members, mapped_has, set_members, set_passing}
use Rattle.rp_codec.specs.Message.{Message}
use Rattle.rp_codec.specs.declared.packet.Party.{Party}
use Rattle.rp_codec.specs.declared.packet.Body.{Body}
use Rattle.rp_codec.specs.declared.packet.Body.TheVariants as bodies
use Rattle.rp_model.specs.Parts.{NodePart}
use Rattle.rp_model.specs.Facts.{IsPromise, HasPromised, IsOffered}
use Rattle.rp_agreement.specs.Asked.{IsAsked}
use Rattle.rp_agreement.specs.Justified.{Reports, IsJustified, HasPromiseRecord}
use Rattle.rp_agreement.specs.Sound.{IsMember, IsSo, SaysSo, IsSound}
use Rattle.rp_agreement.proofs.Lists.{has_picked, highest_has}

-- ---- what is sent is so

promise_so : (nodes : ℕ) (sent : List Message) (records : List Rec) (body : Body) (i b : ℕ) (last : Option Vote) → IsPromise body i b last → IsSo nodes sent records body
    → HasPromiseRecord records i b × Reports records i b last
promise_so nodes sent records (bodies.Promise position ballot vote) i b last is so =
    let Kept : ℕ → ℕ → Option Vote → Type 0 = λ j c o. HasPromiseRecord records j c × Reports records j c o in
    subst (Kept i b) is.2 (subst (λ (c : ℕ). Kept i c vote) is.1 (subst (λ (j : ℕ). Kept j ballot vote) is.0 ((Promised position ballot, so.0, (refl, refl)), so.1)))
promise_so nodes sent records (bodies.PromiseRange range ballot votes) i b last is so =
    let Kept : ℕ → Option Vote → Type 0 = λ c o. HasPromiseRecord records i c × Reports records i c o in
    subst (Kept b) is.2 (subst (λ (c : ℕ). Kept c (placed_at votes i)) is.1 ((PromisedRange range ballot, so.0, (is.0, refl)), so.1 i is.0))
promise_so nodes sent records _ i b last is so = absurd is

-- a node that sent a promise keeps it
pub promise_kept : (nodes : ℕ) (node : ℕ → NodePart) (sent : List Message) → IsSound nodes node sent → (a i b : ℕ) (last : Option Vote) → HasPromised sent a i b last
    → IsMember nodes a × Reports (node a).records i b last × HasPromiseRecord (node a).records i b
promise_kept nodes node sent sound a i b last stated =
    let so = subst (λ (party : Party). SaysSo nodes node sent party stated.0.body) stated.2 (sound.says stated.0 stated.1) in
    let kept = promise_so nodes sent (node a).records stated.0.body i b last stated.3 so.1 in
    (so.0, kept.1, kept.0)

-- what is offered was asked for
pub offer_asked : (nodes : ℕ) (node : ℕ → NodePart) (sent : List Message) → IsSound nodes node sent → (i b : ℕ) (v : Action) → IsOffered sent i b v → IsAsked sent v
offer_asked nodes node sent sound i b v offer = (sound.says _ offer.2).1.2

-- ---- offers

pub noop_asked : (sent : List Message) → IsAsked sent Noop
noop_asked sent = record { right = tt; asked = λ call h. absurd h }

-- a fact of the action that does nothing and of an own one
pub own_or_noop : (P : Action → Type 0) (own : Option Action) → P Noop → IfSome own P → P (unwrap_or own Noop)
own_or_noop P None noop h = noop
own_or_noop P (Some action) noop h = h

vote_or_own : (P : Action → Type 0) (own : Action) (vote : Option Vote) → P own → ((w : Vote) → vote ≡ Some w → P w.action) → P (action_or own vote)
vote_or_own P own None is reported = is
vote_or_own P own (Some w) is reported = reported w refl

-- each promise of the list was sent
abbrev pub AreStated : List Message → ℕ → ℕ → List Promise → Type 0
AreStated sent i b promises = (a : ℕ) (last : Option Vote) → Has (a, last) promises → HasPromised sent a i b last

-- a fact of all that was offered, of the own action and of the one that does nothing is one of the offer
pub offer_is_so : (P : Action → Type 0) (nodes : ℕ) (node : ℕ → NodePart) (sent : List Message) → IsSound nodes node sent
    → P Noop → ((i b : ℕ) (v : Action) → IsOffered sent i b v → P v) → (i b : ℕ) (promises : List Promise) (own : Option Action)
    → AreStated sent i b promises → IfSome own P → P (offer_of own promises)
offer_is_so P nodes node sent sound noop offered i b promises own stated is_own =
    vote_or_own P (unwrap_or own Noop) (highest_vote promises) (own_or_noop P own noop is_own) (λ w is.
    let picked = has_picked (λ (p : Promise). p.1) w promises (highest_has w _ is) in
    let kept = promise_kept nodes node sent sound picked.0.0 i b picked.0.1 (stated picked.0.0 picked.0.1 picked.1) in
    let cast = kept.1.cast w picked.2 in
    offered i w.ballot w.action (sound.voted picked.0.0 i w.ballot w.action cast.0))

-- the offer was asked for
pub offer_is_asked : (nodes : ℕ) (node : ℕ → NodePart) (sent : List Message) → IsSound nodes node sent → (i b : ℕ) (promises : List Promise) (own : Option Action)
    → AreStated sent i b promises → IfSome own (IsAsked sent) → IsAsked sent (offer_of own promises)
offer_is_asked nodes node sent sound i b promises own stated asked =
    offer_is_so (IsAsked sent) nodes node sent sound (noop_asked sent) (offer_asked nodes node sent sound) i b promises own stated asked

promiser : (a : ℕ) (promises : List Promise) → Has a (promisers_of promises) → (last : Option Vote) × (let p : Promise = (a, last) in Has p promises)
promiser a promises h =
    elim (has_members nat_eq Decides-eqb a [] (map (λ (p : Promise). p.0) promises) h) [
      | inl none ↦ absurd none
      | inr there ↦
          let hit = mapped_has (λ (p : Promise). p.0) a promises there in
          (hit.0.1, subst (λ (k : ℕ). let p : Promise = (k, hit.0.1) in Has p promises) (sym hit.2) hit.1)
    ]

-- more than half promised, so the offer is justified
pub founds : (nodes : ℕ) (sent : List Message) (i b : ℕ) (promises : List Promise) (own : Option Action) → AreStated sent i b promises
    → is_majority nodes (promisers_of promises) ≡ true → IsJustified nodes sent i b (offer_of own promises)
founds nodes sent i b promises own stated most =
    let among = λ (a : ℕ) (h : Has a (nodes_among nodes (promisers_of promises))). has_passing (in_range 1 nodes) a (promisers_of promises) h in
    record {
      promises = promises;
      stated = stated;
      promisers = nodes_among nodes (promisers_of promises);
      members = record {
        members = λ a h. let test = and_parts _ _ (among a h).1 in (leb-true 1 a test.0, leb-true a nodes test.1);
        distinct = set_passing (in_range 1 nodes) (promisers_of promises) (set_members nat_eq Decides-eqb [] (map (λ (p : Promise). p.0) promises) tt);
      };
      majority = leb-true (majority_of nodes) (length (nodes_among nodes (promisers_of promises))) most;
      promised = λ a h. promiser a promises (among a h).0;
      highest = λ w is. ap (action_or (unwrap_or own Noop)) is;
    }
