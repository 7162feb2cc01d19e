-- What the place of the position tells.
use Rattle.std.proofs.Common.{rules, ◌-◌, ◌<◌, ℕ, List, arith, sym, subst}
use Rattle.rp_base.specs.declared.record.Rec.TheVariants.{Voted}
use Rattle.rp_base.specs.Sets.{Has}
use Rattle.rp_acceptor.specs.First.{IsFirstVote}
use Rattle.rp_acceptor.specs.Noted.{Noted, HasRoom}
use Rattle.rp_acceptor.specs.Slots.{Kept, HasSlot, HasFirstBound, AreKept}
use Rattle.rp_acceptor.proofs.Firsts.{first_vote, vote_found, vote_not_below, room_vote}
use Rattle.rp_acceptor.proofs.Keeping.{room_made}
use Rattle.rp_acceptor.proofs.acceptor.Acceptor.reserve_first_vote.Goals as goal

pub returns-in_default-clause-usual : goal.returns-in_default-clause-usual
returns-in_default-clause-usual c = λ has is.
    let l = c.self.inside in
    let i = c.args.position in
    let noted : Noted = record { records = l.records; reserved = l.reserved; votes = l.votes; ranges = l.ranges } in
    let first : 0 < i = search rules in
    let none = subst (λ (pages : List (List Kept)). HasSlot pages (i - 1) → (bound : ℕ) → ¬ HasFirstBound l.levels pages i bound) c.deref.ensures.value c.in_default.ensures.none in
    absurd (vote_found l.levels l.pages.items noted i first c.self.invariant (subst (λ (n : Noted). Has i n.votes) (sym c.self.view_is) has)
    c.args.ballot (subst (λ (n : Noted). IsFirstVote n.records i c.args.ballot) (sym c.self.view_is) is) none)

pub returns-then-get-bound-clause-usual : goal.returns-then-get-bound-clause-usual
returns-then-get-bound-clause-usual c = λ has is.
    let l = c.self.inside in
    let i = c.args.position in
    let noted : Noted = record { records = l.records; reserved = l.reserved; votes = l.votes; ranges = l.ranges } in
    let first : 0 < i = search rules in
    let bound = subst (λ (pages : List (List Kept)). HasFirstBound l.levels pages i c.in-Some.bound) c.deref.ensures.value c.in-Some.ensures.some in
    let low = vote_not_below l.levels l.pages.items noted i first c.self.invariant c.args.ballot c.in-Some.bound (subst (λ (n : Noted). IsFirstVote n.records i c.args.ballot) (sym c.self.view_is) is) bound in
    absurd (omega (arith, low, c.if-get-bound.true, c.get.ensures.value))

pub invariant_of-self : goal.invariant_of-self
invariant_of-self c =
    let l = c.self.inside in
    let i = c.args.position in
    let noted : Noted = record { records = l.records; reserved = l.reserved; votes = l.votes; ranges = l.ranges } in
    let first : 0 < i = search rules in
    let bound = subst (λ (pages : List (List Kept)). HasFirstBound l.levels pages i c.in-Some.bound) c.deref.ensures.value c.in-Some.ensures.some in
    subst (λ (vs : List ℕ). AreKept l.levels l.pages.items (record noted { votes = vs })) (sym c.push.ensures)
    (room_vote l.levels l.pages.items noted i first c.self.invariant c.in-Some.bound bound)

pub returns-clause-answer : goal.returns-clause-answer
returns-clause-answer c = λ _.
    let l = c.self.inside in
    let i = c.args.position in
    let noted : Noted = record { records = l.records; reserved = l.reserved; votes = l.votes; ranges = l.ranges } in
    let first : 0 < i = search rules in
    let bound = subst (λ (pages : List (List Kept)). HasFirstBound l.levels pages i c.in-Some.bound) c.deref.ensures.value c.in-Some.ensures.some in
    subst (λ (n : Noted). IsFirstVote n.records i c.args.ballot) c.self.view_is
    (first_vote l.levels l.pages.items noted i first c.self.invariant c.in-Some.bound bound c.args.ballot (omega (arith, c.if-get-bound.false, c.get.ensures.value)))

pub returns-clause-fits : goal.returns-clause-fits
returns-clause-fits c = λ _ action.
    let l = c.self.inside in
    let i = c.args.position in
    let noted : Noted = record { records = l.records; reserved = l.reserved; votes = l.votes; ranges = l.ranges } in
    subst (λ (vs : List ℕ). HasRoom (record noted { votes = vs }) (Voted i c.args.ballot action)) (sym c.push.ensures)
    (room_made noted (Voted i c.args.ballot action))
