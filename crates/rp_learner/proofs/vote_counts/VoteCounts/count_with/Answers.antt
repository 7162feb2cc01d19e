-- The voters counted are the senders of the vote's count, and this one.
use Rattle.std.proofs.Common.{◌≡◌, ℕ, suc, Some, List, ◌∷◌, length, refl, sym, ap, ◌∙◌, arith}
use Rattle.std.specs.Prelude.{nat_eq, slice_get}
use Rattle.std.proofs.lemmas.Option.{slice_get_read}
use Rattle.rp_base.specs.Majority.{nodes_among}
use Rattle.rp_base.specs.Sets.{with_member}
use Rattle.rp_base.proofs.Sameness.{vote_equal}
use Rattle.rp_learner.specs.Casts.{index_from}
use Rattle.rp_learner.specs.Status.{vote_for}
use Rattle.rp_learner.proofs.VoteCounts.{count_at, count_none, index_at, index_none, index_is, no_other}
use Rattle.rp_learner.proofs.vote_counts.VoteCounts.count_with.Goals as goal

pub returns-then-is_of : goal.returns-then-is_of
returns-then-is_of c =
    let voted = vote_equal c.self.inside.first.vote (vote_for c.args.ballot c.args.action.now) (sym c.is_of.ensures ∙ c.if-is_of.true) in
    rw (← c.self.view_is)
    (c.len_with.ensures.value
    ∙ count_at (c.self.inside.first ∷ c.self.inside.others.items) 0 c.self.inside.first c.args.nodes c.args.from (vote_for c.args.ballot c.args.action.now) c.self.invariant refl voted c.len_with.ensures.nodes.distinct)

pub index-requires : goal.index-requires
index-requires c = omega (arith, (index_at c.self.inside.others.items c.in-Some.index (vote_for c.args.ballot c.args.action.now) (rw (← c.deref.ensures.value, ← c.index_of_count.ensures) c.in-Some.is)).1, c.deref.ensures.len)

pub returns-in-Some : goal.returns-in-Some
returns-in-Some c =
    let found : index_from 0 (vote_for c.args.ballot c.args.action.now) c.self.inside.others.items ≡ Some c.in-Some.index = rw (← c.deref.ensures.value, ← c.index_of_count.ensures) c.in-Some.is in
    let less = (index_at c.self.inside.others.items c.in-Some.index (vote_for c.args.ballot c.args.action.now) found).1 in
    let at : slice_get c.self.inside.others.items c.in-Some.index ≡ Some c.index.result.now =
    slice_get_read c.self.inside.others.items (length c.self.inside.others.items) c.in-Some.index c.index.result.now refl less c.index.ensures in
    let voted = index_is c.self.inside.others.items c.in-Some.index (vote_for c.args.ballot c.args.action.now) c.index.result.now found at in
    rw (← c.self.view_is)
    (c.len_with-in-Some.ensures.value
    ∙ count_at (c.self.inside.first ∷ c.self.inside.others.items) (suc c.in-Some.index) c.index.result.now c.args.nodes c.args.from (vote_for c.args.ballot c.args.action.now)
    c.self.invariant at voted c.len_with-in-Some.ensures.nodes.distinct)

pub returns-in-None : goal.returns-in-None
returns-in-None c =
    let none = no_other c.self.inside.first c.self.inside.others.items (vote_for c.args.ballot c.args.action.now) (sym c.is_of.ensures ∙ c.if-is_of.false)
    (index_none c.self.inside.others.items 0 (vote_for c.args.ballot c.args.action.now) (rw (← c.deref.ensures.value, ← c.index_of_count.ensures) c.in-None.is)) in
    rw (← c.self.view_is)
    (c.len_with-in-None.ensures.value
    ∙ ap (λ (l : List ℕ). length (nodes_among c.args.nodes (with_member nat_eq l c.args.from))) c.new.ensures
    ∙ count_none (c.self.inside.first ∷ c.self.inside.others.items) c.args.nodes c.args.from (vote_for c.args.ballot c.args.action.now) none)
