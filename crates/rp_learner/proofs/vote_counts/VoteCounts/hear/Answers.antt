-- The vote is one more in its count, or has a new one.
use Rattle.std.proofs.Common.{◌≡◌, ◌≤◌, ℕ, suc, Some, List, ◌∷◌, length, refl, sym, ap, subst, ◌∙◌, arith}
use Rattle.std.specs.Prelude.{nat_eq, slice_get}
use Rattle.std.proofs.lemmas.Option.{slice_get_read}
use Rattle.rp_base.specs.Majority.{nodes_among}
use Rattle.rp_base.specs.Sets.{with_member}
use Rattle.rp_base.proofs.Sameness.{vote_equal}
use Rattle.rp_learner.specs.Casts.{index_from}
use Rattle.rp_learner.specs.Status.{vote_for}
use Rattle.rp_learner.proofs.VoteCounts.{count_at, count_none, index_at, index_none, index_is, no_other, heard_at, still_counts, heard_first, more_counts, unheard, alone}
use Rattle.rp_learner.proofs.Outcomes.{on_err}
use Rattle.rp_learner.proofs.vote_counts.VoteCounts.hear.Goals as goal

pub returns-then-is_of-clause-ok : goal.returns-then-is_of-clause-ok
returns-then-is_of-clause-ok c =
    let vote = vote_for c.args.ballot c.args.action.now in
    let voted = vote_equal c.self.inside.first.vote vote (sym c.is_of.ensures ∙ c.if-is_of.true) in
    rw (← c.self.view_is)
    (heard_at (c.self.inside.first ∷ c.self.inside.others.items) 0 c.self.inside.first c.hear.new.self
    c.args.from vote refl voted (c.hear.ensures.vote ∙ voted) c.hear.ensures.senders)

pub returns-then-is_of-clause-voters : goal.returns-then-is_of-clause-voters
returns-then-is_of-clause-voters c =
    let vote = vote_for c.args.ballot c.args.action.now in
    let voted = vote_equal c.self.inside.first.vote vote (sym c.is_of.ensures ∙ c.if-is_of.true) in
    rw (← c.self.view_is)
    (c.hear.ensures.voters
    ∙ count_at (c.self.inside.first ∷ c.self.inside.others.items) 0 c.self.inside.first c.args.nodes c.args.from vote c.self.invariant refl voted c.hear.ensures.once)

pub index_mut-requires : goal.index_mut-requires
index_mut-requires c =
    omega (arith, (index_at c.self.inside.others.items c.in-Some.index (vote_for c.args.ballot c.args.action.now) (rw (← c.deref.ensures.value, ← c.index_of_count.ensures) c.in-Some.is)).1, c.deref.ensures.len)

pub invariant_of-self-in-Some : goal.invariant_of-self-in-Some
invariant_of-self-in-Some c =
    let vote = vote_for c.args.ballot c.args.action.now in
    let found : index_from 0 vote c.self.inside.others.items ≡ Some c.in-Some.index = rw (← c.deref.ensures.value, ← c.index_of_count.ensures) c.in-Some.is in
    let less = (index_at c.self.inside.others.items c.in-Some.index vote found).1 in
    let at : slice_get c.self.inside.others.items c.in-Some.index ≡ Some c.index_mut.result.now =
    slice_get_read c.self.inside.others.items (length c.self.inside.others.items) c.in-Some.index c.index_mut.result.now refl less c.index_mut.ensures.value in
    still_counts (c.self.inside.first ∷ c.self.inside.others.items) (suc c.in-Some.index) c.index_mut.result.now c.hear-in-Some.new.self at c.hear-in-Some.ensures.vote c.self.invariant

pub returns-in-Some-clause-ok : goal.returns-in-Some-clause-ok
returns-in-Some-clause-ok c =
    let vote = vote_for c.args.ballot c.args.action.now in
    let found : index_from 0 vote c.self.inside.others.items ≡ Some c.in-Some.index = rw (← c.deref.ensures.value, ← c.index_of_count.ensures) c.in-Some.is in
    let less = (index_at c.self.inside.others.items c.in-Some.index vote found).1 in
    let at : slice_get c.self.inside.others.items c.in-Some.index ≡ Some c.index_mut.result.now =
    slice_get_read c.self.inside.others.items (length c.self.inside.others.items) c.in-Some.index c.index_mut.result.now refl less c.index_mut.ensures.value in
    let voted = index_is c.self.inside.others.items c.in-Some.index vote c.index_mut.result.now found at in
    rw (← c.self.view_is)
    (heard_at (c.self.inside.first ∷ c.self.inside.others.items) (suc c.in-Some.index) c.index_mut.result.now c.hear-in-Some.new.self
    c.args.from vote at voted (c.hear-in-Some.ensures.vote ∙ voted) c.hear-in-Some.ensures.senders)

pub returns-in-Some-clause-voters : goal.returns-in-Some-clause-voters
returns-in-Some-clause-voters c =
    let vote = vote_for c.args.ballot c.args.action.now in
    let found : index_from 0 vote c.self.inside.others.items ≡ Some c.in-Some.index = rw (← c.deref.ensures.value, ← c.index_of_count.ensures) c.in-Some.is in
    let less = (index_at c.self.inside.others.items c.in-Some.index vote found).1 in
    let at : slice_get c.self.inside.others.items c.in-Some.index ≡ Some c.index_mut.result.now =
    slice_get_read c.self.inside.others.items (length c.self.inside.others.items) c.in-Some.index c.index_mut.result.now refl less c.index_mut.ensures.value in
    let voted = index_is c.self.inside.others.items c.in-Some.index vote c.index_mut.result.now found at in
    rw (← c.self.view_is)
    (c.hear-in-Some.ensures.voters
    ∙ count_at (c.self.inside.first ∷ c.self.inside.others.items) (suc c.in-Some.index) c.index_mut.result.now c.args.nodes c.args.from vote c.self.invariant at voted c.hear-in-Some.ensures.once)

pub returns-in_err-push-in-None-clause-full : goal.returns-in_err-push-in-None-clause-full
returns-in_err-push-in-None-clause-full c =
    let vote = vote_for c.args.ballot c.args.action.now in
    let none = no_other c.self.inside.first c.self.inside.others.items vote (sym c.is_of.ensures ∙ c.if-is_of.false)
    (index_none c.self.inside.others.items 0 vote (rw (← c.deref.ensures.value, ← c.index_of_count.ensures) c.in-None.is)) in
    on_err c.from_residual.result (rw (← c.self.view_is) (unheard (c.self.inside.first ∷ c.self.inside.others.items) c.args.from vote none))

pub returns-in_err-push-in-None-clause-few : goal.returns-in_err-push-in-None-clause-few
returns-in_err-push-in-None-clause-few c =
    let vote = vote_for c.args.ballot c.args.action.now in
    let none = no_other c.self.inside.first c.self.inside.others.items vote (sym c.is_of.ensures ∙ c.if-is_of.false)
    (index_none c.self.inside.others.items 0 vote (rw (← c.deref.ensures.value, ← c.index_of_count.ensures) c.in-None.is)) in
    on_err c.from_residual.result (rw (← c.self.view_is) (subst (λ (n : ℕ). n ≤ 1)
    (count_none (c.self.inside.first ∷ c.self.inside.others.items) c.args.nodes c.args.from vote none) (alone c.args.nodes c.args.from)))

pub invariant_of-self-in-None : goal.invariant_of-self-in-None
invariant_of-self-in-None c =
    let vote = vote_for c.args.ballot c.args.action.now in
    let none = no_other c.self.inside.first c.self.inside.others.items vote (sym c.is_of.ensures ∙ c.if-is_of.false)
    (index_none c.self.inside.others.items 0 vote (rw (← c.deref.ensures.value, ← c.index_of_count.ensures) c.in-None.is)) in
    rw c.in_ok-push-in-None.ensures.items
    (more_counts (c.self.inside.first ∷ c.self.inside.others.items) c.new.result vote c.new.ensures.vote none c.self.invariant)

pub returns-in_ok-push-in-None-clause-ok : goal.returns-in_ok-push-in-None-clause-ok
returns-in_ok-push-in-None-clause-ok c =
    let vote = vote_for c.args.ballot c.args.action.now in
    let none = no_other c.self.inside.first c.self.inside.others.items vote (sym c.is_of.ensures ∙ c.if-is_of.false)
    (index_none c.self.inside.others.items 0 vote (rw (← c.deref.ensures.value, ← c.index_of_count.ensures) c.in-None.is)) in
    rw (c.in_ok-push-in-None.ensures.items, ← c.self.view_is)
    (heard_first (c.self.inside.first ∷ c.self.inside.others.items) c.new.result c.args.from vote c.new.ensures.vote c.new.ensures.senders)

pub returns-in_ok-push-in-None-clause-voters : goal.returns-in_ok-push-in-None-clause-voters
returns-in_ok-push-in-None-clause-voters c =
    let vote = vote_for c.args.ballot c.args.action.now in
    let none = no_other c.self.inside.first c.self.inside.others.items vote (sym c.is_of.ensures ∙ c.if-is_of.false)
    (index_none c.self.inside.others.items 0 vote (rw (← c.deref.ensures.value, ← c.index_of_count.ensures) c.in-None.is)) in
    rw (← c.self.view_is)
    (c.len_with.ensures.value
    ∙ ap (λ (l : List ℕ). length (nodes_among c.args.nodes (with_member nat_eq l c.args.from))) c.new-in-None.ensures
    ∙ count_none (c.self.inside.first ∷ c.self.inside.others.items) c.args.nodes c.args.from vote none)
