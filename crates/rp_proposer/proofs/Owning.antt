-- How many proposals have an action of their own, where one is put in place, added or taken out.
use Rattle.std.proofs.Common.{◌≡◌, ℕ, zero, suc, ◌+◌, ◌≤◌, true, false, cond, Option, Some, None, List, [], ◌∷◌, ◌++◌, length, map, set, refl, ap, arith}
use Rattle.std.specs.Prelude.{slice_get, remove, filter, not, nat_eq, is_some, ◌&&◌}
use Rattle.std.specs.List.{list_any}
use Rattle.std.proofs.lemmas.Bool.{or_from}
use Rattle.rp_base.specs.declared.action.Action.{Action}
use Rattle.rp_base.specs.declared.placed.PlacedVote.{PlacedVote}
use Rattle.rp_base.specs.declared.proposal.Phase.TheVariants.{Offering}
use Rattle.rp_base.specs.PlacedVotes.{placed_at}
use Rattle.rp_base.specs.Promises.{Promise}
use Rattle.rp_base.specs.Ranges.{Range, is_covered}
use Rattle.rp_base.specs.Proposals.{Proposal, without_proposal, range_proposal, once_promised, takes_range_promise, with_promise, after_promise, is_promised, takes_promise}
use Rattle.rp_proposer.specs.Proposing.{is_own, is_equal_item, is_own_elsewhere, once_noted}
use Rattle.rp_proposer.specs.Room.{has_own, own_count, own_actions_of}

-- with one before the others, its own action counts as well
pub own_more : (p : Proposal) (rest : List Proposal) → own_actions_of (p ∷ rest) ≡ own_count p + own_actions_of rest
own_more p rest = elim (has_own p) as (λ t. length (cond t (p ∷ filter has_own rest) (filter has_own rest)) ≡ cond t 1 0 + length (filter has_own rest)) [ true ↦ omega arith | false ↦ omega arith ]

pub own_one : (p : Proposal) → own_count p ≤ 1
own_one p = elim (has_own p) as (λ t. cond t 1 0 ≤ 1) [ true ↦ omega arith | false ↦ omega arith ]

-- with another in its place
pub own_set : (proposals : List Proposal) (n : ℕ) (p q : Proposal) → slice_get proposals n ≡ Some p → own_actions_of (set proposals n q) + own_count p ≡ own_actions_of proposals + own_count q
own_set [] n p q at = absurd (cc)
own_set (r ∷ rest) zero p q at =
    let same : r ≡ p = cc in
    omega (arith, own_more r rest, own_more q rest, ap own_count same)
own_set (r ∷ rest) (suc n) p q at = omega (arith, own_more r rest, own_more r (set rest n q), own_set rest n p q at)

-- with it taken out
pub own_removed : (proposals : List Proposal) (n : ℕ) (p : Proposal) → slice_get proposals n ≡ Some p → own_actions_of (remove proposals n) + own_count p ≡ own_actions_of proposals
own_removed [] n p at = absurd (cc)
own_removed (r ∷ rest) zero p at =
    let same : r ≡ p = cc in
    omega (arith, own_more r rest, ap own_count same)
own_removed (r ∷ rest) (suc n) p at = omega (arith, own_more r rest, own_more r (remove rest n), own_removed rest n p at)

-- with others after them
pub own_append : (proposals more : List Proposal) → own_actions_of (proposals ++ more) ≡ own_actions_of proposals + own_actions_of more
own_append [] more = omega arith
own_append (p ∷ rest) more = omega (arith, own_more p rest, own_more p (rest ++ more), own_append rest more)

-- those that begin with a range have none
pub own_range : (b : ℕ) (positions : List ℕ) → own_actions_of (map (range_proposal b) positions) ≡ 0
own_range b [] = refl
own_range b (i ∷ rest) = own_range b rest

-- what changes no own action changes no count
pub own_kept : (change : Proposal → Proposal) → ((p : Proposal) → (change p).own ≡ p.own) → (proposals : List Proposal) → own_actions_of (map change proposals) ≡ own_actions_of proposals
own_kept change keeps [] = refl
own_kept change keeps (p ∷ rest) =
    let same : own_count (change p) ≡ own_count p = ap (λ (own : Option Action). cond (is_some own) 1 0) (keeps p) in
    omega (arith, own_more p rest, own_more (change p) (map change rest), same, own_kept change keeps rest)

-- no more than there are
pub own_few : (proposals : List Proposal) → own_actions_of proposals ≤ length proposals
own_few [] = omega arith
own_few (p ∷ rest) =
    let rest_few = own_few rest in
    elim (has_own p) as (λ t. length (cond t (p ∷ filter has_own rest) (filter has_own rest)) ≤ suc (length rest)) [ true ↦ omega (arith, rest_few) | false ↦ omega (arith, rest_few) ]

not_equal : (item : Action) (own : Option Action) → ◌≡◌ {A = ℕ} (cond (is_some own) 1 0) 0 → is_equal_item item own ≡ false
not_equal item None h = refl
not_equal item (Some own) h = absurd (omega (arith, h))

-- where none has an own action, no item is one
pub none_own : (proposals : List Proposal) (i : ℕ) (item : Action) → own_actions_of proposals ≡ 0 → is_own_elsewhere proposals i item ≡ false
none_own [] i item none = refl
none_own (p ∷ rest) i item none =
    let others = without_proposal rest i in
    let mine : is_own item p ≡ false = not_equal item p.own (omega (arith, own_more p rest, none)) in
    let later = none_own rest i item (omega (arith, own_more p rest, none)) in
    elim (not (nat_eq p.position i)) as (λ t. list_any (is_own item) (cond t (p ∷ others) others) ≡ false) [ true ↦ or_from _ _ mine later | false ↦ later ]

pub own_promised : (nodes from : ℕ) (range : Range) (b : ℕ) (votes : List PlacedVote) (p : Proposal) → (once_promised nodes from range b votes p).own ≡ p.own
own_promised nodes from range b votes p =
    elim (is_covered range p.position && takes_range_promise nodes b p) as (λ t. (cond t (with_promise p (from, placed_at votes p.position)) p).own ≡ p.own) [ true ↦ refl | false ↦ refl ]

after_own : (nodes : ℕ) (p : Proposal) (promise : Promise) → (after_promise nodes p promise).own ≡ p.own
after_own nodes p promise = elim (is_promised nodes (with_promise p promise)) as (λ t. (cond t (record (with_promise p promise) { phase = Offering }) (with_promise p promise)).own ≡ p.own) [ true ↦ refl | false ↦ refl ]

pub own_noted : (nodes b : ℕ) (p : Proposal) (promise : Promise) → (once_noted nodes b p promise).own ≡ p.own
own_noted nodes b p promise = elim (takes_promise b p) as (λ t. (cond t (after_promise nodes p promise) p).own ≡ p.own) [ true ↦ after_own nodes p promise | false ↦ refl ]
