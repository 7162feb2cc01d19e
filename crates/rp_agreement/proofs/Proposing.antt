-- The proposals that run at a node: one for each position, with one put in place or taken out.
use Rattle.std.proofs.Common.{◌≡◌, ◌≢◌, ℕ, Bool, List, [], ◌∷◌, ◌++◌, ◌⊎◌, inl, inr, sym, ap, subst, ◌∙◌}
use Rattle.std.specs.Prelude.{nat_eq, not}
use Rattle.std.specs.List.{list_any}
use Rattle.std.proofs.lemmas.Bool.{cases_Bool, cond-true, cond-false, eqb-true, eqb-false}
use Rattle.rp_base.specs.Sets.{Has, IsSet, with_member}
use Rattle.rp_base.specs.Proposals.{Proposal, with_proposal, without_proposal}
use Rattle.rp_base.proofs.Apart.{positions_of}
use Rattle.rp_base.proofs.Members.{has_split, has_passing, has_mapped}

-- a member of a list with one more is an old one or that one
pub member_or_new : {A : Type 0} (same : A → A → Bool) (x y : A) (xs : List A) → Has x (with_member same xs y) → Has x xs ⊎ (x ≡ y)
member_or_new {A} same x y xs h =
    elim (cases_Bool (list_any (same y) xs)) [
      | inl hit ↦ inl (subst (λ (list : List A). Has x list) (cond-true (list_any (same y) xs) xs (xs ++ y ∷ []) hit) h)
      | inr miss ↦ elim (has_split x xs (y ∷ []) (subst (λ (list : List A). Has x list) (cond-false (list_any (same y) xs) xs (xs ++ y ∷ []) miss) h)) [
        | inl before ↦ inl before
        | inr last ↦ elim last [ inl e ↦ inr e | inr none ↦ absurd none ]
      ]
    ]

has_position : (p : Proposal) (proposals : List Proposal) → Has p proposals → Has p.position (positions_of proposals)
has_position p proposals h = has_mapped (λ q. q.position) p proposals h

-- where one was put in its place, each is that one or an old one at another position
pub proposal_or_new : (q p : Proposal) (proposals : List Proposal) → IsSet (positions_of proposals) → Has q (with_proposal proposals p)
    → (q ≡ p) ⊎ (Has q proposals × (q.position ≢ p.position))
proposal_or_new q p [] apart h = elim h [ inl e ↦ inl e | inr none ↦ absurd none ]
proposal_or_new q p (r ∷ rest) apart h =
    elim (cases_Bool (nat_eq r.position p.position)) [
      | inl here ↦ elim (subst (Has q) (cond-true (nat_eq r.position p.position) (p ∷ rest) (r ∷ with_proposal rest p) here) h) [
        | inl e ↦ inl e
        | inr later ↦ inr (inr later, λ e. apart.0 (subst (λ (i : ℕ). Has i (positions_of rest)) (e ∙ sym (eqb-true r.position p.position here)) (has_position q rest later)))
      ]
      | inr elsewhere ↦ elim (subst (Has q) (cond-false (nat_eq r.position p.position) (p ∷ rest) (r ∷ with_proposal rest p) elsewhere) h) [
        | inl e ↦ inr (inl e, λ same. eqb-false r.position p.position elsewhere (ap (λ (u : Proposal). u.position) (sym e) ∙ same))
        | inr later ↦ elim (proposal_or_new q p rest apart.1 later) [
          | inl e ↦ inl e
          | inr old ↦ inr (inr old.0, old.1)
        ]
      ]
    ]

-- one that stays was there
pub stays_there : (q : Proposal) (i : ℕ) (proposals : List Proposal) → Has q (without_proposal proposals i) → Has q proposals
stays_there q i proposals h = (has_passing (λ p. not (nat_eq p.position i)) q proposals h).0
