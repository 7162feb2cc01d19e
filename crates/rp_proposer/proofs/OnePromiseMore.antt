-- One promise more: who sent the promises, and the highest vote that they report.
use Rattle.std.proofs.Common.{◌≡◌, ℕ, ◌≤◌, ◌<◌, Bool, true, false, cond, Option, Some, None, List, [], ◌∷◌, ◌++◌, map, nat_eq, nat_lt, refl, sym, ap, subst, ◌∙◌, ◌⊎◌, inl, inr, arith}
use Rattle.std.specs.Prelude.{option_to_list, filter_map, IsSomeAnd, ◌&&◌, ◌||◌}
use Rattle.std.specs.List.{list_any}
use Rattle.std.proofs.lemmas.Bool.{cases_lt, lt-ltb, le-ltb}
use Rattle.std.proofs.lemmas.Bool.Decides.{Decides-eqb, eqb_tells}
use Rattle.std.proofs.lemmas.List.{map-append}
use Rattle.std.proofs.lemmas.List.Elements.{filter_map-append}
use Rattle.rp_base.specs.declared.record.Vote.{Vote}
use Rattle.rp_base.specs.Sets.{with_member, with_members}
use Rattle.rp_base.specs.Records.{higher_vote, highest}
use Rattle.rp_base.specs.Promises.{Promise, same_promise, promisers_of, highest_vote}
use Rattle.rp_base.proofs.MoreRecords.{highest-append}
use Rattle.rp_base.proofs.Members.{found, finds, member_stays, with_members-append}

and_false : (b : Bool) → (b && false) ≡ false
and_false true = refl
and_false false = refl

-- the test with what it decides
ltb_decides : (a b : ℕ) → ((nat_lt a b ≡ true) × (a < b)) ⊎ ((nat_lt a b ≡ false) × (b ≤ a))
ltb_decides a b = elim (cases_lt a b) [ inl lt ↦ inl (lt-ltb a b lt, lt) | inr ge ↦ inr (le-ltb a b ge, ge) ]

-- ---- who sent them

-- what comes is there
all_come : (k : ℕ) (seen ys : List ℕ) → list_any (nat_eq k) ys ≡ true → list_any (nat_eq k) (with_members nat_eq seen ys) ≡ true
all_come k seen ys h = finds nat_eq Decides-eqb k (with_members nat_eq seen ys) (member_stays nat_eq Decides-eqb k seen ys (found nat_eq Decides-eqb k ys h))

-- a promise that is there has its sender there
sender_there : (p : Promise) (ps : List Promise) → list_any (same_promise p) ps ≡ true → list_any (nat_eq p.0) (map (λ q. q.0) ps) ≡ true
sender_there p [] h = h
sender_there p (q ∷ ps) h =
    elim (eqb_tells p.0 q.0) [
      | inl same ↦ ap (λ (t : Bool). t || list_any (nat_eq p.0) (map (λ q. q.0) ps)) same.0
      | inr other ↦
          ap (λ (t : Bool). t || list_any (nat_eq p.0) (map (λ q. q.0) ps)) other.0
          ∙ sender_there p ps (rw other.0 at h)
    ]

senders_by : (t : Bool) (ps : List Promise) (p : Promise) → list_any (same_promise p) ps ≡ t → promisers_of (cond t ps (ps ++ p ∷ [])) ≡ with_member nat_eq (promisers_of ps) p.0
senders_by true ps p there =
    sym (ap (λ (t : Bool). cond t (promisers_of ps) (promisers_of ps ++ p.0 ∷ [])) (all_come p.0 [] (map (λ q. q.0) ps) (sender_there p ps there)))
senders_by false ps p absent =
    ap (λ (senders : List ℕ). with_members nat_eq [] senders) (map-append (λ (q : Promise). q.0) ps (p ∷ []))
    ∙ with_members-append nat_eq p.0 [] (map (λ q. q.0) ps)

-- with one promise more, who sent them are those before and its sender
pub senders_after : (ps : List Promise) (p : Promise) → promisers_of (with_member same_promise ps p) ≡ with_member nat_eq (promisers_of ps) p.0
senders_after ps p = senders_by (list_any (same_promise p) ps) ps p refl

-- ---- the highest vote

above_first : (w : Vote) (o : Option Vote) → w.ballot ≤ (higher_vote w o).ballot
above_first w None = omega arith
above_first w (Some o) = elim (ltb_decides w.ballot o.ballot) [ inl lt ↦ rw lt.0 (omega arith) | inr ge ↦ rw ge.0 (omega arith) ]

above_rest : (w : Vote) (o : Option Vote) (n : ℕ) → IsSomeAnd o (λ c. n ≤ c.ballot) → n ≤ (higher_vote w o).ballot
above_rest w None n h = absurd h
above_rest w (Some o) n h = elim (ltb_decides w.ballot o.ballot) [ inl lt ↦ rw lt.0 h | inr ge ↦ rw ge.0 (omega (arith, h)) ]

-- the highest is not below any
highest_above : (vs : List Vote) (n : ℕ) → list_any (λ w. nat_eq n w.ballot) vs ≡ true → IsSomeAnd (highest vs) (λ c. n ≤ c.ballot)
highest_above [] n h = absurd (cc)
highest_above (w ∷ vs) n h =
    elim (eqb_tells n w.ballot) [
      | inl same ↦ subst (λ (m : ℕ). m ≤ (higher_vote w (highest vs)).ballot) (sym same.1) (above_first w (highest vs))
      | inr other ↦ above_rest w (highest vs) n (highest_above vs n (ap (λ (t : Bool). t || list_any (λ w. nat_eq n w.ballot) vs) (sym other.0) ∙ h))
    ]

-- a promise that is there has its vote there
vote_there : (from : ℕ) (v : Vote) (ps : List Promise) → list_any (same_promise (from, Some v)) ps ≡ true → list_any (λ w. nat_eq v.ballot w.ballot) (filter_map (λ q. q.1) ps) ≡ true
vote_there from v [] h = h
vote_there from v ((other, None) ∷ ps) h = vote_there from v ps (rw (and_false (nat_eq from other)) at h)
vote_there from v ((other, Some w) ∷ ps) h =
    elim (eqb_tells v.ballot w.ballot) [
      | inl same ↦ ap (λ (t : Bool). t || list_any (λ w. nat_eq v.ballot w.ballot) (filter_map (λ q. q.1) ps)) same.0
      | inr differs ↦
          ap (λ (t : Bool). t || list_any (λ w. nat_eq v.ballot w.ballot) (filter_map (λ q. q.1) ps)) differs.0
          ∙ vote_there from v ps (rw (differs.0, and_false (nat_eq from other)) at h)
    ]

alone : (o : Option Vote) → o ≡ highest (option_to_list o ++ [])
alone None = refl
alone (Some v) = refl

not_above : (o : Option Vote) (v : Vote) → IsSomeAnd o (λ c. v.ballot ≤ c.ballot) → o ≡ highest (option_to_list o ++ v ∷ [])
not_above None v h = absurd h
not_above (Some c) v h = elim (ltb_decides c.ballot v.ballot) [ inl lt ↦ absurd (omega (arith, h)) | inr ge ↦ rw ge.0 ]

vote_by : (t : Bool) (ps : List Promise) (from : ℕ) (last : Option Vote) → list_any (same_promise (from, last)) ps ≡ t
    → highest_vote (cond t ps (ps ++ (from, last) ∷ [])) ≡ highest (option_to_list (highest_vote ps) ++ option_to_list last)
vote_by true ps from None there = alone (highest_vote ps)
vote_by true ps from (Some v) there = not_above (highest_vote ps) v (highest_above (filter_map (λ q. q.1) ps) v.ballot (vote_there from v ps there))
vote_by false ps from None absent =
    ap highest (filter_map-append (λ (q : Promise). q.1) ps ((from, None) ∷ [])) ∙ highest-append (filter_map (λ q. q.1) ps) []
vote_by false ps from (Some v) absent =
    ap highest (filter_map-append (λ (q : Promise). q.1) ps ((from, Some v) ∷ [])) ∙ highest-append (filter_map (λ q. q.1) ps) (v ∷ [])

-- with one promise more, the highest vote is the higher of the one before and of the one that it reports
pub vote_after : (ps : List Promise) (p : Promise) → highest_vote (with_member same_promise ps p) ≡ highest (option_to_list (highest_vote ps) ++ option_to_list p.1)
vote_after ps p = vote_by (list_any (same_promise p) ps) ps p.0 p.1 refl
