-- What a leader counts: who promised and who voted, each once.
use Rattle.std.proofs.Common.{◌≡◌, ℕ, Bool, true, false, Option, None, List, [], ◌∷◌, ◌++◌, length, map, inl, inr, refl, sym, ap, subst, ◌∙◌, append-nil, append_assoc}
use Rattle.std.proofs.lemmas.List.{map-append}
use Rattle.std.specs.Prelude.{nat_eq, nat_le, not, ◌&&◌, filter, filter_map}
use Rattle.std.specs.List.{list_any, cons_option}
use Rattle.std.proofs.lemmas.Bool.{cond-true, cond-false, eq-eqb, ne_eqb, and_from, and_left, or_from, le-leb, false_from_ne_true, not_from_true}
use Rattle.std.proofs.lemmas.Bool.Decides.{Decides-eqb}
use Rattle.rp_base.specs.Majority.{majority_of, AreNodes, is_majority}
use Rattle.rp_base.specs.Number.{in_range}
use Rattle.rp_base.specs.Promises.{Promise, HeardVote, same_promise, same_heard, same_last, same_vote, promisers_of, highest_vote, voters_of, makes_majority, heard_elsewhere}
use Rattle.rp_base.specs.Records.{highest}
use Rattle.rp_base.specs.Sets.{Has, IsSet, with_member, with_members}
use Rattle.rp_base.specs.declared.record.Vote.{Vote}
use Rattle.rp_base.proofs.Members.{found, has_right}
use Rattle.rp_base.proofs.Sameness.{vote_same}

-- ---- lists

-- the first of some that come after others is none of these
pub apart : {A : Type 0} (x : A) (xs ys : List A) → IsSet (xs ++ x ∷ ys) → ¬ Has x xs
apart x [] ys set h = h
apart x (z ∷ xs) ys set h =
    elim h [
      | inl same ↦ set.0 (has_right z xs (x ∷ ys) (inl (sym same)))
      | inr later ↦ apart x xs ys set.1 later
    ]

none_of : {A B : Type 0} (test : B → Bool) (f : A → B) (xs : List A) → ((x : A) → Has x xs → test (f x) ≡ false) → list_any test (map f xs) ≡ false
none_of test f [] each = refl
none_of test f (x ∷ xs) each = or_from (test (f x)) (list_any test (map f xs)) (each x (inl refl)) (none_of test f xs (λ y h. each y (inr h)))

all_pass : {A B : Type 0} (test : B → Bool) (f : A → B) (xs : List A) → ((x : A) → Has x xs → test (f x) ≡ true) → filter test (map f xs) ≡ map f xs
all_pass test f [] each = refl
all_pass {A} {B} test f (x ∷ xs) each =
    cond-true (test (f x)) (f x ∷ filter test (map f xs)) (filter test (map f xs)) (each x (inl refl))
    ∙ ap (λ (rest : List B). f x ∷ rest) (all_pass test f xs (λ y h. each y (inr h)))

none_pass : {A B : Type 0} (test : B → Bool) (f : A → B) (xs : List A) → ((x : A) → Has x xs → test (f x) ≡ false) → filter test (map f xs) ≡ []
none_pass test f [] each = refl
none_pass test f (x ∷ xs) each =
    cond-false (test (f x)) (f x ∷ filter test (map f xs)) (filter test (map f xs)) (each x (inl refl))
    ∙ none_pass test f xs (λ y h. each y (inr h))

all_stay : (test : ℕ → Bool) (xs : List ℕ) → ((x : ℕ) → Has x xs → test x ≡ true) → filter test xs ≡ xs
all_stay test [] each = refl
all_stay test (x ∷ xs) each =
    cond-true (test x) (x ∷ filter test xs) (filter test xs) (each x (inl refl))
    ∙ ap (λ (rest : List ℕ). x ∷ rest) (all_stay test xs (λ y h. each y (inr h)))

mapped_back : {B : Type 0} (f : ℕ → B) (g : B → ℕ) (xs : List ℕ) → ((x : ℕ) → g (f x) ≡ x) → map g (map f xs) ≡ xs
mapped_back f g [] back = refl
mapped_back f g (x ∷ xs) back =
    ap (λ (y : ℕ). y ∷ map g (map f xs)) (back x) ∙ ap (λ (rest : List ℕ). x ∷ rest) (mapped_back f g xs back)

-- each member of a set counts once
with_all : (seen xs : List ℕ) → IsSet (seen ++ xs) → with_members nat_eq seen xs ≡ seen ++ xs
with_all seen [] set = sym (append-nil seen)
with_all seen (x ∷ xs) set =
    let new : list_any (nat_eq x) seen ≡ false = false_from_ne_true (list_any (nat_eq x) seen) (λ hit. apart x seen xs set (found nat_eq Decides-eqb x seen hit)) in
    let joined : (seen ++ x ∷ []) ++ xs ≡ seen ++ x ∷ xs = append_assoc seen (x ∷ []) xs in
    ap (λ (l : List ℕ). with_members nat_eq l xs) (cond-false (list_any (nat_eq x) seen) seen (seen ++ x ∷ []) new)
    ∙ with_all (seen ++ x ∷ []) xs (subst (λ (l : List ℕ). IsSet l) (sym joined) set)
    ∙ joined

majority_is : (n : ℕ) (xs : List ℕ) → AreNodes n xs → is_majority n xs ≡ nat_le (majority_of n) (length xs)
majority_is n xs are =
    ap (λ (l : List ℕ). nat_le (majority_of n) (length l))
    (all_stay (in_range 1 n) xs (λ x h. and_from (nat_le 1 x) (nat_le x n) (le-leb 1 x (are.members x h).0) (le-leb x n (are.members x h).1)))

-- ---- promises

module _ (last : ℕ → Option Vote) where
  -- the promises of some nodes, each with its last vote
  abbrev pub promises_of : List ℕ → List Promise
  promises_of nodes = map (λ y. let promise : Promise = (y, last y) in promise) nodes

  pub promise_added : (y : ℕ) (done : List ℕ) → ¬ Has y done → with_member same_promise (promises_of done) (y, last y) ≡ promises_of (done ++ y ∷ [])
  promise_added y done new =
      let promise : Promise = (y, last y) in
      let none : list_any (same_promise promise) (promises_of done) ≡ false =
      none_of (same_promise promise) (λ z. let other : Promise = (z, last z) in other) done
      (λ z h. and_left (nat_eq y z) (same_last (last y) (last z)) (ne_eqb y z (λ same. new (subst (λ (k : ℕ). Has k done) (sym same) h)))) in
      cond-false (list_any (same_promise promise) (promises_of done)) (promises_of done) (promises_of done ++ promise ∷ []) none
      ∙ sym (map-append (λ z. let other : Promise = (z, last z) in other) done (y ∷ []))

  pub promisers_are : (done : List ℕ) → IsSet done → promisers_of (promises_of done) ≡ done
  promisers_are done set =
      ap (with_members nat_eq []) (mapped_back (λ z. let other : Promise = (z, last z) in other) (λ p. p.0) done (λ x. refl))
      ∙ with_all [] done set

  pub promised_by : (n : ℕ) (done : List ℕ) → AreNodes n done → is_majority n (promisers_of (promises_of done)) ≡ nat_le (majority_of n) (length done)
  promised_by n done are = ap (is_majority n) (promisers_are done are.distinct) ∙ majority_is n done are

  no_votes : (done : List ℕ) → ((y : ℕ) → Has y done → last y ≡ None) → filter_map (λ (p : Promise). p.1) (promises_of done) ≡ []
  no_votes [] none = refl
  no_votes (y ∷ done) none =
      ap (λ (o : Option Vote). cons_option o (filter_map (λ (p : Promise). p.1) (promises_of done))) (none y (inl refl))
      ∙ no_votes done (λ z h. none z (inr h))

  pub none_highest : (done : List ℕ) → ((y : ℕ) → Has y done → last y ≡ None) → highest_vote (promises_of done) ≡ None
  none_highest done none = ap highest (no_votes done none)

-- ---- votes

module _ (i : ℕ) (vote : Vote) where
  -- the votes of some nodes, all the same one
  abbrev pub votes_of : List ℕ → List HeardVote
  votes_of nodes = map (λ y. let heard : HeardVote = (y, i, vote) in heard) nodes

  pub vote_added : (y : ℕ) (done : List ℕ) → ¬ Has y done → with_member same_heard (votes_of done) (y, i, vote) ≡ votes_of (done ++ y ∷ [])
  vote_added y done new =
      let heard : HeardVote = (y, i, vote) in
      let none : list_any (same_heard heard) (votes_of done) ≡ false =
      none_of (same_heard heard) (λ z. let other : HeardVote = (z, i, vote) in other) done
      (λ z h. and_left (nat_eq y z && nat_eq i i) (same_vote vote vote) (and_left (nat_eq y z) (nat_eq i i) (ne_eqb y z (λ same. new (subst (λ (k : ℕ). Has k done) (sym same) h))))) in
      cond-false (list_any (same_heard heard) (votes_of done)) (votes_of done) (votes_of done ++ heard ∷ []) none
      ∙ sym (map-append (λ z. let other : HeardVote = (z, i, vote) in other) done (y ∷ []))

  voters_are : (done : List ℕ) → IsSet done → voters_of i vote (votes_of done) ≡ done
  voters_are done set =
      let all : filter (λ h. nat_eq h.1 i && same_vote h.2 vote) (votes_of done) ≡ votes_of done =
      all_pass (λ h. nat_eq h.1 i && same_vote h.2 vote) (λ z. let other : HeardVote = (z, i, vote) in other) done
      (λ z h. and_from (nat_eq i i) (same_vote vote vote) (eq-eqb i i refl) (vote_same vote)) in
      ap (λ (l : List HeardVote). with_members nat_eq [] (map (λ h. h.0) l)) all
      ∙ ap (with_members nat_eq []) (mapped_back (λ z. let other : HeardVote = (z, i, vote) in other) (λ h. h.0) done (λ x. refl))
      ∙ with_all [] done set

  pub voted_by : (n : ℕ) (done : List ℕ) → AreNodes n done → makes_majority n i vote (votes_of done) ≡ nat_le (majority_of n) (length done)
  voted_by n done are = ap (is_majority n) (voters_are done are.distinct) ∙ majority_is n done are

  pub none_elsewhere : (done : List ℕ) → heard_elsewhere (votes_of done) i ≡ []
  none_elsewhere done =
      none_pass (λ h. not (nat_eq h.1 i)) (λ z. let other : HeardVote = (z, i, vote) in other) done (λ z h. not_from_true (nat_eq i i) (eq-eqb i i refl))
