-- The own action of a proposal is the first pending item that is free.
use Rattle.std.proofs.Common.{◌≡◌, ◌≢◌, ℕ, Bool, true, false, Option, Some, None, List, [], ◌∷◌, ◌++◌, inl, inr, refl, sym, ap, ◌∙◌}
use Rattle.std.specs.Prelude.{find, nat_eq, not, unwrap_or, ◌&&◌}
use Rattle.std.specs.List.{list_any}
use Rattle.std.proofs.lemmas.Bool.{cases_Bool, cond-true, cond-false, eq-eqb, eqb-true, ltb-true, lt-ltb, and_from, or_left, or_right, or_cases}
use Rattle.rp_base.specs.Action.{equal_items}
use Rattle.rp_base.specs.Proposals.{Proposal, proposal_at, with_proposal, without_proposal}
use Rattle.rp_base.specs.Sets.{Has}
use Rattle.rp_base.proofs.Members.{has_passing, passes}
use Rattle.rp_base.specs.declared.action.Action.{Action}
use Rattle.rp_base.specs.declared.action.Action.TheVariants.{Noop, Call, Interrupt, Tick}
use Rattle.rp_model.specs.rp_machine.specs.Asked.{last_number, last_occurrence}
use Rattle.rp_model.specs.Pending.{is_ahead, is_own, is_free_item, own_action}
use Rattle.rp_possible.specs.Offers.{IsAhead, IsUnoffered, IsFree, IsFirstFree}

-- ---- searches

found_first : (test : Action → Bool) (before : List Action) (item : Action) (after : List Action) → ((x : Action) → Has x before → test x ≡ false) → test item ≡ true
    → find test (before ++ item ∷ after) ≡ Some item
found_first test [] item after passed is = cond-true (test item) (Some item) (find test after) is
found_first test (x ∷ rest) item after passed is =
    cond-false (test x) (Some x) (find test (rest ++ item ∷ after)) (passed x (inl refl))
    ∙ found_first test rest item after (λ y has. passed y (inr has)) is

found_none : (test : Action → Bool) (items : List Action) → ((x : Action) → Has x items → test x ≡ false) → find test items ≡ None
found_none test [] passed = refl
found_none test (x ∷ rest) passed =
    cond-false (test x) (Some x) (find test rest) (passed x (inl refl)) ∙ found_none test rest (λ y has. passed y (inr has))

any_has : {A : Type 0} (test : A → Bool) (x : A) (xs : List A) → Has x xs → test x ≡ true → list_any test xs ≡ true
any_has test x [] has is = absurd has
any_has test x (y ∷ ys) has is =
    elim has [
      | inl same ↦ or_left (test y) (list_any test ys) (ap test (sym same) ∙ is)
      | inr later ↦ or_right (test y) (list_any test ys) (any_has test x ys later is)
    ]

any_found : {A : Type 0} (test : A → Bool) (xs : List A) → list_any test xs ≡ true → (x : A) × Has x xs × (test x ≡ true)
any_found test [] is = absurd (cc)
any_found test (x ∷ xs) is =
    elim (or_cases (test x) (list_any test xs) is) [
      | inl here ↦ (x, inl refl, here)
      | inr later ↦ let found = any_found test xs later in (found.0, inr found.1, found.2)
    ]

both_hold : (x y : Bool) → (x && y) ≡ true → (x ≡ true) × (y ≡ true)
both_hold true y is = (refl, is)
both_hold false y is = (is, absurd (cc))

-- ---- what is free

ahead_test : (kept : List Action) (item : Action) → IsAhead kept item → is_ahead kept item ≡ true
ahead_test kept Noop ahead = absurd ahead
ahead_test kept (Call task number object operation arg) ahead = lt-ltb (last_number task kept) number ahead
ahead_test kept (Interrupt source occurrence) ahead = lt-ltb (last_occurrence source kept) occurrence ahead
ahead_test kept (Tick now) ahead = refl

test_ahead : (kept : List Action) (item : Action) → is_ahead kept item ≡ true → IsAhead kept item
test_ahead kept Noop is = absurd (cc)
test_ahead kept (Call task number object operation arg) is = ltb-true (last_number task kept) number is
test_ahead kept (Interrupt source occurrence) is = ltb-true (last_occurrence source kept) occurrence is
test_ahead kept (Tick now) is = tt

own_is : (item : Action) (o : Option Action) → is_own item o ≡ true → (own : Action) × (o ≡ Some own) × (equal_items item own ≡ true)
own_is item None is = absurd (cc)
own_is item (Some own) is = (own, refl, is)

module _ (kept : List Action) (proposals : List Proposal) (i : ℕ) (item : Action) where
  abbrev others : List Proposal
  others = without_proposal proposals i

  abbrev has_it : Proposal → Bool
  has_it p = is_own item p.own

  unoffered_test : IsUnoffered proposals i item → list_any has_it others ≡ false
  unoffered_test unoffered =
      elim (cases_Bool (list_any has_it others)) [
        | inr clear ↦ clear
        | inl hit ↦
            let found = any_found has_it others hit in
            let p = found.0 in
            let from = has_passing (λ (q : Proposal). not (nat_eq q.position i)) p proposals found.1 in
            let own = own_is item p.own found.2 in
            let apart : p.position ≢ i = λ same. let here : nat_eq p.position i ≡ true = eq-eqb p.position i same in absurd (let wrong : false ≡ true = ap not (sym here) ∙ from.1 in cc) in
            let other : equal_items item own.0 ≡ false = unoffered p own.0 from.0 apart own.1 in
            absurd (cc)
      ]

  test_unoffered : list_any has_it others ≡ false → IsUnoffered proposals i item
  test_unoffered none p own has apart is =
      elim (cases_Bool (equal_items item own)) [
        | inr clear ↦ clear
        | inl hit ↦
            let elsewhere : not (nat_eq p.position i) ≡ true =
            elim (cases_Bool (nat_eq p.position i)) [
              | inl same ↦ absurd (apart (eqb-true p.position i same))
              | inr other ↦ ap not other
            ] in
            let found : list_any has_it others ≡ true =
            any_has has_it p others (passes (λ (q : Proposal). not (nat_eq q.position i)) p proposals has elsewhere) (ap (is_own item) is ∙ hit) in
            absurd (cc)
      ]

  free_test : IsFree kept proposals i item → is_free_item kept others item ≡ true
  free_test free = and_from (not (list_any has_it others)) (is_ahead kept item) (ap not (unoffered_test free.1)) (ahead_test kept item free.0)

  test_free : is_free_item kept others item ≡ true → IsFree kept proposals i item
  test_free is =
      let both = both_hold (not (list_any has_it others)) (is_ahead kept item) is in
      let clear : not (list_any has_it others) ≡ true = both.0 in
      let none : list_any has_it others ≡ false =
      elim (cases_Bool (list_any has_it others)) [ inl hit ↦ absurd (let wrong : false ≡ true = sym (ap not hit) ∙ clear in cc) | inr free ↦ free ] in
      (test_ahead kept item both.1, test_unoffered none)

  not_free : ¬ IsFree kept proposals i item → is_free_item kept others item ≡ false
  not_free none = elim (cases_Bool (is_free_item kept others item)) [ inl hit ↦ absurd (none (test_free hit)) | inr clear ↦ clear ]

-- the own action, by what is free
pub own_is_first : (kept : List Action) (proposals : List Proposal) (i : ℕ) (pending : List Action) (item : Action)
    → IsFirstFree kept proposals i pending item → own_action kept (without_proposal proposals i) pending ≡ item
own_is_first kept proposals i pending item f =
    let test = is_free_item kept (without_proposal proposals i) in
    ap (own_action kept (without_proposal proposals i)) f.place
    ∙ ap (λ (o : Option Action). unwrap_or o Noop)
    (found_first test f.before item f.after (λ other has. not_free kept proposals i other (f.first other has)) (free_test kept proposals i item f.free))

pub own_is_none : (kept : List Action) (proposals : List Proposal) (i : ℕ) (pending : List Action)
    → ((item : Action) → Has item pending → ¬ IsFree kept proposals i item) → own_action kept (without_proposal proposals i) pending ≡ Noop
own_is_none kept proposals i pending none =
    ap (λ (o : Option Action). unwrap_or o Noop)
    (found_none (is_free_item kept (without_proposal proposals i)) pending (λ item has. not_free kept proposals i item (none item has)))

-- ---- the proposal that begins

pub put_at : (proposals : List Proposal) (p : Proposal) → proposal_at (with_proposal proposals p) p.position ≡ Some p
put_at [] p = cond-true (nat_eq p.position p.position) (Some p) None (eq-eqb p.position p.position refl)
put_at (q ∷ rest) p =
    elim (cases_Bool (nat_eq q.position p.position)) [
      | inl here ↦
          ap (λ (ps : List Proposal). proposal_at ps p.position) (cond-true (nat_eq q.position p.position) (p ∷ rest) (q ∷ with_proposal rest p) here)
          ∙ cond-true (nat_eq p.position p.position) (Some p) (proposal_at rest p.position) (eq-eqb p.position p.position refl)
      | inr later ↦
          ap (λ (ps : List Proposal). proposal_at ps p.position) (cond-false (nat_eq q.position p.position) (p ∷ rest) (q ∷ with_proposal rest p) later)
          ∙ cond-false (nat_eq q.position p.position) (Some q) (proposal_at (with_proposal rest p) p.position) later
          ∙ put_at rest p
    ]
