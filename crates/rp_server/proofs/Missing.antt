-- The first unlearned position, where a learned one lies above it.
use Rattle.std.proofs.Common.{◌≡◌, ℕ, ◌<◌, Bool, true, false, cond, nat_eq, nat_lt, Option, Some, None, List, [], ◌∷◌, ◌↔◌, inl, inr, refl, sym, ap, subst, ◌∙◌, lt-ltb, ltb-true, eq-eqb}
use Rattle.std.specs.Prelude.{IsSome, IfSome}
use Rattle.std.specs.List.{list_any}
use Rattle.std.proofs.lemmas.Bool.{or_cases, or_left, or_right}
use Rattle.std.proofs.lemmas.Bool.Decides.{eqb_tells}
use Rattle.rp_base.specs.declared.action.Action.{Action}
use Rattle.rp_base.specs.declared.record.Rec.{Rec}
use Rattle.rp_base.specs.declared.record.Rec.TheVariants.{Started, Promised, Voted, Learned, PromisedRange}
use Rattle.rp_base.specs.Number.{IsPosition}
use Rattle.rp_base.specs.Records.{or_else, learned_at, first_unlearned}
use Rattle.rp_log.specs.Contents.{Contents, IsLearned}
use Rattle.rp_log.specs.Recorded.{LearnedAlike}
use Rattle.rp_model.specs.Learner.{learns_above, missing_position}

no_other : (o : Option Action) (here : Bool) (v : Action) → here ≡ false → IsSome (or_else (cond here (Some v) None) o) → IsSome o
no_other o true v e found = absurd (cc)
no_other o false v e found = found

above_is : (n : ℕ) (records : List Rec) (i : ℕ) → n < i → IsSome (learned_at records i) → list_any (learns_above n) records ≡ true
above_is n [] i above found = absurd (cc)
above_is n (Started ballot ∷ rest) i above found = above_is n rest i above found
above_is n (Promised position ballot ∷ rest) i above found = above_is n rest i above found
above_is n (Voted position ballot action ∷ rest) i above found = above_is n rest i above found
above_is n (Learned position action ∷ rest) i above found =
    elim (eqb_tells position i) [
      | inl same ↦ or_left (nat_lt n position) (list_any (learns_above n) rest) (lt-ltb n position (subst (λ (j : ℕ). n < j) (sym same.1) above))
      | inr other ↦ or_right (nat_lt n position) (list_any (learns_above n) rest) (above_is n rest i above (no_other (learned_at rest i) (nat_eq position i) action other.0 found))
    ]
above_is n (PromisedRange range ballot ∷ rest) i above found = above_is n rest i above found

some_first : (o : Option Action) (here : Bool) (v : Action) → here ≡ true → IsSome (or_else (cond here (Some v) None) o)
some_first o true v e = refl
some_first o false v e = absurd (cc)

some_later : (o : Option Action) (here : Bool) (v : Action) → IsSome o → IsSome (or_else (cond here (Some v) None) o)
some_later o true v found = refl
some_later o false v found = found

is_above : (n : ℕ) (records : List Rec) → list_any (learns_above n) records ≡ true → (i : ℕ) × (n < i) × IsSome (learned_at records i)
is_above n [] e = absurd (cc)
is_above n (Started ballot ∷ rest) e = is_above n rest e
is_above n (Promised position ballot ∷ rest) e = is_above n rest e
is_above n (Voted position ballot action ∷ rest) e = is_above n rest e
is_above n (Learned position action ∷ rest) e =
    elim (or_cases (nat_lt n position) (list_any (learns_above n) rest) e) [
      | inl here ↦ (position, ltb-true n position here, some_first (learned_at rest position) (nat_eq position position) action (eq-eqb position position refl))
      | inr later ↦ let more = is_above n rest later in (more.0, more.1, some_later (learned_at rest more.0) (nat_eq position more.0) action more.2)
    ]
is_above n (PromisedRange range ballot ∷ rest) e = is_above n rest e

-- a learned position lies above
pub missing_below : (records : List Rec) (log : Contents) (n top : ℕ) (o : Option ℕ) → LearnedAlike records log → n ≡ first_unlearned records → n < top → IsLearned log top
    → IsSome o ↔ IsPosition n → IfSome o (λ p. p ≡ n) → IsPosition n → o ≡ missing_position records
missing_below records log n top o alike next above learned valid value position =
    let found : IsSome (learned_at records top) = subst (λ (p : Option Action). IsSome p) (alike top) learned in
    let any : list_any (learns_above (first_unlearned records)) records ≡ true = above_is (first_unlearned records) records top (subst (λ (k : ℕ). k < top) next above) found in
    is_it o (valid.1 position) value ∙ ap (λ (k : ℕ). Some k) next ∙ sym (ap (λ (b : Bool). cond b (Some (first_unlearned records)) None) any)
  where
    is_it : (p : Option ℕ) → IsSome p → IfSome p (λ k. k ≡ n) → p ≡ Some n
    is_it None some is = absurd (cc)
    is_it (Some k) some is = ap (λ (j : ℕ). Some j) is

-- none does
pub none_missing : (records : List Rec) (log : Contents) → LearnedAlike records log → ((i : ℕ) → first_unlearned records < i → ¬ IsLearned log i) → None ≡ missing_position records
none_missing records log alike none = by (list_any (learns_above (first_unlearned records)) records) refl
  where
    by : (b : Bool) → list_any (learns_above (first_unlearned records)) records ≡ b → None ≡ cond b (Some (first_unlearned records)) None
    by true e =
        let some = is_above (first_unlearned records) records e in
        absurd (none some.0 some.1 (subst (λ (p : Option Action). IsSome p) (sym (alike some.0)) some.2))
    by false e = refl
