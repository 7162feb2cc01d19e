-- Two lists, place by place.
use Rattle.std.proofs.Common.{◌≡◌, ℕ, suc, ◌<◌, List, [], ◌∷◌, ◌++◌, length, slice_index_or, refl, sym, ◌∙◌, subst, arith, ap, append_assoc, append-nil}
use Rattle.std.specs.List.{AllZip}

-- an element is at this place, and it fits the other
pub record FitsAt {A B : Type 0} (R : A → B → Type 0) (xs : List A) (i : ℕ) (y : B) : Type 0 where
  pub item : A
  pub is : item ≡ slice_index_or xs i item
  pub fits : R item y

pub zipped : {A B : Type 0} (R : A → B → Type 0) (xs : List A) (ys : List B) → length ys ≡ length xs
    → ((i : ℕ) (d : B) → i < length xs → FitsAt R xs i (slice_index_or ys i d)) → AllZip R xs ys
zipped R [] [] same each = tt
zipped R [] (y ∷ ys) same each = absurd (omega (arith, same))
zipped R (x ∷ xs) [] same each = absurd (omega (arith, same))
zipped R (x ∷ xs) (y ∷ ys) same each =
    let first = each 0 y (omega arith) in (
      subst (λ z. R z y) first.is first.fits,
      zipped R xs ys (omega (arith, same)) (λ i d below. let at = each (suc i) d (omega (arith, below)) in record { item = at.item; is = at.is; fits = at.fits }),
    )

pub one_more : {A B : Type 0} (R : A → B → Type 0) (xs : List A) (ys : List B) (x : A) (y : B) → AllZip R xs ys → R x y → AllZip R (xs ++ x ∷ []) (ys ++ y ∷ [])
one_more R [] [] x y each fits = (fits, tt)
one_more R [] (b ∷ ys) x y each fits = absurd each
one_more R (a ∷ xs) [] x y each fits = absurd each
one_more R (a ∷ xs) (b ∷ ys) x y each fits = (each.0, one_more R xs ys x y each.1 fits)

pub none_left : {A : Type 0} (xs : List A) (len : ℕ) → len ≡ length xs → len ≡ 0 → xs ≡ []
none_left [] len long none = refl
none_left (x ∷ xs) len long none = absurd (omega (arith, long, none))

-- The elements so far fit the others, and these are left.
pub record AreZippedSoFar {A B : Type 0} (R : A → B → Type 0) (all rest : List A) (ys : List B) : Type 0 where
  pub seen : List A
  pub whole : all ≡ seen ++ rest
  pub each : AllZip R seen ys

module _ {A B : Type 0} {R : A → B → Type 0} {all : List A} where
  pub none_zipped : {rest : List A} {ys : List B} → rest ≡ all → ys ≡ [] → AreZippedSoFar R all rest ys
  none_zipped same none = record { seen = []; whole = sym same; each = subst (AllZip R []) (sym none) tt }

  pub one_more_zipped : {rest rest' : List A} {ys ys' : List B} {x : A} {y : B} → AreZippedSoFar R all rest ys → rest ≡ x ∷ rest' → ys' ≡ ys ++ y ∷ [] → R x y → AreZippedSoFar R all rest' ys'
  one_more_zipped {rest' = rest'} {ys = ys} {x = x} {y = y} so_far steps grown fits = record {
    seen = so_far.seen ++ x ∷ [];
    whole = so_far.whole ∙ subst (λ r. so_far.seen ++ r ≡ (so_far.seen ++ x ∷ []) ++ rest') (sym steps) (sym (append_assoc so_far.seen (x ∷ []) rest'));
    each = subst (AllZip R (so_far.seen ++ x ∷ [])) (sym grown) (one_more R so_far.seen ys x y so_far.each fits);
  }

  pub all_zipped : {rest : List A} {ys : List B} → AreZippedSoFar R all rest ys → rest ≡ [] → AllZip R all ys
  all_zipped {ys = ys} so_far none =
      subst (λ l. AllZip R l ys) (sym (so_far.whole ∙ ap (λ r. so_far.seen ++ r) none ∙ append-nil so_far.seen)) so_far.each

-- of three lists, what fits at each place of the first and the second, and of the second and the third
pub zip_on : {A B C : Type 0} (R : A → B → Type 0) (S : B → C → Type 0) (T : A → C → Type 0) → ((x : A) (y : B) (z : C) → R x y → S y z → T x z)
    → (xs : List A) (ys : List B) (zs : List C) → AllZip R xs ys → AllZip S ys zs → AllZip T xs zs
zip_on R S T both [] [] [] r s = tt
zip_on R S T both [] [] (z ∷ zs) r s = absurd s
zip_on R S T both [] (y ∷ ys) zs r s = absurd r
zip_on R S T both (x ∷ xs) [] zs r s = absurd r
zip_on R S T both (x ∷ xs) (y ∷ ys) [] r s = absurd s
zip_on R S T both (x ∷ xs) (y ∷ ys) (z ∷ zs) r s = (both x y z r.0 s.0, zip_on R S T both xs ys zs r.1 s.1)

-- what each handle guarantees of the start at its place, for these numbers of nodes and of turns
module _ {S H E : Type 0} (start_of : H → S) (nodes_of turns_of : H → ℕ) (Ends : S → ℕ → ℕ → E → Type 0) where
  abbrev pub Guarantees : ℕ → ℕ → S → H → Type 0
  Guarantees nodes turns start handle = (start_of handle ≡ start) × (nodes_of handle ≡ nodes) × (turns_of handle ≡ turns)

  kept_by : {nodes count turns : ℕ} → nodes ≡ count → (start : S) (handle : H) (end : E) → Guarantees nodes turns start handle → Ends (start_of handle) (nodes_of handle) (turns_of handle) end → Ends start count turns end
  kept_by {count = count} {turns = turns} counted start handle end owed kept =
      subst (λ (s : S). Ends s count turns end) owed.0
      (subst (λ (n : ℕ). Ends (start_of handle) n turns end) (owed.1 ∙ counted)
      (subst (λ (n : ℕ). Ends (start_of handle) (nodes_of handle) n end) owed.2 kept))

  pub all_kept : {nodes count : ℕ} (turns : ℕ) → nodes ≡ count → (starts : List S) (handles : List H) (ends : List E) → AllZip (Guarantees nodes turns) starts handles
      → AllZip (λ handle end. Ends (start_of handle) (nodes_of handle) (turns_of handle) end) handles ends → AllZip (λ start end. Ends start count turns end) starts ends
  all_kept {nodes = nodes} {count = count} turns counted starts handles ends owed kept =
      zip_on (Guarantees nodes turns) (λ handle end. Ends (start_of handle) (nodes_of handle) (turns_of handle) end) (λ start end. Ends start count turns end) (kept_by counted) starts handles ends owed kept
