-- A field that is read is the field that was written, and what was written is read again.
use Rattle.std.proofs.Common.{◌≡◌, ℕ, suc, ◌+◌, ◌^◌, ◌<◌, ◌≤◌, inl, inr, rules, true, false, ltb, List, [], ◌∷◌, ◌++◌, length, take, drop, Ok, Err, refl, sym, arith, ℤ, ap, ◌∙◌, append_assoc}
use Rattle.std.specs.Prelude.{FitsSigned}
use Rattle.std.specs.Int.{Width, w16, w32, w64, byte_len, from_be_bytes, to_be_bytes, cast_signed, cast_unsigned}
use Rattle.std.proofs.lemmas.Bool.{cases_lt, ltb-false, le-ltb, leb-true, le-leb, and_parts, and_from, ltb-true, lt-ltb}
use Rattle.std.proofs.lemmas.Bool.Decides.{nat_tests}
use Rattle.std.proofs.lemmas.Int.{to_z-of_z, of_z-to_z, ints}
use Rattle.std.proofs.lemmas.List.{take_at, drop_at, take-append-drop, length-append, length-take, get_or-drop, get_or-take, get_or_past}
use Rattle.std.proofs.lemmas.Nat.{be_bytes_2, be_bytes_4, be_bytes_8, from_be_bytes-to_be_bytes_2, from_be_bytes-to_be_bytes_4, from_be_bytes-to_be_bytes_8}
use Rattle.rp_base.specs.Number.{IsPosition}
use Rattle.rp_base.specs.Ballot.{IsBallot}
use Rattle.rp_base.specs.Action.{IsIndex, IsCount}
use Rattle.rp_base.specs.Ranges.{Range, IsRange}
use Rattle.rp_base.specs.declared.fault.PacketReason.TheVariants.{Short}
use Rattle.rp_codec.specs.Text.{number_text, signed_text, position_text, ballot_text, range_text}
use Rattle.rp_codec.specs.Reading.{ruled, byte_at, number_at, signed_at, is_index, is_positive, is_ballot, index_at, count_at, position_at, ballot_at, lower_ballot_at, higher_ballot_at, is_range, range_at, place_at, range_place_at}
use Rattle.rp_codec.proofs.RuleTests.{is_ballot_decides}
use Rattle.rp_codec.proofs.Steps.{IsBytes, Yields, Took, then, when, keeps, guarded}

IsBytes-drop : (n : ℕ) (bytes : List ℕ) → IsBytes bytes → IsBytes (drop n bytes)
IsBytes-drop n bytes h i = rw get_or-drop (h (n + i))

IsBytes-take : (n : ℕ) (bytes : List ℕ) → IsBytes bytes → IsBytes (take n bytes)
IsBytes-take n bytes h i =
    elim (cases_lt i n) [
      | inl lt ↦ rw (get_or-take n bytes i 0 lt) (h i)
      | inr le ↦ rw (get_or_past (take n bytes) i 0 (omega (arith, length-take n bytes))) (omega arith)
    ]

-- ---- bytes

abbrev pub byte_text : ℕ → List ℕ
byte_text b = b ∷ []

abbrev pub IsByte : ℕ → Type 0
IsByte b = b < 256

abbrev pub TookByte : List ℕ → ℕ × List ℕ → Type 0
TookByte bytes = Took byte_text IsByte bytes

pub byte_took : (bytes : List ℕ) → IsBytes bytes → Yields (TookByte bytes) (byte_at bytes)
byte_took [] h = tt
byte_took (b ∷ rest) h = record { parts = refl; rest = λ i. h (suc i); right = h 0 }

-- ---- numbers

pub record IsWide (w : Width) (limit : ℕ) : Type 0 where
  pub len : (n : ℕ) → length (to_be_bytes w n) ≡ byte_len w
  pub back : (bytes : List ℕ) → length bytes ≡ byte_len w → IsBytes bytes → to_be_bytes w (from_be_bytes w bytes) ≡ bytes
  pub again : (n : ℕ) → n < limit → from_be_bytes w (to_be_bytes w n) ≡ n
  pub below : (bytes : List ℕ) → IsBytes bytes → from_be_bytes w bytes < limit

pub wide16 : IsWide w16 (2 ^ 16)
wide16 = record {
  len = λ n. refl;
  back = λ bytes len fits. be_bytes_2 bytes _ len fits refl;
  again = λ n lt. from_be_bytes-to_be_bytes_2 n lt;
  below = λ bytes fits. omega (arith, fits 0, fits 1);
}

pub wide32 : IsWide w32 (2 ^ 32)
wide32 = record {
  len = λ n. refl;
  back = λ bytes len fits. be_bytes_4 bytes _ len fits refl;
  again = λ n lt. from_be_bytes-to_be_bytes_4 n lt;
  below = λ bytes fits. omega (arith, fits 0, fits 1, fits 2, fits 3);
}

pub wide64 : IsWide w64 (2 ^ 64)
wide64 = record {
  len = λ n. refl;
  back = λ bytes len fits. be_bytes_8 bytes _ len fits refl;
  again = λ n lt. from_be_bytes-to_be_bytes_8 n lt;
  below = λ bytes fits. omega (arith, fits 0, fits 1, fits 2, fits 3, fits 4, fits 5, fits 6, fits 7);
}

number_took : (w : Width) (limit : ℕ) (wide : IsWide w limit) (bytes : List ℕ) → IsBytes bytes → Yields (Took (number_text w) (λ n. n < limit) bytes) (number_at w bytes)
unfolding number_at number_text
number_took w limit wide bytes h =
    when (Took (number_text w) (λ n. n < limit) bytes) (ltb (length bytes) (byte_len w)) (Err Short) (Ok (from_be_bytes w (take (byte_len w) bytes), drop (byte_len w) bytes)) (λ _. tt)
    (λ short.
    let long : byte_len w ≤ length bytes = ltb-false _ _ short in
    record {
      parts = rw (wide.back (take (byte_len w) bytes) (omega (arith, length-take (byte_len w) bytes)) (IsBytes-take (byte_len w) bytes h)) (sym (take-append-drop (byte_len w) bytes));
      rest = IsBytes-drop (byte_len w) bytes h;
      right = wide.below (take (byte_len w) bytes) (IsBytes-take (byte_len w) bytes h);
    })

number_again : (w : Width) (limit : ℕ) (wide : IsWide w limit) (n : ℕ) (rest : List ℕ) → n < limit → number_at w (number_text w n ++ rest) ≡ Ok (n, rest)
unfolding number_at number_text
number_again w limit wide n rest lt =
    let len = wide.len n in
    let long : ltb (length (to_be_bytes w n ++ rest)) (byte_len w) ≡ false = le-ltb _ _ (omega (arith, length-append (to_be_bytes w n) rest)) in
    rw (long, take_at (to_be_bytes w n) rest (byte_len w) len, drop_at (to_be_bytes w n) rest (byte_len w) len, wide.again n lt) refl

-- the bytes of a number are its text
whole_number : (w : Width) (limit : ℕ) (wide : IsWide w limit) (bytes : List ℕ) → length bytes ≡ byte_len w → IsBytes bytes → bytes ≡ number_text w (from_be_bytes w bytes)
unfolding number_text
whole_number w limit wide bytes long h = sym (wide.back bytes long h)

abbrev pub TookNumber32 : List ℕ → ℕ × List ℕ → Type 0
TookNumber32 bytes = Took (number_text w32) (λ n. n < 2 ^ 32) bytes

pub number32_took : (bytes : List ℕ) → IsBytes bytes → Yields (TookNumber32 bytes) (number_at w32 bytes)
number32_took bytes h = number_took w32 (2 ^ 32) wide32 bytes h

pub number32_again : (n : ℕ) (rest : List ℕ) → n < 2 ^ 32 → number_at w32 (number_text w32 n ++ rest) ≡ Ok (n, rest)
number32_again n rest lt = number_again w32 (2 ^ 32) wide32 n rest lt

abbrev pub TookNumber16 : List ℕ → ℕ × List ℕ → Type 0
TookNumber16 bytes = Took (number_text w16) (λ n. n < 2 ^ 16) bytes

pub number16_took : (bytes : List ℕ) → IsBytes bytes → Yields (TookNumber16 bytes) (number_at w16 bytes)
number16_took bytes h = number_took w16 (2 ^ 16) wide16 bytes h

pub number16_again : (n : ℕ) (rest : List ℕ) → n < 2 ^ 16 → number_at w16 (number_text w16 n ++ rest) ≡ Ok (n, rest)
number16_again n rest lt = number_again w16 (2 ^ 16) wide16 n rest lt

abbrev pub TookSigned : List ℕ → ℤ × List ℕ → Type 0
TookSigned bytes = Took signed_text (FitsSigned w64) bytes

pub signed_took : (bytes : List ℕ) → IsBytes bytes → Yields (TookSigned bytes) (signed_at bytes)
unfolding signed_at
signed_took bytes h =
    then _ _ (number_at w64 bytes) (λ n. Ok (cast_signed w64 n.0, n.1)) (number_took w64 (2 ^ 64) wide64 bytes h)
    (λ n t. record { parts = rw (of_z-to_z w64 n.0 t.right) t.parts; rest = t.rest; right = search rules })

pub signed_again : (z : ℤ) (rest : List ℕ) → FitsSigned w64 z → signed_at (signed_text z ++ rest) ≡ Ok (z, rest)
unfolding signed_at
signed_again z rest fits =
    let lt : cast_unsigned w64 z < 2 ^ 64 = omega (arith, ints) in
    rw (number_again w64 (2 ^ 64) wide64 (cast_unsigned w64 z) rest lt, to_z-of_z w64 z fits) refl

-- ---- numbers with a rule

abbrev pub TookIndex : List ℕ → ℕ × List ℕ → Type 0
TookIndex bytes = Took byte_text IsIndex bytes

pub index_took : (bytes : List ℕ) → IsBytes bytes → Yields (TookIndex bytes) (index_at bytes)
unfolding index_at
index_took bytes h =
    then _ _ (byte_at bytes) (λ n. ruled (is_index n.0) n) (byte_took bytes h)
    (λ n t. keeps _ (is_index n.0) n (λ e. record { parts = t.parts; rest = t.rest; right = grind (arith, nat_tests) }))

pub index_again : (n : ℕ) (rest : List ℕ) → IsIndex n → index_at (n ∷ rest) ≡ Ok (n, rest)
unfolding index_at
index_again n rest right =
    let e : is_index n ≡ true = grind (arith, nat_tests) in
    rw e refl

abbrev pub TookCount : List ℕ → ℕ × List ℕ → Type 0
TookCount bytes = Took (number_text w32) IsCount bytes

pub count_took : (bytes : List ℕ) → IsBytes bytes → Yields (TookCount bytes) (count_at bytes)
unfolding count_at
count_took bytes h =
    then _ _ (number_at w32 bytes) (λ n. ruled (is_positive n.0) n) (number32_took bytes h)
    (λ n t. keeps _ (is_positive n.0) n (λ e. record { parts = t.parts; rest = t.rest; right = (leb-true _ _ e, t.right) }))

pub count_again : (n : ℕ) (rest : List ℕ) → IsCount n → count_at (number_text w32 n ++ rest) ≡ Ok (n, rest)
unfolding count_at
count_again n rest right = rw (number32_again n rest right.1, le-leb _ _ right.0) refl

abbrev pub TookPosition : List ℕ → ℕ × List ℕ → Type 0
TookPosition bytes = Took position_text IsPosition bytes

pub position_took : (bytes : List ℕ) → IsBytes bytes → Yields (TookPosition bytes) (position_at bytes)
unfolding position_at
position_took bytes h =
    then _ _ (number_at w16 bytes) (λ n. ruled (is_positive n.0) n) (number16_took bytes h)
    (λ n t. keeps _ (is_positive n.0) n (λ e. record { parts = t.parts; rest = t.rest; right = (leb-true _ _ e, t.right) }))

pub position_again : (n : ℕ) (rest : List ℕ) → IsPosition n → position_at (position_text n ++ rest) ≡ Ok (n, rest)
unfolding position_at
position_again n rest right = rw (number16_again n rest right.1, le-leb _ _ right.0) refl

abbrev pub TookBallot : List ℕ → ℕ × List ℕ → Type 0
TookBallot bytes = Took ballot_text IsBallot bytes

pub ballot_took : (bytes : List ℕ) → IsBytes bytes → Yields (TookBallot bytes) (ballot_at bytes)
unfolding ballot_at
ballot_took bytes h =
    then _ _ (number_at w64 bytes) (λ n. ruled (is_ballot n.0) n) (number_took w64 (2 ^ 64) wide64 bytes h)
    (λ n t. keeps _ (is_ballot n.0) n (λ e. record { parts = t.parts; rest = t.rest; right = (is_ballot_decides n.0).0 e }))

ballot_fits : (b : ℕ) → IsBallot b → b < 2 ^ 64
ballot_fits b right = omega arith

pub ballot_again : (b : ℕ) (rest : List ℕ) → IsBallot b → ballot_at (ballot_text b ++ rest) ≡ Ok (b, rest)
unfolding ballot_at
ballot_again b rest right =
    rw (number_again w64 (2 ^ 64) wide64 b rest (ballot_fits b right), (is_ballot_decides b).1 right) refl

-- ---- ballots beside another

abbrev pub IsLower : ℕ → ℕ → Type 0
IsLower ballot lower = IsBallot lower × (lower < ballot)

abbrev pub IsHigher : ℕ → ℕ → Type 0
IsHigher ballot higher = IsBallot higher × (ballot < higher)

abbrev pub TookLower : ℕ → List ℕ → ℕ × List ℕ → Type 0
TookLower ballot bytes = Took ballot_text (IsLower ballot) bytes

abbrev pub TookHigher : ℕ → List ℕ → ℕ × List ℕ → Type 0
TookHigher ballot bytes = Took ballot_text (IsHigher ballot) bytes

pub lower_took : (ballot : ℕ) (bytes : List ℕ) → IsBytes bytes → Yields (TookLower ballot bytes) (lower_ballot_at ballot bytes)
unfolding lower_ballot_at
lower_took ballot bytes h =
    then (TookBallot bytes) (TookLower ballot bytes) _ _ (ballot_took bytes h)
    (λ b t. keeps (TookLower ballot bytes) (ltb b.0 ballot) b (λ e. record { parts = t.parts; rest = t.rest; right = (t.right, ltb-true _ _ e) }))

pub higher_took : (ballot : ℕ) (bytes : List ℕ) → IsBytes bytes → Yields (TookHigher ballot bytes) (higher_ballot_at ballot bytes)
unfolding higher_ballot_at
higher_took ballot bytes h =
    then (TookBallot bytes) (TookHigher ballot bytes) _ _ (ballot_took bytes h)
    (λ b t. keeps (TookHigher ballot bytes) (ltb ballot b.0) b (λ e. record { parts = t.parts; rest = t.rest; right = (t.right, ltb-true _ _ e) }))

pub lower_again : (ballot lower : ℕ) (rest : List ℕ) → IsLower ballot lower → lower_ballot_at ballot (ballot_text lower ++ rest) ≡ Ok (lower, rest)
unfolding lower_ballot_at
lower_again ballot lower rest right = rw (ballot_again lower rest right.0, lt-ltb _ _ right.1) refl

pub higher_again : (ballot higher : ℕ) (rest : List ℕ) → IsHigher ballot higher → higher_ballot_at ballot (ballot_text higher ++ rest) ≡ Ok (higher, rest)
unfolding higher_ballot_at
higher_again ballot higher rest right = rw (ballot_again higher rest right.0, lt-ltb _ _ right.1) refl

-- ---- ranges

abbrev pub TookRange : List ℕ → Range × List ℕ → Type 0
TookRange bytes = Took range_text IsRange bytes

range_right : (first count : ℕ) → IsPosition first → is_range first count ≡ true → IsRange (record { first = first; count = count })
range_right first count position e =
    let both = and_parts _ _ e in
    let ends = and_parts _ _ both.0 in
    record { first = position; count = (leb-true _ _ ends.0, leb-true _ _ ends.1); last = leb-true _ _ both.1 }

range_is : (range : Range) → IsRange range → is_range range.first range.count ≡ true
range_is range right = and_from _ _ (and_from _ _ (le-leb _ _ right.count.0) (le-leb _ _ right.count.1)) (le-leb _ _ right.last)

pub range_took : (bytes : List ℕ) → IsBytes bytes → Yields (TookRange bytes) (range_at bytes)
unfolding range_at
range_took bytes h =
    then (TookPosition bytes) (TookRange bytes) _ _ (position_took bytes h)
    (λ first p. then (TookByte first.1) (TookRange bytes) _ _ (byte_took first.1 p.rest)
    (λ n b. guarded (TookRange bytes) (is_range first.0 n.0) n _
    (λ e. record { parts = rw (p.parts, b.parts) (simp append_assoc); rest = b.rest; right = range_right first.0 n.0 p.right e })))

pub range_again : (range : Range) (rest : List ℕ) → IsRange range → range_at (range_text range ++ rest) ≡ Ok (range, rest)
unfolding range_at
range_again range rest right =
    ap range_at (append_assoc (position_text range.first) (range.count ∷ []) rest) ∙ rw (position_again range.first (range.count ∷ rest) right.first, range_is range right) refl

-- ---- a position or a range, and a ballot

abbrev pub place_text : ℕ × ℕ → List ℕ
place_text place = position_text place.0 ++ ballot_text place.1

abbrev pub TookPlace : List ℕ → (ℕ × ℕ) × List ℕ → Type 0
TookPlace bytes = Took place_text (λ place. IsPosition place.0 × IsBallot place.1) bytes

pub place_took : (bytes : List ℕ) → IsBytes bytes → Yields (TookPlace bytes) (place_at bytes)
unfolding place_at
place_took bytes h =
    then (TookPosition bytes) (TookPlace bytes) _ _ (position_took bytes h)
    (λ position p. then (TookBallot position.1) (TookPlace bytes) _ _ (ballot_took position.1 p.rest)
    (λ ballot b. record { parts = rw (p.parts, b.parts) (simp append_assoc); rest = b.rest; right = (p.right, b.right) }))

pub place_again : (position ballot : ℕ) (rest : List ℕ) → IsPosition position → IsBallot ballot
    → place_at ((position_text position ++ ballot_text ballot) ++ rest) ≡ Ok ((position, ballot), rest)
unfolding place_at
place_again position ballot rest is_position is_ballot =
    ap place_at (append_assoc (position_text position) (ballot_text ballot) rest) ∙ rw (position_again position (ballot_text ballot ++ rest) is_position, ballot_again ballot rest is_ballot) refl

abbrev pub range_place_text : Range × ℕ → List ℕ
range_place_text place = range_text place.0 ++ ballot_text place.1

abbrev pub TookRangePlace : List ℕ → (Range × ℕ) × List ℕ → Type 0
TookRangePlace bytes = Took range_place_text (λ place. IsRange place.0 × IsBallot place.1) bytes

pub range_place_took : (bytes : List ℕ) → IsBytes bytes → Yields (TookRangePlace bytes) (range_place_at bytes)
unfolding range_place_at
range_place_took bytes h =
    then (TookRange bytes) (TookRangePlace bytes) _ _ (range_took bytes h)
    (λ range r. then (TookBallot range.1) (TookRangePlace bytes) _ _ (ballot_took range.1 r.rest)
    (λ ballot b. record { parts = rw (r.parts, b.parts) (simp append_assoc); rest = b.rest; right = (r.right, b.right) }))

pub range_place_again : (range : Range) (ballot : ℕ) (rest : List ℕ) → IsRange range → IsBallot ballot
    → range_place_at ((range_text range ++ ballot_text ballot) ++ rest) ≡ Ok ((range, ballot), rest)
unfolding range_place_at
range_place_again range ballot rest is_range is_ballot =
    ap range_place_at (append_assoc (range_text range) (ballot_text ballot) rest) ∙ rw (range_again range (ballot_text ballot ++ rest) is_range, ballot_again ballot rest is_ballot) refl

-- three fields, of which the first two are read as one
pub regroup : (x y z rest : List ℕ) → (x ++ y ++ z) ++ rest ≡ (x ++ y) ++ (z ++ rest)
regroup x y z rest = simp append_assoc
