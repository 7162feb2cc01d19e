-- The tally's rule keeps the laws of a machine.
use Rattle.std.proofs.Common.{◌≡◌, ◌≢◌, ℕ, suc, ◌<◌, ◌^◌, ◌-◌, ℤ, pos, negsuc, ◌+ℤ◌, Bool, true}
use Rattle.std.proofs.Common.{false, Option, Some, None, List, [], ◌∷◌, ◌++◌, length, replicate}
use Rattle.std.proofs.Common.{codes, decimal, if◌then◌else◌, option_and_then, refl, sym, ◌∙◌, ap}
use Rattle.std.proofs.Common.{subst, inl, inr, arith, length-set, ltb-true}
use Rattle.std.proofs.lemmas.List.{append_assoc, append_cancel_left, append_cancel_right}
use Rattle.std.proofs.lemmas.List.{length-replicate, get_or-replicate}
use Rattle.std.proofs.lemmas.List.Elements.{All-set, recursion_from_All}
use Rattle.std.proofs.lemmas.Fmt.{decimal_is_IsNumeral, signed_decimal_injective}
use Rattle.std.specs.List.{AllByRecursion}
use Rattle.std.specs.Char.{digit_value}
use Rattle.std.specs.Str.Parse.{AllDigits}
use Rattle.std.specs.Fmt.{signed_decimal}
use lib.Signed.{mag}
use Rattle.rp_base.specs.Action.{IsRight}
use Rattle.rp_base.specs.Right.{IsReply}
use Rattle.rp_base.specs.Sets.{Has}
use Rattle.rp_base.specs.declared.reply.Answer.{Answer}
use Rattle.rp_base.specs.declared.reply.Reply.{Reply}
use Rattle.rp_base.specs.declared.reply.Reply.TheVariants.{Value, ConstraintError, NoSuchOperation}
use Rattle.rp_base.specs.declared.action.Action.{Action}
use Rattle.rp_base.specs.declared.action.Action.TheVariants.{Noop, Call, Interrupt, Tick}
use Rattle.rp_machine.specs.Calls.{MayApply, AccountsFor}
use Rattle.rp_machine.proofs.AtOnce.{none_answered, own_answered}
use Rattle.rp_machine.specs.TallyRule.{fits_i64, HasSums, is_add, sum_of, added, new_sum, with_sum}
use Rattle.rp_machine.specs.TallyRule.{reply_to_add, tally_next, tally_answers, sums_text}
use Rattle.rp_machine.specs.TallyRule.{tally_image}

-- ---- the sums stay in range

-- the start has a sum for each object
pub HasSums-start : (objects : ℕ) → HasSums objects (replicate objects (pos 0))
HasSums-start objects =
    record {
      one_each = length-replicate objects (pos 0);
      in_range = λ k d l.
          let below : k < objects = rw length-replicate at l in
          ap fits_i64 (get_or-replicate objects k (pos 0) d below);
    }

-- the sums with one replaced by a sum that fits
HasSums-with : (objects : ℕ) (sums : List ℤ) (object : ℕ) (sum : Option ℤ)
    → ((z : ℤ) → sum ≡ Some z → fits_i64 z ≡ true) → HasSums objects sums
    → HasSums objects (with_sum sums object sum)
HasSums-with objects sums object None fits has = has
HasSums-with objects sums object (Some sum) fits has =
    record {
      one_each = length-set sums (object - 1) sum
          ∙ has.one_each;
      in_range =
          All-set (λ z. fits_i64 z ≡ true) sums (object - 1) sum (fits sum refl) has.in_range;
    }

-- what `added` gives fits
added_fits : (sum arg z : ℤ) (b : Bool) → fits_i64 (sum +ℤ arg) ≡ b
    → (if b then Some (sum +ℤ arg) else None) ≡ Some z
    → fits_i64 z ≡ true
added_fits sum arg z true fits e = let same : z ≡ sum +ℤ arg = cc in ap fits_i64 same ∙ fits
added_fits sum arg z false fits e = absurd (cc)

found_fits : (found : Option ℤ) (arg z : ℤ) → option_and_then (λ sum. added sum arg) found ≡ Some z
    → fits_i64 z ≡ true
found_fits None arg z e = absurd (cc)
found_fits (Some sum) arg z e = added_fits sum arg z (fits_i64 (sum +ℤ arg)) refl e

-- an action keeps a sum for each object
pub HasSums-next : (objects : ℕ) (sums : List ℤ) (action : Action) → HasSums objects sums
    → IsRight action
    → MayApply [] action → HasSums objects (tally_next sums action)
HasSums-next objects sums Noop has right may = has
HasSums-next objects sums (Call task number object operation arg) has right may =
    elim (is_add operation) as
    (λ b. HasSums objects (if b then with_sum sums object (new_sum sums object arg) else sums)) [
      | true ↦ HasSums-with objects sums object (new_sum sums object arg)
          (λ z e. found_fits (sum_of sums object) arg z e) has
      | false ↦ has
    ]
HasSums-next objects sums (Interrupt source occurrence) has right may = has
HasSums-next objects sums (Tick now) has right may = has

-- ---- the image shows the sums

-- no character of the text is a blank
abbrev HasNoBlank : List ℕ → Type 0
HasNoBlank [] = Unit {0}
HasNoBlank (c ∷ cs) = (c ≢ 32) × HasNoBlank cs

-- the text is empty or begins with a blank
abbrev BeginsBlank : List ℕ → Type 0
BeginsBlank [] = Unit {0}
BeginsBlank (c ∷ cs) = c ≡ 32

-- where words are followed by blanks, equal texts have equal first words
split_at_blank : (xs ys s t : List ℕ) → HasNoBlank xs → HasNoBlank ys → BeginsBlank s
    → BeginsBlank t
    → xs ++ s ≡ ys ++ t → (xs ≡ ys) × (s ≡ t)
split_at_blank [] [] s t p q u v e = (refl, e)
split_at_blank [] (y ∷ ys) [] t p q u v e = absurd (cc)
split_at_blank [] (y ∷ ys) (c ∷ s) t p q u v e = let blank : y ≡ 32 = cc in absurd (q.0 blank)
split_at_blank (x ∷ xs) [] s [] p q u v e = absurd (cc)
split_at_blank (x ∷ xs) [] s (c ∷ t) p q u v e = let blank : x ≡ 32 = cc in absurd (p.0 blank)
split_at_blank (x ∷ xs) (y ∷ ys) s t p q u v e =
    let rest : xs ++ s ≡ ys ++ t = cc in
    let both = split_at_blank xs ys s t p.1 q.1 u v rest in
    let first : xs ≡ ys = both.0 in
    (cc, both.1)

digits_no_blank : (ds : List ℕ) → AllDigits 10 ds → HasNoBlank ds
digits_no_blank [] all = tt
digits_no_blank (d ∷ ds) all = (
  λ blank.
      let digit : digit_value 32 < 10 = subst (λ (c : ℕ). digit_value c < 10) blank all.0 in
      omega arith,
  digits_no_blank ds all.1,
)

-- a sum that fits is as far from 0 as 63 bits reach
pub mag_fits : (z : ℤ) → fits_i64 z ≡ true → mag z < 2 ^ 63
mag_fits (pos n) fits = ltb-true n (2 ^ 63) fits
mag_fits (negsuc n) fits = ltb-true n (2 ^ 63) fits

decimal_no_blank : (n : ℕ) → n < 2 ^ 64 → HasNoBlank (decimal n)
decimal_no_blank n small = digits_no_blank (decimal n) (decimal_is_IsNumeral n small).0.1

minus_no_blank : (ds : List ℕ) → HasNoBlank ds → HasNoBlank (45 ∷ ds)
minus_no_blank ds none = (λ blank. absurd (cc), none)

signed_no_blank : (z : ℤ) → fits_i64 z ≡ true → HasNoBlank (signed_decimal z)
signed_no_blank (pos n) fits = decimal_no_blank n (omega (arith, mag_fits (pos n) fits))
signed_no_blank (negsuc n) fits =
    minus_no_blank (decimal (suc n))
    (decimal_no_blank (suc n) (omega (arith, mag_fits (negsuc n) fits)))

sums_text_begins : (object : ℕ) (sums : List ℤ) → BeginsBlank (sums_text object sums)
sums_text_begins object [] = tt
sums_text_begins object (sum ∷ sums) = refl

sums_text-injective : (object : ℕ) (xs ys : List ℤ) → length xs ≡ length ys
    → AllByRecursion (λ x. fits_i64 x ≡ true) xs
    → AllByRecursion (λ y. fits_i64 y ≡ true) ys → sums_text object xs ≡ sums_text object ys
    → xs ≡ ys
sums_text-injective object [] [] long fits fit e = refl
sums_text-injective object [] (y ∷ ys) long fits fit e = absurd (cc)
sums_text-injective object (x ∷ xs) [] long fits fit e = absurd (cc)
sums_text-injective object (x ∷ xs) (y ∷ ys) long fits fit e =
    let name = codes " o" ++ decimal object ++ codes "=" in
    let left = sums_text (suc object) xs in
    let right = sums_text (suc object) ys in
    let following : signed_decimal x ++ left ≡ signed_decimal y
    ++ right =
    append_cancel_left name _ _
    (sym (append_assoc name (signed_decimal x) left) ∙ e
    ∙ append_assoc name (signed_decimal y) right) in
    let both =
    split_at_blank (signed_decimal x) (signed_decimal y) left right (signed_no_blank x fits.0)
    (signed_no_blank y fit.0) (sums_text_begins (suc object) xs) (sums_text_begins (suc object) ys)
    following in
    let first : x ≡ y =
    signed_decimal_injective x y (mag_fits x fits.0) (mag_fits y fit.0) both.0 in
    let others : xs ≡ ys =
    sums_text-injective (suc object) xs ys (omega arith) fits.1 fit.1 both.1 in
    cc

-- sums that look the same are the same
pub tally_image-injective : (objects : ℕ) (s t : List ℤ) → HasSums objects s → HasSums objects t
    → tally_image s ≡ tally_image t → s ≡ t
tally_image-injective objects s t first second e =
    let open_lines =
    append_cancel_right (codes "tally" ++ sums_text 1 s) (codes "tally" ++ sums_text 1 t)
    (codes "\n") e in
    let sums = append_cancel_left (codes "tally") (sums_text 1 s) (sums_text 1 t) open_lines in
    let fits : ℤ → Type 0 = λ z. fits_i64 z ≡ true in
    sums_text-injective 1 s t (first.one_each ∙ sym second.one_each)
    (recursion_from_All fits s first.in_range)
    (recursion_from_All fits t second.in_range) sums

-- ---- a call is answered at once

-- a call's own answer is the only one, and no call waits
pub tally_accounts : (objects : ℕ) (sums : List ℤ) (action : Action) → HasSums objects sums
    → IsRight action
    → MayApply [] action → AccountsFor [] action (tally_answers sums action) []
tally_accounts objects sums Noop has right may = none_answered Noop refl
tally_accounts objects sums (Call task number object operation arg) has right may =
    own_answered (Call task number object operation arg) _ refl
tally_accounts objects sums (Interrupt source occurrence) has right may =
    none_answered (Interrupt source occurrence) refl
tally_accounts objects sums (Tick now) has right may = none_answered (Tick now) refl

-- ---- a reply fits

sum_reply : (sum : ℤ) (b : Bool) → fits_i64 sum ≡ b
    → IsReply (let reply : Reply = if b then Value sum else ConstraintError in reply)
sum_reply sum true fits = record { sfits = mag_fits sum fits }
sum_reply sum false fits = tt

add_reply : (found : Option ℤ) (arg : ℤ) → IsReply (reply_to_add found arg)
add_reply None arg = tt
add_reply (Some sum) arg = sum_reply (sum +ℤ arg) (fits_i64 (sum +ℤ arg)) refl

call_reply : (adds : Bool) (found : Option ℤ) (arg : ℤ)
    → IsReply (let reply : Reply = if adds then reply_to_add found arg
    else NoSuchOperation in reply)
call_reply true found arg = add_reply found arg
call_reply false found arg = tt

-- the sum that a reply reports fits
pub tally_replies : (objects : ℕ) (sums : List ℤ) (action : Action) → HasSums objects sums
    → IsRight action
    → MayApply [] action
    → (answer : Answer) → Has answer (tally_answers sums action) → IsReply answer.reply
tally_replies objects sums Noop has right may answer h = absurd h
tally_replies objects sums (Call task number object operation arg) has right may answer h =
    elim h [
      | inl same ↦ subst (λ (a : Answer). IsReply a.reply) (sym same)
          (call_reply (is_add operation) (sum_of sums object) arg)
      | inr none ↦ absurd none
    ]
tally_replies objects sums (Interrupt source occurrence) has right may answer h = absurd h
tally_replies objects sums (Tick now) has right may answer h = absurd h
