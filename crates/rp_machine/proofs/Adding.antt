-- What a call of `add` gives, by what `checked_add` gives.
use Rattle.std.proofs.Common.{◌≡◌, ◌≢◌, ℕ, zero, suc, ◌-◌, ◌≤◌, ◌^◌, ℤ, pos, negsuc, ◌+ℤ◌, Bool, true, false, cond, Some, None, List, length, get_or, set, option_and_then, refl, sym, ap, ap₂, subst, ◌∙◌, arith, lt-ltb, FitsSigned, w64, to_z, of_z}
use Rattle.std.proofs.lemmas.Int.{to_z-of_z}
use Rattle.std.proofs.lemmas.Option.{slice_get_read}
use Rattle.rp_base.specs.declared.reply.Reply.TheVariants.{Value, ConstraintError}
use Rattle.rp_machine.specs.TallyRule.{fits_i64, sum_of, added, new_sum, with_sum, reply_to_add}
use Rattle.rp_machine.proofs.TallyLaws.{mag_fits}

-- the code reads the object's sum, and both numbers fit
pub record Reads (sums : List ℤ) (object : ℕ) (sum arg : ℤ) : Type 0 where
  pub some : object ≢ 0
  pub within : object ≤ length sums
  pub read : sum ≡ get_or sums (object - 1) sum
  pub sum_fits : FitsSigned w64 sum
  pub arg_fits : FitsSigned w64 arg

-- the sum that the code reads is the object's
sum_found : (sums : List ℤ) (object : ℕ) (sum arg : ℤ) → Reads sums object sum arg → sum_of sums object ≡ Some sum
sum_found sums zero sum arg reads = absurd (reads.some refl)
sum_found sums (suc place) sum arg reads =
    let same : suc place - 1 ≡ place = omega arith in
    slice_get_read sums (length sums) place sum refl (omega arith) (rw same at reads.read)

-- the sum as the code computes it
abbrev Total : ℤ → ℤ → ℤ
Total sum arg = to_z w64 (of_z w64 sum) +ℤ to_z w64 (of_z w64 arg)

total_is : (sums : List ℤ) (object : ℕ) (sum arg : ℤ) → Reads sums object sum arg → Total sum arg ≡ sum +ℤ arg
total_is sums object sum arg reads = ap₂ ◌+ℤ◌ (to_z-of_z w64 sum reads.sum_fits) (to_z-of_z w64 arg reads.arg_fits)

fits_true : (z : ℤ) → FitsSigned w64 z → fits_i64 z ≡ true
fits_true (pos n) fits = lt-ltb n (2 ^ 63) fits.sfits
fits_true (negsuc n) fits = lt-ltb n (2 ^ 63) fits.sfits

fits_false : (z : ℤ) (b : Bool) → fits_i64 z ≡ b → ¬ FitsSigned w64 z → b ≡ false
fits_false z true e none = absurd (none (record { sfits = mag_fits z e }))
fits_false z false e none = refl

-- ---- where the sum fits

-- the reply is the sum
pub reply_fits : (sums : List ℤ) (object : ℕ) (sum arg total : ℤ) → Reads sums object sum arg → FitsSigned w64 (Total sum arg) × (total ≡ Total sum arg) → Value (to_z w64 (of_z w64 total)) ≡ reply_to_add (sum_of sums object) arg
reply_fits sums object sum arg total reads h =
    let same = total_is sums object sum arg reads in
    let fits : fits_i64 (sum +ℤ arg) ≡ true = fits_true (sum +ℤ arg) (subst (FitsSigned w64) same h.0) in
    let plain = to_z-of_z w64 total (subst (FitsSigned w64) (sym h.1) h.0) in
    ap (λ z. Value z) (plain ∙ h.1 ∙ same) ∙ sym (ap (λ b. cond b (Value (sum +ℤ arg)) ConstraintError) fits) ∙ sym (ap (λ found. reply_to_add found arg) (sum_found sums object sum arg reads))

-- the sum is written
pub sums_fits : (sums : List ℤ) (object : ℕ) (sum arg total : ℤ) → Reads sums object sum arg → FitsSigned w64 (Total sum arg) × (total ≡ Total sum arg) → set sums (object - 1) (to_z w64 (of_z w64 total)) ≡ with_sum sums object (new_sum sums object arg)
sums_fits sums object sum arg total reads h =
    let same = total_is sums object sum arg reads in
    let fits : fits_i64 (sum +ℤ arg) ≡ true = fits_true (sum +ℤ arg) (subst (FitsSigned w64) same h.0) in
    let plain = to_z-of_z w64 total (subst (FitsSigned w64) (sym h.1) h.0) in
    ap (set sums (object - 1)) (plain ∙ h.1 ∙ same) ∙ sym (ap (λ b. with_sum sums object (cond b (Some (sum +ℤ arg)) None)) fits) ∙ sym (ap (λ found. with_sum sums object (option_and_then (λ z. added z arg) found)) (sum_found sums object sum arg reads))

-- ---- where it does not

none_fits : (sums : List ℤ) (object : ℕ) (sum arg : ℤ) → Reads sums object sum arg → ¬ FitsSigned w64 (Total sum arg) → fits_i64 (sum +ℤ arg) ≡ false
none_fits sums object sum arg reads none =
    fits_false (sum +ℤ arg) (fits_i64 (sum +ℤ arg)) refl (λ fits. none (subst (FitsSigned w64) (sym (total_is sums object sum arg reads)) fits))

-- the reply is the exception
pub reply_unfit : (sums : List ℤ) (object : ℕ) (sum arg : ℤ) → Reads sums object sum arg → ¬ FitsSigned w64 (Total sum arg) → ConstraintError ≡ reply_to_add (sum_of sums object) arg
reply_unfit sums object sum arg reads none =
    sym (ap (λ b. cond b (Value (sum +ℤ arg)) ConstraintError) (none_fits sums object sum arg reads none)) ∙ sym (ap (λ found. reply_to_add found arg) (sum_found sums object sum arg reads))

-- nothing is written
pub sums_unfit : (sums : List ℤ) (object : ℕ) (sum arg : ℤ) → Reads sums object sum arg → ¬ FitsSigned w64 (Total sum arg) → sums ≡ with_sum sums object (new_sum sums object arg)
sums_unfit sums object sum arg reads none =
    sym (ap (λ b. with_sum sums object (cond b (Some (sum +ℤ arg)) None)) (none_fits sums object sum arg reads none)) ∙ sym (ap (λ found. with_sum sums object (option_and_then (λ z. added z arg) found)) (sum_found sums object sum arg reads))
