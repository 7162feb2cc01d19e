-- The names of a tally's objects.
use Rattle.std.proofs.Common.{◌≡◌, ℕ, zero, suc, ◌+◌, ◌<◌, [], ◌∷◌, ◌++◌, false, arith, ap, refl, sym, subst, ◌∙◌}
use Rattle.rp_words.specs.Tables.{is_declared}
use Rattle.rp_deck_declarations.specs.Drafts.{tally_name, tally_names}

new_after : (n : ℕ) → n < 8 → is_declared (tally_name (suc n)) (tally_names n) ≡ false
new_after zero h = refl
new_after (suc zero) h = refl
new_after (suc (suc zero)) h = refl
new_after (suc (suc (suc zero))) h = refl
new_after (suc (suc (suc (suc zero)))) h = refl
new_after (suc (suc (suc (suc (suc zero))))) h = refl
new_after (suc (suc (suc (suc (suc (suc zero)))))) h = refl
new_after (suc (suc (suc (suc (suc (suc (suc zero))))))) h = refl
new_after (suc (suc (suc (suc (suc (suc (suc (suc n)))))))) h = absurd (omega arith)

-- each is new
pub tally_new : (n m : ℕ) → m ≡ n + 1 → n < 8 → is_declared (tally_name m) (tally_names n) ≡ false
tally_new n m is h = let one : suc n ≡ m = omega arith in subst (λ (k : ℕ). is_declared (tally_name k) (tally_names n) ≡ false) one (new_after n h)

-- one more
pub tally_more : (n m : ℕ) → m ≡ n + 1 → tally_names m ≡ tally_names n ++ tally_name m ∷ []
tally_more n m is = let one : m ≡ suc n = omega arith in ap tally_names one ∙ ap (λ (k : ℕ). tally_names n ++ tally_name k ∷ []) (sym one)
