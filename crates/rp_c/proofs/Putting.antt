-- A text that is put into the caller's buffer, or does not fit, is the answer of a run.
use Rattle.std.proofs.Common.{◌≡◌, ◌⊎◌, ℕ, List, Bool, inl, inr, subst, sym, ◌∙◌}
use Rattle.rp_c.specs.Decks.{IsBadLine, IsOutput, IsTextPut, IsTextTooLong, PutsText, RunsDeck}
use Rattle.rp_c.specs.declared.status.Status.{Status}
use Rattle.rp_c.specs.declared.status.Status.TheVariants.{Done, BadDeck, ShortAnswer}

module _ (traced : Bool) (bytes text old new : List ℕ) (before used : ℕ) (status : Status) where
  pub output_put : IsOutput traced bytes text → PutsText text old new used Done status → RunsDeck traced bytes old new before used status
  output_put output (inl (is, put)) = subst (λ s. RunsDeck traced bytes old new before used s) (sym is) (text, output, put)
  output_put output (inr (is, long)) = subst (λ s. RunsDeck traced bytes old new before used s) (sym is) (text, inl output, long)

module _ (text old new : List ℕ) (used : ℕ) (status : Status) where
  -- the text did not fit
  pub is_long : PutsText text old new used Done status → status ≡ ShortAnswer → IsTextTooLong text old new used
  is_long (inl (is, put)) short = let clash : Done ≡ ShortAnswer = sym is ∙ short in absurd (cc)
  is_long (inr (is, long)) short = long

  -- the text fitted
  pub is_put : PutsText text old new used Done status → (status ≡ ShortAnswer → ⊥) → IsTextPut text old new used
  is_put (inl (is, put)) fits = put
  is_put (inr (is, long)) fits = absurd (fits is)
