-- Lines that are numbered from 1.
use Rattle.std.proofs.Common.{◌≡◌, ◌∙◌, ◌+◌, ◌++◌, ◌<◌, ℕ, List, length, drop, get_or, ap, sym, append_assoc}
use Rattle.std.proofs.lemmas.List.{at_drop_more}
use Rattle.rp_bind_local.specs.Numbered.{numbered}

module _ {X : Type 0} (line : ℕ → X → List ℕ) (rows : List X) (place : ℕ) (row : X) (within : place < length rows) (is : row ≡ get_or rows place row) where
  -- one line more is written, and those after it are left
  pub one_written : (text next all : List ℕ) → next ≡ text ++ line (place + 1) row → text ++ numbered line (place + 1) (drop place rows) ≡ all
      → next ++ numbered line (place + 1 + 1) (drop (place + 1) rows) ≡ all
  one_written text next all more so_far =
      let rest = numbered line (place + 1 + 1) (drop (place + 1) rows) in
      let step : text ++ numbered line (place + 1) (drop place rows) ≡ text ++ (line (place + 1) (get_or rows place row) ++ rest) =
      at_drop_more (λ (left : List X). text ++ numbered line (place + 1) left) rows place row within in
      ap (λ (t : List ℕ). t ++ rest) more
      ∙ append_assoc text (line (place + 1) row) rest
      ∙ ap (λ (l : X). text ++ (line (place + 1) l ++ rest)) is
      ∙ sym step
      ∙ so_far
