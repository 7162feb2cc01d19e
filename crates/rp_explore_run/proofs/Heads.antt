-- The lines of a deck by their numbers, and one line more of its head.
use Rattle.std.proofs.Common.{◌≡◌, ◌≢◌, ℕ, zero, suc, ◌+◌, ◌-◌, ◌<◌, ◌≤◌, List, [], ◌∷◌, ◌++◌, Bor, length, get_or, map, take, arith, refl, sym, ap, ap₂, ◌∙◌, append_assoc, append-nil}
use Rattle.std.proofs.lemmas.List.{get_or-map, length-map, length-take, take_more}
use Rattle.std.proofs.lemmas.Option.{slice_get-get_or}
use Rattle.rp_output.specs.Trace.{or_nothing}
use Rattle.rp_explore_run.specs.OrderDecks.{head_from, head_line, line_at}

-- the texts of lines
abbrev pub texts : List (Bor (List ℕ)) → List (List ℕ)
texts lines = map (λ (line : Bor (List ℕ)). line.now) lines

text_here : (lines : List (Bor (List ℕ))) (place : ℕ) (other : Bor (List ℕ)) → place < length lines → get_or (texts lines) place other.now ≡ (get_or lines place other).now
text_here lines place other within = get_or-map (λ (line : Bor (List ℕ)). line.now) lines place other other.now within

texts_count : (lines : List (Bor (List ℕ))) → length (texts lines) ≡ length lines
texts_count lines = length-map lines (λ (line : Bor (List ℕ)). line.now)

-- the line of a number
pub line_found : (lines : List (Bor (List ℕ))) (number : ℕ) (other : Bor (List ℕ)) → number ≢ 0 → number ≤ length lines
    → (get_or lines (number - 1) other).now ≡ line_at (texts lines) number
line_found lines zero other some few = absurd (some refl)
line_found lines (suc place) other some few =
    let within : place < length lines = omega (arith, few) in
    let below : place < length (texts lines) = omega (arith, within, texts_count lines) in
    let same : suc place - 1 ≡ place = omega arith in
    ap (λ (k : ℕ). (get_or lines k other).now) same ∙ sym (text_here lines place other within) ∙ sym (ap or_nothing (slice_get-get_or (texts lines) place other.now below))

module _ (rules : List ℕ) where
  -- the lines, and then one more
  head_end : (number : ℕ) (lines : List (List ℕ)) (line : List ℕ)
      → head_from rules number (lines ++ line ∷ []) ≡ head_from rules number lines ++ head_line rules (number + length lines) line
  head_end number [] line = append-nil (head_line rules number line) ∙ ap (λ (n : ℕ). head_line rules n line) (omega arith)
  head_end number (first ∷ rest) line =
      let same : suc number + length rest ≡ number + length (first ∷ rest) = omega arith in
      ap (λ (t : List ℕ). head_line rules number first ++ t) (head_end (suc number) rest line ∙ ap (λ (n : ℕ). head_from rules (suc number) rest ++ head_line rules n line) same)
      ∙ sym (append_assoc (head_line rules number first) (head_from rules (suc number) rest) (head_line rules (number + length (first ∷ rest)) line))

  pub head_more : (lines : List (Bor (List ℕ))) (place : ℕ) (other : Bor (List ℕ)) → place < length lines
      → (before now text : List ℕ) → now ≡ before ++ head_from rules 1 (take place (texts lines)) → text ≡ now ++ head_line rules (place + 1) (get_or lines place other).now
      → text ≡ before ++ head_from rules 1 (take (place + 1) (texts lines))
  head_more lines place other within before now text so_far more =
      let front = take place (texts lines) in
      let line = (get_or lines place other).now in
      let below : place < length (texts lines) = omega (arith, within, texts_count lines) in
      let number : place + 1 ≡ 1 + length front = omega (arith, length-take place (texts lines), below) in
      let longer : take (place + 1) (texts lines) ≡ front ++ line ∷ [] =
      take_more (texts lines) place other.now below ∙ ap (λ (l : List ℕ). front ++ l ∷ []) (text_here lines place other within) in
      more
      ∙ ap₂ (λ (t : List ℕ) (n : ℕ). t ++ head_line rules n line) so_far number
      ∙ append_assoc before (head_from rules 1 front) (head_line rules (1 + length front) line)
      ∙ ap (λ (t : List ℕ). before ++ t) (sym (head_end 1 front line) ∙ ap (head_from rules 1) (sym longer))
