-- The line is that of the deck.
use Rattle.std.proofs.Common.{◌≡◌, ◌∙◌, ℕ, zero, suc, ◌-◌, ◌≤◌, Option, List, map, length, ◌<◌, arith, sym, ap}
use Rattle.std.specs.Prelude.{option_map, slice_get}
use Rattle.std.proofs.lemmas.Option.{slice_get-map, slice_get-get_or}
use Rattle.rp_run.specs.rp_output.specs.Trace.{or_nothing}
use Rattle.rp_chart.specs.Causes.{line_text}
use Rattle.rp_chart.proofs.labels.line_at.Goals as goal

line_is : {A : Type 0} (f : A → List ℕ) (deck : List A) (number : ℕ) (found : Option A) → 1 ≤ number → slice_get deck (number - 1) ≡ found
    → line_text (map f deck) number ≡ or_nothing (option_map f found)
line_is f deck zero found one is = absurd (omega arith)
line_is f deck (suc place) found one is =
    let same : place ≡ suc place - 1 = omega arith in
    ap or_nothing (slice_get-map f deck place ∙ ap (λ (n : ℕ). option_map f (slice_get deck n)) same ∙ ap (option_map f) is)

pub returns : goal.returns
returns c =
    let deck = c.args.deck.now in
    let number = c.args.number in
    let one : 1 ≤ number = omega arith in
    let within : number - 1 < length deck = omega arith in
    sym (line_is (λ line. line.now) deck number _ one (slice_get-get_or deck (number - 1) _ within))
