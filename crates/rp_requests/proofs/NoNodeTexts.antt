-- Bytes that are no text of a request to a node.
use Rattle.std.proofs.Common.{◌≡◌, ◌≢◌, ◌⊎◌, inl, inr, ◌<◌, ◌≤◌, ℕ, Bool, true, false, cond, ◌&&◌, List, [], ◌∷◌, length, Option, Some, None, refl, ◌∙◌, ap, arith}
use Rattle.std.specs.Prelude.{nat_le, ◌==◌}
use Rattle.std.specs.Int.{w32, from_be_bytes}
use Rattle.std.proofs.lemmas.Bool.{ne_eqb}
use Rattle.std.proofs.lemmas.Bool.Decides.{nat_tests}
use Rattle.rp_model.specs.Effect as inputs
use Rattle.rp_requests.specs.Requests.{Asked, Applied, Image, LastAnswer, Left, Pending, Counted, Occurred, given, question_asked, asked_of_kind, asked_of}

-- a number that is 0 or above a bound is not from 1 to it
pub outside : (n most : ℕ) → (n ≡ 0) ⊎ (most < n) → (nat_le 1 n && nat_le n most) ≡ false
outside n most (inl none) =
    let low : nat_le 1 n ≡ false = grind (arith, nat_tests, none) in
    ap (λ (b : Bool). b && nat_le n most) low
outside n most (inr over) =
    let high : nat_le n most ≡ false = grind (arith, nat_tests, over) in
    ap (λ (b : Bool). nat_le 1 n && b) high ∙ elim (nat_le 1 n) as (λ b. (b && false) ≡ false) [ true ↦ refl | false ↦ refl ]

pub lead : (operands : List ℕ) → length operands ≢ 0 → length operands ≢ 2 → asked_of (2 ∷ operands) ≡ None
unfolding asked_of asked_of_kind
lead [] some two = absurd (some refl)
lead (a ∷ []) some two = refl
lead (a ∷ b ∷ []) some two = absurd (two refl)
lead (a ∷ b ∷ c ∷ rest) some two = refl

pub interrupt : (operands : List ℕ) → length operands ≢ 5 → asked_of (3 ∷ operands) ≡ None
unfolding asked_of asked_of_kind
interrupt [] other = refl
interrupt (a ∷ []) other = refl
interrupt (a ∷ b ∷ []) other = refl
interrupt (a ∷ b ∷ c ∷ []) other = refl
interrupt (a ∷ b ∷ c ∷ d ∷ []) other = refl
interrupt (a ∷ b ∷ c ∷ d ∷ e ∷ []) other = absurd (other refl)
interrupt (a ∷ b ∷ c ∷ d ∷ e ∷ f ∷ rest) other = refl

pub tick : (operands : List ℕ) → length operands ≢ 4 → asked_of (4 ∷ operands) ≡ None
unfolding asked_of asked_of_kind
tick [] other = refl
tick (a ∷ []) other = refl
tick (a ∷ b ∷ []) other = refl
tick (a ∷ b ∷ c ∷ []) other = refl
tick (a ∷ b ∷ c ∷ d ∷ []) other = absurd (other refl)
tick (a ∷ b ∷ c ∷ d ∷ e ∷ rest) other = refl

pub report : (operands : List ℕ) → length operands ≢ 2 → asked_of (5 ∷ operands) ≡ None
unfolding asked_of asked_of_kind
report [] other = refl
report (a ∷ []) other = refl
report (a ∷ b ∷ []) other = absurd (other refl)
report (a ∷ b ∷ c ∷ rest) other = refl

pub range : (operands : List ℕ) → length operands ≢ 3 → asked_of (6 ∷ operands) ≡ None
unfolding asked_of asked_of_kind
range [] other = refl
range (a ∷ []) other = refl
range (a ∷ b ∷ []) other = refl
range (a ∷ b ∷ c ∷ []) other = absurd (other refl)
range (a ∷ b ∷ c ∷ d ∷ rest) other = refl

pub ask : (operands : List ℕ) → length operands ≢ 1 → asked_of (7 ∷ operands) ≡ None
unfolding asked_of asked_of_kind
ask [] other = refl
ask (a ∷ []) other = absurd (other refl)
ask (a ∷ b ∷ rest) other = refl

pub counted : (operands : List ℕ) → length operands ≢ 1 → asked_of (21 ∷ operands) ≡ None
unfolding asked_of asked_of_kind
counted [] other = refl
counted (a ∷ []) other = absurd (other refl)
counted (a ∷ b ∷ rest) other = refl

pub occurred : (operands : List ℕ) → length operands ≢ 1 → asked_of (22 ∷ operands) ≡ None
unfolding asked_of asked_of_kind
occurred [] other = refl
occurred (a ∷ []) other = absurd (other refl)
occurred (a ∷ b ∷ rest) other = refl

pub source : (number a b c d : ℕ) → (number ≡ 0) ⊎ (8 < number) → asked_of (3 ∷ number ∷ a ∷ b ∷ c ∷ d ∷ []) ≡ None
unfolding asked_of asked_of_kind
source number a b c d none =
    let occurrence : ℕ = from_be_bytes w32 (a ∷ b ∷ c ∷ d ∷ []) in
    ap (λ (t : Bool). cond {A = Option Asked} (t && nat_le 1 occurrence) (given (inputs.NodeInput.Interrupt number occurrence)) None) (outside number 8 none)

pub node : (number : ℕ) → (number ≡ 0) ⊎ (7 < number) → asked_of (7 ∷ number ∷ []) ≡ None
unfolding asked_of asked_of_kind
node number none = ap (λ (t : Bool). cond {A = Option Asked} t (given (inputs.NodeInput.Ask number)) None) (outside number 7 none)

pub task : (number : ℕ) → (number ≡ 0) ⊎ (8 < number) → asked_of (21 ∷ number ∷ []) ≡ None
unfolding asked_of asked_of_kind
task number none = ap (λ (t : Bool). cond {A = Option Asked} t (Some (Counted number)) None) (outside number 8 none)

pub source_asked : (number : ℕ) → (number ≡ 0) ⊎ (8 < number) → asked_of (22 ∷ number ∷ []) ≡ None
unfolding asked_of asked_of_kind
source_asked number none = ap (λ (t : Bool). cond {A = Option Asked} t (Some (Occurred number)) None) (outside number 8 none)

-- no bytes ask for nothing
pub empty_is : asked_of [] ≡ None
unfolding asked_of
empty_is = refl

-- what is asked for by a kind, where the tests of the kind have these results
abbrev tested : Option Asked → Bool → Option Asked → Option Asked
tested found is other = cond {A = Option Asked} is found other

-- none of the tests of a question's kind is true
module _ (kind : ℕ) where
  none_asked : (operands : List ℕ) → ((n : ℕ) → 16 ≤ n → n ≤ 20 → (kind == n) ≡ false) → question_asked kind operands ≡ None
  none_asked (a ∷ rest) apart = refl
  none_asked [] apart =
      ap (λ b. tested (Some Applied) b (tested (Some Image) (kind == 17) (tested (Some LastAnswer) (kind == 18) (tested (Some Left) (kind == 19) (tested (Some Pending) (kind == 20) None))))) (apart 16 (omega arith) (omega arith))
      ∙ ap (λ b. tested (Some Image) b (tested (Some LastAnswer) (kind == 18) (tested (Some Left) (kind == 19) (tested (Some Pending) (kind == 20) None)))) (apart 17 (omega arith) (omega arith))
      ∙ ap (λ b. tested (Some LastAnswer) b (tested (Some Left) (kind == 19) (tested (Some Pending) (kind == 20) None))) (apart 18 (omega arith) (omega arith))
      ∙ ap (λ b. tested (Some Left) b (tested (Some Pending) (kind == 20) None)) (apart 19 (omega arith) (omega arith))
      ∙ ap (λ b. tested (Some Pending) b None) (apart 20 (omega arith) (omega arith))

  -- the other kinds are passed over
  passes : (operands : List ℕ) → ((n : ℕ) → 1 ≤ n → n ≤ 7 → (kind == n) ≡ false) → (kind == 21) ≡ false → (kind == 22) ≡ false → asked_of (kind ∷ operands) ≡ question_asked kind operands
  unfolding asked_of asked_of_kind
  passes operands apart last one_more = simp (apart 1 (omega arith) (omega arith), apart 2 (omega arith) (omega arith), apart 3 (omega arith) (omega arith), apart 4 (omega arith) (omega arith), apart 5 (omega arith) (omega arith), apart 6 (omega arith) (omega arith), apart 7 (omega arith) (omega arith), last, one_more)

pub kinds : (kind : ℕ) → (kind ≡ 0) ⊎ ((7 < kind) × (kind < 16)) ⊎ (22 < kind) → (operands : List ℕ) → asked_of (kind ∷ operands) ≡ None
kinds kind none operands =
    passes kind operands (λ n low high. ne_eqb kind n (λ same. low_apart n low high same none)) (ne_eqb kind 21 (λ same. high_apart 21 (omega arith) (omega arith) same none)) (ne_eqb kind 22 (λ same. high_apart 22 (omega arith) (omega arith) same none))
    ∙ none_asked kind operands (λ n low high. ne_eqb kind n (λ same. high_apart n low (omega (arith, high)) same none))
  where
    low_apart : (n : ℕ) → 1 ≤ n → n ≤ 7 → kind ≡ n → (kind ≡ 0) ⊎ ((7 < kind) × (kind < 16)) ⊎ (22 < kind) → ⊥
    low_apart n low high same (inl zero) = omega arith
    low_apart n low high same (inr (inl between)) = omega (arith, between.0)
    low_apart n low high same (inr (inr above)) = omega arith

    high_apart : (n : ℕ) → 16 ≤ n → n ≤ 22 → kind ≡ n → (kind ≡ 0) ⊎ ((7 < kind) × (kind < 16)) ⊎ (22 < kind) → ⊥
    high_apart n low high same (inl zero) = omega arith
    high_apart n low high same (inr (inl between)) = omega (arith, between.1)
    high_apart n low high same (inr (inr above)) = omega arith

pub questions : (kind more : ℕ) (rest : List ℕ) → 16 ≤ kind → kind ≤ 20 → asked_of (kind ∷ more ∷ rest) ≡ None
questions kind more rest low high = passes kind (more ∷ rest) (λ n above below. ne_eqb kind n (λ same. omega arith)) (ne_eqb kind 21 (λ same. omega arith)) (ne_eqb kind 22 (λ same. omega arith))
