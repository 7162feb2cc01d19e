-- Questions for what is missing, one after another.
use Rattle.std.proofs.Common.{◌≡◌, ◌≢◌, ℕ, zero, suc, ◌≤◌, None, ◌+◌, ◌-◌, ◌<◌, Bool, true, false, if◌then◌else◌, List, [], ◌∷◌, ◌++◌, refl, sym, ap, ◌∙◌, arith}
use Rattle.std.proofs.lemmas.List.{append_assoc, append-nil}
use Rattle.std.specs.Prelude.{is_none, filter}
use Rattle.std.specs.List.{range_with_len}
use Rattle.rp_base.specs.declared.record.Rec.{Rec}
use Rattle.rp_base.specs.Ranges.{Range}
use Rattle.rp_base.specs.Records.{learned_at}
use Rattle.rp_codec.specs.Message.{Message}
use Rattle.rp_codec.specs.declared.packet.Body.TheVariants.{Ask}
use Rattle.rp_model.specs.Leader.{unlearned_in}
use Rattle.rp_model.specs.Learner.{asks_for_each}
use Rattle.rp_model.specs.Says.{says}

module _ (me to : ℕ) (records : List Rec) (first count : ℕ) where
  abbrev unlearned : ℕ → Bool
  unlearned i = is_none (learned_at records i)

  -- the questions from an index on
  abbrev pub asks_from : ℕ → List Message
  asks_from index = asks_for_each me to (filter unlearned (range_with_len (first + index) (count - index)))

  module _ (index : ℕ) (within : index < count) where
    abbrev rest : List ℕ
    rest = filter unlearned (range_with_len (first + (index + 1)) (count - (index + 1)))

    next_is : asks_from index ≡ asks_for_each me to (if unlearned (first + index) then (first + index) ∷ rest else rest)
    next_is =
        let size : count - index ≡ suc (count - (index + 1)) = omega (arith, within) in
        let place : first + index + 1 ≡ first + (index + 1) = omega arith in
        ap (λ (n : ℕ). asks_for_each me to (filter unlearned (range_with_len (first + index) n))) size
        ∙ ap (λ (k : ℕ). let others = filter unlearned (range_with_len k (count - (index + 1))) in asks_for_each me to (if unlearned (first + index) then (first + index) ∷ others else others)) place

    pub asked_next : (sent all : List Message) → unlearned (first + index) ≡ true → sent ++ asks_from index ≡ all → (sent ++ says me (Ask (first + index)) to ∷ []) ++ asks_from (index + 1) ≡ all
    asked_next sent all is so =
        append_assoc sent (says me (Ask (first + index)) to ∷ []) (asks_from (index + 1))
        ∙ sym (ap (λ (ms : List Message). sent ++ ms) (next_is ∙ ap (λ (t : Bool). asks_for_each me to (if t then (first + index) ∷ rest else rest)) is)) ∙ so

    pub passed_next : (sent all : List Message) → unlearned (first + index) ≡ false → sent ++ asks_from index ≡ all → sent ++ asks_from (index + 1) ≡ all
    passed_next sent all is so = sym (ap (λ (ms : List Message). sent ++ ms) (next_is ∙ ap (λ (t : Bool). asks_for_each me to (if t then (first + index) ∷ rest else rest)) is)) ∙ so

  -- none is left
  pub asked_all : (index : ℕ) (sent all : List Message) → count - index ≡ 0 → sent ++ asks_from index ≡ all → sent ≡ all
  asked_all index sent all none so =
      sym (append-nil sent) ∙ sym (ap (λ (n : ℕ). sent ++ asks_for_each me to (filter unlearned (range_with_len (first + index) n))) none) ∙ so

-- something is asked where a range begins at an unlearned position
pub some_asked : (me to : ℕ) (records : List Rec) (range : Range) → 1 ≤ range.count → learned_at records range.first ≡ None → asks_for_each me to (unlearned_in records range) ≢ []
some_asked me to records range some none = by range.count some
  where
    by : (n : ℕ) → 1 ≤ n → asks_for_each me to (filter (λ i. is_none (learned_at records i)) (range_with_len range.first n)) ≢ []
    by zero low = absurd (omega (arith, low))
    by (suc n) low = λ is.
        let rest = filter (λ i. is_none (learned_at records i)) (range_with_len (range.first + 1) n) in
        let here : is_none (learned_at records range.first) ≡ true = ap is_none none in
        let first : asks_for_each me to (if is_none (learned_at records range.first) then range.first ∷ rest else rest) ≡ says me (Ask range.first) to ∷ asks_for_each me to rest =
        ap (λ (t : Bool). asks_for_each me to (if t then range.first ∷ rest else rest)) here in
        let none_left : says me (Ask range.first) to ∷ asks_for_each me to rest ≡ [] = sym first ∙ is in
        cc
