-- Packets by their numbers: those that were sent keep them, and one to each node has the node's.
use Rattle.std.proofs.Common.{◌≡◌, ℕ, zero, suc, ◌+◌, ◌<◌, ◌≤◌, Some, List, [], ◌∷◌, ◌++◌, length, map, inl, inr, sym, ap, ◌∙◌, arith}
use Rattle.std.proofs.lemmas.List.{map-append, length-map}
use Rattle.std.proofs.lemmas.Bool.{cases_eq}
use Rattle.std.specs.Prelude.{slice_get}
use Rattle.rp_model.specs.rp_codec.specs.declared.packet.Body.{Body}
use Rattle.rp_model.specs.rp_codec.specs.Message.{Message}
use Rattle.rp_model.specs.rp_machine.specs.Replay.{one_to}
use Rattle.rp_model.specs.rp_machine.proofs.Numbering.{length-one_to}
use Rattle.rp_model.specs.Says.{says, says_to_all}
use Rattle.rp_model.specs.World.{part_at}

get_stays : {A : Type 0} (xs more : List A) (k : ℕ) (a : A) → slice_get xs k ≡ Some a → slice_get (xs ++ more) k ≡ Some a
get_stays [] more k a is = absurd (cc)
get_stays (x ∷ xs) more zero a is = is
get_stays (x ∷ xs) more (suc k) a is = get_stays xs more k a is

get_beyond : {A : Type 0} (xs ys : List A) (k : ℕ) → slice_get (xs ++ ys) (length xs + k) ≡ slice_get ys k
get_beyond [] ys k = let here : 0 + k ≡ k = omega arith in ap (slice_get ys) here
get_beyond (x ∷ xs) ys k = let here : suc (length xs) + k ≡ suc (length xs + k) = omega arith in ap (slice_get (x ∷ xs ++ ys)) here ∙ get_beyond xs ys k

-- what was sent keeps its number
pub part_stays : {A : Type 0} (xs more : List A) (number : ℕ) (a : A) → part_at xs number ≡ Some a → part_at (xs ++ more) number ≡ Some a
part_stays xs more zero a is = absurd (cc)
part_stays xs more (suc k) a is = get_stays xs more k a is

pub part_beyond : {A : Type 0} (xs ys : List A) (k : ℕ) → part_at (xs ++ ys) (length xs + suc k) ≡ part_at ys (suc k)
part_beyond xs ys k = let here : length xs + suc k ≡ suc (length xs + k) = omega arith in ap (part_at (xs ++ ys)) here ∙ get_beyond xs ys k

-- the last one
pub part_last : {A : Type 0} (xs : List A) (a : A) → part_at (xs ++ a ∷ []) (suc (length xs)) ≡ Some a
part_last xs a = let here : suc (length xs) ≡ length xs + 1 = omega arith in ap (part_at (xs ++ a ∷ [])) here ∙ part_beyond xs (a ∷ []) 0

module _ {A : Type 0} (f : ℕ → A) where
  each_get : (n k : ℕ) → k < n → slice_get (map f (one_to n)) k ≡ Some (f (suc k))
  each_get zero k below = absurd (omega (arith, below))
  each_get (suc n) k below =
      let long : length (map f (one_to n)) ≡ n = simp (length-map, length-one_to) in
      ap (λ (l : List A). slice_get l k) (map-append f (one_to n) (suc n ∷ [])) ∙
      elim (cases_eq k n) as (λ _. slice_get (map f (one_to n) ++ f (suc n) ∷ []) k ≡ Some (f (suc k))) [
        | inl last ↦
            let here : k ≡ length (map f (one_to n)) + 0 = omega (arith, last, long) in
            ap (slice_get (map f (one_to n) ++ f (suc n) ∷ [])) here ∙ get_beyond (map f (one_to n)) (f (suc n) ∷ []) 0 ∙ ap (λ (m : ℕ). Some (f (suc m))) (sym last)
        | inr other ↦ get_stays (map f (one_to n)) (f (suc n) ∷ []) k (f (suc k)) (each_get n k (omega (arith, below, other)))
      ]

-- the packet to a node among those to all
pub said_to : (sent : List Message) (nodes me : ℕ) (body : Body) (y : ℕ) → 1 ≤ y → y ≤ nodes → part_at (sent ++ says_to_all nodes me body) (length sent + y) ≡ Some (says me body y)
said_to sent nodes me body zero low high = absurd (omega (arith, low))
said_to sent nodes me body (suc k) low high =
    part_beyond sent (says_to_all nodes me body) k ∙ each_get (says me body) nodes k (omega (arith, high))
