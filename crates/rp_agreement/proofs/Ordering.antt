-- Lists of decided actions begin one order.
use Rattle.std.proofs.Common.{◌≡◌, ℕ, zero, suc, ◌+◌, ◌<◌, Option, Some, None, List, [], ◌∷◌, ◌++◌, length, inl, inr, refl, sym, ap, ◌∙◌, subst, arith, append-nil}
use Rattle.std.specs.Prelude.{slice_get}
use Rattle.std.proofs.lemmas.Option.{slice_get_within}
use Rattle.rp_base.specs.declared.action.Action.{Action}
use Rattle.rp_base.specs.declared.record.Rec.{Rec}
use Rattle.rp_base.specs.Records.{learned_at, learned_run, unless_missing, applied_of}
use Rattle.rp_codec.specs.Message.{Message}
use Rattle.rp_model.specs.Facts.{IsDecided, IsOrder}
use Rattle.rp_model.specs.Parts.{NodePart}
use Rattle.rp_agreement.specs.Sound.{IsSound}
use Rattle.rp_agreement.specs.Order.{IsPrefix, AreAlike, AreDecided, AllSent}
use Rattle.rp_agreement.proofs.RecordGrowth.{learned_has}
use Rattle.rp_agreement.proofs.Sending.{decided_more}
use Rattle.rp_agreement.proofs.Following.{one_decided}

-- ---- what is applied is learned

run_learned : (records : List Rec) (most i k : ℕ) (v : Action) → slice_get (learned_run records most i) k ≡ Some v → learned_at records (k + i) ≡ Some v
run_learned records zero i k v e = absurd (cc)
run_learned records (suc most) i k v e = by (learned_at records i) refl k e (run_learned records most (suc i))
  where
    by : (o : Option Action) → learned_at records i ≡ o → (k : ℕ) → slice_get (unless_missing o (learned_run records most (suc i))) k ≡ Some v
        → ((k : ℕ) (v : Action) → slice_get (learned_run records most (suc i)) k ≡ Some v → learned_at records (k + suc i) ≡ Some v) → learned_at records (k + i) ≡ Some v
    by None is k e later = absurd (cc)
    by (Some found) is zero e later = let same : i ≡ 0 + i = omega arith in subst (λ (j : ℕ). learned_at records j ≡ Some v) same (is ∙ e)
    by (Some found) is (suc k) e later = let same : k + suc i ≡ suc k + i = omega arith in subst (λ (j : ℕ). learned_at records j ≡ Some v) same (later k v e)

-- ---- lists of which every item is determined

-- Where no two different actions may be at a place, one list is a prefix of the other.
alike : (P : ℕ → Action → Type 0) → ((k : ℕ) (v w : Action) → P k v → P k w → v ≡ w) → (xs ys : List Action)
    → ((k : ℕ) (v : Action) → slice_get xs k ≡ Some v → P k v) → ((k : ℕ) (v : Action) → slice_get ys k ≡ Some v → P k v) → AreAlike xs ys
alike P one [] ys left right = inl (ys, refl)
alike P one (x ∷ xs) [] left right = inr (x ∷ xs, refl)
alike P one (x ∷ xs) (y ∷ ys) left right =
    let same : x ≡ y = one zero x y (left zero x refl) (right zero y refl) in
    elim (alike (λ k. P (suc k)) (λ k. one (suc k)) xs ys (λ k. left (suc k)) (λ k. right (suc k))) [
      | inl begins ↦ inl (begins.0, λ k. sym same k ∷ begins.1 k)
      | inr begins ↦ inr (begins.0, λ k. same k ∷ begins.1 k)
    ]

get_after : (xs : List Action) (v : Action) (rest : List Action) → slice_get (xs ++ v ∷ rest) (length xs) ≡ Some v
get_after [] v rest = refl
get_after (x ∷ xs) v rest = get_after xs v rest

-- a list that the other begins, where nothing follows the other
no_more : (xs ys : List Action) → IsPrefix xs ys → ((v : Action) → ¬ (slice_get ys (length xs) ≡ Some v)) → ys ≡ xs
no_more xs ys begins none = by begins.0 begins.1
  where
    by : (rest : List Action) → ys ≡ xs ++ rest → ys ≡ xs
    by [] e = e ∙ append-nil xs
    by (v ∷ rest) e = absurd (none v (ap (λ (list : List Action). slice_get list (length xs)) e ∙ get_after xs v rest))

module _ {nodes : ℕ} {node : ℕ → NodePart} {sent : List Message} (sound : IsSound nodes node sent) where
  -- of two lists of decided actions one is a prefix of the other
  pub decided_alike : (xs ys : List Action) → AreDecided nodes sent xs → AreDecided nodes sent ys → AreAlike xs ys
  decided_alike xs ys left right = alike (λ k. IsDecided nodes sent (suc k)) (λ k. one_decided sound (suc k)) xs ys left right

  -- a list of decided actions begins the order
  pub decided_begins : (xs order : List Action) → AreDecided nodes sent xs → IsOrder nodes sent order → IsPrefix xs order
  decided_begins xs order decided is =
      elim (decided_alike xs order decided is.decided) [
        | inl begins ↦ begins
        | inr begins ↦ ([], sym (no_more order xs begins (λ v e. is.longest v (decided (length order) v e))) ∙ sym (append-nil xs))
      ]

  -- the order is one
  pub one_order : (xs ys : List Action) → IsOrder nodes sent xs → IsOrder nodes sent ys → xs ≡ ys
  one_order xs ys left right =
      let begins = decided_begins xs ys left.decided right in
      sym (no_more xs ys begins (λ v e. left.longest v (right.decided (length xs) v e)))

  -- what a node applied is decided
  pub applied_decided : (x : ℕ) → AreDecided nodes sent (applied_of (node x).records)
  applied_decided x k v e =
      let records = (node x).records in
      let same : k + 1 ≡ suc k = omega arith in
      sound.learned x (suc k) v (learned_has records (suc k) v (subst (λ (n : ℕ). learned_at records n ≡ Some v) same (run_learned records (length records) 1 k v e)))

-- ---- at a later moment

pub all_decided_stays : (nodes : ℕ) (sent later : List Message) (xs : List Action) → AllSent sent later → AreDecided nodes sent xs → AreDecided nodes later xs
all_decided_stays nodes sent later xs all decided k v e = decided_more nodes sent later all (suc k) v (decided k v e)

-- what two nodes applied, the second one seen at a later moment
pub applied_alike : (nodes : ℕ) (node after : ℕ → NodePart) (sent later : List Message) → IsSound nodes node sent → IsSound nodes after later → AllSent sent later
    → (x y : ℕ) → AreAlike (applied_of (node x).records) (applied_of (after y).records)
applied_alike nodes node after sent later before now all x y =
    let xs = applied_of (node x).records in
    decided_alike now xs (applied_of (after y).records) (all_decided_stays nodes sent later xs all (applied_decided before x)) (applied_decided now y)

-- equally long lists of which one is a prefix of the other are equal
begins_equal : (xs ys : List Action) → IsPrefix xs ys → length xs ≡ length ys → ys ≡ xs
begins_equal xs ys begins long = no_more xs ys begins (λ v e. let within : length xs < length ys = slice_get_within ys (length xs) v e in omega (arith, within, long))

pub alike_equal : (xs ys : List Action) → AreAlike xs ys → length xs ≡ length ys → xs ≡ ys
alike_equal xs ys same long = elim same [ inl begins ↦ sym (begins_equal xs ys begins long) | inr begins ↦ begins_equal ys xs begins (sym long) ]
