-- A position at which no node of a majority voted is not decided, and no node has learned it.
use Rattle.std.proofs.Common.{◌≡◌, ℕ, zero, suc, ◌+◌, ◌<◌, ◌≤◌, ◌⊎◌, Option, Some, None, List, [], ◌∷◌, ◌++◌, length, inl, inr, refl, sym, subst, ◌∙◌, arith}
use Rattle.std.specs.Prelude.{slice_get}
use Rattle.std.proofs.lemmas.Bool.Decides.{leb_tells}
use Rattle.rp_base.specs.Majority.{AreNodes, majority_of}
use Rattle.rp_base.specs.Records.{applied_of, first_unlearned, last_vote_at}
use Rattle.rp_base.specs.Sets.{Has}
use Rattle.rp_base.specs.declared.action.Action.{Action}
use Rattle.rp_base.specs.declared.record.Rec.{Rec}
use Rattle.rp_base.specs.declared.record.Rec.TheVariants.{Voted}
use Rattle.rp_base.specs.declared.record.Vote.{Vote}
use Rattle.rp_codec.specs.Message.{Message}
use Rattle.rp_model.specs.Facts.{IsDecided}
use Rattle.rp_model.specs.Parts.{NodePart}
use Rattle.rp_agreement.specs.Sound.{IsSound}
use Rattle.rp_base.proofs.SetsIntersect.{sets_intersect}
use Rattle.rp_agreement.proofs.Following.{decided_cast}
use Rattle.rp_agreement.proofs.Ordering.{applied_decided}
use Rattle.rp_agreement.proofs.RecordGrowth.{last_cast, last_covers}
use Rattle.rp_model.specs.World.{World}
use Rattle.rp_progress.specs.Waiting.{IsUnvoted, records_in}
use Rattle.std.proofs.lemmas.Bool.{cases_eq}

pub get_there : {A : Type 0} (xs : List A) (k : ℕ) → k < length xs → (x : A) × (slice_get xs k ≡ Some x)
get_there [] k less = absurd (omega (arith, less))
get_there (x ∷ xs) zero less = (x, refl)
get_there (x ∷ xs) (suc k) less = get_there xs k (omega (arith, less))

pub get_after : {A : Type 0} (xs : List A) (v : A) (rest : List A) → slice_get (xs ++ v ∷ rest) (length xs) ≡ Some v
get_after [] v rest = refl
get_after (x ∷ xs) v rest = get_after xs v rest

module _ {nodes : ℕ} {node : ℕ → NodePart} {sent : List Message} (sound : IsSound nodes node sent) where
  -- a position at which no node of a majority voted is not applied
  pub unvoted_unapplied : (quorum : List ℕ) → AreNodes nodes quorum → majority_of nodes ≤ length quorum → (i : ℕ) → ((y b : ℕ) (v : Action) → Has y quorum → ¬ Has (Voted i b v) (node y).records)
      → (v : Action) → ¬ IsDecided nodes sent i v
  unvoted_unapplied quorum members majority i unvoted v decided =
      let cast = decided_cast sound i v decided in
      let shared = sets_intersect nodes cast.voters quorum cast.members.distinct members.distinct cast.members.members members.members (omega (arith, cast.majority, majority)) in
      unvoted shared.0 decided.ballot v shared.2 (cast.voted shared.0 shared.1)

  pub unlearned_below : (quorum : List ℕ) → AreNodes nodes quorum → majority_of nodes ≤ length quorum → (i : ℕ) → 1 ≤ i → ((y b : ℕ) (v : Action) → Has y quorum → ¬ Has (Voted i b v) (node y).records)
      → (x : ℕ) → first_unlearned (node x).records ≤ i
  unlearned_below quorum members majority zero low unvoted x = absurd (omega (arith, low))
  unlearned_below quorum members majority (suc k) low unvoted x =
      elim (leb_tells (first_unlearned (node x).records) (suc k)) [
        | inl within ↦ within.1
        | inr beyond ↦
            let far : suc k < first_unlearned (node x).records = beyond.1 in
            let some = get_there (applied_of (node x).records) k (omega (arith, far)) in
            absurd (unvoted_unapplied quorum members majority (suc k) unvoted some.0 (applied_decided sound x k some.0 some.1))
      ]

-- ---- votes

pub no_last : (records : List Rec) (i : ℕ) → ((b : ℕ) (v : Action) → ¬ Has (Voted i b v) records) → last_vote_at records i ≡ None
no_last records i none = by (last_vote_at records i) refl
  where
    by : (o : Option Vote) → last_vote_at records i ≡ o → last_vote_at records i ≡ None
    by None is = is
    by (Some vote) is = absurd (none vote.ballot vote.action (last_cast records i vote is))

pub no_vote : (records : List Rec) (i : ℕ) → last_vote_at records i ≡ None → (b : ℕ) (v : Action) → ¬ Has (Voted i b v) records
no_vote records i none b v has =
    let last = last_covers records i b v has in
    absurd (let e : None ≡ Some last.0 = sym none ∙ last.1 in cc)

-- ---- whether a position is left

module _ (w : World) where
  unvoted_or_not : (ys : List ℕ) (i : ℕ) → IsUnvoted (records_in w) ys i ⊎ (¬ IsUnvoted (records_in w) ys i)
  unvoted_or_not [] i = inl (λ y b v h. absurd h)
  unvoted_or_not (y ∷ ys) i = by (last_vote_at (records_in w y) i) refl (unvoted_or_not ys i)
    where
      by : (o : Option Vote) → last_vote_at (records_in w y) i ≡ o → IsUnvoted (records_in w) ys i ⊎ (¬ IsUnvoted (records_in w) ys i) → IsUnvoted (records_in w) (y ∷ ys) i ⊎ (¬ IsUnvoted (records_in w) (y ∷ ys) i)
      by (Some vote) is others = inr (λ all. all y vote.ballot vote.action (inl refl) (last_cast (records_in w y) i vote is))
      by None is (inr some) = inr (λ all. some (λ z b v h. all z b v (inr h)))
      by None is (inl others) = inl (λ z b v h. elim h [
        | inl same ↦ subst (λ (u : ℕ). ¬ Has (Voted i b v) (records_in w u)) (sym same) (no_vote (records_in w y) i is b v)
        | inr later ↦ others z b v later
      ])

  -- among n positions from one on
  pub some_unvoted : (quorum : List ℕ) (n p : ℕ) → ((i : ℕ) × (p ≤ i) × (i < p + n) × IsUnvoted (records_in w) quorum i) ⊎ ((i : ℕ) → p ≤ i → i < p + n → ¬ IsUnvoted (records_in w) quorum i)
  some_unvoted quorum zero p = inr (λ i low high all. absurd (omega (arith, low, high)))
  some_unvoted quorum (suc n) p =
      elim (unvoted_or_not quorum (p + n)) [
        | inl all ↦ inl (p + n, omega arith, omega arith, all)
        | inr some ↦ elim (some_unvoted quorum n p) [
          | inl found ↦ inl (found.0, found.1, omega (arith, found.2), found.3)
          | inr none ↦ inr (λ i low high. elim (cases_eq i (p + n)) [
            | inl same ↦ subst (λ (k : ℕ). ¬ IsUnvoted (records_in w) quorum k) (sym same) some
            | inr other ↦ none i low (omega (arith, high, other))
          ])
        ]
      ]
