-- A node's steps as an acceptor are sound.
use Rattle.std.proofs.Common.{◌≡◌, ℕ, zero, suc, ◌+◌, ◌<◌, ◌≤◌, Bool, true, arith, cond, Option, Some, None, List, [], ◌∷◌, ◌++◌, inl, inr, refl, sym, subst}
use Rattle.std.specs.Prelude.{nat_lt, nat_le, nat_eq}
use Rattle.std.proofs.lemmas.Bool.{cases_Bool, cases_eq, cond-true, cond-false, eqb-true, leb-true, ltb-true, ltb-false, and_parts}
use Rattle.rp_base.specs.declared.action.Action.{Action}
use Rattle.rp_base.specs.declared.record.Vote.{Vote}
use Rattle.rp_base.specs.declared.record.Rec.{Rec}
use Rattle.rp_base.specs.declared.record.Rec.TheVariants.{Promised, Voted, PromisedRange}
use Rattle.rp_base.specs.declared.voting.AcceptAnswer.{AcceptAnswer}
use Rattle.rp_base.specs.declared.voting.AcceptAnswer.TheVariants as accepts
use Rattle.rp_base.specs.PlacedVotes.{last_votes}
use Rattle.rp_base.specs.Ranges.{Range, end_of, is_covered}
use Rattle.rp_agreement.specs.Justified.{Reports}
use Rattle.rp_base.specs.Action.{same_action}
use Rattle.rp_base.specs.Sets.{Has}
use Rattle.rp_base.specs.Records.{bound_at, last_vote_at}
use Rattle.rp_base.proofs.Sameness.{action_decides}
use Rattle.rp_base.proofs.Members.{has_right}
use Rattle.rp_base.proofs.ReportedVotes.{covered_votes}
use Rattle.std.specs.List.{list_all, range_with_len}
use Rattle.rp_codec.specs.Message.{Message}
use Rattle.rp_codec.specs.declared.packet.Body.{Body}
use Rattle.rp_codec.specs.declared.packet.Body.TheVariants as bodies
use Rattle.rp_agreement.specs.Sound.{IsSo}
use Rattle.rp_agreement.proofs.RecordGrowth.{reports, range_reports, last_cast}
use Rattle.rp_agreement.proofs.Turns.{IsOffer, IsPlain, one_plain}
use Rattle.rp_model.specs.Says.{says}
use Rattle.rp_base.specs.Voting.{is_above_bounds, accept_answer, vote_answer}
use Rattle.rp_base.specs.Action.{same_action}

-- one packet to one node
pub one_said : (nodes x : ℕ) (sent : List Message) (records : List Rec) (body : Body) (to : ℕ) → IsSo nodes sent records body → (¬ IsOffer body)
    → (m : Message) → Has m (says x body to ∷ []) → IsPlain nodes x sent records m
one_said nodes x sent records body to so none =
    one_plain nodes x sent records (says x body to) (record { from = refl; so = so; no_offer = none })

-- ---- promises

-- a promise is so
pub promise_is_so : (nodes : ℕ) (sent : List Message) (records : List Rec) (i b : ℕ) (last : Option Vote) → last_vote_at records i ≡ last → bound_at records i < b
    → IsSo nodes sent (records ++ Promised i b ∷ []) (bodies.Promise i b last)
promise_is_so nodes sent records i b last is above =
    subst (λ (o : Option Vote). IsSo nodes sent (records ++ Promised i b ∷ []) (bodies.Promise i b o)) is
    (has_right (Promised i b) records (Promised i b ∷ []) (inl refl), reports records i b above)

all_within : (test : ℕ → Bool) (first n i : ℕ) → list_all test (range_with_len first n) ≡ true → first ≤ i → i < first + n → test i ≡ true
all_within test first zero i all from below = absurd (omega (arith, from, below))
all_within test first (suc n) i all from below =
    let both = and_parts (test first) (list_all test (range_with_len (first + 1) n)) all in
    elim (cases_eq first i) [
      | inl same ↦ subst (λ (k : ℕ). test k ≡ true) same both.0
      | inr other ↦ all_within test (first + 1) n i both.1 (omega (arith, from, other)) (omega (arith, below))
    ]

-- the ballot is above the bound at each position of the range
above_each : (records : List Rec) (range : Range) (b i : ℕ) → is_above_bounds records range b ≡ true → is_covered range i ≡ true → bound_at records i < b
above_each records range b i all covered =
    let within = and_parts (nat_le range.first i) (nat_lt i (end_of range)) covered in
    ltb-true (bound_at records i) b
    (all_within (λ k. nat_lt (bound_at records k) b) range.first range.count i all (leb-true range.first i within.0) (ltb-true i (end_of range) within.1))

-- a promise for a range is so
pub range_is_so : (nodes : ℕ) (sent : List Message) (records : List Rec) (range : Range) (b : ℕ) → is_above_bounds records range b ≡ true
    → IsSo nodes sent (records ++ PromisedRange range b ∷ []) (bodies.PromiseRange range b (last_votes records range))
range_is_so nodes sent records range b above = (
  has_right (PromisedRange range b) records (PromisedRange range b ∷ []) (inl refl),
  λ i covered. subst (λ (o : Option Vote). Reports (records ++ PromisedRange range b ∷ []) i b o) (sym (covered_votes records range i covered))
      (range_reports records range i b covered (above_each records range b i above covered)),
)

-- ---- votes

abbrev pub AllowsVote : List Rec → ℕ → ℕ → Action → AcceptAnswer → Type 0
AllowsVote records i b v (accepts.Vote rec) = (rec ≡ Voted i b v) × (bound_at records i ≤ b)
AllowsVote records i b v accepts.Again = Has (Voted i b v) records
AllowsVote records i b v (accepts.Nack bound) = Unit {0}
AllowsVote records i b v accepts.Silent = Unit {0}

last_allowed : (records : List Rec) (i b : ℕ) (v : Action) (last : Option Vote) → last_vote_at records i ≡ last → bound_at records i ≤ b
    → AllowsVote records i b v (vote_answer i b v last)
last_allowed records i b v None is above = (refl, above)
last_allowed records i b v (Some last) is above =
    let inner = cond (same_action last.action v) accepts.Again accepts.Silent in
    let vote = accepts.Vote (Voted i b v) in
    elim (cases_Bool (nat_eq last.ballot b)) [
      | inl same ↦ subst (AllowsVote records i b v) (sym (cond-true (nat_eq last.ballot b) inner vote same))
          (elim (cases_Bool (same_action last.action v)) [
            | inl equal ↦ subst (AllowsVote records i b v) (sym (cond-true (same_action last.action v) accepts.Again accepts.Silent equal))
                (subst (λ (w : Action). Has (Voted i b w) records) ((action_decides last.action v).0 equal)
                (subst (λ (c : ℕ). Has (Voted i c last.action) records) (eqb-true last.ballot b same) (last_cast records i last is)))
            | inr differs ↦ subst (AllowsVote records i b v) (sym (cond-false (same_action last.action v) accepts.Again accepts.Silent differs)) tt
          ])
      | inr other ↦ subst (AllowsVote records i b v) (sym (cond-false (nat_eq last.ballot b) inner vote other)) (refl, above)
    ]

pub vote_allowed : (records : List Rec) (i b : ℕ) (v : Action) → AllowsVote records i b v (accept_answer records i b v)
vote_allowed records i b v =
    let low = accepts.Nack (bound_at records i) in
    let rest = vote_answer i b v (last_vote_at records i) in
    elim (cases_Bool (nat_lt b (bound_at records i))) [
      | inl below ↦ subst (AllowsVote records i b v) (sym (cond-true (nat_lt b (bound_at records i)) low rest below)) tt
      | inr above ↦ subst (AllowsVote records i b v) (sym (cond-false (nat_lt b (bound_at records i)) low rest above))
          (last_allowed records i b v (last_vote_at records i) refl (ltb-false b (bound_at records i) above))
    ]
