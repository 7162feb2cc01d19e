-- What is answered to a question for a range, by how its ballot compares with the bounds.
use Rattle.std.proofs.Common.{◌≡◌, ℕ, ◌<◌, Bool, true, false, cond, nat_lt, Option, Some, None, List, [], ◌∷◌, refl, sym, subst, ltb-true}
use Rattle.std.specs.Prelude.{find}
use Rattle.rp_base.specs.declared.record.Rec.{Rec}
use Rattle.rp_base.specs.declared.record.Rec.TheVariants.{PromisedRange}
use Rattle.rp_base.specs.declared.voting.RangeAnswer.{RangeAnswer}
use Rattle.rp_base.specs.declared.voting.RangeAnswer.TheVariants as range_prepares
use Rattle.rp_base.specs.PlacedVotes.{last_votes}
use Rattle.rp_base.specs.Ranges.{Range, positions_of}
use Rattle.rp_base.specs.Records.{bound_at}
use Rattle.rp_base.specs.Voting.{is_above_bounds, refusing_position, range_refusal, range_answer}
use Rattle.rp_acceptor.specs.declared.comparison.Comparison.{Comparison}
use Rattle.rp_acceptor.specs.declared.comparison.Comparison.TheVariants.{Above, Below, Equal}
use Rattle.rp_acceptor.specs.Comparing.{not_above, compared}

-- the answer in each case
abbrev pub answer_to : List Rec → Range → ℕ → Comparison → RangeAnswer
answer_to records range b Above = range_prepares.Promise (last_votes records range) (PromisedRange range b)
answer_to records range b (Below i bound) = range_prepares.Nack i bound
answer_to records range b Equal = range_prepares.Silent

answered_if : (records : List Rec) (range : Range) (b : ℕ) (above : Bool) (found : Option ℕ)
    → answer_to records range b (cond above Above (not_above (bound_at records) found))
    ≡ cond above (range_prepares.Promise (last_votes records range) (PromisedRange range b)) (range_refusal records found)
answered_if records range b true found = refl
answered_if records range b false None = refl
answered_if records range b false (Some i) = refl

pub answered : (records : List Rec) (range : Range) (b : ℕ) → answer_to records range b (compared (bound_at records) b (positions_of range)) ≡ range_answer records range b
answered records range b = answered_if records range b (is_above_bounds records range b) (refusing_position records range b)

above_only : (bound : ℕ → ℕ) (above : Bool) (found : Option ℕ) → Above ≡ cond above Above (not_above bound found) → above ≡ true
above_only bound true found is = refl
above_only bound false None is = absurd (cc)
above_only bound false (Some i) is = absurd (cc)

-- where the ballot is above each bound, it is so at each position
pub above_all : (records : List Rec) (range : Range) (b : ℕ) → Above ≡ compared (bound_at records) b (positions_of range) → is_above_bounds records range b ≡ true
above_all records range b is = above_only (bound_at records) (is_above_bounds records range b) (refusing_position records range b) is

-- a bound that refuses lies above the ballot
abbrev IsRefusal : ℕ → Comparison → Type 0
IsRefusal b Above = Unit {0}
IsRefusal b (Below i bound) = b < bound
IsRefusal b Equal = Unit {0}

found_here : (bound : ℕ → ℕ) (b i : ℕ) (later : Option ℕ) (here : Bool) → nat_lt b (bound i) ≡ here → IsRefusal b (not_above bound later) → IsRefusal b (not_above bound (cond here (Some i) later))
found_here bound b i later true at above = ltb-true b (bound i) at
found_here bound b i later false at above = above

found_above : (bound : ℕ → ℕ) (b : ℕ) (is : List ℕ) → IsRefusal b (not_above bound (find (λ i. nat_lt b (bound i)) is))
found_above bound b [] = tt
found_above bound b (i ∷ rest) = found_here bound b i (find (λ j. nat_lt b (bound j)) rest) (nat_lt b (bound i)) refl (found_above bound b rest)

refusal_if : (bound : ℕ → ℕ) (b : ℕ) (above : Bool) (found : Option ℕ) → IsRefusal b (not_above bound found) → IsRefusal b (cond above Above (not_above bound found))
refusal_if bound b true found is = tt
refusal_if bound b false found is = is

pub refused_below : (records : List Rec) (range : Range) (b i bound : ℕ) → Below i bound ≡ compared (bound_at records) b (positions_of range) → b < bound
refused_below records range b i bound is =
    subst (IsRefusal b) (sym is)
    (refusal_if (bound_at records) b (is_above_bounds records range b) (refusing_position records range b) (found_above (bound_at records) b (positions_of range)))
