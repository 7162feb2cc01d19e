-- What is applied stays applied when records are added.
use Rattle.std.proofs.Common.{◌≡◌, ℕ, zero, suc, ◌≤◌, Option, Some, None, List, [], ◌∷◌, ◌++◌, length, refl, ap, ◌∙◌, arith}
use Rattle.rp_base.specs.declared.action.Action.{Action}
use Rattle.rp_base.specs.declared.record.Rec.{Rec}
use Rattle.rp_base.specs.Records.{or_else, learned_in, learned_at, learned_run, unless_missing, applied_of}

-- what is learned stays learned
learned_stays : (records more : List Rec) (i : ℕ) (action : Action) → learned_at records i ≡ Some action → learned_at (records ++ more) i ≡ Some action
learned_stays [] more i action here = absurd cc
learned_stays (rec ∷ rest) more i action here = by (learned_in i rec) here (learned_stays rest more i action)
  where
    by : (found : Option Action) → or_else found (learned_at rest i) ≡ Some action → (learned_at rest i ≡ Some action → learned_at (rest ++ more) i ≡ Some action)
        → or_else found (learned_at (rest ++ more) i) ≡ Some action
    by (Some v) here stays = here
    by None here stays = stays here

-- a run begins the longer one
run_grows : (records more : List Rec) (most fuel i : ℕ) → most ≤ fuel → (further : List Action) × (learned_run (records ++ more) fuel i ≡ learned_run records most i ++ further)
run_grows records more zero fuel i le = (learned_run (records ++ more) fuel i, refl)
run_grows records more (suc most) zero i le = absurd (omega arith)
run_grows records more (suc most) (suc fuel) i le = by (learned_at records i) refl (run_grows records more most fuel (suc i) (omega arith))
  where
    by : (o : Option Action) → learned_at records i ≡ o
        → ((further : List Action) × (learned_run (records ++ more) fuel (suc i) ≡ learned_run records most (suc i) ++ further))
        → (further : List Action) × (unless_missing (learned_at (records ++ more) i) (learned_run (records ++ more) fuel (suc i)) ≡ unless_missing o (learned_run records most (suc i)) ++ further)
    by None e rest = (unless_missing (learned_at (records ++ more) i) (learned_run (records ++ more) fuel (suc i)), refl)
    by (Some action) e rest = (
      rest.0,
      ap (λ (o : Option Action). unless_missing o (learned_run (records ++ more) fuel (suc i))) (learned_stays records more i action e)
          ∙ ap (λ (list : List Action). action ∷ list) rest.1,
    )

length_more : (records more : List Rec) → length records ≤ length (records ++ more)
length_more [] more = omega arith
length_more (r ∷ records) more = let rest = length_more records more in omega arith

-- the applied list begins the one of more records
pub applied_more : (records more : List Rec) → (further : List Action) × (applied_of (records ++ more) ≡ applied_of records ++ further)
applied_more records more = run_grows records more (length records) (length (records ++ more)) 1 (length_more records more)
