-- Where no tick was taken, none like a pending one was; and items that all stay.
use Rattle.std.proofs.Common.{◌≡◌, ℕ, Bool, true, false, ◌||◌, not, List, [], ◌∷◌, ◌∙◌, refl, ap}
use Rattle.std.specs.Prelude.{filter}
use Rattle.std.specs.List.{list_any}
use Rattle.rp_base.specs.declared.action.Action.{Action}
use Rattle.rp_base.specs.declared.action.Action.TheVariants.{Noop, Call, Interrupt, Tick}
use Rattle.rp_base.specs.Action.{same_action}
use Rattle.rp_server.specs.Ticks.{is_tick, HasNoTick}

left_false : (a b : Bool) → (a || b) ≡ false → a ≡ false
left_false true b e = absurd cc
left_false false b e = refl

right_false : (a b : Bool) → (a || b) ≡ false → b ≡ false
right_false true b e = absurd cc
right_false false b e = e

no_other : (now : ℕ) (action : Action) → is_tick action ≡ false → same_action (Tick now) action ≡ false
no_other now Noop e = refl
no_other now (Call task number object operation arg) e = refl
no_other now (Interrupt source occurrence) e = refl
no_other now (Tick other) e = absurd cc

-- where none is a tick, none is this tick
pub none_like : (now : ℕ) (actions : List Action) → HasNoTick actions → list_any (same_action (Tick now)) actions ≡ false
none_like now [] none = refl
none_like now (action ∷ rest) none =
    ap (λ (b : Bool). b || list_any (same_action (Tick now)) rest) (no_other now action (left_false (is_tick action) (list_any is_tick rest) none))
    ∙ none_like now rest (right_false (is_tick action) (list_any is_tick rest) none)

-- where none goes, all stay
pub all_stay : (test : Action → Bool) (items : List Action) → list_any (λ item. not (test item)) items ≡ false → filter test items ≡ items
all_stay test [] none = refl
all_stay test (item ∷ rest) none = here (test item) refl (all_stay test rest (right_false (not (test item)) (list_any (λ other. not (test other)) rest) none))
  where
    here : (b : Bool) → test item ≡ b → filter test rest ≡ rest → filter test (item ∷ rest) ≡ item ∷ rest
    here true is same = rw is (ap (λ (xs : List Action). item ∷ xs) same)
    here false is same = let goes = left_false (not (test item)) (list_any (λ other. not (test other)) rest) none in absurd (cc)
