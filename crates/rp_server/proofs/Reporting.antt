-- What a report says.
use Rattle.std.proofs.Common.{◌≡◌, ℕ, zero, suc, Option, Some, None, List, take, drop, refl, sym, subst}
use Rattle.std.specs.Prelude.{All, IfOk, Result, Ok, Err}
use Rattle.std.proofs.lemmas.List.Elements.{All-take, All-drop}
use Rattle.std.specs.List.{AllByRecursion}
use Rattle.rp_base.specs.declared.action.Action.{Action}
use Rattle.rp_base.specs.declared.record.Rec.{Rec}
use Rattle.rp_base.specs.Action.{IsRight}
use Rattle.rp_base.specs.Right.{IsRightRecord}
use Rattle.rp_base.specs.Records.{learned_at, learned_run, unless_missing}
use Rattle.rp_server.proofs.Applied.{learned_right}

run_from : (records : List Rec) (rest : List Action) (i : ℕ) (o : Option Action) → AllByRecursion IsRightRecord records → learned_at records i ≡ o → AllByRecursion IsRight rest
    → AllByRecursion IsRight (unless_missing o rest)
run_from records rest i None right is all = tt
run_from records rest i (Some v) right is all = (learned_right records i v right is, all)

-- the actions that right records learn one after another are right
pub run_right : (records : List Rec) (most i : ℕ) → AllByRecursion IsRightRecord records → AllByRecursion IsRight (learned_run records most i)
run_right records zero i right = tt
run_right records (suc most) i right = run_from records (learned_run records most (suc i)) i (learned_at records i) right refl (run_right records most (suc i) right)

-- a part of them is right
pub reported_right : {V E : Type 0} (items : V → List Action) (r : Result V E) (applied : List Action) (n k : ℕ) → All IsRight applied → IfOk r (λ v. items v ≡ take n (drop k applied)) → IfOk r (λ v. All IsRight (items v))
reported_right items (Ok v) applied n k all is = subst (λ (l : List Action). All IsRight l) (sym is) (All-take IsRight n (drop k applied) (All-drop IsRight k applied all))
reported_right items (Err e) applied n k all is = tt
