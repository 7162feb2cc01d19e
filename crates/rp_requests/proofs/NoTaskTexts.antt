-- Bytes that are no text of a request to a task.
use Rattle.std.proofs.Common.{◌≡◌, ◌≢◌, ◌⊎◌, inl, inr, ◌<◌, ◌≤◌, ℕ, ℤ, Bool, true, false, cond, List, [], ◌∷◌, length, Option, Some, None, refl, ◌∙◌, ap, arith}
use Rattle.std.specs.Prelude.{◌==◌}
use Rattle.std.specs.Int.{w64, from_be_bytes, cast_signed}
use Rattle.std.proofs.lemmas.Bool.{ne_eqb}
use Rattle.rp_base.specs.declared.action.Operation.{Operation}
use Rattle.rp_requests.specs.TaskRequests.{TaskAsked, operation_numbered, is_party, arg_at, call_if, task_asked_by, task_asked_of}
use Rattle.rp_requests.proofs.NoNodeTexts.{outside}

pub empty_is : task_asked_of [] ≡ None
unfolding task_asked_of
empty_is = refl

pub again : (operands : List ℕ) → length operands ≢ 1 → task_asked_of (2 ∷ operands) ≡ None
unfolding task_asked_of task_asked_by
again [] other = refl
again (a ∷ []) other = absurd (other refl)
again (a ∷ b ∷ rest) other = refl

pub kinds : (kind : ℕ) (operands : List ℕ) → (kind ≡ 0) ⊎ (3 < kind) → task_asked_of (kind ∷ operands) ≡ None
unfolding task_asked_of task_asked_by
kinds kind operands none = simp (is_not 1 (omega arith) (omega arith), is_not 2 (omega arith) (omega arith), is_not 3 (omega arith) (omega arith))
  where
    apart : (n : ℕ) → 1 ≤ n → n ≤ 3 → kind ≡ n → (kind ≡ 0) ⊎ (3 < kind) → ⊥
    apart n low high same (inl zero) = omega arith
    apart n low high same (inr above) = omega arith

    is_not : (n : ℕ) → 1 ≤ n → n ≤ 3 → (kind == n) ≡ false
    is_not n low high = ne_eqb kind n (λ same. apart n low high same none)

abbrev when : Bool → Option TaskAsked → Option TaskAsked
when test found = cond {A = Option TaskAsked} test found None

both_ways : (test : Bool) → when test None ≡ None
both_ways true = refl
both_ways false = refl

pub node : (number : ℕ) (operands : List ℕ) → (number ≡ 0) ⊎ (7 < number) → task_asked_of (1 ∷ number ∷ operands) ≡ None
unfolding task_asked_of task_asked_by
node number [] none = refl
node number (a ∷ []) none = refl
node number (a ∷ b ∷ []) none = refl
node number (object ∷ kind ∷ index ∷ arg) none = ap (λ b. when b (call_if number object (operation_numbered kind index) (arg_at arg))) (outside number 7 none)

no_operation : (kind index : ℕ) → (kind ≡ 0) ⊎ (5 < kind) → operation_numbered kind index ≡ None
no_operation kind index none = simp (is_not 1 (omega arith) (omega arith), is_not 2 (omega arith) (omega arith), is_not 3 (omega arith) (omega arith), is_not 4 (omega arith) (omega arith), is_not 5 (omega arith) (omega arith))
  where
    apart : (n : ℕ) → 1 ≤ n → n ≤ 5 → kind ≡ n → (kind ≡ 0) ⊎ (5 < kind) → ⊥
    apart n low high same (inl zero) = omega arith
    apart n low high same (inr above) = omega arith

    is_not : (n : ℕ) → 1 ≤ n → n ≤ 5 → (kind == n) ≡ false
    is_not n low high = ne_eqb kind n (λ same. apart n low high same none)

pub operation : (number object kind index : ℕ) (arg : List ℕ) → (kind ≡ 0) ⊎ (5 < kind) → task_asked_of (1 ∷ number ∷ object ∷ kind ∷ index ∷ arg) ≡ None
unfolding task_asked_of task_asked_by
operation number object kind index arg none =
    ap (λ found. when (is_party number) (call_if number object found (arg_at arg))) (no_operation kind index none) ∙ both_ways (is_party number)

no_argument : (arg : List ℕ) → length arg ≢ 8 → arg_at arg ≡ None
no_argument arg other = ap (λ b. cond {A = Option ℤ} b (Some (cast_signed w64 (from_be_bytes w64 arg))) None) (ne_eqb (length arg) 8 other)

no_call : (number object : ℕ) (found : Option Operation) → call_if number object found None ≡ None
no_call number object None = refl
no_call number object (Some operation) = refl

pub argument : (number object kind index : ℕ) (arg : List ℕ) → length arg ≢ 8 → task_asked_of (1 ∷ number ∷ object ∷ kind ∷ index ∷ arg) ≡ None
unfolding task_asked_of task_asked_by
argument number object kind index arg other =
    ap (λ found. when (is_party number) (call_if number object (operation_numbered kind index) found)) (no_argument arg other)
    ∙ ap (when (is_party number)) (no_call number object (operation_numbered kind index)) ∙ both_ways (is_party number)
