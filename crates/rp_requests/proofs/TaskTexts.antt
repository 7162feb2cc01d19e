-- The texts of requests to a task.
use Rattle.std.proofs.Common.{◌≡◌, ◌<◌, ◌≤◌, ◌^◌, ℕ, ℤ, true, cond, ◌&&◌, Option, Some, None, refl, ◌∙◌, ap, ap₂, arith, FitsSigned, w64}
use Rattle.std.specs.Prelude.{nat_le}
use Rattle.std.specs.Int.{to_be_bytes, cast_signed, cast_unsigned}
use Rattle.std.proofs.lemmas.Bool.Decides.{nat_tests}
use Rattle.std.proofs.lemmas.Int.{ints, to_z-of_z}
use Rattle.std.proofs.lemmas.Nat.{from_be_bytes-to_be_bytes_8}
use Rattle.rp_base.specs.Action.{IsRightOperation, is_right_operation}
use Rattle.rp_base.specs.declared.action.Operation.{Operation}
use Rattle.rp_base.specs.declared.action.Operation.TheVariants.{Function, Procedure, Entry, SetTimer, CancelTimer}
use Rattle.rp_requests.specs.TaskRequests.{TaskAsked, MakeCall, SendAgain, TakePacket, is_party, arg_at, call_with, call_if, task_asked_by, task_asked_of}
use Rattle.rp_requests.specs.Texts.{task_request_text, FitsTaskRequest}

in_both : (n least most : ℕ) → least ≤ n → n ≤ most → (nat_le least n && nat_le n most) ≡ true
in_both n least most low high = grind (arith, nat_tests, low, high)

right_is : (operation : Operation) → IsRightOperation operation → is_right_operation operation ≡ true
right_is (Function index) right = in_both index 1 8 right.0 right.1
right_is (Procedure index) right = in_both index 1 8 right.0 right.1
right_is (Entry index) right = in_both index 1 4 right.0 right.1
right_is (SetTimer index) right = in_both index 1 8 right.0 right.1
right_is (CancelTimer index) right = in_both index 1 8 right.0 right.1

-- the argument of eight bytes
arg_is : (arg : ℤ) → FitsSigned w64 arg → arg_at (to_be_bytes w64 (cast_unsigned w64 arg)) ≡ Some arg
arg_is arg fits =
    let bits : cast_unsigned w64 arg < 2 ^ 64 = omega (arith, ints) in
    ap (λ n. Some (cast_signed w64 n)) (from_be_bytes-to_be_bytes_8 (cast_unsigned w64 arg) bits) ∙ ap Some (to_z-of_z w64 arg fits)

module _ (node object : ℕ) (operation : Operation) (arg : ℤ) (right : FitsTaskRequest (MakeCall node object operation arg)) where
  call_is : cond {A = Option TaskAsked} (is_party node) (call_if node object (Some operation) (arg_at (to_be_bytes w64 (cast_unsigned w64 arg)))) None ≡ Some (MakeCall node object operation arg)
  call_is =
      ap (λ b. cond {A = Option TaskAsked} b (call_if node object (Some operation) (arg_at (to_be_bytes w64 (cast_unsigned w64 arg)))) None) (in_both node 1 7 right.0.0 right.0.1)
      ∙ ap (call_with node object operation) (arg_is arg right.3)
      ∙ ap (λ b. cond {A = Option TaskAsked} b (Some (MakeCall node object operation arg)) None)
      (ap₂ (λ x y. x && y) (in_both object 1 8 right.1.0 right.1.1) (right_is operation right.2))

pub task_requests : (request : TaskAsked) → FitsTaskRequest request → task_asked_of (task_request_text request) ≡ Some request
unfolding task_asked_of task_asked_by
task_requests (MakeCall node object (Function index) arg) right = call_is node object (Function index) arg right
task_requests (MakeCall node object (Procedure index) arg) right = call_is node object (Procedure index) arg right
task_requests (MakeCall node object (Entry index) arg) right = call_is node object (Entry index) arg right
task_requests (MakeCall node object (SetTimer index) arg) right = call_is node object (SetTimer index) arg right
task_requests (MakeCall node object (CancelTimer index) arg) right = call_is node object (CancelTimer index) arg right
task_requests (SendAgain node) right = ap (λ b. cond {A = Option TaskAsked} b (Some (SendAgain node)) None) (in_both node 1 7 right.0 right.1)
task_requests (TakePacket packet) right = refl
