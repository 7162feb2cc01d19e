-- The calls of a task that count are the first of its calls.
use Rattle.std.proofs.Common.{◌≡◌, ℕ, zero, suc, ◌+◌, Bool, true, false, Option, Some, List, [], ◌∷◌, ◌++◌, length, map, is_some, slice_get, inl, inr, sym, ap, subst, ◌∙◌, arith, append_assoc, length-append, if◌then◌else◌}
use Rattle.rp_threads.specs.rp_base.specs.Sets.{Has}
use Rattle.rp_threads.specs.rp_base.specs.declared.action.Action.{Action}
use Rattle.rp_threads.specs.rp_codec.specs.Message.{Message}
use Rattle.rp_threads.specs.rp_codec.specs.declared.packet.Body.TheVariants as bodies
use Rattle.rp_board.specs.Parts.{task_of}
use Rattle.rp_board.specs.Seats.{SeatState}
use Rattle.rp_boxes.specs.rp_machine.specs.Calls.{CallName, calls_of}
use Rattle.rp_boxes.specs.rp_machine.specs.Replay.{one_to}
use Rattle.rp_boxes.specs.rp_machine.proofs.Numbering.{length-one_to}
use Rattle.rp_boxes.specs.rp_model.specs.Parts.{TaskPart}
use Rattle.rp_boxes.specs.rp_model.specs.Tasks.{asks}
use Rattle.rp_boxes.specs.rp_agreement.specs.Answered.{AreItsCalls, AreMade, calls_by, calls_so_far, named}
use Rattle.rp_boxes.specs.rp_agreement.specs.Order.{IsPrefix}
use Rattle.rp_boxes.specs.rp_agreement.proofs.Lists.{get_mapped, get_unmapped, get_one_to}
use Rattle.rp_boxes.proofs.Listed.{begins_by}
use Rattle.rp_threads.specs.Tasks.{AsksForOne, HasMade, Waits, call_after}
use Rattle.rp_threads.specs.declared.tasks.TaskCall.{TaskCall}
use Rattle.rp_live.specs.Calls.{CountsCalls, calls_from}
use Rattle.rp_live.proofs.Seating.{mapped}

at_calls : (task j : ℕ) (calls : List TaskCall) (k : ℕ) (call : TaskCall) → slice_get calls k ≡ Some call → slice_get (calls_from task j calls) k ≡ Some (call_after task (j + k) call)
at_calls task j [] k call at = absurd (cc)
at_calls task j (x ∷ xs) zero call at =
    let same : x ≡ call = cc in
    let none : j ≡ j + 0 = omega arith in
    ap (λ (c : TaskCall). Some (call_after task j c)) same ∙ ap (λ (n : ℕ). Some (call_after task n call)) none
at_calls task j (x ∷ xs) (suc k) call at =
    subst (λ (n : ℕ). slice_get (calls_from task (suc j) xs) k ≡ Some (call_after task n call)) (let e : suc j + k ≡ j + suc k = omega arith in e) (at_calls task (suc j) xs k call at)

place_has : {A : Type 0} (xs : List A) (k : ℕ) (x : A) → slice_get xs k ≡ Some x → Has x xs
place_has [] k x at = absurd (cc)
place_has (y ∷ ys) zero x at = inl (cc)
place_has (y ∷ ys) (suc k) x at = inr (place_has ys k x at)

first_number : List CallName → ℕ
first_number [] = 0
first_number (call ∷ calls) = call.number

same_call : (task node other : ℕ) (a b : Action) → asks task node a ≡ asks task other b → a ≡ b
same_call task node other a b is = let e : bodies.Call a ≡ bodies.Call b = ap (λ (m : Message). m.body) is in cc

begins_on : {A : Type 0} (xs ys zs : List A) → IsPrefix xs ys → IsPrefix ys zs → IsPrefix xs zs
begins_on xs ys zs xy yz = (xy.0 ++ yz.0, yz.1 ∙ ap (λ (l : List _). l ++ yz.0) xy.1 ∙ append_assoc xs xy.0 yz.0)

module _ {P : Type 0} (calls : List TaskCall) (seat : SeatState P) (made : ℕ) (waits : Bool) (h : HasMade calls seat made waits) where
  task_is : task_of seat.part.role ≡ h.task
  task_is = ap task_of h.is

  so_far_by : (w : Bool) (task : TaskPart) → length task.replies + (if w then 1 else 0) ≡ made → Waits seat.setup.number calls made w task.outstanding → calls_so_far task ≡ made
  so_far_by true task count waiting =
      ap (λ (o : Option Action). if is_some o then suc (length task.replies) else length task.replies) waiting.4 ∙ (let e : suc (length task.replies) ≡ made = omega (arith, count) in e)
  so_far_by false task count waiting =
      ap (λ (o : Option Action). if is_some o then suc (length task.replies) else length task.replies) waiting ∙ (let e : length task.replies ≡ made = omega (arith, count) in e)

  pub so_far : calls_so_far (task_of seat.part.role) ≡ made
  so_far = ap calls_so_far task_is ∙ so_far_by waits h.task h.count h.waiting

  module _ (actions : List Action) (are : AreMade seat.part.sent seat.setup.number (task_of seat.part.role) actions) where
    abbrev t : ℕ
    t = seat.setup.number

    -- each of them is the call of its place
    at_place : (k : ℕ) (a : Action) → slice_get actions k ≡ Some a → slice_get (calls_from t 0 calls) k ≡ Some a
    unfolding first_number
    at_place k a at =
        let asked = (are.asked a).0 (place_has actions k a at) in
        let one : AsksForOne t calls made (asks t asked.0 a) = h.only (asks t asked.0 a) asked.1 in
        let own : a ≡ call_after t one.0 one.1 = same_call t asked.0 one.2 a (call_after t one.0 one.1) one.5 in
        let names : slice_get (map (λ n. named t n ∷ []) (one_to (calls_so_far (task_of seat.part.role)))) k ≡ Some (calls_of a) =
        subst (λ (l : List (List CallName)). slice_get l k ≡ Some (calls_of a)) are.numbered (get_mapped calls_of actions k a at) in
        let found = get_unmapped (λ n. named t n ∷ []) (one_to (calls_so_far (task_of seat.part.role))) k (calls_of a) names in
        let number : found.0 ≡ suc k = get_one_to (calls_so_far (task_of seat.part.role)) k found.0 found.1 in
        let same : suc one.0 ≡ found.0 = ap (λ (c : Action). first_number (calls_of c)) (sym own) ∙ ap first_number found.2 in
        let place : 0 + one.0 ≡ k = omega (arith, same, number) in
        let here : one.0 ≡ k = omega (arith, same, number) in
        subst (λ (j : ℕ). slice_get (calls_from t 0 calls) j ≡ Some a) here
        (at_calls t 0 calls one.0 one.1 one.4 ∙ ap (λ (n : ℕ). Some (call_after t n one.1)) (let e : 0 + one.0 ≡ one.0 = omega arith in e) ∙ ap (λ (c : Action). Some c) (sym own))

    as_many : length actions ≡ made
    as_many =
        sym (mapped calls_of actions) ∙ ap length are.numbered ∙ mapped (λ n. named t n ∷ []) (one_to (calls_so_far (task_of seat.part.role)))
        ∙ length-one_to (calls_so_far (task_of seat.part.role)) ∙ so_far

  pub counts_calls : (actions : List Action) → AreItsCalls seat.part.sent seat.setup.number (task_of seat.part.role) actions → CountsCalls seat.setup.number calls made actions
  counts_calls actions are =
      let begins : IsPrefix are.made (calls_from seat.setup.number 0 calls) = begins_by are.made (calls_from seat.setup.number 0 calls) (at_place are.made are.are_made) in
      let many = as_many are.made are.are_made in
      elim are.all_but_last [
        | inl all ↦ record {
          first = subst (λ (l : List Action). IsPrefix l (calls_from seat.setup.number 0 calls)) all begins;
          many = inl (ap length (sym all) ∙ many);
        }
        | inr last ↦ record {
          first = begins_on (calls_by seat.setup.number actions) are.made (calls_from seat.setup.number 0 calls) (last.0 ∷ [], last.2) begins;
          many = inr (let e = ap length last.2 in let l = length-append (calls_by seat.setup.number actions) (last.0 ∷ []) in omega (arith, e, l, many));
        }
      ]
