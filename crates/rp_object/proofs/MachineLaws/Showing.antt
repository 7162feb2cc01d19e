-- The image shows the state: each part of it can be read off, and what comes after it.
use Rattle.std.proofs.Common.{◌≡◌, ◌≢◌, ◌≤◌, ◌<◌, ◌+◌, ◌⊎◌, append_assoc, inl, inr, ℕ, suc, ℤ, Bool}
use Rattle.std.proofs.Common.{true, false, List, [], ◌∷◌, ◌++◌, length, get_or, codes, decimal}
use Rattle.std.proofs.Common.{Option, Some, None, String, Global, string_bytes, FitsSigned, w64}
use Rattle.std.proofs.Common.{refl, sym, ◌∙◌, ap, subst, arith}
use Rattle.std.specs.Prelude.{IfSome, flat_map}
use Rattle.std.specs.Fmt.{signed_decimal}
use Rattle.std.specs.List.{AllZip, AllByRecursion}
use Rattle.std.proofs.lemmas.Bool.{cases_eq}
use Rattle.std.proofs.lemmas.List.{append_cancel_left}
use Rattle.std.proofs.lemmas.List.Elements.{recursion_from_All}
use Rattle.std.proofs.Math.Logic.{⊎_elim}
use Rattle.rp_entry.specs.rp_body.specs.Store.{Store, int_value, bool_value}
use Rattle.rp_base.specs.Sets.{Has}
use Rattle.rp_base.proofs.Members.{has_left, has_right}
use Rattle.rp_entry.specs.declared.state.Waiting.{Waiting}
use Rattle.rp_entry.specs.Queue.{all_calls}
use Rattle.rp_entry.proofs.Queues.{as_many as queues_many}
use Rattle.rp_object.specs.declared.program.Profile.{Profile}
use Rattle.rp_entry.specs.Protected.{Protected}
use Rattle.rp_object.specs.declared.program.ObjectDeclaration.{ObjectDeclaration}
use Rattle.rp_object.specs.declared.program.TimingEvent.{TimingEvent}
use Rattle.rp_object.specs.declared.program.Declarations.{Declarations}
use Rattle.rp_object.specs.Program.{operations_of, DeclarationFits, IsProgram}
use Rattle.rp_object.specs.State.{ProgramState, Running}
use Rattle.rp_object.specs.Image.{ints_text, truth_text, bools_text, call_text, queue_text}
use Rattle.rp_object.specs.Image.{entry_text, queues_text, object_line, object_lines, time_text}
use Rattle.rp_object.specs.Image.{timer_line, timer_lines, objects_image}
use Rattle.rp_object.specs.Reached.{IsCall, IsObjectOf, IsStateOf}
use Rattle.rp_object.proofs.MachineLaws.Words.{EndsWord, ends_before, read_signed, read_count}
use Rattle.rp_object.proofs.MachineLaws.Words.{regroup}
use Rattle.rp_object.proofs.MachineLaws.Stores.{values_fit, same_ints, same_bools}

-- ---- components

ints_end : (store : Store) (place : ℕ) (names : List (String Global)) (s : List ℕ) → EndsWord s
    → EndsWord (ints_text store place names ++ s)
ints_end store place [] s gap = gap
ints_end store place (name ∷ names) s gap = inl refl

-- equal texts of a component of one name have equal texts after the name
same_rest : (word x y left right s t : List ℕ)
    → (codes " " ++ (word ++ (codes "=" ++ (x ++ left)))) ++ s
    ≡ (codes " " ++ (word ++ (codes "=" ++ (y ++ right)))) ++ t
    → x ++ (left ++ s) ≡ y ++ (right ++ t)
same_rest word x y left right s t e =
    let first = append_cancel_left (codes " ") ((word ++ (codes "=" ++ (x ++ left))) ++ s)
    ((word ++ (codes "=" ++ (y ++ right))) ++ t) e in
    let named =
    append_cancel_left word ((codes "=" ++ (x ++ left)) ++ s) ((codes "=" ++ (y ++ right)) ++ t)
    (regroup word (codes "=" ++ (x ++ left)) s word (codes "=" ++ (y ++ right)) t first) in
    let value = append_cancel_left (codes "=") ((x ++ left) ++ s) ((y ++ right) ++ t) named in
    regroup x left s y right t value

-- values that are the same at a place and at the n places after it
one_more : {A : Type 0} (one other : ℕ → A) (place n : ℕ) → one place ≡ other place
    → ((k : ℕ) → suc place ≤ k → k < suc place + n → one k ≡ other k)
    → (k : ℕ) → place ≤ k → k < place + suc n → one k ≡ other k
one_more one other place n here rest k low high =
    ⊎_elim (λ (is : k ≡ place). subst (λ m. one m ≡ other m) (sym is) here)
    (λ (apart : k ≢ place). rest k (omega (arith, low, apart)) (omega (arith, high)))
    (cases_eq k place)

read_ints : (names : List (String Global)) (one other : Store) (place : ℕ) (s t : List ℕ)
    → ((k : ℕ) → FitsSigned w64 (int_value one k)) → ((k : ℕ) → FitsSigned w64 (int_value other k))
    → EndsWord s → EndsWord t → ints_text one place names ++ s ≡ ints_text other place names ++ t
    → ((k : ℕ) → place ≤ k → k < place + length names → int_value one k ≡ int_value other k)
    × (s ≡ t)
read_ints [] one other place s t p q u v e = ((λ k low high. absurd (omega (arith, low, high))), e)
read_ints (name ∷ names) one other place s t p q u v e =
    let x = signed_decimal (int_value one place) in
    let y = signed_decimal (int_value other place) in
    let left = ints_text one (suc place) names in
    let right = ints_text other (suc place) names in
    let here = read_signed (int_value one place) (int_value other place) (left ++ s) (right ++ t)
    (p place) (q place)
    (ints_end one (suc place) names s u) (ints_end other (suc place) names t v)
    (same_rest (string_bytes name) x y left right s t e) in
    let rest = read_ints names one other (suc place) s t p q u v here.1 in
    (one_more (int_value one) (int_value other) place (length names) here.0 rest.0, rest.1)

bools_end : (store : Store) (place : ℕ) (names : List (String Global)) (s : List ℕ) → EndsWord s
    → EndsWord (bools_text store place names ++ s)
bools_end store place [] s gap = gap
bools_end store place (name ∷ names) s gap = inl refl

read_truth : (a b : Bool) (s t : List ℕ) → truth_text a ++ s ≡ truth_text b ++ t → (a ≡ b) × (s ≡ t)
read_truth true true s t e = (refl, append_cancel_left (codes "true") s t e)
read_truth true false s t e =
    let wrong : 116 ≡ 102 = ap (λ (l : List ℕ). get_or l 0 0) e in absurd (omega (arith, wrong))
read_truth false true s t e =
    let wrong : 102 ≡ 116 = ap (λ (l : List ℕ). get_or l 0 0) e in absurd (omega (arith, wrong))
read_truth false false s t e = (refl, append_cancel_left (codes "false") s t e)

read_bools : (names : List (String Global)) (one other : Store) (place : ℕ) (s t : List ℕ)
    → bools_text one place names ++ s ≡ bools_text other place names ++ t
    → ((k : ℕ) → place ≤ k → k < place + length names → bool_value one k ≡ bool_value other k)
    × (s ≡ t)
read_bools [] one other place s t e = ((λ k low high. absurd (omega (arith, low, high))), e)
read_bools (name ∷ names) one other place s t e =
    let x = truth_text (bool_value one place) in
    let y = truth_text (bool_value other place) in
    let left = bools_text one (suc place) names in
    let right = bools_text other (suc place) names in
    let here = read_truth (bool_value one place) (bool_value other place) (left ++ s) (right ++ t)
    (same_rest (string_bytes name) x y left right s t e) in
    let rest = read_bools names one other (suc place) s t here.1 in
    (one_more (bool_value one) (bool_value other) place (length names) here.0 rest.0, rest.1)

-- ---- the queues

read_call : (c d : Waiting) (s t : List ℕ) → IsCall c → IsCall d → EndsWord s → EndsWord t
    → call_text c ++ s ≡ call_text d ++ t → (c ≡ d) × (s ≡ t)
read_call c d s t p q u v e =
    let x = signed_decimal c.arg in
    let y = signed_decimal d.arg in
    let left = decimal c.number ++ (codes " arg " ++ x) in
    let right = decimal d.number ++ (codes " arg " ++ y) in
    let first =
    append_cancel_left (codes " task ") ((decimal c.task ++ (codes " call " ++ left)) ++ s)
    ((decimal d.task ++ (codes " call " ++ right)) ++ t) e in
    let task =
    read_count c.task d.task ((codes " call " ++ left) ++ s) ((codes " call " ++ right) ++ t)
    (omega (arith, p.task.1)) (omega (arith, q.task.1)) (inl refl) (inl refl)
    (regroup (decimal c.task) (codes " call " ++ left) s (decimal d.task) (codes " call " ++ right)
    t first) in
    let second = append_cancel_left (codes " call ") (left ++ s) (right ++ t) task.1 in
    let number = read_count c.number d.number ((codes " arg " ++ x) ++ s)
    ((codes " arg " ++ y) ++ t) p.number.1 q.number.1 (inl refl) (inl refl)
    (regroup (decimal c.number) (codes " arg " ++ x) s (decimal d.number) (codes " arg " ++ y) t
    second) in
    let third = append_cancel_left (codes " arg ") (x ++ s) (y ++ t) number.1 in
    let arg = read_signed c.arg d.arg s t p.arg q.arg u v third in
    ((λ i. record { task = task.0 i; number = number.0 i; arg = arg.0 i }), arg.1)

-- the text begins with a line feed, or with a blank and the letter of ` queue`
abbrev EndsQueue : List ℕ → Type 0
EndsQueue s = EndsWord s × ((get_or s 0 0 ≡ 10) ⊎ (get_or s 1 0 ≡ 113))

-- so no call begins there
no_call_there : (s rest : List ℕ) (call : Waiting) → EndsQueue s → s ≡ call_text call ++ rest → ⊥
no_call_there s rest call ends e = ⊎_elim
    (λ (line : get_or s 0 0 ≡ 10). let blank : get_or s 0 0 ≡ 32 = ap (λ (l : List ℕ). get_or l 0 0)
    e in
    omega (arith, line, blank))
    (λ (queue : get_or s 1 0 ≡ 113).
    let task : get_or s 1 0 ≡ 116 = ap (λ (l : List ℕ). get_or l 1 0) e in
    omega (arith, queue, task))
    ends.1

abbrev AreCalls : List Waiting → Type 0
AreCalls calls = (call : Waiting) → Has call calls → IsCall call

calls_end : (calls : List Waiting) (s : List ℕ) → EndsWord s
    → EndsWord (flat_map call_text calls ++ s)
calls_end [] s gap = gap
calls_end (call ∷ calls) s gap = inl refl

read_calls : (one other : List Waiting) (s t : List ℕ) → AreCalls one → AreCalls other → EndsQueue s
    → EndsQueue t
    → flat_map call_text one ++ s ≡ flat_map call_text other ++ t → (one ≡ other) × (s ≡ t)
read_calls [] [] s t p q u v e = (refl, e)
read_calls [] (d ∷ others) s t p q u v e =
    absurd (no_call_there s (flat_map call_text others ++ t) d u
    (e ∙ append_assoc (call_text d) (flat_map call_text others) t))
read_calls (c ∷ calls) [] s t p q u v e =
    absurd (no_call_there t (flat_map call_text calls ++ s) c v
    (sym e ∙ append_assoc (call_text c) (flat_map call_text calls) s))
read_calls (c ∷ calls) (d ∷ others) s t p q u v e =
    let left = flat_map call_text calls in
    let right = flat_map call_text others in
    let first = read_call c d (left ++ s) (right ++ t) (p c (inl refl)) (q d (inl refl))
    (calls_end calls s u.0)
    (calls_end others t v.0)
    (sym (append_assoc (call_text c) left s) ∙ e ∙ append_assoc (call_text d) right t) in
    let rest = read_calls calls others s t (λ call has. p call (inr has))
    (λ call has. q call (inr has)) u v first.1 in
    ((λ i. first.0 i ∷ rest.0 i), rest.1)

read_queue : (one other : List Waiting) (s t : List ℕ) → AreCalls one → AreCalls other → EndsQueue s
    → EndsQueue t
    → queue_text one ++ s ≡ queue_text other ++ t → (one ≡ other) × (s ≡ t)
read_queue [] [] s t p q u v e = (refl, append_cancel_left (codes " none") s t e)
read_queue [] (d ∷ rest) s t p q u v e =
    let wrong : 110 ≡ 116 = ap (λ (l : List ℕ). get_or l 1 0) e in absurd (omega (arith, wrong))
read_queue (c ∷ rest) [] s t p q u v e =
    let wrong : 116 ≡ 110 = ap (λ (l : List ℕ). get_or l 1 0) e in absurd (omega (arith, wrong))
read_queue (c ∷ calls) (d ∷ others) s t p q u v e =
    read_calls (c ∷ calls) (d ∷ others) s t p q u v e

-- the text begins with a line feed
abbrev EndsLine : List ℕ → Type 0
EndsLine s = EndsWord s × (get_or s 0 0 ≡ 10)

module _ (profile : Profile) where
  queues_end : (names : List (String Global)) (queues : List (List Waiting)) (s : List ℕ)
      → EndsLine s
      → EndsQueue (queues_text profile names queues ++ s)
  queues_end [] queues s line = (line.0, inl line.1)
  queues_end (name ∷ names) [] s line = (line.0, inl line.1)
  queues_end (name ∷ names) (queue ∷ queues) s line = (inl refl, inr refl)

  read_queues : (names : List (String Global)) (one other : List (List Waiting)) (s t : List ℕ)
      → length one ≡ length names → length other ≡ length names → AreCalls (all_calls one)
      → AreCalls (all_calls other)
      → EndsLine s → EndsLine t
      → queues_text profile names one ++ s ≡ queues_text profile names other ++ t
      → (one ≡ other) × (s ≡ t)
  read_queues [] [] [] s t l m p q u v e = (refl, e)
  read_queues [] [] (b ∷ other) s t l m p q u v e = absurd (omega (arith, m))
  read_queues [] (a ∷ one) other s t l m p q u v e = absurd (omega (arith, l))
  read_queues (name ∷ names) [] other s t l m p q u v e = absurd (omega (arith, l))
  read_queues (name ∷ names) (a ∷ one) [] s t l m p q u v e = absurd (omega (arith, m))
  read_queues (name ∷ names) (a ∷ one) (b ∷ other) s t l m p q u v e =
      let word = entry_text profile (string_bytes name) in
      let left = queues_text profile names one in
      let right = queues_text profile names other in
      let first = append_cancel_left (codes " queue") ((word ++ (queue_text a ++ left)) ++ s)
      ((word ++ (queue_text b ++ right)) ++ t) e in
      let named =
      append_cancel_left word ((queue_text a ++ left) ++ s) ((queue_text b ++ right) ++ t)
      (regroup word (queue_text a ++ left) s word (queue_text b ++ right) t first) in
      let queue = read_queue a b (left ++ s) (right ++ t)
      (λ call has. p call (has_left call a (all_calls one) has))
      (λ call has. q call (has_left call b (all_calls other) has))
      (queues_end names one s u) (queues_end names other t v)
      (regroup (queue_text a) left s (queue_text b) right t named) in
      let rest = read_queues names one other s t (omega (arith, l)) (omega (arith, m))
      (λ call has. p call (has_right call a (all_calls one) has))
      (λ call has. q call (has_right call b (all_calls other) has)) u v queue.1 in
      ((λ i. queue.0 i ∷ rest.0 i), rest.1)

-- ---- objects

module _ (profile : Profile) (declared : ObjectDeclaration) (fits : DeclarationFits declared) where
  abbrev shown : Protected → List ℕ
  shown object = queues_text profile declared.entries.items object.state.queues

  abbrev after_bools : Protected → List ℕ
  after_bools object = shown object ++ codes "\n"

  abbrev after_ints : Protected → List ℕ
  after_ints object = bools_text object.state.store 0 declared.bools.items ++ after_bools object

  abbrev after_name : Protected → List ℕ
  after_name object = ints_text object.state.store 0 declared.ints.items ++ after_ints object

  same_object : (one other : Protected) → one.operations ≡ other.operations
      → one.state.store.ints ≡ other.state.store.ints
      → one.state.store.bools ≡ other.state.store.bools
      → one.state.queues ≡ other.state.queues → one ≡ other
  same_object one other operations ints bools queues =
      λ i. record {
        operations = operations i;
        state =
            record { store = record { ints = ints i; bools = bools i }; queues = queues i };
      }

  -- each entry that is named has its queue
  many : (object : Protected) → IsObjectOf declared object
      → length object.state.queues ≡ length declared.entries.items
  many object is = queues_many (operations_of declared).entries.items object.state.queues is.queues
      ∙ sym fits.entries

  read_object : (one other : Protected) (s t : List ℕ) → IsObjectOf declared one
      → IsObjectOf declared other
      → object_line profile declared one ++ s ≡ object_line profile declared other ++ t
      → (one ≡ other) × (s ≡ t)
  read_object one other s t p q e =
      let name = string_bytes declared.name in
      let first = append_cancel_left (codes "object ") ((name ++ after_name one) ++ s)
      ((name ++ after_name other) ++ t) e in
      let named = append_cancel_left name (after_name one ++ s) (after_name other ++ t)
      (regroup name (after_name one) s name (after_name other) t first) in
      let line : EndsLine (codes "\n") = (inr refl, refl) in
      let ends : (o : Protected) (r : List ℕ) → EndsWord (after_ints o ++ r) =
      λ o r. ends_before (after_ints o) r
      (bools_end o.state.store 0 declared.bools.items (after_bools o)
      (queues_end profile declared.entries.items o.state.queues (codes "\n") line).0) in
      let ints =
      read_ints declared.ints.items one.state.store other.state.store 0 (after_ints one ++ s)
      (after_ints other ++ t)
      (values_fit declared.components one.state.store fits.ends p.ranges p.values)
      (values_fit declared.components other.state.store fits.ends q.ranges q.values) (ends one s)
      (ends other t)
      (regroup (ints_text one.state.store 0 declared.ints.items) (after_ints one) s
      (ints_text other.state.store 0 declared.ints.items) (after_ints other) t named) in
      let bools =
      read_bools declared.bools.items one.state.store other.state.store 0 (after_bools one ++ s)
      (after_bools other ++ t)
      (regroup (bools_text one.state.store 0 declared.bools.items) (after_bools one) s
      (bools_text other.state.store 0 declared.bools.items) (after_bools other) t ints.1) in
      let queues = read_queues profile declared.entries.items one.state.queues other.state.queues
      (codes "\n" ++ s)
      (codes "\n" ++ t) (many one p) (many other q) p.calls q.calls (inr refl, refl)
      (inr refl, refl)
      (regroup (shown one) (codes "\n") s (shown other) (codes "\n") t bools.1) in (
        same_object one other (p.operations ∙ sym q.operations)
            (same_ints declared fits one.state.store other.state.store p.ranges q.ranges
            (λ k below. ints.0 k (omega arith) (omega (arith, below))))
            (same_bools declared fits one.state.store other.state.store p.bools q.bools
            (λ k below. bools.0 k (omega arith) (omega (arith, below))))
            queues.0,
        append_cancel_left (codes "\n") s t queues.1,
      )

read_objects : (profile : Profile) (declared : List ObjectDeclaration) (one other : List Protected)
    (s t : List ℕ)
    → AllByRecursion DeclarationFits declared → AllZip IsObjectOf declared one
    → AllZip IsObjectOf declared other
    → object_lines profile declared one ++ s ≡ object_lines profile declared other ++ t
    → (one ≡ other) × (s ≡ t)
read_objects profile [] [] [] s t fits p q e = (refl, e)
read_objects profile [] [] (b ∷ other) s t fits p q e = absurd q
read_objects profile [] (a ∷ one) other s t fits p q e = absurd p
read_objects profile (d ∷ declared) [] other s t fits p q e = absurd p
read_objects profile (d ∷ declared) (a ∷ one) [] s t fits p q e = absurd q
read_objects profile (d ∷ declared) (a ∷ one) (b ∷ other) s t fits p q e =
    let left = object_lines profile declared one in
    let right = object_lines profile declared other in
    let first = read_object profile d fits.0 a b (left ++ s) (right ++ t) p.0 q.0
    (regroup (object_line profile d a) left s (object_line profile d b) right t e) in
    let rest = read_objects profile declared one other s t fits.1 p.1 q.1 first.1 in
    ((λ i. first.0 i ∷ rest.0 i), rest.1)

-- ---- timing events

read_time : (one other : Option ℤ) (s t : List ℕ) → IfSome one (FitsSigned w64)
    → IfSome other (FitsSigned w64)
    → EndsWord s → EndsWord t → time_text one ++ s ≡ time_text other ++ t → (one ≡ other) × (s ≡ t)
read_time None None s t p q u v e = (refl, append_cancel_left (codes " off") s t e)
read_time None (Some b) s t p q u v e =
    let wrong : 111 ≡ 97 = ap (λ (l : List ℕ). get_or l 1 0) e in absurd (omega (arith, wrong))
read_time (Some a) None s t p q u v e =
    let wrong : 97 ≡ 111 = ap (λ (l : List ℕ). get_or l 1 0) e in absurd (omega (arith, wrong))
read_time (Some a) (Some b) s t p q u v e =
    let time = read_signed a b s t p q u v
    (append_cancel_left (codes " at ") (signed_decimal a ++ s) (signed_decimal b ++ t) e) in
    (ap (λ (z : ℤ). Some z) time.0, time.1)

read_timer : (timer : TimingEvent) (one other : Option ℤ) (s t : List ℕ)
    → IfSome one (FitsSigned w64)
    → IfSome other (FitsSigned w64) → timer_line timer one ++ s ≡ timer_line timer other ++ t
    → (one ≡ other) × (s ≡ t)
read_timer timer one other s t p q e =
    let name = string_bytes timer.name in
    let left = time_text one ++ codes "\n" in
    let right = time_text other ++ codes "\n" in
    let first =
    append_cancel_left (codes "timer ") ((name ++ left) ++ s) ((name ++ right) ++ t) e in
    let named =
    append_cancel_left name (left ++ s) (right ++ t) (regroup name left s name right t first) in
    let time = read_time one other (codes "\n" ++ s) (codes "\n" ++ t) p q (inr refl) (inr refl)
    (regroup (time_text one) (codes "\n") s (time_text other) (codes "\n") t named) in
    (time.0, append_cancel_left (codes "\n") s t time.1)

read_timers : (timers : List TimingEvent) (one other : List (Option ℤ)) → length one ≡ length timers
    → length other ≡ length timers
    → AllByRecursion (λ time. IfSome time (FitsSigned w64)) one
    → AllByRecursion (λ time. IfSome time (FitsSigned w64)) other
    → timer_lines timers one ≡ timer_lines timers other
    → one ≡ other
read_timers [] [] [] l m p q e = refl
read_timers [] [] (b ∷ other) l m p q e = absurd (omega (arith, m))
read_timers [] (a ∷ one) other l m p q e = absurd (omega (arith, l))
read_timers (timer ∷ timers) [] other l m p q e = absurd (omega (arith, l))
read_timers (timer ∷ timers) (a ∷ one) [] l m p q e = absurd (omega (arith, m))
read_timers (timer ∷ timers) (a ∷ one) (b ∷ other) l m p q e =
    let first =
    read_timer timer a b (timer_lines timers one) (timer_lines timers other) p.0 q.0 e in
    let rest = read_timers timers one other (omega (arith, l)) (omega (arith, m)) p.1 q.1 first.1 in
    λ i. first.0 i ∷ rest i

-- ---- the whole

same_shown : (program : Declarations) → IsProgram program → (one other : ProgramState)
    → IsStateOf program (record { program = program; state = one })
    → IsStateOf program (record { program = program; state = other })
    → objects_image (record { program = program; state = one })
    ≡ objects_image (record { program = program; state = other }) → one ≡ other
same_shown program right one other p q e =
    let declared = program.objects.items in
    let timers = program.timers.items in
    let fit : Option ℤ → Type 0 = λ time. IfSome time (FitsSigned w64) in
    let left = codes "\n" ++ timer_lines timers one.timers in
    let right_part = codes "\n" ++ timer_lines timers other.timers in
    let objects = read_objects program.profile declared one.objects other.objects
    (codes "clock " ++ (decimal one.clock ++ left))
    (codes "clock " ++ (decimal other.clock ++ right_part))
    (recursion_from_All DeclarationFits declared right.objects) p.objects q.objects e in
    let first = append_cancel_left (codes "clock ") (decimal one.clock ++ left)
    (decimal other.clock ++ right_part) objects.1 in
    let clock = read_count one.clock other.clock left right_part p.clock q.clock (inr refl)
    (inr refl) first in
    let times = read_timers timers one.timers other.timers p.all_timers q.all_timers
    (recursion_from_All fit one.timers p.times) (recursion_from_All fit other.timers q.times)
    (append_cancel_left (codes "\n") (timer_lines timers one.timers)
    (timer_lines timers other.timers) clock.1) in
    λ i. record { objects = objects.0 i; timers = times i; clock = clock.0 i }

-- two states of one program that look the same are the same
pub image_shows : (program : Declarations) → IsProgram program → (one other : Running)
    → IsStateOf program one
    → IsStateOf program other → objects_image one ≡ objects_image other → one ≡ other
image_shows program right one other p q e =
    let there : (r : Running) → IsStateOf program r
    → r ≡ record { program = program; state = r.state } =
    λ r is i. record { program = is.declared i; state = r.state } in
    let moved : (r : Running) (is : IsStateOf program r)
    → IsStateOf program (record { program = program; state = r.state }) =
    λ r is. subst (IsStateOf program) (there r is) is in
    let images = sym (ap objects_image (there one p)) ∙ e ∙ ap objects_image (there other q) in
    let states =
    same_shown program right one.state other.state (moved one p) (moved other q) images in
    there one p ∙ ap (λ (s : ProgramState). record { program = program; state = s }) states
    ∙ sym (there other q)
