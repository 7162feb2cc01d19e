-- The text of the components, one further.
use Rattle.std.proofs.Common.{◌≡◌, ◌<◌, ◌+◌, ℕ, zero, suc, ℤ, Option, Some, List, [], ◌∷◌, ◌++◌, length, get_or, take, codes, refl, sym, ◌∙◌, ap, ap₂, arith, append_assoc, append-nil, length-take-le, string_bytes, String, Global}
use Rattle.std.specs.Prelude.{slice_get, flat_map}
use Rattle.std.specs.List.{AllZip}
use Rattle.std.proofs.lemmas.List.{take_more, flat_map_more}
use Rattle.std.proofs.lemmas.Option.{slice_get_within, get_or_from_slice_get}
use Rattle.std.specs.Fmt.{signed_decimal}
use Rattle.rp_entry.specs.rp_body.specs.Store.{Store, int_value, bool_value}
use Rattle.rp_entry.specs.Protected.{Protected}
use Rattle.rp_object.specs.declared.program.ObjectDeclaration.{ObjectDeclaration}
use Rattle.rp_object.specs.declared.program.TimingEvent.{TimingEvent}
use Rattle.rp_entry.specs.declared.state.Waiting.{Waiting}
use Rattle.rp_object.specs.declared.program.Profile.{Profile}
use Rattle.rp_object.specs.InMemory.{IsMade}
use Rattle.rp_object.specs.Image.{ints_text, bools_text, truth_text, call_text, queue_text, entry_text, queues_text, object_line, object_lines, timer_line, timer_lines}

-- one name with a text after it
abbrev one_text : List ℕ → List ℕ → List ℕ
one_text name value = 32 ∷ (name ++ 61 ∷ value)

-- a text for each name, with what its place has
module _ (text : ℕ → List (String Global) → List ℕ) (value : ℕ → List ℕ) (none : (place : ℕ) → text place [] ≡ [])
    (one : (place : ℕ) (x : String Global) (xs : List (String Global)) → text place (x ∷ xs) ≡ one_text (string_bytes x) (value place ++ text (suc place) xs)) where
  names_push : (place : ℕ) (xs : List (String Global)) (y : String Global) → text place (xs ++ y ∷ []) ≡ text place xs ++ one_text (string_bytes y) (value (place + length xs))
  names_push place [] y =
      let same : place ≡ place + 0 = omega arith in
      one place y [] ∙ ap (λ (l : List ℕ). one_text (string_bytes y) (value place ++ l)) (none (suc place)) ∙ ap (λ (l : List ℕ). one_text (string_bytes y) l) (append-nil (value place))
      ∙ ap (λ n. one_text (string_bytes y) (value n)) same ∙ ap (λ (l : List ℕ). l ++ one_text (string_bytes y) (value (place + 0))) (sym (none place))
  names_push place (x ∷ xs) y =
      let same : suc place + length xs ≡ place + suc (length xs) = omega arith in
      let rest = text (suc place) xs in
      let last = one_text (string_bytes y) (value (place + suc (length xs))) in
      one place x (xs ++ y ∷ []) ∙ ap (λ (l : List ℕ). one_text (string_bytes x) (value place ++ l)) (names_push (suc place) xs y ∙ ap (λ n. rest ++ one_text (string_bytes y) (value n)) same)
      ∙ ap (λ (l : List ℕ). one_text (string_bytes x) l) (sym (append_assoc (value place) rest last))
      ∙ ap (λ (l : List ℕ). 32 ∷ l) (sym (append_assoc (string_bytes x) (61 ∷ (value place ++ rest)) last))
      ∙ ap (λ (l : List ℕ). l ++ last) (sym (one place x xs))

  names_more : (names : List (String Global)) (i : ℕ) (name : String Global) → i < length names → name ≡ get_or names i name → (before so_far new : List ℕ)
      → so_far ≡ before ++ text 0 (take i names) → new ≡ so_far ++ one_text (string_bytes name) (value i) → new ≡ before ++ text 0 (take (i + 1) names)
  names_more names i name below read before so_far new has printed =
      let more : take (i + 1) names ≡ take i names ++ name ∷ [] = take_more names i name below ∙ ap (λ (y : String Global). take i names ++ y ∷ []) (sym read) in
      let long : 0 + length (take i names) ≡ i = omega (arith, length-take-le i names (omega (arith, below))) in
      printed ∙ ap (λ (l : List ℕ). l ++ one_text (string_bytes name) (value i)) has ∙ append_assoc before (text 0 (take i names)) (one_text (string_bytes name) (value i))
      ∙ ap (λ (l : List ℕ). before ++ l) (ap (λ n. text 0 (take i names) ++ one_text (string_bytes name) (value n)) (sym long) ∙ sym (ap (text 0) more ∙ names_push 0 (take i names) name))

module _ (store : Store) (names : List (String Global)) (i : ℕ) (name : String Global) (below : i < length names) (read : name ≡ get_or names i name) where
  -- the whole numbers
  pub ints_more : (before text new : List ℕ) → text ≡ before ++ ints_text store 0 (take i names) → new ≡ text ++ one_text (string_bytes name) (signed_decimal (int_value store i))
      → new ≡ before ++ ints_text store 0 (take (i + 1) names)
  ints_more = names_more (ints_text store) (λ n. signed_decimal (int_value store n)) (λ place. refl) (λ place x xs. refl) names i name below read

  -- the Booleans
  pub bools_more : (before text new : List ℕ) → text ≡ before ++ bools_text store 0 (take i names) → new ≡ text ++ one_text (string_bytes name) (truth_text (bool_value store i))
      → new ≡ before ++ bools_text store 0 (take (i + 1) names)
  bools_more = names_more (bools_text store) (λ n. truth_text (bool_value store n)) (λ place. refl) (λ place x xs. refl) names i name below read

-- ---- queues

-- one call more
pub calls_more : (calls : List Waiting) (i : ℕ) (call : Waiting) → slice_get calls i ≡ Some call → (before text new : List ℕ) → text ≡ before ++ flat_map call_text (take i calls) → new ≡ text ++ call_text call → new ≡ before ++ flat_map call_text (take (i + 1) calls)
calls_more calls i call there before text new so_far printed =
    let below : i < length calls = slice_get_within calls i call there in
    let more : take (i + 1) calls ≡ take i calls ++ call ∷ [] = take_more calls i call below ∙ ap (λ (c : Waiting). take i calls ++ c ∷ []) (get_or_from_slice_get calls i call call there) in
    printed ∙ ap (λ (l : List ℕ). l ++ call_text call) so_far ∙ flat_map_more call_text before (take i calls) call ∙ ap (λ (l : List Waiting). before ++ flat_map call_text l) (sym more)

-- one queue with its name
abbrev queue_part : Profile → String Global → List Waiting → List ℕ
queue_part profile name queue = codes " queue" ++ (entry_text profile (string_bytes name) ++ queue_text queue)

queues_push : (profile : Profile) (ns : List (String Global)) (qs : List (List Waiting)) (n : String Global) (q : List Waiting) → length ns ≡ length qs → queues_text profile (ns ++ n ∷ []) (qs ++ q ∷ []) ≡ queues_text profile ns qs ++ queue_part profile n q
queues_push profile [] [] n q same = ap (λ (l : List ℕ). codes " queue" ++ (entry_text profile (string_bytes n) ++ l)) (append-nil (queue_text q))
queues_push profile [] (p ∷ qs) n q same = absurd (omega (arith, same))
queues_push profile (m ∷ ns) [] n q same = absurd (omega (arith, same))
queues_push profile (m ∷ ns) (p ∷ qs) n q same =
    let rest = queues_text profile ns qs in
    let last = queue_part profile n q in
    ap (λ (l : List ℕ). codes " queue" ++ (entry_text profile (string_bytes m) ++ (queue_text p ++ l))) (queues_push profile ns qs n q (omega (arith, same)))
    ∙ ap (λ (l : List ℕ). codes " queue" ++ (entry_text profile (string_bytes m) ++ l)) (sym (append_assoc (queue_text p) rest last))
    ∙ ap (λ (l : List ℕ). codes " queue" ++ l) (sym (append_assoc (entry_text profile (string_bytes m)) (queue_text p ++ rest) last))

-- one queue more
pub queues_more : (profile : Profile) (ns : List (String Global)) (qs : List (List Waiting)) (i : ℕ) (n : String Global) (q : List Waiting) → length qs ≡ length ns → i < length ns → n ≡ get_or ns i n → q ≡ get_or qs i q
    → (before text new : List ℕ) → text ≡ before ++ queues_text profile (take i ns) (take i qs) → new ≡ text ++ queue_part profile n q → new ≡ before ++ queues_text profile (take (i + 1) ns) (take (i + 1) qs)
queues_more profile ns qs i n q same below first second before text new so_far printed =
    let left : take (i + 1) ns ≡ take i ns ++ n ∷ [] = take_more ns i n below ∙ ap (λ (x : String Global). take i ns ++ x ∷ []) (sym first) in
    let right : take (i + 1) qs ≡ take i qs ++ q ∷ [] = take_more qs i q (omega (arith, below, same)) ∙ ap (λ (x : List Waiting). take i qs ++ x ∷ []) (sym second) in
    let long : length (take i ns) ≡ length (take i qs) = omega (arith, length-take-le i ns (omega (arith, below)), length-take-le i qs (omega (arith, below, same))) in
    printed ∙ ap (λ (l : List ℕ). l ++ queue_part profile n q) so_far ∙ append_assoc before (queues_text profile (take i ns) (take i qs)) (queue_part profile n q)
    ∙ ap (λ (l : List ℕ). before ++ l) (sym (ap₂ (queues_text profile) left right ∙ queues_push profile (take i ns) (take i qs) n q long))

-- ---- lines

objects_push : (profile : Profile) (ds : List ObjectDeclaration) (os : List Protected) (d : ObjectDeclaration) (o : Protected) → length ds ≡ length os → object_lines profile (ds ++ d ∷ []) (os ++ o ∷ []) ≡ object_lines profile ds os ++ object_line profile d o
objects_push profile [] [] d o same = append-nil (object_line profile d o)
objects_push profile [] (p ∷ os) d o same = absurd (omega (arith, same))
objects_push profile (e ∷ ds) [] d o same = absurd (omega (arith, same))
objects_push profile (e ∷ ds) (p ∷ os) d o same = ap (λ (l : List ℕ). object_line profile e p ++ l) (objects_push profile ds os d o (omega (arith, same))) ∙ sym (append_assoc (object_line profile e p) (object_lines profile ds os) (object_line profile d o))

-- one line more
pub objects_more : (profile : Profile) (ds : List ObjectDeclaration) (os : List Protected) (i : ℕ) (d : ObjectDeclaration) (o other : Protected) → length os ≡ length ds → i < length ds → d ≡ get_or ds i d → o ≡ get_or os i other
    → (before text new : List ℕ) → text ≡ before ++ object_lines profile (take i ds) (take i os) → new ≡ text ++ object_line profile d o → new ≡ before ++ object_lines profile (take (i + 1) ds) (take (i + 1) os)
objects_more profile ds os i d o other same below first second before text new so_far printed =
    let left : take (i + 1) ds ≡ take i ds ++ d ∷ [] = take_more ds i d below ∙ ap (λ (x : ObjectDeclaration). take i ds ++ x ∷ []) (sym first) in
    let right : take (i + 1) os ≡ take i os ++ o ∷ [] = take_more os i other (omega (arith, below, same)) ∙ ap (λ (x : Protected). take i os ++ x ∷ []) (sym second) in
    let long : length (take i ds) ≡ length (take i os) = omega (arith, length-take-le i ds (omega (arith, below)), length-take-le i os (omega (arith, below, same))) in
    printed ∙ ap (λ (l : List ℕ). l ++ object_line profile d o) so_far ∙ append_assoc before (object_lines profile (take i ds) (take i os)) (object_line profile d o)
    ∙ ap (λ (l : List ℕ). before ++ l) (sym (ap₂ (object_lines profile) left right ∙ objects_push profile (take i ds) (take i os) d o long))

-- objects that are made as declared: as many, and each with as many queues as it has entries
pub made_many : (declared : List ObjectDeclaration) (objects : List Protected) → AllZip IsMade declared objects → length objects ≡ length declared
made_many [] [] made = refl
made_many [] (o ∷ objects) made = absurd made
made_many (d ∷ declared) [] made = absurd made
made_many (d ∷ declared) (o ∷ objects) made = ap suc (made_many declared objects made.1)

pub made_queues : (declared : List ObjectDeclaration) (objects : List Protected) (i : ℕ) (d : ObjectDeclaration) (o : Protected) → AllZip IsMade declared objects → slice_get declared i ≡ Some d → slice_get objects i ≡ Some o → length o.state.queues ≡ length d.entries.items
made_queues [] objects i d o made first second = absurd (cc)
made_queues (e ∷ declared) [] i d o made first second = absurd made
made_queues (e ∷ declared) (p ∷ objects) zero d o made first second =
    let left : e ≡ d = cc in
    let right : p ≡ o = cc in
    ap (λ (x : Protected). length x.state.queues) (sym right) ∙ made.0.queues ∙ ap (λ (x : ObjectDeclaration). length x.entries.items) left
made_queues (e ∷ declared) (p ∷ objects) (suc i) d o made first second = made_queues declared objects i d o made.1 first second

timers_push : (ds : List TimingEvent) (os : List (Option ℤ)) (d : TimingEvent) (o : (Option ℤ)) → length ds ≡ length os → timer_lines (ds ++ d ∷ []) (os ++ o ∷ []) ≡ timer_lines ds os ++ timer_line d o
timers_push [] [] d o same = append-nil (timer_line d o)
timers_push [] (p ∷ os) d o same = absurd (omega (arith, same))
timers_push (e ∷ ds) [] d o same = absurd (omega (arith, same))
timers_push (e ∷ ds) (p ∷ os) d o same = ap (λ (l : List ℕ). timer_line e p ++ l) (timers_push ds os d o (omega (arith, same))) ∙ sym (append_assoc (timer_line e p) (timer_lines ds os) (timer_line d o))

-- one line more
pub timers_more : (ds : List TimingEvent) (os : List (Option ℤ)) (i : ℕ) (d : TimingEvent) (o other : (Option ℤ)) → length os ≡ length ds → i < length ds → d ≡ get_or ds i d → o ≡ get_or os i other
    → (before text new : List ℕ) → text ≡ before ++ timer_lines (take i ds) (take i os) → new ≡ text ++ timer_line d o → new ≡ before ++ timer_lines (take (i + 1) ds) (take (i + 1) os)
timers_more ds os i d o other same below first second before text new so_far printed =
    let left : take (i + 1) ds ≡ take i ds ++ d ∷ [] = take_more ds i d below ∙ ap (λ (x : TimingEvent). take i ds ++ x ∷ []) (sym first) in
    let right : take (i + 1) os ≡ take i os ++ o ∷ [] = take_more os i other (omega (arith, below, same)) ∙ ap (λ (x : (Option ℤ)). take i os ++ x ∷ []) (sym second) in
    let long : length (take i ds) ≡ length (take i os) = omega (arith, length-take-le i ds (omega (arith, below)), length-take-le i os (omega (arith, below, same))) in
    printed ∙ ap (λ (l : List ℕ). l ++ timer_line d o) so_far ∙ append_assoc before (timer_lines (take i ds) (take i os)) (timer_line d o)
    ∙ ap (λ (l : List ℕ). before ++ l) (sym (ap₂ timer_lines left right ∙ timers_push (take i ds) (take i os) d o long))
