-- The text of a script's line is read back.
use Rattle.std.proofs.Common.{◌≡◌, ℕ, zero, suc, ◌+◌, ◌-◌, ◌^◌, ◌<◌, ◌||◌, ◌&&◌, not, List, [], ◌∷◌, ◌++◌, Bool, true, false, cond, length, Some, None, Result, Ok, nat_lt, arith, inl, inr, ap, refl, sym, subst, ◌∙◌}
use Rattle.std.specs.Prelude.{ℤ, pos, negsuc, IsTrue, FitsSigned, codes, slice_get, slice_index_or}
use Rattle.std.specs.Fmt.{decimal, signed_decimal}
use Rattle.std.specs.Int.{w64}
use Rattle.std.specs.List.{prefix_len, list_all}
use Rattle.std.specs.Str.{bytes_eq}
use Rattle.std.proofs.lemmas.Bool.{cases_Bool, cond-true, cond-false, eqb-true, eq-eqb, lt-ltb}
use Rattle.std.proofs.lemmas.Option.{slice_get_within, get_or_from_slice_get}
use Rattle.std.proofs.lemmas.Slice.Eq.{bytes_eq-Decides}
use Rattle.rp_deck.specs.rp_base.specs.declared.action.Operation.{Operation}
use Rattle.rp_deck.specs.rp_base.specs.declared.action.Operation.TheVariants as operations
use Rattle.rp_deck.specs.rp_base.specs.declared.fault.DeckReason.{DeckReason}
use Rattle.rp_deck.specs.rp_model.specs.Events.{Event, Step, Submit, Again, Makes, Cut, Stop, Restart, Deliver, Lead, LeadRange, Interrupt, Tick, Report, Ask}
use Rattle.rp_deck.specs.declared.deck.Mode.TheVariants.{Script}
use Rattle.rp_deck.specs.declared.verbs.Verb.{Verb}
use Rattle.rp_deck.specs.declared.verbs.Verb.TheVariants as verbs
use Rattle.rp_words.specs.Words.{is_name}
use Rattle.rp_words.specs.Tables.{is_declared, place_of, find}
use Rattle.rp_words.specs.Reading.{made_of, number_at}
use Rattle.rp_deck.specs.Script.{IsUpTo, IsMessage}
use Rattle.rp_deck_declarations.specs.rp_deck_objects.specs.ObjectViews.{OperationsText}
use Rattle.rp_deck_declarations.specs.ScriptNames.{DeclaredNames}
use Rattle.rp_deck.specs.ScriptLines.{declared_at, operation_at, timer_at, message_at, argument_at, position_at, last_at, lead_at, range_at, deliver_at, interrupt_at, tick_at, step_from, call_at, arm_at, disarm_at, again_at, cut_at, lose_at, CommandText, Take, Lose, Drain, Show, verb_named, command_at, command_line}
use Rattle.rp_deck_laws.specs.ScriptText.{spaced, line_of, step_words, argument_words, submit_words, event_words, command_words, name_numbered, same_operation, operation_name_in, operation_name, operations_numbered, is_distinct, are_names, AreDeclared, IsOneOf, HasOperation, IsTimerOf, IsSubmitOf, IsStepOf, MayBeCut, IsEventOf, IsCommandOf}
use Rattle.rp_words.proofs.WordsLemmas.{both}
use Rattle.rp_words.proofs.TablesLemmas.{found_step}
use Rattle.rp_deck_laws.proofs.SpacedLemmas.{is_solid, word_back, word_there, signed_solid, decimal_solid, name_back, number_back, integer_back, dotted_back, dotted_solid, end_back}

-- ---- a name among names

pub same_text : (name : List ℕ) → bytes_eq name name ≡ true
same_text name = (bytes_eq-Decides name name).1 refl

pub or_right : (a b : Bool) → b ≡ true → (a || b) ≡ true
or_right true b h = refl
or_right false b h = h

pub no_first : (a : Bool) → (a ≡ true → ⊥) → a ≡ false
no_first true h = absurd (h refl)
no_first false h = refl

not_declared : (a b : Bool) → (not a && b) ≡ true → a ≡ true → ⊥
not_declared true b h = λ e. absurd cc
not_declared false b h = λ e. absurd cc

there : {X : Type 0} (xs : List X) (k : ℕ) (d : X) → k < length xs → slice_get xs k ≡ Some (slice_index_or xs k d)
there [] k d below = absurd (omega (arith, below))
there (x ∷ xs) zero d below = refl
there (x ∷ xs) (suc k) d below = there xs k d (omega (arith, below))

of_each : {X : Type 0} (test : X → Bool) (xs : List X) (k : ℕ) (x : X) → list_all test xs ≡ true → slice_get xs k ≡ Some x → test x ≡ true
of_each test [] k x all at = absurd cc
of_each {X} test (y ∷ ys) zero x all at = let same : y ≡ x = cc in subst (λ (z : X). test z ≡ true) same (both (test y) (list_all test ys) all).0
of_each test (y ∷ ys) (suc k) x all at = of_each test ys k x (both (test y) (list_all test ys) all).1 at

declared_there : (names : List (List ℕ)) (k : ℕ) (name : List ℕ) → slice_get names k ≡ Some name → is_declared name names ≡ true
declared_there [] k name at = absurd cc
declared_there (x ∷ xs) zero name at =
    let same : name ≡ x = cc in ap (λ (t : Bool). t || is_declared name xs) ((bytes_eq-Decides name x).1 same)
declared_there (x ∷ xs) (suc k) name at = or_right (bytes_eq name x) (is_declared name xs) (declared_there xs k name at)

-- a name after a name that is not among those after it is another
pub another : (x name : List ℕ) (xs : List (List ℕ)) → is_distinct (x ∷ xs) ≡ true → is_declared name xs ≡ true → bytes_eq name x ≡ false
another x name xs distinct among =
    no_first (bytes_eq name x) (λ e. not_declared (is_declared x xs) (is_distinct xs) distinct (subst (λ (n : List ℕ). is_declared n xs ≡ true) ((bytes_eq-Decides name x).0 e) among))

place_at : (names : List (List ℕ)) (k : ℕ) (name : List ℕ) → is_distinct names ≡ true → slice_get names k ≡ Some name → prefix_len (λ key. not (bytes_eq name key)) names ≡ k
place_at [] k name distinct at = absurd cc
place_at (x ∷ xs) zero name distinct at =
    let same : name ≡ x = cc in ap (λ (t : Bool). cond (not t) (1 + prefix_len (λ key. not (bytes_eq name key)) xs) 0) ((bytes_eq-Decides name x).1 same)
place_at (x ∷ xs) (suc k) name distinct at =
    let rest : prefix_len (λ key. not (bytes_eq name key)) xs ≡ k = place_at xs k name (both (not (is_declared x xs)) (is_distinct xs) distinct).1 at in
    ap (λ (t : Bool). cond (not t) (1 + prefix_len (λ key. not (bytes_eq name key)) xs) 0) (another x name xs distinct (declared_there xs k name at)) ∙ omega (arith, rest)

pub place_back : (names : List (List ℕ)) (k : ℕ) (name : List ℕ) → is_distinct names ≡ true → slice_get names k ≡ Some name → place_of name names ≡ Some k
place_back names k name distinct at =
    ap (λ (m : ℕ). cond (nat_lt m (length names)) (Some m) None) (place_at names k name distinct at)
    ∙ ap (λ (t : Bool). cond t (Some k) None) (lt-ltb k (length names) (slice_get_within names k name at))

-- a name by its number is a name, at its place
pub record IsNumbered (names : List (List ℕ)) (number : ℕ) : Type 0 where
  pub name : is_name (name_numbered names number) ≡ true
  pub place : place_of (name_numbered names number) names ≡ Some (number - 1)
  pub number_is : number - 1 + 1 ≡ number

pub numbered : (names : List (List ℕ)) (number : ℕ) → IsTrue (are_names names) → IsUpTo (length names) number → IsNumbered names number
numbered names number right within =
    let t = both (list_all is_name names) (is_distinct names) right in
    let at : slice_get names (number - 1) ≡ Some (name_numbered names number) = there names (number - 1) [] (omega (arith, within.0, within.1)) in
    record {
      name = of_each is_name names (number - 1) (name_numbered names number) t.0 at;
      place = place_back names (number - 1) (name_numbered names number) t.1 at;
      number_is = omega (arith, within.0);
    }

pub declared_back : (names : List (List ℕ)) (number : ℕ) (words : List (List ℕ)) → IsTrue (are_names names) → IsUpTo (length names) number
    → declared_at names (spaced (name_numbered names number ∷ words)) ≡ Ok (number, spaced words)
unfolding declared_at
declared_back names number words right within =
    let is = numbered names number right within in
    let name : List ℕ = name_numbered names number in
    rw (name_back name words is.name, is.place, is.number_is) refl

-- ---- an operation of an object

same_is : (a b : Operation) → same_operation a b ≡ true → a ≡ b
same_is (operations.Function a) (operations.Function b) h = ap operations.Function (eqb-true a b h)
same_is (operations.Procedure a) (operations.Procedure b) h = ap operations.Procedure (eqb-true a b h)
same_is (operations.Entry a) (operations.Entry b) h = ap operations.Entry (eqb-true a b h)
same_is a b h = absurd cc

pub find_step : {X : Type 0} (name x : List ℕ) (names : List (List ℕ)) (v : X) (values : List X) → find name (x ∷ names) (v ∷ values) ≡ cond (bytes_eq name x) (Some v) (find name names values)
find_step name x names v values = found_step (bytes_eq name x) (prefix_len (λ key. not (bytes_eq name key)) names) (length names) (find name names values) v values refl

-- the name that is found for an operation denotes it
pub record IsNamed (names : List (List ℕ)) (declared : List Operation) (operation : Operation) (name : List ℕ) : Type 0 where
  pub name_is : is_name name ≡ true
  pub among : is_declared name names ≡ true
  pub names_operation : find name names declared ≡ Some operation

named_here : (name : List ℕ) (names : List (List ℕ)) (first operation : Operation) (rest : List Operation) → is_name name ≡ true → first ≡ operation → IsNamed (name ∷ names) (first ∷ rest) operation name
named_here name names first operation rest name_is same = record {
  name_is = name_is;
  among = ap (λ (t : Bool). t || is_declared name names) (same_text name);
  names_operation = find_step name name names first rest ∙ ap (λ (t : Bool). cond t (Some first) (find name names rest)) (same_text name) ∙ ap Some same;
}

named_after : (x name : List ℕ) (names : List (List ℕ)) (first operation : Operation) (rest : List Operation) → is_distinct (x ∷ names) ≡ true → IsNamed names rest operation name → IsNamed (x ∷ names) (first ∷ rest) operation name
named_after x name names first operation rest distinct named = record {
  name_is = named.name_is;
  among = or_right (bytes_eq name x) (is_declared name names) named.among;
  names_operation = find_step name x names first rest ∙ ap (λ (t : Bool). cond t (Some first) (find name names rest)) (another x name names distinct named.among) ∙ named.names_operation;
}

pub by_name : (names : List (List ℕ)) (declared : List Operation) (operation : Operation) → same_operation operation operation ≡ true → list_all is_name names ≡ true → is_distinct names ≡ true
    → length names ≡ length declared → IsOneOf declared operation → IsNamed names declared operation (operation_name_in names declared operation)
by_name [] [] operation same all distinct even one = absurd one
by_name [] (first ∷ rest) operation same all distinct even one = absurd (omega (arith, even))
by_name (name ∷ names) [] operation same all distinct even one = absurd (omega (arith, even))
by_name (name ∷ names) (first ∷ rest) operation same all distinct even one =
    let names_are = both (is_name name) (list_all is_name names) all in
    let apart = both (not (is_declared name names)) (is_distinct names) distinct in
    let later : List ℕ = operation_name_in names rest operation in
    elim (cases_Bool (same_operation first operation)) [
      | inl hit ↦ subst (λ (n : List ℕ). IsNamed (name ∷ names) (first ∷ rest) operation n) (sym (cond-true (same_operation first operation) name later hit)) (named_here name names first operation rest names_are.0 (same_is first operation hit))
      | inr miss ↦ subst (λ (n : List ℕ). IsNamed (name ∷ names) (first ∷ rest) operation n) (sym (cond-false (same_operation first operation) name later miss))
          (named_after name later names first operation rest distinct (by_name names rest operation same names_are.1 apart.1 (omega (arith, even)) (elim one [
            | inl here ↦ absurd (by here miss)
            | inr following ↦ following
          ])))
    ]
  where
    by : first ≡ operation → same_operation first operation ≡ false → ⊥
    by here miss = let e : same_operation operation operation ≡ false = subst (λ (o : Operation). same_operation o operation ≡ false) here miss in cc

-- its name is a name
pub named_operation : (d : DeclaredNames) (object : ℕ) (operation : Operation) → AreDeclared d → HasOperation d object operation → same_operation operation operation ≡ true → is_name (operation_name d object operation) ≡ true
named_operation d object operation right call same =
    let own = right.operations (object - 1) call.own call.own_is in
    let names_are = both (list_all is_name call.own.names) (is_distinct call.own.names) own.names in
    let numbered_own : operations_numbered d object ≡ call.own = get_or_from_slice_get d.operations (object - 1) call.own (record { names = []; operations = [] }) call.own_is in
    subst (λ (o : OperationsText). is_name (operation_name_in o.names o.operations operation) ≡ true) (sym numbered_own)
    (by_name call.own.names call.own.operations operation same names_are.0 names_are.1 own.even call.operation_is).name_is

pub operation_back : (d : DeclaredNames) (object : ℕ) (operation : Operation) (words : List (List ℕ)) → AreDeclared d → HasOperation d object operation → same_operation operation operation ≡ true
    → operation_at d (spaced ((name_numbered d.objects object ++ 46 ∷ operation_name d object operation) ∷ words)) ≡ Ok (object, operation, spaced words)
unfolding operation_at
operation_back d object operation words right call same =
    let is = numbered d.objects object right.objects call.object_is in
    let own = right.operations (object - 1) call.own call.own_is in
    let names_are = both (list_all is_name call.own.names) (is_distinct call.own.names) own.names in
    let numbered_own : operations_numbered d object ≡ call.own = get_or_from_slice_get d.operations (object - 1) call.own (record { names = []; operations = [] }) call.own_is in
    let named = by_name call.own.names call.own.operations operation same names_are.0 names_are.1 own.even call.operation_is in
    let first : List ℕ = name_numbered d.objects object in
    let second : List ℕ = operation_name_in call.own.names call.own.operations operation in
    let written : operation_name d object operation ≡ second = ap (λ (o : OperationsText). operation_name_in o.names o.operations operation) numbered_own in
    let solid = dotted_solid first second is.name named.name_is in
    rw (written, word_back (first ++ 46 ∷ second) words solid, dotted_back first second is.name named.name_is, is.place, call.own_is, named.names_operation, is.number_is) refl

-- ---- a timing event

pub timer_back : (d : DeclaredNames) (object timer : ℕ) (words : List (List ℕ)) → AreDeclared d → IsTimerOf d object timer
    → timer_at d (spaced (name_numbered d.timers timer ∷ words)) ≡ Ok (timer, object, spaced words)
unfolding timer_at
timer_back d object timer words right is_timer =
    let is = numbered d.timers timer right.timers is_timer.timer_is in
    rw (name_back (name_numbered d.timers timer) words is.name, is.place, is_timer.handler_is, is.number_is, is_timer.object_is) refl

-- ---- numbers of nodes, messages and positions

pub node_back : (d : DeclaredNames) (node : ℕ) (words : List (List ℕ)) → AreDeclared d → IsUpTo d.nodes node → number_at 1 d.nodes (spaced (decimal node ∷ words)) ≡ Ok (node, spaced words)
node_back d node words right within = number_back 1 d.nodes node words within.0 within.1 (omega (arith, right.nodes, within.1))

pub message_back : (message : ℕ) (words : List (List ℕ)) → IsMessage message → message_at (spaced (decimal message ∷ words)) ≡ Ok (message, spaced words)
unfolding message_at
message_back message words is = number_back 1 (2 ^ 63 - 1) message words is.0 (omega (arith, is.1)) is.1

argument_there : (z : ℤ) → FitsSigned w64 z → argument_at (spaced (signed_decimal z ∷ [])) ≡ Ok (z, spaced [])
unfolding argument_at
argument_there z fits = rw (word_there (signed_decimal z) [] (signed_solid z fits)) (integer_back z [] fits)

no_argument : argument_at (spaced []) ≡ Ok (pos 0, spaced [])
unfolding argument_at
no_argument = refl

argument_back : (z : ℤ) → FitsSigned w64 z → argument_at (spaced (argument_words z)) ≡ Ok (z, spaced [])
argument_back (pos zero) fits = no_argument
argument_back (pos (suc n)) fits = argument_there (pos (suc n)) fits
argument_back (negsuc n) fits = argument_there (negsuc n) fits

last_back : (first last : ℕ) (words : List (List ℕ)) → IsMessage last → last_at first (spaced (decimal last ∷ words)) ≡ Ok (last, spaced words)
unfolding last_at
last_back first last words is = rw (word_there (decimal last) words (decimal_solid last (omega (arith, is.1)))) (message_back last words is)

position_back : (position : ℕ) → IsUpTo 65535 position → position_at (spaced (decimal position ∷ [])) ≡ Ok (Some position, spaced [])
unfolding position_at
position_back position is =
    rw (word_there (decimal position) [] (decimal_solid position (omega (arith, is.1))), number_back 1 65535 position [] is.0 is.1 (omega (arith, is.1))) refl

no_position : position_at (spaced []) ≡ Ok (None, spaced [])
unfolding position_at
no_position = refl

-- ---- steps

lead_back : (d : DeclaredNames) (node : ℕ) (position : ℕ) → AreDeclared d → IsUpTo d.nodes node → IsUpTo 65535 position
    → lead_at d.nodes (spaced (decimal node ∷ decimal position ∷ [])) ≡ Ok (Lead node (Some position), spaced [])
unfolding lead_at
lead_back d node position right within is = rw (node_back d node (decimal position ∷ []) right within, position_back position is) refl

lead_any : (d : DeclaredNames) (node : ℕ) → AreDeclared d → IsUpTo d.nodes node → lead_at d.nodes (spaced (decimal node ∷ [])) ≡ Ok (Lead node None, spaced [])
unfolding lead_at
lead_any d node right within = rw (node_back d node [] right within, no_position) refl

range_back : (d : DeclaredNames) (node first count : ℕ) → AreDeclared d → IsUpTo d.nodes node → IsUpTo 65535 first → IsUpTo 64 count
    → range_at d.nodes (spaced (decimal node ∷ decimal first ∷ decimal count ∷ [])) ≡ Ok (LeadRange node first count, spaced [])
unfolding range_at
range_back d node first count right within position few =
    rw (
      node_back d node (decimal first ∷ decimal count ∷ []) right within,
      number_back 1 65535 first (decimal count ∷ []) position.0 position.1 (omega (arith, position.1)),
      number_back 1 64 count [] few.0 few.1 (omega (arith, few.1)),
    ) refl

deliver_back : (message : ℕ) → IsMessage message → deliver_at (spaced (decimal message ∷ [])) ≡ Ok (Deliver message, spaced [])
unfolding deliver_at
deliver_back message is = rw (message_back message [] is) refl

interrupt_back : (d : DeclaredNames) (node source occurrence : ℕ) → AreDeclared d → IsUpTo d.nodes node → IsUpTo (length d.interrupts) source → IsUpTo (2 ^ 32 - 1) occurrence
    → interrupt_at d (spaced (decimal node ∷ name_numbered d.interrupts source ∷ decimal occurrence ∷ [])) ≡ Ok (Interrupt node source occurrence, spaced [])
unfolding interrupt_at
interrupt_back d node source occurrence right within is count =
    rw (
      node_back d node (name_numbered d.interrupts source ∷ decimal occurrence ∷ []) right within,
      declared_back d.interrupts source (decimal occurrence ∷ []) right.interrupts is,
      number_back 1 (2 ^ 32 - 1) occurrence [] count.0 count.1 (omega (arith, count.1)),
    ) refl

tick_back : (d : DeclaredNames) (node now : ℕ) → AreDeclared d → IsUpTo d.nodes node → now < 2 ^ 32 → tick_at d.nodes (spaced (decimal node ∷ decimal now ∷ [])) ≡ Ok (Tick node now, spaced [])
unfolding tick_at
tick_back d node now right within small =
    rw (node_back d node (decimal now ∷ []) right within, number_back 0 (2 ^ 32 - 1) now [] (omega arith) (omega (arith, small)) (omega (arith, small))) refl

-- ---- events

call_back : (d : DeclaredNames) (task node object : ℕ) (operation : Operation) (arg : ℤ) → AreDeclared d → IsUpTo (length d.tasks) task → IsUpTo d.nodes node
    → HasOperation d object operation → same_operation operation operation ≡ true → FitsSigned w64 arg
    → call_at d (spaced (name_numbered d.tasks task ∷ decimal node ∷ (name_numbered d.objects object ++ 46 ∷ operation_name d object operation) ∷ argument_words arg)) ≡ Ok (Submit task node object operation arg, spaced [])
unfolding call_at
call_back d task node object operation arg right is within call same fits =
    let called : List ℕ = name_numbered d.objects object ++ 46 ∷ operation_name d object operation in
    rw (
      declared_back d.tasks task (decimal node ∷ called ∷ argument_words arg) right.tasks is,
      node_back d node (called ∷ argument_words arg) right within,
      operation_back d object operation (argument_words arg) right call same,
      argument_back arg fits,
    ) refl

arm_back : (d : DeclaredNames) (task node object timer : ℕ) (time : ℤ) → AreDeclared d → IsUpTo (length d.tasks) task → IsUpTo d.nodes node → IsTimerOf d object timer → FitsSigned w64 time
    → arm_at d (spaced (name_numbered d.tasks task ∷ decimal node ∷ name_numbered d.timers timer ∷ signed_decimal time ∷ [])) ≡ Ok (Submit task node object (operations.SetTimer timer) time, spaced [])
unfolding arm_at
arm_back d task node object timer time right is within is_timer fits =
    rw (
      declared_back d.tasks task (decimal node ∷ name_numbered d.timers timer ∷ signed_decimal time ∷ []) right.tasks is,
      node_back d node (name_numbered d.timers timer ∷ signed_decimal time ∷ []) right within,
      timer_back d object timer (signed_decimal time ∷ []) right is_timer,
      integer_back time [] fits,
    ) refl

disarm_back : (d : DeclaredNames) (task node object timer : ℕ) → AreDeclared d → IsUpTo (length d.tasks) task → IsUpTo d.nodes node → IsTimerOf d object timer
    → disarm_at d (spaced (name_numbered d.tasks task ∷ decimal node ∷ name_numbered d.timers timer ∷ [])) ≡ Ok (Submit task node object (operations.CancelTimer timer) (pos 0), spaced [])
unfolding disarm_at
disarm_back d task node object timer right is within is_timer =
    rw (
      declared_back d.tasks task (decimal node ∷ name_numbered d.timers timer ∷ []) right.tasks is,
      node_back d node (name_numbered d.timers timer ∷ []) right within,
      timer_back d object timer [] right is_timer,
    ) refl

again_back : (d : DeclaredNames) (task node : ℕ) → AreDeclared d → IsUpTo (length d.tasks) task → IsUpTo d.nodes node
    → again_at d (spaced (name_numbered d.tasks task ∷ decimal node ∷ [])) ≡ Ok (Again task node, spaced [])
unfolding again_at
again_back d task node right is within = rw (declared_back d.tasks task (decimal node ∷ []) right.tasks is, node_back d node [] right within) refl

-- a node alone
at_node : (d : DeclaredNames) (node : ℕ) (make : ℕ → Event) → AreDeclared d → IsUpTo d.nodes node
    → made_of (λ (n : ℕ). Take (make n)) (number_at 1 d.nodes (spaced (decimal node ∷ []))) ≡ Ok (Take (make node), spaced [])
at_node d node make right within = ap (λ (read : Result (ℕ × List ℕ) DeckReason). made_of (λ (n : ℕ). Take (make n)) read) (node_back d node [] right within)

-- a step that is cut: its first word, and the words after it
cut_back : (d : DeclaredNames) (kept : ℕ) (first : List ℕ) (verb : Verb) (words : List (List ℕ)) (step : Step) → kept < 2 ^ 63 → is_solid first ≡ true → verb_named first ≡ Some verb
    → step_from d.nodes verb (spaced words) ≡ Ok (step, spaced []) → cut_at d.nodes (spaced (decimal kept ∷ first ∷ words)) ≡ Ok (Cut step kept, spaced [])
unfolding cut_at
cut_back d kept first verb words step small solid named is =
    rw (number_back 0 (2 ^ 63 - 1) kept (first ∷ words) (omega arith) (omega (arith, small)) small, word_back first words solid, named, is) refl

lose_back : (first last : ℕ) → IsMessage first → IsMessage last → lose_at (spaced (decimal first ∷ decimal last ∷ [])) ≡ Ok (Lose first last, spaced [])
unfolding lose_at
lose_back first last one two = rw (message_back first (decimal last ∷ []) one, last_back first last [] two) refl

-- ---- commands

-- a line of a verb, whose words were read to the end
line_back : (d : DeclaredNames) (number : ℕ) (first : List ℕ) (words : List (List ℕ)) (verb : Verb) (command : CommandText) → verb_named first ≡ Some verb
    → command_at d verb (spaced words) ≡ Ok (command, spaced []) → command_line Script d (line_of number (first ∷ words)) ≡ Ok command
unfolding command_line
line_back d number first words verb command is read = rw (is, read, end_back) refl

-- a command for an event, and for a step of a node
abbrev taken : Result (Event × List ℕ) DeckReason → Result (CommandText × List ℕ) DeckReason
taken read = made_of Take read

abbrev made : Result (Step × List ℕ) DeckReason → Result (CommandText × List ℕ) DeckReason
made read = made_of (λ step. Take (Makes step)) read

step_back : (d : DeclaredNames) (number : ℕ) (step : Step) → AreDeclared d → IsStepOf d step → command_line Script d (line_of number (step_words d step)) ≡ Ok (Take (Makes step))
step_back d number (Deliver message) right is = line_back d number (codes "deliver") (decimal message ∷ []) verbs.Deliver _ refl (ap made (deliver_back message is))
step_back d number (Lead node None) right is = line_back d number (codes "lead") (decimal node ∷ []) verbs.Lead _ refl (ap made (lead_any d node right is.0))
step_back d number (Lead node (Some position)) right is = line_back d number (codes "lead") (decimal node ∷ decimal position ∷ []) verbs.Lead _ refl (ap made (lead_back d node position right is.0 is.1))
step_back d number (LeadRange node first count) right is =
    line_back d number (codes "range") (decimal node ∷ decimal first ∷ decimal count ∷ []) verbs.Range _ refl (ap made (range_back d node first count right is.0 is.1 is.2))
step_back d number (Interrupt node source occurrence) right is =
    line_back d number (codes "irq") (decimal node ∷ name_numbered d.interrupts source ∷ decimal occurrence ∷ []) verbs.Interrupt _ refl (ap made (interrupt_back d node source occurrence right is.0 is.1 is.2))
step_back d number (Tick node now) right is = line_back d number (codes "tick") (decimal node ∷ decimal now ∷ []) verbs.Tick _ refl (ap made (tick_back d node now right is.0 is.1))
step_back d number (Report node first) right is = absurd is
step_back d number (Ask node to) right is = absurd is

cut_line : (d : DeclaredNames) (number kept : ℕ) (step : Step) → AreDeclared d → IsStepOf d step → MayBeCut step → kept < 2 ^ 63 → command_line Script d (line_of number (codes "cut" ∷ decimal kept ∷ step_words d step)) ≡ Ok (Take (Cut step kept))
cut_line d number kept (Deliver message) right is may small =
    line_back d number (codes "cut") (decimal kept ∷ codes "deliver" ∷ decimal message ∷ []) verbs.Cut _ refl (ap taken (cut_back d kept (codes "deliver") verbs.Deliver (decimal message ∷ []) (Deliver message) small refl refl (deliver_back message is)))
cut_line d number kept (Lead node None) right is may small =
    line_back d number (codes "cut") (decimal kept ∷ codes "lead" ∷ decimal node ∷ []) verbs.Cut _ refl (ap taken (cut_back d kept (codes "lead") verbs.Lead (decimal node ∷ []) (Lead node None) small refl refl (lead_any d node right is.0)))
cut_line d number kept (Lead node (Some position)) right is may small =
    line_back d number (codes "cut") (decimal kept ∷ codes "lead" ∷ decimal node ∷ decimal position ∷ []) verbs.Cut _ refl
    (ap taken (cut_back d kept (codes "lead") verbs.Lead (decimal node ∷ decimal position ∷ []) (Lead node (Some position)) small refl refl (lead_back d node position right is.0 is.1)))
cut_line d number kept (LeadRange node first count) right is may small =
    line_back d number (codes "cut") (decimal kept ∷ codes "range" ∷ decimal node ∷ decimal first ∷ decimal count ∷ []) verbs.Cut _ refl
    (ap taken (cut_back d kept (codes "range") verbs.Range (decimal node ∷ decimal first ∷ decimal count ∷ []) (LeadRange node first count) small refl refl
    (range_back d node first count right is.0 is.1 is.2)))
cut_line d number kept (Interrupt node source occurrence) right is may small = absurd may
cut_line d number kept (Tick node now) right is may small = absurd may
cut_line d number kept (Report node first) right is may small = absurd may
cut_line d number kept (Ask node to) right is may small = absurd may

call_line : (d : DeclaredNames) (number task node object : ℕ) (operation : Operation) (arg : ℤ) → AreDeclared d → IsUpTo (length d.tasks) task → IsUpTo d.nodes node → IsSubmitOf d object operation arg
    → command_line Script d (line_of number (submit_words d task node object operation arg)) ≡ Ok (Take (Submit task node object operation arg))
call_line d number task node object (operations.Function index) arg right is within submit =
    line_back d number (codes "call") (name_numbered d.tasks task ∷ decimal node ∷ (name_numbered d.objects object ++ 46 ∷ operation_name d object (operations.Function index)) ∷ argument_words arg) verbs.Call _ refl (ap taken (call_back d task node object (operations.Function index) arg right is within submit.0 (eq-eqb index index refl) submit.1))
call_line d number task node object (operations.Procedure index) arg right is within submit =
    line_back d number (codes "call") (name_numbered d.tasks task ∷ decimal node ∷ (name_numbered d.objects object ++ 46 ∷ operation_name d object (operations.Procedure index)) ∷ argument_words arg) verbs.Call _ refl (ap taken (call_back d task node object (operations.Procedure index) arg right is within submit.0 (eq-eqb index index refl) submit.1))
call_line d number task node object (operations.Entry index) arg right is within submit =
    line_back d number (codes "call") (name_numbered d.tasks task ∷ decimal node ∷ (name_numbered d.objects object ++ 46 ∷ operation_name d object (operations.Entry index)) ∷ argument_words arg) verbs.Call _ refl (ap taken (call_back d task node object (operations.Entry index) arg right is within submit.0 (eq-eqb index index refl) submit.1))
call_line d number task node object (operations.SetTimer timer) arg right is within submit =
    line_back d number (codes "arm") (name_numbered d.tasks task ∷ decimal node ∷ name_numbered d.timers timer ∷ signed_decimal arg ∷ []) verbs.Arm _ refl (ap taken (arm_back d task node object timer arg right is within submit.0 submit.1))
call_line d number task node object (operations.CancelTimer timer) arg right is within submit =
    line_back d number (codes "disarm") (name_numbered d.tasks task ∷ decimal node ∷ name_numbered d.timers timer ∷ []) verbs.Disarm _ refl (ap taken (disarm_back d task node object timer right is within submit.0))
    ∙ ap (λ (z : ℤ). Ok (Take (Submit task node object (operations.CancelTimer timer) z))) (sym submit.1)

event_back : (d : DeclaredNames) (number : ℕ) (event : Event) → AreDeclared d → IsEventOf d event → command_line Script d (line_of number (event_words d event)) ≡ Ok (Take event)
event_back d number (Submit task node object operation arg) right is = call_line d number task node object operation arg right is.0 is.1 is.2
event_back d number (Again task node) right is = line_back d number (codes "again") (name_numbered d.tasks task ∷ decimal node ∷ []) verbs.Again _ refl (ap taken (again_back d task node right is.0 is.1))
event_back d number (Makes step) right is = step_back d number step right is
event_back d number (Cut step kept) right is = cut_line d number kept step right is.0 is.1 is.2
event_back d number (Stop node) right is = line_back d number (codes "stop") (decimal node ∷ []) verbs.Stop _ refl (at_node d node Stop right is)
event_back d number (Restart node) right is = line_back d number (codes "restart") (decimal node ∷ []) verbs.Restart _ refl (at_node d node Restart right is)

pub command_back : (d : DeclaredNames) (number : ℕ) (command : CommandText) → AreDeclared d → IsCommandOf d command → command_line Script d (line_of number (command_words d command)) ≡ Ok command
command_back d number (Take event) right is = event_back d number event right is
command_back d number (Lose first last) right is = line_back d number (codes "lose") (decimal first ∷ decimal last ∷ []) verbs.Lose _ refl (lose_back first last is.0 is.1)
command_back d number Drain right is = line_back d number (codes "drain") [] verbs.Drain Drain refl refl
command_back d number Show right is = line_back d number (codes "show") [] verbs.Show Show refl refl
