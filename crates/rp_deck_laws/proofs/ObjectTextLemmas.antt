-- The objects, interrupts and timing events of a deck are read back.
use Rattle.std.proofs.Common.{◌≡◌, ℕ, ◌+◌, ◌<◌, ◌&&◌, not, List, [], ◌∷◌, ◌++◌, Bool, true, false, cond, length, Option, Some, None, Result, Ok, arith, ap, refl, sym, ◌∙◌, append_assoc}
use Rattle.std.specs.Prelude.{codes, IfSome}
use Rattle.std.proofs.lemmas.List.{append-nil}
use Rattle.rp_deck.specs.rp_base.specs.declared.fault.DeckReason.{DeckReason}
use Rattle.rp_deck_declarations.specs.rp_object.specs.declared.program.Profile.{Profile}
use Rattle.rp_deck_declarations.specs.rp_object.specs.declared.program.Profile.TheVariants.{Ravenscar, Jorvik}
use Rattle.rp_words.specs.Lines.{LineText}
use Rattle.rp_deck_laws.specs.TallyTexts.{positions_words, task_words, AreTasks}
use Rattle.std.specs.Fmt.{decimal}
use Rattle.std.specs.Str.{bytes_eq}
use Rattle.std.proofs.lemmas.Bool.{lt-ltb}
use Rattle.rp_deck_declarations.specs.declared.draft.Kind.{Kind}
use Rattle.rp_deck_declarations.specs.declared.draft.Kind.TheVariants as kinds
use Rattle.rp_deck_declarations.specs.Declaring.{on_line, declarations_from, declarations_of}
use Rattle.rp_deck_laws.specs.DraftTexts.{at_object, Declares}
use Rattle.rp_deck_declarations.specs.Drafts.{DraftText, empty_draft, profile_line, has_body, is_in_body, allows, profile_of, object_line, handler_at, handled_at, interrupt_line, timer_line}
use Rattle.rp_deck_declarations.specs.rp_deck_objects.specs.Objects.{empty_object}
use Rattle.rp_deck_laws.specs.ObjectTexts.{DeclaredObject, DeclaredHandler, with_object, object_lines, IsTextOfObject, with_objects, objects_lines, AreObjectsOf, handler_of, IsHandlerOf, with_interrupt, with_timer, handler_words, with_interrupts, with_timers, AreInterruptsOf, AreTimersOf, handlers_lines, ObjectsText, profile_word, profile_words, tasks_draft, objects_draft, declared_lines, IsObjectsText}
use Rattle.rp_deck_laws.specs.PartTexts.{IsNew, shut, with_parts, parts_lines}
use Rattle.rp_deck.specs.Script.{IsUpTo}
use Rattle.rp_deck_laws.specs.ScriptText.{spaced, line_of, numbered_lines}
use Rattle.rp_deck_laws.proofs.SpacedLemmas.{word_back, number_back, dotted_back, dotted_solid, end_back}
use Rattle.rp_deck_laws.proofs.TallyTextLemmas.{new_back, of_kind, nodes_back, positions_back, task_back, script_here}
use Rattle.rp_deck_declarations.proofs.DeclaringLemmas.{script_ends}
use Rattle.rp_deck_laws.proofs.TextsLemmas.{numbered_append}
use Rattle.rp_deck_laws.proofs.BodyTextLemmas.{last_is, both_declare, one_declares}
use Rattle.rp_deck_laws.proofs.PartTextLemmas.{parts_declare, and_none}

object_back : (d : DraftText) (o : DeclaredObject) → IsTextOfObject d o
    → object_line d (spaced (o.name ∷ decimal o.ceiling ∷ [])) ≡ Ok (at_object (record d { objects = d.objects ++ o.name ∷ [] }) d.drafts (empty_object o.name o.ceiling))
unfolding object_line
object_back d o is =
    rw (lt-ltb (length d.objects) 8 is.0, new_back d.objects o.name (decimal o.ceiling ∷ []) is.1.0 is.1.1, number_back 1 30 o.ceiling [] is.2.0 is.2.1 (omega (arith, is.2.1)), end_back) refl

handler_back : (d : DraftText) (h : DeclaredHandler) → IsHandlerOf d h → handler_at d (spaced ((h.object ++ 46 ∷ h.procedure) ∷ [])) ≡ Ok (handler_of h, spaced [])
unfolding handler_at
handler_back d h is =
    rw (word_back (h.object ++ 46 ∷ h.procedure) [] (dotted_solid h.object h.procedure is.object_is.0 is.procedure_is.0), dotted_back h.object h.procedure is.object_is.0 is.procedure_is.0, is.place, is.holder_is, is.number) refl

handled_back : (d : DraftText) (names : List (List ℕ)) (h : DeclaredHandler) → length names < 8 → IsNew names h.name → IsHandlerOf d h → handled_at d names (spaced (handler_words h)) ≡ Ok (h.name, handler_of h)
unfolding handled_at
handled_back d names h few new is =
    rw (lt-ltb (length names) 8 few, new_back names h.name ((h.object ++ 46 ∷ h.procedure) ∷ []) new.0 new.1, handler_back d h is, end_back) refl

interrupt_back : (d : DraftText) (h : DeclaredHandler) → length d.interrupts < 8 → IsNew d.interrupts h.name → IsHandlerOf d h → interrupt_line d (spaced (handler_words h)) ≡ Ok (with_interrupt d h)
unfolding interrupt_line
interrupt_back d h few new is = rw (handled_back d d.interrupts h few new is) refl

timer_back : (d : DraftText) (h : DeclaredHandler) → length d.timers < 8 → IsNew d.timers h.name → IsHandlerOf d h → timer_line d (spaced (handler_words h)) ≡ Ok (with_timer d h)
unfolding timer_line
timer_back d h few new is = rw (handled_back d d.timers h few new is) refl

-- ---- lines where no body is open, and there is no tally

not_within : (d : DraftText) (kind : Kind) → is_in_body d ≡ false → allows d kind ≡ true → cond (is_in_body d) None (cond (allows d kind) (Some kind) None) ≡ Some kind
not_within d kind outside allowed =
    ap (λ (t : Bool). cond t None (cond (allows d kind) (Some kind) None)) outside ∙ ap (λ (t : Bool). cond t (Some kind) None) allowed

objects_allowed : (d : DraftText) → d.is_tally ≡ false → not d.is_tally ≡ true
objects_allowed d other = ap not other

pub object_declares : (d : DraftText) (o : DeclaredObject) → is_in_body d ≡ false → d.is_tally ≡ false → IsTextOfObject d o → Declares d (object_lines (profile_of d) o) (with_object d o)
object_declares d o outside other is =
    let more : DraftText = record d { objects = d.objects ++ o.name ∷ [] } in
    let begun : DraftText = at_object more d.drafts (empty_object o.name o.ceiling) in
    let words : List (List ℕ) = o.name ∷ decimal o.ceiling ∷ [] in
    let first : Declares d ((codes "object" ∷ words) ∷ []) begun =
    one_declares d begun (codes "object") words (and_none (not (is_in_body d)) (bytes_eq (codes "object") (codes "script")) refl)
    (λ number. of_kind d number (codes "object") words kinds.Object begun (not_within d kinds.Object outside (objects_allowed d other)) (object_back d o is)) in
    both_declare d begun (with_object d o) ((codes "object" ∷ words) ∷ []) (parts_lines (profile_of d) (empty_object o.name o.ceiling) o.parts) first
    (parts_declare more d.drafts (empty_object o.name o.ceiling) o.parts is.3)

outside_after : (d : DraftText) (o : DeclaredObject) → is_in_body (with_object d o) ≡ false
outside_after d o = ap has_body (last_is (record d { objects = d.objects ++ o.name ∷ [] }) d.drafts (shut (with_parts (empty_object o.name o.ceiling) o.parts)))

pub objects_declare : (d : DraftText) (all : List DeclaredObject) → is_in_body d ≡ false → d.is_tally ≡ false → AreObjectsOf d all → Declares d (objects_lines (profile_of d) all) (with_objects d all)
objects_declare d [] outside other are = λ last number rest. refl
objects_declare d (o ∷ os) outside other are =
    both_declare d (with_object d o) (with_objects (with_object d o) os) (object_lines (profile_of d) o) (objects_lines (profile_of d) os) (object_declares d o outside other are.0)
    (objects_declare (with_object d o) os (outside_after d o) other are.1)

pub interrupts_declare : (d : DraftText) (all : List DeclaredHandler) → is_in_body d ≡ false → d.is_tally ≡ false → AreInterruptsOf d all → Declares d (handlers_lines (codes "interrupt") all) (with_interrupts d all)
interrupts_declare d [] outside other are = λ last number rest. refl
interrupts_declare d (h ∷ hs) outside other are =
    both_declare d (with_interrupt d h) (with_interrupts (with_interrupt d h) hs) ((codes "interrupt" ∷ handler_words h) ∷ []) (handlers_lines (codes "interrupt") hs)
    (one_declares d (with_interrupt d h) (codes "interrupt") (handler_words h) (and_none (not (is_in_body d)) (bytes_eq (codes "interrupt") (codes "script")) refl)
    (λ number. of_kind d number (codes "interrupt") (handler_words h) kinds.Interrupt (with_interrupt d h) (not_within d kinds.Interrupt outside (objects_allowed d other)) (interrupt_back d h are.0 are.1 are.2)))
    (interrupts_declare (with_interrupt d h) hs outside other are.3)

pub timers_declare : (d : DraftText) (all : List DeclaredHandler) → is_in_body d ≡ false → d.is_tally ≡ false → AreTimersOf d all → Declares d (handlers_lines (codes "timer") all) (with_timers d all)
timers_declare d [] outside other are = λ last number rest. refl
timers_declare d (h ∷ hs) outside other are =
    both_declare d (with_timer d h) (with_timers (with_timer d h) hs) ((codes "timer" ∷ handler_words h) ∷ []) (handlers_lines (codes "timer") hs)
    (one_declares d (with_timer d h) (codes "timer") (handler_words h) (and_none (not (is_in_body d)) (bytes_eq (codes "timer") (codes "script")) refl)
    (λ number. of_kind d number (codes "timer") (handler_words h) kinds.Timer (with_timer d h) (not_within d kinds.Timer outside (objects_allowed d other)) (timer_back d h are.0 are.1 are.2)))
    (timers_declare (with_timer d h) hs outside other are.3)

-- ---- a deck up to its script

pub profile_back : (d : DraftText) (profile : Profile) → profile_line d (spaced (profile_word profile ∷ [])) ≡ Ok (record d { profile = Some profile })
unfolding profile_line
profile_back d Ravenscar = rw (word_back (codes "ravenscar") [] refl, end_back) refl
profile_back d Jorvik = rw (word_back (codes "jorvik") [] refl, end_back) refl

positions_declare : (nodes : ℕ) (positions : Option ℕ) → IfSome positions (IsUpTo 65535) → Declares (empty_draft nodes) (positions_words positions) (record (empty_draft nodes) { positions = positions })
positions_declare nodes None is = λ last number rest. refl
positions_declare nodes (Some positions) is =
    let d : DraftText = empty_draft nodes in
    let after : DraftText = record (empty_draft nodes) { positions = Some positions } in
    one_declares d after (codes "positions") (decimal positions ∷ []) refl
    (λ number. of_kind d number (codes "positions") (decimal positions ∷ []) kinds.Positions after refl (positions_back d positions is))

profile_declares : (nodes : ℕ) (positions : Option ℕ) (profile : Option Profile)
    → Declares (record (empty_draft nodes) { positions = positions }) (profile_words profile) (record (empty_draft nodes) { positions = positions; profile = profile })
profile_declares nodes positions None = λ last number rest. refl
profile_declares nodes positions (Some profile) =
    let d : DraftText = record (empty_draft nodes) { positions = positions } in
    let after : DraftText = record (empty_draft nodes) { positions = positions; profile = Some profile } in
    one_declares d after (codes "profile") (profile_word profile ∷ []) refl
    (λ number. of_kind d number (codes "profile") (profile_word profile ∷ []) kinds.Profile after refl (profile_back d profile))

tasks_declare : (nodes : ℕ) (positions : Option ℕ) (profile : Option Profile) (before : List (List ℕ)) (of : List ℕ) (tasks : List (List ℕ)) (priorities : List ℕ) → AreTasks before tasks priorities
    → Declares (record (empty_draft nodes) { positions = positions; profile = profile; tasks = before; priorities = of }) (task_words tasks priorities)
    (record (empty_draft nodes) { positions = positions; profile = profile; tasks = before ++ tasks; priorities = of ++ priorities })
tasks_declare nodes positions profile before of [] [] are =
    λ last number rest. (λ i. declarations_from last (record (empty_draft nodes) { positions = positions; profile = profile; tasks = sym (append-nil before) i; priorities = sym (append-nil of) i }) rest)
tasks_declare nodes positions profile before of [] (priority ∷ priorities) are = absurd are
tasks_declare nodes positions profile before of (task ∷ tasks) [] are = absurd are
tasks_declare nodes positions profile before of (task ∷ tasks) (priority ∷ priorities) are =
    let d : DraftText = record (empty_draft nodes) { positions = positions; profile = profile; tasks = before; priorities = of } in
    let after : DraftText = record (empty_draft nodes) { positions = positions; profile = profile; tasks = before ++ task ∷ []; priorities = of ++ priority ∷ [] } in
    let whole : DraftText = record (empty_draft nodes) { positions = positions; profile = profile; tasks = (before ++ task ∷ []) ++ tasks; priorities = (of ++ priority ∷ []) ++ priorities } in
    let words : List (List ℕ) = task ∷ decimal priority ∷ [] in
    let both : Declares d ((codes "task" ∷ words) ∷ task_words tasks priorities) whole =
    both_declare d after whole ((codes "task" ∷ words) ∷ []) (task_words tasks priorities)
    (one_declares d after (codes "task") words refl (λ number. of_kind d number (codes "task") words kinds.Task after refl (task_back d task priority are.0 are.1 are.2 are.3)))
    (tasks_declare nodes positions profile (before ++ task ∷ []) (of ++ priority ∷ []) tasks priorities are.4) in
    λ last number rest. both last number rest
    ∙ (λ i. declarations_from last (record (empty_draft nodes) { positions = positions; profile = profile; tasks = append_assoc before (task ∷ []) tasks i; priorities = append_assoc of (priority ∷ []) priorities i }) rest)

-- what objects, interrupts and timing events leave as it was
objects_outside : (d : DraftText) (all : List DeclaredObject) → is_in_body d ≡ false → is_in_body (with_objects d all) ≡ false
objects_outside d [] outside = outside
objects_outside d (o ∷ os) outside = objects_outside (with_object d o) os (outside_after d o)

objects_other : (d : DraftText) (all : List DeclaredObject) → d.is_tally ≡ false → (with_objects d all).is_tally ≡ false
objects_other d [] other = other
objects_other d (o ∷ os) other = objects_other (with_object d o) os other

interrupts_outside : (d : DraftText) (all : List DeclaredHandler) → is_in_body d ≡ false → is_in_body (with_interrupts d all) ≡ false
interrupts_outside d [] outside = outside
interrupts_outside d (h ∷ hs) outside = interrupts_outside (with_interrupt d h) hs outside

interrupts_other : (d : DraftText) (all : List DeclaredHandler) → d.is_tally ≡ false → (with_interrupts d all).is_tally ≡ false
interrupts_other d [] other = other
interrupts_other d (h ∷ hs) other = interrupts_other (with_interrupt d h) hs other

timers_outside : (d : DraftText) (all : List DeclaredHandler) → is_in_body d ≡ false → is_in_body (with_timers d all) ≡ false
timers_outside d [] outside = outside
timers_outside d (h ∷ hs) outside = timers_outside (with_timer d h) hs outside

-- some lines, and then more
then_lines : (last number : ℕ) (d after : DraftText) (lines more : List (List (List ℕ))) (rest : List LineText) → Declares d lines after
    → declarations_from last d (numbered_lines number (lines ++ more) ++ rest) ≡ declarations_from last after (numbered_lines (number + length lines) more ++ rest)
then_lines last number d after lines more rest declares =
    ap (λ (l : List LineText). declarations_from last d (l ++ rest)) (numbered_append number lines more)
    ∙ ap (declarations_from last d) (append_assoc (numbered_lines number lines) (numbered_lines (number + length lines) more) rest)
    ∙ declares last number (numbered_lines (number + length lines) more ++ rest)

pub declared_back : (last : ℕ) (t : ObjectsText) (rest : List LineText) → IsObjectsText t → declarations_of last (numbered_lines 1 (declared_lines t) ++ rest) ≡ Ok (objects_draft t, rest)
unfolding declarations_of
declared_back last t rest is =
    let d0 : DraftText = empty_draft t.nodes in
    let d1 : DraftText = record (empty_draft t.nodes) { positions = t.positions } in
    let d2 : DraftText = record (empty_draft t.nodes) { positions = t.positions; profile = t.profile } in
    let d3 : DraftText = tasks_draft t in
    let d4 : DraftText = with_objects d3 t.objects in
    let d5 : DraftText = with_interrupts d4 t.interrupts in
    let d6 : DraftText = objects_draft t in
    let l1 = positions_words t.positions in
    let l2 = profile_words t.profile in
    let l3 = task_words t.tasks t.priorities in
    let l4 = objects_lines (profile_of d3) t.objects in
    let l5 = handlers_lines (codes "interrupt") t.interrupts in
    let l6 = handlers_lines (codes "timer") t.timers in
    let l7 : List (List (List ℕ)) = (codes "script" ∷ []) ∷ [] in
    let out4 : is_in_body d4 ≡ false = objects_outside d3 t.objects refl in
    let other4 : d4.is_tally ≡ false = objects_other d3 t.objects refl in
    let out5 : is_in_body d5 ≡ false = interrupts_outside d4 t.interrupts out4 in
    let other5 : d5.is_tally ≡ false = interrupts_other d4 t.interrupts other4 in
    let out6 : is_in_body d6 ≡ false = timers_outside d5 t.timers out5 in
    let h1 : Declares d0 l1 d1 = positions_declare t.nodes t.positions is.positions in
    let h2 : Declares d1 l2 d2 = profile_declares t.nodes t.positions t.profile in
    let h3 : Declares d2 l3 d3 = tasks_declare t.nodes t.positions t.profile [] [] t.tasks t.priorities is.tasks in
    let h4 : Declares d3 l4 d4 = objects_declare d3 t.objects refl refl is.objects in
    let h5 : Declares d4 l5 d5 = interrupts_declare d4 t.interrupts out4 other4 is.interrupts in
    let h6 : Declares d5 l6 d6 = timers_declare d5 t.timers out5 other5 is.timers in
    ap (λ (r : Result ℕ DeckReason). on_line 1 r (λ nodes. declarations_from last (empty_draft nodes) (numbered_lines (1 + 1) (l1 ++ (l2 ++ (l3 ++ (l4 ++ (l5 ++ (l6 ++ l7)))))) ++ rest))) (nodes_back 1 t.nodes is.nodes.0 is.nodes.1)
    ∙ then_lines last (1 + 1) d0 d1 l1 (l2 ++ (l3 ++ (l4 ++ (l5 ++ (l6 ++ l7))))) rest h1
    ∙ then_lines last (1 + 1 + length l1) d1 d2 l2 (l3 ++ (l4 ++ (l5 ++ (l6 ++ l7)))) rest h2
    ∙ then_lines last (1 + 1 + length l1 + length l2) d2 d3 l3 (l4 ++ (l5 ++ (l6 ++ l7))) rest h3
    ∙ then_lines last (1 + 1 + length l1 + length l2 + length l3) d3 d4 l4 (l5 ++ (l6 ++ l7)) rest h4
    ∙ then_lines last (1 + 1 + length l1 + length l2 + length l3 + length l4) d4 d5 l5 (l6 ++ l7) rest h5
    ∙ then_lines last (1 + 1 + length l1 + length l2 + length l3 + length l4 + length l5) d5 d6 l6 l7 rest h6
    ∙ script_ends last d6 (line_of (1 + 1 + length l1 + length l2 + length l3 + length l4 + length l5 + length l6) (codes "script" ∷ [])) rest
    (ap (λ (within : Bool). not within && bytes_eq (codes "script") (codes "script")) out6) (script_here d6 is.some_task is.some_object)
