-- A text of lines is read back, line by line.
use Rattle.std.proofs.Common.{◌≡◌, ℕ, zero, suc, ◌+◌, ◌==◌, ◌||◌, ◌&&◌, not, List, [], ◌∷◌, ◌++◌, Bool, true, false, cond, take, drop, length, map, Option, Some, None, Ok, arith, ap, refl, ◌∙◌}
use Rattle.std.specs.Prelude.{ℤ, pos, negsuc, nat_le, nat_eq, option_to_list, FitsSigned}
use Rattle.std.specs.Fmt.{decimal}
use Rattle.std.specs.Int.{w64}
use Rattle.std.specs.List.{prefix_len, list_all, AllByRecursion}
use Rattle.std.proofs.Math.Seq.{take-append_seam}
use Rattle.std.proofs.lemmas.Bool.{leb-true, le-leb, eq-eqb}
use Rattle.std.proofs.lemmas.Bool.Decides.{nat_tests}
use Rattle.rp_deck.specs.rp_base.specs.declared.action.Operation.TheVariants as operations
use Rattle.rp_deck.specs.rp_base.specs.declared.action.Operation.{Operation}
use Rattle.rp_deck.specs.rp_model.specs.Events.{Event, Step, Submit, Again, Makes, Cut, Stop, Restart, Deliver, Lead, LeadRange, Interrupt, Tick, Report, Ask}
use Rattle.rp_deck.specs.declared.deck.Mode.TheVariants.{Script}
use Rattle.rp_deck.specs.Script.{IsUpTo}
use Rattle.rp_deck_declarations.specs.ScriptNames.{DeclaredNames}
use Rattle.rp_deck.specs.ScriptLines.{CommandText, Take, Lose, Drain, Show, script_of}
use Rattle.rp_deck_laws.specs.ScriptText.{numbered_lines, spaced, joined, line_of, text_of_lines, script_text, numbered_commands, name_numbered, operation_name, step_words, argument_words, submit_words, event_words, command_words, AreDeclared, HasOperation, IsSubmitOf, IsStepOf, IsEventOf, IsCommandOf}
use Rattle.rp_words.specs.Lines.{is_line_feed, in_front, lines_of, LineText, is_skipped, text_at, texts_from}
use Rattle.rp_words.specs.Words.{begins_with, is_blank, without_blanks, is_at_end, first_word, after_word, is_name}
use Rattle.rp_words.proofs.WordsLemmas.{both, and_true}
use Rattle.rp_deck_laws.proofs.SpacedLemmas.{is_solid, not_blank, no_blanks, not_empty, all_of_prefix, ends_word, drop-append_seam, name_solid, decimal_solid, signed_solid, dotted_solid}
use Rattle.rp_deck.proofs.ScriptLemmas.{goes_on, script_line_read, script_end}
use Rattle.rp_deck_laws.proofs.ScriptTextLemmas.{numbered, named_operation, command_back}

-- ---- lines

-- words that a line may have, the first of which begins no comment
abbrev pub AreSolid : List (List ℕ) → Type 0
AreSolid [] = Unit {0}
AreSolid (word ∷ words) = (is_solid word ≡ true) × AreSolid words

abbrev pub IsLine : List (List ℕ) → Type 0
IsLine [] = ⊥
IsLine (first ∷ words) = (is_solid first ≡ true) × (begins_with (λ byte. byte == 35) first ≡ false) × AreSolid words

abbrev pub AreLines : List (List (List ℕ)) → Type 0
AreLines [] = Unit {0}
AreLines (words ∷ lines) = IsLine words × AreLines lines

pub numbered_append : (number : ℕ) (one two : List (List (List ℕ))) → numbered_lines number (one ++ two) ≡ numbered_lines number one ++ numbered_lines (number + length one) two
numbered_append number [] two = ap (λ (n : ℕ). numbered_lines n two) (let e : number ≡ number + 0 = omega arith in e)
numbered_append number (words ∷ one) two =
    ap (λ (l : List LineText). line_of number words ∷ l) (numbered_append (number + 1) one two)
    ∙ ap (λ (n : ℕ). line_of number words ∷ (numbered_lines (number + 1) one ++ numbered_lines n two)) (let e : number + 1 + length one ≡ number + length (words ∷ one) = omega arith in e)

plain_joined : (first second : List ℕ) → list_all (nat_le 32) first ≡ true → list_all (nat_le 32) second ≡ true → list_all (nat_le 32) (first ++ second) ≡ true
plain_joined [] second one two = two
plain_joined (b ∷ bs) second one two =
    let t = both (nat_le 32 b) (list_all (nat_le 32) bs) one in
    and_true (nat_le 32 b) (list_all (nat_le 32) (bs ++ second)) t.0 (plain_joined bs second t.1 two)

plain_word : (word : List ℕ) → list_all (nat_le 33) word ≡ true → list_all (nat_le 32) word ≡ true
plain_word [] h = refl
plain_word (b ∷ bs) h =
    let t = both (nat_le 33 b) (list_all (nat_le 33) bs) h in
    let low = leb-true 33 b t.0 in
    and_true (nat_le 32 b) (list_all (nat_le 32) bs) (le-leb 32 b (omega (arith, low))) (plain_word bs t.1)

plain_solid : (word : List ℕ) → is_solid word ≡ true → list_all (nat_le 32) word ≡ true
plain_solid [] h = refl
plain_solid (b ∷ bs) h = plain_word (b ∷ bs) h

plain_spaced : (words : List (List ℕ)) → AreSolid words → list_all (nat_le 32) (spaced words) ≡ true
plain_spaced [] solid = refl
plain_spaced (word ∷ words) solid = plain_joined word (spaced words) (plain_solid word solid.0) (plain_spaced words solid.1)

no_feed : (b : ℕ) → nat_le 32 b ≡ true → is_line_feed b ≡ false
no_feed b h = let low = leb-true 32 b h in grind (arith, nat_tests)

no_return : (b : ℕ) → nat_le 32 b ≡ true → (b == 13) ≡ false
no_return b h = let low = leb-true 32 b h in grind (arith, nat_tests)

one_line : (line rest : List ℕ) → list_all (nat_le 32) line ≡ true → lines_of (line ++ 10 ∷ rest) ≡ line ∷ lines_of rest
one_line [] rest plain = refl
one_line (b ∷ bs) rest plain =
    let t = both (nat_le 32 b) (list_all (nat_le 32) bs) plain in
    let more : List ℕ = bs ++ 10 ∷ rest in
    ap (λ (f : Bool). cond f ([] ∷ lines_of more) (cond (b == 13 && begins_with is_line_feed more) (lines_of more) (in_front b (lines_of more)))) (no_feed b t.0)
    ∙ ap (λ (f : Bool). cond (f && begins_with is_line_feed more) (lines_of more) (in_front b (lines_of more))) (no_return b t.0)
    ∙ ap (in_front b) (one_line bs rest t.1)

-- ---- the words of a line

unblanked : (b : ℕ) (rest : List ℕ) → not (is_blank b) ≡ true → without_blanks (b ∷ rest) ≡ b ∷ rest
unblanked b rest solid = by (is_blank b) refl
  where
    by : (t : Bool) → is_blank b ≡ t → drop (cond t (1 + prefix_len is_blank rest) 0) (b ∷ rest) ≡ b ∷ rest
    by true e = absurd (cc)
    by false e = refl

line_words : (number : ℕ) (first : List ℕ) (words : List (List ℕ)) → is_solid first ≡ true → begins_with (λ byte. byte == 35) first ≡ false → text_at number (joined (first ∷ words)) ≡ Some (line_of number (first ∷ words))
line_words number [] words solid other = absurd cc
line_words number (b ∷ bs) words solid other =
    let t = both (nat_le 33 b) (list_all (nat_le 33) bs) solid in
    let first : List ℕ = b ∷ bs in
    let line : List ℕ = first ++ spaced words in
    let whole : without_blanks line ≡ line = unblanked b (bs ++ spaced words) (not_blank b t.0) in
    let len : prefix_len (λ c. not (is_blank c)) line ≡ length first = all_of_prefix (λ c. not (is_blank c)) first (spaced words) (no_blanks first solid) (ends_word words) in
    let front : first_word line ≡ first =
    ap (λ (l : List ℕ). take (prefix_len (λ c. not (is_blank c)) l) l) whole ∙ ap (λ (n : ℕ). take n line) len ∙ take-append_seam first (spaced words) in
    let back : after_word line ≡ spaced words =
    ap (λ (l : List ℕ). drop (prefix_len (λ c. not (is_blank c)) l) l) whole ∙ ap (λ (n : ℕ). drop n line) len ∙ drop-append_seam first (spaced words) in
    let some : is_at_end line ≡ false = ap (λ (l : List ℕ). length l == 0) whole ∙ not_empty b (bs ++ spaced words) in
    let kept : is_skipped line ≡ false = (λ i. some i || begins_with (λ byte. byte == 35) (front i)) ∙ other in
    ap (λ (skipped : Bool). cond skipped None (Some (record { number = number; first = first_word line; rest = after_word line }))) kept
    ∙ (λ i. Some (record { number = number; first = front i; rest = back i }))

pub texts_back : (number : ℕ) (lines : List (List (List ℕ))) → AreLines lines → texts_from number (lines_of (text_of_lines lines)) ≡ numbered_lines number lines
texts_back number [] are = refl
texts_back number ([] ∷ lines) are = absurd are.0
texts_back number ((first ∷ words) ∷ lines) are =
    let plain = plain_joined first (spaced words) (plain_solid first are.0.0) (plain_spaced words are.0.2) in
    ap (texts_from number) (one_line (first ++ spaced words) (text_of_lines lines) plain)
    ∙ ap (λ (o : Option LineText). option_to_list o ++ texts_from (number + 1) (lines_of (text_of_lines lines))) (line_words number first words are.0.0 are.0.1)
    ∙ ap (λ (l : List LineText). line_of number (first ∷ words) ∷ l) (texts_back (number + 1) lines are.1)

-- ---- the lines of a script

pub number_of_line : (number : ℕ) (words : List (List ℕ)) → (line_of number words).number ≡ number
number_of_line number [] = refl
number_of_line number (first ∷ words) = refl

pub script_back : (d : DeclaredNames) (number : ℕ) (commands : List CommandText) → AreDeclared d → AllByRecursion (IsCommandOf d) commands
    → script_of Script d (numbered_lines number (map (command_words d) commands)) ≡ Ok (numbered_commands number commands)
script_back d number [] right are = script_end Script d
script_back d number (command ∷ commands) right are =
    let line : LineText = line_of number (command_words d command) in
    let rest : List LineText = numbered_lines (number + 1) (map (command_words d) commands) in
    script_line_read Script d line rest command (command_back d number command right are.0)
    ∙ ap (goes_on (record { number = line.number; command = command } ∷ [])) (script_back d (number + 1) commands right are.1)
    ∙ ap (λ (n : ℕ). Ok (record { number = n; command = command } ∷ numbered_commands (number + 1) commands)) (number_of_line number (command_words d command))

small_node : (d : DeclaredNames) (node : ℕ) → AreDeclared d → IsUpTo d.nodes node → is_solid (decimal node) ≡ true
small_node d node right within = decimal_solid node (omega (arith, right.nodes, within.1))

step_line : (d : DeclaredNames) (step : Step) → AreDeclared d → IsStepOf d step → IsLine (step_words d step)
step_line d (Deliver message) right is = (refl, refl, (decimal_solid message is.1, tt))
step_line d (Lead node None) right is = (refl, refl, (small_node d node right is.0, tt))
step_line d (Lead node (Some position)) right is = (refl, refl, (small_node d node right is.0, (decimal_solid position (omega (arith, is.1.1)), tt)))
step_line d (LeadRange node first count) right is =
    (refl, refl, (small_node d node right is.0, (decimal_solid first (omega (arith, is.1.1)), (decimal_solid count (omega (arith, is.2.1)), tt))))
step_line d (Interrupt node source occurrence) right is =
    (refl, refl, (small_node d node right is.0, (name_solid (name_numbered d.interrupts source) (numbered d.interrupts source right.interrupts is.1).name, (decimal_solid occurrence (omega (arith, is.2.1)), tt))))
step_line d (Tick node now) right is = (refl, refl, (small_node d node right is.0, (decimal_solid now (omega (arith, is.1)), tt)))
step_line d (Report node first) right is = absurd is
step_line d (Ask node to) right is = absurd is

step_solid : (d : DeclaredNames) (step : Step) → AreDeclared d → IsStepOf d step → AreSolid (step_words d step)
step_solid d step right is = by (step_words d step) (step_line d step right is)
  where
    by : (words : List (List ℕ)) → IsLine words → AreSolid words
    by [] line = absurd line
    by (first ∷ words) line = (line.0, line.2)

argument_solid : (arg : ℤ) → FitsSigned w64 arg → AreSolid (argument_words arg)
argument_solid (pos zero) fits = tt
argument_solid (pos (suc n)) fits = (signed_solid (pos (suc n)) fits, tt)
argument_solid (negsuc n) fits = (signed_solid (negsuc n) fits, tt)

call_line : (d : DeclaredNames) (task node object : ℕ) (operation : Operation) (arg : ℤ) → AreDeclared d → IsUpTo (length d.tasks) task → IsUpTo d.nodes node
    → is_name (operation_name d object operation) ≡ true → HasOperation d object operation → FitsSigned w64 arg
    → AreSolid (name_numbered d.tasks task ∷ decimal node ∷ (name_numbered d.objects object ++ 46 ∷ operation_name d object operation) ∷ argument_words arg)
call_line d task node object operation arg right is within name call fits =
    (name_solid (name_numbered d.tasks task) (numbered d.tasks task right.tasks is).name, (small_node d node right within, (dotted_solid (name_numbered d.objects object) (operation_name d object operation) (numbered d.objects object right.objects call.object_is).name name, argument_solid arg fits)))

same_index : (index : ℕ) → nat_eq index index ≡ true
same_index index = eq-eqb index index refl

submit_line : (d : DeclaredNames) (task node object : ℕ) (operation : Operation) (arg : ℤ) → AreDeclared d → IsUpTo (length d.tasks) task → IsUpTo d.nodes node → IsSubmitOf d object operation arg
    → IsLine (submit_words d task node object operation arg)
submit_line d task node object (operations.Function index) arg right is within submit =
    (refl, refl, call_line d task node object (operations.Function index) arg right is within (named_operation d object (operations.Function index) right submit.0 (same_index index)) submit.0 submit.1)
submit_line d task node object (operations.Procedure index) arg right is within submit =
    (refl, refl, call_line d task node object (operations.Procedure index) arg right is within (named_operation d object (operations.Procedure index) right submit.0 (same_index index)) submit.0 submit.1)
submit_line d task node object (operations.Entry index) arg right is within submit =
    (refl, refl, call_line d task node object (operations.Entry index) arg right is within (named_operation d object (operations.Entry index) right submit.0 (same_index index)) submit.0 submit.1)
submit_line d task node object (operations.SetTimer timer) arg right is within submit =
    (refl, refl, (name_solid (name_numbered d.tasks task) (numbered d.tasks task right.tasks is).name, (small_node d node right within, (name_solid (name_numbered d.timers timer) (numbered d.timers timer right.timers submit.0.timer_is).name, (signed_solid arg submit.1, tt)))))
submit_line d task node object (operations.CancelTimer timer) arg right is within submit =
    (refl, refl, (name_solid (name_numbered d.tasks task) (numbered d.tasks task right.tasks is).name, (small_node d node right within, (name_solid (name_numbered d.timers timer) (numbered d.timers timer right.timers submit.0.timer_is).name, tt))))

event_line : (d : DeclaredNames) (event : Event) → AreDeclared d → IsEventOf d event → IsLine (event_words d event)
event_line d (Submit task node object operation arg) right is = submit_line d task node object operation arg right is.0 is.1 is.2
event_line d (Again task node) right is = (refl, refl, (name_solid (name_numbered d.tasks task) (numbered d.tasks task right.tasks is.0).name, (small_node d node right is.1, tt)))
event_line d (Makes step) right is = step_line d step right is
event_line d (Cut step kept) right is = (refl, refl, (decimal_solid kept is.2, step_solid d step right is.0))
event_line d (Stop node) right is = (refl, refl, (small_node d node right is, tt))
event_line d (Restart node) right is = (refl, refl, (small_node d node right is, tt))

command_is_line : (d : DeclaredNames) (command : CommandText) → AreDeclared d → IsCommandOf d command → IsLine (command_words d command)
command_is_line d (Take event) right is = event_line d event right is
command_is_line d (Lose first last) right is = (refl, refl, (decimal_solid first is.0.1, (decimal_solid last is.1.1, tt)))
command_is_line d Drain right is = (refl, refl, tt)
command_is_line d Show right is = (refl, refl, tt)

pub script_lines : (d : DeclaredNames) (commands : List CommandText) → AreDeclared d → AllByRecursion (IsCommandOf d) commands → AreLines (map (command_words d) commands)
script_lines d [] right are = tt
script_lines d (command ∷ commands) right are = (command_is_line d command right are.0, script_lines d commands right are.1)

pub script_text_back : (d : DeclaredNames) (number : ℕ) (commands : List CommandText) → AreDeclared d → AllByRecursion (IsCommandOf d) commands
    → script_of Script d (texts_from number (lines_of (script_text d commands))) ≡ Ok (numbered_commands number commands)
script_text_back d number commands right are =
    ap (script_of Script d) (texts_back number (map (command_words d) commands) (script_lines d commands right are)) ∙ script_back d number commands right are
