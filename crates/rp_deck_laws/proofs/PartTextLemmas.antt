-- The lines of an object are read back.
use Rattle.std.proofs.Common.{◌≡◌, ℕ, ◌-◌, ◌<◌, ◌==◌, ◌&&◌, not, List, [], ◌∷◌, Bool, true, false, cond, length, Option, Some, None, Ok, arith, ap, refl, sym, ◌∙◌}
use Rattle.std.specs.Prelude.{codes, ℤ, FitsSigned}
use Rattle.std.specs.FinMap.{len}
use Rattle.std.specs.Fmt.{decimal, signed_decimal}
use Rattle.std.specs.Int.{w64}
use Rattle.std.specs.List.{list_all}
use Rattle.std.specs.Str.{bytes_eq}
use Rattle.std.proofs.lemmas.Bool.{lt-ltb, eqb-true}
use Rattle.rp_deck_declarations.specs.rp_body.specs.Store.{is_within}
use Rattle.rp_deck_declarations.specs.rp_object.specs.declared.program.Profile.{Profile}
use Rattle.rp_deck_declarations.specs.rp_object.specs.declared.program.Profile.TheVariants.{Ravenscar, Jorvik}
use Rattle.rp_deck_declarations.specs.declared.draft.Kind.{Kind}
use Rattle.rp_deck_declarations.specs.rp_deck_objects.specs.declared.objects.Head.{Head}
use Rattle.rp_deck_declarations.specs.rp_deck_objects.specs.declared.objects.Head.TheVariants as heads
use Rattle.rp_deck_declarations.specs.rp_deck_objects.specs.declared.objects.Part.{Part}
use Rattle.rp_deck_declarations.specs.rp_deck_objects.specs.declared.objects.Part.TheVariants as parts
use Rattle.rp_deck_declarations.specs.rp_deck_bodies.specs.Bodies.{BodyText}
use Rattle.rp_deck_laws.specs.BodyTexts.{body_count, body_lines}
use Rattle.rp_deck_declarations.specs.Declaring.{line_of_kind, declaring_line}
use Rattle.rp_deck_laws.specs.DraftTexts.{at_object, Declares}
use Rattle.rp_deck_declarations.specs.Drafts.{DraftText, profile_of, is_in_body, kind_named, kind_allowed, kind_of}
use Rattle.rp_deck_declarations.specs.rp_deck_objects.specs.Objects.{ObjectText, FunctionText, Value, Truth, component_name_at, ranged_at, int_line, bool_line, function_line, procedure_line, most_entries, queue_at, longest_at, entry_line, begun_line, begun_operation, completed_as, part_named, part_line, object_step}
use Rattle.rp_deck_laws.specs.ExpressionTexts.{is_bool, component_name, AreComponents, HasOne, truth_word, expr_words, cond_words}
use Rattle.rp_deck_declarations.specs.rp_deck_bodies.specs.Expressions.{expression_words}
use Rattle.rp_deck_laws.specs.PartTexts.{shut, PartText, IntPart, BoolPart, FunctionPart, ProcedurePart, EntryPart, with_part, function_words, queue_words, ended, part_lines, IsNew, IsLongest, IsWholeBody, IsPartOf, with_parts, parts_lines, ArePartsOf}
use Rattle.rp_words.specs.Reading.{word_at}
use Rattle.rp_deck.specs.Script.{IsUpTo}
use Rattle.rp_deck_laws.specs.ScriptText.{spaced, line_of, is_distinct}
use Rattle.rp_words.specs.Tables.{is_declared}
use Rattle.rp_words.specs.Words.{is_name, truth_named}
use Rattle.rp_words.proofs.WordsLemmas.{both}
use Rattle.rp_deck_laws.proofs.SpacedLemmas.{word_back, word_there, name_back, name_solid, number_back, integer_back, end_back}
use Rattle.rp_deck_laws.proofs.ExpressionTextLemmas.{finds, bool_back, expr_line_back, cond_line_back}
use Rattle.rp_deck_declarations.proofs.DeclaringLemmas.{object_line_is}
use Rattle.rp_deck_laws.proofs.TallyTextLemmas.{new_back}
use Rattle.rp_deck_laws.proofs.BodyTextLemmas.{in_body, last_is, changed_last, both_declare, one_declares, body_declares, end_of_body}

-- ---- lines of the parts

component_back : (names : List (List ℕ)) (name : List ℕ) (words : List (List ℕ)) → IsNew names name → is_declared name expression_words ≡ false → component_name_at names (spaced (name ∷ words)) ≡ Ok (name, spaced words)
unfolding component_name_at
component_back names name words new free = rw (name_back name words new.0, free, new.1) refl

ranged_back : (low high value : ℤ) → FitsSigned w64 low → FitsSigned w64 high → FitsSigned w64 value → is_within low high value ≡ true
    → ranged_at (spaced (signed_decimal low ∷ signed_decimal high ∷ signed_decimal value ∷ [])) ≡ Ok (record { low = low; high = high; value = value }, spaced [])
unfolding ranged_at
ranged_back low high value a b c within =
    rw (integer_back low (signed_decimal high ∷ signed_decimal value ∷ []) a, integer_back high (signed_decimal value ∷ []) b, integer_back value [] c, within) refl

int_back : (o : ObjectText) (name : List ℕ) (low high value : ℤ) (profile : Profile) → IsPartOf profile o (IntPart name low high value)
    → int_line o (spaced (name ∷ signed_decimal low ∷ signed_decimal high ∷ signed_decimal value ∷ [])) ≡ Ok (with_part o (IntPart name low high value))
unfolding int_line
int_back o name low high value profile is =
    rw (
      lt-ltb (len o.store.ints) 8 is.0,
      component_back o.component_names name (signed_decimal low ∷ signed_decimal high ∷ signed_decimal value ∷ []) is.1 is.2,
      ranged_back low high value is.3 is.4 is.5 is.6,
      end_back,
    ) refl

truth_back : (value : Bool) → truth_named (truth_word [] [] value) ≡ Some value
truth_back true = refl
truth_back false = refl

truth_read : (value : Bool) → word_at (spaced (truth_word [] [] value ∷ [])) ≡ Ok (truth_word [] [] value, spaced [])
truth_read true = word_back (codes "true") [] refl
truth_read false = word_back (codes "false") [] refl

bool_line_back : (o : ObjectText) (name : List ℕ) (value : Bool) (profile : Profile) → IsPartOf profile o (BoolPart name value)
    → bool_line o (spaced (name ∷ truth_word [] [] value ∷ [])) ≡ Ok (with_part o (BoolPart name value))
unfolding bool_line
bool_line_back o name value profile is =
    rw (lt-ltb (len o.store.bools) 8 is.0, component_back o.component_names name (truth_word [] [] value ∷ []) is.1 is.2, truth_read value, truth_back value, end_back) refl

function_back : (o : ObjectText) (name : List ℕ) (function : FunctionText) (profile : Profile) → IsPartOf profile o (FunctionPart name function)
    → function_line o (spaced (name ∷ function_words o function)) ≡ Ok (with_part o (FunctionPart name function))
unfolding function_line
function_back o name (Value value) profile is =
    rw (
      lt-ltb (length o.functions) 8 is.0,
      new_back o.operation_names name (function_words o (Value value)) is.1.0 is.1.1,
      word_back (codes "value") (expr_words o.component_names o.components value) refl,
      expr_line_back o.component_names o.components value is.2 is.3.0 is.3.1,
    ) refl
function_back o name (Truth truth) profile is =
    rw (
      lt-ltb (length o.functions) 8 is.0,
      new_back o.operation_names name (function_words o (Truth truth)) is.1.0 is.1.1,
      word_back (codes "truth") (cond_words o.component_names o.components truth) refl,
      cond_line_back o.component_names o.components truth is.2 is.3.0 is.3.1,
    ) refl

procedure_back : (o : ObjectText) (name : List ℕ) → length o.procedures < 8 → IsNew o.operation_names name
    → procedure_line o (spaced (name ∷ [])) ≡ Ok (record o { open_operation = Some (begun_operation name heads.Procedure) })
unfolding procedure_line begun_line
procedure_back o name few new = rw (lt-ltb (length o.procedures) 8 few, new_back o.operation_names name [] new.0 new.1, end_back) refl

queue_back : (longest : ℕ) → IsUpTo 8 longest → queue_at (spaced (codes "queue" ∷ decimal longest ∷ [])) ≡ Ok (longest, spaced [])
unfolding queue_at
queue_back longest is = rw (word_back (codes "queue") (decimal longest ∷ []) refl) (number_back 1 8 longest [] is.0 is.1 (omega (arith, is.1)))

longest_back : (profile : Profile) (longest : ℕ) → IsLongest profile longest → longest_at profile (spaced (queue_words profile longest)) ≡ Ok (longest, spaced [])
longest_back Ravenscar longest is = ap (λ (n : ℕ). Ok (n, spaced [])) (sym is)
longest_back Jorvik longest is = by (longest == 1) refl
  where
    by : (t : Bool) → (longest == 1) ≡ t → longest_at Jorvik (spaced (cond t [] (codes "queue" ∷ decimal longest ∷ []))) ≡ Ok (longest, spaced [])
    by true one = ap (λ (n : ℕ). Ok (n, spaced [])) (sym (eqb-true longest 1 one))
    by false more = rw (word_there (codes "queue") (decimal longest ∷ []) refl) (queue_back longest is)

entry_back : (o : ObjectText) (profile : Profile) (name : List ℕ) (barrier longest : ℕ) → length o.entries < most_entries profile → IsNew o.operation_names name → AreComponents o.component_names o.components
    → HasOne (is_bool barrier) o.components → IsLongest profile longest
    → entry_line profile o (spaced (name ∷ codes "when" ∷ component_name (is_bool barrier) o.component_names o.components ∷ queue_words profile longest))
    ≡ Ok (record o { open_operation = Some (begun_operation name (heads.Entry barrier longest)) })
unfolding entry_line begun_line
entry_back o profile name barrier longest few new c has is =
    let t = both (list_all is_name o.component_names) (is_distinct o.component_names) c.names_are in
    let found = finds (is_bool barrier) o.component_names o.components t.0 t.1 c.free c.even has in
    let word : List ℕ = component_name (is_bool barrier) o.component_names o.components in
    rw (
      lt-ltb (length o.entries) (most_entries profile) few,
      new_back o.operation_names name (codes "when" ∷ word ∷ queue_words profile longest) new.0 new.1,
      word_back (codes "when") (word ∷ queue_words profile longest) refl,
      word_back word (queue_words profile longest) (name_solid word found.name_is),
      bool_back o.component_names o.components barrier word found,
      longest_back profile longest is,
      end_back,
    ) refl

-- ---- in a draft

no_kind : (t : Bool) → cond {A = Option Kind} t None None ≡ None
no_kind true = refl
no_kind false = refl

pub and_none : (a b : Bool) → b ≡ false → (a && b) ≡ false
and_none true b h = h
and_none false b h = refl

module _ (d : DraftText) (before : List ObjectText) where
  of_part : (o after : ObjectText) (first : List ℕ) (rest : List (List ℕ)) (part : Part) → part_named first ≡ Some part → kind_named first ≡ None → bytes_eq first (codes "script") ≡ false
      → part_line (profile_of d) (shut o) (Some part) (spaced rest) ≡ Ok after → Declares (at_object d before (shut o)) ((first ∷ rest) ∷ []) (at_object d before after)
  unfolding declaring_line
  of_part o after first rest part is other none read =
      let draft : DraftText = at_object d before (shut o) in
      let here = last_is d before (shut o) in
      let kind : kind_of draft first ≡ None = ap (λ (k : Option Kind). cond (is_in_body draft) None (kind_allowed draft k)) other ∙ no_kind (is_in_body draft) in
      let step : object_step (profile_of d) (shut o) (line_of 0 (first ∷ rest)) ≡ Ok after = ap (λ (p : Option Part). part_line (profile_of d) (shut o) p (spaced rest)) is ∙ read in
      let stepped : (number : ℕ) → object_step (profile_of d) (shut o) (line_of number (first ∷ rest)) ≡ Ok after = λ number. ap (λ (p : Option Part). part_line (profile_of d) (shut o) p (spaced rest)) is ∙ read in
      one_declares draft (at_object d before after) first rest (and_none (not (is_in_body draft)) (bytes_eq first (codes "script")) none)
      (λ number.
      ap (λ (k : Option Kind). line_of_kind k draft (line_of number (first ∷ rest))) kind ∙ object_line_is draft (shut o) after (line_of number (first ∷ rest)) here (stepped number)
      ∙ ap Ok (changed_last d before (shut o) after))

  -- an operation with a body: its first line, the lines of the body, `end`
  with_whole_body : (o : ObjectText) (name : List ℕ) (head : Head) (body : BodyText) (first : List ℕ) (rest : List (List ℕ)) → IsWholeBody o body
      → Declares (at_object d before (shut o)) ((first ∷ rest) ∷ []) (at_object d before (record (shut o) { open_operation = Some (begun_operation name head) }))
      → Declares (at_object d before (shut o)) ((first ∷ rest) ∷ ended o body) (at_object d before (completed_as head name body (shut o)))
  with_whole_body o name head body first rest is begins =
      let lines = body_lines o.component_names o.components body in
      let within : DraftText = at_object d before (record (shut o) { open_operation = Some (begun_operation name head) }) in
      let read : DraftText = in_body d before (shut o) (begun_operation name head) (record { ifs = []; statements = body; left = 64 - body_count body }) in
      let reads : Declares within lines read = body_declares d before (shut o) (begun_operation name head) 0 [] 64 body is.0 (omega arith) is.1 is.2 in
      let ends : Declares read ((codes "end" ∷ []) ∷ []) (at_object d before (completed_as head name body (shut o))) = end_of_body d before (shut o) (begun_operation name head) body (64 - body_count body) in
      both_declare (at_object d before (shut o)) within (at_object d before (completed_as head name body (shut o))) ((first ∷ rest) ∷ []) (ended o body) begins
      (both_declare within read (at_object d before (completed_as head name body (shut o))) lines ((codes "end" ∷ []) ∷ []) reads ends)

  part_declares : (o : ObjectText) (part : PartText) → IsPartOf (profile_of d) o part → Declares (at_object d before (shut o)) (part_lines (profile_of d) o part) (at_object d before (shut (with_part o part)))
  part_declares o (IntPart name low high value) is =
      of_part o (shut (with_part o (IntPart name low high value))) (codes "int") (name ∷ signed_decimal low ∷ signed_decimal high ∷ signed_decimal value ∷ []) parts.Int refl refl refl (int_back (shut o) name low high value (profile_of d) is)
  part_declares o (BoolPart name value) is =
      of_part o (shut (with_part o (BoolPart name value))) (codes "bool") (name ∷ truth_word [] [] value ∷ []) parts.Bool refl refl refl (bool_line_back (shut o) name value (profile_of d) is)
  part_declares o (FunctionPart name (Value value)) is =
      of_part o (shut (with_part o (FunctionPart name (Value value)))) (codes "function") (name ∷ function_words o (Value value)) parts.Function refl refl refl (function_back (shut o) name (Value value) (profile_of d) is)
  part_declares o (FunctionPart name (Truth truth)) is =
      of_part o (shut (with_part o (FunctionPart name (Truth truth)))) (codes "function") (name ∷ function_words o (Truth truth)) parts.Function refl refl refl (function_back (shut o) name (Truth truth) (profile_of d) is)
  part_declares o (ProcedurePart name body) is =
      with_whole_body o name heads.Procedure body (codes "procedure") (name ∷ []) is.2
      (of_part o (record (shut o) { open_operation = Some (begun_operation name heads.Procedure) }) (codes "procedure") (name ∷ []) parts.Procedure refl refl refl (procedure_back (shut o) name is.0 is.1))
  part_declares o (EntryPart name barrier longest body) is =
      let rest : List (List ℕ) = name ∷ codes "when" ∷ component_name (is_bool barrier) o.component_names o.components ∷ queue_words (profile_of d) longest in
      with_whole_body o name (heads.Entry barrier longest) body (codes "entry") rest is.4
      (of_part o (record (shut o) { open_operation = Some (begun_operation name (heads.Entry barrier longest)) }) (codes "entry") rest parts.Entry refl refl refl
      (entry_back (shut o) (profile_of d) name barrier longest is.0 is.1 is.4.0 is.2 is.3))

  pub parts_declare : (o : ObjectText) (all : List PartText) → ArePartsOf (profile_of d) o all → Declares (at_object d before (shut o)) (parts_lines (profile_of d) o all) (at_object d before (shut (with_parts o all)))
  parts_declare o [] are = λ last number rest. refl
  parts_declare o (part ∷ more) are =
      both_declare (at_object d before (shut o)) (at_object d before (shut (with_part o part))) (at_object d before (shut (with_parts (with_part o part) more))) (part_lines (profile_of d) o part) (parts_lines (profile_of d) (with_part o part) more)
      (part_declares o part are.0) (parts_declare (with_part o part) more are.1)
