-- The lines of a body are read back.
use Rattle.std.proofs.Common.{◌≡◌, ℕ, suc, ◌+◌, ◌-◌, ◌<◌, ◌≤◌, ◌==◌, ◌&&◌, not, List, [], ◌∷◌, ◌++◌, Bool, true, false, cond, length, Option, Some, None, Result, Ok, arith, ap, refl, ◌∙◌, append_assoc, length-append}
use Rattle.std.specs.Prelude.{codes, slice_get, slice_set}
use Rattle.std.proofs.lemmas.Bool.{lt-ltb}
use Rattle.std.proofs.lemmas.Bool.Decides.{nat_tests}
use Rattle.std.specs.List.{list_all}
use Rattle.rp_deck.specs.rp_base.specs.declared.fault.DeckReason.{DeckReason}
use Rattle.std.specs.Str.{bytes_eq}
use Rattle.rp_deck_declarations.specs.declared.draft.Kind.{Kind}
use Rattle.rp_deck_declarations.specs.rp_deck_bodies.specs.declared.names.Component.{Component}
use Rattle.rp_deck_declarations.specs.rp_deck_bodies.specs.declared.statements.BodyWord.{BodyWord}
use Rattle.rp_deck_declarations.specs.rp_deck_bodies.specs.declared.statements.BodyWord.TheVariants.{Statement, Else, End}
use Rattle.rp_deck_declarations.specs.rp_deck_bodies.specs.declared.statements.StatementWord.{StatementWord}
use Rattle.rp_deck_declarations.specs.rp_deck_bodies.specs.declared.statements.StatementWord.TheVariants as words
use Rattle.rp_deck_declarations.specs.rp_deck_bodies.specs.Bodies.{BodyText, Empty, Set, Put, Out, If, OpenIfText, OpenBodyText, body_word, may_follow, body_word_named, one_more, statement_line, body_line_of, body_line}
use Rattle.rp_deck_laws.specs.BodyTexts.{body_count, body_lines, IsBodyOf}
use Rattle.rp_deck_laws.specs.DraftTexts.{at_object, Declares}
use Rattle.rp_deck_declarations.specs.Declaring.{with_last_object, ends_declarations, line_of_kind, declaring_line, declarations_from}
use Rattle.rp_deck_declarations.specs.Drafts.{DraftText, last_object, has_body, kind_named, kind_allowed, kind_of, profile_of}
use Rattle.rp_deck_declarations.specs.rp_deck_objects.specs.Objects.{ObjectText, OpenOperationText, operation_line, object_step, with_body, completed_as}
use Rattle.rp_deck_laws.specs.ExpressionTexts.{is_int, is_bool, component_name, HasOne, AreComponents, expr_nodes, cond_nodes, expr_words, cond_words, IsExprOf, IsCondOf}
use Rattle.rp_deck_declarations.specs.rp_deck_bodies.specs.Expressions.{ExprText, CondText}
use Rattle.rp_words.specs.Lines.{LineText}
use Rattle.rp_words.specs.Reading.{◌>>=◌}
use Rattle.rp_deck_laws.specs.ScriptText.{numbered_lines, spaced, line_of, is_distinct}
use Rattle.rp_words.specs.Words.{is_name}
use Rattle.rp_words.proofs.WordsLemmas.{both}
use Rattle.rp_deck_laws.proofs.SpacedLemmas.{word_back, name_solid, end_back}
use Rattle.rp_deck_laws.proofs.ExpressionTextLemmas.{finds, int_back, bool_back, expr_line_back, cond_line_back}
use Rattle.rp_deck_declarations.proofs.DeclaringLemmas.{next_line, object_line_is}
use Rattle.rp_deck_laws.proofs.TextsLemmas.{numbered_append}

-- ---- one line of a body

module _ (names : List (List ℕ)) (declared : List Component) where
  word_of : (b : OpenBodyText) (first : List ℕ) (word : BodyWord) → body_word_named first ≡ Some word → may_follow b word ≡ true → body_word b first ≡ Ok word
  unfolding body_word
  word_of b first word is may = rw (is, may) refl

  of_word : (b : OpenBodyText) (number : ℕ) (first : List ℕ) (rest : List (List ℕ)) (word : BodyWord) (after : OpenBodyText × Bool) → body_word_named first ≡ Some word → may_follow b word ≡ true
      → body_line_of names declared b word (spaced rest) ≡ Ok after → body_line names declared b (line_of number (first ∷ rest)) ≡ Ok after
  unfolding body_line
  of_word b number first rest word after is may read = rw (word_of b first word is may, read) refl

  more_back : (b : OpenBodyText) → length b.ifs < 8 → 1 ≤ b.left → one_more b ≡ Ok (record b { left = b.left - 1 })
  unfolding one_more
  more_back b few some = rw (lt-ltb (length b.ifs) 8 few, left_is b.left some) refl
    where
      left_is : (left : ℕ) → 1 ≤ left → (left == 0) ≡ false
      left_is left some = grind (arith, nat_tests)

  statement_back : (b after : OpenBodyText) (word : StatementWord) (rest : List ℕ) → length b.ifs < 8 → 1 ≤ b.left → statement_line names declared (record b { left = b.left - 1 }) word rest ≡ Ok after
      → body_line_of names declared b (Statement word) rest ≡ Ok (after, false)
  unfolding body_line_of
  statement_back b after word rest few some read = rw (more_back b few some, read) refl

  set_back : (b : OpenBodyText) (place : ℕ) (value : ExprText) → AreComponents names declared → HasOne (is_int place) declared → IsExprOf names declared value → expr_nodes value ≤ 32
      → statement_line names declared b words.Set (spaced (component_name (is_int place) names declared ∷ expr_words names declared value)) ≡ Ok (record b { statements = Set b.statements place value })
  unfolding statement_line
  set_back b place value c one is few =
      let t = both (list_all is_name names) (is_distinct names) c.names_are in
      let found = finds (is_int place) names declared t.0 t.1 c.free c.even one in
      let word : List ℕ = component_name (is_int place) names declared in
      rw (word_back word (expr_words names declared value) (name_solid word found.name_is), int_back names declared place word found, expr_line_back names declared value c is few) refl

  put_back : (b : OpenBodyText) (place : ℕ) (value : CondText) → AreComponents names declared → HasOne (is_bool place) declared → IsCondOf names declared value → cond_nodes value ≤ 32
      → statement_line names declared b words.Put (spaced (component_name (is_bool place) names declared ∷ cond_words names declared value)) ≡ Ok (record b { statements = Put b.statements place value })
  unfolding statement_line
  put_back b place value c one is few =
      let t = both (list_all is_name names) (is_distinct names) c.names_are in
      let found = finds (is_bool place) names declared t.0 t.1 c.free c.even one in
      let word : List ℕ = component_name (is_bool place) names declared in
      rw (word_back word (cond_words names declared value) (name_solid word found.name_is), bool_back names declared place word found, cond_line_back names declared value c is few) refl

  out_back : (b : OpenBodyText) (value : ExprText) → AreComponents names declared → IsExprOf names declared value → expr_nodes value ≤ 32
      → statement_line names declared b words.Out (spaced (expr_words names declared value)) ≡ Ok (record b { statements = Out b.statements value })
  unfolding statement_line
  out_back b value c is few = rw (expr_line_back names declared value c is few) refl

  if_back : (b : OpenBodyText) (condition : CondText) → AreComponents names declared → IsCondOf names declared condition → cond_nodes condition ≤ 32
      → statement_line names declared b words.If (spaced (cond_words names declared condition)) ≡ Ok (record b { ifs = record { condition = condition; before = b.statements; first = None } ∷ b.ifs; statements = Empty })
  unfolding statement_line
  if_back b condition c is few = rw (cond_line_back names declared condition c is few) refl

  -- `else` and `end` of an `if`
  else_back : (innermost : OpenIfText) (outer : List OpenIfText) (statements : BodyText) (left : ℕ)
      → body_line_of names declared (record { ifs = innermost ∷ outer; statements = statements; left = left }) Else (spaced []) ≡ Ok (record { ifs = record innermost { first = Some statements } ∷ outer; statements = Empty; left = left }, false)
  unfolding body_line_of
  else_back innermost outer statements left = rw end_back refl

  some_if : (innermost : OpenIfText) (outer : List OpenIfText) → (length (innermost ∷ outer) == 0) ≡ false
  some_if innermost outer = let some : 0 < length (innermost ∷ outer) = omega arith in grind (arith, nat_tests)

  end_if_back : (condition : CondText) (before first second : BodyText) (outer : List OpenIfText) (left : ℕ)
      → body_line_of names declared (record { ifs = record { condition = condition; before = before; first = Some first } ∷ outer; statements = second; left = left }) End (spaced [])
      ≡ Ok (record { ifs = outer; statements = If before condition first second; left = left }, false)
  unfolding body_line_of
  end_if_back condition before first second outer left = rw (end_back, some_if (record { condition = condition; before = before; first = Some first }) outer) refl

  end_body_back : (statements : BodyText) (left : ℕ) → body_line_of names declared (record { ifs = []; statements = statements; left = left }) End (spaced []) ≡ Ok (record { ifs = []; statements = statements; left = left }, true)
  unfolding body_line_of
  end_body_back statements left = rw end_back refl

-- ---- the last object of a draft

get_seam : (before : List ObjectText) (o : ObjectText) → slice_get (before ++ o ∷ []) (length before) ≡ Some o
get_seam [] o = refl
get_seam (x ∷ xs) o = let e : length (x ∷ xs) ≡ suc (length xs) = omega arith in ap (slice_get (x ∷ (xs ++ o ∷ []))) e ∙ get_seam xs o

set_seam : (before : List ObjectText) (o after : ObjectText) → slice_set (before ++ o ∷ []) (length before) after ≡ before ++ after ∷ []
set_seam [] o after = refl
set_seam (x ∷ xs) o after =
    let e : length (x ∷ xs) ≡ suc (length xs) = omega arith in
    ap (λ (n : ℕ). slice_set (x ∷ (xs ++ o ∷ [])) n after) e ∙ ap (λ (l : List ObjectText). x ∷ l) (set_seam xs o after)

last_place : (before : List ObjectText) (o : ObjectText) → length (before ++ o ∷ []) - 1 ≡ length before
last_place before o = omega (arith, length-append before (o ∷ []))

pub last_is : (d : DraftText) (before : List ObjectText) (o : ObjectText) → last_object (at_object d before o) ≡ Some o
last_is d before o = ap (slice_get (before ++ o ∷ [])) (last_place before o) ∙ get_seam before o

pub changed_last : (d : DraftText) (before : List ObjectText) (o after : ObjectText) → with_last_object (at_object d before o) after ≡ at_object d before after
changed_last d before o after =
    let drafts : slice_set (before ++ o ∷ []) (length (before ++ o ∷ []) - 1) after ≡ before ++ after ∷ [] = ap (λ (n : ℕ). slice_set (before ++ o ∷ []) n after) (last_place before o) ∙ set_seam before o after in
    (λ i. record d { drafts = drafts i })

-- ---- lines that change a draft

pub both_declare : (d middle after : DraftText) (one two : List (List (List ℕ))) → Declares d one middle → Declares middle two after → Declares d (one ++ two) after
both_declare d middle after one two first second =
    λ last number rest.
    ap (λ (l : List LineText). declarations_from last d (l ++ rest)) (numbered_append number one two)
    ∙ ap (declarations_from last d) (append_assoc (numbered_lines number one) (numbered_lines (number + length one) two) rest)
    ∙ first last number (numbered_lines (number + length one) two ++ rest) ∙ second last (number + length one) rest

pub one_declares : (d after : DraftText) (first : List ℕ) (rest : List (List ℕ)) → ends_declarations d (line_of 0 (first ∷ rest)) ≡ false → ((number : ℕ) → declaring_line d (line_of number (first ∷ rest)) ≡ Ok after)
    → Declares d ((first ∷ rest) ∷ []) after
one_declares d after first words none read = λ last number rest. next_line last d (line_of number (first ∷ words)) rest after none (read number)

-- a line of the last object, in a body
abbrev pub in_body : DraftText → List ObjectText → ObjectText → OpenOperationText → OpenBodyText → DraftText
in_body d before o operation body = at_object d before (record o { open_operation = Some (record operation { body = body }) })

module _ (d : DraftText) (before : List ObjectText) (o : ObjectText) (operation : OpenOperationText) where
  goes_within : (body : OpenBodyText) (first : List ℕ) → ends_declarations (in_body d before o operation body) (line_of 0 (first ∷ [])) ≡ false
  goes_within body first = ap (λ (l : Option ObjectText). not (has_body l) && bytes_eq first (codes "script")) (last_is d before (record o { open_operation = Some (record operation { body = body }) }))

  declares_within : (body : OpenBodyText) (after : ObjectText) (line : LineText) → object_step (profile_of d) (record o { open_operation = Some (record operation { body = body }) }) line ≡ Ok after
      → declaring_line (in_body d before o operation body) line ≡ Ok (at_object d before after)
  unfolding declaring_line
  declares_within body after line read =
      let now : ObjectText = record o { open_operation = Some (record operation { body = body }) } in
      let draft : DraftText = at_object d before now in
      let here = last_is d before now in
      let none : kind_of draft line.first ≡ None = ap (λ (l : Option ObjectText). cond (has_body l) None (kind_allowed draft (kind_named line.first))) here in
      ap (λ (k : Option Kind). line_of_kind k draft line) none ∙ object_line_is draft now after line here read ∙ ap Ok (changed_last d before now after)

  step_within : (body : OpenBodyText) (after : OpenBodyText × Bool) (line : LineText) → body_line o.component_names o.components body line ≡ Ok after
      → object_step (profile_of d) (record o { open_operation = Some (record operation { body = body }) }) line
      ≡ Ok (with_body (record o { open_operation = None }) (record operation { body = body }) after)
  unfolding operation_line
  step_within body after line read =
      ap (λ (r : Result (OpenBodyText × Bool) DeckReason). r >>= (λ (a : OpenBodyText × Bool). Ok (with_body (record o { open_operation = None }) (record operation { body = body }) a))) read

  pub line_within_body : (body after : OpenBodyText) (first : List ℕ) (rest : List (List ℕ)) → ((number : ℕ) → body_line o.component_names o.components body (line_of number (first ∷ rest)) ≡ Ok (after, false))
      → Declares (in_body d before o operation body) ((first ∷ rest) ∷ []) (in_body d before o operation after)
  line_within_body body after first rest read =
      one_declares (in_body d before o operation body) (in_body d before o operation after) first rest (goes_within body first)
      (λ number. declares_within body (record o { open_operation = Some (record operation { body = after }) }) (line_of number (first ∷ rest)) (step_within body (after, false) (line_of number (first ∷ rest)) (read number)))

  pub end_of_body : (statements : BodyText) (left : ℕ) → Declares (in_body d before o operation (record { ifs = []; statements = statements; left = left })) ((codes "end" ∷ []) ∷ [])
      (at_object d before (completed_as operation.head operation.name statements (record o { open_operation = None })))
  end_of_body statements left =
      let body : OpenBodyText = record { ifs = []; statements = statements; left = left } in
      one_declares (in_body d before o operation body) _ (codes "end") [] (goes_within body (codes "end"))
      (λ number. declares_within body _ (line_of number (codes "end" ∷ []))
      (step_within body (body, true) (line_of number (codes "end" ∷ []))
      (of_word o.component_names o.components body number (codes "end") [] End (body, true) refl refl (end_body_back o.component_names o.components statements left))))

  -- ---- a whole body

  -- the lines of the statements before, and the line of one that has no parts
  statement_declares : (ifs : List OpenIfText) (left : ℕ) (earlier statements : BodyText) (first : List ℕ) (word : StatementWord) (rest : List (List ℕ)) → length ifs < 8 → body_count earlier + 1 ≤ left
      → body_word_named first ≡ Some (Statement word)
      → statement_line o.component_names o.components (record { ifs = ifs; statements = earlier; left = left - body_count earlier - 1 }) word (spaced rest) ≡ Ok (record { ifs = ifs; statements = statements; left = left - body_count earlier - 1 })
      → Declares (in_body d before o operation (record { ifs = ifs; statements = Empty; left = left })) (body_lines o.component_names o.components earlier)
      (in_body d before o operation (record { ifs = ifs; statements = earlier; left = left - body_count earlier }))
      → Declares (in_body d before o operation (record { ifs = ifs; statements = Empty; left = left })) (body_lines o.component_names o.components earlier ++ (first ∷ rest) ∷ [])
      (in_body d before o operation (record { ifs = ifs; statements = statements; left = left - (body_count earlier + 1) }))
  statement_declares ifs left earlier statements first word rest few some named read so_far =
      let now : OpenBodyText = record { ifs = ifs; statements = earlier; left = left - body_count earlier } in
      let after : OpenBodyText = record { ifs = ifs; statements = statements; left = left - (body_count earlier + 1) } in
      let count : left - body_count earlier - 1 ≡ left - (body_count earlier + 1) = omega arith in
      both_declare _ (in_body d before o operation now) _ (body_lines o.component_names o.components earlier) ((first ∷ rest) ∷ []) so_far
      (line_within_body now after first rest (λ number.
      of_word o.component_names o.components now number first rest (Statement word) (after, false) named refl
      (statement_back o.component_names o.components now after word (spaced rest) few (omega (arith, some))
      (read ∙ ap (λ (n : ℕ). Ok (record { ifs = ifs; statements = statements; left = n })) count))))

  pub body_declares : (deep : ℕ) (ifs : List OpenIfText) (left : ℕ) (b : BodyText) → AreComponents o.component_names o.components → length ifs ≡ deep → IsBodyOf o.component_names o.components deep b → body_count b ≤ left
      → Declares (in_body d before o operation (record { ifs = ifs; statements = Empty; left = left })) (body_lines o.component_names o.components b)
      (in_body d before o operation (record { ifs = ifs; statements = b; left = left - body_count b }))
  body_declares deep ifs left Empty c within is few =
      let same : left ≡ left - 0 = omega arith in
      λ last number rest. ap (λ (n : ℕ). declarations_from last (in_body d before o operation (record { ifs = ifs; statements = Empty; left = n })) rest) same
  body_declares deep ifs left (Set earlier place value) c within is few =
      statement_declares ifs left earlier (Set earlier place value) (codes "set") words.Set (component_name (is_int place) o.component_names o.components ∷ expr_words o.component_names o.components value) (omega (arith, within, is.1)) (omega (arith, few)) refl
      (set_back o.component_names o.components (record { ifs = ifs; statements = earlier; left = left - body_count earlier - 1 }) place value c is.2 is.3 is.4)
      (body_declares deep ifs left earlier c within is.0 (omega (arith, few)))
  body_declares deep ifs left (Put earlier place value) c within is few =
      statement_declares ifs left earlier (Put earlier place value) (codes "put") words.Put (component_name (is_bool place) o.component_names o.components ∷ cond_words o.component_names o.components value) (omega (arith, within, is.1)) (omega (arith, few)) refl
      (put_back o.component_names o.components (record { ifs = ifs; statements = earlier; left = left - body_count earlier - 1 }) place value c is.2 is.3 is.4)
      (body_declares deep ifs left earlier c within is.0 (omega (arith, few)))
  body_declares deep ifs left (Out earlier value) c within is few =
      statement_declares ifs left earlier (Out earlier value) (codes "out") words.Out (expr_words o.component_names o.components value) (omega (arith, within, is.1)) (omega (arith, few)) refl
      (out_back o.component_names o.components (record { ifs = ifs; statements = earlier; left = left - body_count earlier - 1 }) value c is.2 is.3)
      (body_declares deep ifs left earlier c within is.0 (omega (arith, few)))
  body_declares deep ifs left (If earlier condition first second) c within is few =
      let names = o.component_names in
      let components = o.components in
      let now : OpenBodyText = record { ifs = ifs; statements = earlier; left = left - body_count earlier } in
      let inner : OpenIfText = record { condition = condition; before = earlier; first = None } in
      let turned : OpenIfText = record { condition = condition; before = earlier; first = Some first } in
      let one : ℕ = left - body_count earlier - 1 in
      let two : ℕ = one - body_count first in
      let three : ℕ = two - body_count second in
      let begun : OpenBodyText = record { ifs = inner ∷ ifs; statements = Empty; left = one } in
      let read_first : OpenBodyText = record { ifs = inner ∷ ifs; statements = first; left = two } in
      let other : OpenBodyText = record { ifs = turned ∷ ifs; statements = Empty; left = two } in
      let read_second : OpenBodyText = record { ifs = turned ∷ ifs; statements = second; left = three } in
      let after : OpenBodyText = record { ifs = ifs; statements = If earlier condition first second; left = three } in
      let whole : OpenBodyText = record { ifs = ifs; statements = If earlier condition first second; left = left - (body_count earlier + 1 + body_count first + body_count second) } in
      let deeper : length (inner ∷ ifs) ≡ suc deep = omega (arith, within) in
      let deeper_turned : length (turned ∷ ifs) ≡ suc deep = omega (arith, within) in
      let count : three ≡ left - (body_count earlier + 1 + body_count first + body_count second) = omega arith in
      let lines_first = body_lines names components first in
      let lines_second = body_lines names components second in
      let end_line : List (List (List ℕ)) = (codes "end" ∷ []) ∷ [] in
      let else_line : List (List ℕ) = codes "else" ∷ [] in
      let if_line : List (List ℕ) = codes "if" ∷ cond_words names components condition in
      let fourth : Declares (in_body d before o operation read_second) end_line (in_body d before o operation after) =
      line_within_body read_second after (codes "end") [] (λ number. of_word names components read_second number (codes "end") [] End (after, false) refl refl (end_if_back names components condition earlier first second ifs three)) in
      let third : Declares (in_body d before o operation read_first) (else_line ∷ []) (in_body d before o operation other) =
      line_within_body read_first other (codes "else") [] (λ number. of_word names components read_first number (codes "else") [] Else (other, false) refl refl (else_back names components inner ifs first two)) in
      let opening : Declares (in_body d before o operation now) (if_line ∷ []) (in_body d before o operation begun) =
      line_within_body now begun (codes "if") (cond_words names components condition) (λ number.
      of_word names components now number (codes "if") (cond_words names components condition) (Statement words.If) (begun, false) refl refl
      (statement_back names components now begun words.If (spaced (cond_words names components condition)) (omega (arith, within, is.1)) (omega (arith, few))
      (if_back names components (record now { left = now.left - 1 }) condition c is.2 is.3))) in
      let part_one : Declares (in_body d before o operation begun) lines_first (in_body d before o operation read_first) = body_declares (suc deep) (inner ∷ ifs) one first c deeper is.4 (omega (arith, few)) in
      let part_two : Declares (in_body d before o operation other) lines_second (in_body d before o operation read_second) = body_declares (suc deep) (turned ∷ ifs) two second c deeper_turned is.5 (omega (arith, few)) in
      let to_end : Declares (in_body d before o operation other) (lines_second ++ end_line) (in_body d before o operation after) = both_declare _ (in_body d before o operation read_second) _ lines_second end_line part_two fourth in
      let from_else : Declares (in_body d before o operation read_first) (else_line ∷ (lines_second ++ end_line)) (in_body d before o operation after) = both_declare _ (in_body d before o operation other) _ (else_line ∷ []) (lines_second ++ end_line) third to_end in
      let from_first : Declares (in_body d before o operation begun) (lines_first ++ (else_line ∷ (lines_second ++ end_line))) (in_body d before o operation after) = both_declare _ (in_body d before o operation read_first) _ lines_first (else_line ∷ (lines_second ++ end_line)) part_one from_else in
      let from_if : Declares (in_body d before o operation now) (if_line ∷ (lines_first ++ (else_line ∷ (lines_second ++ end_line)))) (in_body d before o operation after) =
      both_declare _ (in_body d before o operation begun) _ (if_line ∷ []) (lines_first ++ (else_line ∷ (lines_second ++ end_line))) opening from_first in
      let all : Declares (in_body d before o operation (record { ifs = ifs; statements = Empty; left = left })) (body_lines names components earlier ++ (if_line ∷ (lines_first ++ (else_line ∷ (lines_second ++ end_line))))) (in_body d before o operation after) =
      both_declare _ (in_body d before o operation now) _ (body_lines names components earlier) (if_line ∷ (lines_first ++ (else_line ∷ (lines_second ++ end_line)))) (body_declares deep ifs left earlier c within is.0 (omega (arith, few))) from_if in
      λ last number rest. all last number rest ∙ ap (λ (n : ℕ). declarations_from last (in_body d before o operation (record { ifs = ifs; statements = If earlier condition first second; left = n })) rest) count
