-- The parts of a right object are right for the reader, and have the lines that they are written as.
use Rattle.std.proofs.Common.{◌≡◌, ℕ, ◌+◌, not, List, [], ◌∷◌, ◌++◌, Bool, true, false, length, map, arith, inl, inr, ap, refl, sym, subst, ◌∙◌, append_assoc, length-append}
use Rattle.std.specs.Prelude.{flat_map, nat_eq, codes}
use Rattle.std.specs.List.{list_all}
use Rattle.std.specs.Str.{bytes_eq}
use Rattle.std.proofs.lemmas.Bool.{cases_Bool, cond-true, cond-false, eq-eqb}
use Rattle.std.proofs.lemmas.Bool.Decides.{nat_tests}
use Rattle.std.proofs.lemmas.Grind.{flat_map-append}
use Rattle.rp_deck_declarations.specs.rp_body.proofs.Places.{len-by_place}
use Rattle.rp_object.specs.declared.program.Profile.{Profile}
use Rattle.rp_object.specs.declared.program.Profile.TheVariants.{Ravenscar, Jorvik}
use Rattle.rp_deck_bodies.specs.declared.names.Component.{Component}
use Rattle.rp_deck_declarations.specs.rp_deck_objects.specs.Objects.{ObjectText, most_entries}
use Rattle.rp_deck_bodies.specs.Expressions.{expression_words}
use Rattle.rp_words.specs.Tables.{is_declared}
use Rattle.rp_deck_laws.specs.ScriptText.{are_names}
use Rattle.rp_deck_laws.specs.ExpressionTexts.{is_int, is_bool, component_name, HasOne, AreComponents}
use Rattle.rp_deck_laws.specs.ExpressionTexts as texts
use Rattle.rp_deck_laws.specs.PartTexts as parts
use Rattle.rp_deck_laws.specs.PartTexts.{IsPartOf, ArePartsOf, IsNew, with_part}
use Rattle.rp_deck_laws.specs.Names.{is_among, IsAmong, place_in}
use Rattle.rp_deck_laws.specs.Named.{NamedBool, NamedBody, NamedResult, NamedFunction, NamedProcedure, Value, Truth, NamedPart, AnInt, ABool, AFunction, AProcedure, AnEntry, NamedObject, int_of, bool_of, function_of, procedure_of, entry_of, component_of, operation_of, ints, bools, functions, procedures, entries, int_names, bool_names, component_names, operation_names}
use Rattle.rp_deck_laws.specs.NamedTexts as written
use Rattle.rp_deck_laws.specs.NamedMeanings.{ranged, body_meant, result_meant, entry_meant}
use Rattle.rp_deck_laws.specs.RightDecks.{IsRightObject, IsRightPart, IsRightResult, AreRightParts, IsLongest, IsWholeBody, entry_limit}
use Rattle.rp_deck_laws.proofs.NameLemmas.{same_name, among_rest, place_here, place_later, place_more, names_front, names_new, all_front, all_at}
use Rattle.rp_deck_laws.proofs.NamingLemmas.{Finds, expr_same, cond_same, body_same, expr_is, cond_is, body_is, nodes_same, cond_nodes_same, count_same}
use Rattle.rp_deck_laws.proofs.ObjectLemmas.{components_from, so_far, part_text, with_part_is, map_both, long_map}

-- ---- the component of a name

other_place : (n m : ℕ) → nat_eq n (n + (m + 1)) ≡ false
other_place n m = grind (arith, nat_tests)

same_first : (n m : ℕ) → m ≡ 0 → nat_eq n (n + m) ≡ true
same_first n m e = eq-eqb n (n + m) (omega (arith, e))

ints_found : (n b : ℕ) (all : List NamedPart) (name : List ℕ) → IsAmong name (int_names all)
    → (component_name (is_int (n + place_in name (int_names all))) (component_names all) (components_from n b all) ≡ name) × HasOne (is_int (n + place_in name (int_names all))) (components_from n b all)
ints_found n b [] name among = absurd cc
ints_found n b (AnInt int ∷ rest) name among =
    let place = place_in name (int_names (AnInt int ∷ rest)) in
    let later : List ℕ = component_name (is_int (n + place)) (component_names rest) (components_from (n + 1) b rest) in
    elim (cases_Bool (bytes_eq name int.name)) [
      | inl hit ↦
          let here : nat_eq n (n + place) ≡ true = same_first n place (place_here name int.name (int_names rest) hit) in
          (cond-true (nat_eq n (n + place)) int.name later here ∙ sym (same_name name int.name hit), inl here)
      | inr miss ↦
          let after : place ≡ place_in name (int_names rest) + 1 = place_later name int.name (int_names rest) miss in
          let not_here : nat_eq n (n + place) ≡ false = ap (λ (m : ℕ). nat_eq n (n + m)) after ∙ other_place n (place_in name (int_names rest)) in
          let found = ints_found (n + 1) b rest name (among_rest name int.name (int_names rest) miss among) in
          let same : n + 1 + place_in name (int_names rest) ≡ n + place = omega (arith, after) in (
            cond-false (nat_eq n (n + place)) int.name later not_here ∙ subst (λ (m : ℕ). component_name (is_int m) (component_names rest) (components_from (n + 1) b rest) ≡ name) same found.0,
            inr (subst (λ (m : ℕ). HasOne (is_int m) (components_from (n + 1) b rest)) same found.1),
          )
    ]
ints_found n b (ABool bool ∷ rest) name among = let found = ints_found n (b + 1) rest name among in (found.0, inr found.1)
ints_found n b (AFunction function ∷ rest) name among = ints_found n b rest name among
ints_found n b (AProcedure procedure ∷ rest) name among = ints_found n b rest name among
ints_found n b (AnEntry entry ∷ rest) name among = ints_found n b rest name among

bools_found : (n b : ℕ) (all : List NamedPart) (name : List ℕ) → IsAmong name (bool_names all)
    → (component_name (is_bool (b + place_in name (bool_names all))) (component_names all) (components_from n b all) ≡ name) × HasOne (is_bool (b + place_in name (bool_names all))) (components_from n b all)
bools_found n b [] name among = absurd cc
bools_found n b (ABool bool ∷ rest) name among =
    let place = place_in name (bool_names (ABool bool ∷ rest)) in
    let later : List ℕ = component_name (is_bool (b + place)) (component_names rest) (components_from n (b + 1) rest) in
    elim (cases_Bool (bytes_eq name bool.name)) [
      | inl hit ↦
          let here : nat_eq b (b + place) ≡ true = same_first b place (place_here name bool.name (bool_names rest) hit) in
          (cond-true (nat_eq b (b + place)) bool.name later here ∙ sym (same_name name bool.name hit), inl here)
      | inr miss ↦
          let after : place ≡ place_in name (bool_names rest) + 1 = place_later name bool.name (bool_names rest) miss in
          let not_here : nat_eq b (b + place) ≡ false = ap (λ (m : ℕ). nat_eq b (b + m)) after ∙ other_place b (place_in name (bool_names rest)) in
          let found = bools_found n (b + 1) rest name (among_rest name bool.name (bool_names rest) miss among) in
          let same : b + 1 + place_in name (bool_names rest) ≡ b + place = omega (arith, after) in (
            cond-false (nat_eq b (b + place)) bool.name later not_here ∙ subst (λ (m : ℕ). component_name (is_bool m) (component_names rest) (components_from n (b + 1) rest) ≡ name) same found.0,
            inr (subst (λ (m : ℕ). HasOne (is_bool m) (components_from n (b + 1) rest)) same found.1),
          )
    ]
bools_found n b (AnInt int ∷ rest) name among = let found = bools_found (n + 1) b rest name among in (found.0, inr found.1)
bools_found n b (AFunction function ∷ rest) name among = bools_found n b rest name among
bools_found n b (AProcedure procedure ∷ rest) name among = bools_found n b rest name among
bools_found n b (AnEntry entry ∷ rest) name among = bools_found n b rest name among

even_from : (n b : ℕ) (all : List NamedPart) → length (component_names all) ≡ length (components_from n b all)
even_from n b [] = refl
even_from n b (AnInt int ∷ rest) = omega (arith, even_from (n + 1) b rest)
even_from n b (ABool bool ∷ rest) = omega (arith, even_from n (b + 1) rest)
even_from n b (AFunction function ∷ rest) = even_from n b rest
even_from n b (AProcedure procedure ∷ rest) = even_from n b rest
even_from n b (AnEntry entry ∷ rest) = even_from n b rest

-- ---- what comes before

split_names : {X Y Z : Type 0} (f : X → List Y) (g : Y → Z) (xs ys all : List X) → xs ++ ys ≡ all → map g (flat_map f all) ≡ map g (flat_map f xs) ++ map g (flat_map f ys)
split_names {X} {Y} f g xs ys all e =
    ap (λ (l : List X). map g (flat_map f l)) (sym e) ∙ ap (map g) (flat_map-append f xs ys) ∙ map_both g (flat_map f xs) (flat_map f ys)

split_plain : {X Y : Type 0} (f : X → List Y) (xs ys all : List X) → xs ++ ys ≡ all → flat_map f all ≡ flat_map f xs ++ flat_map f ys
split_plain {X} f xs ys all e = ap (λ (l : List X). flat_map f l) (sym e) ∙ flat_map-append f xs ys

split_count : {X Y : Type 0} (f : X → List Y) (xs ys all : List X) → xs ++ ys ≡ all → length (flat_map f all) ≡ length (flat_map f xs) + length (flat_map f ys)
split_count f xs ys all e = ap length (split_plain f xs ys all e) ∙ length-append (flat_map f xs) (flat_map f ys)

module _ (profile : Profile) (object : NamedObject) (right : IsRightObject profile object) where
  finds_before : (before rest : List NamedPart) → before ++ rest ≡ object.parts → Finds (component_names before) (components_from 0 0 before) (int_names object.parts) (bool_names object.parts) (int_names before) (bool_names before)
  finds_before before rest e = record {
    int = λ name among.
        let same : 0 + place_in name (int_names before) ≡ place_in name (int_names object.parts) =
        omega (arith, ap (place_in name) (split_names int_of (λ it. it.name) before rest object.parts e), place_more name (int_names before) (int_names rest) among) in
        subst (λ (m : ℕ). (component_name (is_int m) (component_names before) (components_from 0 0 before) ≡ name) × HasOne (is_int m) (components_from 0 0 before)) same (ints_found 0 0 before name among);
    bool = λ name among.
        let same : 0 + place_in name (bool_names before) ≡ place_in name (bool_names object.parts) =
        omega (arith, ap (place_in name) (split_names bool_of (λ it. it.name) before rest object.parts e), place_more name (bool_names before) (bool_names rest) among) in
        subst (λ (m : ℕ). (component_name (is_bool m) (component_names before) (components_from 0 0 before) ≡ name) × HasOne (is_bool m) (components_from 0 0 before)) same (bools_found 0 0 before name among);
  }

  are_components : (before rest : List NamedPart) → before ++ rest ≡ object.parts → AreComponents (component_names before) (components_from 0 0 before)
  are_components before rest e =
      let split = split_plain component_of before rest object.parts e in
      record {
        names_are = names_front (component_names before) (component_names rest) (ap are_names (sym split) ∙ right.components_named);
        free = all_front (λ name. not (is_declared name expression_words)) (component_names before) (component_names rest) (ap (λ (l : List (List ℕ)). list_all (λ name. not (is_among name expression_words)) l) (sym split) ∙ right.free);
        even = even_from 0 0 before;
      }

  new_component : (before rest : List NamedPart) (part : NamedPart) (name : List ℕ) → before ++ part ∷ rest ≡ object.parts → component_of part ≡ name ∷ [] → IsNew (component_names before) name × (is_declared name expression_words ≡ false)
  new_component before rest part name e one =
      let split : component_names object.parts ≡ component_names before ++ name ∷ component_names rest =
      split_plain component_of before (part ∷ rest) object.parts e ∙ ap (λ (l : List (List ℕ)). component_names before ++ (l ++ component_names rest)) one in
      let new = names_new (component_names before) (component_names rest) name (ap are_names (sym split) ∙ right.components_named) in
      let is_free = all_at (λ name. not (is_declared name expression_words)) (component_names before) (component_names rest) name (ap (λ (l : List (List ℕ)). list_all (λ name. not (is_among name expression_words)) l) (sym split) ∙ right.free) in
      ((new.0, new.1), by (is_declared name expression_words) is_free)
    where
      by : (t : Bool) → not t ≡ true → t ≡ false
      by true h = absurd cc
      by false h = refl

  new_operation : (before rest : List NamedPart) (part : NamedPart) (name : List ℕ) → before ++ part ∷ rest ≡ object.parts → operation_of part ≡ name ∷ [] → IsNew (operation_names before) name
  new_operation before rest part name e one =
      let split : operation_names object.parts ≡ operation_names before ++ name ∷ operation_names rest =
      split_plain operation_of before (part ∷ rest) object.parts e ∙ ap (λ (l : List (List ℕ)). operation_names before ++ (l ++ operation_names rest)) one in
      let new = names_new (operation_names before) (operation_names rest) name (ap are_names (sym split) ∙ right.operations_named) in
      (new.0, new.1)

  -- ---- a right part

  most_same : (profile : Profile) → most_entries profile ≡ entry_limit profile
  most_same Ravenscar = refl
  most_same Jorvik = refl

  longest_same : (profile : Profile) (longest : ℕ) → IsLongest profile longest → parts.IsLongest profile longest
  longest_same Ravenscar longest is = is
  longest_same Jorvik longest is = is

  whole_body : (before rest : List NamedPart) (body : NamedBody) → before ++ rest ≡ object.parts → IsWholeBody (int_names before) (bool_names before) body → parts.IsWholeBody (so_far object before) (body_meant (int_names object.parts) (bool_names object.parts) body)
  whole_body before rest body e is = (
    are_components before rest e,
    body_is (component_names before) (components_from 0 0 before) (int_names object.parts) (bool_names object.parts) (int_names before) (bool_names before) (finds_before before rest e) 0 body is.0,
    rw (count_same (int_names object.parts) (bool_names object.parts) body) is.1,
  )

  function_is : (before rest : List NamedPart) (result : NamedResult) → before ++ rest ≡ object.parts → IsRightResult (int_names before) (bool_names before) result
      → parts.IsFunctionOf (so_far object before) (result_meant (int_names object.parts) (bool_names object.parts) result)
  function_is before rest (Value value) e is = (
    expr_is (component_names before) (components_from 0 0 before) (int_names object.parts) (bool_names object.parts) (int_names before) (bool_names before) (finds_before before rest e) value is.0,
    rw (nodes_same (int_names object.parts) (bool_names object.parts) value) is.1,
  )
  function_is before rest (Truth truth) e is = (
    cond_is (component_names before) (components_from 0 0 before) (int_names object.parts) (bool_names object.parts) (int_names before) (bool_names before) (finds_before before rest e) truth is.0,
    rw (cond_nodes_same (int_names object.parts) (bool_names object.parts) truth) is.1,
  )

  part_is : (before rest : List NamedPart) (part : NamedPart) → before ++ part ∷ rest ≡ object.parts → IsRightPart profile before part → IsPartOf profile (so_far object before) (part_text object part)
  part_is before rest (AnInt int) e is =
      let new = new_component before rest (AnInt int) int.name e refl in
      (omega (arith, split_count int_of before (AnInt int ∷ rest) object.parts e, right.few_ints, len-by_place (map ranged (ints before)), long_map ranged (ints before)), new.0, new.1, is.0, is.1, is.2, is.3)
  part_is before rest (ABool bool) e is =
      let new = new_component before rest (ABool bool) bool.name e refl in
      (omega (arith, split_count bool_of before (ABool bool ∷ rest) object.parts e, right.few_bools, len-by_place (map (λ (it : NamedBool). it.value) (bools before)), long_map (λ (it : NamedBool). it.value) (bools before)), new.0, new.1)
  part_is before rest (AFunction function) e is = (
    omega (arith, split_count function_of before (AFunction function ∷ rest) object.parts e, right.few_functions, long_map (λ (it : NamedFunction). result_meant (int_names object.parts) (bool_names object.parts) it.result) (functions before)),
    new_operation before rest (AFunction function) function.name e refl,
    are_components before (AFunction function ∷ rest) e,
    function_is before (AFunction function ∷ rest) function.result e is,
  )
  part_is before rest (AProcedure procedure) e is = (
    omega (arith, split_count procedure_of before (AProcedure procedure ∷ rest) object.parts e, right.few_procedures, long_map (λ (it : NamedProcedure). body_meant (int_names object.parts) (bool_names object.parts) it.body) (procedures before)),
    new_operation before rest (AProcedure procedure) procedure.name e refl,
    whole_body before (AProcedure procedure ∷ rest) procedure.body e is,
  )
  part_is before rest (AnEntry entry) e is = (
    omega (arith, split_count entry_of before (AnEntry entry ∷ rest) object.parts e, right.few_entries, long_map (entry_meant (int_names object.parts) (bool_names object.parts)) (entries before), most_same profile),
    new_operation before rest (AnEntry entry) entry.name e refl,
    ((finds_before before (AnEntry entry ∷ rest) e).bool entry.barrier is.0).1,
    longest_same profile entry.longest is.1,
    whole_body before (AnEntry entry ∷ rest) entry.body e is.2,
  )

  pub parts_are : (before rest : List NamedPart) → before ++ rest ≡ object.parts → AreRightParts profile before rest → ArePartsOf profile (so_far object before) (map (part_text object) rest)
  parts_are before [] e are = tt
  parts_are before (part ∷ rest) e are = (
    part_is before rest part e are.0,
    subst (λ (o : ObjectText). ArePartsOf profile o (map (part_text object) rest)) (sym (with_part_is object before part))
        (parts_are (before ++ part ∷ []) rest (append_assoc before (part ∷ []) rest ∙ e) are.1),
  )

  -- ---- its lines

  truth_same : (names : List (List ℕ)) (declared : List Component) (truth : Bool) → texts.truth_word names declared truth ≡ written.truth_word truth
  truth_same names declared true = refl
  truth_same names declared false = refl

  result_same : (before rest : List NamedPart) (result : NamedResult) → before ++ rest ≡ object.parts → IsRightResult (int_names before) (bool_names before) result
      → parts.function_words (so_far object before) (result_meant (int_names object.parts) (bool_names object.parts) result) ≡ written.result_words result
  result_same before rest (Value value) e is =
      ap (λ (l : List (List ℕ)). codes "value" ∷ l) (expr_same (component_names before) (components_from 0 0 before) (int_names object.parts) (bool_names object.parts) (int_names before) (bool_names before) (finds_before before rest e) value is.0)
  result_same before rest (Truth truth) e is =
      ap (λ (l : List (List ℕ)). codes "truth" ∷ l) (cond_same (component_names before) (components_from 0 0 before) (int_names object.parts) (bool_names object.parts) (int_names before) (bool_names before) (finds_before before rest e) truth is.0)

  ended_same : (before rest : List NamedPart) (body : NamedBody) → before ++ rest ≡ object.parts → IsWholeBody (int_names before) (bool_names before) body
      → parts.ended (so_far object before) (body_meant (int_names object.parts) (bool_names object.parts) body) ≡ written.lines_with_end body
  ended_same before rest body e is =
      ap (λ (l : List (List (List ℕ))). l ++ (codes "end" ∷ []) ∷ []) (body_same (component_names before) (components_from 0 0 before) (int_names object.parts) (bool_names object.parts) (int_names before) (bool_names before) (finds_before before rest e) 0 body is.0)

  part_same : (before rest : List NamedPart) (part : NamedPart) → before ++ part ∷ rest ≡ object.parts → IsRightPart profile before part
      → parts.part_lines profile (so_far object before) (part_text object part) ≡ written.part_lines profile part
  part_same before rest (AnInt int) e is = refl
  part_same before rest (ABool bool) e is = ap (λ (w : List ℕ). (codes "bool" ∷ bool.name ∷ w ∷ []) ∷ []) (truth_same [] [] bool.value)
  part_same before rest (AFunction function) e is =
      ap (λ (l : List (List ℕ)). (codes "function" ∷ function.name ∷ l) ∷ []) (result_same before (AFunction function ∷ rest) function.result e is)
  part_same before rest (AProcedure procedure) e is =
      ap (λ (l : List (List (List ℕ))). (codes "procedure" ∷ procedure.name ∷ []) ∷ l) (ended_same before (AProcedure procedure ∷ rest) procedure.body e is)
  part_same before rest (AnEntry entry) e is =
      λ k. (codes "entry" ∷ entry.name ∷ codes "when" ∷ ((finds_before before (AnEntry entry ∷ rest) e).bool entry.barrier is.0).0 k ∷ parts.queue_words profile entry.longest)
      ∷ ended_same before (AnEntry entry ∷ rest) entry.body e is.2 k

  pub parts_same : (before rest : List NamedPart) → before ++ rest ≡ object.parts → AreRightParts profile before rest
      → parts.parts_lines profile (so_far object before) (map (part_text object) rest) ≡ flat_map (written.part_lines profile) rest
  parts_same before [] e are = refl
  parts_same before (part ∷ rest) e are =
      λ k. part_same before rest part e are.0 k
      ++ (ap (λ (o : ObjectText). parts.parts_lines profile o (map (part_text object) rest)) (with_part_is object before part)
      ∙ parts_same (before ++ part ∷ []) rest (append_assoc before (part ∷ []) rest ∙ e) are.1) k
