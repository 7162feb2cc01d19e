-- The parts of an object, one after another, give what the object means.
use Rattle.std.proofs.Common.{◌≡◌, ℕ, suc, ◌+◌, List, [], ◌∷◌, ◌++◌, length, map, None, arith, ap, refl, sym, ◌∙◌, append_assoc}
use Rattle.std.specs.Prelude.{flat_map}
use Rattle.std.specs.FinMap.{len, insert}
use Rattle.std.proofs.lemmas.List.{append-nil}
use Rattle.std.proofs.lemmas.Grind.{flat_map-append}
use Rattle.rp_deck.specs.rp_base.specs.declared.action.Operation.{Operation}
use Rattle.rp_deck.specs.rp_base.specs.declared.action.Operation.TheVariants as operations
use Rattle.rp_deck_declarations.specs.rp_body.specs.Store.{by_place}
use Rattle.rp_deck_declarations.specs.rp_body.proofs.Places.{by_place-push, len-by_place}
use Rattle.rp_deck_bodies.specs.declared.names.Component.{Component}
use Rattle.rp_deck_bodies.specs.declared.names.Component.TheVariants as components
use Rattle.rp_deck_declarations.specs.rp_deck_objects.specs.Objects.{ObjectText, empty_object, FunctionText, EntryText}
use Rattle.rp_deck_bodies.specs.Bodies.{BodyText}
use Rattle.rp_deck_laws.specs.PartTexts.{PartText, IntPart, BoolPart, FunctionPart, ProcedurePart, EntryPart, with_part, with_parts, shut}
use Rattle.rp_deck_laws.specs.Names.{place_in}
use Rattle.rp_deck_laws.specs.Named.{NamedBool, NamedFunction, NamedProcedure, NamedEntry, NamedPart, AnInt, ABool, AFunction, AProcedure, AnEntry, NamedObject, int_of, bool_of, function_of, procedure_of, entry_of, component_of, operation_of, ints, bools, functions, procedures, entries, int_names, bool_names, entry_names, component_names, operation_names}
use Rattle.rp_deck_laws.specs.NamedMeanings.{body_meant, result_meant, entry_meant, ranged, store_meant}

-- ---- what the reader has after some parts

abbrev pub components_from : ℕ → ℕ → List NamedPart → List Component
components_from i b [] = []
components_from i b (AnInt int ∷ rest) = components.Int i ∷ components_from (i + 1) b rest
components_from i b (ABool bool ∷ rest) = components.Bool b ∷ components_from i (b + 1) rest
components_from i b (AFunction function ∷ rest) = components_from i b rest
components_from i b (AProcedure procedure ∷ rest) = components_from i b rest
components_from i b (AnEntry entry ∷ rest) = components_from i b rest

abbrev pub operations_from : ℕ → ℕ → ℕ → List NamedPart → List Operation
operations_from f p e [] = []
operations_from f p e (AnInt int ∷ rest) = operations_from f p e rest
operations_from f p e (ABool bool ∷ rest) = operations_from f p e rest
operations_from f p e (AFunction function ∷ rest) = operations.Function (f + 1) ∷ operations_from (f + 1) p e rest
operations_from f p e (AProcedure procedure ∷ rest) = operations.Procedure (p + 1) ∷ operations_from f (p + 1) e rest
operations_from f p e (AnEntry entry ∷ rest) = operations.Entry (e + 1) ∷ operations_from f p (e + 1) rest

abbrev pub so_far : NamedObject → List NamedPart → ObjectText
so_far object before = record {
  name = object.name;
  ceiling = object.ceiling;
  component_names = component_names before;
  components = components_from 0 0 before;
  int_names = int_names before;
  bool_names = bool_names before;
  store = store_meant before;
  operation_names = operation_names before;
  operations = operations_from 0 0 0 before;
  functions = map (λ it. result_meant (int_names object.parts) (bool_names object.parts) it.result) (functions before);
  procedures = map (λ it. body_meant (int_names object.parts) (bool_names object.parts) it.body) (procedures before);
  entry_names = entry_names before;
  entries = map (entry_meant (int_names object.parts) (bool_names object.parts)) (entries before);
  open_operation = None;
}

abbrev pub part_text : NamedObject → NamedPart → PartText
part_text object (AnInt int) = IntPart int.name int.low int.high int.value
part_text object (ABool bool) = BoolPart bool.name bool.value
part_text object (AFunction function) = FunctionPart function.name (result_meant (int_names object.parts) (bool_names object.parts) function.result)
part_text object (AProcedure procedure) = ProcedurePart procedure.name (body_meant (int_names object.parts) (bool_names object.parts) procedure.body)
part_text object (AnEntry entry) = EntryPart entry.name (place_in entry.barrier (bool_names object.parts)) entry.longest (body_meant (int_names object.parts) (bool_names object.parts) entry.body)

-- ---- one part more

zero_more : (n : ℕ) → n ≡ n + 0
zero_more n = omega arith

one_shift : (n m : ℕ) → n + 1 + m ≡ n + suc m
one_shift n m = omega arith

components_last : (i b : ℕ) (xs : List NamedPart) (p : NamedPart) → components_from i b (xs ++ p ∷ []) ≡ components_from i b xs ++ components_from (i + length (ints xs)) (b + length (bools xs)) (p ∷ [])
components_last i b [] p = λ k. components_from (zero_more i k) (zero_more b k) (p ∷ [])
components_last i b (AnInt int ∷ xs) p =
    ap (λ (l : List Component). components.Int i ∷ l) (components_last (i + 1) b xs p)
    ∙ (λ k. components.Int i ∷ (components_from (i + 1) b xs ++ components_from (one_shift i (length (ints xs)) k) (b + length (bools xs)) (p ∷ [])))
components_last i b (ABool bool ∷ xs) p =
    ap (λ (l : List Component). components.Bool b ∷ l) (components_last i (b + 1) xs p)
    ∙ (λ k. components.Bool b ∷ (components_from i (b + 1) xs ++ components_from (i + length (ints xs)) (one_shift b (length (bools xs)) k) (p ∷ [])))
components_last i b (AFunction function ∷ xs) p = components_last i b xs p
components_last i b (AProcedure procedure ∷ xs) p = components_last i b xs p
components_last i b (AnEntry entry ∷ xs) p = components_last i b xs p

operations_last : (f q e : ℕ) (xs : List NamedPart) (p : NamedPart) → operations_from f q e (xs ++ p ∷ []) ≡ operations_from f q e xs ++ operations_from (f + length (functions xs)) (q + length (procedures xs)) (e + length (entries xs)) (p ∷ [])
operations_last f q e [] p = λ k. operations_from (zero_more f k) (zero_more q k) (zero_more e k) (p ∷ [])
operations_last f q e (AnInt int ∷ xs) p = operations_last f q e xs p
operations_last f q e (ABool bool ∷ xs) p = operations_last f q e xs p
operations_last f q e (AFunction function ∷ xs) p =
    ap (λ (l : List Operation). operations.Function (f + 1) ∷ l) (operations_last (f + 1) q e xs p)
    ∙ (λ k. operations.Function (f + 1) ∷ (operations_from (f + 1) q e xs ++ operations_from (one_shift f (length (functions xs)) k) (q + length (procedures xs)) (e + length (entries xs)) (p ∷ [])))
operations_last f q e (AProcedure procedure ∷ xs) p =
    ap (λ (l : List Operation). operations.Procedure (q + 1) ∷ l) (operations_last f (q + 1) e xs p)
    ∙ (λ k. operations.Procedure (q + 1) ∷ (operations_from f (q + 1) e xs ++ operations_from (f + length (functions xs)) (one_shift q (length (procedures xs)) k) (e + length (entries xs)) (p ∷ [])))
operations_last f q e (AnEntry entry ∷ xs) p =
    ap (λ (l : List Operation). operations.Entry (e + 1) ∷ l) (operations_last f q (e + 1) xs p)
    ∙ (λ k. operations.Entry (e + 1) ∷ (operations_from f q (e + 1) xs ++ operations_from (f + length (functions xs)) (q + length (procedures xs)) (one_shift e (length (entries xs)) k) (p ∷ [])))

flat_last : {X Y : Type 0} (f : X → List Y) (xs : List X) (x : X) → flat_map f (xs ++ x ∷ []) ≡ flat_map f xs ++ (f x ++ [])
flat_last f xs x = flat_map-append f xs (x ∷ [])

pub map_both : {X Y : Type 0} (f : X → Y) (xs ys : List X) → map f (xs ++ ys) ≡ map f xs ++ map f ys
map_both f [] ys = refl
map_both {X} {Y} f (x ∷ xs) ys = ap (λ (l : List Y). f x ∷ l) (map_both f xs ys)

pub long_map : {X Y : Type 0} (f : X → Y) (xs : List X) → length (map f xs) ≡ length xs
long_map f [] = refl
long_map f (x ∷ xs) = omega (arith, long_map f xs)

-- nothing of another kind
none_more : {X Y Z : Type 0} (f : X → List Y) (g : Y → Z) (xs : List X) (x : X) → f x ≡ [] → map g (flat_map f xs) ≡ map g (flat_map f (xs ++ x ∷ []))
none_more {X} {Y} {Z} f g xs x none =
    sym (ap (map g) (flat_last f xs x) ∙ ap (λ (l : List Y). map g (flat_map f xs ++ (l ++ []))) none ∙ ap (map g) (append-nil (flat_map f xs)))

-- one of this kind
one_more : {X Y Z : Type 0} (f : X → List Y) (g : Y → Z) (xs : List X) (x : X) (y : Y) → f x ≡ y ∷ [] → map g (flat_map f xs) ++ g y ∷ [] ≡ map g (flat_map f (xs ++ x ∷ []))
one_more {X} {Y} {Z} f g xs x y one =
    sym (ap (map g) (flat_last f xs x) ∙ ap (λ (l : List Y). map g (flat_map f xs ++ (l ++ []))) one ∙ map_both g (flat_map f xs) (y ∷ []))

plain_none : {X Y : Type 0} (f : X → List Y) (xs : List X) (x : X) → f x ≡ [] → flat_map f xs ≡ flat_map f (xs ++ x ∷ [])
plain_none {X} {Y} f xs x none = sym (flat_last f xs x ∙ ap (λ (l : List Y). flat_map f xs ++ (l ++ [])) none ∙ append-nil (flat_map f xs))

plain_one : {X Y : Type 0} (f : X → List Y) (xs : List X) (x : X) (y : Y) → f x ≡ y ∷ [] → flat_map f xs ++ y ∷ [] ≡ flat_map f (xs ++ x ∷ [])
plain_one {X} {Y} f xs x y one = sym (flat_last f xs x ∙ ap (λ (l : List Y). flat_map f xs ++ (l ++ [])) one)

no_component : (xs : List NamedPart) (p : NamedPart) → components_from (0 + length (ints xs)) (0 + length (bools xs)) (p ∷ []) ≡ [] → components_from 0 0 xs ≡ components_from 0 0 (xs ++ p ∷ [])
no_component xs p none = sym (components_last 0 0 xs p ∙ ap (λ (l : List Component). components_from 0 0 xs ++ l) none ∙ append-nil (components_from 0 0 xs))

no_operation : (xs : List NamedPart) (p : NamedPart) → operations_from (0 + length (functions xs)) (0 + length (procedures xs)) (0 + length (entries xs)) (p ∷ []) ≡ [] → operations_from 0 0 0 xs ≡ operations_from 0 0 0 (xs ++ p ∷ [])
no_operation xs p none = sym (operations_last 0 0 0 xs p ∙ ap (λ (l : List Operation). operations_from 0 0 0 xs ++ l) none ∙ append-nil (operations_from 0 0 0 xs))

-- how many there are
counted : {X Y : Type 0} (f : X → Y) (xs : List X) → 0 + length xs ≡ len (by_place (map f xs))
counted f xs = omega (arith, len-by_place (map f xs), long_map f xs)

mapped : {X Y : Type 0} (f : X → Y) (xs : List X) → 0 + length xs ≡ length (map f xs)
mapped f xs = omega (arith, long_map f xs)

-- one element more at the end of a map
pushed : {X Y : Type 0} (f : X → Y) (xs : List X) (x : X) → insert (by_place (map f xs)) (len (by_place (map f xs))) (f x) ≡ by_place (map f xs ++ f x ∷ [])
pushed f xs x = ap (λ (n : ℕ). insert (by_place (map f xs)) n (f x)) (len-by_place (map f xs)) ∙ sym (by_place-push (map f xs) (f x))

module _ (object : NamedObject) where
  abbrev result_in : NamedFunction → FunctionText
  result_in it = result_meant (int_names object.parts) (bool_names object.parts) it.result

  abbrev body_in : NamedProcedure → BodyText
  body_in it = body_meant (int_names object.parts) (bool_names object.parts) it.body

  abbrev entry_in : NamedEntry → EntryText
  entry_in it = entry_meant (int_names object.parts) (bool_names object.parts) it

  pub with_part_is : (before : List NamedPart) (part : NamedPart) → with_part (so_far object before) (part_text object part) ≡ so_far object (before ++ part ∷ [])
  with_part_is before (AnInt int) = λ k. record {
    name = object.name;
    ceiling = object.ceiling;
    component_names = plain_one component_of before (AnInt int) int.name refl k;
    components = sym (components_last 0 0 before (AnInt int) ∙ ap (λ (n : ℕ). components_from 0 0 before ++ components.Int n ∷ []) (counted ranged (ints before))) k;
    int_names = one_more int_of (λ it. it.name) before (AnInt int) int refl k;
    bool_names = none_more bool_of (λ it. it.name) before (AnInt int) refl k;
    store = record {
      ints = (pushed ranged (ints before) int ∙ ap by_place (one_more int_of ranged before (AnInt int) int refl)) k;
      bools = ap by_place (none_more bool_of (λ it. it.value) before (AnInt int) refl) k;
    };
    operation_names = plain_none operation_of before (AnInt int) refl k;
    operations = no_operation before (AnInt int) refl k;
    functions = none_more function_of result_in before (AnInt int) refl k;
    procedures = none_more procedure_of body_in before (AnInt int) refl k;
    entry_names = none_more entry_of (λ it. it.name) before (AnInt int) refl k;
    entries = none_more entry_of entry_in before (AnInt int) refl k;
    open_operation = None;
  }
  with_part_is before (ABool bool) = λ k. record {
    name = object.name;
    ceiling = object.ceiling;
    component_names = plain_one component_of before (ABool bool) bool.name refl k;
    components = sym (components_last 0 0 before (ABool bool) ∙ ap (λ (n : ℕ). components_from 0 0 before ++ components.Bool n ∷ []) (counted (λ (it : NamedBool). it.value) (bools before))) k;
    int_names = none_more int_of (λ it. it.name) before (ABool bool) refl k;
    bool_names = one_more bool_of (λ it. it.name) before (ABool bool) bool refl k;
    store = record {
      ints = ap by_place (none_more int_of ranged before (ABool bool) refl) k;
      bools = (pushed (λ (it : NamedBool). it.value) (bools before) bool ∙ ap by_place (one_more bool_of (λ it. it.value) before (ABool bool) bool refl)) k;
    };
    operation_names = plain_none operation_of before (ABool bool) refl k;
    operations = no_operation before (ABool bool) refl k;
    functions = none_more function_of result_in before (ABool bool) refl k;
    procedures = none_more procedure_of body_in before (ABool bool) refl k;
    entry_names = none_more entry_of (λ it. it.name) before (ABool bool) refl k;
    entries = none_more entry_of entry_in before (ABool bool) refl k;
    open_operation = None;
  }
  with_part_is before (AFunction function) = λ k. record {
    name = object.name;
    ceiling = object.ceiling;
    component_names = plain_none component_of before (AFunction function) refl k;
    components = no_component before (AFunction function) refl k;
    int_names = none_more int_of (λ it. it.name) before (AFunction function) refl k;
    bool_names = none_more bool_of (λ it. it.name) before (AFunction function) refl k;
    store = record {
      ints = ap by_place (none_more int_of ranged before (AFunction function) refl) k;
      bools = ap by_place (none_more bool_of (λ it. it.value) before (AFunction function) refl) k;
    };
    operation_names = plain_one operation_of before (AFunction function) function.name refl k;
    operations = sym (operations_last 0 0 0 before (AFunction function) ∙ ap (λ (n : ℕ). operations_from 0 0 0 before ++ operations.Function (n + 1) ∷ []) (mapped result_in (functions before))) k;
    functions = one_more function_of result_in before (AFunction function) function refl k;
    procedures = none_more procedure_of body_in before (AFunction function) refl k;
    entry_names = none_more entry_of (λ it. it.name) before (AFunction function) refl k;
    entries = none_more entry_of entry_in before (AFunction function) refl k;
    open_operation = None;
  }
  with_part_is before (AProcedure procedure) = λ k. record {
    name = object.name;
    ceiling = object.ceiling;
    component_names = plain_none component_of before (AProcedure procedure) refl k;
    components = no_component before (AProcedure procedure) refl k;
    int_names = none_more int_of (λ it. it.name) before (AProcedure procedure) refl k;
    bool_names = none_more bool_of (λ it. it.name) before (AProcedure procedure) refl k;
    store = record {
      ints = ap by_place (none_more int_of ranged before (AProcedure procedure) refl) k;
      bools = ap by_place (none_more bool_of (λ it. it.value) before (AProcedure procedure) refl) k;
    };
    operation_names = plain_one operation_of before (AProcedure procedure) procedure.name refl k;
    operations = sym (operations_last 0 0 0 before (AProcedure procedure) ∙ ap (λ (n : ℕ). operations_from 0 0 0 before ++ operations.Procedure (n + 1) ∷ []) (mapped body_in (procedures before))) k;
    functions = none_more function_of result_in before (AProcedure procedure) refl k;
    procedures = one_more procedure_of body_in before (AProcedure procedure) procedure refl k;
    entry_names = none_more entry_of (λ it. it.name) before (AProcedure procedure) refl k;
    entries = none_more entry_of entry_in before (AProcedure procedure) refl k;
    open_operation = None;
  }
  with_part_is before (AnEntry entry) = λ k. record {
    name = object.name;
    ceiling = object.ceiling;
    component_names = plain_none component_of before (AnEntry entry) refl k;
    components = no_component before (AnEntry entry) refl k;
    int_names = none_more int_of (λ it. it.name) before (AnEntry entry) refl k;
    bool_names = none_more bool_of (λ it. it.name) before (AnEntry entry) refl k;
    store = record {
      ints = ap by_place (none_more int_of ranged before (AnEntry entry) refl) k;
      bools = ap by_place (none_more bool_of (λ it. it.value) before (AnEntry entry) refl) k;
    };
    operation_names = plain_one operation_of before (AnEntry entry) entry.name refl k;
    operations = sym (operations_last 0 0 0 before (AnEntry entry) ∙ ap (λ (n : ℕ). operations_from 0 0 0 before ++ operations.Entry (n + 1) ∷ []) (mapped entry_in (entries before))) k;
    functions = none_more function_of result_in before (AnEntry entry) refl k;
    procedures = none_more procedure_of body_in before (AnEntry entry) refl k;
    entry_names = one_more entry_of (λ it. it.name) before (AnEntry entry) entry refl k;
    entries = one_more entry_of entry_in before (AnEntry entry) entry refl k;
    open_operation = None;
  }

  -- and all parts
  pub with_parts_is : (before rest : List NamedPart) → with_parts (so_far object before) (map (part_text object) rest) ≡ so_far object (before ++ rest)
  with_parts_is before [] = ap (so_far object) (sym (append-nil before))
  with_parts_is before (p ∷ rest) =
      ap (λ (o : ObjectText). with_parts o (map (part_text object) rest)) (with_part_is before p) ∙ with_parts_is (before ++ p ∷ []) rest
      ∙ ap (so_far object) (append_assoc before (p ∷ []) rest)

  pub nothing_yet : so_far object [] ≡ empty_object object.name object.ceiling
  nothing_yet = refl

  -- the whole object
  pub whole_is : shut (with_parts (empty_object object.name object.ceiling) (map (part_text object) object.parts)) ≡ so_far object object.parts
  whole_is = ap shut (with_parts_is [] object.parts)
