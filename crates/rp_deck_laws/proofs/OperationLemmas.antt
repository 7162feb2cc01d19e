-- The operation of a name, as the reader numbers it.
use Rattle.std.proofs.Common.{◌≡◌, ℕ, ◌+◌, not, List, [], ◌∷◌, Bool, true, false, cond, length, Some, arith, inl, inr, ap, refl, sym, subst, ◌∙◌}
use Rattle.std.specs.Prelude.{nat_eq}
use Rattle.std.specs.List.{list_all}
use Rattle.std.specs.Str.{bytes_eq}
use Rattle.std.proofs.lemmas.Bool.{cases_Bool, cond-true, cond-false, eq-eqb}
use Rattle.std.proofs.lemmas.Bool.Decides.{nat_tests}
use Rattle.rp_deck.specs.rp_base.specs.declared.action.Operation.{Operation}
use Rattle.rp_deck.specs.rp_base.specs.declared.action.Operation.TheVariants as operations
use Rattle.rp_words.specs.Words.{is_name}
use Rattle.rp_words.specs.Tables.{is_declared, find}
use Rattle.rp_words.proofs.WordsLemmas.{both}
use Rattle.rp_deck_laws.specs.ScriptText.{is_distinct, are_names, same_operation, operation_name_in, IsOneOf}
use Rattle.rp_deck_laws.proofs.ScriptTextLemmas.{another, or_right, by_name}
use Rattle.rp_deck_laws.specs.Names.{is_among, IsAmong, place_in, number_in}
use Rattle.rp_deck_laws.specs.Named.{NamedPart, AnInt, ABool, AFunction, AProcedure, AnEntry, function_names, procedure_names, entry_names, operation_names}
use Rattle.rp_deck_laws.specs.NamedMeanings.{operation_meant}
use Rattle.rp_deck_laws.proofs.NameLemmas.{same_name, among_here, among_later, among_rest, not_among, place_here, place_later}
use Rattle.rp_deck_laws.proofs.ObjectLemmas.{operations_from}

-- ---- which kind

abbrev pub chosen : Bool → Bool → ℕ → ℕ → ℕ → Operation
chosen true procedure f p e = operations.Function f
chosen false true f p e = operations.Procedure p
chosen false false f p e = operations.Entry e

pub same_chosen : (a b : Bool) (f p e : ℕ) → same_operation (chosen a b f p e) (chosen a b f p e) ≡ true
same_chosen true b f p e = eq-eqb f f refl
same_chosen false true f p e = eq-eqb p p refl
same_chosen false false f p e = eq-eqb e e refl

not_function : (n : ℕ) (a b : Bool) (f p e : ℕ) → nat_eq n f ≡ false → same_operation (operations.Function n) (chosen a b f p e) ≡ false
not_function n true b f p e other = other
not_function n false true f p e other = refl
not_function n false false f p e other = refl

not_procedure : (n : ℕ) (a b : Bool) (f p e : ℕ) → nat_eq n p ≡ false → same_operation (operations.Procedure n) (chosen a b f p e) ≡ false
not_procedure n true b f p e other = refl
not_procedure n false true f p e other = other
not_procedure n false false f p e other = refl

not_entry : (n : ℕ) (a b : Bool) (f p e : ℕ) → nat_eq n e ≡ false → same_operation (operations.Entry n) (chosen a b f p e) ≡ false
not_entry n true b f p e other = refl
not_entry n false true f p e other = refl
not_entry n false false f p e other = other

abbrev pub operation_from : ℕ → ℕ → ℕ → List NamedPart → List ℕ → Operation
operation_from f p e all name =
    chosen (is_among name (function_names all)) (is_among name (procedure_names all))
    (f + number_in name (function_names all)) (p + number_in name (procedure_names all)) (e + number_in name (entry_names all))

pub from_first : (all : List NamedPart) (name : List ℕ) → operation_from 0 0 0 all name ≡ operation_meant all name
from_first all name = by (is_among name (function_names all)) (is_among name (procedure_names all)) _ _ _
  where
    one : (n : ℕ) → 0 + n ≡ n
    one n = omega arith

    by : (a b : Bool) (f p e : ℕ) → chosen a b (0 + f) (0 + p) (0 + e) ≡ cond a (operations.Function f) (cond b (operations.Procedure p) (operations.Entry e))
    by true b f p e = ap operations.Function (one f)
    by false true f p e = ap operations.Procedure (one p)
    by false false f p e = ap operations.Entry (one e)

-- ---- a name is of one operation

functions_are : (all : List NamedPart) (name : List ℕ) → IsAmong name (function_names all) → IsAmong name (operation_names all)
functions_are [] name among = among
functions_are (AnInt int ∷ rest) name among = functions_are rest name among
functions_are (ABool bool ∷ rest) name among = functions_are rest name among
functions_are (AFunction function ∷ rest) name among = elim (cases_Bool (bytes_eq name function.name)) [
  | inl hit ↦ among_here name function.name (operation_names rest) hit
  | inr miss ↦ or_right (bytes_eq name function.name) (is_among name (operation_names rest)) (functions_are rest name (among_rest name function.name (function_names rest) miss among))
]
functions_are (AProcedure procedure ∷ rest) name among = or_right (bytes_eq name procedure.name) (is_among name (operation_names rest)) (functions_are rest name among)
functions_are (AnEntry entry ∷ rest) name among = or_right (bytes_eq name entry.name) (is_among name (operation_names rest)) (functions_are rest name among)

pub procedures_are : (all : List NamedPart) (name : List ℕ) → IsAmong name (procedure_names all) → IsAmong name (operation_names all)
procedures_are [] name among = among
procedures_are (AnInt int ∷ rest) name among = procedures_are rest name among
procedures_are (ABool bool ∷ rest) name among = procedures_are rest name among
procedures_are (AFunction function ∷ rest) name among = or_right (bytes_eq name function.name) (is_among name (operation_names rest)) (procedures_are rest name among)
procedures_are (AProcedure procedure ∷ rest) name among = elim (cases_Bool (bytes_eq name procedure.name)) [
  | inl hit ↦ among_here name procedure.name (operation_names rest) hit
  | inr miss ↦ or_right (bytes_eq name procedure.name) (is_among name (operation_names rest)) (procedures_are rest name (among_rest name procedure.name (procedure_names rest) miss among))
]
procedures_are (AnEntry entry ∷ rest) name among = or_right (bytes_eq name entry.name) (is_among name (operation_names rest)) (procedures_are rest name among)

absent : (a b : Bool) → (a ≡ true → b ≡ true) → b ≡ false → a ≡ false
absent true b up none = absurd (let e : b ≡ true = up refl in cc)
absent false b up none = refl

-- a name after which no operation has it again
gone : (x name : List ℕ) (rest : List NamedPart) → is_distinct (x ∷ operation_names rest) ≡ true → bytes_eq name x ≡ true → is_among name (operation_names rest) ≡ false
gone x name rest distinct hit = subst (λ (n : List ℕ). is_among n (operation_names rest) ≡ false) (sym (same_name name x hit)) (not_among x (operation_names rest) distinct)

no_function : (rest : List NamedPart) (name : List ℕ) → is_among name (operation_names rest) ≡ false → is_among name (function_names rest) ≡ false
no_function rest name none = absent (is_among name (function_names rest)) (is_among name (operation_names rest)) (functions_are rest name) none

no_procedure : (rest : List NamedPart) (name : List ℕ) → is_among name (operation_names rest) ≡ false → is_among name (procedure_names rest) ≡ false
no_procedure rest name none = absent (is_among name (procedure_names rest)) (is_among name (operation_names rest)) (procedures_are rest name) none

tail_distinct : (x : List ℕ) (xs : List (List ℕ)) → is_distinct (x ∷ xs) ≡ true → is_distinct xs ≡ true
tail_distinct x xs h = (both (not (is_declared x xs)) (is_distinct xs) h).1

-- the name of a procedure is no function's
no_function_too : (all : List NamedPart) (name : List ℕ) → is_distinct (operation_names all) ≡ true → IsAmong name (procedure_names all) → is_among name (function_names all) ≡ false
no_function_too [] name distinct among = refl
no_function_too (AnInt int ∷ rest) name distinct among = no_function_too rest name distinct among
no_function_too (ABool bool ∷ rest) name distinct among = no_function_too rest name distinct among
no_function_too (AFunction function ∷ rest) name distinct among =
    among_later name function.name (function_names rest) (another function.name name (operation_names rest) distinct (procedures_are rest name among))
    ∙ no_function_too rest name (tail_distinct function.name (operation_names rest) distinct) among
no_function_too (AProcedure procedure ∷ rest) name distinct among = elim (cases_Bool (bytes_eq name procedure.name)) [
  | inl hit ↦ no_function rest name (gone procedure.name name rest distinct hit)
  | inr miss ↦ no_function_too rest name (tail_distinct procedure.name (operation_names rest) distinct) (among_rest name procedure.name (procedure_names rest) miss among)
]
no_function_too (AnEntry entry ∷ rest) name distinct among = no_function_too rest name (tail_distinct entry.name (operation_names rest) distinct) among

-- ---- the name that is found for it

abbrev Named : ℕ → ℕ → ℕ → List NamedPart → List ℕ → Operation → Type 0
Named f p e all name operation = (operation_name_in (operation_names all) (operations_from f p e all) operation ≡ name) × IsOneOf (operations_from f p e all) operation

other_number : (n m : ℕ) → nat_eq (n + 1) (n + 1 + (m + 1)) ≡ false
other_number n m = grind (arith, nat_tests)

first_number : (n m : ℕ) → m ≡ 0 → n + (m + 1) ≡ n + 1
first_number n m e = omega (arith, e)

next_number : (n m k : ℕ) → m ≡ k + 1 → n + (m + 1) ≡ n + 1 + (k + 1)
next_number n m k e = omega (arith, e)

named_from : (f p e : ℕ) (all : List NamedPart) (name : List ℕ) → is_distinct (operation_names all) ≡ true → IsAmong name (operation_names all) → Named f p e all name (operation_from f p e all name)
named_from f p e [] name distinct among = absurd cc
named_from f p e (AnInt int ∷ rest) name distinct among = named_from f p e rest name distinct among
named_from f p e (ABool bool ∷ rest) name distinct among = named_from f p e rest name distinct among
named_from f p e (AFunction function ∷ rest) name distinct among =
    let all : List NamedPart = AFunction function ∷ rest in
    let names = function_names rest in
    let later : Operation → List ℕ = λ operation. operation_name_in (operation_names rest) (operations_from (f + 1) p e rest) operation in
    elim (cases_Bool (bytes_eq name function.name)) [
      | inl hit ↦
          let is : operation_from f p e all name ≡ operations.Function (f + 1) =
          (λ k. chosen (among_here name function.name names hit k) (is_among name (procedure_names rest)) (first_number f (place_in name (function.name ∷ names)) (place_here name function.name names hit) k) (p + number_in name (procedure_names rest)) (e + number_in name (entry_names rest))) in
          subst (Named f p e all name) (sym is) (cond-true (nat_eq (f + 1) (f + 1)) function.name (later (operations.Function (f + 1))) (eq-eqb (f + 1) (f + 1) refl) ∙ sym (same_name name function.name hit), inl refl)
      | inr miss ↦
          let is : operation_from f p e all name ≡ operation_from (f + 1) p e rest name =
          (λ k. chosen (among_later name function.name names miss k) (is_among name (procedure_names rest)) (next_number f (place_in name (function.name ∷ names)) (place_in name names) (place_later name function.name names miss) k) (p + number_in name (procedure_names rest)) (e + number_in name (entry_names rest))) in
          let found = named_from (f + 1) p e rest name (tail_distinct function.name (operation_names rest) distinct) (among_rest name function.name (operation_names rest) miss among) in
          let other = not_function (f + 1) (is_among name names) (is_among name (procedure_names rest)) (f + 1 + number_in name names) (p + number_in name (procedure_names rest)) (e + number_in name (entry_names rest)) (other_number f (place_in name names)) in
          subst (Named f p e all name) (sym is) (cond-false (same_operation (operations.Function (f + 1)) (operation_from (f + 1) p e rest name)) function.name (later (operation_from (f + 1) p e rest name)) other ∙ found.0, inr found.1)
    ]
named_from f p e (AProcedure procedure ∷ rest) name distinct among =
    let all : List NamedPart = AProcedure procedure ∷ rest in
    let names = procedure_names rest in
    let later : Operation → List ℕ = λ operation. operation_name_in (operation_names rest) (operations_from f (p + 1) e rest) operation in
    elim (cases_Bool (bytes_eq name procedure.name)) [
      | inl hit ↦
          let none = no_function rest name (gone procedure.name name rest distinct hit) in
          let is : operation_from f p e all name ≡ operations.Procedure (p + 1) =
          (λ k. chosen (none k) (among_here name procedure.name names hit k) (f + number_in name (function_names rest)) (first_number p (place_in name (procedure.name ∷ names)) (place_here name procedure.name names hit) k) (e + number_in name (entry_names rest))) in
          subst (Named f p e all name) (sym is) (cond-true (nat_eq (p + 1) (p + 1)) procedure.name (later (operations.Procedure (p + 1))) (eq-eqb (p + 1) (p + 1) refl) ∙ sym (same_name name procedure.name hit), inl refl)
      | inr miss ↦
          let is : operation_from f p e all name ≡ operation_from f (p + 1) e rest name =
          (λ k. chosen (is_among name (function_names rest)) (among_later name procedure.name names miss k) (f + number_in name (function_names rest)) (next_number p (place_in name (procedure.name ∷ names)) (place_in name names) (place_later name procedure.name names miss) k) (e + number_in name (entry_names rest))) in
          let found = named_from f (p + 1) e rest name (tail_distinct procedure.name (operation_names rest) distinct) (among_rest name procedure.name (operation_names rest) miss among) in
          let other = not_procedure (p + 1) (is_among name (function_names rest)) (is_among name names) (f + number_in name (function_names rest)) (p + 1 + number_in name names) (e + number_in name (entry_names rest)) (other_number p (place_in name names)) in
          subst (Named f p e all name) (sym is) (cond-false (same_operation (operations.Procedure (p + 1)) (operation_from f (p + 1) e rest name)) procedure.name (later (operation_from f (p + 1) e rest name)) other ∙ found.0, inr found.1)
    ]
named_from f p e (AnEntry entry ∷ rest) name distinct among =
    let all : List NamedPart = AnEntry entry ∷ rest in
    let names = entry_names rest in
    let later : Operation → List ℕ = λ operation. operation_name_in (operation_names rest) (operations_from f p (e + 1) rest) operation in
    elim (cases_Bool (bytes_eq name entry.name)) [
      | inl hit ↦
          let away = gone entry.name name rest distinct hit in
          let none = no_function rest name away in
          let none_too = no_procedure rest name away in
          let is : operation_from f p e all name ≡ operations.Entry (e + 1) =
          (λ k. chosen (none k) (none_too k) (f + number_in name (function_names rest)) (p + number_in name (procedure_names rest)) (first_number e (place_in name (entry.name ∷ names)) (place_here name entry.name names hit) k)) in
          subst (Named f p e all name) (sym is) (cond-true (nat_eq (e + 1) (e + 1)) entry.name (later (operations.Entry (e + 1))) (eq-eqb (e + 1) (e + 1) refl) ∙ sym (same_name name entry.name hit), inl refl)
      | inr miss ↦
          let is : operation_from f p e all name ≡ operation_from f p (e + 1) rest name =
          (λ k. chosen (is_among name (function_names rest)) (is_among name (procedure_names rest)) (f + number_in name (function_names rest)) (p + number_in name (procedure_names rest)) (next_number e (place_in name (entry.name ∷ names)) (place_in name names) (place_later name entry.name names miss) k)) in
          let found = named_from f p (e + 1) rest name (tail_distinct entry.name (operation_names rest) distinct) (among_rest name entry.name (operation_names rest) miss among) in
          let other = not_entry (e + 1) (is_among name (function_names rest)) (is_among name (procedure_names rest)) (f + number_in name (function_names rest)) (p + number_in name (procedure_names rest)) (e + 1 + number_in name names) (other_number e (place_in name names)) in
          subst (Named f p e all name) (sym is) (cond-false (same_operation (operations.Entry (e + 1)) (operation_from f p (e + 1) rest name)) entry.name (later (operation_from f p (e + 1) rest name)) other ∙ found.0, inr found.1)
    ]

pub even_operations : (f p e : ℕ) (all : List NamedPart) → length (operation_names all) ≡ length (operations_from f p e all)
even_operations f p e [] = refl
even_operations f p e (AnInt int ∷ rest) = even_operations f p e rest
even_operations f p e (ABool bool ∷ rest) = even_operations f p e rest
even_operations f p e (AFunction function ∷ rest) = omega (arith, even_operations (f + 1) p e rest)
even_operations f p e (AProcedure procedure ∷ rest) = omega (arith, even_operations f (p + 1) e rest)
even_operations f p e (AnEntry entry ∷ rest) = omega (arith, even_operations f p (e + 1) rest)

-- what the manual numbers is what the reader finds
pub operation_is : (all : List NamedPart) (name : List ℕ) → are_names (operation_names all) ≡ true → IsAmong name (operation_names all)
    → (operation_name_in (operation_names all) (operations_from 0 0 0 all) (operation_from 0 0 0 all name) ≡ name) × IsOneOf (operations_from 0 0 0 all) (operation_from 0 0 0 all name)
operation_is all name names among = named_from 0 0 0 all name (both (list_all is_name (operation_names all)) (is_distinct (operation_names all)) names).1 among

-- a procedure is found by its name
pub procedure_found : (all : List NamedPart) (name : List ℕ) → are_names (operation_names all) ≡ true → IsAmong name (procedure_names all)
    → find name (operation_names all) (operations_from 0 0 0 all) ≡ Some (operations.Procedure (number_in name (procedure_names all)))
procedure_found all name names among =
    let t = both (list_all is_name (operation_names all)) (is_distinct (operation_names all)) names in
    let is = operation_is all name names (procedures_are all name among) in
    let operation = operation_from 0 0 0 all name in
    let same : same_operation operation operation ≡ true = same_chosen (is_among name (function_names all)) (is_among name (procedure_names all)) _ _ _ in
    let named = by_name (operation_names all) (operations_from 0 0 0 all) operation same t.0 t.1 (even_operations 0 0 0 all) is.1 in
    let kind : operation ≡ operations.Procedure (0 + number_in name (procedure_names all)) =
    (λ k. chosen (no_function_too all name t.1 among k) (among k) (0 + number_in name (function_names all)) (0 + number_in name (procedure_names all)) (0 + number_in name (entry_names all))) in
    let one : 0 + number_in name (procedure_names all) ≡ number_in name (procedure_names all) = omega arith in
    ap (λ (n : List ℕ). find n (operation_names all) (operations_from 0 0 0 all)) (sym is.0) ∙ named.names_operation ∙ ap Some (kind ∙ ap operations.Procedure one)
