-- Names of operations, as operations and names are added.
use Rattle.std.proofs.Common.{◌≡◌, ◌⊎◌, ℕ, zero, suc, ◌<◌, true, Some, List, [], ◌∷◌, ◌++◌, length, arith, inl, inr, refl, sym, ap, subst, ◌∙◌}
use Rattle.std.specs.Prelude.{All, String, slice_get}
use Rattle.std.specs.Arc.{arc_value}
use Rattle.std.specs.List.{IsAmong}
use Rattle.std.proofs.lemmas.Option.{slice_get_within}
use Rattle.rp_words.specs.indexmap.specs.IndexMap.{IndexMap, values}
use Rattle.rp_object.specs.rp_base.specs.declared.action.Operation.TheVariants as operations
use Rattle.rp_object.specs.Program.{operations_of, has_operation, is_some_and, is_offered}
use Rattle.rp_object.specs.declared.program.Declarations.{Declarations}
use Rattle.rp_object.specs.declared.program.ObjectDeclaration.{ObjectDeclaration}
use Rattle.rp_deck_objects.specs.rp_deck_bodies.proofs.ListLemmas.{of_among}
use Rattle.rp_deck_objects.specs.ObjectViews.{operation_of}
use Rattle.rp_deck_objects.specs.ObjectLimits.{AreNamed}
use Rattle.rp_deck_declarations.specs.Programs.{AreAllNamed, object_count, AreNamesOf, IsOffered}
use Rattle.rp_deck_declarations.specs.declared.deck_program.DeckProgram.{DeckProgram}
use Rattle.rp_deck_declarations.specs.declared.deck_program.DeckProgram.TheVariants.{Tally, Objects}
use Rattle.rp_deck_objects.specs.declared.names.OperationName.{OperationName}
use Rattle.rp_deck_objects.specs.declared.names.OperationName.TheVariants.{Function, Procedure, Entry}

-- ---- objects and the names of their operations, one more of each

get_more : {X : Type 0} (xs : List X) (x a : X) (k : ℕ) → slice_get (xs ++ x ∷ []) k ≡ Some a → (slice_get xs k ≡ Some a) ⊎ ((k ≡ length xs) × (a ≡ x))
get_more [] x a zero e = inr (refl, (cc))
get_more [] x a (suc k) e = absurd (cc)
get_more (y ∷ ys) x a zero e = inl e
get_more (y ∷ ys) x a (suc k) e = elim (get_more ys x a k e) [ inl before ↦ inl before | inr last ↦ inr (ap suc last.0, last.1) ]

all_named_after : {Y S : Type 0} (objects : List ObjectDeclaration) (names : List (IndexMap (String Y) OperationName S)) (object : ObjectDeclaration) (own : IndexMap (String Y) OperationName S)
    → length objects ≡ length names → AreAllNamed objects names → AreNamed (operations_of object) own → AreAllNamed (objects ++ object ∷ []) (names ++ own ∷ [])
all_named_after {Y} {S} objects names object own even all new k o n at_object at_names =
    elim (get_more objects object o k at_object) [
      | inl before ↦ elim (get_more names own n k at_names) [
        | inl also ↦ all k o n before also
        | inr last ↦ let low : k < length objects = slice_get_within objects k o before in absurd (omega (arith, low, last.0, even))
      ]
      | inr last ↦ elim (get_more names own n k at_names) [
        | inl before ↦ let low : k < length names = slice_get_within names k n before in absurd (omega (arith, low, last.0, even))
        | inr also ↦ subst (λ (p : ObjectDeclaration × IndexMap (String Y) OperationName S). AreNamed (operations_of p.0) p.1) (λ i. (sym last.1 i, sym also.1 i)) new
      ]
    ]

pub all_named_more : {Y S : Type 0} (objects more : List ObjectDeclaration) (names also : List (IndexMap (String Y) OperationName S)) (object : ObjectDeclaration) (own : IndexMap (String Y) OperationName S)
    → length objects ≡ length names → AreAllNamed objects names → AreNamed (operations_of object) own → more ≡ objects ++ object ∷ [] → also ≡ names ++ own ∷ [] → AreAllNamed more also
all_named_more {Y} {S} objects more names also object own even all new objects_are names_are =
    subst (λ (l : List ObjectDeclaration). AreAllNamed l also) (sym objects_are)
    (subst (λ (l : List (IndexMap (String Y) OperationName S)). AreAllNamed (objects ++ object ∷ []) l) (sym names_are) (all_named_after objects names object own even all new))

-- names of objects that have one operation alone, as those of a tally
abbrev pub AreTallyNames : {Y S : Type 0} → List (IndexMap (String Y) OperationName S) → Type 0
AreTallyNames {Y} {S} names = (k : ℕ) (own : IndexMap (String Y) OperationName S) → slice_get names k ≡ Some own → All (λ name. operation_of name ≡ operations.Procedure 1) (values own)

pub all_tally_more : {Y S : Type 0} (names : List (IndexMap (String Y) OperationName S)) (own : IndexMap (String Y) OperationName S)
    → AreTallyNames names → All (λ name. operation_of name ≡ operations.Procedure 1) (values own) → AreTallyNames (names ++ own ∷ [])
all_tally_more {Y} {S} names own all new k n at =
    elim (get_more names own n k at) [
      | inl before ↦ all k n before
      | inr last ↦ subst (λ (o : IndexMap (String Y) OperationName S). All (λ name. operation_of name ≡ operations.Procedure 1) (values o)) (sym last.1) new
    ]

-- ---- what a call asks for by a name is what the program has

there : {X : Type 0} (xs : List X) (k : ℕ) → k < length xs → (x : X) × (slice_get xs k ≡ Some x)
there [] k below = absurd (omega (arith, below))
there (x ∷ xs) zero below = (x, refl)
there (x ∷ xs) (suc k) below = there xs k (omega (arith, below))

-- an object that has an operation offers it
object_offers : (declarations : Declarations) (place : ℕ) (object : ObjectDeclaration) (name : OperationName) → slice_get declarations.objects.items place ≡ Some object
    → has_operation (operation_of name) (operations_of object) ≡ true → is_offered declarations (suc place) (operation_of name) ≡ true
object_offers declarations place object (Function index) here has = ap (is_some_and (λ declared. has_operation (operation_of (Function index)) (operations_of declared))) here ∙ has
object_offers declarations place object (Procedure index) here has = ap (is_some_and (λ declared. has_operation (operation_of (Procedure index)) (operations_of declared))) here ∙ has
object_offers declarations place object (Entry index) here has = ap (is_some_and (λ declared. has_operation (operation_of (Entry index)) (operations_of declared))) here ∙ has

pub offered : {Y S : Type 0} (program : DeckProgram) (names : List (IndexMap (String Y) OperationName S)) (place : ℕ) (own : IndexMap (String Y) OperationName S) (name : OperationName)
    → AreNamesOf program names → object_count program ≡ length names → slice_get names place ≡ Some own → IsAmong (values own) name → IsOffered program (suc place) (operation_of name)
offered (Tally program) names place own name named even here among = of_among (λ (n : OperationName). operation_of n ≡ operations.Procedure 1) (values own) name (named place own here) among
offered (Objects program) names place own name named even here among =
    let declarations = arc_value program.declarations in
    let below : place < length names = slice_get_within names place own here in
    let object = there declarations.objects.items place (omega (arith, below, even)) in
    object_offers declarations place object.0 name object.1
    (of_among (λ (n : OperationName). has_operation (operation_of n) (operations_of object.0) ≡ true) (values own) name (named place object.0 own object.1 here) among)
