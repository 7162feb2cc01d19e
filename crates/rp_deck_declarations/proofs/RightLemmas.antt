-- The declarations of a deck are those of a right program.
use Rattle.std.proofs.Common.{◌≡◌, ℕ, zero, suc, ◌≤◌, List, [], ◌∷◌, true, length, map, Some, arith, ap, refl, sym, ◌∙◌}
use Rattle.std.specs.Prelude.{All, is_some, slice_get, Vec}
use Rattle.std.specs.declared.alloc.Global.{Global}
use Rattle.rp_words.specs.indexmap.specs.IndexMap.{IndexMap, values, index_map_len}
use Rattle.rp_object.specs.rp_base.specs.declared.action.Operation.TheVariants.{Procedure}
use Rattle.rp_object.specs.rp_body.specs.declared.statement.Stmt.{Stmt}
use Rattle.rp_object.specs.rp_entry.specs.Operations.{of_index}
use Rattle.rp_object.specs.Program.{operations_of, has_operation, is_some_and, IsPriority, is_handler}
use Rattle.rp_object.specs.declared.program.Declarations.{Declarations}
use Rattle.rp_object.specs.declared.program.Handler.{Handler}
use Rattle.rp_object.specs.declared.program.ObjectDeclaration.{ObjectDeclaration}
use Rattle.rp_deck_declarations.specs.declared.deck_program.Task.{Task}
use Rattle.rp_deck_objects.specs.declared.objects.ObjectDraft.{ObjectDraft}
use Rattle.rp_deck_objects.specs.rp_deck_bodies.specs.BodyViews.{body_text}
use Rattle.rp_deck_declarations.specs.Declarations.{procedure_counts, IsHandled}
use Rattle.rp_deck_objects.specs.ObjectViews.{protected_text, object_text, ProtectedText, protected_of}
use Rattle.rp_deck_objects.specs.rp_deck_bodies.proofs.ListLemmas.{all_cons, all_tail, all_weaker}

-- ---- lists that are mapped

pub map_len : {A B : Type 0} (f : A → B) (xs : List A) → length (map f xs) ≡ length xs
map_len f [] = refl
map_len f (x ∷ xs) = omega (arith, map_len f xs)

pub map_map : {A B C : Type 0} (g : B → C) (f : A → B) (xs : List A) → map g (map f xs) ≡ map (λ x. g (f x)) xs
map_map g f [] = refl
map_map {A} {B} {C} g f (x ∷ xs) = ap (λ (l : List C). g (f x) ∷ l) (map_map g f xs)

pub all_of_map : {A B : Type 0} (P : B → Type 0) (f : A → B) (xs : List A) → All P (map f xs) → All (λ x. P (f x)) xs
all_of_map P f [] all = λ i d below. absurd (omega (arith, below))
all_of_map P f (x ∷ xs) all = all_cons (λ y. P (f y)) x xs (all zero (f x) (omega arith)) (all_of_map P f xs (all_tail P (f x) (map f xs) all))

pub values_len : {K X S : Type 0} (table : IndexMap K X S) → length (values table) ≡ index_map_len table
values_len table = map_len (λ entry. entry.1) table.entries

pub all_priorities : (tasks : List Task) → All IsPriority (map (λ task. task.priority) tasks)
all_priorities [] = λ i d below. absurd (omega (arith, below))
all_priorities (t ∷ ts) = all_cons IsPriority t.priority (map (λ task. task.priority) ts) t.in_range (all_priorities ts)

-- ---- handlers

mapped_at : {A B : Type 0} (f : A → B) (xs : List A) (k : ℕ) (y : B) → slice_get (map f xs) k ≡ Some y → (x : A) × (slice_get xs k ≡ Some x) × (f x ≡ y)
mapped_at f [] k y here = absurd (cc)
mapped_at f (x ∷ xs) zero y here = (x, refl, cc)
mapped_at f (x ∷ xs) (suc k) y here = mapped_at f xs k y here

mapped_of : {A B : Type 0} (f : A → B) (xs : List A) (n : ℕ) (y : B) → of_index (map f xs) n ≡ Some y → (x : A) × (of_index xs n ≡ Some x) × (f x ≡ y)
mapped_of f xs zero y here = absurd (cc)
mapped_of f xs (suc n) y here = mapped_at f xs n y here

some_within : {X : Type 0} (xs : List X) (n : ℕ) → 1 ≤ n → n ≤ length xs → is_some (of_index xs n) ≡ true
some_within xs zero least most = absurd (omega arith)
some_within [] (suc n) least most = absurd (omega (arith, most))
some_within (x ∷ xs) (suc zero) least most = refl
some_within (x ∷ xs) (suc (suc n)) least most = some_within xs (suc n) (omega arith) (omega (arith, most))

abbrev declared_count : ObjectDeclaration → ℕ
declared_count object = length (protected_text object).procedures

pub counts_are : (objects : List ObjectDeclaration) (drafts : List ObjectDraft) → map protected_text objects ≡ map protected_of (map object_text drafts) → map declared_count objects ≡ procedure_counts drafts
counts_are objects drafts is =
    let count : ProtectedText → ℕ = λ p. length p.procedures in
    sym (map_map count protected_text objects) ∙ ap (λ (l : List ProtectedText). map count l) is
    ∙ map_map count protected_of (map object_text drafts) ∙ map_map (λ o. count (protected_of o)) object_text drafts

handler_there : (declarations : Declarations) (counts : List ℕ) (handler : Handler) → map declared_count declarations.objects.items ≡ counts → IsHandled counts handler → is_handler declarations handler ≡ true
handler_there declarations counts handler are h =
    let found = mapped_of declared_count declarations.objects.items handler.object h.count (ap (λ (l : List ℕ). of_index l handler.object) are ∙ h.here) in
    let object = found.0 in
    let procedures : List (Vec Stmt Global) = (operations_of object).procedures.items in
    let len : length (map (λ (body : Vec Stmt Global). body_text body.items) procedures) ≡ length procedures = map_len (λ (body : Vec Stmt Global). body_text body.items) procedures in
    ap (is_some_and (λ declared. has_operation (Procedure handler.procedure) (operations_of declared))) found.1
    ∙ some_within procedures handler.procedure h.least (omega (arith, h.most, found.2, len))

pub handlers_there : (declarations : Declarations) (drafts : List ObjectDraft) (handlers : List Handler) → map protected_text declarations.objects.items ≡ map protected_of (map object_text drafts)
    → All (IsHandled (procedure_counts drafts)) handlers → All (λ handler. is_handler declarations handler ≡ true) handlers
handlers_there declarations drafts handlers is all =
    all_weaker (IsHandled (procedure_counts drafts)) (λ handler. is_handler declarations handler ≡ true) handlers
    (λ handler h. handler_there declarations (procedure_counts drafts) handler (counts_are declarations.objects.items drafts is) h) all
