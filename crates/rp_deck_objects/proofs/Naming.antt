-- Names of operations, as operations and names are added.
use Rattle.std.proofs.Common.{◌≡◌, ℕ, zero, suc, ◌+◌, true, List, [], ◌∷◌, ◌++◌, length, arith, refl, sym, ap, subst, ◌∙◌}
use Rattle.std.specs.Prelude.{All, String, Vec, is_some}
use Rattle.std.specs.declared.alloc.Global.{Global}
use Rattle.rp_deck_bodies.specs.indexmap.specs.IndexMap.{IndexMap, values}
use Rattle.rp_object.specs.rp_body.specs.declared.statement.Stmt.{Stmt}
use Rattle.rp_object.specs.rp_entry.specs.Operations.{of_index}
use Rattle.rp_object.specs.rp_entry.specs.declared.operations.Entry.{Entry as DeclaredEntry}
use Rattle.rp_object.specs.rp_entry.specs.declared.operations.Function.{Function as DeclaredFunction}
use Rattle.rp_object.specs.rp_entry.specs.declared.operations.Operations.{Operations}
use Rattle.rp_object.specs.Program.{has_operation}
use Rattle.rp_deck_bodies.proofs.ListLemmas.{all_weaker, all_last}
use Rattle.rp_deck_objects.specs.declared.names.OperationName.{OperationName}
use Rattle.rp_deck_objects.specs.declared.names.OperationName.TheVariants.{Function, Procedure, Entry}
use Rattle.rp_deck_objects.specs.ObjectLimits.{AreNamed}
use Rattle.rp_deck_objects.specs.ObjectViews.{operation_of}

-- ---- numbers from 1 in a list that grows

pub still_numbered : {X : Type 0} (xs : List X) (x : X) (n : ℕ) → is_some (of_index xs n) ≡ true → is_some (of_index (xs ++ x ∷ []) n) ≡ true
still_numbered xs x zero some = some
still_numbered [] x (suc n) some = absurd (cc)
still_numbered (y ∷ ys) x (suc zero) some = refl
still_numbered (y ∷ ys) x (suc (suc n)) some = still_numbered ys x (suc n) some

pub last_numbered : {X : Type 0} (xs : List X) (x : X) (n : ℕ) → n ≡ length xs + 1 → is_some (of_index (xs ++ x ∷ []) n) ≡ true
last_numbered xs x zero is = absurd (omega (arith, is))
last_numbered [] x (suc zero) is = refl
last_numbered [] x (suc (suc n)) is = absurd (omega (arith, is))
last_numbered (y ∷ ys) x (suc zero) is = absurd (omega (arith, is))
last_numbered (y ∷ ys) x (suc (suc n)) is = last_numbered ys x (suc n) (omega (arith, is))

-- ---- an object's operations, one more of a kind

-- what is named still is where a function, a procedure or the entry is added
pub named_more : {Y S : Type 0} (before after : Operations) (names : IndexMap (String Y) OperationName S)
    → ((name : OperationName) → has_operation (operation_of name) before ≡ true → has_operation (operation_of name) after ≡ true) → AreNamed before names → AreNamed after names
named_more before after names still all =
    all_weaker (λ (n : OperationName). has_operation (operation_of n) before ≡ true) (λ (n : OperationName). has_operation (operation_of n) after ≡ true) (values names) still all

-- ---- a function, a procedure or an entry more

pub function_more : (before after : Operations) (function : DeclaredFunction) → after.functions.items ≡ before.functions.items ++ function ∷ [] → after.procedures ≡ before.procedures → after.entries ≡ before.entries
    → (name : OperationName) → has_operation (operation_of name) before ≡ true → has_operation (operation_of name) after ≡ true
function_more before after function more same entries (Function index) has =
    subst (λ (l : List DeclaredFunction). is_some (of_index l index.number) ≡ true) (sym more) (still_numbered before.functions.items function index.number has)
function_more before after function more same entries (Procedure index) has = ap (λ p. is_some (of_index p.items index.number)) same ∙ has
function_more before after function more same entries (Entry index) has = ap (λ e. is_some (of_index e.items index.number)) entries ∙ has

pub procedure_more : (before after : Operations) (body : Vec Stmt Global) → after.procedures.items ≡ before.procedures.items ++ body ∷ [] → after.functions ≡ before.functions → after.entries ≡ before.entries
    → (name : OperationName) → has_operation (operation_of name) before ≡ true → has_operation (operation_of name) after ≡ true
procedure_more before after body more same entries (Function index) has = ap (λ f. is_some (of_index f.items index.number)) same ∙ has
procedure_more before after body more same entries (Procedure index) has =
    subst (λ (l : List (Vec Stmt Global)). is_some (of_index l index.number) ≡ true) (sym more) (still_numbered before.procedures.items body index.number has)
procedure_more before after body more same entries (Entry index) has = ap (λ e. is_some (of_index e.items index.number)) entries ∙ has

pub entry_more : (before after : Operations) (entry : DeclaredEntry) → after.entries.items ≡ before.entries.items ++ entry ∷ [] → after.functions ≡ before.functions → after.procedures ≡ before.procedures
    → (name : OperationName) → has_operation (operation_of name) before ≡ true → has_operation (operation_of name) after ≡ true
entry_more before after entry more functions procedures (Function index) has = ap (λ f. is_some (of_index f.items index.number)) functions ∙ has
entry_more before after entry more functions procedures (Procedure index) has = ap (λ p. is_some (of_index p.items index.number)) procedures ∙ has
entry_more before after entry more functions procedures (Entry index) has =
    subst (λ (l : List DeclaredEntry). is_some (of_index l index.number) ≡ true) (sym more) (still_numbered before.entries.items entry index.number has)

-- ---- one name more

pub named_after : {Y S : Type 0} (before after : Operations) (names more : IndexMap (String Y) OperationName S) (name : OperationName) → values more ≡ values names ++ name ∷ []
    → ((n : OperationName) → has_operation (operation_of n) before ≡ true → has_operation (operation_of n) after ≡ true) → has_operation (operation_of name) after ≡ true → AreNamed before names → AreNamed after more
named_after before after names more name is still has all =
    subst (λ (l : List OperationName). All (λ (n : OperationName). has_operation (operation_of n) after ≡ true) l) (sym is)
    (all_last (λ (n : OperationName). has_operation (operation_of n) after ≡ true) (values names) name (named_more before after names still all) has)
