-- What an object has, and one thing more of a kind.
use Rattle.std.proofs.Common.{◌≡◌, ℕ, ◌+◌, ◌<◌, ◌≤◌, List, [], ◌∷◌, ◌++◌, false, length, Option, sym, ap, subst, arith, length-append}
use Rattle.std.specs.Prelude.{All, IfSome, IsTrue, FitsSigned, Vec, is_some}
use Rattle.std.specs.Prelude.{Bool as Truth}
use Rattle.std.specs.Int.{w64}
use Rattle.std.specs.FinMap.{get, insert, empty, len, get-empty, len-empty}
use Rattle.std.specs.Ordering.{nat_cmp}
use Rattle.std.specs.declared.alloc.Global.{Global}
use Rattle.rp_object.specs.rp_body.specs.Check.{KeepsLimits}
use Rattle.rp_object.specs.rp_body.specs.Store.{Store, limits_of, is_within}
use Rattle.rp_object.specs.rp_body.specs.declared.components.Limits.{Limits}
use Rattle.rp_object.specs.rp_body.specs.declared.components.Ranged.{Ranged}
use Rattle.rp_object.specs.rp_body.specs.declared.statement.Stmt.{Stmt}
use Rattle.rp_object.specs.rp_entry.specs.Operations.{FunctionFits, EntryFits, OperationsFit}
use Rattle.rp_object.specs.rp_entry.specs.declared.operations.Entry.{Entry as DeclaredEntry}
use Rattle.rp_object.specs.rp_entry.specs.declared.operations.Function.{Function as DeclaredFunction}
use Rattle.rp_object.specs.rp_entry.specs.declared.operations.Operations.{Operations}
use Rattle.rp_object.specs.Program.{KeepsProfile}
use Rattle.rp_object.specs.declared.program.Profile.{Profile}
use Rattle.rp_object.specs.declared.program.Profile.TheVariants.{Ravenscar, Jorvik}
use Rattle.rp_deck_bodies.specs.declared.names.Component.{Component}
use Rattle.rp_deck_bodies.specs.declared.names.Component.TheVariants.{Int, Bool}
use Rattle.rp_deck_objects.specs.declared.objects.Head.TheVariants.{Entry}
use Rattle.rp_deck_bodies.specs.Counted.{IsCounted, AreCounted, WhereCounted}
use Rattle.rp_deck_objects.specs.ObjectLimits.{HeadKeeps, HasRoomForOperation, KeepsComponents}
use Rattle.rp_deck_bodies.proofs.CountedLemmas.{all_front}
use Rattle.rp_deck_bodies.proofs.ListLemmas.{all_last, all_weaker}
use Rattle.rp_deck_objects.proofs.StoreLemmas.{one_more_counted, more_numbered, more_hold}

-- ---- no component

none_of : {X : Type 0} (P : X → Type 0) → All P []
none_of P i d below = absurd (omega (arith, below))

pub no_components : (store : Store) (declared : List Component) → store.ints ≡ empty → store.bools ≡ empty → declared ≡ [] → KeepsComponents store 0 0 declared
no_components store declared ints bools none =
    subst (λ (l : List Component). KeepsComponents store 0 0 l) (sym none)
    (subst (λ (s : Store). KeepsComponents s 0 0 []) (λ i. record { ints = sym ints i; bools = sym bools i }) (record {
      few_ints = omega (arith, len-empty nat_cmp Ranged);
      few_bools = omega (arith, len-empty nat_cmp Truth);
      ints = sym (len-empty nat_cmp Ranged);
      bools = sym (len-empty nat_cmp Truth);
      numbered = record {
        ints = λ name. ((λ some. absurd (let none : is_some (get {R = nat_cmp} (empty {X = Ranged}) name) ≡ false = ap is_some (get-empty {X = Ranged} nat_cmp name) in cc)), λ below. absurd (omega (arith, below, len-empty nat_cmp Ranged)));
        bools = λ name. ((λ some. absurd (let none : is_some (get {R = nat_cmp} (empty {X = Truth}) name) ≡ false = ap is_some (get-empty {X = Truth} nat_cmp name) in cc)), λ below. absurd (omega (arith, below, len-empty nat_cmp Truth)));
      };
      ends = λ name. subst (λ (o : Option Ranged). IfSome o (λ component. FitsSigned w64 component.low × FitsSigned w64 component.high)) (sym (get-empty {X = Ranged} nat_cmp name)) tt;
      in_range = λ name. subst (λ (o : Option Ranged). IfSome o (λ component. IsTrue (is_within component.low component.high component.value))) (sym (get-empty {X = Ranged} nat_cmp name)) tt;
      counted = none_of (IsCounted (limits_of (record { ints = empty; bools = empty })));
    }))

pub same_components : (store store' : Store) (ints ints' bools bools' : ℕ) (declared declared' : List Component) → store' ≡ store → ints' ≡ ints → bools' ≡ bools → declared' ≡ declared
    → KeepsComponents store ints bools declared → KeepsComponents store' ints' bools' declared'
same_components store store' ints ints' bools bools' declared declared' a b c d keeps =
    subst (λ (s : Store). KeepsComponents s ints' bools' declared') (sym a) (subst (λ (n : ℕ). KeepsComponents store n bools' declared') (sym b)
    (subst (λ (n : ℕ). KeepsComponents store ints n declared') (sym c) (subst (λ (l : List Component). KeepsComponents store ints bools l) (sym d) keeps)))

-- ---- a component more

int_still : (limits more : Limits) → limits.ints ≤ more.ints → limits.bools ≤ more.bools → (c : Component) → IsCounted limits c → IsCounted more c
int_still limits more ints bools (Int place) h = omega arith
int_still limits more ints bools (Bool place) h = omega arith

pub int_more : (store : Store) (ints bools : ℕ) (declared : List Component) (c : Ranged) (place : ℕ) → KeepsComponents store ints bools declared → len store.ints < 8 → place ≡ len store.ints
    → FitsSigned w64 c.low × FitsSigned w64 c.high → IsTrue (is_within c.low c.high c.value)
    → KeepsComponents (record store { ints = insert store.ints (len store.ints) c }) (ints + 1) bools (declared ++ Int place ∷ [])
int_more store ints bools declared c place k few is fits within =
    let more : Store = record store { ints = insert store.ints (len store.ints) c } in
    let count : len more.ints ≡ len store.ints + 1 = one_more_counted store.ints c k.numbered.ints in
    record {
      few_ints = omega (arith, count, few);
      few_bools = k.few_bools;
      ints = omega (arith, count, k.ints);
      bools = k.bools;
      numbered = record { ints = more_numbered store.ints c k.numbered.ints; bools = k.numbered.bools };
      ends = more_hold (λ (component : Ranged). FitsSigned w64 component.low × FitsSigned w64 component.high) store.ints c k.ends fits;
      in_range = more_hold (λ (component : Ranged). IsTrue (is_within component.low component.high component.value)) store.ints c k.in_range within;
      counted = all_last (IsCounted (limits_of more)) declared (Int place)
          (all_weaker (IsCounted (limits_of store)) (IsCounted (limits_of more)) declared (int_still (limits_of store) (limits_of more) (omega (arith, count)) (omega arith)) k.counted)
          (omega (arith, count, is));
    }

pub bool_more : (store : Store) (ints bools : ℕ) (declared : List Component) (value : Truth) (place : ℕ) → KeepsComponents store ints bools declared → len store.bools < 8 → place ≡ len store.bools
    → KeepsComponents (record store { bools = insert store.bools (len store.bools) value }) ints (bools + 1) (declared ++ Bool place ∷ [])
bool_more store ints bools declared value place k few is =
    let more : Store = record store { bools = insert store.bools (len store.bools) value } in
    let count : len more.bools ≡ len store.bools + 1 = one_more_counted store.bools value k.numbered.bools in
    record {
      few_ints = k.few_ints;
      few_bools = omega (arith, count, few);
      ints = k.ints;
      bools = omega (arith, count, k.bools);
      numbered = record { ints = k.numbered.ints; bools = more_numbered store.bools value k.numbered.bools };
      ends = k.ends;
      in_range = k.in_range;
      counted = all_last (IsCounted (limits_of more)) declared (Bool place)
          (all_weaker (IsCounted (limits_of store)) (IsCounted (limits_of more)) declared (int_still (limits_of store) (limits_of more) (omega arith) (omega (arith, count))) k.counted)
          (omega (arith, count, is));
    }

-- what is so where fewer are counted is so where more are
pub counted_front : (declared more : List Component) (last : Component) (Fits : Limits → Type 0) → more ≡ declared ++ last ∷ [] → WhereCounted declared Fits → WhereCounted more Fits
counted_front declared more last Fits is all limits counted =
    all limits (all_front (IsCounted limits) declared last (subst (λ (l : List Component). AreCounted limits l) is counted))

-- ---- an operation more

pub no_operations : (operations : Operations) (limits : Limits) → operations.functions.items ≡ [] → operations.procedures.items ≡ [] → operations.entries.items ≡ [] → OperationsFit limits operations
no_operations operations limits functions procedures entries = record {
  function_count = omega (arith, ap length functions);
  procedure_count = omega (arith, ap length procedures);
  entry_count = omega (arith, ap length entries);
  functions = subst (λ l. All (FunctionFits limits) l) (sym functions) (none_of (FunctionFits limits));
  procedures = subst (λ (l : List (Vec Stmt Global)). All (λ body. KeepsLimits limits body.items) l) (sym procedures) (none_of (λ (body : Vec Stmt Global). KeepsLimits limits body.items));
  entries = subst (λ l. All (EntryFits limits) l) (sym entries) (none_of (EntryFits limits));
}

pub no_entries : (profile : Profile) (operations : Operations) → operations.entries.items ≡ [] → KeepsProfile profile operations
no_entries Ravenscar operations none = (omega (arith, ap length none), subst (λ (l : List DeclaredEntry). All (λ entry. entry.longest ≡ 1) l) (sym none) (none_of (λ (entry : DeclaredEntry). entry.longest ≡ 1)))
no_entries Jorvik operations none = tt

pub function_fits : (before after : Operations) (limits : Limits) (function : DeclaredFunction) → length before.functions.items < 8 → after.functions.items ≡ before.functions.items ++ function ∷ [] → after.procedures ≡ before.procedures → after.entries ≡ before.entries
    → OperationsFit limits before → FunctionFits limits function → OperationsFit limits after
function_fits before after limits function few is procedures entries fit new = record {
  function_count = omega (arith, ap length is, length-append before.functions.items (function ∷ []));
  procedure_count = subst (λ (v : Vec (Vec Stmt Global) Global). length v.items ≤ 8) (sym procedures) fit.procedure_count;
  entry_count = subst (λ (v : Vec DeclaredEntry Global). length v.items ≤ 4) (sym entries) fit.entry_count;
  functions = subst (λ l. All (FunctionFits limits) l) (sym is) (all_last (FunctionFits limits) before.functions.items function fit.functions new);
  procedures = subst (λ (v : Vec (Vec Stmt Global) Global). All (λ body. KeepsLimits limits body.items) v.items) (sym procedures) fit.procedures;
  entries = subst (λ (v : Vec DeclaredEntry Global). All (EntryFits limits) v.items) (sym entries) fit.entries;
}

pub procedure_fits : (before after : Operations) (limits : Limits) (body : Vec Stmt Global) → length before.procedures.items < 8 → after.procedures.items ≡ before.procedures.items ++ body ∷ [] → after.functions ≡ before.functions → after.entries ≡ before.entries
    → OperationsFit limits before → KeepsLimits limits body.items → OperationsFit limits after
procedure_fits before after limits body few is functions entries fit new = record {
  function_count = subst (λ (v : Vec DeclaredFunction Global). length v.items ≤ 8) (sym functions) fit.function_count;
  procedure_count = omega (arith, ap length is, length-append before.procedures.items (body ∷ []));
  entry_count = subst (λ (v : Vec DeclaredEntry Global). length v.items ≤ 4) (sym entries) fit.entry_count;
  functions = subst (λ (v : Vec DeclaredFunction Global). All (FunctionFits limits) v.items) (sym functions) fit.functions;
  procedures = subst (λ (l : List (Vec Stmt Global)). All (λ body. KeepsLimits limits body.items) l) (sym is) (all_last (λ (body : Vec Stmt Global). KeepsLimits limits body.items) before.procedures.items body fit.procedures new);
  entries = subst (λ (v : Vec DeclaredEntry Global). All (EntryFits limits) v.items) (sym entries) fit.entries;
}

pub entry_fits : (before after : Operations) (limits : Limits) (entry : DeclaredEntry) → length before.entries.items < 4 → after.entries.items ≡ before.entries.items ++ entry ∷ [] → after.functions ≡ before.functions → after.procedures ≡ before.procedures
    → OperationsFit limits before → EntryFits limits entry → OperationsFit limits after
entry_fits before after limits entry few is functions procedures fit new = record {
  function_count = subst (λ (v : Vec DeclaredFunction Global). length v.items ≤ 8) (sym functions) fit.function_count;
  procedure_count = subst (λ (v : Vec (Vec Stmt Global) Global). length v.items ≤ 8) (sym procedures) fit.procedure_count;
  entry_count = omega (arith, ap length is, length-append before.entries.items (entry ∷ []));
  functions = subst (λ (v : Vec DeclaredFunction Global). All (FunctionFits limits) v.items) (sym functions) fit.functions;
  procedures = subst (λ (v : Vec (Vec Stmt Global) Global). All (λ body. KeepsLimits limits body.items) v.items) (sym procedures) fit.procedures;
  entries = subst (λ l. All (EntryFits limits) l) (sym is) (all_last (EntryFits limits) before.entries.items entry fit.entries new);
}

-- the profile looks at entries alone
pub same_entries : (profile : Profile) (before after : Operations) → after.entries ≡ before.entries → KeepsProfile profile before → KeepsProfile profile after
same_entries Ravenscar before after same keeps =
    (subst (λ (v : Vec DeclaredEntry Global). length v.items ≤ 1) (sym same) keeps.0, subst (λ (v : Vec DeclaredEntry Global). All (λ entry. entry.longest ≡ 1) v.items) (sym same) keeps.1)
same_entries Jorvik before after same keeps = tt

pub few_entries : (profile : Profile) (operations : Operations) (barrier longest : ℕ) → HasRoomForOperation profile operations (Entry barrier longest) → length operations.entries.items < 4
few_entries Ravenscar operations barrier longest room = omega (arith, room)
few_entries Jorvik operations barrier longest room = room

pub entry_keeps : (profile : Profile) (before after : Operations) (entry : DeclaredEntry) → after.entries.items ≡ before.entries.items ++ entry ∷ [] → HasRoomForOperation profile before (Entry entry.barrier entry.longest) → HeadKeeps profile (Entry entry.barrier entry.longest)
    → KeepsProfile profile before → KeepsProfile profile after
entry_keeps Ravenscar before after entry is room single keeps = (
  omega (arith, ap length is, length-append before.entries.items (entry ∷ []), room),
  subst (λ (l : List DeclaredEntry). All (λ entry. entry.longest ≡ 1) l) (sym is) (all_last (λ (entry : DeclaredEntry). entry.longest ≡ 1) before.entries.items entry keeps.1 single),
)
entry_keeps Jorvik before after entry is room single keeps = tt
