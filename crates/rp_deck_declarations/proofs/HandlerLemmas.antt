-- Handlers stay procedures of objects as more is declared.
use Rattle.std.proofs.Common.{◌≡◌, ℕ, zero, suc, ◌+◌, ◌≤◌, List, [], ◌∷◌, ◌++◌, true, length, map, Some, arith, ap, refl, sym, subst, ◌∙◌}
use Rattle.std.specs.Prelude.{All, is_some, slice_get, slice_set, option_map, Vec}
use Rattle.std.specs.declared.alloc.Global.{Global}
use Rattle.rp_words.specs.indexmap.specs.IndexMap.{values}
use Rattle.rp_object.specs.rp_body.specs.declared.statement.Stmt.{Stmt}
use Rattle.rp_deck_objects.specs.rp_deck_bodies.specs.BodyViews.{body_text}
use Rattle.std.proofs.lemmas.List.{map-set}
use Rattle.std.proofs.lemmas.Option.{slice_get-map}
use Rattle.rp_object.specs.rp_entry.specs.Operations.{of_index}
use Rattle.rp_object.specs.declared.program.Handler.{Handler}
use Rattle.rp_deck_objects.specs.declared.objects.ObjectDraft.{ObjectDraft}
use Rattle.rp_deck_declarations.specs.declared.draft.Draft.{Draft}
use Rattle.rp_deck_declarations.specs.Declarations.{IsNameTable, procedure_counts, IsHandled, IsDraft}
use Rattle.rp_deck_objects.specs.ObjectViews.{object_text}
use Rattle.rp_deck_objects.specs.rp_deck_bodies.proofs.ListLemmas.{all_last, all_weaker}
use Rattle.rp_words.proofs.TablesLemmas.{map_last}

abbrev procedure_count : ObjectDraft → ℕ
procedure_count draft = length (object_text draft).procedures

-- ---- an object more

still_at : (counts : List ℕ) (n k count : ℕ) → slice_get counts k ≡ Some count → slice_get (counts ++ n ∷ []) k ≡ Some count
still_at [] n k count here = absurd (cc)
still_at (x ∷ xs) n zero count here = here
still_at (x ∷ xs) n (suc k) count here = still_at xs n k count here

still_of : (counts : List ℕ) (n object count : ℕ) → of_index counts object ≡ Some count → of_index (counts ++ n ∷ []) object ≡ Some count
still_of counts n zero count here = absurd (cc)
still_of counts n (suc k) count here = still_at counts n k count here

pub handled_still : (drafts new : List ObjectDraft) (object : ObjectDraft) (handlers : List Handler) → new ≡ drafts ++ object ∷ [] → All (IsHandled (procedure_counts drafts)) handlers → All (IsHandled (procedure_counts new)) handlers
handled_still drafts new object handlers is all =
    let counts : procedure_counts new ≡ procedure_counts drafts ++ procedure_count object ∷ [] = ap procedure_counts is ∙ map_last procedure_count drafts object in
    all_weaker (IsHandled (procedure_counts drafts)) (IsHandled (procedure_counts new)) handlers
    (λ handler h. subst (λ (l : List ℕ). IsHandled l handler) (sym counts)
    (record { count = h.count; here = still_of (procedure_counts drafts) (procedure_count object) handler.object h.count h.here; least = h.least; most = h.most })) all

-- ---- an object that grows

grown_at : (counts : List ℕ) (k old new n count : ℕ) → slice_get counts k ≡ Some old → old ≤ new → slice_get counts n ≡ Some count → (m : ℕ) × (slice_get (slice_set counts k new) n ≡ Some m) × (count ≤ m)
grown_at [] k old new n count here more at = absurd (cc)
grown_at (x ∷ xs) zero old new zero count here more at = let same : old ≡ count = cc in (new, refl, omega arith)
grown_at (x ∷ xs) zero old new (suc n) count here more at = (count, at, omega arith)
grown_at (x ∷ xs) (suc k) old new zero count here more at = (count, at, omega arith)
grown_at (x ∷ xs) (suc k) old new (suc n) count here more at = grown_at xs k old new n count here more at

grown_of : (counts : List ℕ) (k old new object count : ℕ) → slice_get counts k ≡ Some old → old ≤ new → of_index counts object ≡ Some count → (m : ℕ) × (of_index (slice_set counts k new) object ≡ Some m) × (count ≤ m)
grown_of counts k old new zero count here more at = absurd (cc)
grown_of counts k old new (suc n) count here more at = grown_at counts k old new n count here more at

pub handled_grown : (drafts : List ObjectDraft) (k : ℕ) (old new : ObjectDraft) (handlers : List Handler) → slice_get drafts k ≡ Some old → length (object_text old).procedures ≤ length (object_text new).procedures
    → All (IsHandled (procedure_counts drafts)) handlers → All (IsHandled (procedure_counts (slice_set drafts k new))) handlers
handled_grown drafts k old new handlers at more all =
    let counts : procedure_counts (slice_set drafts k new) ≡ slice_set (procedure_counts drafts) k (procedure_count new) = map-set procedure_count drafts k new in
    let here : slice_get (procedure_counts drafts) k ≡ Some (procedure_count old) = slice_get-map procedure_count drafts k ∙ ap (option_map procedure_count) at in
    all_weaker (IsHandled (procedure_counts drafts)) (IsHandled (procedure_counts (slice_set drafts k new))) handlers
    (λ handler h. subst (λ (l : List ℕ). IsHandled l handler) (sym counts)
    (let after = grown_of (procedure_counts drafts) k (procedure_count old) (procedure_count new) handler.object h.count here more h.here in
    record { count = after.0; here = after.1; least = h.least; most = omega (arith, h.most, after.2) })) all

-- ---- a handler more

within_len : {X : Type 0} (xs : List X) (n : ℕ) → is_some (of_index xs n) ≡ true → n ≤ length xs
within_len xs zero some = omega arith
within_len [] (suc n) some = absurd (cc)
within_len (x ∷ xs) (suc zero) some = omega arith
within_len (x ∷ xs) (suc (suc n)) some = omega (arith, within_len xs (suc n) some)

map_len : {A B : Type 0} (f : A → B) (xs : List A) → length (map f xs) ≡ length xs
map_len f [] = refl
map_len f (x ∷ xs) = omega (arith, map_len f xs)

pub handled_by : (drafts : List ObjectDraft) (place number : ℕ) (draft : ObjectDraft) → slice_get drafts place ≡ Some draft → 1 ≤ number → is_some (of_index draft.operations.procedures.items number) ≡ true
    → IsHandled (procedure_counts drafts) (record { object = place + 1; procedure = number })
handled_by drafts place number draft at least has =
    let next : place + 1 ≡ suc place = omega arith in
    record {
      count = procedure_count draft;
      here = ap (λ (k : ℕ). of_index (procedure_counts drafts) k) next ∙ slice_get-map procedure_count drafts place ∙ ap (option_map procedure_count) at;
      least = least;
      most = omega (arith, within_len draft.operations.procedures.items number has, map_len (λ (body : Vec Stmt Global). body_text body.items) draft.operations.procedures.items);
    }

pub handled_more : (counts : List ℕ) (before after : List Handler) (handler : Handler) → after ≡ before ++ handler ∷ [] → All (IsHandled counts) before → IsHandled counts handler → All (IsHandled counts) after
handled_more counts before after handler is all new = subst (λ (l : List Handler). All (IsHandled counts) l) (sym is) (all_last (IsHandled counts) before handler all new)

-- ---- a draft with other handlers

pub with_handlers : (old new : Draft) → record old { interrupts = new.interrupts; timers = new.timers } ≡ new → IsDraft old → IsNameTable new.interrupts → IsNameTable new.timers
    → All (IsHandled (procedure_counts old.drafts.items)) (values new.interrupts) → All (IsHandled (procedure_counts old.drafts.items)) (values new.timers) → IsDraft new
with_handlers old new is d interrupts timers interrupts_handled timers_handled =
    subst (λ (draft : Draft). IsDraft draft) is (record {
      nodes = d.nodes;
      tasks = d.tasks;
      objects = d.objects;
      counted = d.counted;
      drafts = d.drafts;
      kept = d.kept;
      interrupts = interrupts;
      timers = timers;
      interrupts_handled = interrupts_handled;
      timers_handled = timers_handled;
    })
