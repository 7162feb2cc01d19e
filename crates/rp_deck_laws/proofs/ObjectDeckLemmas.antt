-- The text of a deck of protected objects is read back.
use Rattle.std.proofs.Common.{◌≡◌, ℕ, suc, ◌==◌, cond, List, [], ◌∷◌, ◌++◌, Bool, true, false, Option, Some, None, Ok, arith, refl}
use Rattle.std.specs.Prelude.{codes}
use Rattle.std.specs.Fmt.{decimal}
use Rattle.std.specs.List.{list_all, AllByRecursion}
use Rattle.rp_deck_declarations.specs.rp_object.specs.declared.program.Profile.{Profile}
use Rattle.rp_deck_declarations.specs.rp_object.specs.declared.program.Profile.TheVariants.{Ravenscar, Jorvik}
use Rattle.rp_deck.specs.declared.deck.Mode.TheVariants.{Script}
use Rattle.rp_deck_declarations.specs.rp_deck_bodies.specs.declared.names.Component.{Component}
use Rattle.rp_deck_declarations.specs.rp_deck_bodies.specs.Bodies.{BodyText, Empty, Set, Put, Out, If}
use Rattle.rp_deck_laws.specs.BodyTexts.{body_lines, IsBodyOf}
use Rattle.rp_deck_declarations.specs.Drafts.{DraftText, profile_of}
use Rattle.rp_deck_declarations.specs.rp_deck_objects.specs.Objects.{ObjectText, Value, Truth, empty_object}
use Rattle.rp_deck_declarations.specs.rp_deck_bodies.specs.Expressions.{ExprText, Number, Arg, Out as OutExpr, Int, Add, Sub, CondText, Constant, Named, Less, LessOrEqual, Equal, Not, And, Or}
use Rattle.rp_deck_laws.specs.ExpressionTexts.{is_int, is_bool, component_name, HasOne, AreComponents, expr_words, cond_words, IsExprOf, IsCondOf}
use Rattle.rp_deck.specs.Meaning.{meaning_of}
use Rattle.rp_deck_laws.specs.ObjectTexts.{DeclaredObject, DeclaredHandler, with_object, object_lines, objects_lines, AreObjectsOf, with_interrupt, with_timer, AreInterruptsOf, AreTimersOf, handlers_lines, ObjectsText, profile_words, tasks_draft, objects_draft, declared_lines, IsObjectsText, objects_text, objects_deck}
use Rattle.rp_deck_laws.specs.PartTexts.{PartText, IntPart, BoolPart, FunctionPart, ProcedurePart, EntryPart, with_part, queue_words, ended, part_lines, parts_lines, IsLongest, IsWholeBody, IsPartOf, ArePartsOf}
use Rattle.rp_deck.specs.ScriptLines.{CommandText}
use Rattle.rp_deck_declarations.specs.ScriptNames.{declared_names}
use Rattle.rp_deck_laws.specs.ScriptText.{AreDeclared, IsCommandOf, is_distinct}
use Rattle.rp_deck_laws.specs.TallyTexts.{positions_words, task_words}
use Rattle.rp_words.specs.Words.{is_name}
use Rattle.rp_words.proofs.WordsLemmas.{both}
use Rattle.rp_deck_laws.proofs.SpacedLemmas.{is_solid, name_solid, decimal_solid, signed_solid, dotted_solid}
use Rattle.rp_deck_laws.proofs.ExpressionTextLemmas.{finds}
use Rattle.rp_deck_laws.proofs.TextsLemmas.{AreSolid, AreLines}
use Rattle.rp_deck_laws.proofs.TallyTextLemmas.{lines_append, positions_lines, task_lines, whole_back}
use Rattle.rp_deck_laws.proofs.ObjectTextLemmas.{declared_back}

solid_append : (one two : List (List ℕ)) → AreSolid one → AreSolid two → AreSolid (one ++ two)
solid_append [] two a b = b
solid_append (word ∷ one) two a b = (a.0, solid_append one two a.1 b)

module _ (names : List (List ℕ)) (declared : List Component) (c : AreComponents names declared) where
  component_solid : (test : Component → Bool) → HasOne test declared → is_solid (component_name test names declared) ≡ true
  component_solid test one =
      let t = both (list_all is_name names) (is_distinct names) c.names_are in
      name_solid (component_name test names declared) (finds test names declared t.0 t.1 c.free c.even one).name_is

  expr_solid : (e : ExprText) → IsExprOf names declared e → AreSolid (expr_words names declared e)
  expr_solid (Number number) is = (signed_solid number is, tt)
  expr_solid Arg is = (refl, tt)
  expr_solid OutExpr is = (refl, tt)
  expr_solid (Int place) is = (component_solid (is_int place) is, tt)
  expr_solid (Add first second) is = (refl, solid_append (expr_words names declared first) (expr_words names declared second) (expr_solid first is.0) (expr_solid second is.1))
  expr_solid (Sub first second) is = (refl, solid_append (expr_words names declared first) (expr_words names declared second) (expr_solid first is.0) (expr_solid second is.1))

  cond_solid : (k : CondText) → IsCondOf names declared k → AreSolid (cond_words names declared k)
  cond_solid (Constant true) is = (refl, tt)
  cond_solid (Constant false) is = (refl, tt)
  cond_solid (Named place) is = (component_solid (is_bool place) is, tt)
  cond_solid (Less first second) is = (refl, solid_append (expr_words names declared first) (expr_words names declared second) (expr_solid first is.0) (expr_solid second is.1))
  cond_solid (LessOrEqual first second) is = (refl, solid_append (expr_words names declared first) (expr_words names declared second) (expr_solid first is.0) (expr_solid second is.1))
  cond_solid (Equal first second) is = (refl, solid_append (expr_words names declared first) (expr_words names declared second) (expr_solid first is.0) (expr_solid second is.1))
  cond_solid (Not negated) is = (refl, cond_solid negated is)
  cond_solid (And first second) is = (refl, solid_append (cond_words names declared first) (cond_words names declared second) (cond_solid first is.0) (cond_solid second is.1))
  cond_solid (Or first second) is = (refl, solid_append (cond_words names declared first) (cond_words names declared second) (cond_solid first is.0) (cond_solid second is.1))

  body_are_lines : (deep : ℕ) (b : BodyText) → IsBodyOf names declared deep b → AreLines (body_lines names declared b)
  body_are_lines deep Empty is = tt
  body_are_lines deep (Set earlier place value) is =
      lines_append (body_lines names declared earlier) _ (body_are_lines deep earlier is.0) ((refl, refl, (component_solid (is_int place) is.2, expr_solid value is.3)), tt)
  body_are_lines deep (Put earlier place value) is =
      lines_append (body_lines names declared earlier) _ (body_are_lines deep earlier is.0) ((refl, refl, (component_solid (is_bool place) is.2, cond_solid value is.3)), tt)
  body_are_lines deep (Out earlier value) is =
      lines_append (body_lines names declared earlier) _ (body_are_lines deep earlier is.0) ((refl, refl, expr_solid value is.2), tt)
  body_are_lines deep (If earlier condition first second) is =
      lines_append (body_lines names declared earlier) _ (body_are_lines deep earlier is.0) (
        (refl, refl, cond_solid condition is.2),
        lines_append (body_lines names declared first) _ (body_are_lines (suc deep) first is.4)
            ((refl, refl, tt), lines_append (body_lines names declared second) _ (body_are_lines (suc deep) second is.5) ((refl, refl, tt), tt)),
      )

ended_are_lines : (o : ObjectText) (body : BodyText) → IsWholeBody o body → AreLines (ended o body)
ended_are_lines o body is =
    lines_append (body_lines o.component_names o.components body) _ (body_are_lines o.component_names o.components is.0 0 body is.1) ((refl, refl, tt), tt)

queue_solid : (profile : Profile) (longest : ℕ) → IsLongest profile longest → AreSolid (queue_words profile longest)
queue_solid Ravenscar longest is = tt
queue_solid Jorvik longest is = by (longest == 1)
  where
    by : (t : Bool) → AreSolid (cond t [] (codes "queue" ∷ decimal longest ∷ []))
    by true = tt
    by false = (refl, (decimal_solid longest (omega (arith, is.1)), tt))

part_are_lines : (profile : Profile) (o : ObjectText) (part : PartText) → IsPartOf profile o part → AreLines (part_lines profile o part)
part_are_lines profile o (IntPart name low high value) is =
    ((refl, refl, (name_solid name is.1.0, (signed_solid low is.3, (signed_solid high is.4, (signed_solid value is.5, tt))))), tt)
part_are_lines profile o (BoolPart name true) is = ((refl, refl, (name_solid name is.1.0, (refl, tt))), tt)
part_are_lines profile o (BoolPart name false) is = ((refl, refl, (name_solid name is.1.0, (refl, tt))), tt)
part_are_lines profile o (FunctionPart name (Value value)) is = ((refl, refl, (name_solid name is.1.0, (refl, expr_solid o.component_names o.components is.2 value is.3.0))), tt)
part_are_lines profile o (FunctionPart name (Truth truth)) is = ((refl, refl, (name_solid name is.1.0, (refl, cond_solid o.component_names o.components is.2 truth is.3.0))), tt)
part_are_lines profile o (ProcedurePart name body) is = ((refl, refl, (name_solid name is.1.0, tt)), ended_are_lines o body is.2)
part_are_lines profile o (EntryPart name barrier longest body) is =
    ((refl, refl, (name_solid name is.1.0, (refl, (component_solid o.component_names o.components is.4.0 (is_bool barrier) is.2, queue_solid profile longest is.3)))), ended_are_lines o body is.4)

parts_are_lines : (profile : Profile) (o : ObjectText) (all : List PartText) → ArePartsOf profile o all → AreLines (parts_lines profile o all)
parts_are_lines profile o [] are = tt
parts_are_lines profile o (part ∷ more) are =
    lines_append (part_lines profile o part) _ (part_are_lines profile o part are.0) (parts_are_lines profile (with_part o part) more are.1)

objects_are_lines : (d : DraftText) (all : List DeclaredObject) → AreObjectsOf d all → AreLines (objects_lines (profile_of d) all)
objects_are_lines d [] are = tt
objects_are_lines d (o ∷ os) are =
    lines_append (object_lines (profile_of d) o) _
    ((refl, refl, (name_solid o.name are.0.1.0, (decimal_solid o.ceiling (omega (arith, are.0.2.1)), tt))), parts_are_lines (profile_of d) (empty_object o.name o.ceiling) o.parts are.0.3)
    (objects_are_lines (with_object d o) os are.1)

interrupts_are_lines : (d : DraftText) (all : List DeclaredHandler) → AreInterruptsOf d all → AreLines (handlers_lines (codes "interrupt") all)
interrupts_are_lines d [] are = tt
interrupts_are_lines d (h ∷ hs) are =
    ((refl, refl, (name_solid h.name are.1.0, (dotted_solid h.object h.procedure are.2.object_is.0 are.2.procedure_is.0, tt))), interrupts_are_lines (with_interrupt d h) hs are.3)

timers_are_lines : (d : DraftText) (all : List DeclaredHandler) → AreTimersOf d all → AreLines (handlers_lines (codes "timer") all)
timers_are_lines d [] are = tt
timers_are_lines d (h ∷ hs) are =
    ((refl, refl, (name_solid h.name are.1.0, (dotted_solid h.object h.procedure are.2.object_is.0 are.2.procedure_is.0, tt))), timers_are_lines (with_timer d h) hs are.3)

profile_are_lines : (profile : Option Profile) → AreLines (profile_words profile)
profile_are_lines None = tt
profile_are_lines (Some Ravenscar) = ((refl, refl, (refl, tt)), tt)
profile_are_lines (Some Jorvik) = ((refl, refl, (refl, tt)), tt)

declared_are_lines : (t : ObjectsText) → IsObjectsText t → AreLines (declared_lines t)
declared_are_lines t is = (
  (refl, refl, (decimal_solid t.nodes (omega (arith, is.nodes.1)), tt)),
  lines_append (positions_words t.positions) _ (positions_lines t.positions is.positions)
      (lines_append (profile_words t.profile) _ (profile_are_lines t.profile)
      (lines_append (task_words t.tasks t.priorities) _ (task_lines [] t.tasks t.priorities is.tasks)
      (lines_append (objects_lines (profile_of (tasks_draft t)) t.objects) _ (objects_are_lines (tasks_draft t) t.objects is.objects)
      (lines_append (handlers_lines (codes "interrupt") t.interrupts) _ (interrupts_are_lines _ t.interrupts is.interrupts)
      (lines_append (handlers_lines (codes "timer") t.timers) _ (timers_are_lines _ t.timers is.timers) ((refl, refl, tt), tt)))))),
)

pub objects_back_whole : (t : ObjectsText) (commands : List CommandText) → IsObjectsText t → AreDeclared (declared_names (objects_draft t)) → AllByRecursion (IsCommandOf (declared_names (objects_draft t))) commands
    → meaning_of Script (objects_text t commands) ≡ Ok (objects_deck t commands)
objects_back_whole t commands is =
    whole_back (declared_lines t) (objects_draft t) commands (declared_are_lines t is) (λ last rest. declared_back last t rest is)
