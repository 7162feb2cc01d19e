-- `unshut` hands on what a handle owns, if it owns something.
use Rattle.std.proofs.Common.{◌≡◌, List, [], ◌∷◌, ◌++◌, refl, sym, subst, lit<, Option, None, Some}
use mathlib.Core.Bool.{Bool, not}
use lib.Dec.{T}
use mir.Syntax.{Ty}
use mir.Raw.{raw as bare}
use mir.Val.{Val, vptr, vcons, vnil}
use base.Logic.{SProp, ent, emp, id⊢, never, fst∗}
use base.Fml.{Fml, ftrue}
use prog.Wp.{WpFn}
use types.Logic.{sem}
use types.Match.{live}
use types.Kit.{‵, raw, ◌⊛◌, at_ret, join, ◌$◌, ◌∵◌, !, qed, by, move, keep, drop, split, fsplit, fjoin, suffices, rewrite, use0, use1}
use types.Run.{lit, stop, fld, of_opd, no_more, and_then, first, branches, exec, returns, enter}
use types.ByLocal.{alloc_all, pass_all, free_all, look_at, get, get_in, sets, sets_last, env}
use types.Part.{agg, sub, whole}
use contract.Monad.{fact, fact_i}
use contract.Running.{tables}
use denote.Exit.{yes}
use denote.RattleType.{RattleType, owns}
use denote.Signature.{types_at, type_at, plain}
use denote.Param.{layout}
use denote.RawPtr.{Ptr, block_ptr, null_ptr, ptr_val, in_a_block, rawptr_Lawful}
use denote.Laws.{Typed}
use denote.Steps.{nothing}
use denote.Triple.Walked.{Stays, walk_of, stay_dropped, Goes-dropped}
use Rattle.std.proofs.raw_atomic.Walks.{proved_at, leaves}
use Rattle.std.specs.Box.Ownership.{box_owns}
use Rattle.std.proofs.VecSteps.Shapes.{after}
use Rattle.std.proofs.ResultValues.{and_tt}
use Rattle.rp_handles.specs.Owning.{kept_at}
use Rattle.std.specs.contracts.alloc.Global as heap
use Rattle.std.proofs.alloc.Global.TheLaws as heap_laws
use Rattle.std.specs.contracts.impls.GlobalAllocator.TheImpl.{ghosts}
use Rattle.std.proofs.alloc.Calls.{handle_tells}
use Rattle.rp_handles.specs.contracts.actor.Actor as actor
use Rattle.rp_handles.proofs.handle.Handle.TheLaws as handle_laws
use Rattle.rp_handles.proofs.Handles.{H, word, handle_out, value_of, no_value}
use Rattle.rp_handles.proofs.Values.{both, Good, Loose, at_good, at_word, loose_in, al, Some-of, none_of}
use Rattle.rp_handles.specs.contracts.handle.unshut.{ended, clauses}
use Rattle.rp_handles.specs.contracts.handle.unshut.Key.{name as #self}
use Rattle.rp_handles.proofs.handle.unshut.Statement.{statement}
use Rattle.rp_handles.proofs.handle.unshut.Code as code

abbrev K : RattleType
K = actor.the_row

abbrev Z : RattleType
Z = heap.the_row

abbrev L : RattleType
L = Loose K Z heap_laws.the_row_laws ghosts

abbrev tok : Ty → Ptr → Fml
tok = ghosts.dealloc_token (record { memory = record { seal = tt } })

pub unshut_spec : {M : Type 1} → statement M
unshut_spec 𝓤 𝓛 𝓜 𝓡 wired =
    let 𝓣 = tables 𝓤 𝓛.H 𝓜 𝓡 𝓡.env in let c = clauses 𝓛 𝓜.mem 𝓡.returns in let fn = code.function in
    let hs : Stays ended.signature.params ended.kept = (stay_dropped (plain (λ _. Z)) yes, (stay_dropped (plain (λ _. H)) yes, tt)) in
    proved_at 𝓛 ended hs c 𝓜 𝓡 (Goes-dropped 𝓛 0 (plain (λ _. Z)) yes (λ κs x f. refl), (Goes-dropped 𝓛 0 (plain (λ _. H)) yes (λ κs x f. refl), tt)) #self fn (code.unfolded 𝓤 𝓛.H 𝓜 𝓡 wired) (λ z are.
    let Post : Val → SProp 𝓤 = (walk_of 𝓛 ended hs c).post z in let a = z.0.3.0 in let v = z.0.3.1.0 in let Out : RattleType = type_at ended.signature.result z.0.0 in let Run : List Val → SProp 𝓤 = λ ws. WpFn 𝓤 𝓛.H 𝓣.C 𝓣.Λ fn ws Post in
    qed 𝓛 ((‵ ftrue ⊛ ‵ (owns (types_at ended.signature.params z.0.0) z.0.3 z.0.4)) ∷ raw ((c z.0.0 z.0.3).requires z.1) ∷ []) ∵ split ! $ drop ! $ fsplit ! $
    handle_tells (al K Z heap_laws.the_row_laws ghosts) ! a z.0.4.0 (λ h eh fits. move ! (1 ∷ []) $ fsplit ! $
    handle_out ! v z.0.4.1.0 (λ ws.
    let w : Val = word v.full v.at in
    let typed = (subst (Typed H.mir) ws ((handle_laws.the_row_laws.lawful 𝓛).typed v z.0.4.1.0 are.1.0)).0 in
    let at_typed = ((rawptr_Lawful 𝓛).typed v.at (ptr_val v.at ∷ []) refl).0 in
    suffices ! (Run (h ∷ w ∷ [])) (subst (λ (us : List Val). ent 𝓤 (Run (h ∷ w ∷ [])) (Run us)) (sym (λ i. eh i ++ (ws i ++ []))) (id⊢ 𝓤 (Run (h ∷ w ∷ [])))) $
    enter ! 𝓣.C 𝓣.Λ fn (h ∷ w ∷ []) Post $ alloc_all ! (λ l. pass_all ! refl (fits, (typed, tt)) $ let Ev = env fn.locals l in
    sets ! (of_opd ! (get_in ! (fld ! refl (stop !)) (sub ! 0 refl (whole !)))) refl (tt, tt) $
    sets ! (of_opd ! (get_in ! (fld ! refl (stop !)) (sub ! 1 refl (whole !)))) refl at_typed $
    sets ! (of_opd ! (get ! refl)) refl (tt, tt) $
    first ! $ branches ! (get ! refl)
    (λ big. let found = value_of v.kept (subst T v.agrees big) in let x : K.Denot = found.0 in
    rewrite ! 0 (λ (m : Option K.Denot). ‵ (kept_at tok K v.at m)) found.1 refl $
    in_a_block ! v.at (λ p. box_owns tok K p x) (fst∗ 𝓤 (never 𝓤) (sem 𝓛 (tok (bare (layout K)) null_ptr))) (λ b o e.
    let made : Val = at_word v.at h in let typed₁ = at_good K Z heap_laws.the_row_laws ghosts v.at h fits in let v₁ : Val = live 1 (vcons made vnil) in let d : L.Denot = record { at = block_ptr b o; alloc = a; value = x } in
    let good : Good (layout Out) v₁ = (and_tt _ typed₁.0, (record { fits = lit< tt }, (typed₁.1, tt))) in
    sets ! (agg ! (and_then ! (get ! refl) (and_then ! (get ! refl) (no_more !)))) refl typed₁ $ sets_last ! (agg ! (and_then ! (lit ! tt) (and_then ! (get ! refl) (no_more !)))) refl good $
    exec ! 𝓣.C 𝓣.Λ Ev (after 4 fn.body) (at_ret Ev Post) $ sets ! (of_opd ! (get ! refl)) refl good $
    move ! (0 ∷ 2 ∷ []) $ loose_in K Z heap_laws.the_row_laws ghosts ! b o h a x $ use1 𝓛 (‵ (Out.own_val (Some d) (live 1 (vcons (both (vptr b o) h) vnil) ∷ []))) (Some-of 𝓛 L d (both (vptr b o) h)) $
    rewrite ! 0 (λ (p : Ptr). ‵ (Out.own_val (Some d) (live 1 (vcons (at_word p h) vnil) ∷ []))) (sym e) refl $
    use0 𝓛 (raw (fact 𝓤 (Unit {0}))) (fact_i 𝓤 (Unit {0}) (emp 𝓤) tt) $ use0 𝓛 (raw (fact 𝓤 (v.kept ≡ Some x))) (fact_i 𝓤 (v.kept ≡ Some x) (emp 𝓤) found.1) $ join ! $
    nothing ! $ nothing ! $ nothing ! $ fjoin ! $ nothing ! $ fjoin ! $
    returns ! (look_at ! 0 refl) $ free_all ! refl $ keep ! (1 ∷ 0 ∷ 3 ∷ 2 ∷ []) $ by ! (leaves 𝓛 ended hs c z v₁ (Some d) (tt, (tt, tt)) (tt, (tt, tt)))))
    (λ small. let is_none : v.kept ≡ None = no_value v.kept (subst (λ (t : Bool). T (not t)) v.agrees small) in
    let good : Good (layout Out) (live 0 vnil) = (tt, (record { fits = lit< tt }, tt)) in
    sets_last ! (agg ! (and_then ! (lit ! tt) (no_more !))) refl good $ exec ! 𝓣.C 𝓣.Λ Ev (after 4 fn.body) (at_ret Ev Post) $ sets ! (of_opd ! (get ! refl)) refl good $
    use0 𝓛 (‵ (Out.own_val None (live 0 vnil ∷ []))) (none_of 𝓛 L) $
    use0 𝓛 (raw (fact 𝓤 (v.kept ≡ None))) (fact_i 𝓤 (v.kept ≡ None) (emp 𝓤) is_none) $ use0 𝓛 (raw (fact 𝓤 (Unit {0}))) (fact_i 𝓤 (Unit {0}) (emp 𝓤) tt) $ join ! $
    nothing ! $ nothing ! $ nothing ! $ fjoin ! $ nothing ! $ fjoin ! $
    returns ! (look_at ! 0 refl) $ free_all ! refl $ keep ! (1 ∷ 0 ∷ 3 ∷ 2 ∷ []) $ by ! (leaves 𝓛 ended hs c z (live 0 vnil) None (tt, (tt, tt)) (tt, (tt, tt))))))))
