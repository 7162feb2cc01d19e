-- The machine values of a handle. Assumes `Logic`.
use Rattle.std.proofs.Common.{◌≡◌, List, [], ◌∷◌, ◌++◌, refl, subst, Option, None, Some}
use Rattle.std.specs.Prelude.{is_some}
use lib.Dec.{T}
use mathlib.Core.Bool.{Bool, not}
use seplogic.Ra.Ura.{Ura}
use mir.Val.{Val, vbool, vstruct, vcons, vnil, of_list}
use types.Logic.{Logic}
use types.Kit.{Item, Goal, Seq, Step, step, ‵, ◌$◌, drop, fsplit, fjoin, fpick, fpack, feq_i, feq_l}
use denote.RattleType.{RattleType, Valss}
use denote.Builtin.{RawPtr, bool}
use denote.RawPtr.{Ptr, ptr_val}
use denote.Steps.{nothing}
use denote.Struct.Struct.{within}
use denote.Struct.Owning.{shape}
use Rattle.rp_handles.specs.contracts.handle.Handle as handle
use Rattle.rp_handles.specs.declared.handle.Handle.{Handle}

abbrev pub H : RattleType
H = handle.the_row

abbrev pub word : Bool → Ptr → Val
word full at = vstruct (vcons (vbool full) (vcons (ptr_val at) vnil))

pub value_of : {X : Type 0} (m : Option X) → T (is_some m) → (x : X) × (m ≡ Some x)
value_of (Some x) t = (x, refl)
value_of None t = absurd t

pub no_value : {X : Type 0} (m : Option X) → T (not (is_some m)) → m ≡ None
no_value (Some x) t = absurd t
no_value None t = refl

module _ {M : Type 1} {𝓤 : Ura M} {𝓛 : Logic 𝓤} {K : Type 0} {Γ : List (Item 𝓤)} {G : Goal 𝓤 𝓛.H} where
  pub handle_in : K → (d : Handle) → Step K 𝓛 (‵ (H.own_val d (word d.full d.at ∷ [])) ∷ Γ) G (‵ (handle.the_heap d) ∷ Γ) G
  handle_in t d = step (λ s. let v : Val = word d.full d.at in
      nothing t $ feq_i t (List Val) (ptr_val d.at ∷ []) (ptr_val d.at ∷ []) refl $ fjoin t $ feq_i t (List Val) (vbool d.full ∷ []) (vbool d.full ∷ []) refl $ fjoin t $
      feq_i t (List Val) (v ∷ []) (v ∷ []) refl $ fjoin t $
      fpack t (Valss (bool ∷ RawPtr ∷ [])) (within (shape handle.the_type) (d.full, (d.at, tt)) (v ∷ [])) (vbool d.full ∷ [], (ptr_val d.at ∷ [], tt)) $ fjoin t $ s)

  pub handle_out : K → (d : Handle) (vs : List Val)
      → (vs ≡ word d.full d.at ∷ [] → Seq K 𝓛 (‵ (handle.the_heap d) ∷ Γ) G)
      → Seq K 𝓛 (‵ (H.own_val d vs) ∷ Γ) G
  handle_out t d vs k =
      fsplit t $ fpick t (λ vss. fsplit t $ feq_l t (λ ev. fsplit t $ feq_l t (λ eb. fsplit t $ feq_l t (λ ep. drop t $ k
      (subst (λ (bs : List Val). vs ≡ vstruct (of_list (bs ++ (ptr_val d.at ∷ []))) ∷ []) eb
      (subst (λ (ps : List Val). vs ≡ vstruct (of_list (vss.0 ++ (ps ++ []))) ∷ []) ep ev))))))
