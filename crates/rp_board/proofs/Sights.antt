-- What a seat that knows one actor sees as it steps on a box.
use Rattle.std.proofs.Common.{◌≡◌, ℕ, ◌<◌, Vec, Some, None, List, [], ◌∷◌, refl, sym, ap, subst, ◌∙◌, arith}
use Rattle.std.specs.declared.alloc.Global.{Global}
use Rattle.atomic_table.specs.Table.{rest}
use Rattle.atomic_table.specs.Seated.{TableId}
use Rattle.rp_codec.specs.Message.{Message}
use Rattle.rp_model.specs.Effect.{Setting}
use Rattle.rp_board.specs.Moments.{MayClaim}
use Rattle.rp_board.specs.Parts.{Part, actor_in, box_of, on_first, filling, emptying, part_in}
use Rattle.rp_board.specs.Rule.{Slot, IsCarried, IsVacant}
use Rattle.rp_board.specs.Plays.{Sight, alone, holding, Claimed, Took, IsPublished}
use Rattle.rp_board.proofs.BoxSteps.{same_box}

-- the table has a word for each box
pub box_within : {S : Type 0} {s : Setting S} {table mine : TableId} {actor x y word : ℕ} {me : Sight} {holds : Part → List ℕ} {says : Part → Type 0} → MayClaim s table mine actor x y me holds word says → box_of x y < table.words
box_within may = rw may.sized.0 (omega (arith, may.less.0, may.less.1))

pub sees_claimed : (k b : ℕ) (p : Part) (old new : Sight) (found : ℕ) → old ≡ alone k p → Claimed b old found new → found ≡ 0
    → (slot : Slot) × IsVacant slot × (new ≡ holding k (filling b p) b slot)
sees_claimed k b p old new found is claimed hit =
    let taken = claimed.hit hit in (taken.0, taken.1, taken.2 ∙ ap (λ (me : Sight). (on_first (filling b) me.0, (b, taken.0) ∷ me.1)) is)

-- the slot that is out is written
pub sees_written : (k b : ℕ) (p : Part) (slot slot' : Slot) (old new : Sight) → old ≡ holding k p b slot → new ≡ (old.0, (b, slot') ∷ rest old.1) → new ≡ holding k p b slot'
sees_written k b p slot slot' old new is written = written ∙ ap (λ (me : Sight). (me.0, (b, slot') ∷ rest me.1)) is

pub sees_published : (says : Part → Type 0) (k b : ℕ) (p : Part) (slot : Slot) (old new : Sight) → old ≡ holding k p b slot → IsPublished says (actor_in old.0) old new
    → (new ≡ alone k (part_in new.0)) × says (part_in new.0)
sees_published says k b p slot old new is published =
    let sees : new ≡ alone k published.part = published.is ∙ ap (λ (me : Sight). ((actor_in me.0, published.part) ∷ [], rest me.1)) is in
    (subst (λ (me : Sight). me ≡ alone k (part_in me.0)) (sym sees) refl, subst (λ (me : Sight). says (part_in me.0)) (sym sees) published.picked)

-- what was taken went through this box
pub sees_taken : (x y : ℕ) (p : Part) (old new : Sight) (found : ℕ) → x < 16 → y < 16 → old ≡ alone y p → Took (box_of x y) old found new → found ≡ 2
    → (m : Message) × (text : Vec ℕ Global) × IsCarried x y text.items m × (new ≡ holding y (emptying (box_of x y) m p) (box_of x y) (Some text))
sees_taken x y p old new found less fewer is took hit =
    let taken = took.hit hit in
    let same = same_box taken.from taken.to x y taken.less.1 fewer (sym taken.box) in (
      taken.packet,
      taken.text,
      subst (λ (z : ℕ × ℕ). IsCarried z.0 z.1 taken.text.items taken.packet) (λ i. (same.0 i, same.1 i)) taken.carried,
      taken.is ∙ ap (λ (me : Sight). (on_first (emptying (box_of x y) taken.packet) me.0, (box_of x y, Some taken.text) ∷ me.1)) is,
    )

pub out_with : (k b : ℕ) (p : Part) (slot : Slot) (me : Sight) → me ≡ holding k p b slot → me.1 ≡ (b, slot) ∷ rest me.1
out_with k b p slot me is = subst (λ (seen : Sight). seen.1 ≡ (b, slot) ∷ rest seen.1) (sym is) refl

-- the first slot that is out
abbrev first_out : List (ℕ × Slot) → Slot
first_out [] = None
first_out (out ∷ others) = out.1

-- it is the one that was taken out
pub taken_out : (k b at : ℕ) (p : Part) (slot out : Slot) (me : Sight) → me ≡ holding k p b slot → me.1 ≡ (at, out) ∷ rest me.1 → out ≡ slot
taken_out k b at p slot out me is resulted = ap first_out (sym resulted ∙ ap (λ (seen : Sight). seen.1) is)
