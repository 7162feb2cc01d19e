-- The steps at a box: its sender claims it and publishes what it put there, its receiver takes it and clears it.
use Rattle.std.proofs.Common.{◌≡◌, ◌≢◌, ◌⊎◌, ◌↔◌, ℕ, ◌+◌, ◌%◌, ◌^◌, ◌<◌, List, [], ◌∷◌, length, set, slice_index, inl, inr, refl, sym, ap, subst, ◌∙◌, arith, length-set, get_or-set_same, get_or-set_other, append-nil}
use mathlib.Core.Logic.{dite}
use mathlib.Core.Option.{some}
use mathlib.Core.Option as maybe
use native.Mathlib.Decide.{ℕ_discrete}
use lib.ListN.{get_elem?}
use lib.Seq.{set-get_or}
use Rattle.atomic_table.specs.Table.{State}
use Rattle.atomic_table.proofs.Lists.{set_again}
use Rattle.rp_base.specs.Sets.{Has}
use Rattle.rp_codec.specs.Message.{Message}
use Rattle.rp_model.specs.Effect.{Setting}
use Rattle.rp_model.specs.Parts.{NodePart, TaskPart}
use Rattle.rp_board.specs.Parts.{Part, Role, View, actor_of, box_of, node_of, task_of}
use Rattle.rp_board.specs.Rule.{Slot, IsGood, IsGoodAt, IsBox, Ruled, node_among, task_among, all_sent}
use Rattle.rp_board.proofs.Worlds.{at_each, same_sent}
use Rattle.rp_board.proofs.Turns.{IsSeenAlike, IsChange, alike_itself, box_stays, was, now, stays, stepped}

-- boxes of the same number are one
pub same_box : (x y x' y' : ℕ) → y < 16 → y' < 16 → box_of x y ≡ box_of x' y' → (x ≡ x') × (y ≡ y')
same_box x y x' y' less fewer same = (omega (arith, less, fewer, same), omega (arith, less, fewer, same))

-- what an actor is, the number of its events, and what it sent
abbrev Kept : Type 0
Kept = Role × ℕ × List Message

-- what a step at the box from x to y leaves of the part of actor k, and the packets that the actor put and got by it
pub record IsBoxStep (parts : ℕ → Part) (k x y : ℕ) (p p' : Part) : Type 0 where
  pub kept : ◌≡◌ {A = Kept} (p'.role, p'.events, p'.sent) (p.role, p.events, p.sent)
  pub put : (m : Message) → Has m p'.put → Has m p.put ⊎ Has m p.sent
  pub got : (m : Message) → Has m p'.got → Has m p.got ⊎ ((actor_of m.to ≡ k) × Has m (all_sent parts 16))
  pub alike : (x' y' : ℕ) → box_of x' y' ≢ box_of x y → IsSeenAlike x' y' k p p'

module _ {S : Type 0} (s : Setting S) (t : State Slot View) (r : Ruled s t) (id k : ℕ) (p p' : Part) (here : get_elem? t.views id ≡ some ((k, p) ∷ [])) where
  abbrev after : ℕ → Part
  after = now s t r id k p p' here

  -- a step at the box from x to y
  pub boxed : (x y word : ℕ) (homes : List (maybe.Option Slot)) → x < 16 → y < 16 → IsBoxStep r.parts k x y p p'
      → ((other : ℕ) → other ≢ box_of x y → get_elem? homes other ≡ get_elem? t.homes other)
      → IsBox after x y word (λ slot. get_elem? homes (box_of x y) ≡ some (some slot))
      → Ruled s record { words = set t.words (box_of x y) word; homes = homes; views = set t.views id ((k, p') ∷ []) }
  boxed x y word homes less fewer step away box =
      stepped s t r id k p p' here [] change (set t.words (box_of x y) word) homes (length-set t.words (box_of x y) word ∙ r.long) good_after
      (λ j small. get_or-set_other t.words (box_of x y) (256 + j) word 0 (omega (arith, less, fewer)) ∙ (r.counted j small ∙ ap (λ (n : ℕ). n % 2 ^ 64) (sym (same (λ (q : Part). q.events) (ap (λ (z : Kept). z.1) step.kept) j))))
      boxes_after
    where
      change : IsChange r.parts k p p' []
      change = record { sent = ap (λ (z : Kept). z.2) step.kept ∙ sym (append-nil p.sent); from = λ m h. absurd h; put = step.put; got = step.got }

      same : {A : Type 0} (f : Part → A) → f p' ≡ f p → (j : ℕ) → f (after j) ≡ f (r.parts j)
      same f is = stays s t r id k p p' here f is

      good_after : IsGoodAt s after
      good_after =
          subst (IsGood s (node_among after) (task_among after)) (same_sent r.parts after 16 (λ j. sym (same (λ (q : Part). q.sent) (ap (λ (z : Kept). z.2) step.kept) j)))
          (subst (λ (task : ℕ → TaskPart). IsGood s (node_among after) task (all_sent r.parts 16)) (λ i j. task_of (sym (same (λ (q : Part). q.role) (ap (λ (z : Kept). z.0) step.kept) (7 + j)) i))
          (subst (λ (node : ℕ → NodePart). IsGood s node (task_among r.parts) (all_sent r.parts 16)) (λ i j. node_of (sym (same (λ (q : Part). q.role) (ap (λ (z : Kept). z.0) step.kept) j) i)) r.world.good))

      other_box : (x' y' : ℕ) → x' < 16 → y' < 16 → box_of x' y' ≢ box_of x y
          → IsBox after x' y' (slice_index (set t.words (box_of x y) word) (box_of x' y')) (λ slot. get_elem? homes (box_of x' y') ≡ some (some slot))
      other_box x' y' less' fewer' other =
          let seen : (j : ℕ) → IsSeenAlike x' y' j (r.parts j) (after j) = at_each r.parts k p' (λ j q. IsSeenAlike x' y' j (r.parts j) q)
          (subst (λ (q : Part). IsSeenAlike x' y' k q p') (sym (was s t r id k p p' here)) (step.alike x' y' other)) (λ j different. alike_itself x' y' j (r.parts j)) in
          box_stays r.parts after x' y' (slice_index t.words (box_of x' y')) _ (λ slot. get_elem? t.homes (box_of x' y') ≡ some (some slot)) _ (seen x') (seen y')
          (get_or-set_other t.words (box_of x y) (box_of x' y') word 0 other) (λ slot h. away (box_of x' y') other ∙ h) (r.boxes x' y' less' fewer')

      inside : box_of x y < length t.words
      inside = rw r.long (omega (arith, less, fewer))

      this_box : IsBox after x y (slice_index (set t.words (box_of x y) word) (box_of x y)) (λ slot. get_elem? homes (box_of x y) ≡ some (some slot))
      this_box = subst (λ (n : ℕ). IsBox after x y n (λ slot. get_elem? homes (box_of x y) ≡ some (some slot))) (sym (get_or-set_same t.words (box_of x y) word 0 inside)) box

      boxes_after : (x' y' : ℕ) → x' < 16 → y' < 16 → IsBox after x' y' (slice_index (set t.words (box_of x y) word) (box_of x' y')) (λ slot. get_elem? homes (box_of x' y') ≡ some (some slot))
      boxes_after x' y' less' fewer' = dite (ℕ_discrete (box_of x' y') (box_of x y))
          (λ e. let same = same_box x' y' x y fewer' fewer e in
          subst (λ (z : ℕ × ℕ). IsBox after z.0 z.1 (slice_index (set t.words (box_of x y) word) (box_of z.0 z.1)) (λ slot. get_elem? homes (box_of z.0 z.1) ≡ some (some slot)))
          (λ i. (sym same.0 i, sym same.1 i)) this_box)
          (λ other. other_box x' y' less' fewer' other)

-- ---- where the word is as it was

pub still : {S : Type 0} (s : Setting S) (t : State Slot View) (b id : ℕ) (v : View) → get_elem? t.views id ≡ some v → Ruled s t
    → Ruled s record { words = set t.words b (slice_index t.words b); homes = t.homes; views = set t.views id v }
still s t b id v here r =
    subst (λ (words : List ℕ). Ruled s record { words = words; homes = t.homes; views = set t.views id v }) (sym (set-get_or t.words b 0))
    (subst (λ (views : List View). Ruled s record { words = t.words; homes = t.homes; views = views }) (sym (set_again t.views id v here)) r)

-- ---- what an actor holds

pub held_alone : (b other : ℕ) → other ≢ b → ¬ Has other (b ∷ [])
held_alone b other apart h = elim h [ inl same ↦ apart same | inr never ↦ never ]

-- it holds the box that it claimed, and no other
pub holds_it : {b : ℕ} {held : List ℕ} → held ≡ b ∷ [] → Has b held
holds_it {b = b} holds = subst (λ (l : List ℕ). Has b l) (sym holds) (inl refl)

pub holds_none : (other : ℕ) {held : List ℕ} → held ≡ [] → ¬ Has other held
holds_none other free h = subst (λ (l : List ℕ). Has other l) free h

pub holds_other : (b other : ℕ) {held : List ℕ} → other ≢ b → held ≡ b ∷ [] → ¬ Has other held
holds_other b other apart holds h = held_alone b other apart (subst (λ (l : List ℕ). Has other l) holds h)

pub none_both : {A B : Type 0} → ¬ A → ¬ B → A ↔ B
none_both left right = (λ a. absurd (left a), λ b. absurd (right b))

pub as_it_is : {A : Type 0} → A ↔ A
as_it_is = (λ a. a, λ a. a)
