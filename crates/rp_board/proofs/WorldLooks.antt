-- A look at the table leaves it as it is, and shows that the rule holds.
use Rattle.std.proofs.Common.{◌≡◌, ℕ, [], ◌∷◌, refl, arith}
use mathlib.Core.Logic.{dite}
use mathlib.Core.Option.{some}
use native.Mathlib.Decide.{ℕ_discrete}
use lib.ListN.{get_elem?}
use Rattle.atomic_table.specs.Table.{State, keeps, Allows}
use Rattle.rp_model.specs.Effect.{Setting}
use Rattle.rp_board.specs.Parts.{Part, View}
use Rattle.rp_board.specs.Rule.{Slot, IsBox, IsGotInOrder, Ruled}
use Rattle.rp_board.specs.Plays.{Sight}
use Rattle.rp_board.specs.Looks.{IsWorldOf}
use Rattle.rp_board.proofs.BoxSteps.{still}

-- of what was put into a box at most one packet is not got
all_but_one : (x y : ℕ) (parts : ℕ → Part) (word : ℕ) (home : Slot → Type 0) → IsBox parts x y word home → IsGotInOrder x y (parts x) (parts y)
all_but_one x y parts word home box = dite (ℕ_discrete word 2)
    (λ e. let full = box.full e in record { inside = full.0 ∷ []; one = omega arith; carried = full.4 })
    (λ other. record { inside = []; one = omega arith; carried = box.not_full other })

-- what a seat knows is a piece of the world that the rule speaks of
world_seen : {S : Type 0} (s : Setting S) (t : State Slot View) (id : ℕ) (view : View) → get_elem? t.views id ≡ some view → (r : Ruled s t) → IsWorldOf s view r.parts
world_seen s t id view here r = record {
  is = r.world;
  knows = λ k p h. let known = r.seating.knows id view here k p h in (known.1, known.2);
  carries = λ x y less fewer. all_but_one x y r.parts _ _ (r.boxes x y less fewer);
}

-- a word may be read, and what follows of every such world is so
pub look_allows : {S : Type 0} (s : Setting S) (slots id word : ℕ) (me : Sight) (says : Type 0) → ((parts : ℕ → Part) → IsWorldOf s me.0 parts → says)
    → Allows (Ruled s) slots id me word (λ n. n) (λ found new. (new ≡ me) × says)
look_allows s slots id word me says follows = λ t r size here fits.
    (me.0, keeps, tt, still s t word id me.0 here r, (refl, follows r.parts (world_seen s t id me.0 here r)))
