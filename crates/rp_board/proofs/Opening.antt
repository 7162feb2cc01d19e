-- The table at first: nothing has happened, every box is empty, and one seat knows all actors.
use Rattle.std.proofs.Common.{◌≡◌, ℕ, zero, suc, ◌+◌, ◌<◌, ◌≤◌, Bool, true, false, if◌then◌else◌, nat_eq, nat_lt, None, List, [], ◌∷◌, ◌++◌, map, length, replicate, slice_get, slice_index, inl, inr, refl, sym, ap, subst, ◌∙◌, arith}
use Rattle.std.specs.Prelude.{unwrap_or}
use mathlib.Core.Logic.{dite}
use native.Mathlib.Decide.{ℕ_discrete}
use mathlib.Core.Option.{some, some-injective, some-ne-none}
use lib.ListN.{get_elem?}
use Rattle.atomic_table.specs.Table.{opening}
use Rattle.rp_base.specs.Config.{IsRightConfig}
use Rattle.rp_base.specs.Sets.{Has, IsSet}
use Rattle.rp_model.specs.Effect.{Setting}
use Rattle.rp_model.specs.Parts.{NodePart, TaskPart, fresh_node, fresh_task}
use Rattle.rp_model.specs.World.{opening_world, part_at}
use Rattle.rp_agreement.specs.Answered.{IsKept, IsKeptWorld, task_in}
use Rattle.rp_agreement.specs.Ranges.{IsRangedPart}
use Rattle.rp_agreement.specs.Worlds.{node_in}
use Rattle.rp_board.specs.Parts.{Part, View, OfNode, OfTask, OfAudit, box_of, node_of, task_of, first_part, first_from}
use Rattle.rp_board.specs.Rule.{Slot, IsGoodAt, IsSeating, Ruled, node_among, task_among, all_sent}

-- ---- the actors from a number on

first_has : (k more j : ℕ) (p : Part) → Has {A = ℕ × Part} (j, p) (first_from k more) → (k ≤ j) × (j < k + more) × (first_part j ≡ p)
first_has k zero j p h = absurd h
first_has k (suc more) j p h = elim h [
  | inl here ↦
      let same : j ≡ k = ap (λ (known : ℕ × Part). known.0) here in
      let part : p ≡ first_part k = ap (λ (known : ℕ × Part). known.1) here in
      (omega (arith, same), omega (arith, same), ap first_part same ∙ sym part)
  | inr later ↦
      let rest = first_has (suc k) more j p later in
      let least : suc k ≤ j = rest.0 in
      let most : j < suc k + more = rest.1 in
      (omega (arith, least), omega (arith, most), rest.2)
]

has_first : (k more j : ℕ) → k ≤ j → j < k + more → Has {A = ℕ × Part} (j, first_part j) (first_from k more)
has_first k zero j least most = absurd (omega (arith, least, most))
has_first k (suc more) j least most = dite (ℕ_discrete j k)
    (λ same. inl (λ i. (same i, first_part (same i))))
    (λ other. inr (has_first (suc k) more j (omega (arith, least, other)) (omega (arith, most))))

key_above : (k more j : ℕ) → Has j (map (λ (known : ℕ × Part). known.0) (first_from k more)) → k ≤ j
key_above k zero j h = absurd h
key_above k (suc more) j h = elim h [
  | inl same ↦ omega (arith, same)
  | inr later ↦ let least = key_above (suc k) more j later in omega (arith, least)
]

keys_apart : (k more : ℕ) → IsSet (map (λ (known : ℕ × Part). known.0) (first_from k more))
keys_apart k zero = tt
keys_apart k (suc more) = ((λ h. let least = key_above (suc k) more k h in omega (arith, least)), keys_apart (suc k) more)

-- ---- the world

always : {A : Type 0} (a : A) (count k : ℕ) → unwrap_or (slice_get (replicate count a) k) a ≡ a
always a zero zero = refl
always a zero (suc k) = refl
always a (suc count) zero = refl
always a (suc count) (suc k) = always a count k

pub always_at : {A : Type 0} (a : A) (count k : ℕ) → unwrap_or (part_at (replicate count a) k) a ≡ a
always_at a count zero = refl
always_at a count (suc k) = always a count k

node_first : (b c : Bool) → node_of (if b then OfAudit else if c then OfNode fresh_node else OfTask fresh_task) ≡ fresh_node
node_first true c = refl
node_first false true = refl
node_first false false = refl

task_first : (b c : Bool) → task_of (if b then OfAudit else if c then OfNode fresh_node else OfTask fresh_task) ≡ fresh_task
task_first true c = refl
task_first false true = refl
task_first false false = refl

nodes_first : (x : ℕ) → node_among first_part x ≡ fresh_node
nodes_first x = node_first (nat_eq x 0) (nat_lt x 8)

tasks_first : (t : ℕ) → task_among first_part t ≡ fresh_task
tasks_first t = task_first (nat_eq (7 + t) 0) (nat_lt (7 + t) 8)

none_sent : (most : ℕ) → all_sent first_part most ≡ []
none_sent zero = refl
none_sent (suc most) = λ i. none_sent most i ++ []

fresh_ranged : IsRangedPart fresh_node
fresh_ranged = record { records = λ rec h. absurd h; running = record { proposals = λ p h. absurd h; pending = λ item h. absurd h } }

module _ {S : Type 0} (s : Setting S) (right : IsRightConfig s.config) (world : IsKeptWorld s (opening_world s.config.nodes)) where
  nodes_are : (x : ℕ) → node_in (replicate s.config.nodes fresh_node) x ≡ node_among first_part x
  nodes_are x = always_at fresh_node s.config.nodes x ∙ sym (nodes_first x)

  tasks_are : (t : ℕ) → task_in (replicate 8 fresh_task) t ≡ task_among first_part t
  tasks_are t = always_at fresh_task 8 t ∙ sym (tasks_first t)

  first_kept : IsKept s (node_among first_part) (task_among first_part) (all_sent first_part 16)
  first_kept =
      subst (IsKept s (node_among first_part) (task_among first_part)) (sym (none_sent 16))
      (subst (λ (task : ℕ → TaskPart). IsKept s (node_among first_part) task []) (λ i t. tasks_are t i)
      (subst (λ (node : ℕ → NodePart). IsKept s node (task_in (replicate 8 fresh_task)) []) (λ i x. nodes_are x i) world.kept))

  first_good : IsGoodAt s first_part
  first_good = record {
    kept = first_kept;
    ranged = λ x. subst IsRangedPart (sym (nodes_first x)) fresh_ranged;
    packets = λ m h. absurd (subst (Has m) (none_sent 16) h);
  }

  -- ---- the table

  one_seat : IsSeating (first_from 0 16 ∷ []) first_part (λ k. 0)
  one_seat = record { knows = knows; apart = apart; seated = λ k small. (first_from 0 16, refl, has_first 0 16 k (omega arith) (omega (arith, small))) }
    where
      at_front : (id : ℕ) (v : View) → get_elem? (first_from 0 16 ∷ []) id ≡ some v → (0 ≡ id) × (first_from 0 16 ≡ v)
      at_front zero v at = (refl, some-injective _ _ at)
      at_front (suc id) v at = absurd (some-ne-none v (sym at))

      knows : (id : ℕ) (v : View) → get_elem? (first_from 0 16 ∷ []) id ≡ some v → (k : ℕ) (p : Part) → Has (k, p) v → (0 ≡ id) × (first_part k ≡ p) × (k < 16)
      knows id v at k p h =
          let front = at_front id v at in
          let has = first_has 0 16 k p (subst (λ (w : View). Has (k, p) w) (sym front.1) h) in
          (front.0, has.2, has.1)

      apart : (id : ℕ) (v : View) → get_elem? (first_from 0 16 ∷ []) id ≡ some v → IsSet (map (λ known. known.0) v)
      apart id v at = subst (λ (w : View). IsSet (map (λ known. known.0) w)) (at_front id v at).1 (keys_apart 0 16)

  vacant : (count b : ℕ) → b < count → get_elem? (map some (replicate count (let none : Slot = None in none))) b ≡ some (some None)
  vacant zero b less = absurd (omega (arith, less))
  vacant (suc count) zero less = refl
  vacant (suc count) (suc b) less = vacant count b (omega (arith, less))

  pub opens : (words : List ℕ) → length words ≡ 272 → ((i : ℕ) → slice_index words i ≡ 0) → Ruled s (opening words (replicate 256 None) (first_from 0 16))
  opens words long zeros = record {
    parts = first_part;
    owner = λ k. 0;
    world = record { config = right; good = first_good; sends = λ k small m h. absurd h; puts = λ k small m h. absurd h; gets = λ k small m h. absurd h };
    long = long;
    seating = one_seat;
    counted = λ k small. zeros (256 + k);
    boxes = λ x y less fewer. record {
      empty = λ e. (None, vacant 256 (box_of x y) (omega (arith, less, fewer)), tt);
      filling = (λ e. absurd (omega (arith, e, zeros (box_of x y))), λ h. absurd h);
      full = λ e. absurd (omega (arith, e, zeros (box_of x y)));
      not_full = λ other. refl;
      emptying = (λ e. absurd (omega (arith, e, zeros (box_of x y))), λ h. absurd h);
    };
  }
