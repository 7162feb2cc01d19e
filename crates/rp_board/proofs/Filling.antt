-- The sender's steps at a box: it claims an empty one, and publishes what it put there.
use Rattle.std.proofs.Common.{◌≡◌, ◌≢◌, ◌⊎◌, ℕ, ◌<◌, ◌≤◌, eqb, Some, Vec, [], ◌∷◌, ◌++◌, length, set, slice_index, inl, inr, refl, sym, ap, subst, ◌∙◌, arith, get_or-set_same}
use Rattle.std.specs.declared.alloc.Global.{Global}
use mathlib.Core.Option.{some, none}
use lib.ListN.{get_elem?}
use prog.Atomic.{either}
use Rattle.atomic_table.specs.Table.{State, Act, keeps, takes as takes_slot, gives, stepped, carried_after, Valid, Allows}
use Rattle.atomic_table.specs.Seated.{TableId}
use Rattle.atomic_table.proofs.Lists.{set_here, set_else, exchanged}
use Rattle.rp_base.specs.Sets.{Has}
use Rattle.rp_codec.specs.Message.{Message}
use Rattle.rp_model.specs.Effect.{Setting}
use Rattle.rp_board.specs.Parts.{Part, View, actor_in, box_of, from_actor, filling, filled, to_actor, part_in}
use Rattle.rp_board.specs.Rule.{Slot, IsBox, IsCarried, Ruled}
use Rattle.rp_board.specs.Plays.{Sight, alone, holding, Claimed, IsPublished}
use Rattle.rp_board.specs.Moments.{IsMoment, MayClaim}
use Rattle.rp_board.proofs.Carrying.{carried_in, carried_still, to_other}
use Rattle.rp_board.proofs.Worlds.{at_below, each_more}
use Rattle.rp_board.proofs.Turns.{was, now, part_now, stays}
use Rattle.rp_board.proofs.BoxSteps.{IsBoxStep, boxed, still, held_alone, holds_it, holds_none, holds_other, none_both, as_it_is}

module _ {S : Type 0} (s : Setting S) (slots id x y : ℕ) (p : Part) (less : x < 16) (fewer : y < 16) where
  abbrev b : ℕ
  b = box_of x y

  -- the sender holds no box, and an empty one is claimed
  claimed : p.fills ≡ [] → (t : State Slot View) (r : Ruled s t) → get_elem? t.views id ≡ some ((x, p) ∷ []) → slice_index t.words b ≡ 0
      → Ruled s record { words = set t.words b 1; homes = set t.homes b none; views = set t.views id ((x, filling b p) ∷ []) }
  claimed free t r here word = boxed s t r id x p (filling b p) here x y 1 (set t.homes b none) less fewer step (λ other apart. set_else t.homes b other none apart) box
    where
      step : IsBoxStep r.parts x x y p (filling b p)
      step = record {
        kept = refl;
        put = λ m h. inl h;
        got = λ m h. inl h;
        alike = λ x' y' apart. record { fills = none_both (holds_none _ free) (held_alone b _ apart); takes = as_it_is; puts = λ e. refl; gets = λ e. refl };
      }

      after : ℕ → Part
      after = now s t r id x p (filling b p) here

      same : {A : Type 0} (f : Part → A) → f (filling b p) ≡ f p → (j : ℕ) → f (after j) ≡ f (r.parts j)
      same f is = stays s t r id x p (filling b p) here f is

      box : IsBox after x y 1 (λ slot. get_elem? (set t.homes b none) b ≡ some (some slot))
      box = record {
        empty = λ e. absurd (omega (arith, e));
        filling = (λ e. subst (λ (q : Part). Has b q.fills) (sym (part_now s t r id x p (filling b p) here)) (inl refl), λ h. refl);
        full = λ e. absurd (omega (arith, e));
        not_full = λ other. carried_still x y (r.parts x) (after x) (r.parts y) (after y) [] (ap (to_actor y) (same (λ (q : Part). q.put) refl x)) (ap (from_actor x) (same (λ (q : Part). q.got) refl y))
            ((r.boxes x y less fewer).not_full (λ e. omega (arith, e, word)));
        emptying = none_both (λ e. omega (arith, e)) (λ h. let e : slice_index t.words b ≡ 3 = (r.boxes x y less fewer).emptying.1 (subst (Has b) (same (λ (q : Part). q.takes) refl y) h) in omega (arith, e, word));
      }

  claim_alone : p.fills ≡ [] → (says : Type 0) → ((t : State Slot View) → IsMoment s ((x, p) ∷ []) t → slice_index t.words b ≢ 0 → says)
      → Allows (Ruled s) slots id (alone x p) b (λ n. either (eqb n 0) 1 n) (λ found me. Claimed b (alone x p) found me × (found ≢ 0 → says))
  claim_alone free says follows = λ t r size here fits.
      exchanged (slice_index t.words b) 0 1
      (λ n. (w : View) × (a : Act Slot) × Valid t.homes [] a × Ruled s (stepped t b n id [] w a) × (Claimed b (alone x p) (slice_index t.words b) (w, carried_after [] a) × (slice_index t.words b ≢ 0 → says)))
      (λ hit. let left = (r.boxes x y less fewer).empty hit in (
        (x, filling b p) ∷ [],
        takes_slot b left.0,
        left.1,
        claimed free t r here hit,
        (record { hit = λ e. (left.0, left.2, refl); miss = λ other. absurd (other hit) }, λ other. absurd (other hit)),
      ))
      (λ miss. ((x, p) ∷ [], keeps, tt, still s t b id ((x, p) ∷ []) here r, (record { hit = λ e. absurd (miss e); miss = λ other. refl }, follows t (record { rule = r; seat = id; sees = here }))))

  -- the sender put a packet into the box that it claimed
  published : p.fills ≡ b ∷ [] → (m : Message) (text : Vec ℕ Global) → Has m p.sent → IsCarried x y text.items m → (t : State Slot View) (r : Ruled s t) → 256 ≤ length t.homes
      → get_elem? t.views id ≡ some ((x, p) ∷ []) → Ruled s record { words = set t.words b 2; homes = set t.homes b (some (Some text)); views = set t.views id ((x, filled m p) ∷ []) }
  published holds m text sent carried t r buffer here =
      boxed s t r id x p (filled m p) here x y 2 (set t.homes b (some (Some text))) less fewer step (λ other apart. set_else t.homes b other (some (Some text)) apart) box
    where
      step : IsBoxStep r.parts x x y p (filled m p)
      step = record {
        kept = refl;
        put = each_more (λ (n : Message). Has n p.put ⊎ Has n p.sent) m p.put (λ n h. inl h) (inr sent);
        got = λ n h. inl h;
        alike = λ x' y' apart. record { fills = none_both (holds_other b _ apart holds) (λ h. h); takes = as_it_is; puts = λ e. to_other m p.put y' (λ to. apart (λ i. box_of (sym e i) ((sym to ∙ carried.to) i))); gets = λ e. refl };
      }

      after : ℕ → Part
      after = now s t r id x p (filled m p) here

      was_filling : slice_index t.words b ≡ 1
      was_filling = (r.boxes x y less fewer).filling.1 (subst (λ (q : Part). Has b q.fills) (sym (was s t r id x p (filled m p) here)) (holds_it holds))

      same : {A : Type 0} (f : Part → A) → f (filled m p) ≡ f p → (j : ℕ) → f (after j) ≡ f (r.parts j)
      same f is = stays s t r id x p (filled m p) here f is

      new_part : after x ≡ filled m p
      new_part = part_now s t r id x p (filled m p) here

      new_put : (after x).put ≡ (r.parts x).put ++ m ∷ []
      new_put = ap (λ (q : Part). q.put) new_part ∙ ap (λ (q : Part). q.put ++ m ∷ []) (sym (was s t r id x p (filled m p) here))

      inside : b < length t.homes
      inside = omega (arith, less, fewer, buffer)

      box : IsBox after x y 2 (λ slot. get_elem? (set t.homes b (some (Some text))) b ≡ some (some slot))
      box = record {
        empty = λ e. absurd (omega (arith, e));
        filling = none_both (λ e. omega (arith, e)) (λ h. subst (λ (q : Part). Has b q.fills) new_part h);
        full = λ e. (
          m,
          text,
          set_here t.homes b (some (Some text)) inside,
          carried,
          carried_in x y (r.parts x) (after x) (r.parts y) (after y) m carried.to new_put (same (λ (q : Part). q.got) refl y) ((r.boxes x y less fewer).not_full (λ e. omega (arith, e, was_filling))),
        );
        not_full = λ other. absurd (other refl);
        emptying = none_both (λ e. omega (arith, e)) (λ h. let e : slice_index t.words b ≡ 3 = (r.boxes x y less fewer).emptying.1 (subst (Has b) (same (λ (q : Part). q.takes) refl y) h) in omega (arith, e, was_filling));
      }

  pub publish_allows : 256 ≤ slots → (me : Sight) (m : Message) (text : Vec ℕ Global) → me ≡ holding x p b (Some text) → p.fills ≡ b ∷ [] → Has m p.sent → IsCarried x y text.items m
      → (says : Part → Type 0) → ((t : State Slot View) → IsMoment s ((x, filled m p) ∷ []) t → slice_index t.words b ≡ 2 → get_elem? t.homes b ≡ some (some (Some text)) → says (filled m p))
      → Allows (Ruled s) slots id me b (λ n. 2) (λ found new. IsPublished says (actor_in me.0) me new)
  publish_allows buffer me m text sees holds sent carried says follows =
      subst (λ (sight : Sight). Allows (Ruled s) slots id sight b (λ n. 2) (λ found new. IsPublished says (actor_in sight.0) sight new)) (sym sees)
      (λ t r size here fits.
      let after = published holds m text sent carried t r (omega (arith, size, buffer)) here in
      let word : slice_index (set t.words b 2) b ≡ 2 = get_or-set_same t.words b 2 0 (rw r.long (omega (arith, less, fewer))) in
      let slot : get_elem? (set t.homes b (some (Some text))) b ≡ some (some (Some text)) = set_here t.homes b (some (Some text)) (omega (arith, less, fewer, size, buffer)) in
      let known = set_here t.views id ((x, filled m p) ∷ []) (at_below t.views id ((x, p) ∷ []) here) in
      ((x, filled m p) ∷ [], gives, tt, after, record { part = filled m p; is = refl; picked = follows _ (record { rule = after; seat = id; sees = known }) word slot }))

pub claim_allows : {S : Type 0} (s : Setting S) (table mine : TableId) (id x y : ℕ) (me : Sight) (says : Part → Type 0) → MayClaim s table mine x x y me (λ part. part.fills) 0 says
    → Allows (Ruled s) table.slots id me (box_of x y) (λ n. either (eqb n 0) 1 n) (λ found new. Claimed (box_of x y) me found new × (found ≢ 0 → says (part_in me.0)))
claim_allows s table mine id x y me says may =
    subst (λ (sight : Sight). Allows (Ruled s) table.slots id sight (box_of x y) (λ n. either (eqb n 0) 1 n) (λ found new. Claimed (box_of x y) sight found new × (found ≢ 0 → says (part_in sight.0)))) (sym may.place)
    (claim_alone s table.slots id x y (part_in me.0) may.less.0 may.less.1 may.free (says (part_in me.0)) (λ t moment. may.follows t (subst (λ (sight : Sight). IsMoment s sight.0 t) (sym may.place) moment)))
