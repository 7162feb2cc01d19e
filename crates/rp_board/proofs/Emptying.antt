-- The receiver's steps at a box: it takes the packet out of a full one, and clears it.
use Rattle.std.proofs.Common.{◌≡◌, ◌≢◌, ◌⊎◌, ℕ, ◌<◌, ◌≤◌, eqb, Some, Vec, [], ◌∷◌, ◌++◌, length, set, slice_index, inl, inr, refl, sym, ap, subst, ◌∙◌, arith}
use Rattle.std.specs.declared.alloc.Global.{Global}
use mathlib.Core.Option.{some, none}
use lib.ListN.{get_elem?}
use prog.Atomic.{either}
use Rattle.atomic_table.specs.Table.{State, Act, keeps, takes as takes_slot, gives, stepped, carried_after, Valid, Allows}
use Rattle.atomic_table.specs.Seated.{TableId}
use Rattle.atomic_table.proofs.Lists.{set_here, set_else, exchanged}
use Rattle.rp_base.specs.Sets.{Has}
use Rattle.rp_codec.specs.Message.{Message}
use Rattle.rp_model.specs.Effect.{Setting}
use Rattle.rp_board.specs.Parts.{Part, View, actor_of, box_of, emptying, emptied, from_actor, to_actor, part_in}
use Rattle.rp_board.specs.Rule.{Slot, IsBox, IsCarried, IsCarriedOver, IsVacant, Ruled, all_sent}
use Rattle.rp_board.specs.Plays.{Sight, alone, holding, Took, Cleared}
use Rattle.rp_board.specs.Moments.{IsMoment, MayClaim}
use Rattle.rp_board.proofs.Carrying.{carried_out, carried_still, from_other, inside_put}
use Rattle.rp_board.proofs.Worlds.{each_more, sent_by}
use Rattle.rp_board.proofs.Turns.{was, now, part_now, stays}
use Rattle.rp_board.proofs.BoxSteps.{IsBoxStep, boxed, still, held_alone, holds_it, holds_none, holds_other, none_both, as_it_is}

module _ {S : Type 0} (s : Setting S) (slots id x y : ℕ) (p : Part) (less : x < 16) (fewer : y < 16) where
  abbrev b : ℕ
  b = box_of x y

  -- the receiver holds no box, and a full one is claimed with the packet in it
  taken : p.takes ≡ [] → (m : Message) (t : State Slot View) (r : Ruled s t) → get_elem? t.views id ≡ some ((y, p) ∷ []) → slice_index t.words b ≡ 2
      → (text : Vec ℕ Global) → IsCarried x y text.items m → IsCarriedOver x y (r.parts x) (r.parts y) (m ∷ [])
      → Ruled s record { words = set t.words b 3; homes = set t.homes b none; views = set t.views id ((y, emptying b m p) ∷ []) }
  taken free m t r here word text carried over =
      boxed s t r id y p (emptying b m p) here x y 3 (set t.homes b none) less fewer step (λ other apart. set_else t.homes b other none apart) box
    where
      sent : Has m (r.parts x).sent
      sent = r.world.puts x less m (inside_put x y (r.parts x) (r.parts y) m over)

      step : IsBoxStep r.parts y x y p (emptying b m p)
      step = record {
        kept = refl;
        put = λ n h. inl h;
        got = each_more (λ (n : Message). Has n p.got ⊎ ((actor_of n.to ≡ y) × Has n (all_sent r.parts 16))) m p.got (λ n h. inl h) (inr (carried.to, sent_by r.parts 16 x m less sent));
        alike = λ x' y' apart. record { fills = as_it_is; takes = none_both (holds_none _ free) (held_alone b _ apart); puts = λ e. refl; gets = λ e. from_other m p.got x' (λ from. apart (λ i. box_of ((sym from ∙ carried.from) i) (sym e i))) };
      }

      after : ℕ → Part
      after = now s t r id y p (emptying b m p) here

      same : {A : Type 0} (f : Part → A) → f (emptying b m p) ≡ f p → (j : ℕ) → f (after j) ≡ f (r.parts j)
      same f is = stays s t r id y p (emptying b m p) here f is

      new_got : (after y).got ≡ (r.parts y).got ++ m ∷ []
      new_got = ap (λ (q : Part). q.got) (part_now s t r id y p (emptying b m p) here) ∙ ap (λ (q : Part). q.got ++ m ∷ []) (sym (was s t r id y p (emptying b m p) here))

      box : IsBox after x y 3 (λ slot. get_elem? (set t.homes b none) b ≡ some (some slot))
      box = record {
        empty = λ e. absurd (omega (arith, e));
        filling = none_both (λ e. omega (arith, e)) (λ h. let e : slice_index t.words b ≡ 1 = (r.boxes x y less fewer).filling.1 (subst (Has b) (same (λ (q : Part). q.fills) refl x) h) in omega (arith, e, word));
        full = λ e. absurd (omega (arith, e));
        not_full = λ other. carried_out x y (r.parts x) (after x) (r.parts y) (after y) m carried.from (same (λ (q : Part). q.put) refl x) new_got over;
        emptying = (λ e. subst (λ (q : Part). Has b q.takes) (sym (part_now s t r id y p (emptying b m p) here)) (inl refl), λ h. refl);
      }

  take_alone : p.takes ≡ [] → (says : Type 0) → ((t : State Slot View) → IsMoment s ((y, p) ∷ []) t → slice_index t.words b ≢ 2 → says)
      → Allows (Ruled s) slots id (alone y p) b (λ n. either (eqb n 2) 3 n) (λ found me. Took b (alone y p) found me × (found ≢ 2 → says))
  take_alone free says follows = λ t r size here fits.
      exchanged (slice_index t.words b) 2 3
      (λ n. (w : View) × (a : Act Slot) × Valid t.homes [] a × Ruled s (stepped t b n id [] w a) × (Took b (alone y p) (slice_index t.words b) (w, carried_after [] a) × (slice_index t.words b ≢ 2 → says)))
      (λ hit. let full = (r.boxes x y less fewer).full hit in (
        (y, emptying b full.0 p) ∷ [],
        takes_slot b (Some full.1),
        full.2,
        taken free full.0 t r here hit full.1 full.3 full.4,
        (
          record {
            hit = λ e. record { from = x; to = y; less = (less, fewer); box = refl; packet = full.0; text = full.1; carried = full.3; is = refl };
            miss = λ other. absurd (other hit);
          },
          λ other. absurd (other hit),
        ),
      ))
      (λ miss. ((y, p) ∷ [], keeps, tt, still s t b id ((y, p) ∷ []) here r, (record { hit = λ e. absurd (miss e); miss = λ other. refl }, follows t (record { rule = r; seat = id; sees = here }))))

  -- the receiver took the packet out of the box that it claimed
  cleared : p.takes ≡ b ∷ [] → (slot : Slot) → IsVacant slot → (t : State Slot View) (r : Ruled s t) → 256 ≤ length t.homes → get_elem? t.views id ≡ some ((y, p) ∷ [])
      → Ruled s record { words = set t.words b 0; homes = set t.homes b (some slot); views = set t.views id ((y, emptied p) ∷ []) }
  cleared holds slot vacant t r buffer here =
      boxed s t r id y p (emptied p) here x y 0 (set t.homes b (some slot)) less fewer step (λ other apart. set_else t.homes b other (some slot) apart) box
    where
      step : IsBoxStep r.parts y x y p (emptied p)
      step = record {
        kept = refl;
        put = λ m h. inl h;
        got = λ m h. inl h;
        alike = λ x' y' apart. record { fills = as_it_is; takes = none_both (holds_other b _ apart holds) (λ h. h); puts = λ e. refl; gets = λ e. refl };
      }

      after : ℕ → Part
      after = now s t r id y p (emptied p) here

      was_emptying : slice_index t.words b ≡ 3
      was_emptying = (r.boxes x y less fewer).emptying.1 (subst (λ (q : Part). Has b q.takes) (sym (was s t r id y p (emptied p) here)) (holds_it holds))

      same : {A : Type 0} (f : Part → A) → f (emptied p) ≡ f p → (j : ℕ) → f (after j) ≡ f (r.parts j)
      same f is = stays s t r id y p (emptied p) here f is

      inside : b < length t.homes
      inside = omega (arith, less, fewer, buffer)

      box : IsBox after x y 0 (λ replica. get_elem? (set t.homes b (some slot)) b ≡ some (some replica))
      box = record {
        empty = λ e. (slot, set_here t.homes b (some slot) inside, vacant);
        filling = none_both (λ e. omega (arith, e)) (λ h. let e : slice_index t.words b ≡ 1 = (r.boxes x y less fewer).filling.1 (subst (Has b) (same (λ (q : Part). q.fills) refl x) h) in omega (arith, e, was_emptying));
        full = λ e. absurd (omega (arith, e));
        not_full = λ other. carried_still x y (r.parts x) (after x) (r.parts y) (after y) [] (ap (to_actor y) (same (λ (q : Part). q.put) refl x)) (ap (from_actor x) (same (λ (q : Part). q.got) refl y))
            ((r.boxes x y less fewer).not_full (λ e. omega (arith, e, was_emptying)));
        emptying = none_both (λ e. omega (arith, e)) (λ h. subst (λ (q : Part). Has b q.takes) (part_now s t r id y p (emptied p) here) h);
      }

  pub clear_allows : 256 ≤ slots → (me : Sight) (slot : Slot) → me ≡ holding y p b slot → p.takes ≡ b ∷ [] → IsVacant slot → Allows (Ruled s) slots id me b (λ n. 0) (λ found new. Cleared me new)
  clear_allows buffer me slot sees holds vacant =
      subst (λ (sight : Sight). Allows (Ruled s) slots id sight b (λ n. 0) (λ found new. Cleared sight new)) (sym sees)
      (λ t r size here fits. ((y, emptied p) ∷ [], gives, tt, cleared holds slot vacant t r (omega (arith, size, buffer)) here, refl))

pub take_allows : {S : Type 0} (s : Setting S) (table mine : TableId) (id x y : ℕ) (me : Sight) (says : Part → Type 0) → MayClaim s table mine y x y me (λ part. part.takes) 2 says
    → Allows (Ruled s) table.slots id me (box_of x y) (λ n. either (eqb n 2) 3 n) (λ found new. Took (box_of x y) me found new × (found ≢ 2 → says (part_in me.0)))
take_allows s table mine id x y me says may =
    subst (λ (sight : Sight). Allows (Ruled s) table.slots id sight (box_of x y) (λ n. either (eqb n 2) 3 n) (λ found new. Took (box_of x y) sight found new × (found ≢ 2 → says (part_in sight.0)))) (sym may.place)
    (take_alone s table.slots id x y (part_in me.0) may.less.0 may.less.1 may.free (says (part_in me.0)) (λ t moment. may.follows t (subst (λ (sight : Sight). IsMoment s sight.0 t) (sym may.place) moment)))
