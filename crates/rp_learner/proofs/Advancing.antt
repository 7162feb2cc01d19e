-- What moving the window on makes of the places, and of what they denote.
use Rattle.std.proofs.Common.{◌≡◌, ℕ, zero, suc, ◌+◌, ◌-◌, ◌<◌, ◌≤◌, ◌↔◌, min, Option, Some, List, [], ◌∷◌, ◌++◌, length, drop, refl, sym, ap, subst, ◌∙◌, inl, inr, arith, append_assoc}
use Rattle.std.specs.Prelude.{nat_eq, nat_le, nat_lt, filter, slice_get}
use Rattle.std.specs.List.{list_any}
use Rattle.std.proofs.lemmas.Bool.{cases_Bool, ltb-true, ltb-false, leb-true, le-leb, le-ltb, cond-true, cond-false}
use Rattle.std.proofs.lemmas.List.{length-append, length-drop, drop-append-le, drop-drop}
use Rattle.std.proofs.lemmas.Option.{slice_get_past}
use Rattle.circular_buffer.specs.Buffer.{keep_last}
use Rattle.circular_buffer.proofs.Places.{slice_get-drop, slice_get-append_left, slice_get-append_right}
use Rattle.rp_base.specs.Sets.{Has}
use Rattle.rp_base.specs.Promises.{HeardVote}
use Rattle.rp_base.proofs.Members.{has_passing, passes}
use Rattle.rp_learner.specs.Casts.{CastVote}
use Rattle.rp_learner.specs.Place.{Place}
use Rattle.rp_learner.specs.Place.{Unheard, Settled}
use Rattle.rp_base.specs.Number.{window}
use Rattle.rp_learner.specs.Places.{is_marked, opened, heard_from, settled_from}
use Rattle.rp_learner.specs.Status.{is_settled, Advances}
use Rattle.rp_learner.proofs.Placing.{votes_of, settled_of, cast_of, or_skip, heard_where, heard_there, settled_where}
use Rattle.rp_learner.proofs.Writing.{learning_of}

-- n places that open from an offset on
abbrev pub opened_from : ℕ → ℕ → ℕ → List Place
opened_from bits offset zero = []
opened_from bits offset (suc n) = opened bits offset ∷ opened_from bits (suc offset) n

length-opened : (bits offset n : ℕ) → length (opened_from bits offset n) ≡ n
length-opened bits offset zero = refl
length-opened bits offset (suc n) = ap suc (length-opened bits (suc offset) n)

-- one more opens after them
opened_more : (bits offset n to : ℕ) → to ≡ offset + n → opened_from bits offset n ++ opened bits to ∷ [] ≡ opened_from bits offset (suc n)
opened_more bits offset zero to at = let same : to ≡ offset = omega (arith, at) in ap (λ (k : ℕ). opened bits k ∷ []) same
opened_more bits offset (suc n) to at = ap (λ (rest : List Place). opened bits offset ∷ rest) (opened_more bits (suc offset) n to (omega (arith, at)))

opened_at : (bits offset n j : ℕ) → j < n → slice_get (opened_from bits offset n) j ≡ Some (opened bits (offset + j))
opened_at bits offset zero j lt = absurd (omega (arith, lt))
opened_at bits offset (suc n) zero lt = let same : offset ≡ offset + zero = omega arith in ap (λ (k : ℕ). Some (opened bits k)) same
opened_at bits offset (suc n) (suc j) lt =
    let same : suc offset + j ≡ offset + suc j = omega arith in
    opened_at bits (suc offset) n j (omega (arith, lt)) ∙ ap (λ (k : ℕ). Some (opened bits k)) same

-- The window moved on by some of the places that it is to move in all: the last of them open.
abbrev pub moved_on : List Place → ℕ → ℕ → ℕ → List Place
moved_on old moved bits n = drop n old ++ opened_from bits (window - moved) n

module _ (old : List Place) (long : length old ≡ window) (bits moved : ℕ) where
  pub length-moved : (n : ℕ) → n ≤ window → length (moved_on old moved bits n) ≡ window
  length-moved n le =
      omega (arith, le, long, length-append (drop n old) (opened_from bits (window - moved) n), length-drop n old, length-opened bits (window - moved) n)

  -- one place more opens, and the first leaves
  pub moves_on : (offset : ℕ) → moved ≤ window → window - moved ≤ offset → offset < window
      → keep_last window (moved_on old moved bits (offset - (window - moved)) ++ opened bits offset ∷ []) ≡ moved_on old moved bits (offset + 1 - (window - moved))
  moves_on offset most from below =
      let n = offset - (window - moved) in
      let o = window - moved in
      let next : offset + 1 - o ≡ suc n = omega (arith, from) in
      let at : offset ≡ o + n = omega (arith, from) in
      let left = drop n old in
      let fits : n < window = omega (arith, most, from, below) in
      let one : length (moved_on old moved bits n ++ opened bits offset ∷ []) - window ≡ 1 =
      omega (arith, fits, length-append (moved_on old moved bits n) (opened bits offset ∷ []), length-moved n (omega (arith, fits))) in
      ap (λ (k : ℕ). drop k (moved_on old moved bits n ++ opened bits offset ∷ [])) one
      ∙ ap (drop 1) (append_assoc left (opened_from bits o n) (opened bits offset ∷ []) ∙ ap (λ (rest : List Place). left ++ rest) (opened_more bits o n offset at))
      ∙ drop-append-le 1 left (opened_from bits o (suc n)) (omega (arith, fits, long, length-drop n old))
      ∙ ap (λ (rest : List Place). rest ++ opened_from bits o (suc n)) (drop-drop 1 n old ∙ ap (λ (k : ℕ). drop k old) (let same : n + 1 ≡ suc n = omega arith in same))
      ∙ ap (λ (k : ℕ). moved_on old moved bits k) (sym next)

opened_votes : (bits j : ℕ) → votes_of (Some (opened bits j)) ≡ []
opened_votes bits j =
    elim (cases_Bool (is_marked bits j)) [
      | inl set ↦ ap (λ (p : Place). votes_of (Some p)) (cond-true (is_marked bits j) Settled Unheard set)
      | inr clear ↦ ap (λ (p : Place). votes_of (Some p)) (cond-false (is_marked bits j) Settled Unheard clear)
    ]

opened_mark : (bits j : ℕ) → settled_of (Some (opened bits j)) ≡ is_marked bits j
opened_mark bits j =
    elim (cases_Bool (is_marked bits j)) [
      | inl set ↦ ap (λ (p : Place). settled_of (Some p)) (cond-true (is_marked bits j) Settled Unheard set) ∙ sym set
      | inr clear ↦ ap (λ (p : Place). settled_of (Some p)) (cond-false (is_marked bits j) Settled Unheard clear) ∙ sym clear
    ]

-- a place that holds a vote is one of the places
has_place : (places : List Place) (k : ℕ) (c : CastVote) → Has c (votes_of (slice_get places k)) → k < length places
has_place places k c has =
    elim (cases_Bool (nat_lt k (length places))) [
      | inl inside ↦ ltb-true k (length places) inside
      | inr past ↦
          let none : Has c [] = subst (λ (o : Option Place). Has c (votes_of o)) (slice_get_past places k (ltb-false k (length places) past)) has in
          absurd none
    ]

module _ (nodes most first start bits : ℕ) (old : List Place) (long : length old ≡ window) (on : first ≤ start) where
  abbrev moved : ℕ
  moved = min (start - first) window

  within : moved ≤ window
  within = omega arith

  abbrev new : List Place
  new = moved_on old moved bits moved

  -- a place that stays, and one that opened
  stays : (j : ℕ) → j < window - moved → slice_get new j ≡ slice_get old (moved + j)
  stays j lt =
      slice_get-append_left (drop moved old) (opened_from bits (window - moved) moved) j (omega (arith, lt, long, length-drop moved old))
      ∙ slice_get-drop moved old j (moved + j) refl

  opens : (j : ℕ) → window - moved ≤ j → j < window → slice_get new j ≡ Some (opened bits j)
  opens j le lt =
      let k = j - (window - moved) in
      let at : window - moved + k ≡ j = omega (arith, le) in
      slice_get-append_right (drop moved old) (opened_from bits (window - moved) moved) j k (omega (arith, le, within, long, length-drop moved old))
      ∙ opened_at bits (window - moved) moved k (omega (arith, le, lt, within))
      ∙ ap (λ (i : ℕ). Some (opened bits i)) at

  long_on : length new ≡ window
  long_on = length-moved old long bits moved moved within

  heard_on : (h : HeardVote) → Has h (heard_from start new) ↔ Has h (filter (λ h. nat_le start h.1) (heard_from first old))
  heard_on h = (
    λ m.
        let hit = heard_where new start h m in
        let j = hit.0 in
        elim (cases_Bool (nat_lt j (window - moved))) [
          | inl below ↦
              let lt : j < window - moved = ltb-true j (window - moved) below in
              let at : h.1 ≡ first + (moved + j) = omega (arith, lt, on, hit.1) in
              passes (λ (h : HeardVote). nat_le start h.1) h (heard_from first old)
              (heard_there old first (moved + j) h at (subst (λ (o : Option Place). Has (cast_of h) (votes_of o)) (stays j lt) hit.2))
              (le-leb start h.1 (omega (arith, hit.1)))
          | inr above ↦
              let ge : window - moved ≤ j = ltb-false j (window - moved) above in
              let lt : j < window = omega (arith, has_place new j (cast_of h) hit.2, long_on) in
              let none : Has (cast_of h) [] = subst (Has (cast_of h)) (ap votes_of (opens j ge lt) ∙ opened_votes bits j) hit.2 in
              absurd none
        ],
    λ m.
        let both = has_passing (λ (h : HeardVote). nat_le start h.1) h (heard_from first old) m in
        let hit = heard_where old first h both.0 in
        let k = hit.0 in
        let le : start ≤ h.1 = leb-true start h.1 both.1 in
        let lt : k < window = omega (arith, has_place old k (cast_of h) hit.2, long) in
        let j = k - moved in
        let at : moved + j ≡ k = omega (arith, le, lt, on, hit.1) in
        let here : h.1 ≡ start + j = omega (arith, le, lt, on, hit.1) in
        heard_there new start j h here
        (subst (λ (o : Option Place). Has (cast_of h) (votes_of o)) (ap (slice_get old) (sym at) ∙ sym (stays j (omega (arith, lt, at)))) hit.2),
  )

  mark_of : (i j : ℕ) → i ≡ start + j → is_settled (learning_of nodes most start new) i ≡ settled_of (slice_get new j)
  mark_of i j at =
      or_skip (nat_lt i start) (list_any (nat_eq i) (settled_from start new)) (le-ltb i start (omega (arith, at)))
      ∙ settled_where new start i j at

  settled_still : (i : ℕ) → start ≤ i → i < first + window → is_settled (learning_of nodes most start new) i ≡ is_settled (learning_of nodes most first old) i
  settled_still i le lt =
      let j = i - start in
      let at : i ≡ start + j = omega (arith, le) in
      let near : j < window - moved = omega (arith, le, lt, on) in
      let was : is_settled (learning_of nodes most first old) i ≡ settled_of (slice_get old (moved + j)) =
      or_skip (nat_lt i first) (list_any (nat_eq i) (settled_from first old)) (le-ltb i first (omega (arith, le, on)))
      ∙ settled_where old first i (moved + j) (omega (arith, near, on, at)) in
      mark_of i j at ∙ ap settled_of (stays j near) ∙ sym was

  settled_by : (i : ℕ) → start ≤ i → first + window ≤ i → i < start + window → is_settled (learning_of nodes most start new) i ≡ is_marked bits (i - start)
  settled_by i le above lt =
      let j = i - start in
      let at : i ≡ start + j = omega (arith, le) in
      mark_of i j at ∙ ap settled_of (opens j (omega (arith, above, on, at)) (omega (arith, lt, at))) ∙ opened_mark bits j

  pub advances : (places : List Place) (by : ℕ) → by ≡ min (start - first) window → places ≡ moved_on old by bits by → Advances (learning_of nodes most first old) start bits (learning_of nodes most start places)
  advances places by same is =
      subst (λ (rest : List Place). Advances (learning_of nodes most first old) start bits (learning_of nodes most start rest))
      (sym (is ∙ ap (λ (n : ℕ). moved_on old n bits n) same))
      (record { nodes = refl; positions = refl; begins = refl; heard = heard_on; stays = settled_still; opens = settled_by })
