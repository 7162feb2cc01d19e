-- How ways go on.
use Rattle.std.proofs.Common.{inl, inr, ◌≡◌, ◌∙◌, ℕ, zero, suc, ◌+◌, ◌-◌, ◌<◌, ◌≤◌, Bool, true, false, ◌||◌, Option, Some, None, List, [], ◌∷◌, ◌++◌, length, slice_set, length-append, arith, refl, sym, ap, subst}
use Rattle.std.specs.Prelude.{◌⊎◌, nat_eq, slice_get, unwrap_or}
use Rattle.std.specs.List.{list_any}
use Rattle.std.proofs.lemmas.Bool.Decides.{nat_tests}
use Rattle.std.proofs.lemmas.List.{length-map}
use Rattle.std.proofs.lemmas.Option.{slice_get_within}
use Rattle.rp_drawing.specs.Ways.{sent_way, sent_ways, ended_at, ended_way, ended_ways, is_way_drawn, is_end_drawn, settles, IsEndingWithin, IsSent, IsUnsettled, IsSettled, IsEnded, IsWay, AreWays, IsDown, AreDown}
use Rattle.rp_drawing.specs.declared.sketch.Arrival.{Arrival}
use Rattle.rp_drawing.specs.declared.sketch.Ending.{Ending}
use Rattle.rp_drawing.specs.declared.sketch.Row.{Row}
use Rattle.rp_drawing.specs.declared.sketch.Sending.{Sending}
use Rattle.rp_drawing.specs.declared.sketch.Way.{Way}
use Rattle.rp_drawing.proofs.Lists.{get_left, get_split, get_last, some_is, only_item, get_mapped}

-- ---- a way that ends

-- the item at a place is set
pub set_ends : (ways : List Way) (place : ℕ) (way : Way) (arrival : Arrival) → slice_get ways place ≡ Some way
    → slice_set ways place (ended_way arrival way) ≡ ended_at ways place arrival
set_ends [] place way arrival there = absurd (cc)
set_ends (w ∷ rest) zero way arrival there = ap (λ (x : Way). ended_way arrival x ∷ rest) (sym (some_is there))
set_ends (w ∷ rest) (suc place) way arrival there = ap (λ (l : List Way). w ∷ l) (set_ends rest place way arrival there)

length-ended_at : (ways : List Way) (place : ℕ) (arrival : Arrival) → length (ended_at ways place arrival) ≡ length ways
length-ended_at [] place arrival = refl
length-ended_at (w ∷ rest) zero arrival = refl
length-ended_at (w ∷ rest) (suc place) arrival = ap suc (length-ended_at rest place arrival)

pub length-ended_ways : (ways : List Way) (o : Option Ending) (moment line : ℕ) → length (ended_ways ways o moment line) ≡ length ways
length-ended_ways ways None moment line = refl
length-ended_ways ways (Some e) moment line = length-ended_at ways (e.message - 1) (record { moment = moment; line = line; end = e.end })

-- a way is as it was, or it is the one that ends
abbrev WasWay : List Way → ℕ → Arrival → ℕ → Way → Type 0
WasWay ways place arrival k way =
    (was : Way) × (slice_get ways k ≡ Some was) × (((k ≡ place → ⊥) × (way ≡ was)) ⊎ ((k ≡ place) × (way ≡ ended_way arrival was)))

was_later : (w : Way) (rest : List Way) (place : ℕ) (arrival : Arrival) (k : ℕ) (way : Way) → WasWay rest place arrival k way → WasWay (w ∷ rest) (suc place) arrival (suc k) way
was_later w rest place arrival k way was = (
  was.0,
  was.1,
  elim was.2 [
    | inl other ↦ inl ((λ (same : suc k ≡ suc place). other.0 (omega (arith, same))), other.1)
    | inr same ↦ inr (ap suc same.0, same.1)
  ],
)

was_way : (ways : List Way) (place : ℕ) (arrival : Arrival) (k : ℕ) (way : Way) → slice_get (ended_at ways place arrival) k ≡ Some way → WasWay ways place arrival k way
was_way [] place arrival k way e = absurd (cc)
was_way (w ∷ rest) zero arrival zero way e = (w, refl, inr (refl, sym (some_is e)))
was_way (w ∷ rest) zero arrival (suc k) way e = (way, e, inl ((λ (same : suc k ≡ zero). absurd (omega (arith, same))), refl))
was_way (w ∷ rest) (suc place) arrival zero way e = (w, refl, inl ((λ (same : zero ≡ suc place). absurd (omega (arith, same))), sym (some_is e)))
was_way (w ∷ rest) (suc place) arrival (suc k) way e = was_later w rest place arrival k way (was_way rest place arrival k way e)

-- ---- messages that are not settled

within_more : (a b : ℕ) (o : Option Ending) → a ≤ b → IsEndingWithin a o → IsEndingWithin b o
within_more a b None more within = tt
within_more a b (Some e) more within = (within.0, omega (arith, more, within.1))

unequal : (m n : ℕ) → (m ≡ n → ⊥) → nat_eq m n ≡ false
unequal m n other = grind (arith, nat_tests, other)

later_unsettled : (n number : ℕ) (o : Option Ending) → n < number → IsEndingWithin n o → settles o number ≡ false
later_unsettled n number None later within = refl
later_unsettled n number (Some e) later within = unequal e.message number (λ (same : e.message ≡ number). absurd (omega (arith, later, within.1, same)))

other_unsettled : (n k : ℕ) (e : Ending) → IsEndingWithin n (Some e) → (k ≡ e.message - 1 → ⊥) → settles (Some e) (suc k) ≡ false
other_unsettled n k e within other = unequal e.message (suc k) (λ (same : e.message ≡ suc k). other (omega (arith, same)))

-- ---- one moment more

module _ (rows : List Row) (row : Row) where
  abbrev later : List Row
  later = rows ++ row ∷ []

  still_there : (i : ℕ) (r : Row) → slice_get rows i ≡ Some r → slice_get later i ≡ Some r
  still_there i r there = get_left rows (row ∷ []) i (slice_get_within rows i r there) ∙ there

  still_unsettled : (number count : ℕ) → count ≤ length rows → IsUnsettled rows number count → IsUnsettled later number count
  still_unsettled number count few unsettled i r below there =
      unsettled i r below (sym (get_left rows (row ∷ []) i (omega (arith, few, below))) ∙ there)

  now_unsettled : (number count : ℕ) → IsUnsettled rows number (length rows) → settles row.moment.ending number ≡ false → IsUnsettled later number count
  now_unsettled number count unsettled not_now i r below there =
      elim (get_split rows (row ∷ []) i r there) [
        | inl before ↦ unsettled i r (slice_get_within rows i r before) before
        | inr last ↦ subst (λ (x : Row). settles x.moment.ending number ≡ false) (sym (only_item row r last.0 last.2)) not_now
      ]

  still_settled : (number : ℕ) (was way : Way) (arrival : Arrival) → way.sent ≡ was.sent → IsSettled rows number was arrival → IsSettled later number way arrival
  still_settled number was way arrival same s = record {
    row = s.row;
    there = still_there arrival.moment s.row s.there;
    ending_is = s.ending_is;
    line_is = s.line_is;
    later = subst (λ (n : ℕ). n < arrival.moment) (sym same) s.later;
    first = still_unsettled number arrival.moment (omega (arith, slice_get_within rows arrival.moment s.row s.there)) s.first;
  }

  still_sent : (number : ℕ) (was : Way) (ended : Option Arrival) → IsSent rows number was → IsSent later number (record was { ended = ended })
  still_sent number was ended s = record {
    row = s.row;
    there = still_there was.sent s.row s.there;
    after = s.after;
    sending_is = s.sending_is;
    line_is = s.line_is;
  }

  -- a way of a message that this moment does not settle
  still_way : (number : ℕ) (way : Way) → settles row.moment.ending number ≡ false → IsWay rows number way → IsWay later number way
  still_way number way not_now is = record { sent = still_sent number way way.ended is.sent; ended = at way.ended is.ended }
    where
      at : (o : Option Arrival) → IsEnded rows number way o → IsEnded later number way o
      at None unsettled = now_unsettled number (length later) unsettled not_now
      at (Some arrival) s = still_settled number way way arrival refl s

  -- the way of the message that it settles
  settled_way : (number : ℕ) (was : Way) (e : Ending) → row.moment.ending ≡ Some e → e.message ≡ number → IsWay rows number was
      → IsWay later number (ended_way (record { moment = length rows; line = row.line; end = e.end }) was)
  settled_way number was e ending same is = record { sent = still_sent number was (Some (unwrap_or was.ended arrival)) is.sent; ended = at was.ended is.ended }
    where
      arrival : Arrival
      arrival = record { moment = length rows; line = row.line; end = e.end }

      way : Way
      way = ended_way arrival was

      at : (o : Option Arrival) → IsEnded rows number was o → IsSettled later number way (unwrap_or o arrival)
      at None unsettled = record {
        row = row;
        there = get_last rows row;
        ending_is = ending ∙ ap (λ (n : ℕ). Some (record { message = n; end = e.end })) same;
        line_is = refl;
        later = slice_get_within rows was.sent is.sent.row is.sent.there;
        first = still_unsettled number (length rows) (omega arith) unsettled;
      }
      at (Some first) s = still_settled number was way first refl s

  module _ (ways : List Way) (before : row.moment.before ≡ length ways) (are : AreWays rows ways) where
    -- the ways of messages that were sent before
    old_way : (k : ℕ) (way : Way) (o : Option Ending) → row.moment.ending ≡ o → IsEndingWithin (length ways) o
        → slice_get (ended_ways ways o (length rows) row.line) k ≡ Some way → IsWay later (suc k) way
    old_way k way None ending within there =
        still_way (suc k) way (ap (λ (o : Option Ending). settles o (suc k)) ending) (are.each k way there)
    old_way k way (Some e) ending within there =
        let arrival : Arrival = record { moment = length rows; line = row.line; end = e.end } in
        let was = was_way ways (e.message - 1) arrival k way there in
        elim was.2 [
          | inl other ↦
              subst (λ (w : Way). IsWay later (suc k) w) (sym other.1)
              (still_way (suc k) was.0 (ap (λ (o : Option Ending). settles o (suc k)) ending ∙ other_unsettled (length ways) k e within other.0) (are.each k was.0 was.1))
          | inr same ↦
              subst (λ (w : Way). IsWay later (suc k) w) (sym same.1)
              (settled_way (suc k) was.0 e ending (omega (arith, same.0, within.0)) (are.each k was.0 was.1))
        ]

    -- the ways of those that it sends
    new_way : (j : ℕ) (sending : Sending) → slice_get row.moment.sends.items j ≡ Some sending → IsEndingWithin (length ways) row.moment.ending
        → IsWay later (suc (length ways + j)) (sent_way (length rows) row.line sending)
    new_way j sending there within =
        let past : length ways < suc (length ways + j) = omega arith in
        let place : suc (length ways + j) - suc row.moment.before ≡ j = omega (arith, before) in
        let before_all : IsUnsettled rows (suc (length ways + j)) (length rows) =
        λ i r below is. later_unsettled (length ways) (suc (length ways + j)) r.moment.ending past (are.known i r is) in
        record {
          sent = record {
            row = row;
            there = get_last rows row;
            after = omega (arith, before, past);
            sending_is = ap (slice_get row.moment.sends.items) place ∙ there;
            line_is = refl;
          };
          ended = now_unsettled (suc (length ways + j)) (length later) before_all (later_unsettled (length ways) (suc (length ways + j)) row.moment.ending past within);
        }

    abbrev now : List Way
    now = ended_ways ways row.moment.ending (length rows) row.line ++ sent_ways row.moment.sends.items (length rows) row.line

    each_now : IsEndingWithin (length ways) row.moment.ending → (k : ℕ) (way : Way) → slice_get now k ≡ Some way → IsWay later (suc k) way
    each_now within k way there =
        elim (get_split (ended_ways ways row.moment.ending (length rows) row.line) (sent_ways row.moment.sends.items (length rows) row.line) k way there) [
          | inl old ↦ old_way k way row.moment.ending refl within old
          | inr new ↦ (
              let sent = get_mapped (sent_way (length rows) row.line) row.moment.sends.items new.0 way new.2 in
              let place : length ways + new.0 ≡ k = ap (λ (n : ℕ). n + new.0) (sym (length-ended_ways ways row.moment.ending (length rows) row.line)) ∙ sym new.1 in
              subst (λ (n : ℕ). IsWay later (suc n) way) place
              (subst (λ (w : Way). IsWay later (suc (length ways + new.0)) w) (sym sent.2) (new_way new.0 sent.0 sent.1 within)))
        ]

    known_now : (all : ℕ) → length ways ≤ all → IsEndingWithin (length ways) row.moment.ending → (i : ℕ) (r : Row) → slice_get later i ≡ Some r → IsEndingWithin all r.moment.ending
    known_now all more within i r there =
        elim (get_split rows (row ∷ []) i r there) [
          | inl before ↦ within_more (length ways) all r.moment.ending more (are.known i r before)
          | inr last ↦ subst (λ (x : Row). IsEndingWithin all x.moment.ending) (sym (only_item row r last.0 last.2)) (within_more (length ways) all row.moment.ending more within)
        ]

    pub ways_now : length ways ≤ length now → IsEndingWithin (length ways) row.moment.ending → AreWays later now
    ways_now more within = record { each = each_now within; known = known_now (length now) more within }

-- ---- none upwards

down_more : (lines more : ℕ) (way : Way) → lines ≤ more → IsDown lines way → IsDown more way
down_more lines more way le down = record {
  begins = λ drawn. omega (arith, le, down.begins drawn);
  ends = λ arrival ended drawn. let at = down.ends arrival ended drawn in (at.0, omega (arith, le, at.1));
}

-- a way that ends in the next line, which the moment takes
down_ended : (lines more moment : ℕ) (e : Ending) (was : Way) → lines ≤ more → (was.sending.is_drawn ≡ true → lines < more) → IsDown lines was
    → IsDown more (ended_way (record { moment = moment; line = lines; end = e.end }) was)
down_ended lines more moment e was le next down = record {
  begins = λ drawn. omega (arith, le, down.begins drawn);
  ends = λ arrival ended drawn. at was.ended refl arrival (some_is ended) drawn;
}
  where
    fresh : Arrival
    fresh = record { moment = moment; line = lines; end = e.end }

    at : (o : Option Arrival) → was.ended ≡ o → (arrival : Arrival) → unwrap_or o fresh ≡ arrival → was.sending.is_drawn ≡ true → (was.line < arrival.line) × (arrival.line < more)
    at None is arrival same drawn =
        let line : lines ≡ arrival.line = ap (λ (a : Arrival). a.line) same in
        (omega (arith, line, down.begins drawn), omega (arith, line, next drawn))
    at (Some first) is arrival same drawn =
        let both = down.ends arrival (is ∙ ap Some same) drawn in
        (both.0, omega (arith, le, both.1))

any_at : (sends : List Sending) (j : ℕ) (sending : Sending) → slice_get sends j ≡ Some sending → sending.is_drawn ≡ true → list_any (λ s. s.is_drawn) sends ≡ true
any_at [] j sending there drawn = absurd (cc)
any_at (s ∷ rest) zero sending there drawn = ap (λ (x : Sending). x.is_drawn || list_any (λ y. y.is_drawn) rest) (some_is there) ∙ ap (λ (b : Bool). b || list_any (λ y. y.is_drawn) rest) drawn
any_at (s ∷ rest) (suc j) sending there drawn = ap (λ (b : Bool). s.is_drawn || b) (any_at rest j sending there drawn) ∙ or_true s.is_drawn
  where
    or_true : (b : Bool) → (b || true) ≡ true
    or_true true = refl
    or_true false = refl

module _ (lines more moment : ℕ) (ways : List Way) (sends : List Sending) (le : lines ≤ more) (down : AreDown lines ways) where
  old_down : (o : Option Ending) → (is_end_drawn ways o ≡ true → lines < more) → (k : ℕ) (way : Way) → slice_get (ended_ways ways o moment lines) k ≡ Some way → IsDown more way
  old_down None next k way there = down_more lines more way le (down k way there)
  old_down (Some e) next k way there =
      let arrival : Arrival = record { moment = moment; line = lines; end = e.end } in
      let was = was_way ways (e.message - 1) arrival k way there in
      elim was.2 [
        | inl other ↦ subst (λ (w : Way). IsDown more w) (sym other.1) (down_more lines more was.0 le (down k was.0 was.1))
        | inr same ↦ (
            let at_place : slice_get ways (e.message - 1) ≡ Some was.0 = ap (slice_get ways) (sym same.0) ∙ was.1 in
            subst (λ (w : Way). IsDown more w) (sym same.1)
            (down_ended lines more moment e was.0 le (λ drawn. next (ap is_way_drawn at_place ∙ drawn)) (down k was.0 was.1)))
      ]

  pub down_now : (o : Option Ending) → (is_end_drawn ways o ≡ true → lines < more) → (list_any (λ s. s.is_drawn) sends ≡ true → lines < more)
      → AreDown more (ended_ways ways o moment lines ++ sent_ways sends moment lines)
  down_now o ends_next sends_next k way there =
      elim (get_split (ended_ways ways o moment lines) (sent_ways sends moment lines) k way there) [
        | inl old ↦ old_down o ends_next k way old
        | inr new ↦ (
            let sent = get_mapped (sent_way moment lines) sends new.0 way new.2 in
            subst (λ (w : Way). IsDown more w) (sym sent.2)
            (record {
              begins = λ drawn. omega (arith, sends_next (any_at sends new.0 sent.0 sent.1 drawn));
              ends = λ arrival ended drawn. absurd (cc);
            }))
      ]

-- ---- how many, and whether one is drawn

pub length_now : (ways : List Way) (o : Option Ending) (sends : List Sending) (moment line : ℕ)
    → length (ended_ways ways o moment line ++ sent_ways sends moment line) ≡ length ways + length sends
length_now ways o sends moment line =
    length-append (ended_ways ways o moment line) (sent_ways sends moment line)
    ∙ ap (λ (n : ℕ). n + length (sent_ways sends moment line)) (length-ended_ways ways o moment line)
    ∙ ap (λ (n : ℕ). length ways + n) (length-map sends (sent_way moment line))

pub second_of : (a b c : Bool) → b ≡ true → (a || (b || c)) ≡ true
second_of true b c is = refl
second_of false true c is = refl
second_of false false c is = absurd (cc)

pub third_of : (a b c : Bool) → c ≡ true → (a || (b || c)) ≡ true
third_of true b c is = refl
third_of false true c is = refl
third_of false false true is = refl
third_of false false false is = absurd (cc)

-- the ways after both parts of a moment
pub ways_by : (old middle new : List Way) (o : Option Ending) (some all : List Sending) (place moment line : ℕ)
    → middle ≡ ended_ways old o place line → new ≡ middle ++ sent_ways some place line → some ≡ all → place ≡ moment
    → new ≡ ended_ways old o moment line ++ sent_ways all moment line
ways_by old middle new o some all place moment line ended sent same at =
    sent
    ∙ ap (λ (l : List Way). l ++ sent_ways some place line) ended
    ∙ ap (λ (s : List Sending). ended_ways old o place line ++ sent_ways s place line) same
    ∙ ap (λ (n : ℕ). ended_ways old o n line ++ sent_ways all n line) at
