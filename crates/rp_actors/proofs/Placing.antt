-- A task and a node lie at the place before their number.
use Rattle.std.proofs.Common.{◌≡◌, ℕ, suc, ◌-◌, ◌<◌, ◌≤◌, Some, List, length, slice_get, slice_set, true, sym, ap, subst, ◌∙◌, arith}
use Rattle.std.specs.Prelude.{insert, remove, get_or, nat_lt}
use Rattle.std.proofs.lemmas.Bool.{ltb-true}
use Rattle.rp_actors.specs.Callers.{Caller}
use Rattle.rp_actors.proofs.Lists.{here_of, put_back}

-- one of a list, and its number: it lies at the place before it
pub record Found {A : Type 0} (xs : List A) : Type 0 where
  pub place : ℕ
  pub me : ℕ
  pub it : A
  pub placed : suc place ≡ me
  pub here : slice_get xs place ≡ Some it

-- the number of a node or of a task was read so
abbrev pub Reads : ℕ → ℕ → ℕ → Type 0
Reads most got me = record { value : got ≡ me; in_range : (1 ≤ me) × (me ≤ most) }

-- its place
pub placed_at : {most me got from : ℕ} → Reads most got me → from ≡ got → suc (from - 1) ≡ me
placed_at get is = omega (arith, get.value, get.in_range.0)

pub at_within : {A : Type 0} (xs : List A) (i n : ℕ) (x : A) → n ≡ length xs → i < n → x ≡ get_or xs i x → slice_get xs i ≡ Some x
at_within xs i n x size within there = here_of xs i x (omega (arith, size, within)) there

-- what was found there, in a list of n
abbrev pub found_at : {A : Type 0} (xs : List A) {most me got from n : ℕ} (x : A) → Reads most got me → from ≡ got → n ≡ length xs → from - 1 < n → x ≡ get_or xs (from - 1) x → Found xs
found_at xs {me = me} {from = from} {n = n} x get is size within there =
    record { place = from - 1; me = me; it = x; placed = placed_at get is; here = at_within xs (from - 1) n x size within there }

-- and in a list that was lent
pub lent_at : {A : Type 0} (xs lent : List A) (i : ℕ) (x : A) → lent ≡ xs → true ≡ nat_lt i (length lent) → x ≡ get_or lent i x → slice_get xs i ≡ Some x
lent_at {A = A} xs lent i x same within there =
    subst (λ (l : List A). slice_get l i ≡ Some x) same (here_of lent i x (ltb-true i (length lent) (sym within)) there)

abbrev pub found_in : {A : Type 0} {xs lent : List A} {most me got from : ℕ} (x : A) → lent ≡ xs → Reads most got me → from ≡ got → true ≡ nat_lt (from - 1) (length lent) → x ≡ get_or lent (from - 1) x → Found xs
found_in {xs = xs} {lent = lent} {me = me} {from = from} x same get is within there =
    record { place = from - 1; me = me; it = x; placed = placed_at get is; here = lent_at xs lent (from - 1) x same within there }

-- one of the eight tasks
pub among_eight : {me got from : ℕ} → Reads 8 got me → from ≡ got → from - 1 < 8
among_eight get is = omega (arith, get.value, get.in_range.0, get.in_range.1)

abbrev pub found_task : (tasks : List Caller) {me got from : ℕ} (t : Caller) → length tasks ≡ 8 → Reads 8 got me → from ≡ got → t ≡ get_or tasks (from - 1) t → Found tasks
found_task tasks t eight get is there = found_at tasks t get is (sym eight) (among_eight get is) there

-- one that was taken from its place, and put back there changed
pub record Changed {A : Type 0} (xs : List A) : Type 0 where
  pub at : Found xs
  pub new : A
  pub after : List A
  pub put : after ≡ slice_set xs at.place new

pub put_at : {A : Type 0} (xs rest after : List A) (i : ℕ) (new : A) → i < length xs → rest ≡ remove xs i → after ≡ insert rest i new → after ≡ slice_set xs i new
put_at {A = A} xs rest after i new within taken back = back ∙ ap (λ (l : List A). insert l i new) taken ∙ put_back xs i new within

abbrev pub changed : {A : Type 0} (xs : List A) {rest after : List A} {most me got from : ℕ} (x new : A) → Reads most got me → from ≡ got → from - 1 < length xs → x ≡ get_or xs (from - 1) x
    → rest ≡ remove xs (from - 1) → after ≡ insert rest (from - 1) new → Changed xs
changed xs {rest = rest} {after = after} {me = me} {from = from} x new get is within there taken back = record {
  at = record { place = from - 1; me = me; it = x; placed = placed_at get is; here = here_of xs (from - 1) x within there };
  new = new;
  after = after;
  put = put_at xs rest after (from - 1) new within taken back;
}
