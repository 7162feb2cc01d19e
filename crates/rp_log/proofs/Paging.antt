-- Pages of 64 actions, against the list of all actions.
use Rattle.std.proofs.Common.{◌≡◌, ℕ, zero, suc, ◌+◌, ◌-◌, ◌*◌, ◌/◌, ◌%◌, ◌<◌, ◌≤◌, Bool, true, false, nat_lt, lt-ltb, ltb-true, Option, Some, None, List, [], ◌∷◌, ◌++◌, length, get_or, set, refl, sym, ap, ap₂, subst, ◌∙◌, arith, append_assoc, append-nil, length-append}
use Rattle.std.specs.Prelude.{is_some, IfSome, option_map, option_and_then, vec_len, vec_capacity}
use Rattle.std.specs.List.{slice_get}
use Rattle.std.proofs.lemmas.Bool.{cases_lt}
use Rattle.std.proofs.lemmas.Option.{slice_get_past, slice_get_read}
use Rattle.std.proofs.Math.Logic.{⊎_elim}
use Rattle.rp_base.specs.declared.action.Action.{Action}
use Rattle.rp_log.specs.Pages.{Page, joined, AreFilled}

nothing : (actions : List Action) → length actions ≡ 0 → actions ≡ []
nothing [] none = refl
nothing (action ∷ rest) none = absurd (omega arith)

-- how many actions there are
pub joined_length : (pages : List Page) (count : ℕ) → AreFilled pages count → length (joined pages) ≡ count
joined_length [] count filled = sym filled
joined_length (page ∷ rest) count filled =
    let more = joined_length rest (count - 64) filled.1 in
    let here = filled.0.1 in
    length-append page.items (joined rest) ∙ omega (arith, here, more)

-- a page that is not full is followed by none
last_page : (page : Page) (rest : List Page) (count : ℕ) → AreFilled (page ∷ rest) count → count ≤ 64 → joined (page ∷ rest) ≡ page.items
last_page page rest count filled few =
    let none : count - 64 ≡ 0 = omega arith in
    ap (λ l. page.items ++ l) (nothing (joined rest) (joined_length rest (count - 64) filled.1 ∙ none)) ∙ append-nil page.items

-- ---- an action is read

get_left : (xs ys : List Action) (k : ℕ) → k < length xs → slice_get (xs ++ ys) k ≡ slice_get xs k
get_left [] ys k within = absurd (omega arith)
get_left (x ∷ xs) ys zero within = refl
get_left (x ∷ xs) ys (suc k) within = get_left xs ys k (omega arith)

get_right : (xs ys : List Action) (k : ℕ) → slice_get (xs ++ ys) (length xs + k) ≡ slice_get ys k
get_right [] ys k =
    let none : 0 + k ≡ k = omega arith in
    ap (slice_get ys) none
get_right (x ∷ xs) ys k =
    let next : suc (length xs) + k ≡ suc (length xs + k) = omega arith in
    ap (slice_get (x ∷ (xs ++ ys))) next ∙ get_right xs ys k

-- what a slice lends at a place is its item
pub lent : {R X : Type 0} (now : R → X) (xs : List X) (i : ℕ) (found : Option R) → is_some found ≡ nat_lt i (length xs) → IfSome found (λ r. now r ≡ get_or xs i (now r)) → option_map now found ≡ slice_get xs i
lent now xs i None there read =
    let past : length xs ≤ i = ⊎_elim (λ (within : i < length xs). absurd (no (there ∙ lt-ltb i (length xs) within))) (λ (past : length xs ≤ i). past) (cases_lt i (length xs)) in
    sym (slice_get_past xs i past)
  where
    no : ◌≡◌ {A = Bool} false true → ⊥
    no e = absurd cc
lent now xs i (Some r) there read = sym (slice_get_read xs (length xs) i (now r) refl (ltb-true i (length xs) (sym there)) read)

-- a page and the place in it
abbrev pub in_page : Option Page → ℕ → Option Action
in_page page place = option_and_then (λ (it : Page). slice_get it.items place) page

get_first : (page : Page) (rest : List Page) (count place : ℕ) → AreFilled (page ∷ rest) count → place < 64 → slice_get (joined (page ∷ rest)) place ≡ slice_get page.items place
get_first page rest count place filled low = ⊎_elim
    (λ (full : 64 < count).
    let here = filled.0.1 in
    get_left page.items (joined rest) place (omega arith))
    (λ (few : count ≤ 64). ap (λ l. slice_get l place) (last_page page rest count filled few))
    (cases_lt 64 count)

get_later : (page : Page) (rest : List Page) (count k : ℕ) → AreFilled (page ∷ rest) count → slice_get (joined (page ∷ rest)) (64 + k) ≡ slice_get (joined rest) k
get_later page rest count k filled = ⊎_elim
    (λ (few : count < 64).
    let here = filled.0.1 in
    let after = joined_length rest (count - 64) filled.1 in
    let all = joined_length (page ∷ rest) count filled in
    slice_get_past (joined (page ∷ rest)) (64 + k) (omega arith) ∙ sym (slice_get_past (joined rest) k (omega arith)))
    (λ (full : 64 ≤ count).
    let here = filled.0.1 in
    let long : length page.items ≡ 64 = omega arith in
    ap (λ n. slice_get (joined (page ∷ rest)) (n + k)) (sym long) ∙ get_right page.items (joined rest) k)
    (cases_lt count 64)

pub page_get : (pages : List Page) (count place : ℕ) → AreFilled pages count → in_page (slice_get pages (place / 64)) (place % 64) ≡ slice_get (joined pages) place
page_get [] count place filled = refl
page_get (page ∷ rest) count place filled = ⊎_elim
    (λ (low : place < 64).
    let first : place / 64 ≡ 0 = omega arith in
    let same : place % 64 ≡ place = omega arith in
    ap (λ n. in_page (slice_get (page ∷ rest) n) (place % 64)) first ∙ ap (slice_get page.items) same ∙ sym (get_first page rest count place filled low))
    (λ (high : 64 ≤ place).
    let k = place - 64 in
    let later : place / 64 ≡ suc (k / 64) = omega arith in
    let same : place % 64 ≡ k % 64 = omega arith in
    let there : 64 + k ≡ place = omega arith in
    ap₂ (λ n m. in_page (slice_get (page ∷ rest) n) m) later same ∙ page_get rest (count - 64) k filled.1
    ∙ sym (get_later page rest count k filled) ∙ ap (slice_get (joined (page ∷ rest))) there)
    (cases_lt place 64)

-- ---- an action is put

-- the page of the next action has room
pub page_room : (pages : List Page) (count : ℕ) (other : Page) → AreFilled pages count → count < 64 * length pages → let page = get_or pages (count / 64) other in vec_len page < vec_capacity page
page_room [] count other filled room = absurd (omega arith)
page_room (page ∷ rest) count other filled room = ⊎_elim
    (λ (low : count < 64).
    let first : 0 ≡ count / 64 = omega arith in
    let long = page.ok.0 in
    let here = filled.0 in
    let this : vec_len page < vec_capacity page = omega arith in
    subst (λ n. vec_len (get_or (page ∷ rest) n other) < vec_capacity (get_or (page ∷ rest) n other)) first this)
    (λ (high : 64 ≤ count).
    let k = count - 64 in
    let later : suc (k / 64) ≡ count / 64 = omega arith in
    subst (λ n. vec_len (get_or (page ∷ rest) n other) < vec_capacity (get_or (page ∷ rest) n other)) later (page_room rest k other filled.1 (omega arith)))
    (cases_lt count 64)

-- its action is the last of all
pub page_put : (pages : List Page) (count : ℕ) (action : Action) (new other : Page) → AreFilled pages count → count < 64 * length pages
    → new.items ≡ (get_or pages (count / 64) other).items ++ action ∷ [] → vec_capacity new ≡ vec_capacity (get_or pages (count / 64) other)
    → AreFilled (set pages (count / 64) new) (count + 1) × (joined (set pages (count / 64) new) ≡ joined pages ++ action ∷ [])
page_put [] count action new other filled room items capacity = absurd (omega arith)
page_put (page ∷ rest) count action new other filled room items capacity = ⊎_elim
    (λ (low : count < 64).
    let first : count / 64 ≡ 0 = omega arith in
    let here = filled.0 in
    let put : new.items ≡ page.items ++ action ∷ [] = items ∙ ap (λ n. (get_or (page ∷ rest) n other).items ++ action ∷ []) first in
    let wide : vec_capacity new ≡ vec_capacity page = capacity ∙ ap (λ n. vec_capacity (get_or (page ∷ rest) n other)) first in
    let longer : length new.items ≡ length page.items + 1 = ap length put ∙ length-append page.items (action ∷ []) in
    let none : count - 64 ≡ count + 1 - 64 = omega arith in
    let after : joined rest ≡ [] = nothing (joined rest) (joined_length rest (count - 64) filled.1 ∙ omega arith) in
    let made : AreFilled (new ∷ rest) (count + 1) = ((omega arith, omega arith), subst (AreFilled rest) none filled.1) in
    let alike : joined (new ∷ rest) ≡ joined (page ∷ rest) ++ action ∷ [] =
    ap₂ (λ a b. a ++ b) put after ∙ append-nil (page.items ++ action ∷ []) ∙ ap (λ l. l ++ action ∷ []) (sym (last_page page rest count filled (omega arith))) in
    subst (λ n. AreFilled (set (page ∷ rest) n new) (count + 1) × (joined (set (page ∷ rest) n new) ≡ joined (page ∷ rest) ++ action ∷ [])) (sym first) (made, alike))
    (λ (high : 64 ≤ count).
    let k = count - 64 in
    let later : count / 64 ≡ suc (k / 64) = omega arith in
    let here = filled.0 in
    let put = items ∙ ap (λ n. (get_or (page ∷ rest) n other).items ++ action ∷ []) later in
    let wide = capacity ∙ ap (λ n. vec_capacity (get_or (page ∷ rest) n other)) later in
    let more = page_put rest k action new other filled.1 (omega arith) put wide in
    let next : k + 1 ≡ count + 1 - 64 = omega arith in
    let made : AreFilled (page ∷ set rest (k / 64) new) (count + 1) = ((here.0, omega arith), subst (AreFilled (set rest (k / 64) new)) next more.0) in
    let alike : joined (page ∷ set rest (k / 64) new) ≡ joined (page ∷ rest) ++ action ∷ [] =
    ap (λ l. page.items ++ l) more.1 ∙ sym (append_assoc page.items (joined rest) (action ∷ [])) in
    subst (λ n. AreFilled (set (page ∷ rest) n new) (count + 1) × (joined (set (page ∷ rest) n new) ≡ joined (page ∷ rest) ++ action ∷ [])) (sym later) (made, alike))
    (cases_lt count 64)

-- ---- a page is made

pub page_made : (pages : List Page) (count : ℕ) (page : Page) → AreFilled pages count → page.items ≡ [] → 64 ≤ vec_capacity page → AreFilled (pages ++ page ∷ []) count
page_made [] count page filled none wide =
    let empty : length page.items ≡ 0 = ap length none in
    ((wide, omega arith), omega arith)
page_made (first ∷ rest) count page filled none wide = (filled.0, page_made rest (count - 64) page filled.1 none wide)

pub joined_made : (pages : List Page) (page : Page) → page.items ≡ [] → joined (pages ++ page ∷ []) ≡ joined pages
joined_made [] page none = append-nil page.items ∙ none
joined_made (first ∷ rest) page none = ap (λ l. first.items ++ l) (joined_made rest page none)
