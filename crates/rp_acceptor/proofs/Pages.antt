-- The places of pages, and what a new page or a written place makes of them.
use Rattle.std.proofs.Common.{◌≡◌, ◌≢◌, ℕ, zero, suc, ◌+◌, ◌/◌, ◌%◌, ◌<◌, Result, Ok, Err, OnErr, List, [], ◌∷◌, ◌++◌, length, set, refl, sym, ap, subst, ◌∙◌, inl, inr, arith}
use Rattle.std.proofs.lemmas.Bool.{cases_eq}
use Rattle.std.proofs.lemmas.List.{get_or-set_same, get_or-set_other, length-set}
use Rattle.rp_base.specs.declared.record.Rec.{Rec}
use Rattle.rp_base.specs.Sets.{Has}
use Rattle.rp_base.proofs.Members.{has_split}
use Rattle.rp_acceptor.specs.Slots.{Kept, nothing_kept, kept_in_page, page_at, kept_of, HasSlot, HasMore, KeepsRecords, ArePages}

-- a page with places is there
pub page_there : (pages : List (List Kept)) (n : ℕ) → 0 < length (page_at pages n) → n < length pages
page_there [] n some = absurd (omega (arith, some))
page_there (page ∷ pages) zero some = omega arith
page_there (page ∷ pages) (suc n) some = omega (arith, page_there pages n some)

-- one page written
written_page : (pages : List (List Kept)) (n m : ℕ) (page : List Kept) → n < length pages → m ≡ n → page_at (set pages n page) m ≡ page
written_page pages n m page within same = ap (page_at (set pages n page)) same ∙ get_or-set_same pages n page [] within

other_page : (pages : List (List Kept)) (n m : ℕ) (page : List Kept) → m ≢ n → page_at (set pages n page) m ≡ page_at pages m
other_page pages n m page other = get_or-set_other pages n m page [] other

-- one place written
pub written_slot : (pages : List (List Kept)) (index : ℕ) (page : List Kept) (slot : Kept) → HasSlot pages index → page ≡ page_at pages (index / 64)
    → kept_of (set pages (index / 64) (set page (index % 64) slot)) index ≡ slot
written_slot pages index page slot has is =
    let within : index / 64 < length pages = page_there pages (index / 64) (omega (arith, has)) in
    ap (λ (p : List Kept). kept_in_page p (index % 64)) (written_page pages (index / 64) (index / 64) (set page (index % 64) slot) within refl)
    ∙ get_or-set_same page (index % 64) slot nothing_kept (subst (λ (p : List Kept). index % 64 < length p) (sym is) has)

pub other_slot : (pages : List (List Kept)) (index : ℕ) (page : List Kept) (slot : Kept) (j : ℕ) → HasSlot pages index → page ≡ page_at pages (index / 64) → j ≢ index
    → kept_of (set pages (index / 64) (set page (index % 64) slot)) j ≡ kept_of pages j
other_slot pages index page slot j has is other =
    let within : index / 64 < length pages = page_there pages (index / 64) (omega (arith, has)) in
    elim (cases_eq (j / 64) (index / 64)) [
      | inl same ↦
          let apart : (j % 64) ≢ (index % 64) = λ e. other (omega (arith, same, e)) in
          ap (λ (p : List Kept). kept_in_page p (j % 64)) (written_page pages (index / 64) (j / 64) (set page (index % 64) slot) within same)
          ∙ get_or-set_other page (index % 64) (j % 64) slot nothing_kept apart
          ∙ ap (λ (p : List Kept). kept_in_page p (j % 64)) (is ∙ ap (page_at pages) (sym same))
      | inr differs ↦ ap (λ (p : List Kept). kept_in_page p (j % 64)) (other_page pages (index / 64) (j / 64) (set page (index % 64) slot) differs)
    ]

pub same_length : (pages : List (List Kept)) (index : ℕ) (page : List Kept) (slot : Kept) (n : ℕ) → HasSlot pages index → page ≡ page_at pages (index / 64)
    → length (page_at (set pages (index / 64) (set page (index % 64) slot)) n) ≡ length (page_at pages n)
same_length pages index page slot n has is =
    let within : index / 64 < length pages = page_there pages (index / 64) (omega (arith, has)) in
    elim (cases_eq n (index / 64)) [
      | inl same ↦ ap length (written_page pages (index / 64) n (set page (index % 64) slot) within same)
          ∙ length-set page (index % 64) slot ∙ ap length (is ∙ ap (page_at pages) (sym same))
      | inr differs ↦ ap length (other_page pages (index / 64) n (set page (index % 64) slot) differs)
    ]

-- nothing is kept at any index of no page
none_there : (page : List Kept) (offset : ℕ) → length page ≡ 0 → kept_in_page page offset ≡ nothing_kept
none_there [] offset none = refl
none_there (kept ∷ page) offset none = absurd (omega (arith, none))

-- a page that keeps nothing in place of an absent one
pub page_made : (before grown : List (List Kept)) (number : ℕ) (page : List Kept) → ((n : ℕ) → page_at grown n ≡ page_at before n) → number < length grown
    → length (page_at grown number) ≡ 0 → length page ≡ 64 → ((offset : ℕ) → kept_in_page page offset ≡ nothing_kept)
    → HasMore before (set grown number page)
page_made before grown number page same within absent long empty = record {
  same = λ index. elim (cases_eq (index / 64) number) [
    | inl here ↦
        ap (λ (p : List Kept). kept_in_page p (index % 64)) (written_page grown number (index / 64) page within here)
        ∙ empty (index % 64)
        ∙ sym (none_there (page_at before (index / 64)) (index % 64) (ap length (sym (same (index / 64)) ∙ ap (page_at grown) here) ∙ absent))
    | inr other ↦ ap (λ (p : List Kept). kept_in_page p (index % 64)) (other_page grown number (index / 64) page other ∙ same (index / 64))
  ];
  longer = λ n. elim (cases_eq n number) [
    | inl here ↦
        let now = ap length (written_page grown number n page within here) in
        let was = ap length (sym (same n) ∙ ap (page_at grown) here) in
        omega (arith, now, was, absent)
    | inr other ↦ let e = ap length (other_page grown number n page other ∙ same n) in omega (arith, e)
  ];
  whole = λ n. elim (cases_eq n number) [
    | inl here ↦ inr (ap length (written_page grown number n page within here) ∙ long)
    | inr other ↦ inl (ap length (other_page grown number n page other ∙ same n))
  ];
}

-- more pages keep what was kept
pub pages_still : (before after : List (List Kept)) (voted : List ℕ) (records : List Rec) → ArePages before voted records → HasMore before after → ArePages after voted records
pages_still before after voted records kept more = record {
  right = λ index. more.same index ∙ kept.right index;
  room = λ index h. let had = kept.room index h in let longer = more.longer (index / 64) in omega (arith, had, longer);
  whole = λ n. elim (more.whole n) [
    | inl same ↦ elim (kept.whole n) [ inl none ↦ inl (same ∙ none) | inr full ↦ inr (same ∙ full) ]
    | inr full ↦ inr full
  ];
}

-- and one position more, which has its place
pub pages_more : (before after : List (List Kept)) (voted : List ℕ) (records : List Rec) (k i : ℕ) → k + 1 ≡ i → ArePages before voted records → HasMore before after → HasSlot after k
    → ArePages after (voted ++ i ∷ []) records
pages_more before after voted records k i at kept more has =
    let still = pages_still before after voted records kept more in
    record {
      right = still.right;
      room = λ index h. elim (has_split (index + 1) voted (i ∷ []) h) [
        | inl old ↦ still.room index old
        | inr new ↦ elim new [
          | inl e ↦ let same : k ≡ index = omega (arith, e, at) in subst (λ (j : ℕ). HasSlot after j) same has
          | inr never ↦ absurd never
        ]
      ];
      whole = still.whole;
    }

-- no position of an absent page is reserved
pub not_reserved : (pages : List (List Kept)) (voted : List ℕ) (records : List Rec) (k i : ℕ) → k + 1 ≡ i → ArePages pages voted records → length (page_at pages (k / 64)) ≡ 0 → ¬ Has i voted
not_reserved pages voted records k i at kept none h =
    let had : HasSlot pages k = kept.room k (subst (λ (n : ℕ). Has n voted) (sym at) h) in
    omega (arith, had, none)

-- a record noted in pages of the same lengths
pub pages_noted : (before after : List (List Kept)) (voted : List ℕ) (records more : List Rec) → ArePages before voted records
    → ((n : ℕ) → length (page_at after n) ≡ length (page_at before n)) → KeepsRecords (kept_of after) more → ArePages after voted more
pages_noted before after voted records more kept same right = record {
  right = right;
  room = λ index h. let had = kept.room index h in let long = same (index / 64) in omega (arith, had, long);
  whole = λ n. elim (kept.whole n) [ inl none ↦ inl (same n ∙ none) | inr full ↦ inr (same n ∙ full) ];
}

-- what holds anyway holds after an error
pub on_err : {T E P : Type 0} (r : Result T E) → P → OnErr r P
on_err (Ok x) h = tt
on_err (Err e) h = h
