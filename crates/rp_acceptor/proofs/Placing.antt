-- The last votes at the positions of a range, by the places that hold them.
use Rattle.std.proofs.Common.{◌≡◌, ℕ, zero, suc, ◌+◌, ◌<◌, ◌≤◌, Option, Some, None, List, [], ◌∷◌, ◌++◌, length, get_or, drop, refl, sym, ap, ◌∙◌, arith, append_assoc, length-append}
use Rattle.std.specs.Prelude.{filter_map, option_to_list}
use Rattle.std.specs.List.{range_with_len, cons_option}
use Rattle.std.proofs.lemmas.List.{drop_more}
use Rattle.rp_base.specs.declared.record.Rec.{Rec}
use Rattle.rp_base.specs.declared.placed.PlacedVote.{PlacedVote}
use Rattle.rp_base.specs.PlacedVotes.{placed_last}
use Rattle.rp_acceptor.specs.Slots.{Kept, kept_in_page, kept_at, placed_if, votes_from}

-- places that hold what the records say, and nothing where they end
pub placed_there : (records : List Rec) (places : List Kept) (first n : ℕ) → length places ≤ n
    → ((k : ℕ) → k < n → kept_in_page places k ≡ kept_at records (first + k)) → votes_from first places ≡ filter_map (placed_last records) (range_with_len first n)
placed_there records [] first zero few right = refl
placed_there records (kept ∷ places) first zero few right = absurd (omega (arith, few))
placed_there records [] first (suc n) few right =
    placed_there records [] (first + 1) n (omega arith) (λ k within. right (suc k) (omega (arith, within)) ∙ ap (kept_at records) (omega arith))
    ∙ ap (λ (k : Kept). cons_option (placed_if first k.last) (filter_map (placed_last records) (range_with_len (first + 1) n)))
    (right 0 (omega arith) ∙ ap (kept_at records) (omega arith))
placed_there records (kept ∷ places) first (suc n) few right =
    ap (cons_option (placed_if first kept.last))
    (placed_there records places (first + 1) n (omega (arith, few)) (λ k within. right (suc k) (omega (arith, within)) ∙ ap (kept_at records) (omega arith)))
    ∙ ap (λ (k : Kept). cons_option (placed_if first k.last) (filter_map (placed_last records) (range_with_len (first + 1) n)))
    (right 0 (omega arith) ∙ ap (kept_at records) (omega arith))

one_then : (o : Option PlacedVote) (votes more : List PlacedVote) → cons_option o (votes ++ more) ≡ cons_option o votes ++ more
one_then None votes more = refl
one_then (Some placed) votes more = refl

-- those of positions in two parts
pub placed_parts : (records : List Rec) (first m n next k : ℕ) → m + n ≡ k → first + m ≡ next
    → filter_map (placed_last records) (range_with_len first m) ++ filter_map (placed_last records) (range_with_len next n) ≡ filter_map (placed_last records) (range_with_len first k)
placed_parts records first zero n next k all at =
    let same : n ≡ k = omega (arith, all) in
    let here : next ≡ first = omega (arith, at) in
    ap (λ (i : ℕ). filter_map (placed_last records) (range_with_len i n)) here ∙ ap (λ (j : ℕ). filter_map (placed_last records) (range_with_len first j)) same
placed_parts records first (suc m) n next zero all at = absurd (omega (arith, all))
placed_parts records first (suc m) n next (suc k) all at =
    sym (one_then (placed_last records first) (filter_map (placed_last records) (range_with_len (first + 1) m)) (filter_map (placed_last records) (range_with_len next n)))
    ∙ ap (cons_option (placed_last records first)) (placed_parts records (first + 1) m n next k (omega (arith, all)) (omega (arith, at)))

-- where a vote is left, there is one in all
pub one_left : (old votes all rest : List PlacedVote) (placed : PlacedVote) → votes ++ placed ∷ rest ≡ old ++ all → length old ≤ length votes → ¬ (all ≡ [])
one_left old votes all rest placed is more none =
    let long = ap length (is ∙ ap (λ (l : List PlacedVote). old ++ l) none) in
    omega (arith, long, more, length-append votes (placed ∷ rest), length-append old [])

in_front : (o : Option PlacedVote) (votes : List PlacedVote) → cons_option o votes ≡ option_to_list o ++ votes
in_front None votes = refl
in_front (Some placed) votes = refl

-- the vote at a place, if there is one, is added to those before it
pub one_place : (i offset : ℕ) (places : List Kept) (kept : Kept) (votes now all : List PlacedVote) → offset < length places → kept ≡ get_or places offset kept
    → now ≡ votes ++ option_to_list (placed_if (i + offset) kept.last)
    → votes ++ votes_from (i + offset) (drop offset places) ≡ all → now ++ votes_from (i + (offset + 1)) (drop (offset + 1) places) ≡ all
one_place i offset places kept votes now all within is added e =
    let rest = drop (offset + 1) places in
    let later = votes_from (i + (offset + 1)) rest in
    let next : i + (offset + 1) ≡ i + offset + 1 = omega arith in
    ap (λ (l : List PlacedVote). l ++ later) added
    ∙ append_assoc votes (option_to_list (placed_if (i + offset) kept.last)) later
    ∙ ap (λ (l : List PlacedVote). votes ++ l) (sym (in_front (placed_if (i + offset) kept.last) later))
    ∙ ap (λ (n : ℕ). votes ++ cons_option (placed_if (i + offset) kept.last) (votes_from n rest)) next
    ∙ ap (λ (k : Kept). votes ++ votes_from (i + offset) (k ∷ rest)) is
    ∙ ap (λ (l : List Kept). votes ++ votes_from (i + offset) l) (sym (drop_more places offset kept within))
    ∙ e
