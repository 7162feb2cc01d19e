-- Packets that are held, one more or one fewer.
use Rattle.std.proofs.Common.{◌≡◌, ℕ, zero, suc, ◌+◌, ◌-◌, ◌%◌, ◌<◌, ◌≤◌, min, List, [], ◌∷◌, ◌++◌, map, take, length, refl, ap, ◌∙◌, append_assoc, append-nil, arith}
use Rattle.std.specs.Prelude.{remove}
use Rattle.std.proofs.lemmas.List.{length-append, length-take, take-append-le, take_all}
use Rattle.rp_tasks.specs.Line.{Line, accepted, copies_of, saturating_sum}

-- what is removed from a list is removed from its texts
pub map-remove : {A B : Type 0} → (f : A → B) (i : ℕ) (xs : List A) → map f (remove xs i) ≡ remove (map f xs) i
map-remove f zero [] = refl
map-remove f zero (x ∷ xs) = refl
map-remove f (suc i) [] = refl
map-remove f (suc i) (x ∷ xs) = ap (λ ys. f x ∷ ys) (map-remove f i xs)

-- a list that is full stays as it is
take-full : {A : Type 0} → (n : ℕ) (xs ys : List A) → n ≤ length xs → length xs ≤ n → take n (xs ++ ys) ≡ xs
take-full n xs ys full within = take-append-le n xs ys full ∙ take_all n xs within

-- what finds no place at once finds none later
take-append : {A : Type 0} → (n : ℕ) (xs ys : List A) → take n (take n xs ++ ys) ≡ take n (xs ++ ys)
take-append zero xs ys = refl
take-append (suc n) [] ys = refl
take-append (suc n) (x ∷ xs) ys = ap (λ zs. x ∷ zs) (take-append n xs ys)

-- two packets, one after the other
take-twice : {A : Type 0} → (n : ℕ) (xs : List A) (y z : A) → take n (take n (xs ++ y ∷ []) ++ z ∷ []) ≡ take n (xs ++ y ∷ z ∷ [])
take-twice n xs y z = take-append n (xs ++ y ∷ []) (z ∷ []) ∙ ap (take n) (append_assoc xs (y ∷ []) (z ∷ []))

-- what is counted in two steps is counted in one
sum_of_sum : (n a b c : ℕ) → a + b ≡ c → saturating_sum (saturating_sum n a) b ≡ saturating_sum n c
sum_of_sum n a b c both = omega (arith, both)

-- a word that asks for no copy loses one
pub none_accepted : (word : ℕ) (packet : List ℕ) (line : Line) → word % 16 < 2 → length line.held ≤ 16
    → record line { lost = saturating_sum line.lost 1 } ≡ accepted word packet line
none_accepted word packet line small within =
    let none : copies_of word ≡ 0 = grind arith in
    let kept : take 16 (line.held ++ []) ≡ line.held = ap (take 16) (append-nil line.held) ∙ take_all 16 line.held within in
    rw (none, kept) refl

-- how many of two copies find no place, one after the other
two_lost : (held : List (List ℕ)) (packet : List ℕ) → length held ≤ 16 → (length held + 1 - 16) + (length (take 16 (held ++ packet ∷ [])) + 1 - 16) ≡ length held + 2 - 16
two_lost held packet within =
    let long : length (take 16 (held ++ packet ∷ [])) ≡ min 16 (length (held ++ packet ∷ [])) = length-take 16 (held ++ packet ∷ []) in
    let more : length (held ++ packet ∷ []) ≡ length held + 1 = length-append held (packet ∷ []) in
    omega (arith, long, more, within)

-- a word that asks for two copies adds one after the other
pub two_accepted : (word : ℕ) (packet : List ℕ) (line : Line) → 2 ≤ word % 16 → word % 16 < 4 → length line.held ≤ 16
    → record line {
      held = take 16 (take 16 (line.held ++ packet ∷ []) ++ packet ∷ []);
      lost = saturating_sum (saturating_sum line.lost (length line.held + 1 - 16)) (length (take 16 (line.held ++ packet ∷ [])) + 1 - 16);
    } ≡ accepted word packet line
two_accepted word packet line low high within =
    let two : copies_of word ≡ 2 = grind arith in
    let lost = sum_of_sum line.lost (length line.held + 1 - 16) (length (take 16 (line.held ++ packet ∷ [])) + 1 - 16) (length line.held + 2 - 16) (two_lost line.held packet within) in
    rw (two, take-twice 16 line.held packet packet, lost) refl

-- a line that is full loses the packet
pub none_added : (packet : List ℕ) (line : Line) → 16 ≤ length line.held → length line.held ≤ 16
    → record line { lost = saturating_sum line.lost 1 } ≡ record line { held = take 16 (line.held ++ packet ∷ []); lost = saturating_sum line.lost (length line.held + 1 - 16) }
none_added packet line full within =
    let one : length line.held + 1 - 16 ≡ 1 = omega (arith, full, within) in
    rw (take-full 16 line.held (packet ∷ []) full within, one) refl
