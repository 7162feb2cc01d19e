-- Texts by the numbers of their lines.
use Rattle.std.specs.Prelude.{Vec}
use Rattle.std.specs.declared.alloc.Global.{Global}
use Rattle.std.proofs.Common.{◌≡◌, ◌≢◌, ℕ, zero, suc, ◌+◌, ◌<◌, ◌≤◌, Bool, true, false, nat_eq, Option, Some, None, List, [], ◌∷◌, ◌++◌, length, get_or, arith, map, position, unwrap_or, slice_get, if◌then◌else◌, inl, inr, refl, sym, ap, subst, ◌∙◌, append-nil, append_assoc, take, drop, ◌-◌, eq-eqb, true≢false}
use Rattle.std.specs.List.{IsDistinct, AllByRecursion}
use Rattle.std.specs.Option.{option_map}
use Rattle.std.specs.Cmp.Lexicographic.{pointwise, bytes_decides}
use Rattle.std.proofs.lemmas.List.{map-append, drop_more, drop_all, take_more, get_or-drop, length-drop}
use Rattle.std.proofs.lemmas.Bool.{ne_eqb}
use Rattle.std.proofs.lemmas.List.Quantifiers.{position-Some}
use Rattle.std.proofs.lemmas.Option.{slice_get-map, slice_get-get_or}
use Rattle.rp_base.specs.Sets.{Has, IsSet}
use Rattle.rp_explore.specs.Pieces.{lines_from, lines_of, AreNumbers, AreMore}

abbrev pub items : Vec ℕ Global → List ℕ
items v = v.items

-- ---- lines that are known

-- the line that a table finds is that of its number
pub known_at : (line : List ℕ) (keys : List (Vec ℕ Global)) (k : ℕ) → position (λ v. pointwise nat_eq line v.items) keys ≡ Some k → slice_get (map items keys) k ≡ Some line
known_at line [] k found = let met : None ≡ Some k = found in absurd (cc)
known_at line (x ∷ xs) k found =
    let at = position-Some (λ (v : Vec ℕ Global). pointwise nat_eq line v.items) (x ∷ xs) k x found in
    slice_get-map items (x ∷ xs) k ∙ ap (option_map items) (slice_get-get_or (x ∷ xs) k x at.0)
    ∙ ap Some (sym ((bytes_decides line (items (get_or (x ∷ xs) k x))).0 at.1))

more_none : (xs : List (List ℕ)) → AreMore xs xs
more_none xs = ([], sym (append-nil xs))

pub more_self : (xs ys : List (List ℕ)) → ys ≡ xs → AreMore xs ys
more_self xs ys same = ([], same ∙ sym (append-nil xs))

pub more_join : (xs ys zs : List (List ℕ)) → AreMore xs ys → AreMore ys zs → AreMore xs zs
more_join xs ys zs one other = (one.0 ++ other.0, other.1 ∙ ap (λ (ks : List (List ℕ)). ks ++ other.0) one.1 ∙ append_assoc xs one.0 other.0)

-- a line more at most
pub more_one : (test : Bool) (old new : List (Vec ℕ Global)) (own : Vec ℕ Global) → new ≡ (if test then old else old ++ own ∷ []) → AreMore (map items old) (map items new)
more_one true old new own is = more_self (map items old) (map items new) (ap (map items) is)
more_one false old new own is = (items own ∷ [], ap (map items) is ∙ map-append items old (own ∷ []))

at_end : (xs : List (List ℕ)) (x : List ℕ) → slice_get (xs ++ x ∷ []) (length xs) ≡ Some x
at_end [] x = refl
at_end (y ∷ ys) x = at_end ys x

pub added_at : (test : Bool) (old new : List (Vec ℕ Global)) (own : Vec ℕ Global) (line : List ℕ) (n : ℕ) → new ≡ (if test then old else old ++ own ∷ []) → test ≡ false → items own ≡ line → n ≡ length (map items old)
    → slice_get (map items new) n ≡ Some line
added_at test old new own line n is none same at =
    let all : map items new ≡ map items old ++ items own ∷ [] = ap (map items) (is ∙ ap (λ (b : Bool). if b then old else old ++ own ∷ []) none) ∙ map-append items old (own ∷ []) in
    ap (λ (xs : List (List ℕ)). slice_get xs n) all ∙ ap (λ (k : ℕ). slice_get (map items old ++ items own ∷ []) k) at ∙ at_end (map items old) (items own) ∙ ap Some same

-- lines of which no two are equal are a set
set_apart : (x : Vec ℕ Global) (xs : List (Vec ℕ Global)) → AllByRecursion (λ (y : Vec ℕ Global). pointwise nat_eq x.items y.items ≡ false) xs → ¬ Has (items x) (map items xs)
set_apart x [] all h = h
set_apart x (y ∷ ys) all h = elim h [
  | inl same ↦ true≢false (sym ((bytes_decides (items x) (items y)).1 same) ∙ all.0)
  | inr rest ↦ set_apart x ys all.1 rest
]

pub lines_set : (xs : List (Vec ℕ Global)) → IsDistinct (λ (x y : Vec ℕ Global). pointwise nat_eq x.items y.items) xs → IsSet (map items xs)
unfolding IsDistinct
lines_set [] distinct = tt
lines_set (x ∷ xs) distinct = (set_apart x xs distinct.0, lines_set xs distinct.1)

-- ---- lists of numbers

some_same : (a b : List ℕ) → Some a ≡ Some b → a ≡ b
some_same a b e = ap (λ (o : Option (List ℕ)). unwrap_or o a) e

get_more : (xs more : List (List ℕ)) (k : ℕ) (x : List ℕ) → slice_get xs k ≡ Some x → slice_get (xs ++ more) k ≡ Some x
get_more [] more k x e = let met : None ≡ Some x = e in absurd (cc)
get_more (y ∷ ys) more zero x e = e
get_more (y ∷ ys) more (suc k) x e = get_more ys more k x e

pub get_later : (xs ys : List (List ℕ)) (k : ℕ) (x : List ℕ) → AreMore xs ys → slice_get xs k ≡ Some x → slice_get ys k ≡ Some x
get_later xs ys k x more e = ap (λ (zs : List (List ℕ)). slice_get zs k) more.1 ∙ get_more xs more.0 k x e

pub numbers_later : (xs ys : List (List ℕ)) (numbers : List ℕ) (lines : List (List ℕ)) → AreMore xs ys → AreNumbers xs numbers lines → AreNumbers ys numbers lines
numbers_later xs ys [] [] more all = tt
numbers_later xs ys [] (line ∷ lines) more all = absurd all
numbers_later xs ys (n ∷ ns) [] more all = absurd all
numbers_later xs ys (n ∷ ns) (line ∷ lines) more all = (get_later xs ys n line more all.0, numbers_later xs ys ns lines more all.1)

pub numbers_push : (known : List (List ℕ)) (numbers : List ℕ) (lines : List (List ℕ)) (n : ℕ) (line : List ℕ) → AreNumbers known numbers lines → slice_get known n ≡ Some line → AreNumbers known (numbers ++ n ∷ []) (lines ++ line ∷ [])
numbers_push known [] [] n line all own = (own, tt)
numbers_push known [] (x ∷ xs) n line all own = absurd all
numbers_push known (m ∷ ms) [] n line all own = absurd all
numbers_push known (m ∷ ms) (x ∷ xs) n line all own = (all.0, numbers_push known ms xs n line all.1 own)

-- equal numbers are those of equal lines
pub lines_same : (known : List (List ℕ)) (numbers : List ℕ) (one other : List (List ℕ)) → AreNumbers known numbers one → AreNumbers known numbers other → one ≡ other
lines_same known [] [] [] a b = refl
lines_same known [] (x ∷ xs) other a b = absurd a
lines_same known [] [] (y ∷ ys) a b = absurd b
lines_same known (n ∷ ns) [] other a b = absurd a
lines_same known (n ∷ ns) (x ∷ xs) [] a b = absurd b
lines_same known (n ∷ ns) (x ∷ xs) (y ∷ ys) a b =
    let first : x ≡ y = some_same x y (sym a.0 ∙ b.0) in
    let rest = lines_same known ns xs ys a.1 b.1 in
    λ i. first i ∷ rest i

has_get : (known : List (List ℕ)) (k : ℕ) (x : List ℕ) → slice_get known k ≡ Some x → Has x known
has_get [] k x e = let met : None ≡ Some x = e in absurd (cc)
has_get (y ∷ ys) zero x e = inl (sym (some_same y x e))
has_get (y ∷ ys) (suc k) x e = inr (has_get ys k x e)

-- a line of a set has one number
one_number : (known : List (List ℕ)) (j k : ℕ) (x : List ℕ) → IsSet known → slice_get known j ≡ Some x → slice_get known k ≡ Some x → j ≡ k
one_number [] j k x set a b = let met : None ≡ Some x = a in absurd (cc)
one_number (y ∷ ys) zero zero x set a b = refl
one_number (y ∷ ys) zero (suc k) x set a b = absurd (set.0 (subst (λ (z : List ℕ). Has z ys) (sym (some_same y x a)) (has_get ys k x b)))
one_number (y ∷ ys) (suc j) zero x set a b = absurd (set.0 (subst (λ (z : List ℕ). Has z ys) (sym (some_same y x b)) (has_get ys j x a)))
one_number (y ∷ ys) (suc j) (suc k) x set a b = let e = one_number ys j k x set.1 a b in ap suc e

-- and so equal lines have equal numbers
pub numbers_same : (known : List (List ℕ)) (one other : List ℕ) (lines : List (List ℕ)) → IsSet known → AreNumbers known one lines → AreNumbers known other lines → one ≡ other
numbers_same known [] [] [] set a b = refl
numbers_same known [] other (x ∷ xs) set a b = absurd a
numbers_same known (n ∷ ns) other [] set a b = absurd a
numbers_same known [] (m ∷ ms) [] set a b = absurd b
numbers_same known (n ∷ ns) [] (x ∷ xs) set a b = absurd b
numbers_same known (n ∷ ns) (m ∷ ms) (x ∷ xs) set a b =
    let first : n ≡ m = one_number known n m x set a.0 b.0 in
    let rest = numbers_same known ns ms xs set a.1 b.1 in
    λ i. first i ∷ rest i

-- ---- the lines of a text

-- lines one after another
abbrev joined : List (List ℕ) → List ℕ
joined [] = []
joined (line ∷ rest) = line ++ joined rest

joined_from : (start text : List ℕ) → joined (lines_from start text) ≡ start ++ text
joined_from start [] = refl
joined_from start (byte ∷ rest) = by (nat_eq byte 10) (joined_from [] rest) (joined_from (start ++ byte ∷ []) rest)
  where
    by : (b : Bool) → joined (lines_from [] rest) ≡ rest → joined (lines_from (start ++ byte ∷ []) rest) ≡ (start ++ byte ∷ []) ++ rest
        → joined (if b then (start ++ byte ∷ []) ∷ lines_from [] rest else lines_from (start ++ byte ∷ []) rest) ≡ start ++ byte ∷ rest
    by true own later = ap (λ (xs : List ℕ). (start ++ byte ∷ []) ++ xs) own ∙ append_assoc start (byte ∷ []) rest
    by false own later = later ∙ append_assoc start (byte ∷ []) rest

-- texts with equal lines are equal
pub texts_same : (one other : List ℕ) → lines_of one ≡ lines_of other → one ≡ other
texts_same one other same = sym (joined_from [] one) ∙ ap joined same ∙ joined_from [] other

-- a part of a text and the byte after it
pub piece_more : (text : List ℕ) (start i : ℕ) → start ≤ i → i < length text → take (i + 1 - start) (drop start text) ≡ take (i - start) (drop start text) ++ get_or text i 0 ∷ []
piece_more text start i began lt =
    let one : i + 1 - start ≡ i - start + 1 = omega arith in
    let there : start + (i - start) ≡ i = omega arith in
    let below : i - start < length text - start = omega arith in
    ap (λ (k : ℕ). take k (drop start text)) one
    ∙ take_more (drop start text) (i - start) 0 (subst (λ (k : ℕ). i - start < k) (sym (length-drop start text)) below)
    ∙ ap (λ (byte : ℕ). take (i - start) (drop start text) ++ byte ∷ []) (get_or-drop start text (i - start) 0 ∙ ap (λ (k : ℕ). get_or text k 0) there)

-- the first bytes of a text were gone over: the lines so far have their numbers, and the text goes on
pub record IsNumbered (first known : List (List ℕ)) (numbers line : List ℕ) (i : ℕ) (text : List ℕ) : Type 0 where
  pub more : AreMore first known
  pub lines : List (List ℕ)
  pub numbered : AreNumbers known numbers lines
  pub rest : lines ++ lines_from line (drop i text) ≡ lines_of text

pub none_numbered : (known : List (List ℕ)) (numbers line text : List ℕ) → numbers ≡ [] → line ≡ [] → IsNumbered known known numbers line 0 text
none_numbered known numbers line text no_numbers no_line = record {
  more = more_none known;
  lines = [];
  numbered = subst (λ (ns : List ℕ). AreNumbers known ns []) (sym no_numbers) tt;
  rest = ap (λ (xs : List ℕ). lines_from xs text) no_line;
}

pub next_byte : (first known : List (List ℕ)) (numbers line longer : List ℕ) (i : ℕ) (text : List ℕ) → IsNumbered first known numbers line i text → i < length text → get_or text i 0 ≢ 10 → longer ≡ line ++ get_or text i 0 ∷ []
    → IsNumbered first known numbers longer (i + 1) text
next_byte first known numbers line longer i text before lt other is =
    let byte = get_or text i 0 in
    let rest = drop (i + 1) text in
    record {
      more = before.more;
      lines = before.lines;
      numbered = before.numbered;
      rest =
          ap (λ (xs : List ℕ). before.lines ++ lines_from xs rest) is
          ∙ ap (λ (b : Bool). before.lines ++ (if b then (line ++ byte ∷ []) ∷ lines_from [] rest else lines_from (line ++ byte ∷ []) rest)) (sym (ne_eqb byte 10 other))
          ∙ ap (λ (xs : List ℕ). before.lines ++ lines_from line xs) (sym (drop_more text i 0 lt))
          ∙ before.rest;
    }

pub next_line : (first known new : List (List ℕ)) (numbers more_numbers line whole empty : List ℕ) (i n : ℕ) (text : List ℕ) → IsNumbered first known numbers line i text → i < length text → get_or text i 0 ≡ 10 → whole ≡ line ++ get_or text i 0 ∷ []
    → AreMore known new → slice_get new n ≡ Some whole → more_numbers ≡ numbers ++ n ∷ [] → empty ≡ []
    → IsNumbered first new more_numbers empty (i + 1) text
next_line first known new numbers more_numbers line whole empty i n text before lt same is grows there numbers_are none =
    let byte = get_or text i 0 in
    let rest = drop (i + 1) text in
    record {
      more = more_join first known new before.more grows;
      lines = before.lines ++ whole ∷ [];
      numbered = subst (λ (ns : List ℕ). AreNumbers new ns (before.lines ++ whole ∷ [])) (sym numbers_are) (numbers_push new numbers before.lines n whole (numbers_later known new numbers before.lines grows before.numbered) there);
      rest =
          append_assoc before.lines (whole ∷ []) (lines_from empty rest)
          ∙ ap (λ (xs : List ℕ). before.lines ++ whole ∷ lines_from xs rest) none
          ∙ ap (λ (xs : List ℕ). before.lines ++ xs ∷ lines_from [] rest) is
          ∙ ap (λ (b : Bool). before.lines ++ (if b then (line ++ byte ∷ []) ∷ lines_from [] rest else lines_from (line ++ byte ∷ []) rest)) (sym (eq-eqb byte 10 same))
          ∙ ap (λ (xs : List ℕ). before.lines ++ lines_from line xs) (sym (drop_more text i 0 lt))
          ∙ before.rest;
    }

pub last_line : (first known new : List (List ℕ)) (numbers more_numbers line : List ℕ) (i n : ℕ) (text : List ℕ) → IsNumbered first known numbers line i text → length text ≤ i
    → AreMore known new → slice_get new n ≡ Some line → more_numbers ≡ numbers ++ n ∷ [] → AreNumbers new more_numbers (lines_of text)
last_line first known new numbers more_numbers line i n text before end grows there numbers_are =
    let whole : before.lines ++ line ∷ [] ≡ lines_of text = ap (λ (xs : List ℕ). before.lines ++ lines_from line xs) (sym (drop_all i text end)) ∙ before.rest in
    subst (λ (ls : List (List ℕ)). AreNumbers new more_numbers ls) whole
    (subst (λ (ns : List ℕ). AreNumbers new ns (before.lines ++ line ∷ [])) (sym numbers_are) (numbers_push new numbers before.lines n line (numbers_later known new numbers before.lines grows before.numbered) there))
