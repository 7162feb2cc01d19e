-- Names, as they are looked up and added.
use Rattle.std.proofs.Common.{◌≡◌, ℕ, suc, ◌+◌, ◌<◌, ◌≤◌, ◌||◌, List, [], ◌∷◌, ◌++◌, Bool, true, false, cond, not, map, length, Option, Some, None, position, is_some, nat_lt, arith, ap, refl, sym, ◌∙◌}
use Rattle.std.specs.Prelude.{String, string_bytes, slice_get, option_map}
use Rattle.std.specs.List.{list_any, prefix_len}
use Rattle.std.specs.List.{find as first_such}
use Rattle.std.specs.Map.{keys_of, values_of, lookup}
use Rattle.std.specs.Str.{bytes_eq}
use Rattle.std.specs.String.{string_eq}
use Rattle.indexmap.specs.IndexMap.{insert_entry}
use Rattle.std.proofs.lemmas.Bool.{ltb-true, ltb-false, lt-ltb, le-ltb}
use Rattle.indexmap.specs.IndexSet.{insert_key}
use Rattle.rp_words.specs.Tables.{is_declared, place_of, value_at, find}
use Rattle.rp_words.specs.Words.{first_named}

-- ---- a name that is looked up is among the names

one_of_two : {X : Type 0} (t : Bool) (x : X) (rest : Option X) (more : Bool) → is_some rest ≡ more → is_some (cond t (Some x) rest) ≡ (t || more)
one_of_two true x rest more same = refl
one_of_two false x rest more same = same

pub found_is_declared : {Y X : Type 0} (name : List ℕ) (entries : List (String Y × X))
    → is_some (lookup (λ key. bytes_eq name (string_bytes key)) entries) ≡ is_declared name (map (λ key. string_bytes key) (keys_of entries))
found_is_declared name [] = refl
found_is_declared name (e ∷ es) =
    one_of_two (bytes_eq name (string_bytes e.0)) e.1 (lookup (λ key. bytes_eq name (string_bytes key)) es) _ (found_is_declared name es)

pub among_is_declared : {Y : Type 0} (name : List ℕ) (keys : List (String Y))
    → list_any (λ key. bytes_eq name (string_bytes key)) keys ≡ is_declared name (map (λ key. string_bytes key) keys)
among_is_declared name [] = refl
among_is_declared name (k ∷ ks) = ap (λ (more : Bool). bytes_eq name (string_bytes k) || more) (among_is_declared name ks)

-- ---- its place

pub same_len : {Y : Type 0} (keys : List (String Y)) → length (map (λ key. string_bytes key) keys) ≡ length keys
same_len [] = refl
same_len (k ∷ ks) = omega (arith, same_len ks)

same_prefix : {Y : Type 0} (name : List ℕ) (keys : List (String Y))
    → prefix_len (λ key. not (bytes_eq name (string_bytes key))) keys ≡ prefix_len (λ key. not (bytes_eq name key)) (map (λ key. string_bytes key) keys)
same_prefix name [] = refl
same_prefix name (k ∷ ks) = ap (λ n. cond (not (bytes_eq name (string_bytes k))) (1 + n) 0) (same_prefix name ks)

pub same_place : {Y : Type 0} (name : List ℕ) (keys : List (String Y))
    → position (λ key. bytes_eq name (string_bytes key)) keys ≡ place_of name (map (λ key. string_bytes key) keys)
same_place name keys = λ i. cond (nat_lt (same_prefix name keys i) (sym (same_len keys) i)) (Some (same_prefix name keys i)) None

-- ---- what it denotes

below_suc : (m l : ℕ) → nat_lt (1 + m) (suc l) ≡ nat_lt m l
below_suc m l = by (nat_lt m l) refl
  where
    by : (b : Bool) → nat_lt m l ≡ b → nat_lt (1 + m) (suc l) ≡ b
    by true h = let less : m < l = ltb-true m l h in lt-ltb (1 + m) (suc l) (omega arith)
    by false h = let more : l ≤ m = ltb-false m l h in le-ltb (1 + m) (suc l) (omega arith)

shifted : {Z : Type 0} (t : Bool) (m : ℕ) (v : Z) (vs : List Z) → value_at (v ∷ vs) (cond t (Some (1 + m)) None) ≡ value_at vs (cond t (Some m) None)
shifted true m v vs = let one : 1 + m ≡ suc m = omega arith in ap (λ k. slice_get (v ∷ vs) k) one
shifted false m v vs = refl

pub found_step : {Z : Type 0} (t : Bool) (m l : ℕ) (rest : Option Z) (v : Z) (vs : List Z) → value_at vs (cond (nat_lt m l) (Some m) None) ≡ rest
    → value_at (v ∷ vs) (cond (nat_lt (cond (not t) (1 + m) 0) (suc l)) (Some (cond (not t) (1 + m) 0)) None) ≡ cond t (Some v) rest
found_step true m l rest v vs so_far = ap (λ (b : Bool). value_at (v ∷ vs) (cond b (Some 0) None)) (lt-ltb 0 (suc l) (omega arith))
found_step false m l rest v vs so_far = ap (λ (b : Bool). value_at (v ∷ vs) (cond b (Some (1 + m)) None)) (below_suc m l) ∙ shifted (nat_lt m l) m v vs ∙ so_far

viewed_cond : {X Z : Type 0} (view : X → Z) (t : Bool) (x : X) (rest : Option X) → option_map view (cond t (Some x) rest) ≡ cond t (Some (view x)) (option_map view rest)
viewed_cond view true x rest = refl
viewed_cond view false x rest = refl

pub found_is : {Y X Z : Type 0} (view : X → Z) (name : List ℕ) (entries : List (String Y × X))
    → option_map view (lookup (λ key. bytes_eq name (string_bytes key)) entries) ≡ find name (map (λ key. string_bytes key) (keys_of entries)) (map view (values_of entries))
found_is view name [] = refl
found_is {Y} {X} {Z} view name (e ∷ es) =
    let names : List (List ℕ) = map (λ (key : String Y). string_bytes key) (keys_of es) in
    viewed_cond view (bytes_eq name (string_bytes e.0)) e.1 (lookup (λ key. bytes_eq name (string_bytes key)) es)
    ∙ sym (found_step (bytes_eq name (string_bytes e.0)) (prefix_len (λ (key : List ℕ). not (bytes_eq name key)) names) (length names)
    (option_map view (lookup (λ key. bytes_eq name (string_bytes key)) es)) (view e.1) (map view (values_of es)) (sym (found_is view name es)))

mapped_itself : {X : Type 0} (xs : List X) → map (λ x. x) xs ≡ xs
mapped_itself [] = refl
mapped_itself {X} (x ∷ xs) = ap (λ (l : List X). x ∷ l) (mapped_itself xs)

viewed_itself : {X : Type 0} (o : Option X) → option_map (λ x. x) o ≡ o
viewed_itself None = refl
viewed_itself (Some x) = refl

pub found_itself : {Y X : Type 0} (name : List ℕ) (entries : List (String Y × X))
    → lookup (λ key. bytes_eq name (string_bytes key)) entries ≡ find name (map (λ key. string_bytes key) (keys_of entries)) (values_of entries)
found_itself {Y} {X} name entries =
    sym (viewed_itself (lookup (λ key. bytes_eq name (string_bytes key)) entries)) ∙ found_is (λ (x : X). x) name entries
    ∙ ap (λ (l : List X). find name (map (λ key. string_bytes key) (keys_of entries)) l) (mapped_itself (values_of entries))

-- ---- the first row with a word

pub first_found : {R X : Type 0} (text : R → List ℕ) (value : R → X) (word : List ℕ) (rows : List R)
    → option_map value (first_such (λ row. bytes_eq word (text row)) rows) ≡ first_named (map (λ row. (text row, value row)) rows) word
first_found text value word [] = refl
first_found text value word (row ∷ rows) =
    viewed_cond value (bytes_eq word (text row)) row (first_such (λ r. bytes_eq word (text r)) rows)
    ∙ ap (λ rest. cond (bytes_eq word (text row)) (Some (value row)) rest) (first_found text value word rows)

-- ---- a name that is not there goes last

skipped : {X : Type 0} (t more : Bool) (x y z : X) → (t || more) ≡ false → y ≡ z → cond t x y ≡ z
skipped true more x y z none same = absurd cc
skipped false more x y z none same = same

or_false : (t more : Bool) → (t || more) ≡ false → more ≡ false
or_false true more none = absurd cc
or_false false more none = none

pub inserted_last : {Y X : Type 0} (key : String Y) (value : X) (entries : List (String Y × X))
    → is_declared (string_bytes key) (map (λ k. string_bytes k) (keys_of entries)) ≡ false → insert_entry string_eq entries key value ≡ entries ++ (key, value) ∷ []
inserted_last key value [] none = refl
inserted_last {Y} {X} key value (e ∷ es) none =
    skipped (string_eq key e.0) (is_declared (string_bytes key) (map (λ k. string_bytes k) (keys_of es))) ((e.0, value) ∷ es) _ _ none
    (ap (λ (l : List (String Y × X)). e ∷ l) (inserted_last key value es (or_false (string_eq key e.0) _ none)))

pub map_last : {A B : Type 0} (f : A → B) (xs : List A) (x : A) → map f (xs ++ x ∷ []) ≡ map f xs ++ f x ∷ []
map_last f [] x = refl
map_last {A} {B} f (y ∷ ys) x = ap (λ (l : List B). f y ∷ l) (map_last f ys x)

pub names_last : {Y X : Type 0} (old new : List (String Y × X)) (key : String Y) (value : X) (name : List ℕ) → new ≡ old ++ (key, value) ∷ [] → string_bytes key ≡ name
    → map (λ k. string_bytes k) (keys_of new) ≡ map (λ k. string_bytes k) (keys_of old) ++ name ∷ []
names_last {Y} {X} old new key value name is bytes =
    ap (λ (l : List (String Y × X)). map (λ (k : String Y). string_bytes k) (keys_of l)) is
    ∙ ap (λ (l : List (String Y)). map (λ (k : String Y). string_bytes k) l) (map_last (λ (e : String Y × X). e.0) old (key, value))
    ∙ map_last (λ (k : String Y). string_bytes k) (keys_of old) key ∙ ap (λ (n : List ℕ). map (λ (k : String Y). string_bytes k) (keys_of old) ++ n ∷ []) bytes

pub values_last : {Y X : Type 0} (old new : List (String Y × X)) (key : String Y) (value : X) → new ≡ old ++ (key, value) ∷ [] → values_of new ≡ values_of old ++ value ∷ []
values_last {Y} {X} old new key value is = ap (λ (l : List (String Y × X)). values_of l) is ∙ map_last (λ (e : String Y × X). e.1) old (key, value)

-- the same of a set
chosen_last : {A : Type 0} (t : Bool) (xs ys : List A) → t ≡ false → cond t xs ys ≡ ys
chosen_last true xs ys none = absurd cc
chosen_last false xs ys none = refl

pub key_inserted : {Y : Type 0} (key : String Y) (keys : List (String Y))
    → is_declared (string_bytes key) (map (λ k. string_bytes k) keys) ≡ false → insert_key string_eq keys key ≡ keys ++ key ∷ []
key_inserted key keys none = chosen_last (list_any (string_eq key) keys) keys (keys ++ key ∷ []) (among_is_declared (string_bytes key) keys ∙ none)

pub set_names_last : {Y : Type 0} (old new : List (String Y)) (key : String Y) (name : List ℕ) → new ≡ old ++ key ∷ [] → string_bytes key ≡ name
    → map (λ k. string_bytes k) new ≡ map (λ k. string_bytes k) old ++ name ∷ []
set_names_last {Y} old new key name is bytes =
    ap (λ (l : List (String Y)). map (λ (k : String Y). string_bytes k) l) is ∙ map_last (λ (k : String Y). string_bytes k) old key
    ∙ ap (λ (n : List ℕ). map (λ (k : String Y). string_bytes k) old ++ n ∷ []) bytes
