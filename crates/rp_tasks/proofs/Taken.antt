-- What a line holds and gives on, it took.
use Rattle.std.proofs.Common.{◌≡◌, ℕ, zero, suc, ◌%◌, ◌⊎◌, Some, List, [], ◌∷◌, ◌++◌, take, drop, length, inl, inr}
use Rattle.std.specs.Prelude.{replicate, slice_get}
use Rattle.rp_base.specs.Sets.{Has}
use Rattle.rp_tasks.specs.Line.{Line, accepted, picked, released, copies_of}

Has-append : {A : Type 0} (x : A) (xs ys : List A) → Has x (xs ++ ys) → Has x xs ⊎ Has x ys
Has-append x [] ys h = inr h
Has-append x (y ∷ xs) ys h =
    elim h [ inl same ↦ inl (inl same) | inr later ↦ elim (Has-append x xs ys later) [ inl left ↦ inl (inr left) | inr right ↦ inr right ] ]

Has-take : {A : Type 0} (x : A) (n : ℕ) (xs : List A) → Has x (take n xs) → Has x xs
Has-take x zero xs h = absurd h
Has-take x (suc n) [] h = absurd h
Has-take x (suc n) (y ∷ xs) h = elim h [ inl same ↦ inl same | inr later ↦ inr (Has-take x n xs later) ]

Has-drop : {A : Type 0} (x : A) (n : ℕ) (xs : List A) → Has x (drop n xs) → Has x xs
Has-drop x zero xs h = h
Has-drop x (suc n) [] h = absurd h
Has-drop x (suc n) (y ∷ xs) h = inr (Has-drop x n xs h)

Has-replicate : {A : Type 0} (x : A) (n : ℕ) (y : A) → Has x (replicate n y) → x ≡ y
Has-replicate x zero y h = absurd h
Has-replicate x (suc n) y h = elim h [ inl same ↦ same | inr later ↦ Has-replicate x n y later ]

Has-slice_get : {A : Type 0} (x : A) (i : ℕ) (xs : List A) → slice_get xs i ≡ Some x → Has x xs
Has-slice_get x i [] e = absurd (cc)
Has-slice_get x zero (y ∷ xs) e = let same : x ≡ y = cc in inl same
Has-slice_get x (suc i) (y ∷ xs) e = inr (Has-slice_get x i xs e)

pub accepted_took : (word : ℕ) (packet text : List ℕ) (line : Line) → Has text (accepted word packet line).held → (text ≡ packet) ⊎ Has text line.held
accepted_took word packet text line h =
    elim (Has-append text line.held (replicate (copies_of word) packet) (Has-take text 16 (line.held ++ replicate (copies_of word) packet) h)) [
      | inl before ↦ inr before
      | inr copy ↦ inl (Has-replicate text (copies_of word) packet copy)
    ]

pub picked_took : (word : ℕ) (text : List ℕ) (line : Line) → picked word line ≡ Some text → Has text line.held
picked_took word text line e = Has-slice_get text (word % length line.held) line.held e

pub released_took : (word : ℕ) (text : List ℕ) (line : Line) → Has text (released word line).held → Has text line.held
released_took word text line h =
    let i = word % length line.held in
    elim (Has-append text (take i line.held) (drop (suc i) line.held) h) [
      | inl before ↦ Has-take text i line.held before
      | inr following ↦ Has-drop text (suc i) line.held following
    ]
