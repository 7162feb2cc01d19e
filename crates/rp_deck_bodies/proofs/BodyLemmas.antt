-- Bodies as a text says them: a statement more, and the `if`s that are open.
use Rattle.std.proofs.lemmas.Bool.Decides.{nat_tests}
use Rattle.std.proofs.Common.{◌≡◌, ◌==◌, false, ℕ, zero, suc, ◌+◌, ◌-◌, List, [], ◌∷◌, ◌++◌, Bool, not, map, length, Option, Some, None, arith, ap, refl, ◌∙◌}
use Rattle.std.specs.Prelude.{is_some, option_map, slice_get}
use Rattle.rp_body.specs.declared.statement.Stmt.{Stmt}
use Rattle.rp_deck_bodies.specs.declared.statements.OpenIf.{OpenIf}
use Rattle.rp_deck_bodies.specs.Bodies.{BodyText, Empty, OpenIfText, OpenBodyText, may_turn, with_else_at, with_else, closed_at, closed, If, first_part, second_part}
use Rattle.rp_deck_bodies.specs.BodyViews.{with_statements, and_then, body_text, if_text, within}

-- ---- a statement more

last_after : (xs : List Stmt) (s : Stmt) (before : BodyText) → with_statements (map and_then (xs ++ s ∷ [])) before ≡ and_then s (with_statements (map and_then xs) before)
last_after [] s before = refl
last_after (x ∷ xs) s before = last_after xs s (and_then x before)

pub added : (old new : List Stmt) (s : Stmt) → new ≡ old ++ s ∷ [] → body_text new ≡ and_then s (body_text old)
added old new s is = ap (λ (l : List Stmt). body_text l) is ∙ last_after old s Empty

-- ---- the open `if`s

last_within : (xs : List OpenIf) (i : OpenIf) (outer : List OpenIfText) → within (xs ++ i ∷ []) outer ≡ if_text i ∷ within xs outer
last_within [] i outer = refl
last_within (x ∷ xs) i outer = last_within xs i (if_text x ∷ outer)

pub innermost_is : (old new : List OpenIf) (i : OpenIf) → new ≡ old ++ i ∷ [] → within new [] ≡ if_text i ∷ within old []
innermost_is old new i is = ap (λ (l : List OpenIf). within l []) is ∙ last_within old i []

len_within : (xs : List OpenIf) (outer : List OpenIfText) → length (within xs outer) ≡ length xs + length outer
len_within [] outer = omega arith
len_within (x ∷ xs) outer = len_within xs (if_text x ∷ outer) ∙ omega arith

pub ifs_len : (xs : List OpenIf) → length (within xs []) ≡ length xs
ifs_len xs = len_within xs [] ∙ omega arith

same_some : {X Y : Type 0} (f : X → Y) (o : Option X) → is_some (option_map f o) ≡ is_some o
same_some f None = refl
same_some f (Some x) = refl

turns_within : (xs : List OpenIf) (i last : OpenIf) (n : ℕ) (outer : List OpenIfText) → n ≡ length xs → slice_get (i ∷ xs) n ≡ Some last
    → may_turn (within xs (if_text i ∷ outer)) ≡ not (is_some last.first)
turns_within [] i last zero outer is here = ap (λ (b : Bool). not b) (same_some (λ body. body_text body.items) i.first) ∙ ap (λ (o : Option OpenIf). turns o) here
  where
    turns : Option OpenIf → Bool
    turns None = not (is_some i.first)
    turns (Some it) = not (is_some it.first)
turns_within [] i last (suc n) outer is here = absurd (omega (arith, is))
turns_within (x ∷ xs) i last zero outer is here = absurd (omega (arith, is))
turns_within (x ∷ xs) i last (suc n) outer is here = turns_within xs x last n (if_text i ∷ outer) (omega (arith, is)) here

pub turns : (xs : List OpenIf) (last : OpenIf) → slice_get xs (length xs - 1) ≡ Some last → may_turn (within xs []) ≡ not (is_some last.first)
turns [] last here = absurd (cc)
turns (x ∷ xs) last here = turns_within xs x last (length (x ∷ xs) - 1) [] (omega arith) here

-- ---- at `else` and at `end`

pub turned_is : (b : OpenBodyText) (i : OpenIfText) (outer : List OpenIfText) → b.ifs ≡ i ∷ outer
    → with_else b ≡ record b { ifs = record i { first = Some b.statements } ∷ outer; statements = Empty }
turned_is b i outer is = ap (λ (l : List OpenIfText). with_else_at l b) is

pub closed_is : (b : OpenBodyText) (i : OpenIfText) (outer : List OpenIfText) → b.ifs ≡ i ∷ outer
    → closed b ≡ record b { ifs = outer; statements = If i.before i.condition (first_part i.first b.statements) (second_part i.first b.statements) }
closed_is b i outer is = ap (λ (l : List OpenIfText). closed_at l b) is

-- an `if` is open
pub some_open : (i : OpenIf) (rest items : List OpenIf) → items ≡ rest ++ i ∷ [] → (length (within items []) == 0) ≡ false
some_open i rest items is = ap (λ (l : List OpenIfText). length l == 0) (innermost_is rest items i is) ∙ ends (length (within rest []))
  where
    ends : (n : ℕ) → (suc n == 0) ≡ false
    ends n = grind (arith, nat_tests)
