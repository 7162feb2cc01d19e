-- The lines of a body: one way to write each, which reading gives back.
use Rattle.std.specs.Prelude.{ℕ, ◌<◌, ◌≤◌, ◌+◌, suc, List, [], ◌∷◌, ◌++◌, codes}
use Rattle.rp_deck_declarations.specs.rp_deck_bodies.specs.declared.names.Component.{Component}
use Rattle.rp_deck_declarations.specs.rp_deck_bodies.specs.Bodies.{BodyText, Empty, Set, Put, Out}
use Rattle.rp_deck_declarations.specs.rp_deck_bodies.specs.Bodies.{If}
use Rattle.rp_deck_laws.specs.ExpressionTexts.{is_int, is_bool, component_name, HasOne, expr_nodes}
use Rattle.rp_deck_laws.specs.ExpressionTexts.{cond_nodes, expr_words, cond_words, IsExprOf}
use Rattle.rp_deck_laws.specs.ExpressionTexts.{IsCondOf}

-- how many statements there are
abbrev pub body_count : BodyText → ℕ
body_count Empty = 0
body_count (Set before place value) = body_count before + 1
body_count (Put before place value) = body_count before + 1
body_count (Out before value) = body_count before + 1
body_count (If before condition first second) =
    body_count before + 1 + body_count first + body_count second

module _ (names : List (List ℕ)) (declared : List Component) where
  abbrev pub body_lines : BodyText → List (List (List ℕ))
  body_lines Empty = []
  body_lines (Set before place value) =
      body_lines before ++ (codes "set" ∷ component_name (is_int place) names declared
      ∷ expr_words names declared value) ∷ []
  body_lines (Put before place value) =
      body_lines before ++ (codes "put" ∷ component_name (is_bool place) names declared
      ∷ cond_words names declared value) ∷ []
  body_lines (Out before value) =
      body_lines before ++ (codes "out" ∷ expr_words names declared value) ∷ []
  body_lines (If before condition first second) =
      body_lines before ++ ((codes "if" ∷ cond_words names declared condition)
      ∷ (body_lines first
      ++ ((codes "else" ∷ []) ∷ (body_lines second ++ (codes "end" ∷ []) ∷ []))))

  -- each statement is within n `if`s, of which there are at most 7; its parts are right
  abbrev pub IsBodyOf : ℕ → BodyText → Type 0
  IsBodyOf deep Empty = Unit {0}
  IsBodyOf deep (Set before place value) =
      IsBodyOf deep before × (deep < 8) × HasOne (is_int place) declared
      × IsExprOf names declared value
      × (expr_nodes value ≤ 32)
  IsBodyOf deep (Put before place value) =
      IsBodyOf deep before × (deep < 8) × HasOne (is_bool place) declared
      × IsCondOf names declared value
      × (cond_nodes value ≤ 32)
  IsBodyOf deep (Out before value) =
      IsBodyOf deep before × (deep < 8) × IsExprOf names declared value × (expr_nodes value ≤ 32)
  IsBodyOf deep (If before condition first second) =
      IsBodyOf deep before × (deep < 8) × IsCondOf names declared condition
      × (cond_nodes condition ≤ 32)
      × IsBodyOf (suc deep) first × IsBodyOf (suc deep) second
