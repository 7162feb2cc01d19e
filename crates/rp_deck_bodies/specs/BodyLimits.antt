-- The limits that a body keeps whose `end` was not read yet.
use Rattle.std.specs.Prelude.{ℕ, ◌+◌, ◌-◌, ◌≤◌, Bool, true, IsTrue, List, [], ◌∷◌, All, length}
use Rattle.std.specs.Prelude.{Option, Some, None, Vec}
use Rattle.std.specs.declared.alloc.Global.{Global}
use Rattle.rp_body.specs.Check.{cond_fits, statement_count, depth_of, body_fits}
use Rattle.rp_body.specs.declared.components.Limits.{Limits}
use Rattle.rp_body.specs.declared.statement.Stmt.{Stmt}
use Rattle.rp_deck_bodies.specs.declared.names.Component.{Component}
use Rattle.rp_deck_bodies.specs.declared.statements.BodyDraft.{BodyDraft}
use Rattle.rp_deck_bodies.specs.declared.statements.OpenIf.{OpenIf}
use Rattle.rp_deck_bodies.specs.Counted.{WhereCounted}

-- of the statements before an `else`, where there was one: how many, how deep, and whether they fit
abbrev pub part_count : Option (Vec Stmt Global) → ℕ
part_count None = 0
part_count (Some part) = statement_count part.items

abbrev pub part_depth : Option (Vec Stmt Global) → ℕ
part_depth None = 0
part_depth (Some part) = depth_of part.items

abbrev pub part_fits : Limits → Option (Vec Stmt Global) → Bool
part_fits limits None = true
part_fits limits (Some part) = body_fits limits part.items

-- how many statements were read in these and before them, they themselves included
abbrev pub ifs_count : List OpenIf → ℕ
ifs_count [] = 0
ifs_count (i ∷ inner) = 1 + statement_count i.before.items + part_count i.first + ifs_count inner

-- what was read in them and before them is at most so deep, the outermost first
abbrev pub AreWithin : ℕ → List OpenIf → Type 0
AreWithin most [] = Unit {0}
AreWithin most (i ∷ inner) =
    (depth_of i.before.items ≤ most) × (1 + part_depth i.first ≤ most) × AreWithin (most - 1) inner

-- and fits
pub record IfFits (limits : Limits) (i : OpenIf) : Type 0 where
  pub cond : IsTrue (cond_fits limits i.cond)
  pub before : IsTrue (body_fits limits i.before.items)
  pub first : IsTrue (part_fits limits i.first)

-- At most 64 statements, of which some are counted and still to be read, at most 8 deep; and each
-- fits where the components are counted that these names denote.
pub record KeepsBody (declared : List Component) (pending : ℕ) (ifs : List OpenIf)
    (statements : List Stmt)
    (left : ℕ) : Type 0 where
  pub count : ifs_count ifs + statement_count statements + pending + left ≤ 64
  pub room : pending + length ifs ≤ 8
  pub within : AreWithin 8 ifs
  pub depth : depth_of statements + length ifs ≤ 8
  pub fit_ifs : WhereCounted declared (λ limits. All (IfFits limits) ifs)
  pub fit : WhereCounted declared (λ limits. IsTrue (body_fits limits statements))

abbrev pub IsBody : List Component → ℕ → BodyDraft → Type 0
IsBody declared pending b = KeepsBody declared pending b.ifs.items b.statements.items b.left
