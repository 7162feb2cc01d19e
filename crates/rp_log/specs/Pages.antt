-- Actions in pages (callers see none of it).
use Rattle.std.specs.Prelude.{◌≡◌, ◌≤◌, ℕ, ◌*◌, ◌-◌, min, Vec, List, [], ◌∷◌, ◌++◌, length}
use Rattle.std.specs.Prelude.{vec_capacity}
use Rattle.std.specs.declared.alloc.Global.{Global}
use Rattle.rp_base.specs.declared.action.Action.{Action}

-- the actions in order, and how many there is room for
pub record Paged : Type 0 where
  pub items : List Action
  pub room : ℕ

abbrev pub Page : Type 0
Page = Vec Action Global

-- the actions of all pages
abbrev pub joined : List Page → List Action
joined [] = []
joined (page ∷ rest) = page.items ++ joined rest

abbrev pub paged_of : List Page → Paged
paged_of pages = record { items = joined pages; room = 64 * length pages }

-- a page has room for 64, and has the first 64 of n actions
abbrev pub IsPage : Page → ℕ → Type 0
IsPage page count = (64 ≤ vec_capacity page) × (length page.items ≡ min 64 count)

-- the pages have n actions: each is full where one more follows, and those after the last action
-- are empty
abbrev pub AreFilled : List Page → ℕ → Type 0
AreFilled [] count = count ≡ 0
AreFilled (page ∷ rest) count = IsPage page count × AreFilled rest (count - 64)
