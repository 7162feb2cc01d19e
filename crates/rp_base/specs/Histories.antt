-- A list that memory does not hold, as contracts see it.
use Rattle.std.specs.Prelude.{List, [], ◌∷◌, ◌++◌}
use Rattle.rp_base.specs.declared.history.Last.{Last}
use Rattle.rp_base.specs.declared.history.Last.TheVariants.{Nothing, After}

-- the items of a history, oldest first
abbrev pub listed : {T : Type 0} → Last T → List T
listed Nothing = []
listed (After before item) = before.value ++ item.value ∷ []
