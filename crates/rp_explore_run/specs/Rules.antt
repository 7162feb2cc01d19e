-- What the functions of a rule say of a state.
use Rattle.std.specs.Prelude.{ℕ, Bool, false, IsTrue, List}
use Rattle.std.specs.List.{list_all}
use Rattle.rp_explore.specs.rp_base.specs.declared.action.Operation.{Operation}
use Rattle.rp_explore.specs.rp_base.specs.declared.action.Operation.TheVariants.{Function}
use Rattle.rp_explore_deck.specs.declared.rules.Truth.{Truth}
use Rattle.rp_explore_deck.specs.rp_object.specs.State.{Running}
use Rattle.rp_explore_deck.specs.rp_object.specs.Truths.{is_true}

-- the operation of an object is a function that is true in the state
abbrev pub is_true_at : Running → ℕ → Operation → Bool
is_true_at running object (Function index) = is_true running.state object index
is_true_at running object _ = false

abbrev pub are_true : List Truth → Running → Bool
are_true truths running =
    list_all (λ truth. is_true_at running truth.object truth.operation) truths

-- each of these functions is true in the state
abbrev pub AreTrueIn : List Truth → Running → Type 0
AreTrueIn truths running = IsTrue (are_true truths running)

-- they are not all true in the state
abbrev pub AreNotAllTrueIn : List Truth → Running → Type 0
AreNotAllTrueIn truths running = ¬ AreTrueIn truths running
