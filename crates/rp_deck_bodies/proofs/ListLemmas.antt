-- What is so of each in a list.
use Rattle.std.proofs.Common.{zero, suc, List, [], ◌∷◌, ◌++◌, arith, sym, subst}
use Rattle.std.specs.Prelude.{All, slice_index_or}
use Rattle.std.specs.List.{IsAmong}

-- what is of all is of one among them
pub of_among : {X : Type 0} (P : X → Type 0) (xs : List X) (x : X) → All P xs → IsAmong xs x → P x
of_among P xs x all among = subst P (sym among.1.1) (all among.0 x among.1.0)

pub all_weaker : {X : Type 0} (P Q : X → Type 0) (xs : List X) → ((x : X) → P x → Q x) → All P xs → All Q xs
all_weaker P Q xs weaker all = λ k d below. weaker (slice_index_or xs k d) (all k d below)

pub all_cons : {X : Type 0} (P : X → Type 0) (x : X) (xs : List X) → P x → All P xs → All P (x ∷ xs)
all_cons P x xs first rest zero d below = first
all_cons P x xs first rest (suc i) d below = rest i d (omega (arith, below))

pub all_tail : {X : Type 0} (P : X → Type 0) (x : X) (xs : List X) → All P (x ∷ xs) → All P xs
all_tail P x xs all i d below = all (suc i) d (omega (arith, below))

pub all_last : {X : Type 0} (P : X → Type 0) (xs : List X) (x : X) → All P xs → P x → All P (xs ++ x ∷ [])
all_last P [] x all new = all_cons P x [] new all
all_last P (y ∷ ys) x all new = all_cons P y (ys ++ x ∷ []) (all zero y (omega arith)) (all_last P ys x (all_tail P y ys all) new)
