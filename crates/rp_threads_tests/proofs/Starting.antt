-- What starts is as the threads require it.
use Rattle.std.proofs.Common.{◌≡◌, ◌<◌, ◌+◌, List, [], ◌∷◌, ◌++◌, length, slice_get, slice_index_or, All, sym, ap, subst, arith}
use Rattle.std.specs.Prelude.{IfSome}
use Rattle.std.proofs.lemmas.List.Elements.{All-push}
use Rattle.rp_threads.specs.atomic_table.specs.Seated.{TableId}
use Rattle.rp_threads.specs.rp_base.specs.declared.config.Config.{Config}
use Rattle.rp_threads.specs.rp_model.specs.Parts.{fresh_task}
use Rattle.rp_threads.specs.rp_board.specs.Parts.{fresh_part, OfTask}
use Rattle.rp_threads.specs.rp_board.specs.Seats.{SeatState}
use Rattle.rp_threads.specs.rp_boxes.specs.FirstSeats.{AreFirstSeats}

-- the first of them is this one
pub first_is : {A : Type 0} (P : A → Type 0) (xs : List A) (x : A) → 0 < length xs → x ≡ slice_index_or xs 0 x → IfSome (slice_get xs 0) P → P x
first_is P [] x some is holds = absurd (omega (arith, some))
first_is P (y ∷ ys) x some is holds = subst P (sym is) holds

-- the first task made no call
pub first_fresh : {P : Type 0} (table : TableId) (config : Config) (program : P) (tasks : List (SeatState P)) → AreFirstSeats table config program 8 [] tasks
    → IfSome (slice_get tasks 0) (λ seat. seat.part ≡ fresh_part (OfTask fresh_task))
first_fresh table config program [] are = tt
first_fresh {P} table config program (seat ∷ others) are = ap (λ (c : SeatState P). c.part) (are 0)

pub none_of : {A : Type 0} (P : A → Type 0) (xs : List A) → xs ≡ [] → All P xs
none_of P xs none = subst (All P) (sym none) (λ k d below. absurd (omega (arith, below)))

pub one_more_of : {A : Type 0} (P : A → Type 0) (xs ys : List A) (x : A) → ys ≡ xs ++ x ∷ [] → All P xs → P x → All P ys
one_more_of P xs ys x grown all is = subst (All P) (sym grown) (All-push P xs x all is)
