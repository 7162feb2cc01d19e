-- The same seats, whatever happened at them since.
use Rattle.std.proofs.Common.{◌≡◌, ◌⊎◌, Result, Ok, Err, inl, inr, ℕ, zero, suc, ◌+◌, ◌<◌, ◌≤◌, Bool, false, nat_eq, nat_lt, if◌then◌else◌, Option, Some, None, List, [], ◌∷◌, ◌++◌, length, map, slice_get, refl, sym, ap, subst, ◌∙◌, arith}
use Rattle.std.proofs.lemmas.Grind.{common_steps}
use Rattle.std.proofs.lemmas.List.{append_assoc, map-append}
use Rattle.std.specs.List.{AllZip}
use Rattle.std.specs.Prelude.{All, IfErr, IfSome, IsErrOf, IsOkUnless, slice_index}
use Rattle.rp_threads.specs.rp_base.specs.Sets.{Has}
use Rattle.rp_threads.specs.rp_base.specs.declared.fault.Fault.{Fault}
use Rattle.rp_threads.specs.rp_base.specs.declared.fault.Fault.TheVariants.{BadConfig, Device, OutOfMemory}
use Rattle.rp_boxes.specs.rp_store.specs.Disk.{disk_of}
use Rattle.rp_boxes.specs.atomic_table.specs.Seated.{TableId}
use Rattle.rp_threads.specs.rp_base.specs.declared.config.Config.{Config}
use Rattle.rp_board.specs.Parts.{OfNode, OfTask, OfAudit, first_role, fresh_part}
use Rattle.rp_board.specs.Seats.{SeatState}
use Rattle.rp_boxes.specs.rp_model.specs.Parts.{fresh_node, fresh_task}
use Rattle.rp_boxes.specs.FirstSeats.{AreFirstSeats, CanFail, IsResourceFault, first_seat}
use Rattle.rp_boxes.proofs.Seating.{node_role}
use Rattle.rp_threads.specs.Rounds.{Runs}

-- ---- lists

pub some_then : {A : Type 0} (Q R : A → Type 0) → ((x : A) → Q x → R x) → (o : Option A) → IfSome o Q → IfSome o R
some_then {A = A} Q R so None is = tt
some_then {A = A} Q R so (Some x) is = so x is

pub all_places : {A : Type 0} (Q : A → Type 0) (xs : List A) → ((k : ℕ) → IfSome (slice_get xs k) Q) → All Q xs
all_places Q [] each k d within = absurd (omega (arith, within))
all_places Q (x ∷ xs) each zero d within = each zero
all_places Q (x ∷ xs) each (suc k) d within = all_places Q xs (λ j. each (suc j)) k d (omega (arith, within))

pub all_within : {A : Type 0} (Q : A → Type 0) (xs : List A) → ((k : ℕ) → k < length xs → IfSome (slice_get xs k) Q) → All Q xs
all_within Q [] each k d within = absurd (omega (arith, within))
all_within Q (x ∷ xs) each zero d within = each zero (omega (arith, within))
all_within Q (x ∷ xs) each (suc k) d within = all_within Q xs (λ j less. each (suc j) (omega (arith, less))) k d (omega (arith, within))

-- what is so of each is so of a member
pub all_has : {A : Type 0} (Q : A → Type 0) (xs : List A) → All Q xs → (x : A) → Has x xs → Q x
all_has Q [] all x has = absurd has
all_has Q (y ∷ ys) all x (inl same) = subst Q (sym same) (all 0 y (omega arith))
all_has Q (y ∷ ys) all x (inr later) = all_has Q ys (λ k d within. all (suc k) d (omega (arith, within))) x later

-- the member at a place
pub member_at : {A : Type 0} (Q : A → Type 0) (xs : List A) (k : ℕ) → k < length xs → IfSome (slice_get xs k) Q → (x : A) × Has x xs × Q x
member_at Q [] k within is = absurd (omega (arith, within))
member_at Q (x ∷ xs) zero within is = (x, inl refl, is)
member_at Q (x ∷ xs) (suc k) within is = let later = member_at Q xs k (omega (arith, within)) is in (later.0, inr later.1, later.2)

-- ---- at first

-- all seats are at the table
pub first_tables : {P : Type 0} (table : TableId) (config : Config) (program : P) (actor : ℕ) (failures : List ℕ) (seats : List (SeatState P))
    → AreFirstSeats table config program actor failures seats → All (λ seat. seat.setup.table ≡ table) seats
first_tables {P} table config program actor failures seats are =
    all_places (λ (seat : SeatState P). seat.setup.table ≡ table) seats (λ place.
    some_then (λ (seat : SeatState P). seat ≡ first_seat table config program (suc place) (actor + place) (slice_index failures place)) (λ (seat : SeatState P). seat.setup.table ≡ table)
    (λ seat is. ap (λ (c : SeatState P). c.setup.table) is) (slice_get seats place) (are place))

-- nodes run at first
pub nodes_run : {P : Type 0} (table : TableId) (config : Config) (program : P) (failures : List ℕ) (seats : List (SeatState P)) → length seats ≤ 7 → AreFirstSeats table config program 1 failures seats
    → All (λ seat. Runs seat.part) seats
nodes_run {P} table config program failures seats few are =
    all_within (λ (seat : SeatState P). Runs seat.part) seats (λ place within.
    some_then (λ (seat : SeatState P). seat ≡ first_seat table config program (suc place) (1 + place) (slice_index failures place)) (λ (seat : SeatState P). Runs seat.part) (λ seat is. (
      fresh_node,
      ap (λ (c : SeatState P). c.part.role) is ∙ node_role (1 + place) (omega arith) (omega (arith, within, few)),
      refl,
    )) (slice_get seats place) (are place))

-- tasks made no call at first
task_role : (place : ℕ) → first_role (8 + place) ≡ OfTask fresh_task
task_role place =
    let some : nat_eq (8 + place) 0 ≡ false = grind (arith, common_steps) in
    let above : nat_lt (8 + place) 8 ≡ false = grind (arith, common_steps) in
    ap (λ (b : Bool). if b then OfAudit else if nat_lt (8 + place) 8 then OfNode fresh_node else OfTask fresh_task) some
    ∙ ap (λ (b : Bool). if b then OfNode fresh_node else OfTask fresh_task) above

pub tasks_fresh : {P : Type 0} (table : TableId) (config : Config) (program : P) (seats : List (SeatState P)) → AreFirstSeats table config program 8 [] seats
    → All (λ seat. seat.part ≡ fresh_part (OfTask fresh_task)) seats
tasks_fresh {P} table config program seats are =
    all_places (λ (seat : SeatState P). seat.part ≡ fresh_part (OfTask fresh_task)) seats (λ place.
    some_then (λ (seat : SeatState P). seat ≡ first_seat table config program (suc place) (8 + place) (slice_index [] place)) (λ (seat : SeatState P). seat.part ≡ fresh_part (OfTask fresh_task))
    (λ seat is. ap (λ (c : SeatState P). c.part) is ∙ ap fresh_part (task_role place)) (slice_get seats place) (are place))

-- ---- what ran

pub zip_length : {A B : Type 0} (R : A → B → Type 0) (xs : List A) (ys : List B) → AllZip R xs ys → length ys ≡ length xs
zip_length R [] [] all = refl
zip_length R [] (y ∷ ys) all = absurd all
zip_length R (x ∷ xs) [] all = absurd all
zip_length R (x ∷ xs) (y ∷ ys) all = ap suc (zip_length R xs ys all.1)

pub none_left : {A : Type 0} (xs : List A) → length xs ≡ 0 → xs ≡ []
none_left [] none = refl
none_left (x ∷ xs) none = absurd (omega (arith, none))

pub all_more : {A : Type 0} (Q : A → Type 0) (xs : List A) (x : A) → All Q xs → Q x → All Q (xs ++ x ∷ [])
all_more Q [] x all is zero d within = is
all_more Q [] x all is (suc k) d within = absurd (omega (arith, within))
all_more Q (y ∷ ys) x all is zero d within = all zero d (omega arith)
all_more Q (y ∷ ys) x all is (suc k) d within = all_more Q ys x (λ j e less. all (suc j) e (omega (arith, less))) is k d (omega (arith, within))

-- the seats of those that are ready and of those that are left, where one more is ready
pub one_ready : {A P : Type 0} (f : A → SeatState P) (starts grown : List A) (start : A) (seat : SeatState P) (rest left seats : List (SeatState P))
    → grown ≡ starts ++ start ∷ [] → f start ≡ seat → rest ≡ seat ∷ left → map f starts ++ rest ≡ seats → map f grown ++ left ≡ seats
one_ready {A} {P} f starts grown start seat rest left seats is same steps so_far =
    ap (λ (l : List A). map f l ++ left) is ∙ ap (λ (l : List (SeatState P)). l ++ left) (map-append f starts (start ∷ []))
    ∙ append_assoc (map f starts) (f start ∷ []) left ∙ ap (λ (s : SeatState P). map f starts ++ s ∷ left) same ∙ ap (λ (l : List (SeatState P)). map f starts ++ l) (sym steps) ∙ so_far

pub mapped : {A B : Type 0} (f : A → B) (xs : List A) → length (map f xs) ≡ length xs
mapped f [] = refl
mapped f (x ∷ xs) = ap suc (mapped f xs)

pub mapped_length : {A B : Type 0} (f : A → B) (xs : List A) (ys : List B) → map f xs ≡ ys → length xs ≡ length ys
mapped_length f xs ys is = sym (mapped f xs) ∙ ap length is

pub all_mapped : {A B : Type 0} (Q : B → Type 0) (f : A → B) (xs : List A) → All Q (map f xs) → All (λ x. Q (f x)) xs
all_mapped Q f [] all k d within = absurd (omega (arith, within))
all_mapped Q f (x ∷ xs) all zero d within = all zero (f d) (omega arith)
all_mapped Q f (x ∷ xs) all (suc k) d within = all_mapped Q f xs (λ j e less. all (suc j) e (omega (arith, less))) k d (omega (arith, within))

-- a device in memory never fails
pub memory_never : CanFail disk_of → ⊥
memory_never can = let failed = can.failed in omega (arith, failed)

-- where the configuration is right and no device fails, memory ran out
pub only_memory : {A : Type 0} (result : Result A Fault) → (IsErrOf result BadConfig → ⊥) → (IsErrOf result Device → ⊥)
    → IfErr result (λ fault. (fault ≡ BadConfig) ⊎ IsResourceFault fault) → IsOkUnless result OutOfMemory
only_memory (Ok value) right never only = tt
only_memory (Err fault) right never (inl bad) = absurd (right (ap Err bad))
only_memory (Err fault) right never (inr (inl memory)) = memory
only_memory (Err fault) right never (inr (inr device)) = absurd (never (ap Err device))
