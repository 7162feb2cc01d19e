-- Which actions keep the rules of their fields (the limits are ours).
use Rattle.std.specs.Prelude.{ℕ, ◌<◌, ◌≤◌, ◌^◌, FitsSigned, Bool, true, false, nat_eq, nat_le, ◌&&◌}
use Rattle.std.specs.Ordering.{int_eq}
use Rattle.std.specs.Int.{w64}
use Rattle.rp_base.specs.Number.{IsTask, in_range}
use Rattle.rp_base.specs.declared.action.Operation.{Operation}
use Rattle.rp_base.specs.declared.action.Operation.TheVariants.{Function, Procedure, Entry}
use Rattle.rp_base.specs.declared.action.Operation.TheVariants.{SetTimer, CancelTimer}
use Rattle.rp_base.specs.declared.action.Action.{Action}
use Rattle.rp_base.specs.declared.action.Action.TheVariants.{Noop, Call, Interrupt, Tick}

-- an index of an operation, an object or a source is 1 to 8
abbrev pub IsIndex : ℕ → Type 0
IsIndex n = (1 ≤ n) × (n ≤ 8)

-- a number of a call or an occurrence is 1 to 2^32 - 1
abbrev pub IsCount : ℕ → Type 0
IsCount n = (1 ≤ n) × (n < 2 ^ 32)

-- an index of an entry is 1 to 4
abbrev pub IsEntryIndex : ℕ → Type 0
IsEntryIndex n = (1 ≤ n) × (n ≤ 4)

-- an object has at most 4 entries, and at most 8 of everything else
abbrev pub IsRightOperation : Operation → Type 0
IsRightOperation (Function index) = IsIndex index
IsRightOperation (Procedure index) = IsIndex index
IsRightOperation (Entry index) = IsEntryIndex index
IsRightOperation (SetTimer index) = IsIndex index
IsRightOperation (CancelTimer index) = IsIndex index

-- each number of the action is within its range
abbrev pub IsRight : Action → Type 0
IsRight Noop = Unit {0}
IsRight (Call task number object operation arg) =
    IsTask task × IsCount number × IsIndex object × IsRightOperation operation × FitsSigned w64 arg
IsRight (Interrupt source occurrence) = IsIndex source × IsCount occurrence
IsRight (Tick now) = now < 2 ^ 32

-- the same as a test, for numbers that are within their types
abbrev pub is_right_operation : Operation → Bool
is_right_operation (Function index) = in_range 1 8 index
is_right_operation (Procedure index) = in_range 1 8 index
is_right_operation (Entry index) = in_range 1 4 index
is_right_operation (SetTimer index) = in_range 1 8 index
is_right_operation (CancelTimer index) = in_range 1 8 index

abbrev pub is_right : Action → Bool
is_right Noop = true
is_right (Call task number object operation arg) =
    in_range 1 8 task && nat_le 1 number && in_range 1 8 object && is_right_operation operation
is_right (Interrupt source occurrence) = in_range 1 8 source && nat_le 1 occurrence
is_right (Tick now) = true

-- the operations are the same
abbrev pub same_operation : Operation → Operation → Bool
same_operation (Function a) (Function b) = nat_eq a b
same_operation (Procedure a) (Procedure b) = nat_eq a b
same_operation (Entry a) (Entry b) = nat_eq a b
same_operation (SetTimer a) (SetTimer b) = nat_eq a b
same_operation (CancelTimer a) (CancelTimer b) = nat_eq a b
same_operation _ _ = false

-- the actions are the same
abbrev pub same_action : Action → Action → Bool
same_action Noop Noop = true
same_action (Call t n o p a) (Call u m q r b) =
    nat_eq t u && nat_eq n m && nat_eq o q && same_operation p r && int_eq a b
same_action (Interrupt s n) (Interrupt t m) = nat_eq s t && nat_eq n m
same_action (Tick a) (Tick b) = nat_eq a b
same_action _ _ = false

-- the items are equal: calls by task and number, all else whole
abbrev pub equal_items : Action → Action → Bool
equal_items (Call task number o p a) (Call other same q r b) =
    nat_eq task other && nat_eq number same
equal_items item other = same_action item other
