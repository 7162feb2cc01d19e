-- The rule of the tally: one sum for each object, to which a call of `add` adds.
use Rattle.std.specs.Prelude.{◌≡◌, ℕ, zero, suc, ℤ, pos, negsuc, ◌+ℤ◌, ◌-◌, ◌^◌, ◌==◌, nat_lt, Bool}
use Rattle.std.specs.Prelude.{true, false, Option, Some, None, List, [], ◌∷◌, ◌++◌, All, length}
use Rattle.std.specs.Prelude.{slice_get, slice_set, if◌then◌else◌, decimal, codes, option_and_then}
use Rattle.std.specs.Fmt.{signed_decimal}
use Rattle.rp_base.specs.declared.action.Action.{Action}
use Rattle.rp_base.specs.declared.action.Action.TheVariants.{Noop, Call, Interrupt, Tick}
use Rattle.rp_base.specs.declared.action.Operation.{Operation}
use Rattle.rp_base.specs.declared.action.Operation.TheVariants.{Function, Procedure, Entry}
use Rattle.rp_base.specs.declared.action.Operation.TheVariants.{SetTimer, CancelTimer}
use Rattle.rp_base.specs.declared.reply.Reply.{Reply}
use Rattle.rp_base.specs.declared.reply.Reply.TheVariants.{Value, ConstraintError, NoSuchOperation}
use Rattle.rp_base.specs.declared.reply.Answer.{Answer}

-- the number lies from -2^63 to 2^63 - 1
abbrev pub fits_i64 : ℤ → Bool
fits_i64 (pos n) = nat_lt n (2 ^ 63)
fits_i64 (negsuc n) = nat_lt n (2 ^ 63)

-- one sum for each object, from -2^63 to 2^63 - 1
pub record HasSums (objects : ℕ) (sums : List ℤ) : Type 0 where
  pub one_each : length sums ≡ objects
  pub in_range : All (λ sum. fits_i64 sum ≡ true) sums

-- whether the operation is the one procedure, `add`
abbrev pub is_add : Operation → Bool
is_add (Function index) = false
is_add (Procedure index) = index == 1
is_add (Entry index) = false
is_add (SetTimer index) = false
is_add (CancelTimer index) = false

-- the sum of an object, counted from 1, if there is this object
abbrev pub sum_of : List ℤ → ℕ → Option ℤ
sum_of sums zero = None
sum_of sums (suc place) = slice_get sums place

-- what a call of `add` does to the sum that is there: the new sum where it fits
abbrev pub added : ℤ → ℤ → Option ℤ
added sum arg = if fits_i64 (sum +ℤ arg) then Some (sum +ℤ arg) else None

-- the object's sum after a call of `add`, if there is this object and the sum fits
abbrev pub new_sum : List ℤ → ℕ → ℤ → Option ℤ
new_sum sums object arg = option_and_then (λ sum. added sum arg) (sum_of sums object)

-- the sums with the object's one replaced, or as they are
abbrev pub with_sum : List ℤ → ℕ → Option ℤ → List ℤ
with_sum sums object None = sums
with_sum sums object (Some sum) = slice_set sums (object - 1) sum

-- the sums after an action
abbrev pub tally_next : List ℤ → Action → List ℤ
tally_next sums Noop = sums
tally_next sums (Call task number object operation arg) =
    if is_add operation then with_sum sums object (new_sum sums object arg) else sums
tally_next sums (Interrupt source occurrence) = sums
tally_next sums (Tick now) = sums

-- the reply where the object is there or not, and the sum fits or not
abbrev pub reply_to_add : Option ℤ → ℤ → Reply
reply_to_add None arg = NoSuchOperation
reply_to_add (Some sum) arg = if fits_i64 (sum +ℤ arg) then Value (sum +ℤ arg) else ConstraintError

-- the answers to an action: a call's own reply, and nothing else
abbrev pub tally_answers : List ℤ → Action → List Answer
tally_answers sums Noop = []
tally_answers sums (Call task number object operation arg) =
    record {
      task = task;
      number = number;
      reply = if is_add operation
          then reply_to_add (sum_of sums object) arg else NoSuchOperation;
    } ∷ []
tally_answers sums (Interrupt source occurrence) = []
tally_answers sums (Tick now) = []

-- ` oK=V` for the sum V of object K
abbrev pub sum_text : ℕ → ℤ → List ℕ
sum_text object sum = codes " o" ++ decimal object ++ codes "=" ++ signed_decimal sum

-- the same for each sum, the objects counted from a number on
abbrev pub sums_text : ℕ → List ℤ → List ℕ
sums_text object [] = []
sums_text object (sum ∷ rest) = sum_text object sum ++ sums_text (suc object) rest

-- the line that shows the sums
abbrev pub tally_image : List ℤ → List ℕ
tally_image sums = codes "tally" ++ sums_text 1 sums ++ codes "\n"
