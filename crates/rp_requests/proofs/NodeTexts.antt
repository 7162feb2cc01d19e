-- The texts of requests to a node.
use Rattle.std.proofs.Common.{◌≡◌, ◌<◌, ◌≤◌, ◌+◌, ◌^◌, ℕ, Bool, true, false, cond, ◌&&◌, not, List, ◌∷◌, Option, Some, None, Result, Ok, Err, refl, ◌∙◌, ap, ap₂, arith}
use Rattle.std.specs.Prelude.{nat_le, nat_lt}
use Rattle.std.specs.Int.{w16, w32, to_be_bytes, from_be_bytes}
use Rattle.std.proofs.lemmas.Bool.Decides.{nat_tests}
use Rattle.std.proofs.lemmas.Nat.{from_be_bytes-to_be_bytes_2, from_be_bytes-to_be_bytes_4}
use Rattle.rp_base.specs.Number.{IsNode, IsPosition, in_range, IsTask}
use Rattle.rp_base.specs.Action.{IsIndex, IsCount}
use Rattle.rp_base.specs.Ranges.{Range, IsRange, range_of}
use Rattle.rp_base.specs.declared.fault.Fault.{Fault}
use Rattle.rp_base.specs.declared.fault.Fault.TheVariants.{BadPacket, BadConfig, LogFull}
use Rattle.rp_base.specs.declared.fault.PacketReason.{PacketReason}
use Rattle.rp_codec.specs.Message.{Message}
use Rattle.rp_codec.specs.Reading.{all_of}
use Rattle.rp_codec.proofs.Decoded.{whole_again}
use Rattle.rp_model.specs.Effect.{NodeInput}
use Rattle.rp_model.specs.Effect as inputs
use Rattle.rp_replica.specs.rp_rules.specs.Inputs.{packet_given}
use Rattle.rp_requests.specs.Requests.{Asked, Step, Applied, Image, LastAnswer, Left, given, lead_at, interrupt_if_right, tick_asked, report_from, range_if, range_from, ask_to, asked_of_kind, asked_of, Pending, Counted, Occurred}
use Rattle.rp_requests.specs.Texts.{step_text, FitsStep, applied_text, image_text, last_answer_text, left_text, pending_text, counted_text, occurred_text}

-- ---- tests

from_one : (n : ℕ) → 1 ≤ n → nat_le 1 n ≡ true
from_one n h = grind (arith, nat_tests, h)

up_to : (n most : ℕ) → n ≤ most → nat_le n most ≡ true
up_to n most h = grind (arith, nat_tests, h)

not_above : (n most : ℕ) → n ≤ most → nat_lt most n ≡ false
not_above n most h = grind (arith, nat_tests, h)

both : (a b : Bool) → a ≡ true → b ≡ true → (a && b) ≡ true
both a b p q = ap₂ (λ x y. x && y) p q

-- ---- operands

lead_is : (position : ℕ) → IsPosition position → lead_at (from_be_bytes w16 (to_be_bytes w16 position)) ≡ given (inputs.NodeInput.Lead (Some position))
lead_is position right =
    ap lead_at (from_be_bytes-to_be_bytes_2 position right.1)
    ∙ ap (λ b. cond {A = Option Asked} b (given (inputs.NodeInput.Lead (Some position))) None) (from_one position right.0)

interrupt_is : (source occurrence : ℕ) → IsIndex source → IsCount occurrence → interrupt_if_right source (from_be_bytes w32 (to_be_bytes w32 occurrence)) ≡ given (inputs.NodeInput.Interrupt source occurrence)
interrupt_is source occurrence right counts =
    ap (interrupt_if_right source) (from_be_bytes-to_be_bytes_4 occurrence counts.1)
    ∙ ap (λ b. cond {A = Option Asked} b (given (inputs.NodeInput.Interrupt source occurrence)) None)
    (both (nat_le 1 source && nat_le source 8) (nat_le 1 occurrence) (both (nat_le 1 source) (nat_le source 8) (from_one source right.0) (up_to source 8 right.1)) (from_one occurrence counts.0))

tick_is : (now : ℕ) → now < 2 ^ 32 → tick_asked (to_be_bytes w32 now) ≡ given (inputs.NodeInput.Tick now)
tick_is now fits = ap (λ n. given (inputs.NodeInput.Tick n)) (from_be_bytes-to_be_bytes_4 now fits)

report_is : (first : ℕ) → IsPosition first → report_from (from_be_bytes w16 (to_be_bytes w16 first)) ≡ given (inputs.NodeInput.Report first)
report_is first right =
    ap report_from (from_be_bytes-to_be_bytes_2 first right.1)
    ∙ ap (λ b. cond {A = Option Asked} b (given (inputs.NodeInput.Report first)) None) (from_one first right.0)

range_is : (first count : ℕ) → IsRange (record { first = first; count = count }) → range_of first count ≡ Ok (record { first = first; count = count })
range_is first count right =
    let range : Range = record { first = first; count = count } in
    let counted : in_range 1 64 count ≡ true = both (nat_le 1 count) (nat_le count 64) (from_one count right.count.0) (up_to count 64 right.count.1) in
    ap (λ b. cond {A = Result Range Fault} (not b) (Err BadConfig) (cond {A = Result Range Fault} (nat_lt (2 ^ 16) (first + count)) (Err LogFull) (Ok range))) counted
    ∙ ap (λ b. cond {A = Result Range Fault} b (Err LogFull) (Ok range)) (not_above (first + count) (2 ^ 16) right.last)

range_asked_is : (first count : ℕ) → IsRange (record { first = first; count = count }) → range_from (from_be_bytes w16 (to_be_bytes w16 first)) count ≡ given (inputs.NodeInput.LeadRange first count)
range_asked_is first count right =
    ap (λ n. range_from n count) (from_be_bytes-to_be_bytes_2 first right.first.1)
    ∙ ap (λ b. cond {A = Option Asked} b (range_if (range_of first count)) None) (from_one first right.first.0)
    ∙ ap range_if (range_is first count right)

ask_is : (node : ℕ) → IsNode node → ask_to node ≡ given (inputs.NodeInput.Ask node)
ask_is node right =
    ap (λ b. cond {A = Option Asked} b (given (inputs.NodeInput.Ask node)) None)
    (both (nat_le 1 node) (nat_le node 7) (from_one node right.0) (up_to node 7 right.1))

-- ---- requests

pub steps : (input : NodeInput) → FitsStep input → asked_of (step_text input) ≡ Some (Step (Ok input))
unfolding asked_of asked_of_kind
steps (inputs.NodeInput.Receive message) right = ap (λ (r : Result Message PacketReason). Some (Step (packet_given r))) (whole_again message right)
steps (inputs.NodeInput.Lead None) right = refl
steps (inputs.NodeInput.Lead (Some position)) right = lead_is position right
steps (inputs.NodeInput.Interrupt source occurrence) right = interrupt_is source occurrence right.0 right.1
steps (inputs.NodeInput.Tick now) right = tick_is now right
steps (inputs.NodeInput.Report first) right = report_is first right
steps (inputs.NodeInput.LeadRange first count) right = range_asked_is first count right
steps (inputs.NodeInput.Ask node) right = ask_is node right

pub no_packet : (bytes : List ℕ) (reason : PacketReason) → all_of bytes ≡ Err reason → asked_of (1 ∷ bytes) ≡ Some (Step (Err (BadPacket reason)))
unfolding asked_of asked_of_kind
no_packet bytes reason none = ap (λ (r : Result Message PacketReason). Some (Step (packet_given r))) none

pub applied_is : asked_of applied_text ≡ Some Applied
unfolding asked_of asked_of_kind
applied_is = refl

pub image_is : asked_of image_text ≡ Some Image
unfolding asked_of asked_of_kind
image_is = refl

pub last_is : asked_of last_answer_text ≡ Some LastAnswer
unfolding asked_of asked_of_kind
last_is = refl

pub left_is : asked_of left_text ≡ Some Left
unfolding asked_of asked_of_kind
left_is = refl

pub pending_is : asked_of pending_text ≡ Some Pending
unfolding asked_of asked_of_kind
pending_is = refl

pub counted_is : (task : ℕ) → IsTask task → asked_of (counted_text task) ≡ Some (Counted task)
unfolding asked_of asked_of_kind
counted_is task right =
    ap (λ b. cond {A = Option Asked} b (Some (Counted task)) None) (both (nat_le 1 task) (nat_le task 8) (from_one task right.0) (up_to task 8 right.1))

pub occurred_is : (source : ℕ) → IsIndex source → asked_of (occurred_text source) ≡ Some (Occurred source)
unfolding asked_of asked_of_kind
occurred_is source right =
    ap (λ b. cond {A = Option Asked} b (Some (Occurred source)) None) (both (nat_le 1 source) (nat_le source 8) (from_one source right.0) (up_to source 8 right.1))
