-- What the versions have in common, and what distinguishes them.
use Rattle.std.proofs.Common.{◌≡◌, ◌≢◌, ℕ, Bool, true, false, cond, eqb, List, [], ◌∷◌, ◌++◌, length, Option, Some, None, refl, sym, ap, ◌∙◌, arith, length-append}
use Rattle.std.specs.Prelude.{All, IfSome, flat_map}
use Rattle.std.proofs.lemmas.Bool.{eqb-true, eqb-false}
use Rattle.std.proofs.lemmas.List.Elements.{All-nil, All-cons}
use Rattle.rp_base.specs.declared.action.Operation.{Operation}
use Rattle.rp_base.specs.declared.action.Operation.TheVariants as operations
use Rattle.rp_base.specs.declared.action.Action.{Action}
use Rattle.rp_base.specs.declared.action.Action.TheVariants as actions
use Rattle.rp_base.specs.declared.record.Vote.{Vote}
use Rattle.rp_base.specs.declared.placed.PlacedVote.{PlacedVote}
use Rattle.rp_codec.specs.declared.packet.Body.{Body}
use Rattle.rp_codec.specs.declared.packet.Body.TheVariants as bodies
use Rattle.rp_codec.specs.declared.version.Version.{Version}
use Rattle.rp_codec.specs.declared.version.Version.TheVariants.{V1, V2}
use Rattle.rp_codec.specs.Version.{version_number, version_of}
use Rattle.rp_codec.specs.Message.{Message}
use Rattle.rp_codec.specs.Text.{number_text, signed_text, operation_text_at, action_text_at, action_text, last_text_at, body_text_at, text_at, text_of, HasOperationText, HasActionText, HasText, IsTextOf, IsTextBefore, placed_text_at, placed_text, HasPlacedText}

-- ---- the first byte

pub version_of_number : (v : Version) → version_of (version_number v) ≡ Some v
version_of_number V1 = refl
version_of_number V2 = refl

pub number_once : (v w : Version) → version_number v ≡ version_number w → v ≡ w
number_once V1 V1 e = refl
number_once V1 V2 e = absurd (omega (arith, e))
number_once V2 V1 e = absurd (omega (arith, e))
number_once V2 V2 e = refl

abbrev chosen : Bool → Bool → Option Version
chosen one two = cond one (Some V1) (cond two (Some V2) None)

from_choice : (n : ℕ) (one two : Bool) (v : Version) → (one ≡ true → n ≡ 1) → (two ≡ true → n ≡ 2) → chosen one two ≡ Some v → n ≡ version_number v
from_choice n true two v first second e = let same : V1 ≡ v = cc in first refl ∙ ap version_number same
from_choice n false true v first second e = let same : V2 ≡ v = cc in second refl ∙ ap version_number same
from_choice n false false v first second e = absurd cc

-- a first byte that says a version is its number
pub number_from_version : (n : ℕ) (v : Version) → version_of n ≡ Some v → n ≡ version_number v
number_from_version n v e = from_choice n (eqb n 1) (eqb n 2) v (λ t. eqb-true n 1 t) (λ t. eqb-true n 2 t) e

from_none : (n : ℕ) (one two : Bool) → (one ≡ false → n ≢ 1) → (two ≡ false → n ≢ 2) → chosen one two ≡ None → (n ≢ 1) × (n ≢ 2)
from_none n true two first second e = absurd cc
from_none n false true first second e = absurd cc
from_none n false false first second e = (first refl, second refl)

-- any other first byte is neither
pub no_version : (n : ℕ) → version_of n ≡ None → (n ≢ 1) × (n ≢ 2)
no_version n e = from_none n (eqb n 1) (eqb n 2) (λ t. eqb-false n 1 t) (λ t. eqb-false n 2 t) e

-- ---- every value has a text of version 2

has_operation : (operation : Operation) → HasOperationText V2 operation
has_operation (operations.Function index) = tt
has_operation (operations.Procedure index) = tt
has_operation (operations.Entry index) = tt
has_operation (operations.SetTimer index) = tt
has_operation (operations.CancelTimer index) = tt

pub has_action : (action : Action) → HasActionText V2 action
has_action actions.Noop = tt
has_action (actions.Call task number object operation arg) = has_operation operation
has_action (actions.Interrupt source occurrence) = tt
has_action (actions.Tick now) = tt

has_actions : (actions : List Action) → All (HasActionText V2) actions
has_actions [] = All-nil (HasActionText V2)
has_actions (action ∷ others) = All-cons (HasActionText V2) action others (has_action action) (has_actions others)

has_last : (last : Option Vote) → IfSome last (λ vote. HasActionText V2 vote.action)
has_last None = tt
has_last (Some vote) = has_action vote.action

has_votes : (votes : List PlacedVote) → All (HasPlacedText V2) votes
has_votes [] = All-nil (HasPlacedText V2)
has_votes (placed ∷ others) = All-cons (HasPlacedText V2) placed others (has_action placed.vote.action) (has_votes others)

has_body : (from to : _) (body : Body) → HasText V2 (record { from = from; to = to; body = body })
has_body from to (bodies.Call action) = has_action action
has_body from to (bodies.Promise position ballot last) = has_last last
has_body from to (bodies.Accept position ballot action) = has_action action
has_body from to (bodies.Accepted position ballot action) = has_action action
has_body from to (bodies.Decided position action) = has_action action
has_body from to (bodies.Report first applied actions) = has_actions actions
has_body from to (bodies.PromiseRange range ballot votes) = has_votes votes
has_body from to _ = tt

pub has_text : (m : Message) → HasText V2 m
has_text m = has_body m.from m.to m.body

-- so what is written is a text
pub latest : (m : Message) (bytes : List ℕ) → bytes ≡ text_of m → IsTextOf m bytes
latest m bytes e = (V2, has_text m, e)

pub latest_before : (m : Message) (rest bytes : List ℕ) → bytes ≡ text_of m ++ rest → IsTextBefore m rest bytes
latest_before m rest bytes e = (V2, has_text m, e)

-- ---- a value's texts have one length

pub operation_long : (v : Version) (operation : Operation) → length (operation_text_at v operation) ≡ 2
operation_long v (operations.Function index) = refl
operation_long v (operations.Procedure index) = refl
operation_long v (operations.Entry index) = refl
operation_long v (operations.SetTimer index) = refl
operation_long v (operations.CancelTimer index) = refl

pub call_long : (v : Version) (task number object : ℕ) (operation : Operation) (arg : _) → length (action_text_at v (actions.Call task number object operation arg)) ≡ 17
unfolding number_text
call_long v task number object operation arg = omega (arith, operation_long v operation, length-append (operation_text_at v operation) (signed_text arg))

pub action_same : (v : Version) (action : Action) → length (action_text_at v action) ≡ length (action_text action)
action_same v actions.Noop = refl
action_same v (actions.Call task number object operation arg) = call_long v task number object operation arg ∙ sym (call_long V2 task number object operation arg)
action_same v (actions.Interrupt source occurrence) = refl
action_same v (actions.Tick now) = refl

actions_same : (v : Version) (actions : List Action) → length (flat_map (action_text_at v) actions) ≡ length (flat_map action_text actions)
actions_same v [] = refl
actions_same v (action ∷ others) =
    omega (arith, action_same v action, actions_same v others, length-append (action_text_at v action) (flat_map (action_text_at v) others), length-append (action_text action) (flat_map action_text others))

last_same : (v : Version) (last : Option Vote) → length (last_text_at v last) ≡ length (last_text_at V2 last)
unfolding number_text
last_same v None = refl
last_same v (Some vote) = omega (arith, action_same v vote.action)

placed_same : (v : Version) (placed : PlacedVote) → length (placed_text_at v placed) ≡ length (placed_text placed)
unfolding number_text
placed_same v placed = omega (arith, action_same v placed.vote.action)

votes_same : (v : Version) (votes : List PlacedVote) → length (flat_map (placed_text_at v) votes) ≡ length (flat_map placed_text votes)
votes_same v [] = refl
votes_same v (placed ∷ others) =
    omega (arith, placed_same v placed, votes_same v others, length-append (placed_text_at v placed) (flat_map (placed_text_at v) others), length-append (placed_text placed) (flat_map placed_text others))

body_same : (v : Version) (body : Body) → length (body_text_at v body) ≡ length (body_text_at V2 body)
unfolding number_text
body_same v (bodies.Call action) = action_same v action
body_same v (bodies.Promise position ballot last) = omega (arith, last_same v last)
body_same v (bodies.Accept position ballot action) = omega (arith, action_same v action)
body_same v (bodies.Accepted position ballot action) = omega (arith, action_same v action)
body_same v (bodies.Decided position action) = omega (arith, action_same v action)
body_same v (bodies.Report first applied actions) = omega (arith, actions_same v actions)
body_same v (bodies.PromiseRange range ballot votes) = omega (arith, votes_same v votes)
body_same v _ = refl

pub text_same : (v : Version) (m : Message) → length (text_at v m) ≡ length (text_of m)
text_same v m = omega (arith, body_same v m.body)
