-- The texts of packets and of requests are bytes.
use Rattle.std.proofs.Common.{◌≡◌, ℕ, zero, suc, ◌+◌, ◌<◌, ◌≤◌, ℤ, true, false, Some, None, List, [], ◌∷◌, ◌++◌, length, inl, inr, refl, sym, subst, arith}
use Rattle.std.specs.Prelude.{◌-◌, ◌%◌, ◌/◌, ◌^◌, All, flat_map, min}
use Rattle.std.specs.Int.{Width, w16, w32, w64, byte_at, bytes_high_first, byte_len, to_be_bytes, cast_unsigned}
use Rattle.std.specs.List.{AllByRecursion}
use Rattle.rp_base.specs.Action.{IsRight, IsRightOperation}
use Rattle.rp_base.specs.Ranges.{Range}
use Rattle.rp_base.specs.Right.{IsRightVote}
use Rattle.rp_base.specs.declared.action.Action.{Action}
use Rattle.rp_base.specs.declared.action.Action.TheVariants as actions
use Rattle.rp_base.specs.declared.action.Operation.{Operation}
use Rattle.rp_base.specs.declared.action.Operation.TheVariants as operations
use Rattle.rp_base.specs.declared.placed.PlacedVote.{PlacedVote}
use Rattle.rp_base.specs.declared.reply.Reply.{Reply}
use Rattle.rp_base.specs.declared.reply.Reply.TheVariants as replies
use Rattle.rp_codec.specs.Message.{Message, IsPacket, IsParty, IsBody, MaySay}
use Rattle.rp_codec.specs.Text.{number_text, signed_text, position_text, ballot_text, range_text, operation_text, action_text, reply_text, last_text, placed_text, party_number, kind_number, head_text, text_of, body_text_at}
use Rattle.rp_codec.specs.declared.packet.Body.{Body}
use Rattle.rp_codec.specs.declared.packet.Body.TheVariants as bodies
use Rattle.rp_codec.specs.declared.packet.Party.{Party}
use Rattle.rp_codec.specs.declared.packet.Party.TheVariants as parties
use Rattle.rp_codec.specs.declared.version.Version.TheVariants.{V2}
use Rattle.rp_codec.proofs.VotesLaws.{few_votes}
use Rattle.rp_requests.specs.Texts.{task_request_text, operation_bytes}
use Rattle.rp_requests.specs.TaskRequests.{MakeCall}
use Rattle.rp_installations.specs.Moves.{AreBytes}

abbrev pub Bytes : List ℕ → Type 0
Bytes bytes = AllByRecursion (λ b. b < 256) bytes

pub are_bytes : (bytes : List ℕ) → Bytes bytes → AreBytes bytes
are_bytes [] all byte none = absurd none
are_bytes (b ∷ rest) all byte (inl is) = let small : b < 256 = all.0 in subst (λ (n : ℕ). n < 2 ^ 8) (sym is) (omega (arith, small))
are_bytes (b ∷ rest) all byte (inr later) = are_bytes rest all.1 byte later

join : (xs ys : List ℕ) → Bytes xs → Bytes ys → Bytes (xs ++ ys)
join [] ys none more = more
join (x ∷ xs) ys all more = (all.0, join xs ys all.1 more)

-- ---- numbers

remainder : (n : ℕ) → n % 256 < 256
remainder n = omega arith

a_byte : (k n : ℕ) → byte_at k n < 256
a_byte zero n = remainder n
a_byte (suc k) n = remainder (n / 256 ^ suc k)

high_bytes : (k n : ℕ) → Bytes (bytes_high_first k n)
high_bytes zero n = tt
high_bytes (suc k) n = (a_byte k n, high_bytes k n)

number_bytes : (w : Width) (n : ℕ) → Bytes (number_text w n)
unfolding number_text
number_bytes w n = high_bytes (byte_len w) n

-- ---- lists

flat_bytes : {X : Type 0} (P : X → Type 0) (f : X → List ℕ) (xs : List X) → ((x : X) → P x → Bytes (f x)) → All P xs → Bytes (flat_map f xs)
flat_bytes P f [] each all = tt
flat_bytes P f (x ∷ xs) each all = join (f x) (flat_map f xs) (each x (all zero x (omega arith))) (flat_bytes P f xs each (λ k d below. all (suc k) d (omega (arith, below))))

-- ---- actions

operation_is : (operation : Operation) → IsRightOperation operation → Bytes (operation_text operation)
operation_is (operations.Function index) right = (omega arith, (omega (arith, right.1), tt))
operation_is (operations.Procedure index) right = (omega arith, (omega (arith, right.1), tt))
operation_is (operations.Entry index) right = (omega arith, (omega (arith, right.1), tt))
operation_is (operations.SetTimer index) right = (omega arith, (omega (arith, right.1), tt))
operation_is (operations.CancelTimer index) right = (omega arith, (omega (arith, right.1), tt))

action_is : (action : Action) → IsRight action → Bytes (action_text action)
unfolding number_text
action_is actions.Noop right = (omega arith, tt)
action_is (actions.Call task number object operation arg) right =
    join (1 ∷ task ∷ number_text w32 number) ((object ∷ operation_text operation) ++ signed_text arg)
    (omega arith, (omega (arith, right.0.1), number_bytes w32 number))
    (join (object ∷ operation_text operation) (signed_text arg) (omega (arith, right.2.1), operation_is operation right.3) (number_bytes w64 (cast_unsigned w64 arg)))
action_is (actions.Interrupt source occurrence) right = (omega arith, (omega (arith, right.0.1), number_bytes w32 occurrence))
action_is (actions.Tick now) right = (omega arith, number_bytes w32 now)

-- ---- bodies

vote_is : (position ballot : ℕ) (action : Action) → IsRight action → Bytes (position_text position ++ ballot_text ballot ++ action_text action)
unfolding number_text
vote_is position ballot action right =
    join (position_text position) (ballot_text ballot ++ action_text action) (number_bytes w16 position) (join (ballot_text ballot) (action_text action) (number_bytes w64 ballot) (action_is action right))

reply_is : (reply : Reply) → Bytes (reply_text reply)
reply_is (replies.Value z) = (omega arith, number_bytes w64 (cast_unsigned w64 z))
reply_is (replies.Truth true) = (omega arith, (omega arith, tt))
reply_is (replies.Truth false) = (omega arith, (omega arith, tt))
reply_is replies.ConstraintError = (omega arith, tt)
reply_is replies.ProgramError = (omega arith, tt)
reply_is replies.NoSuchOperation = (omega arith, tt)

range_is : (range : Range) → range.count ≤ 64 → Bytes (range_text range)
range_is range few = join (position_text range.first) (range.count ∷ []) (number_bytes w16 range.first) (omega (arith, few), tt)

placed_is : (placed : PlacedVote) → IsRightVote placed.vote → Bytes (placed_text placed)
unfolding number_text
placed_is placed right = vote_is placed.position placed.vote.ballot placed.vote.action right

at_most : (n : ℕ) → min 200 n ≤ 200
at_most n = omega arith

body_is : (m : Message) → IsPacket m → (body : Body) → m.body ≡ body → IsBody body → MaySay m.from m.to body → Bytes (body_text_at V2 body)
unfolding number_text
body_is m is (bodies.Call action) e ranges rules = action_is action rules.3
body_is m is (bodies.Prepare position ballot) e ranges rules = join (position_text position) (ballot_text ballot) (number_bytes w16 position) (number_bytes w64 ballot)
body_is m is (bodies.Promise position ballot None) e ranges rules =
    join (position_text position) (ballot_text ballot ++ last_text None) (number_bytes w16 position) (join (ballot_text ballot) (last_text None) (number_bytes w64 ballot) (omega arith, tt))
body_is m is (bodies.Promise position ballot (Some vote)) e ranges rules =
    join (position_text position) (ballot_text ballot ++ last_text (Some vote)) (number_bytes w16 position)
    (join (ballot_text ballot) (last_text (Some vote)) (number_bytes w64 ballot) (join (1 ∷ ballot_text vote.ballot) (action_text vote.action) (omega arith, number_bytes w64 vote.ballot) (action_is vote.action rules.1.1)))
body_is m is (bodies.Accept position ballot action) e ranges rules = vote_is position ballot action rules.1
body_is m is (bodies.Accepted position ballot action) e ranges rules = vote_is position ballot action rules.1
body_is m is (bodies.Decided position action) e ranges rules = join (position_text position) (action_text action) (number_bytes w16 position) (action_is action rules.1)
body_is m is (bodies.Ask position) e ranges rules = number_bytes w16 position
body_is m is (bodies.Nack position ballot bound) e ranges rules =
    join (position_text position) (ballot_text ballot ++ ballot_text bound) (number_bytes w16 position) (join (ballot_text ballot) (ballot_text bound) (number_bytes w64 ballot) (number_bytes w64 bound))
body_is m is (bodies.Reply number reply) e ranges rules = join (number_text w32 number) (reply_text reply) (number_bytes w32 number) (reply_is reply)
body_is m is (bodies.Report first applied list) e ranges rules =
    join (position_text first) (number_text w16 applied ++ length list ∷ flat_map action_text list) (number_bytes w16 first)
    (join (number_text w16 applied) (length list ∷ flat_map action_text list) (number_bytes w16 applied)
    (omega (arith, rules.2.len, at_most (applied + 1 - first)), flat_bytes IsRight action_text list action_is rules.2.right))
body_is m is (bodies.PrepareRange range ballot) e ranges rules = join (range_text range) (ballot_text ballot) (range_is range ranges.0.count.1) (number_bytes w64 ballot)
body_is m is (bodies.PromiseRange range ballot votes) e ranges rules =
    join (range_text range) (ballot_text ballot ++ length votes ∷ flat_map placed_text votes) (range_is range ranges.0.count.1)
    (join (ballot_text ballot) (length votes ∷ flat_map placed_text votes) (number_bytes w64 ballot)
    (few_votes m range ballot votes is e, flat_bytes (λ (placed : PlacedVote). IsRightVote placed.vote) placed_text votes placed_is rules.1.right))

-- ---- packets

party_is : (party : Party) → IsParty party → party_number party < 256
party_is (parties.Node n) is = omega (arith, is.1)
party_is (parties.Task t) is = omega (arith, is.1)
party_is parties.Audit is = omega arith

kind_is : (body : Body) → kind_number body < 256
kind_is (bodies.Call action) = omega arith
kind_is (bodies.Prepare position ballot) = omega arith
kind_is (bodies.Promise position ballot last) = omega arith
kind_is (bodies.Accept position ballot action) = omega arith
kind_is (bodies.Accepted position ballot action) = omega arith
kind_is (bodies.Decided position action) = omega arith
kind_is (bodies.Ask position) = omega arith
kind_is (bodies.Nack position ballot bound) = omega arith
kind_is (bodies.Reply number reply) = omega arith
kind_is (bodies.Report first applied list) = omega arith
kind_is (bodies.PrepareRange range ballot) = omega arith
kind_is (bodies.PromiseRange range ballot votes) = omega arith

pub packet_bytes : (m : Message) → IsPacket m → Bytes (text_of m)
unfolding number_text
packet_bytes m is =
    join (head_text m) (body_text_at V2 m.body) (omega arith, (kind_is m.body, (party_is m.from is.ranges.from, (party_is m.to is.ranges.to, tt))))
    (body_is m is m.body refl is.ranges.body is.rules)

-- ---- requests

pub position_bytes : (position : ℕ) → Bytes (to_be_bytes w16 position)
position_bytes position = high_bytes 2 position

operation_asked : (operation : Operation) → IsRightOperation operation → Bytes (operation_bytes operation)
operation_asked (operations.Function index) right = (omega arith, (omega (arith, right.1), tt))
operation_asked (operations.Procedure index) right = (omega arith, (omega (arith, right.1), tt))
operation_asked (operations.Entry index) right = (omega arith, (omega (arith, right.1), tt))
operation_asked (operations.SetTimer index) right = (omega arith, (omega (arith, right.1), tt))
operation_asked (operations.CancelTimer index) right = (omega arith, (omega (arith, right.1), tt))

pub call_bytes : (node object : ℕ) (operation : Operation) (arg : ℤ) → node ≤ 7 → object ≤ 8 → IsRightOperation operation → Bytes (task_request_text (MakeCall node object operation arg))
call_bytes node object operation arg within few right =
    (omega arith, (omega (arith, within), (omega (arith, few), join (operation_bytes operation) (to_be_bytes w64 (cast_unsigned w64 arg)) (operation_asked operation right) (high_bytes 8 (cast_unsigned w64 arg)))))
