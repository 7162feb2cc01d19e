-- A packet's text is as long as its kind and a byte or two of it say.
use Rattle.std.proofs.Common.{◌≡◌, ◌≢◌, ℕ, ◌+◌, ◌<◌, Bool, true, false, cond, List, ◌∷◌, ◌++◌, length, get_or, Some, None, refl, sym, ap, subst, ◌∙◌, arith, length-append}
use Rattle.std.specs.Prelude.{◌==◌, if◌then◌else◌}
use Rattle.std.proofs.lemmas.Bool.{eq-eqb, ne_eqb}
use Rattle.rp_base.specs.declared.action.Action.{Action}
use Rattle.rp_base.specs.declared.action.Action.TheVariants as actions
use Rattle.rp_base.specs.declared.reply.Reply.{Reply}
use Rattle.rp_base.specs.declared.reply.Reply.TheVariants as replies
use Rattle.rp_codec.specs.declared.packet.Party.{Party}
use Rattle.rp_codec.specs.declared.packet.Party.TheVariants.{Node, Task, Audit}
use Rattle.rp_codec.specs.declared.packet.Body.{Body}
use Rattle.rp_codec.specs.declared.packet.Body.TheVariants as bodies
use Rattle.rp_codec.specs.declared.version.Version.{Version}
use Rattle.rp_codec.specs.Version.{version_number}
use Rattle.rp_codec.specs.Length.{action_length, reply_length}
use Rattle.rp_codec.specs.Message.{Message, IsPacket, MaySay}
use Rattle.rp_codec.specs.Text.{number_text, operation_text_at, action_text_at, reply_text, party_number, kind_number, body_text_at, text_at, text_of, signed_text, IsTextBefore}
use Rattle.rp_codec.proofs.VersionLaws.{operation_long, call_long, text_same}

-- ---- parts

action_long : (v : Version) (action : Action) (rest : List ℕ) → action_length (get_or (action_text_at v action ++ rest) 0 0) ≡ length (action_text_at v action)
unfolding number_text
action_long v actions.Noop rest = refl
action_long v (actions.Call task number object operation arg) rest =
    omega (arith, operation_long v operation, length-append (operation_text_at v operation) (signed_text arg))
action_long v (actions.Interrupt source occurrence) rest = refl
action_long v (actions.Tick now) rest = refl

reply_long : (reply : Reply) (rest : List ℕ) → reply_length (get_or (reply_text reply ++ rest) 0 0) ≡ length (reply_text reply)
unfolding number_text
reply_long (replies.Value z) rest = refl
reply_long (replies.Truth false) rest = refl
reply_long (replies.Truth true) rest = refl
reply_long replies.ConstraintError rest = refl
reply_long replies.ProgramError rest = refl
reply_long replies.NoSuchOperation rest = refl

-- ---- packets

-- how long a text is that is no report's
abbrev pub length_at : ℕ → List ℕ → ℕ → ℕ
length_at kind bytes other =
    if kind == 1 then 21 else
    if kind == 2 then 14 else
    if kind == 3 then (if get_or bytes 14 0 == 0 then 15 else 23 + action_length (get_or bytes 23 0)) else
    if kind == 4 then 14 + action_length (get_or bytes 14 0) else
    if kind == 5 then 14 + action_length (get_or bytes 14 0) else
    if kind == 6 then 6 + action_length (get_or bytes 6 0) else
    if kind == 7 then 6 else
    if kind == 8 then 22 else
    if kind == 9 then 8 + reply_length (get_or bytes 8 0) else
    if kind == 12 then 15 else
    other

-- a body between parties of these numbers
abbrev framed : Version → ℕ → ℕ → Body → List ℕ
framed v from to body = version_number v ∷ kind_number body ∷ from ∷ to ∷ body_text_at v body

task_call_long : (v : Version) (from to : Party) (action : Action) → MaySay from to (bodies.Call action) → length (action_text_at v action) ≡ 17
task_call_long v (Task t) to (actions.Call task number object operation arg) rules = call_long v task number object operation arg
task_call_long v (Task t) to actions.Noop rules = absurd rules.2
task_call_long v (Task t) to (actions.Interrupt source occurrence) rules = absurd rules.2
task_call_long v (Task t) to (actions.Tick now) rules = absurd rules.2
task_call_long v (Node n) to action rules = absurd rules.0
task_call_long v Audit to action rules = absurd rules.0

body_long : (v : Version) (from to : Party) (f t : ℕ) (body : Body) (rest : List ℕ) → MaySay from to body
    → length_at (kind_number body) (framed v f t body ++ rest) (length (framed v f t body)) ≡ length (framed v f t body)
unfolding number_text
body_long v from to f t (bodies.Call action) rest rules = omega (arith, task_call_long v from to action rules)
body_long v from to f t (bodies.Promise position ballot (Some vote)) rest rules = omega (arith, action_long v vote.action rest)
body_long v from to f t (bodies.Accept position ballot action) rest rules = omega (arith, action_long v action rest)
body_long v from to f t (bodies.Accepted position ballot action) rest rules = omega (arith, action_long v action rest)
body_long v from to f t (bodies.Decided position action) rest rules = omega (arith, action_long v action rest)
body_long v from to f t (bodies.Reply number reply) rest rules = omega (arith, reply_long reply rest)
body_long v from to f t _ rest rules = refl

pub stated : (kind : ℕ) (bytes : List ℕ) → get_or bytes 1 0 ≡ kind → (p : Message) (rest : List ℕ) → IsPacket p → IsTextBefore p rest bytes
    → length_at kind bytes (length (text_of p)) ≡ length (text_of p)
stated kind bytes is p rest packet (v, has, parts) =
    let same : kind ≡ kind_number p.body = sym is ∙ ap (λ (l : List ℕ). get_or l 1 0) parts in
    subst (λ (n : ℕ). length_at kind bytes n ≡ n) (text_same v p)
    (ap (λ (k : ℕ). length_at k bytes (length (text_at v p))) same
    ∙ ap (λ (l : List ℕ). length_at (kind_number p.body) l (length (text_at v p))) parts
    ∙ body_long v p.from p.to (party_number p.from) (party_number p.to) p.body rest packet.rules)

pub kind_empty : (bytes : List ℕ) → get_or bytes 1 0 ≡ 3 → get_or bytes 14 0 ≡ 0 → (p : Message) (rest : List ℕ) → IsPacket p → IsTextBefore p rest bytes → 15 ≡ length (text_of p)
kind_empty bytes is flag p rest packet text =
    subst (λ (b : Bool). cond b 15 (23 + action_length (get_or bytes 23 0)) ≡ length (text_of p)) (eq-eqb _ _ flag) (stated 3 bytes is p rest packet text)

pub kind_voted : (bytes : List ℕ) → get_or bytes 1 0 ≡ 3 → get_or bytes 14 0 ≢ 0 → (p : Message) (rest : List ℕ) → IsPacket p → IsTextBefore p rest bytes → 23 + action_length (get_or bytes 23 0) ≡ length (text_of p)
kind_voted bytes is flag p rest packet text =
    subst (λ (b : Bool). cond b 15 (23 + action_length (get_or bytes 23 0)) ≡ length (text_of p)) (ne_eqb _ _ flag) (stated 3 bytes is p rest packet text)

-- ---- the bytes that say so are there

positive_action : (v : Version) (action : Action) → 0 < length (action_text_at v action)
positive_action v actions.Noop = omega arith
positive_action v (actions.Call task number object operation arg) = omega arith
positive_action v (actions.Interrupt source occurrence) = omega arith
positive_action v (actions.Tick now) = omega arith

positive_reply : (reply : Reply) → 0 < length (reply_text reply)
positive_reply (replies.Value z) = omega arith
positive_reply (replies.Truth b) = omega arith
positive_reply replies.ConstraintError = omega arith
positive_reply replies.ProgramError = omega arith
positive_reply replies.NoSuchOperation = omega arith

-- the place of the byte on which the length depends
abbrev pub place_of : ℕ → ℕ
place_of kind =
    if kind == 3 then 14 else
    if kind == 4 then 14 else
    if kind == 5 then 14 else
    if kind == 6 then 6 else
    if kind == 9 then 8 else
    0

body_within : (v : Version) (f t : ℕ) (body : Body) (rest : List ℕ) → place_of (kind_number body) < length (framed v f t body ++ rest)
unfolding number_text
body_within v f t (bodies.Promise position ballot (Some vote)) rest = omega arith
body_within v f t (bodies.Accept position ballot action) rest = omega (arith, positive_action v action, length-append (action_text_at v action) rest)
body_within v f t (bodies.Accepted position ballot action) rest = omega (arith, positive_action v action, length-append (action_text_at v action) rest)
body_within v f t (bodies.Decided position action) rest = omega (arith, positive_action v action, length-append (action_text_at v action) rest)
body_within v f t (bodies.Reply number reply) rest = omega (arith, positive_reply reply, length-append (reply_text reply) rest)
body_within v f t _ rest = omega arith

pub within : (kind : ℕ) (bytes : List ℕ) → get_or bytes 1 0 ≡ kind → (p : Message) (rest : List ℕ) (v : Version) → bytes ≡ text_at v p ++ rest → place_of kind < length bytes
within kind bytes is p rest v parts =
    let same : kind_number p.body ≡ kind = ap (λ (l : List ℕ). get_or l 1 0) (sym parts) ∙ is in
    subst (λ (l : List ℕ). place_of kind < length l) (sym parts) (subst (λ (k : ℕ). place_of k < length (text_at v p ++ rest)) same (body_within v (party_number p.from) (party_number p.to) p.body rest))

-- the vote of a promise that reports one
abbrev vote_place : ℕ → ℕ → ℕ
vote_place kind flag = if kind == 3 then (if flag == 0 then 0 else 23) else 0

vote_within : (v : Version) (f t : ℕ) (body : Body) (rest : List ℕ) → vote_place (kind_number body) (get_or (framed v f t body ++ rest) 14 0) < length (framed v f t body ++ rest)
unfolding number_text
vote_within v f t (bodies.Promise position ballot (Some vote)) rest = omega (arith, positive_action v vote.action, length-append (action_text_at v vote.action) rest)
vote_within v f t _ rest = omega arith

pub voted_within : (bytes : List ℕ) → get_or bytes 1 0 ≡ 3 → get_or bytes 14 0 ≢ 0 → (p : Message) (rest : List ℕ) (v : Version) → bytes ≡ text_at v p ++ rest → 23 < length bytes
voted_within bytes is flag p rest v parts =
    let same : kind_number p.body ≡ 3 = ap (λ (l : List ℕ). get_or l 1 0) (sym parts) ∙ is in
    let at_text : vote_place 3 (get_or (text_at v p ++ rest) 14 0) < length (text_at v p ++ rest) = subst (λ (k : ℕ). vote_place k (get_or (text_at v p ++ rest) 14 0) < length (text_at v p ++ rest)) same (vote_within v (party_number p.from) (party_number p.to) p.body rest) in
    let here : vote_place 3 (get_or bytes 14 0) < length bytes = subst (λ (l : List ℕ). vote_place 3 (get_or l 14 0) < length l) (sym parts) at_text in
    subst (λ (b : Bool). cond b 0 23 < length bytes) (ne_eqb _ _ flag) here
