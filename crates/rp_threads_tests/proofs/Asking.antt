-- What a call or a report sent is one packet, and the bytes are its text.
use Rattle.std.proofs.Common.{◌≡◌, ℕ, ℤ, Result, Ok, Err, List, [], ◌∷◌, ◌++◌, length, slice_index_or, refl, sym, ap, subst, ◌∙◌, append-nil, inl, arith}
use Rattle.std.specs.Prelude.{IfOk}
use Rattle.rp_threads.specs.atomic_table.specs.Seated.{TableId}
use Rattle.rp_threads.specs.rp_base.specs.Records.{applied_of}
use Rattle.rp_threads.specs.rp_base.specs.Sets.{Has}
use Rattle.rp_threads.specs.rp_base.specs.declared.action.Action.{Action}
use Rattle.rp_threads.specs.rp_base.specs.declared.action.Operation.{Operation}
use Rattle.rp_threads.specs.rp_base.specs.declared.config.Config.{Config}
use Rattle.rp_threads.specs.rp_base.specs.declared.fault.Fault.{Fault}
use Rattle.rp_threads.specs.rp_base.proofs.Members.{has_right}
use Rattle.rp_threads.specs.rp_codec.specs.Message.{Message}
use Rattle.rp_threads.specs.rp_codec.specs.Text.{text_of}
use Rattle.rp_threads.specs.rp_codec.specs.declared.packet.Party.{Party}
use Rattle.rp_threads.specs.rp_model.specs.Effect.{Done}
use Rattle.rp_threads.specs.rp_model.specs.Plans.{report_of}
use Rattle.rp_threads.specs.rp_model.specs.Parts.{TaskPart, fresh_task}
use Rattle.rp_threads.specs.rp_model.specs.Tasks.{Submit, asks, calls_if, may_call, next_call}
use Rattle.rp_threads.specs.rp_outbox.specs.Packets.{texts_of}
use Rattle.rp_threads.specs.rp_replica.specs.declared.sent.Sent.{Sent}
use Rattle.rp_threads.specs.rp_board.specs.Parts.{OfTask, fresh_part}
use Rattle.rp_threads.specs.rp_board.specs.Seats.{SeatState, IsSentText, IsFetched}
use Rattle.rp_threads.specs.rp_boxes.specs.FirstSeats.{AreFirstSeats}
use Rattle.rp_threads.specs.rp_boxes.specs.NodeSeats.{IsReport}
use Rattle.rp_threads.specs.rp_boxes.specs.TaskSeats.{IsTaskTurn}
use Rattle.rp_threads.specs.rp_tasks.specs.Line.{Line}
use Rattle.rp_threads.specs.Lines.{HoldsTextsOf}

-- one packet was sent
abbrev SendsOne : Done TaskPart → Type 0
SendsOne done = (m : Message) × (done.sends ≡ m ∷ [])

one_call : (task node : ℕ) (part : TaskPart) (call : Result Action Fault) → IfOk (calls_if task node part call) SendsOne
one_call task node part (Ok call) = (asks task node call, refl)
one_call task node part (Err fault) = tt

pub sent_text : {P : Type 0} (old new : SeatState P) (node object : ℕ) (operation : Operation) (arg : ℤ) (sent : Sent)
    → IsTaskTurn old (Submit node object operation arg) new sent → IsSentText new.part sent.bytes.items
sent_text {P} old new node object operation arg sent turn =
    let call = next_call old.setup.number turn.task object operation arg in
    let one : SendsOne turn.done = subst (λ (r : Result (Done TaskPart) Fault). IfOk r SendsOne) turn.results
    (one_call old.setup.number node turn.task (may_call old.setup.config node turn.task call turn.task.outstanding)) in
    let after : new.part.sent ≡ old.part.sent ++ one.0 ∷ [] = ap (λ (c : SeatState P). c.part.sent) turn.after ∙ ap (λ (more : List Message). old.part.sent ++ more) one.1 in
    let text : sent.bytes.items ≡ text_of one.0 = turn.describes.bytes ∙ ap texts_of one.1 ∙ append-nil (text_of one.0) in
    (one.0, subst (Has one.0) (sym after) (has_right one.0 old.part.sent (one.0 ∷ []) (inl refl)), text)

pub sent_if : {P : Type 0} (old new : SeatState P) (node object : ℕ) (operation : Operation) (arg : ℤ) (stated : Result Sent Fault)
    → IfOk stated (λ sent. IsTaskTurn old (Submit node object operation arg) new sent) → IfOk stated (λ sent. IsSentText new.part sent.bytes.items)
sent_if old new node object operation arg (Ok sent) turn = sent_text old new node object operation arg sent turn
sent_if old new node object operation arg (Err fault) turn = tt

-- what was fetched is got
pub fetched_is_got : {P : Type 0} (from to : Party) (bytes text : List ℕ) (old new : SeatState P) → IsFetched from to bytes old new → text ≡ bytes
    → (m : Message) × Has m new.part.got × (text ≡ text_of m)
fetched_is_got {P} from to bytes text old new fetched same =
    let m = fetched.packet in
    let after : new.part.got ≡ old.part.got ++ m ∷ [] = ap (λ (c : SeatState P). c.part.got) fetched.after in
    (m, subst (Has m) (sym after) (has_right m old.part.got (m ∷ []) (inl refl)), same ∙ fetched.text)

-- what was reported is sent
pub reported_is_sent : {P : Type 0} (first : ℕ) (text : List ℕ) (old new : SeatState P) (sent : Sent) → IsReport first old new sent → text ≡ sent.bytes.items
    → IsSentText new.part text
reported_is_sent {P} first text old new sent is same =
    let m = report_of old.setup.number first (applied_of is.node.records) in
    let after : new.part.sent ≡ old.part.sent ++ m ∷ [] = ap (λ (c : SeatState P). c.part.sent) is.after in
    (m, subst (Has m) (sym after) (has_right m old.part.sent (m ∷ []) (inl refl)), same ∙ is.text)

-- a line that holds nothing holds no other text
pub nothing_held : (packets : List Message) (line : Line) → line.held ≡ [] → HoldsTextsOf packets line
nothing_held packets line none = record { each = λ text there. absurd (subst (λ (held : List (List ℕ)). Has text held) none there) }

-- the first task did nothing yet
pub first_is_fresh : {P : Type 0} (table : TableId) (config : Config) (program : P) (tasks : List (SeatState P)) (seat : SeatState P) → length tasks ≡ 8
    → AreFirstSeats table config program 8 [] tasks → seat ≡ slice_index_or tasks 0 seat → seat.part ≡ fresh_part (OfTask fresh_task)
first_is_fresh table config program [] seat eight are is = absurd (omega (arith, eight))
first_is_fresh {P} table config program (x ∷ xs) seat eight are is = ap (λ (c : SeatState P). c.part) (is ∙ are 0)
