-- What the audit gets is a report of a node.
use Rattle.std.proofs.Common.{◌≡◌, ℕ, Option, Some, None, Vec, List, [], ◌∷◌, refl, sym, ap, subst, ◌∙◌, inl}
use Rattle.std.specs.Prelude.{IfSome, IfNone}
use Rattle.std.specs.declared.alloc.Global.{Global}
use Rattle.rp_base.specs.Sets.{Has}
use Rattle.rp_base.specs.declared.action.Action.{Action}
use Rattle.rp_base.proofs.Members.{has_left, has_right}
use Rattle.rp_codec.specs.Message.{Message, IsPacket, MaySay}
use Rattle.rp_codec.specs.Text.{text_of}
use Rattle.rp_codec.specs.declared.packet.Body.{Body}
use Rattle.rp_codec.specs.declared.packet.Body.TheVariants.{Promise, Accept, Accepted, Decided, Nack, Report, PromiseRange}
use Rattle.rp_codec.specs.declared.packet.Party.{Party}
use Rattle.rp_codec.specs.declared.packet.Party.TheVariants.{Node, Task, Audit}
use Rattle.rp_board.specs.Parts.{with_got}
use Rattle.rp_board.specs.Seats.{SeatState, IsFetched}
use Rattle.rp_boxes.specs.Audits.{IsGotReport, report}

-- who reports to the audit is a node, and sends a report
stated_by : (from : Party) (body : Body) → MaySay from Audit body
    → (node : ℕ) × (first : ℕ) × (applied : ℕ) × (actions : List Action) × (from ≡ Node node) × (body ≡ Report first applied actions)
stated_by from (Promise position ballot last) says = absurd says.0.1
stated_by from (Accept position ballot action) says = absurd says.0.1
stated_by from (Accepted position ballot action) says = absurd says.0.1
stated_by from (Decided position action) says = absurd says.0.1
stated_by from (Nack position ballot bound) says = absurd says.0.1
stated_by (Node n) (Report first applied actions) says = (n, first, applied, actions, refl, refl)
stated_by (Task t) (Report first applied actions) says = absurd says.0
stated_by Audit (Report first applied actions) says = absurd says.0
stated_by from (PromiseRange range ballot votes) says = absurd says.0.1
stated_by from _ says = absurd says.1

is_report : (m : Message) → IsPacket m → m.to ≡ Audit → (node : ℕ) × (first : ℕ) × (applied : ℕ) × (actions : List Action) × (m ≡ report node first applied actions)
is_report m right to =
    let by = stated_by m.from m.body (subst (λ (party : Party). MaySay m.from party m.body) to right.rules) in
    (by.0, by.1, by.2, by.3, λ k. record { from = by.4 k; to = to k; body = by.5 k })

-- it is got with the packet
pub got_report : {P : Type 0} (from : Party) (bytes : List ℕ) (old new : SeatState P) → IsFetched from Audit bytes old new → IsGotReport new.part bytes
got_report from bytes old new is =
    let by = is_report is.packet is.right is.receiver in
    let here : Has is.packet (with_got is.packet old.part).got = has_right is.packet old.part.got (is.packet ∷ []) (inl refl) in
    subst (λ seat_state. IsGotReport seat_state.part bytes) (sym is.after)
    (by.0, by.1, by.2, by.3, subst (λ (m : Message). Has m (with_got is.packet old.part).got) by.4 here, is.text ∙ ap text_of by.4)

-- what was got before stays got
pub got_still : {P : Type 0} (from : Party) (old new : SeatState P) (found : Option (Vec ℕ Global))
    → IfSome found (λ text. IsFetched from Audit text.items old new) → IfNone found (new ≡ old) → (text : List ℕ) → IsGotReport old.part text → IsGotReport new.part text
got_still from old new None some none text got = subst (λ seat_state. IsGotReport seat_state.part text) (sym none) got
got_still from old new (Some found) some none text got =
    let m = report got.0 got.1 got.2 got.3 in
    subst (λ seat_state. IsGotReport seat_state.part text) (sym some.after)
    (got.0, got.1, got.2, got.3, has_left m old.part.got (some.packet ∷ []) got.4, got.5)

pub all_got : {P : Type 0} (from : Party) (old new : SeatState P) (found : Option (Vec ℕ Global))
    → IfSome found (λ text. IsFetched from Audit text.items old new) → IfSome found (λ text. IsGotReport new.part text.items)
all_got from old new None some = tt
all_got from old new (Some text) some = got_report from text.items old new some
