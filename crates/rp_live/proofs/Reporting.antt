-- A report goes from a node to the audit.
use Rattle.std.proofs.Common.{◌≡◌, ◌≢◌, ◌⊎◌, ◌≤◌, ◌<◌, ◌+◌, ◌-◌, min, nat_lt, Bool, true, false, if◌then◌else◌, ℕ, zero, suc, Result, Ok, Err, List, [], ◌∷◌, ◌++◌, take, inl, inr, refl, sym, ap, subst, ◌∙◌, length, arith}
use Rattle.std.proofs.lemmas.Grind.{common_steps}
use Rattle.std.specs.Prelude.{IfErr, OnOk}
use Rattle.rp_threads.specs.rp_base.specs.declared.action.Action.{Action}
use Rattle.rp_threads.specs.rp_base.specs.declared.reply.Answer.{Answer}
use Rattle.rp_threads.specs.rp_base.specs.Records.{applied_of}
use Rattle.rp_threads.specs.rp_base.specs.Sets.{Has}
use Rattle.rp_threads.specs.rp_base.proofs.Members.{has_right}
use Rattle.rp_threads.specs.rp_codec.specs.Message.{Message, IsPacket}
use Rattle.rp_threads.specs.rp_codec.specs.Text.{text_of}
use Rattle.rp_threads.specs.rp_codec.specs.declared.packet.Party.TheVariants.{Node}
use Rattle.rp_boxes.specs.rp_model.specs.Plans.{report_of}
use Rattle.rp_boxes.specs.rp_model.specs.World.{with_part}
use Rattle.rp_threads.specs.rp_replica.specs.declared.sent.Sent.{Sent}
use Rattle.rp_board.specs.Parts.{Part}
use Rattle.rp_board.specs.Moments.{WasInUse, WasPut}
use Rattle.rp_board.specs.Seats.{SeatState, IsPut, IsSentText}
use Rattle.rp_boxes.specs.Audits.{Audited, IsAdded, known_of, report, with_reported}
use Rattle.rp_boxes.specs.declared.audit.Added.{Added}
use Rattle.rp_boxes.specs.NodeSeats.{HasApplied, IsReport}
use Rattle.rp_boxes.proofs.Auditing.{each_with}
use Rattle.rp_threads.specs.Turns.{IsOfferedToBox}
use Rattle.rp_threads.proofs.Puts.{HasOnlyPut, given_back, offer_puts, went_in}
use Rattle.rp_live.specs.Seats.{AreReports, HasOnlyReported, IsRead, KnowsMore, KnowsSameBut, Reports}

-- ---- the node reports

pub report_sent : {P : Type 0} (first : ℕ) (old new : SeatState P) (sent : Sent) → IsReport first old new sent → IsSentText new.part sent.bytes.items
report_sent {P} first old new sent r =
    let packet = report_of old.setup.number first (applied_of r.node.records) in
    (packet, subst (λ (c : SeatState P). Has packet c.part.sent) (sym r.after) (has_right packet old.part.sent (packet ∷ []) (inl refl)), r.text)

module _ {S P : Type 0} (next : S → Action → S) (answers : S → Action → List Answer) (begin : P → S) where
  -- the report is put, or given back
  pub put_or_back : {A E : Type 0} (result : Result A E) (text : List ℕ) (old new : SeatState P) → OnOk result (IsPut text old new) → OnOk result (WasPut next answers begin (Node new.setup.number) text new)
      → IfErr result (λ back. new ≡ old) → IfErr result (λ back. WasInUse next answers begin (Node new.setup.number) text new)
      → (is_lost : Bool) × IsOfferedToBox next answers begin (Node old.setup.number) text old new is_lost
  put_or_back (Ok x) text old new put full same used = (false, went_in next answers begin Node text old new put full)
  put_or_back (Err e) text old new put full same used = (true, given_back next answers begin Node text old new new refl same used)

  module _ (first : ℕ) (old new : SeatState P) (r : Reports next answers begin first old new) where
    report_puts : HasOnlyPut r.stepped new
    report_puts = offer_puts next answers begin (Node r.stepped.setup.number) r.sent.bytes.items r.stepped new r.is_lost r.offered

    pub only_reported : HasOnlyReported old new
    only_reported = record {
      same = ap (λ (c : SeatState P). c.setup) report_puts.after ∙ ap (λ (c : SeatState P). c.setup) r.report.after;
      role = ap (λ (c : SeatState P). c.part.role) report_puts.after ∙ ap (λ (c : SeatState P). c.part.role) r.report.after ∙ sym r.report.was;
    }

-- ---- a node that reported

module _ {P : Type 0} where
  pub reported_on : (a b c : SeatState P) → HasOnlyReported a b → HasOnlyReported b c → HasOnlyReported a c
  reported_on a b c ab bc = record { same = bc.same ∙ ab.same; role = bc.role ∙ ab.role }

pub role_applied : (old new : Part) (count : ℕ) → new.role ≡ old.role → HasApplied old count → HasApplied new count
role_applied old new count same h = (h.0, same ∙ h.1, h.2, h.3)

-- ---- the audit knows more

pub more_same : (known : List (List Action)) → KnowsMore known known
more_same known = λ node. omega arith

pub more_on : (a b c : List (List Action)) → KnowsMore a b → KnowsMore b c → KnowsMore a c
more_on a b c ab bc = λ node. let first = ab node in let then_more = bc node in omega (arith, first, then_more)

less_of : (m n : ℕ) → nat_lt m n ≡ true → m < n
less_of m n is = grind (arith, common_steps)

longer : (old new : List Action) (above : Bool) → nat_lt (length old) (length new) ≡ above → length old ≤ length (if above then new else old)
longer old new true is = let less = less_of (length old) (length new) is in omega (arith, less)
longer old new false is = omega arith

more_with : (known : List (List Action)) (node : ℕ) (list : List Action) → length (known_of known node) ≤ length list → KnowsMore known (with_part known node list)
more_with known node list more = each_with (λ k now. length (known_of known k) ≤ length now) known node list (more_same known) more

-- ---- reports, one after the other

module _ {S P : Type 0} (next : S → Action → S) (answers : S → Action → List Answer) (begin : P → S) where
  -- one report more, asked for in the right way, after which more is known
  pub one_more_report : (start first_position known more : ℕ) (first between now : SeatState P) → ((n : ℕ) × AreReports next answers begin start first n known between) → first_position ≡ known + 1
      → Reports next answers begin first_position between now → known < more → (n : ℕ) × AreReports next answers begin start first n more now
  one_more_report start at known more first between now so_far is reports less =
      (suc so_far.0, (known, between, so_far.1, subst (λ (k : ℕ). Reports next answers begin k between now) is reports, less))

  -- all is known
  pub all_read : (start known applied : ℕ) (first now : SeatState P) → ((n : ℕ) × AreReports next answers begin start first n known now) → HasApplied now.part applied → min applied 65535 ≤ known
      → IsRead next answers begin start first now known
  all_read start known applied first now so_far has all = record { applied = applied; has = has; reports = so_far.0; read = inl (so_far.1, all) }

  -- a report made nothing more known
  pub no_more_read : (start first_position known now_known applied : ℕ) (first between now : SeatState P) → ((n : ℕ) × AreReports next answers begin start first n known between) → first_position ≡ known + 1
      → Reports next answers begin first_position between now → HasApplied now.part applied → known ≤ now_known → now_known ≤ known → IsRead next answers begin start first now now_known
  no_more_read start at known now_known applied first between now so_far is reports has some few =
      let same : known ≡ now_known = omega (arith, some, few) in
      subst (IsRead next answers begin start first now) same
      (record { applied = applied; has = has; reports = so_far.0; read = inr (between, so_far.1, subst (λ (k : ℕ). Reports next answers begin k between now) is reports) })

-- ---- of other nodes the same is known

pub same_known : (number : ℕ) (known : List (List Action)) → KnowsSameBut number known known
same_known number known = λ node other. refl

pub same_known_on : (number : ℕ) (a b c : List (List Action)) → KnowsSameBut number a b → KnowsSameBut number b c → KnowsSameBut number a c
same_known_on number a b c ab bc = λ node other. bc node other ∙ ab node other

same_with : (known : List (List Action)) (node : ℕ) (list : List Action) → KnowsSameBut node known (with_part known node list)
same_with known node list = each_with (λ k now. k ≢ node → now ≡ known_of known k) known node list (λ k other. refl) (λ other. absurd (other refl))

-- ---- the audit adds a report

le_or_above : (a b : ℕ) → (a ≤ b) ⊎ (b < a)
le_or_above zero b = inl (omega arith)
le_or_above (suc a) zero = inr (omega arith)
le_or_above (suc a) (suc b) = elim (le_or_above a b) [ inl le ↦ inl (omega (arith, le)) | inr above ↦ inr (omega (arith, above)) ]

pub added_seat : {P : Type 0} (old : Audited P) (bytes : List ℕ) (new : Audited P) (outcome : Added) → IsAdded old bytes new outcome → new.seat ≡ old.seat
added_seat {P} old bytes new outcome a =
    elim (le_or_above a.first (length (known_of old.known a.node) + 1)) [
      | inl within ↦ ap (λ (x : Audited P). x.seat) (a.joined.joined within).0
      | inr gap ↦ ap (λ (x : Audited P). x.seat) (a.joined.gap gap).0
    ]

pub added_more : {P : Type 0} (old : Audited P) (bytes : List ℕ) (new : Audited P) (outcome : Added) → IsAdded old bytes new outcome → KnowsMore old.known new.known
added_more {P} old bytes new outcome a =
    let list = known_of old.known a.node in
    elim (le_or_above a.first (length list + 1)) [
      | inl within ↦
          let reported = take (a.first - 1) list ++ a.actions in
          subst (KnowsMore old.known) (sym (ap (λ (x : Audited P). x.known) (a.joined.joined within).0))
          (more_with old.known a.node (with_reported list a.first a.actions) (longer list reported (nat_lt (length list) (length reported)) refl))
      | inr gap ↦ subst (KnowsMore old.known) (sym (ap (λ (x : Audited P). x.known) (a.joined.gap gap).0)) (more_same old.known)
    ]

-- no packet's text begins another's
abbrev OneText : Type 0
OneText = (p q : Message) (x y : List ℕ) → IsPacket p → IsPacket q → text_of p ++ x ≡ text_of q ++ y → (p ≡ q) × (x ≡ y)

-- what the node of this number sent, and the audit got and added, changes nothing of other nodes
pub added_others : {P : Type 0} → OneText → (number : ℕ) (old : Audited P) (bytes : List ℕ) (new : Audited P) (outcome : Added) (packet : Message) → IsPacket packet
    → bytes ≡ text_of packet → packet.from ≡ Node number → IsAdded old bytes new outcome → KnowsSameBut number old.known new.known
added_others {P} one number old bytes new outcome packet right text from a =
    let stated = report a.node a.first a.applied a.actions in
    let same : packet ≡ stated = (one packet stated [] [] right a.right (ap (λ (t : List ℕ). t ++ []) (sym text ∙ a.text))).0 in
    let party : Node number ≡ Node a.node = sym from ∙ ap (λ (m : Message). m.from) same in
    let node : a.node ≡ number = cc in
    let list = known_of old.known a.node in
    subst (λ (k : ℕ). KnowsSameBut k old.known new.known) node
    (elim (le_or_above a.first (length list + 1)) [
      | inl within ↦
          subst (KnowsSameBut a.node old.known) (sym (ap (λ (x : Audited P). x.known) (a.joined.joined within).0))
          (same_with old.known a.node (with_reported list a.first a.actions))
      | inr gap ↦ subst (KnowsSameBut a.node old.known) (sym (ap (λ (x : Audited P). x.known) (a.joined.gap gap).0)) (same_known a.node old.known)
    ])
