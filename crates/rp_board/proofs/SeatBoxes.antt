-- What a step at a box is for a seat.
use Rattle.std.proofs.Common.{◌≡◌, ◌≢◌, ℕ, Option, Some, None, Result, Ok, Err, Vec, List, [], ◌∷◌, inl, refl, sym, ap, subst, ◌∙◌, arith}
use Rattle.std.specs.Prelude.{IfSome, IfNone, IfErr, OnOk, IsErrAnd}
use Rattle.std.specs.declared.alloc.Global.{Global}
use Rattle.atomic_table.specs.Seated.{TableId}
use Rattle.atomic_table.specs.declared.owned.Table.{Table}
use Rattle.atomic_table.specs.declared.shared.Seat.{Seat}
use Rattle.rp_base.specs.Sets.{Has}
use Rattle.rp_base.proofs.Members.{has_right}
use Rattle.rp_codec.specs.Message.{Message, IsPacket, IsParty}
use Rattle.rp_codec.specs.Text.{text_of}
use Rattle.rp_codec.specs.declared.packet.Party.{Party}
use Rattle.rp_codec.specs.declared.packet.Party.TheVariants.{Node, Task, Audit}
use Rattle.rp_model.specs.Effect.{Setting}
use Rattle.rp_model.specs.rp_machine.specs.declared.machine.Machine.{Ghosts}
use Rattle.rp_board.specs.Looks.{IsWorldOf, HasWorld, WasSent}
use Rattle.rp_board.specs.Moments.{WasFull, WasInUse, WasNotFull, WasPut, WasWord}
use Rattle.rp_board.specs.Parts.{Part, Role, View, actor_of, box_of, part_in, with_got, with_put}
use Rattle.rp_board.specs.Plays.{IsPutBy, Sight, alone}
use Rattle.rp_board.specs.Rule.{IsCarried, HasOwnPackets}
use Rattle.rp_board.specs.Seats.{SeatSetup, SeatState, IsAtTable, IsFetched, IsPut, IsSentText, table_setting}
use Rattle.rp_board.specs.declared.board.Known.{Known}
use Rattle.rp_board.specs.declared.board.Law.{Law}
use Rattle.rp_board.specs.declared.board.Setup.{Setup}
use Rattle.rp_board.proofs.Worlds.{each_more, is_sent}

-- ---- results

-- what holds at the error that an answer is
pub at_fault : {A E : Type 0} (Q : E → Type 0) (fault : E) (r : Result A E) → IsErrAnd r (λ e. e ≡ fault) → Q fault → IfErr r Q
at_fault Q fault (Ok stated) is q = tt
at_fault Q fault (Err other) is q = subst Q (sym is) q

-- ---- the table and its seats

-- the table of the seats, as a call finds it
abbrev pub Board : Type 0 → Type 0 → Type 0
Board M P = Table (Option (Vec ℕ Global)) Known (Setup M P) (Law M) Global

-- a place at it
abbrev pub Place : Type 0
Place = Seat (Option (Vec ℕ Global)) Known

-- what a place sees that knows one actor, at the table as it is
pub world_at : {M P : Type 0} (machine : Ghosts M P) (found board : Board M P) (k : ℕ) (me : Sight) (part : Part) (with : View → View) → found ≡ board → me ≡ alone k part
    → HasWorld (table_setting machine found.shared.key) (with me.0) → HasWorld (table_setting machine board.shared.key) (with ((k, part) ∷ []))
world_at {M} {P} machine found board k me part with is knows seen =
    subst (λ (z : Board M P × Sight). HasWorld (table_setting machine z.0.shared.key) (with z.1.0)) (λ i. (is i, knows i)) seen

-- a seat that knows its actor's part anew, and holds no box as before
pub at_after : (table : TableId) (k : ℕ) (old new : Place) (part : Part) → IsAtTable table old.table_id k old.me → new.table_id ≡ old.table_id → new.me ≡ alone k part
    → part.fills ≡ (part_in old.me.0).fills → part.takes ≡ (part_in old.me.0).takes → HasOwnPackets k part → IsAtTable table new.table_id k new.me
at_after table k old new part at same sees fills takes own =
    let here : IsAtTable table new.table_id k (alone k part) = record {
      same = same ∙ at.same;
      sized = at.sized;
      small = at.small;
      place = refl;
      fills = fills ∙ at.fills;
      takes = takes ∙ at.takes;
      own = own;
    } in
    subst (IsAtTable table new.table_id k) (sym sees) here

-- ---- parties

-- parties of one actor are one
pub same_party : (p q : Party) → IsParty p → IsParty q → actor_of p ≡ actor_of q → p ≡ q
same_party (Node n) (Node m) one other same = ap Node same
same_party (Node n) (Task t) one other same = absurd (omega (arith, one.1, other.0, same))
same_party (Node n) Audit one other same = absurd (omega (arith, one.0, same))
same_party (Task t) (Node m) one other same = absurd (omega (arith, one.0, other.1, same))
same_party (Task t) (Task u) one other same = ap Task (omega (arith, same))
same_party (Task t) Audit one other same = absurd (omega (arith, same))
same_party Audit (Node m) one other same = absurd (omega (arith, other.0, same))
same_party Audit (Task u) one other same = absurd (omega (arith, same))
same_party Audit Audit one other same = refl

-- ---- a seat whose actor's part changes

abbrev pub seat_with : {P : Type 0} → Part → SeatState P → SeatState P
seat_with part seat = record seat { part = part }

-- and one whose device failed so often
abbrev pub with_failures : {P : Type 0} → ℕ → SeatState P → SeatState P
with_failures failures seat = record seat { failures = failures }

-- ---- a step at a box

-- The seat of a party steps at a box: the table, as it is and as the call finds it; the party, and its actor as the
-- code names it; the seat's number; and its place before the step and after it.
pub record BoxStep (M P : Type 0) : Type 0 where
  pub board : Board M P
  pub found : Board M P
  pub is : found ≡ board
  pub party : Party
  pub actor : ℕ
  pub named : actor ≡ actor_of party
  pub number : ℕ
  pub old : Place
  pub new : Place
  pub at : IsAtTable board.shared.table_id old.table_id (actor_of party) old.me
  pub same : new.table_id ≡ old.table_id

-- the same, by what a call finds
abbrev pub box_step : {M P : Type 0} {found board : Board M P} {actor : ℕ} (party : Party) (number : ℕ) (old new : Place) → found ≡ board → actor ≡ actor_of party
    → IsAtTable board.shared.table_id old.table_id (actor_of party) old.me → new.table_id ≡ old.table_id → BoxStep M P
box_step {found = found} {board = board} {actor = actor} party number old new is named at same = record {
  board = board;
  found = found;
  is = is;
  party = party;
  actor = actor;
  named = named;
  number = number;
  old = old;
  new = new;
  at = at;
  same = same;
}

module _ {M P : Type 0} (step : BoxStep M P) where
  abbrev k : ℕ
  k = actor_of step.party

  abbrev part : Part
  part = part_in step.old.me.0

  abbrev new_part : Part
  new_part = part_in step.new.me.0

  abbrev IsAt : Type 0
  IsAt = IsAtTable step.board.shared.table_id step.new.table_id k step.new.me

  abbrev seat_state : TableId → Part → SeatState P
  seat_state table q = record {
    setup = record {
      table = table;
      config = step.board.shared.key.config;
      program = step.board.shared.key.program.value;
      number = step.number;
    };
    failures = 0;
    part = q;
  }

  -- what the seat is to a contract then
  abbrev pub after : SeatState P
  after = seat_state step.new.table_id new_part

  -- what all nodes share, as it is and as the call finds it
  module _ (machine : Ghosts M P) where
    abbrev s : Setting M
    s = table_setting machine step.board.shared.key

    abbrev here : Setting M
    here = table_setting machine step.found.shared.key

    shared : here ≡ s
    shared = ap (λ (board : Board M P). table_setting machine board.shared.key) step.is

  -- ---- it takes the packet out of the box from an actor, if it is full

  abbrev Finds : ℕ → ℕ → Vec ℕ Global → Type 0
  Finds x j text = (m : Message) × IsCarried x j text.items m × (step.new.me ≡ alone j (with_got m part))

  module _ (x : ℕ) where
    got_at : (text : Vec ℕ Global) → Finds x k text → IsAt
    got_at text found =
        let own = step.at.own in
        let got = each_more (λ (n : Message). IsPacket n × (actor_of n.to ≡ k)) found.0 part.got own.got (found.1.packet, found.1.to) in
        let right : HasOwnPackets k (with_got found.0 part) = record { sent = own.sent; put = own.put; got = got } in
        at_after step.board.shared.table_id k step.old step.new (with_got found.0 part) step.at step.same found.2 refl refl right

    by_party : (found : Option (Vec ℕ Global)) → IfSome found (Finds x step.actor) → IfSome found (Finds x k)
    by_party found some = subst (λ (j : ℕ). IfSome found (Finds x j)) step.named some

    pub fetched_at : (found : Option (Vec ℕ Global)) → IfNone found (step.new.me ≡ step.old.me) → IfSome found (Finds x step.actor) → IsAt
    fetched_at None nothing some = subst (λ (z : TableId × Sight). IsAtTable step.board.shared.table_id z.0 k z.1) (λ i. (sym step.same i, sym nothing i)) step.at
    fetched_at (Some text) nothing some = got_at text (by_party (Some text) some)

    module _ (machine : Ghosts M P) (from : Party) (other : x ≡ actor_of from) where
      was_sent : (text : Vec ℕ Global) → Finds x k text → HasWorld (here machine) step.new.me.0 → WasSent machine.next machine.answers machine.begin from step.party text.items after
      was_sent text found seen =
          let m = found.0 in
          let sees : step.new.me ≡ alone k new_part = found.2 ∙ ap (alone k) (sym (ap (λ (z : Sight). part_in z.0) found.2)) in
          let at = subst (λ (z : Setting M × Sight). IsWorldOf z.0 z.1.0 seen.0) (λ i. (shared machine i, sees i)) seen.1 in
          let known = at.knows k new_part (inl refl) in
          let got : Has m new_part.got = subst (λ (z : Sight). Has m (part_in z.0).got) (sym found.2) (has_right m part.got (m ∷ []) (inl refl)) in
          let all = (at.is.gets k known.1 m (subst (λ (p : Part). Has m p.got) (sym known.0) got)).1 in
          let sender = is_sent seen.0 16 m all in
          let is : sender.0 ≡ actor_of from = sym (at.is.sends sender.0 sender.1 m sender.2) ∙ (found.1.from ∙ other) in
          record {
            parts = seen.0;
            world = at;
            packet = m;
            text = found.1.text;
            sent = subst (λ (a : ℕ). Has m (seen.0 a).sent) is sender.2;
          }

      -- what it got was sent by the other party
      pub sent_state : (found : Option (Vec ℕ Global)) → IfSome found (Finds x step.actor) → IfSome found (λ text. HasWorld (here machine) step.new.me.0)
          → IfSome found (λ text. WasSent machine.next machine.answers machine.begin from step.party text.items after)
      sent_state None some seen = tt
      sent_state (Some text) some seen = was_sent text (by_party (Some text) some) seen

      -- the box was not full
      pub missed_state : (found : Option (Vec ℕ Global)) → IfNone found (step.new.me ≡ step.old.me) → IfNone found (WasWord (here machine) step.new.me.0 (box_of x step.actor) (λ word. word ≢ 2))
          → IfNone found (WasNotFull machine.next machine.answers machine.begin from step.party after)
      missed_state None stays missed =
          let sees : step.new.me ≡ alone k new_part = subst (λ (z : Sight). z ≡ alone k (part_in z.0)) (sym stays) step.at.place in
          subst (λ (z : Setting M × Sight × ℕ). WasWord z.0 z.1.0 z.2 (λ word. word ≢ 2)) (λ i. (shared machine i, sees i, box_of (other i) (step.named i))) missed
      missed_state (Some text) stays missed = tt

-- ---- it puts a packet into the box to its receiver

-- the text of a packet that was sent is carried to its receiver
pub carries : (j k to : ℕ) (q : Part) (bytes : List ℕ) → j ≡ k → HasOwnPackets k q → IsSentText q bytes → ((m : Message) → IsPacket m → bytes ≡ text_of m → to ≡ actor_of m.to)
    → (m : Message) × Has m q.sent × IsCarried j to bytes m
carries j k to q bytes actor own sent named =
    let right = own.sent sent.0 sent.1 in
    (sent.0, sent.1, record { text = sent.2; packet = right.0; from = right.1 ∙ sym actor; to = sym (named sent.0 right.0 sent.2) })

-- The seat steps at the box from it to the receiver of a packet that it sent, of which this is the text.
pub record PutStep (M P : Type 0) : Type 0 where
  pub step : BoxStep M P
  pub bytes : List ℕ
  pub to : ℕ
  pub sent : IsSentText (part_in step.old.me.0) bytes
  pub receiver : (m : Message) → IsPacket m → bytes ≡ text_of m → to ≡ actor_of m.to
  pub sees : step.new.me ≡ alone step.actor (part_in step.new.me.0)

module _ {M P : Type 0} (puts : PutStep M P) where
  module _ (put : IsPutBy puts.step.actor puts.to puts.bytes (part puts.step) (new_part puts.step)) where
    pub put_at : IsAt puts.step
    put_at =
        let step = puts.step in
        let own = step.at.own in
        let p = part step in
        let m = put.packet in
        let right : HasOwnPackets (k step) (with_put m p) = record { sent = own.sent; put = each_more (λ (n : Message). Has n p.sent) m p.put own.put put.sent; got = own.got } in
        at_after step.board.shared.table_id (k step) step.old step.new (with_put m p) step.at step.same (puts.sees ∙ (λ i. alone (step.named i) (put.is i))) refl refl right

    pub put_seat : IsPut puts.bytes (seat_state puts.step puts.step.old.table_id (part puts.step)) (after puts.step)
    put_seat = record {
      packet = put.packet;
      right = put.carried.packet;
      text = put.carried.text;
      after = λ i. seat_state puts.step (puts.step.same i) (put.is i);
    }

  -- the place is still one that knows its actor
  pub put_keeps : {A B : Type 0} (result : Result A B) → OnOk result (IsPutBy puts.step.actor puts.to puts.bytes (part puts.step) (new_part puts.step))
      → IfErr result (λ back. puts.step.new.me ≡ puts.step.old.me) → IsAt puts.step
  put_keeps (Ok done) put stays = put_at put
  put_keeps (Err back) put stays = subst (λ (z : TableId × Sight). IsAtTable puts.step.board.shared.table_id z.0 (k puts.step) z.1) (λ i. (sym puts.step.same i, sym stays i)) puts.step.at

  module _ (machine : Ghosts M P) where
    abbrev Shown : Type 0
    Shown = Setting M × Sight × ℕ

    -- what it sees is what the party of its seat knows, and the box is that to the packet's receiver
    is_shown : ◌≡◌ {A = Shown} (here puts.step machine, puts.step.new.me, box_of puts.step.actor puts.to)
        (s puts.step machine, alone (k puts.step) (new_part puts.step), box_of (k puts.step) (actor_of puts.sent.0.to))
    is_shown =
        let step = puts.step in
        let sees : step.new.me ≡ alone (k step) (new_part step) = puts.sees ∙ ap (λ (j : ℕ). alone j (new_part step)) step.named in
        let named = puts.receiver puts.sent.0 (step.at.own.sent puts.sent.0 puts.sent.1).0 puts.sent.2 in
        λ i. (shared step machine i, sees i, box_of (step.named i) (named i))

    pub put_state : WasFull (here puts.step machine) puts.step.new.me.0 (box_of puts.step.actor puts.to) puts.bytes
        → WasPut machine.next machine.answers machine.begin puts.step.party puts.bytes (after puts.step)
    put_state full = record { packet = puts.sent.0; text = puts.sent.2; box = subst (λ (z : Shown). WasFull z.0 z.1.0 z.2 puts.bytes) is_shown full }

    pub used_state : WasWord (here puts.step machine) puts.step.new.me.0 (box_of puts.step.actor puts.to) (λ word. word ≢ 0)
        → WasInUse machine.next machine.answers machine.begin puts.step.party puts.bytes (after puts.step)
    used_state used = record { packet = puts.sent.0; text = puts.sent.2; box = subst (λ (z : Shown). WasWord z.0 z.1.0 z.2 (λ word. word ≢ 0)) is_shown used }

-- ---- what a step at a box leaves

module _ {P : Type 0} (Q : SeatSetup P → Role → Type 0) (old new : SeatState P) (was : Q old.setup old.part.role) where
  -- what is so of a seat by its setup and its actor's role stays so
  pub fetched_stays : (from to : Party) (found : Option (Vec ℕ Global)) → IfSome found (λ text. IsFetched from to text.items old new) → IfNone found (new ≡ old) → Q new.setup new.part.role
  fetched_stays from to None some none = subst (λ (seat : SeatState P). Q seat.setup seat.part.role) (sym none) was
  fetched_stays from to (Some text) some none = subst (λ (seat : SeatState P). Q seat.setup seat.part.role) (sym some.after) was

  pub put_stays : {A B : Type 0} (bytes : List ℕ) (result : Result A B) → OnOk result (IsPut bytes old new) → IfErr result (λ back. new ≡ old) → Q new.setup new.part.role
  put_stays bytes (Ok done) put unchanged = subst (λ (seat : SeatState P). Q seat.setup seat.part.role) (sym put.after) was
  put_stays bytes (Err back) put unchanged = subst (λ (seat : SeatState P). Q seat.setup seat.part.role) (sym unchanged) was
