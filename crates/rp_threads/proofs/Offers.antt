-- The packets of a step, each offered to its box.
use Rattle.std.proofs.Common.{◌≡◌, ◌≢◌, ℕ, ◌+◌, ◌-◌, ◌<◌, ◌≤◌, Bool, true, false, if◌then◌else◌, Result, Ok, Err, List, [], ◌∷◌, ◌++◌, length, take, drop, inl, inr, refl, sym, ap, subst, ◌∙◌, arith, append_assoc}
use Rattle.std.proofs.lemmas.List.{append-nil, length-drop, take-append-drop}
use Rattle.std.specs.Int.{from_bool}
use Rattle.rp_base.specs.Sets.{Has}
use Rattle.rp_base.specs.declared.action.Action.{Action}
use Rattle.rp_base.specs.declared.reply.Answer.{Answer}
use Rattle.rp_base.proofs.Members.{has_split}
use Rattle.rp_codec.specs.Message.{Message, IsPacket}
use Rattle.rp_codec.specs.Text.{text_of}
use Rattle.rp_codec.specs.declared.packet.Party.{Party}
use Rattle.rp_replica.specs.rp_outbox.specs.Packets.{texts_of}
use Rattle.rp_replica.specs.declared.sent.Sent.{Sent}
use Rattle.rp_replica.specs.rp_outbox.proofs.Joined.{texts_append}
use Rattle.rp_board.specs.Parts.{Part}
use Rattle.rp_board.specs.Seats.{SeatState, IsSentText}
use Rattle.rp_threads.specs.Turns.{AreGivenOut, AreOffered, AreSent, AreSentTexts, AreTextsOffered, HasFate, IsAllOffered, IsOfferedToBox, is_lost, is_uncopied, one_if}
use Rattle.rp_threads.specs.declared.sends.Fate.{Fate}
use Rattle.rp_threads.specs.declared.sends.Fate.TheVariants.{Put, InUse}
use Rattle.rp_threads.proofs.Puts.{HasOnlyPut, offers_put}

-- ---- one packet

one_among : (part : Part) (bytes : List ℕ) (packets : List Message) → bytes ≡ texts_of packets → 1 ≡ length packets → ((m : Message) → Has m packets → Has m part.sent)
    → IsSentText part bytes
one_among part bytes [] texts one all = absurd (omega (arith, one))
one_among part bytes (m ∷ []) texts one all = (m, all m (inl refl), texts ∙ append-nil (text_of m))
one_among part bytes (m ∷ other ∷ rest) texts one all = absurd (omega (arith, one))

-- the bytes are the text of the packet, where there is one
pub sent_alone : (part : Part) (sent : Sent) → AreSent part sent → sent.packets ≡ 1 → IsSentText part sent.bytes.items
sent_alone part sent a one = one_among part sent.bytes.items a.0 a.1.texts (sym one ∙ a.1.count) a.1.sent_all

-- no packet's text begins another's
abbrev pub OneText : Type 0
OneText = (p q : Message) (x y : List ℕ) → IsPacket p → IsPacket q → text_of p ++ x ≡ text_of q ++ y → (p ≡ q) × (x ≡ y)

-- packets of the same texts are the same
same_packets : OneText → (ps qs : List Message) → ((m : Message) → Has m ps → IsPacket m) → ((m : Message) → Has m qs → IsPacket m) → texts_of ps ≡ texts_of qs → ps ≡ qs
same_packets one [] [] right_p right_q same = refl
same_packets one [] (q ∷ qs) right_p right_q same = absurd (cc)
same_packets one (p ∷ ps) [] right_p right_q same = absurd (cc)
same_packets one (p ∷ ps) (q ∷ qs) right_p right_q same =
    let both = one p q (texts_of ps) (texts_of qs) (right_p p (inl refl)) (right_q q (inl refl)) same in
    let first : p ≡ q = both.0 in
    let rest : ps ≡ qs = same_packets one ps qs (λ m has. right_p m (inr has)) (λ m has. right_q m (inr has)) both.1 in
    cc

pub one_if_is : (holds : Bool) → from_bool holds ≡ one_if holds
one_if_is true = refl
one_if_is false = refl

pub one_at_most : (holds : Bool) → one_if holds ≤ 1
one_at_most true = omega arith
one_at_most false = omega arith

-- a packet that is lost has a byte at least, so no more are lost than there were bytes
pub one_less : (left : List ℕ) (len lost more all : ℕ) → 1 ≤ len → len ≤ length left → more ≤ 1 → lost + length left ≤ all → lost + more + length (drop len left) ≤ all
one_less left len lost more all some within one few =
    let fewer : length (drop len left) ≡ length left - len = length-drop len left in
    omega (arith, some, within, one, few, fewer)

pub fewer_left : (left : List ℕ) (len : ℕ) → 1 ≤ len → len ≤ length left → length (drop len left) < length left
fewer_left left len some within =
    let fewer : length (drop len left) ≡ length left - len = length-drop len left in
    omega (arith, some, within, fewer)

-- what was sent is so, whatever was put since
pub still_sent_text : {P : Type 0} (old new : SeatState P) (text : List ℕ) → HasOnlyPut old new → IsSentText old.part text → IsSentText new.part text
still_sent_text {P} old new text puts sent = subst (λ (s : SeatState P). IsSentText s.part text) (sym puts.after) sent

module _ {S P : Type 0} (next : S → Action → S) (answers : S → Action → List Answer) (begin : P → S) (from : Party) where
  -- these packets and then others
  then_offered : (ps qs : List Message) (old between new : SeatState P) (a b c d : ℕ) → AreOffered next answers begin from ps old between a c → AreOffered next answers begin from qs between new b d
      → AreOffered next answers begin from (ps ++ qs) old new (a + b) (c + d)
  then_offered [] qs old between new a b c d first following =
      let none = first.1 in
      let without = first.2 in
      let same : b ≡ a + b = omega (arith, none) in
      let alike : d ≡ c + d = omega (arith, without) in
      subst (λ (n : ℕ). AreOffered next answers begin from qs old new n (c + d)) same
      (subst (λ (n : ℕ). AreOffered next answers begin from qs old new b n) alike (subst (λ (s : SeatState P). AreOffered next answers begin from qs s new b d) first.0 following))
  then_offered (p ∷ ps) qs old between new a b c d first following =
      let sum = first.6 in
      let without = first.7 in
      (first.0, first.1 + b, first.2 + d, first.3, first.4, then_offered ps qs first.3 between new first.1 b first.2 d first.5 following, omega (arith, sum), omega (arith, without))

  -- one packet
  one_text_offered : (bytes : List ℕ) (m : Message) (old new : SeatState P) (fate : Fate) → bytes ≡ text_of m → HasFate next answers begin from bytes old new fate
      → AreOffered next answers begin from (m ∷ []) old new (one_if (is_lost fate)) (one_if (is_uncopied fate))
  one_text_offered bytes m old new fate text offered =
      (fate, 0, 0, new, subst (λ (t : List ℕ). HasFate next answers begin from t old new fate) text offered, (refl, refl, refl), omega arith, omega arith)

  -- ---- one packet after the other

  -- What was offered of the bytes, up to what is left, and how many packets of it are lost, and for want of a copy.
  pub record IsPartOffered (first now : SeatState P) (bytes left : List ℕ) (lost uncopied : ℕ) : Type 0 where
    pub packets : List Message
    pub whole : bytes ≡ texts_of packets ++ left
    pub sent : (m : Message) → Has m packets → Has m first.part.sent
    pub offered : AreOffered next answers begin from packets first now lost uncopied

  pub none_offered : (seat : SeatState P) (bytes : List ℕ) → IsPartOffered seat seat bytes bytes 0 0
  none_offered seat bytes = record { packets = []; whole = refl; sent = λ m has. absurd has; offered = (refl, refl, refl) }

  pub part_puts : (first now : SeatState P) (bytes left : List ℕ) (lost uncopied : ℕ) → IsPartOffered first now bytes left lost uncopied → HasOnlyPut first now
  part_puts first now bytes left lost uncopied so_far = offers_put next answers begin from so_far.packets first now lost uncopied so_far.offered

  either_sent : (part : Part) (ps qs : List Message) → ((m : Message) → Has m ps → Has m part.sent) → ((m : Message) → Has m qs → Has m part.sent) → (m : Message) → Has m (ps ++ qs) → Has m part.sent
  either_sent part ps qs first following m has = elim (has_split m ps qs has) [ inl here ↦ first m here | inr there ↦ following m there ]

  alone_sent : (part : Part) (p : Message) → Has p part.sent → (m : Message) → Has m (p ∷ []) → Has m part.sent
  alone_sent part p there m has = elim has [ inl same ↦ subst (λ (q : Message). Has q part.sent) (sym same) there | inr none ↦ absurd none ]

  -- the bytes are those up to what is left, then the text of the packet, and then what is left after it
  cut_at : (bytes left : List ℕ) (len : ℕ) (packets : List Message) (m : Message) → bytes ≡ texts_of packets ++ left → take len left ≡ text_of m → bytes ≡ texts_of (packets ++ m ∷ []) ++ drop len left
  cut_at bytes left len packets m whole text =
      let texts : texts_of packets ++ take len left ≡ texts_of (packets ++ m ∷ []) =
      ap (λ (t : List ℕ). texts_of packets ++ t) (text ∙ sym (append-nil (text_of m))) ∙ sym (texts_append packets (m ∷ [])) in
      whole ∙ ap (λ (t : List ℕ). texts_of packets ++ t) (sym (take-append-drop len left)) ∙ sym (append_assoc (texts_of packets) (take len left) (drop len left))
      ∙ ap (λ (t : List ℕ). t ++ drop len left) texts

  pub one_more_offered : (first between now : SeatState P) (bytes left : List ℕ) (len lost uncopied : ℕ) (fate : Fate) → IsPartOffered first between bytes left lost uncopied → IsSentText first.part (take len left)
      → HasFate next answers begin from (take len left) between now fate → IsPartOffered first now bytes (drop len left) (lost + one_if (is_lost fate)) (uncopied + one_if (is_uncopied fate))
  one_more_offered first between now bytes left len lost uncopied fate so_far text offered = record {
    packets = so_far.packets ++ text.0 ∷ [];
    whole = cut_at bytes left len so_far.packets text.0 so_far.whole text.2;
    sent = either_sent first.part so_far.packets (text.0 ∷ []) so_far.sent (alone_sent first.part text.0 text.1);
    offered = then_offered so_far.packets (text.0 ∷ []) first between now lost (one_if (is_lost fate)) uncopied (one_if (is_uncopied fate)) so_far.offered
        (one_text_offered (take len left) text.0 between now fate text.2 offered);
  }

  nothing_left : (left : List ℕ) → length left ≡ 0 → left ≡ []
  nothing_left [] none = refl
  nothing_left (x ∷ left) none = absurd (omega (arith, none))

  -- each was offered
  pub all_offered : (first now : SeatState P) (bytes left : List ℕ) (lost uncopied : ℕ) → IsPartOffered first now bytes left lost uncopied → length left ≡ 0
      → AreTextsOffered next answers begin from bytes first now lost uncopied
  all_offered first now bytes left lost uncopied so_far none = record {
    are = record {
      packets = so_far.packets;
      texts = so_far.whole ∙ ap (λ (t : List ℕ). texts_of so_far.packets ++ t) (nothing_left left none) ∙ append-nil (texts_of so_far.packets);
      sent = so_far.sent;
    };
    offered = so_far.offered;
  }

  -- ---- those of a step

  alone : (bytes : List ℕ) (old new : SeatState P) (fate : Fate) → HasFate next answers begin from bytes old new fate → (packets : List Message) → bytes ≡ texts_of packets → 1 ≡ length packets
      → AreOffered next answers begin from packets old new (one_if (is_lost fate)) (one_if (is_uncopied fate))
  alone bytes old new fate offered [] texts one = absurd (omega (arith, one))
  alone bytes old new fate offered (p ∷ []) texts one = one_text_offered bytes p old new fate (texts ∙ append-nil (text_of p)) offered
  alone bytes old new fate offered (p ∷ q ∷ packets) texts one = absurd (omega (arith, one))

  -- the one packet was offered
  pub one_is_offered : (sent : Sent) (old new : SeatState P) (fate : Fate) → is_uncopied fate ≡ false → sent.packets ≡ 1 → HasFate next answers begin from sent.bytes.items old new fate
      → IsAllOffered next answers begin from sent old new (one_if (is_lost fate)) 0
  one_is_offered sent old new fate copied one offered packets given =
      subst (λ (b : Bool). AreOffered next answers begin from packets old new (one_if (is_lost fate)) (one_if b)) copied
      (alone sent.bytes.items old new fate offered packets given.texts (sym one ∙ given.count))

  -- it went into its box, or found it in use
  abbrev fate_of : Bool → Fate
  fate_of true = InUse
  fate_of false = Put

  box_fate : (bytes : List ℕ) (old new : SeatState P) (lost : Bool) → IsOfferedToBox next answers begin from bytes old new lost → HasFate next answers begin from bytes old new (fate_of lost)
  box_fate bytes old new true offered = offered
  box_fate bytes old new false offered = offered

  fate_copied : (lost : Bool) → is_uncopied (fate_of lost) ≡ false
  fate_copied true = refl
  fate_copied false = refl

  fate_lost : (lost : Bool) → is_lost (fate_of lost) ≡ lost
  fate_lost true = refl
  fate_lost false = refl

  pub one_is_put : (sent : Sent) (old new : SeatState P) (lost : Bool) → sent.packets ≡ 1 → IsOfferedToBox next answers begin from sent.bytes.items old new lost
      → IsAllOffered next answers begin from sent old new (one_if lost) 0
  one_is_put sent old new lost one offered =
      subst (λ (b : Bool). IsAllOffered next answers begin from sent old new (one_if b) 0) (fate_lost lost)
      (one_is_offered sent old new (fate_of lost) (fate_copied lost) one (box_fate sent.bytes.items old new lost offered))

  no_packet : (seat : SeatState P) (packets : List Message) → 0 ≡ length packets → AreOffered next answers begin from packets seat seat 0 0
  no_packet seat [] none = (refl, refl, refl)
  no_packet seat (p ∷ packets) none = absurd (omega (arith, none))

  -- there was none
  pub none_is_offered : (sent : Sent) (seat : SeatState P) → sent.packets ≡ 0 → IsAllOffered next answers begin from sent seat seat 0 0
  none_is_offered sent seat none packets given = no_packet seat packets (sym none ∙ given.count)

  module _ (one : OneText) (sent : Sent) (old new : SeatState P) (right : (m : Message) → Has m old.part.sent → IsPacket m) where
    -- these are the packets that the step gives out
    same_as : (packets : List Message) → AreGivenOut old.part sent packets → (are : AreSentTexts old.part sent.bytes.items) → packets ≡ are.packets
    same_as packets given are = same_packets one packets are.packets (λ p is. right p (given.sent_all p is)) (λ p is. right p (are.sent p is)) (sym given.texts ∙ are.texts)

    -- each was offered, one after the other
    pub all_are_offered : (lost uncopied : ℕ) → AreTextsOffered next answers begin from sent.bytes.items old new lost uncopied → IsAllOffered next answers begin from sent old new lost uncopied
    all_are_offered lost uncopied offered packets given =
        subst (λ (ps : List Message). AreOffered next answers begin from ps old new lost uncopied) (sym (same_as packets given offered.are)) offered.offered
