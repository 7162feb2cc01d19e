-- What all of the bytes are, by what reading them gives.
use Rattle.std.proofs.Common.{◌≡◌, ◌≢◌, ℕ, Bool, true, false, cond, eqb, List, [], ◌∷◌, ◌++◌, length, get_or, Option, Some, None, Result, Ok, Err, refl, sym, ap, subst, ◌∙◌, suc, append_assoc, ◌+◌, length-append}
use Rattle.std.specs.Prelude.{IsSome, IfOk}
use Rattle.std.proofs.lemmas.Bool.{eqb-true, eqb-false, ne_eqb}
use Rattle.std.proofs.lemmas.List.{append-nil, nil_from_length}
use Rattle.rp_base.specs.declared.fault.PacketReason.{PacketReason}
use Rattle.rp_base.specs.declared.fault.PacketReason.TheVariants.{Short, Long, Version as UnknownVersion, Kind as UnknownKind, Field}
use Rattle.rp_codec.specs.declared.packet.Body.{Body}
use Rattle.rp_codec.specs.declared.kind.Kind.{Kind}
use Rattle.rp_codec.specs.declared.kind.Kind.TheVariants.{Call, Prepare, Promise, Accept, Accepted, Decided, Ask, Nack, Reply as Answer, Report, PrepareRange, PromiseRange}
use Rattle.rp_codec.specs.Kind.{kind_of, number_of_kind}
use Rattle.rp_codec.specs.declared.version.Version.{Version}
use Rattle.rp_codec.specs.declared.version.Version.TheVariants.{V2}
use Rattle.rp_codec.specs.Version.{version_number, version_of}
use Rattle.rp_codec.specs.Message.{Message, KeepsRules, IsPacket}
use Rattle.rp_codec.specs.Text.{text_at, text_of, HasText, IsTextOf, IsTextBefore}
use Rattle.rp_codec.specs.Decoding.{HasOtherVersion, HasNoKind, IsTooLong, IsDecoded, BeginsWithPacket, IsLongBody, IsLongText}
use Rattle.rp_codec.specs.declared.content.Content.{Content}
use Rattle.rp_codec.specs.declared.content.Content.TheVariants.{Whole as WholeBody, Listed, Voted}
use Rattle.rp_codec.specs.declared.content.Found.{Found}
use Rattle.rp_codec.specs.Found.{IsContentOf, IsList, with_body}
use Rattle.rp_codec.specs.Reading.{◌>>=◌, Read, said_at, known, kind_at, packet_at, all_of}
use Rattle.rp_codec.proofs.Steps.{IsBytes, Yields}
use Rattle.rp_codec.proofs.VersionLaws.{version_of_number, number_once, number_from_version, no_version, has_text, latest, text_same}
use Rattle.rp_codec.proofs.PacketLaws.{TookSaid, said_took, packet_again}

-- ---- the kind of a number

choice : (b : Bool) (n : ℕ) (first kind : Kind) (others : Option Kind) → (b ≡ true → n ≡ number_of_kind first) → (others ≡ Some kind → n ≡ number_of_kind kind) → cond b (Some first) others ≡ Some kind → n ≡ number_of_kind kind
choice true n first kind others here there e =
    let same : first ≡ kind = cc in
    here refl ∙ ap number_of_kind same
choice false n first kind others here there e = there e

number_from_kind : (n : ℕ) (kind : Kind) → kind_of n ≡ Some kind → n ≡ number_of_kind kind
number_from_kind n kind e =
    choice (eqb n 1) n Call kind _ (λ t. eqb-true _ _ t)
    (choice (eqb n 2) n Prepare kind _ (λ t. eqb-true _ _ t)
    (choice (eqb n 3) n Promise kind _ (λ t. eqb-true _ _ t)
    (choice (eqb n 4) n Accept kind _ (λ t. eqb-true _ _ t)
    (choice (eqb n 5) n Accepted kind _ (λ t. eqb-true _ _ t)
    (choice (eqb n 6) n Decided kind _ (λ t. eqb-true _ _ t)
    (choice (eqb n 7) n Ask kind _ (λ t. eqb-true _ _ t)
    (choice (eqb n 8) n Nack kind _ (λ t. eqb-true _ _ t)
    (choice (eqb n 9) n Answer kind _ (λ t. eqb-true _ _ t)
    (choice (eqb n 10) n Report kind _ (λ t. eqb-true _ _ t)
    (choice (eqb n 12) n PrepareRange kind _ (λ t. eqb-true _ _ t)
    (choice (eqb n 13) n PromiseRange kind _ (λ t. eqb-true _ _ t) (λ z. absurd cc))))))))))))
    e

-- ---- a packet at the front

abbrev Front : List ℕ → Result (Message × List ℕ) PacketReason → Type 0
Front bytes (Ok x) = IsPacket x.0 × IsTextBefore x.0 x.1 bytes
Front bytes (Err Short) = Unit {0}
Front bytes (Err Long) = ⊥
Front bytes (Err UnknownVersion) = HasOtherVersion bytes
Front bytes (Err UnknownKind) = HasNoKind bytes
Front bytes (Err Field) = Unit {0}

front_said : (v : Version) (kind : Kind) (n : ℕ) (rest : List ℕ) (r : Result (Message × List ℕ) PacketReason) → n ≡ number_of_kind kind → Yields (TookSaid v kind rest) r → Front (version_number v ∷ n ∷ rest) r
front_said v kind n rest (Ok x) e took =
    (took.right.0, (v, took.right.1, ap (λ (k : ℕ). version_number v ∷ k ∷ rest) (e ∙ took.right.2) ∙ rw took.parts (simp append_assoc)))
front_said v kind n rest (Err Short) e took = tt
front_said v kind n rest (Err Long) e took = took
front_said v kind n rest (Err UnknownVersion) e took = absurd took
front_said v kind n rest (Err UnknownKind) e took = absurd took
front_said v kind n rest (Err Field) e took = tt

no_some : IsSome {T = Kind} None → ⊥
no_some e = absurd cc

front_known : (v : Version) (o : Option Kind) (n : ℕ) (rest : List ℕ) → kind_of n ≡ o → IsBytes rest → Front (version_number v ∷ n ∷ rest) (known UnknownKind o rest >>= λ kind. said_at v kind.0 kind.1)
front_known v (Some kind) n rest e h = front_said v kind n rest (said_at v kind rest) (number_from_kind n kind e) (said_took v kind rest h)
front_known v None n rest e h = (v, n, rest, λ is. absurd (no_some (subst (λ (o : Option Kind). IsSome o) e is)), refl)

front_kind : (v : Version) (rest : List ℕ) → IsBytes rest → Front (version_number v ∷ rest) (kind_at rest >>= λ kind. said_at v kind.0 kind.1)
front_kind v [] h = tt
front_kind v (n ∷ rest) h = front_known v (kind_of n) n rest refl (λ i. h (suc i))

front_version : (o : Option Version) (n : ℕ) (rest : List ℕ) → version_of n ≡ o → IsBytes rest
    → Front (n ∷ rest) (known UnknownVersion o rest >>= λ version. kind_at version.1 >>= λ kind. said_at version.0 kind.0 kind.1)
front_version (Some v) n rest e h =
    subst (λ (k : ℕ). Front (k ∷ rest) (kind_at rest >>= λ kind. said_at v kind.0 kind.1)) (sym (number_from_version n v e)) (front_kind v rest h)
front_version None n rest e h = let other = no_version n e in (n, rest, other.0, other.1, refl)

front : (bytes : List ℕ) → IsBytes bytes → Front bytes (packet_at bytes)
unfolding packet_at
front [] h = tt
front (n ∷ rest) h = front_version (version_of n) n rest refl (λ i. h (suc i))

-- ---- all of the bytes

abbrev pub Whole : List ℕ → Result Message PacketReason → Type 0
Whole bytes (Ok m) = IsPacket m × IsTextOf m bytes
Whole bytes (Err Short) = Unit {0}
Whole bytes (Err Long) = IsTooLong bytes
Whole bytes (Err UnknownVersion) = HasOtherVersion bytes
Whole bytes (Err UnknownKind) = HasNoKind bytes
Whole bytes (Err Field) = Unit {0}

whole_end : (b : Bool) (bytes : List ℕ) (m : Message) (rest : List ℕ) → (b ≡ true → rest ≡ []) → (b ≡ false → rest ≢ []) → IsPacket m → IsTextBefore m rest bytes → Whole bytes (cond b (Ok m) (Err Long))
whole_end true bytes m rest ended more packet (v, has, parts) = (packet, (v, has, parts ∙ ap (λ (r : List ℕ). text_at v m ++ r) (ended refl) ∙ append-nil (text_at v m)))
whole_end false bytes m rest ended more packet text = (m, rest, packet, more refl, text)

whole_front : (bytes : List ℕ) (r : Result (Message × List ℕ) PacketReason) → Front bytes r → Whole bytes (r >>= λ packet. cond (eqb (length packet.1) 0) (Ok packet.0) (Err Long))
whole_front bytes (Ok x) f =
    whole_end (eqb (length x.1) 0) bytes x.0 x.1 (λ e. nil_from_length x.1 (eqb-true _ _ e)) (λ e none. eqb-false _ _ e (ap length none)) f.0 f.1
whole_front bytes (Err Short) f = tt
whole_front bytes (Err Long) f = absurd f
whole_front bytes (Err UnknownVersion) f = f
whole_front bytes (Err UnknownKind) f = f
whole_front bytes (Err Field) f = tt

pub whole : (bytes : List ℕ) → IsBytes bytes → Whole bytes (all_of bytes)
unfolding all_of
whole bytes h = whole_front bytes (packet_at bytes) (front bytes h)

-- ---- and back

pub packet_read : (m : Message) (rest bytes : List ℕ) → IsPacket m → IsTextBefore m rest bytes → packet_at bytes ≡ Ok (m, rest)
packet_read m rest bytes packet (v, has, parts) = ap packet_at parts ∙ packet_again v m rest packet has

pub whole_read : (m : Message) (bytes : List ℕ) → IsPacket m → IsTextOf m bytes → all_of bytes ≡ Ok m
unfolding all_of
whole_read m bytes packet (v, has, text) =
    let read : packet_at bytes ≡ Ok (m, []) = packet_read m [] bytes packet (v, has, text ∙ sym (append-nil (text_at v m))) in
    rw read refl

pub whole_again : (m : Message) → IsPacket m → all_of (text_of m) ≡ Ok m
whole_again m packet = whole_read m (text_of m) packet (latest m (text_of m) refl)

pub long_again : (bytes : List ℕ) → IsTooLong bytes → all_of bytes ≡ Err Long
unfolding all_of
long_again bytes (m, rest, packet, more, text) =
    let read : packet_at bytes ≡ Ok (m, rest) = packet_read m rest bytes packet text in
    let open_end : eqb (length rest) 0 ≡ false = ne_eqb _ _ (λ e. more (nil_from_length rest e)) in
    rw (read, open_end) refl

pub version_again : (bytes : List ℕ) → HasOtherVersion bytes → all_of bytes ≡ Err UnknownVersion
unfolding all_of packet_at
version_again bytes (n, rest, first, second, parts) =
    let one : eqb n 1 ≡ false = ne_eqb _ _ first in
    let two : eqb n 2 ≡ false = ne_eqb _ _ second in
    rw (parts, one, two) refl

no_kind : (o : Option Kind) (rest : List ℕ) → ¬ IsSome o → known UnknownKind o rest ≡ Err UnknownKind
no_kind (Some kind) rest none = absurd (none refl)
no_kind None rest none = refl

pub kind_again : (bytes : List ℕ) → HasNoKind bytes → all_of bytes ≡ Err UnknownKind
unfolding all_of packet_at
kind_again bytes (v, n, rest, none, parts) = rw (parts, version_of_number v, no_kind (kind_of n) rest none) refl

-- ---- no text begins another

abbrev done : Message × List ℕ → Read Message
done x = Ok x

done_once : (x y : Message × List ℕ) → done x ≡ done y → x ≡ y
done_once x y e = cc

same_read : (p q : Message) (x y bytes : List ℕ) → IsPacket p → IsPacket q → IsTextBefore p x bytes → IsTextBefore q y bytes → (p ≡ q) × (x ≡ y)
same_read p q x y bytes left right here there =
    let pair = done_once (p, x) (q, y) (sym (packet_read p x bytes left here) ∙ packet_read q y bytes right there) in
    (ap (λ (r : Message × List ℕ). r.0) pair, ap (λ (r : Message × List ℕ). r.1) pair)

pub same_text : (v w : Version) (p q : Message) (x y : List ℕ) → IsPacket p → IsPacket q → HasText v p → HasText w q → text_at v p ++ x ≡ text_at w q ++ y → (v ≡ w) × (p ≡ q) × (x ≡ y)
same_text v w p q x y left right has also e =
    let same = same_read p q x y _ left right (v, has, refl) (w, also, e) in
    (number_once v w (ap (λ (l : List ℕ). get_or l 0 0) e), same.0, same.1)

pub same_packet : (p q : Message) (x y : List ℕ) → IsPacket p → IsPacket q → text_of p ++ x ≡ text_of q ++ y → (p ≡ q) × (x ≡ y)
same_packet p q x y left right e = let same = same_text V2 V2 p q x y left right (has_text p) (has_text q) e in (same.1, same.2)

-- ---- what a decoder returned

found_in : (bytes : List ℕ) (r : Result Message PacketReason) → Whole bytes r → IfOk r (λ m. IsPacket m × IsTextOf m bytes)
found_in bytes (Ok m) w = w
found_in bytes (Err e) w = tt

pub whole_found : (bytes : List ℕ) (r : Result Message PacketReason) → IsBytes bytes → r ≡ all_of bytes → IfOk r (λ m. IsPacket m × IsTextOf m bytes)
whole_found bytes r h e = found_in bytes r (subst (Whole bytes) (sym e) (whole bytes h))

pub decoded : (bytes : List ℕ) (answer : Result Message PacketReason) → IsBytes bytes → answer ≡ all_of bytes → IsDecoded bytes answer
decoded bytes answer h e = record {
  found = whole_found bytes answer h e;
  only = λ p packet text. e ∙ whole_read p bytes packet text;
  exact = e;
  long = (λ is. subst (Whole bytes) (sym e ∙ is) (whole bytes h), λ has. e ∙ long_again bytes has);
  version = (λ is. subst (Whole bytes) (sym e ∙ is) (whole bytes h), λ has. e ∙ version_again bytes has);
  kind = (λ is. subst (Whole bytes) (sym e ∙ is) (whole bytes h), λ has. e ∙ kind_again bytes has);
}

pub decoded_packet : (bytes : List ℕ) (packet message : Message) → IsBytes bytes → packet ≡ message → all_of bytes ≡ Ok message → IsDecoded bytes (Ok packet)
decoded_packet bytes packet message h same e = decoded bytes (Ok packet) h (ap (λ (m : Message). Ok m) same ∙ sym e)

pub decoded_rules : (bytes : List ℕ) (message : Message) → IsBytes bytes → all_of bytes ≡ Ok message → KeepsRules message
decoded_rules bytes message h e =
    let found = whole_found bytes (Ok message) h (sym e) in
    found.0.rules

-- the packet that was read, or another where none was
abbrev read_or : Message → Result Message PacketReason → Message
read_or other (Ok packet) = packet
read_or other (Err reason) = other

-- what is written of a packet is read as that packet
pub written_read : (bytes : List ℕ) (answer : Result Message PacketReason) (m : Message) → IsDecoded bytes answer → IsPacket m → bytes ≡ text_of m → answer ≡ Ok m
written_read bytes answer m is packet text = is.only m packet (latest m bytes text)

pub read_same : (bytes : List ℕ) (answer : Result Message PacketReason) (found m : Message) → IsDecoded bytes answer → answer ≡ Ok found → IsPacket m → bytes ≡ text_of m → found ≡ m
read_same bytes answer found m is e packet text = ap (read_or m) (sym e ∙ written_read bytes answer m is packet text)

-- ---- a packet at the front, and no other

pub front_found : (bytes rest : List ℕ) (m : Message) → IsBytes bytes → packet_at bytes ≡ Ok (m, rest) → IsPacket m × IsTextBefore m rest bytes
front_found bytes rest m h e = subst (Front bytes) e (front bytes h)

pub front_length : (bytes rest : List ℕ) (m : Message) → IsBytes bytes → packet_at bytes ≡ Ok (m, rest) → length bytes ≡ length (text_of m) + length rest
front_length bytes rest m h e =
    let (packet, (v, has, parts)) = front_found bytes rest m h e in
    ap length parts ∙ length-append (text_at v m) rest ∙ ap (λ (n : ℕ). n + length rest) (text_same v m)

pub front_only : (bytes rest : List ℕ) (m : Message) → packet_at bytes ≡ Ok (m, rest) → (p : Message) (after : List ℕ) → IsPacket p → IsTextBefore p after bytes → m ≡ p
front_only bytes rest m e p after packet text =
    ap (λ (x : Message × List ℕ). x.0) (done_once (m, rest) (p, after) (sym e ∙ packet_read p after bytes packet text))

abbrev fault : PacketReason → Read Message
fault e = Err e

no_fault : (x : Message × List ℕ) (e : PacketReason) → done x ≡ fault e → ⊥
no_fault x e same = absurd cc

pub front_none : (bytes : List ℕ) (e : PacketReason) → packet_at bytes ≡ Err e → BeginsWithPacket bytes → ⊥
front_none bytes e none (p, rest, packet, text) = no_fault (p, rest) e (sym (packet_read p rest bytes packet text) ∙ none)

-- ---- a packet that takes memory

long_body : (content : Content) (after : List ℕ) (body : Body) → IsList content → IsContentOf content after body → IsLongBody body
long_body (WholeBody whole) after body list is_content = absurd list
long_body (Listed version first applied count text) after body list (actions, read, same) = subst IsLongBody (sym same) tt
long_body (Voted version range ballot text) after body list (votes, read, same) = subst IsLongBody (sym same) tt

pub long_text : (bytes : List ℕ) (found : Found) (body : Body) (after : List ℕ) → IsBytes bytes → IsList found.content → IsContentOf found.content after body → all_of bytes ≡ Ok (with_body found body) → IsLongText bytes
long_text bytes found body after h list is_content e =
    let packet = whole_found bytes (Ok (with_body found body)) h (sym e) in
    (with_body found body, packet.0, long_body found.content after body list is_content, packet.1)
