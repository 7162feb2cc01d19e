-- The messages that were sent, and to whom.
use Rattle.std.proofs.Common.{◌≡◌, ℕ, zero, suc, ◌-◌, ◌<◌, Option, Some, None, List, [], ◌∷◌, ◌++◌, length, slice_get, option_map, inl, inr, refl, sym, ap, subst, ◌∙◌, Bor, arith}
use Rattle.std.specs.Prelude.{IsSome, option_copied}
use Rattle.std.specs.List.{AllByRecursion}
use Rattle.rp_base.specs.Sets.{Has}
use Rattle.rp_codec.specs.Message.{Message, IsPacket}
use Rattle.rp_codec.specs.Text.{text_of}
use Rattle.rp_codec.specs.declared.packet.Party.{Party}
use Rattle.rp_model.specs.World.{part_at}
use Rattle.rp_actors.proofs.Fields.{Fields, sent_seen}

-- ---- to whom a message is

-- the message of this number, which is for this party
pub record SentTo (sent : List Message) (number : ℕ) (receiver : Party) : Type 0 where
  pub packet : Message
  pub found : part_at sent number ≡ Some packet
  pub is_to : packet.to ≡ receiver

to_found : (o : Option Message) (receiver : Party) → Some receiver ≡ option_map (λ m. m.to) o → (m : Message) × (o ≡ Some m) × (m.to ≡ receiver)
to_found (Some m) receiver e = let same : receiver ≡ m.to = cc in (m, refl, sym same)
to_found None receiver e = absurd cc

-- it is for whom it was found to be, in the messages that the caller saw
pub packet_to : {S D P : Type 0} (f : Fields S D P) (number : ℕ) {receiver party : Party} → Some receiver ≡ option_map (λ m. m.to) (part_at f.was.world.sent number) → receiver ≡ party → SentTo f.messages.sent number party
packet_to f number {receiver = receiver} e is =
    let to = to_found (part_at f.was.world.sent number) receiver e in
    record { packet = to.0; found = ap (λ (ms : List Message). part_at ms number) (sent_seen f) ∙ to.1; is_to = to.2 ∙ is }

-- the same of a message that the caller found
abbrev pub seen_to : {S D P : Type 0} (f : Fields S D P) (number : ℕ) {receiver : Party} → (m : Message) × (part_at f.was.world.sent number ≡ Some m) × (m.to ≡ receiver) → SentTo f.messages.sent number receiver
seen_to f number to = record { packet = to.0; found = ap (λ (ms : List Message). part_at ms number) (sent_seen f) ∙ to.1; is_to = to.2 }

-- ---- packets

all_packets : (ms : List Message) → ((m : Message) → Has m ms → IsPacket m) → AllByRecursion IsPacket ms
all_packets [] all = tt
all_packets (x ∷ ms) all = (all x (inl refl), all_packets ms (λ m h. all m (inr h)))

has_right : (m : Message) (xs ys : List Message) → Has m ys → Has m (xs ++ ys)
has_right m [] ys h = h
has_right m (x ∷ xs) ys h = inr (has_right m xs ys h)

-- what is sent after packets is packets, if all are
pub sends_are : (sent sends : List Message) → ((m : Message) → Has m (sent ++ sends) → IsPacket m) → AllByRecursion IsPacket sends
sends_are sent sends all = all_packets sends (λ m h. all m (has_right m sent sends h))

has_got : (xs : List Message) (k : ℕ) (m : Message) → slice_get xs k ≡ Some m → Has m xs
has_got [] k m here = absurd cc
has_got (x ∷ xs) zero m here = let same : x ≡ m = cc in inl (sym same)
has_got (x ∷ xs) (suc k) m here = inr (has_got xs k m here)

-- a message of a number is one of those that were sent
pub has_at : (xs : List Message) (number : ℕ) (m : Message) → part_at xs number ≡ Some m → Has m xs
has_at xs zero m here = absurd cc
has_at xs (suc k) m here = has_got xs k m here

at_before : (xs : List Message) (number : ℕ) (m : Message) → part_at xs number ≡ Some m → slice_get xs (number - 1) ≡ Some m
at_before xs zero m here = absurd cc
at_before xs (suc k) m here = subst (λ (j : ℕ). slice_get xs j ≡ Some m) (let same : k ≡ suc k - 1 = omega arith in same) here

got_below : (xs : List Message) (k : ℕ) (m : Message) → slice_get xs k ≡ Some m → k < length xs
got_below [] k m here = absurd cc
got_below (x ∷ xs) zero m here = omega arith
got_below (x ∷ xs) (suc k) m here = omega (arith, got_below xs k m here)

-- it lies at the place before its number
pub at_place : {sent : List Message} {number : ℕ} {to : Party} (m : SentTo sent number to) → slice_get sent (number - 1) ≡ Some m.packet
at_place {sent = sent} {number = number} m = at_before sent number m.packet m.found

pub place_below : {sent : List Message} {number : ℕ} {to : Party} → SentTo sent number to → number - 1 < length sent
place_below {sent = sent} {number = number} m = got_below sent (number - 1) m.packet (at_place m)

-- ---- texts

pub some_is : {A : Type 0} (x y : A) → (let o : Option A = Some x in let p : Option A = Some y in o ≡ p) → x ≡ y
some_is {A = A} x y same = cc

-- its text was found
pub text_found : (o : Option (Bor (List ℕ))) (p : Option Message) (m : Message) → option_copied o ≡ option_map text_of p → p ≡ Some m → IsSome o
text_found None p m is here = let none = is ∙ ap (option_map text_of) here in absurd cc
text_found (Some b) p m is here = refl

pub text_is : (o : Option (Bor (List ℕ))) (b : Bor (List ℕ)) (p : Option Message) (m : Message) → o ≡ Some b → option_copied o ≡ option_map text_of p → p ≡ Some m → b.now ≡ text_of m
text_is o b p m same is here = some_is b.now (text_of m) (sym (ap option_copied same) ∙ is ∙ ap (option_map text_of) here)

-- the packet of this number, and its text
pub record IsTextAt (sent : List Message) (number : ℕ) (text : List ℕ) : Type 0 where
  pub message : Message
  pub found : part_at sent number ≡ Some message
  pub packet : IsPacket message
  pub reads : text ≡ text_of message

message_found : (p : Option Message) (text : List ℕ) → (let o : Option (List ℕ) = Some text in o ≡ option_map text_of p) → (m : Message) × (p ≡ Some m) × (text ≡ text_of m)
message_found None text is = absurd cc
message_found (Some m) text is = (m, refl, some_is text (text_of m) is)

-- a text that was found is that of a packet
pub packet_found : (sent : List Message) (number : ℕ) (text : List ℕ) → ((m : Message) → Has m sent → IsPacket m) → (let o : Option (List ℕ) = Some text in o ≡ option_map text_of (part_at sent number)) → IsTextAt sent number text
packet_found sent number text packets is =
    let m = message_found (part_at sent number) text is in
    record { message = m.0; found = m.1; packet = packets m.0 (has_at sent number m.0 m.1); reads = m.2 }

pub to_whom : (p : Option Message) (m : Message) (party : Party) → p ≡ Some m → party ≡ m.to → (let o : Option Party = Some party in o ≡ option_map (λ (x : Message). x.to) p)
to_whom p m party is to = ap (λ (q : Party). let o : Option Party = Some q in o) to ∙ sym (ap (option_map (λ (x : Message). x.to)) is)
