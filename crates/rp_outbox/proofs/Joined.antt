-- Texts that are joined, the packets that are read from them, and where each ends.
use Rattle.std.proofs.Common.{◌≡◌, ℕ, zero, suc, ◌+◌, ◌≤◌, ◌<◌, Option, Some, option_map, Bor, get_or, List, [], ◌∷◌, ◌++◌, length, take, drop, ◌-◌, refl, sym, ap, subst, ◌∙◌, arith}
use Rattle.std.specs.List.{AllByRecursion}
use Rattle.std.specs.Prelude.{slice_get, slice_set, option_copied}
use Rattle.std.proofs.lemmas.List.{append_assoc, append-nil, length-append, length-take-le, take-append-drop, set-append_right}
use Rattle.std.proofs.Math.Seq.{drop-append_seam, drop-nil, take-append_seam}
use Rattle.rp_model.specs.rp_codec.specs.Message.{Message, IsPacket}
use Rattle.rp_model.specs.rp_codec.specs.Reading.{Read, packet_at}
use Rattle.rp_model.specs.rp_codec.specs.Text.{text_of}
use Rattle.rp_model.specs.rp_codec.specs.declared.version.Version.TheVariants.{V2}
use Rattle.rp_model.specs.rp_codec.proofs.VersionLaws.{has_text}
use Rattle.rp_model.specs.rp_codec.proofs.PacketLaws.{packet_again}
use Rattle.rp_outbox.specs.Packets.{with_rest, packets_in, AreTexts, IsRun, IsTextOf, ends_of, texts_of}

-- what was joined is read again
read_back : (ms : List Message) (rest : List ℕ) → AllByRecursion IsPacket ms → packets_in (length ms) (texts_of ms ++ rest) ≡ ms
read_back [] rest each = refl
read_back (m ∷ ms) rest each =
    ap (λ (r : Read Message). with_rest r (λ (b : List ℕ). packets_in (length ms) b))
    (ap packet_at (append_assoc (text_of m) (texts_of ms) rest) ∙ packet_again V2 m (texts_of ms ++ rest) each.0 (has_text m))
    ∙ ap (λ (others : List Message). m ∷ others) (read_back ms rest each.1)

pub read_texts : (bytes : List ℕ) (count : ℕ) (t : AreTexts bytes count) → packets_in count bytes ≡ t.packets
read_texts bytes count t =
    ap (λ (n : ℕ). packets_in n bytes) t.counted
    ∙ ap (packets_in (length t.packets)) (t.texts ∙ sym (append-nil (texts_of t.packets)))
    ∙ read_back t.packets [] t.each

-- so they are texts of what is read
pub again : (bytes : List ℕ) (count : ℕ) → AreTexts bytes count → (AllByRecursion IsPacket (packets_in count bytes)) × (bytes ≡ texts_of (packets_in count bytes)) × (count ≡ length (packets_in count bytes))
again bytes count t =
    let same = sym (read_texts bytes count t) in
    (subst (λ (ms : List Message). AllByRecursion IsPacket ms) same t.each, t.texts ∙ ap texts_of same, t.counted ∙ ap length same)

pub texts_append : (xs ys : List Message) → texts_of (xs ++ ys) ≡ texts_of xs ++ texts_of ys
texts_append [] ys = refl
texts_append (m ∷ xs) ys =
    ap (λ (l : List ℕ). text_of m ++ l) (texts_append xs ys) ∙ sym (append_assoc (text_of m) (texts_of xs) (texts_of ys))

pub all_append : (xs ys : List Message) → AllByRecursion IsPacket xs → AllByRecursion IsPacket ys → AllByRecursion IsPacket (xs ++ ys)
all_append [] ys each others = others
all_append (m ∷ xs) ys each others = (each.0, all_append xs ys each.1 others)

-- two runs of texts, joined
pub both : (one other : List ℕ) (n k : ℕ) → AreTexts one n → AreTexts other k → AreTexts (one ++ other) (n + k)
both one other n k t u = record {
  packets = t.packets ++ u.packets;
  each = all_append t.packets u.packets t.each u.each;
  texts = ap (λ (l : List ℕ). l ++ other) t.texts ∙ ap (λ (l : List ℕ). texts_of t.packets ++ l) u.texts ∙ sym (texts_append t.packets u.packets);
  counted = ap (λ (m : ℕ). m + k) t.counted ∙ ap (λ (m : ℕ). length t.packets + m) u.counted ∙ sym (length-append t.packets u.packets);
}

pub read_both : (one other : List ℕ) (n k : ℕ) → AreTexts one n → AreTexts other k → packets_in (n + k) (one ++ other) ≡ packets_in n one ++ packets_in k other
unfolding both
read_both one other n k t u =
    read_texts (one ++ other) (n + k) (both one other n k t u)
    ∙ ap (λ (l : List Message). l ++ u.packets) (sym (read_texts one n t)) ∙ ap (λ (l : List Message). packets_in n one ++ l) (sym (read_texts other k u))

pub ends_append : (from : ℕ) (xs ys : List Message) → ends_of from (xs ++ ys) ≡ ends_of from xs ++ ends_of (from + length (texts_of xs)) ys
ends_append from [] ys = let e : from ≡ from + 0 = omega arith in ap (λ (n : ℕ). ends_of n ys) e
ends_append from (m ∷ xs) ys =
    let at = from + length (text_of m) in
    let e : at + length (texts_of xs) ≡ from + length (texts_of (m ∷ xs)) = omega (arith, length-append (text_of m) (texts_of xs)) in
    ap (λ (l : List ℕ). at ∷ l) (ends_append at xs ys ∙ ap (λ (n : ℕ). ends_of at xs ++ ends_of n ys) e)

pub length_ends : (from : ℕ) (ms : List Message) → length (ends_of from ms) ≡ length ms
length_ends from [] = refl
length_ends from (m ∷ ms) = ap suc (length_ends (from + length (text_of m)) ms)

-- the packet of a place
pub record Next (ms : List Message) (place : ℕ) : Type 0 where
  pub m : Message
  pub packet : IsPacket m
  pub more : take (suc place) ms ≡ take place ms ++ m ∷ []
  pub rest : drop place ms ≡ m ∷ drop (suc place) ms
  pub got : slice_get ms place ≡ Some m

pub next_of : (ms : List Message) (place : ℕ) → AllByRecursion IsPacket ms → place < length ms → Next ms place
next_of [] place each less = absurd (omega (arith, less))
next_of (m ∷ ms) zero each less = record { m = m; packet = each.0; more = refl; rest = refl; got = refl }
next_of (m ∷ ms) (suc k) each less =
    let n = next_of ms k each.1 (omega (arith, less)) in
    record { m = n.m; packet = n.packet; more = ap (λ (l : List Message). m ∷ l) n.more; rest = n.rest; got = n.got }

-- one text more, and where it ends
abbrev one_text : (text : List ℕ) (m : Message) → IsTextOf text m → AreTexts text 1
one_text text m is = record { packets = m ∷ []; each = (is.0, tt); texts = is.1 ∙ sym (append-nil (text_of m)); counted = refl }

one_end_more : (ends ends' : List ℕ) (end : ℕ) → ends' ≡ ends ++ end ∷ [] → length ends' ≡ length ends + 1
one_end_more ends ends' end added = ap length added ∙ length-append ends (end ∷ [])

module _ (bytes ends : List ℕ) (run : IsRun bytes ends) (text : List ℕ) (m : Message) (is : IsTextOf text m) (bytes' ends' : List ℕ) (joined : bytes' ≡ bytes ++ text)
    (len : ℕ) (end_is : len ≡ length bytes') (ended : ends' ≡ ends ++ len ∷ []) where
  added : ends' ≡ ends ++ length bytes' ∷ []
  added = ended ∙ ap (λ (n : ℕ). ends ++ n ∷ []) end_is

  pub sent_more : packets_in (length ends') bytes' ≡ packets_in (length ends) bytes ++ m ∷ []
  sent_more =
      ap (λ (n : ℕ). packets_in n bytes') (one_end_more ends ends' (length bytes') added) ∙ ap (packets_in (length ends + 1)) joined
      ∙ read_both bytes text (length ends) 1 run.texts (one_text text m is) ∙ ap (λ (l : List Message). packets_in (length ends) bytes ++ l) (read_texts text 1 (one_text text m is))

  pub run_more : IsRun bytes' ends'
  run_more =
      let ms = packets_in (length ends) bytes in
      let whole = (again bytes (length ends) run.texts).1 in
      let from : length bytes ≡ 0 + length (texts_of ms) = ap length whole ∙ omega arith in
      let end : length bytes' ≡ (0 + length (texts_of ms)) + length (text_of m) =
      omega (arith, ap length joined, length-append bytes text, ap length is.1, from) in
      let ends_is : ends' ≡ ends_of 0 (ms ++ m ∷ []) =
      added ∙ ap (λ (l : List ℕ). l ++ length bytes' ∷ []) run.ends_are ∙ ap (λ (n : ℕ). ends_of 0 ms ++ n ∷ []) end ∙ sym (ends_append 0 ms (m ∷ [])) in
      record {
        texts = subst (λ (l : List ℕ). AreTexts l (length ends')) (sym joined)
            (subst (λ (n : ℕ). AreTexts (bytes ++ text) n) (sym (one_end_more ends ends' (length bytes') added)) (both bytes text (length ends) 1 run.texts (one_text text m is)));
        ends_are = ends_is ∙ ap (ends_of 0) (sym sent_more);
      }

-- where the bytes that are used end
pub end_of : (n : ℕ) (l : List ℕ) → n ≤ length l → n ≡ length (take n l)
end_of n l within = sym (length-take-le n l within)

-- a byte that is written below the end is written into what is below it
take_set : (n : ℕ) (l : List ℕ) (i v : ℕ) → take n (slice_set l i v) ≡ slice_set (take n l) i v
take_set zero l i v = refl
take_set (suc n) [] i v = refl
take_set (suc n) (x ∷ xs) zero v = refl
take_set (suc n) (x ∷ xs) (suc i) v = ap (λ (rest : List ℕ). x ∷ rest) (take_set n xs i v)

-- a text that was written after the bytes that are used, with another receiver
pub sent_to : (bytes written text : List ℕ) (used end receiver to node : ℕ) → used ≤ length bytes → take end written ≡ take used bytes ++ text → receiver ≡ used + 3 → node ≡ to
    → take end (slice_set written receiver node) ≡ take used bytes ++ slice_set text 3 to
sent_to bytes written text used end receiver to node within is at same =
    let third : receiver - used ≡ 3 = omega (arith, at) in
    take_set end written receiver node ∙ ap (λ (l : List ℕ). slice_set l receiver node) is
    ∙ set-append_right (take used bytes) text used receiver node (length-take-le used bytes within) (omega (arith, at))
    ∙ ap (λ (k : ℕ). take used bytes ++ slice_set text k node) third ∙ ap (λ (n : ℕ). take used bytes ++ slice_set text 3 n) same

-- no text
pub no_run : IsRun [] []
no_run = record { texts = record { packets = []; each = tt; texts = refl; counted = refl }; ends_are = refl }

-- the packet of a place is a right one
pub right_at : (ms : List Message) (place : ℕ) (m : Message) → AllByRecursion IsPacket ms → slice_get ms place ≡ Some m → IsPacket m
right_at [] place m each at = absurd cc
right_at (x ∷ xs) zero m each at = let same : x ≡ m = cc in subst IsPacket same each.0
right_at (x ∷ xs) (suc k) m each at = right_at xs k m each.1 at

-- what was read is what there is
pub run_again : (bytes ends : List ℕ) → IsRun bytes ends → (AllByRecursion IsPacket (packets_in (length ends) bytes)) × (bytes ≡ texts_of (packets_in (length ends) bytes)) × (length ends ≡ length (packets_in (length ends) bytes))
run_again bytes ends run = again bytes (length ends) run.texts

-- where a text ends
pub ends_at : (from : ℕ) (ms : List Message) (place d : ℕ) (m : Message) (rest : List Message) → drop place ms ≡ m ∷ rest
    → get_or (ends_of from ms) place d ≡ (from + length (texts_of (take place ms))) + length (text_of m)
ends_at from [] place d m rest is = let none : [] ≡ m ∷ rest = sym (drop-nil place) ∙ is in absurd cc
ends_at from (x ∷ xs) zero d m rest is =
    let same : x ≡ m = cc in
    let e : length (text_of x) ≡ length (text_of m) = ap (λ (y : Message). length (text_of y)) same in
    omega (arith, e)
ends_at from (x ∷ xs) (suc k) d m rest is =
    let more = ends_at (from + length (text_of x)) xs k d m rest is in
    omega (arith, more, length-append (text_of x) (texts_of (take k xs)))

-- where the next text begins
pub begins_at : (ms : List Message) (place : ℕ) (n : Next ms place) → length (texts_of (take (suc place) ms)) ≡ length (texts_of (take place ms)) + length (text_of n.m)
begins_at ms place n =
    ap length (ap texts_of n.more ∙ texts_append (take place ms) (n.m ∷ []) ∙ ap (λ (l : List ℕ). texts_of (take place ms) ++ l) (append-nil (text_of n.m)))
    ∙ length-append (texts_of (take place ms)) (text_of n.m)

-- what is from a text's beginning on
pub from_start : (ms : List Message) (place : ℕ) (n : Next ms place) → drop (length (texts_of (take place ms))) (texts_of ms) ≡ text_of n.m ++ texts_of (drop (suc place) ms)
from_start ms place n =
    let front = texts_of (take place ms) in
    let whole : texts_of ms ≡ front ++ texts_of (drop place ms) = ap texts_of (sym (take-append-drop place ms)) ∙ texts_append (take place ms) (drop place ms) in
    ap (drop (length front)) whole ∙ drop-append_seam front (texts_of (drop place ms)) ∙ ap texts_of n.rest

-- a text lies within them all
pub text_within : (ms : List Message) (place : ℕ) (n : Next ms place) → length (texts_of (take place ms)) + length (text_of n.m) ≤ length (texts_of ms)
text_within ms place n =
    let front = take place ms in
    let back = drop place ms in
    let whole = ap length (ap texts_of (sym (take-append-drop place ms)) ∙ texts_append front back) ∙ length-append (texts_of front) (texts_of back) in
    let rest = ap length (ap texts_of n.rest) ∙ length-append (text_of n.m) (texts_of (drop (suc place) ms)) in
    omega (arith, whole, rest)

-- the text of a place, by where it begins and how long it is
pub text_is : (bytes rest text : List ℕ) (ms : List Message) (place from len : ℕ) (n : Next ms place) → bytes ≡ texts_of ms → from ≡ length (texts_of (take place ms))
    → rest ≡ drop from bytes → len ≡ length (text_of n.m) → text ≡ take len rest → text ≡ text_of n.m
text_is bytes rest text ms place from len n whole at back long is =
    let others = texts_of (drop (suc place) ms) in
    let front : rest ≡ text_of n.m ++ others = back ∙ ap (λ (k : ℕ). drop k bytes) at ∙ ap (drop (length (texts_of (take place ms)))) whole ∙ from_start ms place n in
    is ∙ ap (λ (k : ℕ). take k rest) long ∙ ap (take (length (text_of n.m))) front ∙ take-append_seam (text_of n.m) others

-- where a text begins, by where the one before it ends
pub start_at : (ms : List Message) (place d : ℕ) → AllByRecursion IsPacket ms → (place ≡ 0 → ⊥) → place < length ms → get_or (ends_of 0 ms) (place - 1) d ≡ length (texts_of (take place ms))
start_at ms zero d each more less = absurd (more refl)
start_at ms (suc j) d each more less =
    let n = next_of ms j each (omega (arith, less)) in
    let e : suc j - 1 ≡ j = omega arith in
    ap (λ (k : ℕ). get_or (ends_of 0 ms) k d) e ∙ ends_at 0 ms j d n.m (drop (suc j) ms) n.rest ∙ (let f : (0 + length (texts_of (take j ms))) + length (text_of n.m) ≡ length (texts_of (take (suc j) ms)) = omega (arith, begins_at ms j n) in f)

some_is : {A : Type 0} (x y : A) → (let o : Option A = Some x in let p : Option A = Some y in o ≡ p) → x ≡ y
some_is {A = A} x y same = cc

-- the text that was found is that of the packet there
pub text_found_is : (o : Option (Bor (List ℕ))) (b : Bor (List ℕ)) (p : Option Message) (m : Message) → o ≡ Some b → option_copied o ≡ option_map text_of p → p ≡ Some m → b.now ≡ text_of m
text_found_is o b p m same is here = some_is b.now (text_of m) (sym (ap option_copied same) ∙ is ∙ ap (option_map text_of) here)
