-- Texts of packets that are joined are split at the length of the first.
use Rattle.std.proofs.Common.{◌≡◌, ◌≢◌, ℕ, ◌==◌, ◌≤◌, Bool, true, false, List, [], ◌∷◌, ◌++◌, length, take, drop, inl, inr, refl, sym, ap, subst, ◌∙◌, arith, length-append}
use Rattle.std.proofs.lemmas.Bool.{eqb-true}
use Rattle.std.proofs.Math.Seq.{take-append_seam, drop-append_seam}
use Rattle.rp_base.specs.Sets.{Has}
use Rattle.rp_codec.specs.Decoding.{BeginsWithPacket}
use Rattle.rp_codec.specs.Message.{Message, IsPacket}
use Rattle.rp_codec.specs.Text.{text_of, IsTextBefore}
use Rattle.rp_codec.proofs.VersionLaws.{latest_before}
use Rattle.rp_replica.specs.rp_outbox.specs.Packets.{texts_of}
use Rattle.rp_board.specs.Parts.{Part}
use Rattle.rp_board.specs.Seats.{IsSentText}
use Rattle.rp_threads.specs.Turns.{AreSentTexts}

-- n bytes are the text of the first packet, and the others follow
pub record IsFirst (part : Part) (texts : List ℕ) (len : ℕ) : Type 0 where
  pub some : 1 ≤ len
  pub within : len ≤ length texts
  pub text : IsSentText part (take len texts)
  pub others : AreSentTexts part (drop len texts)

first : (part : Part) (m : Message) (sends : List Message) → ((p : Message) → Has p (m ∷ sends) → Has p part.sent) → IsFirst part (text_of m ++ texts_of sends) (length (text_of m))
first part m sends are = record {
  some = omega arith;
  within = omega (arith, length-append (text_of m) (texts_of sends));
  text = (m, are m (inl refl), take-append_seam (text_of m) (texts_of sends));
  others = record { packets = sends; texts = drop-append_seam (text_of m) (texts_of sends); sent = (λ p has. are p (inr has)) };
}

first_among : (part : Part) (texts : List ℕ) (len : ℕ) (sends : List Message) → ((p : Message) → Has p part.sent → IsPacket p) → texts ≡ texts_of sends
    → ((p : Message) → Has p sends → Has p part.sent) → length texts ≢ 0
    → ((p : Message) (rest : List ℕ) → IsPacket p → IsTextBefore p rest texts → len ≡ length (text_of p)) → IsFirst part texts len
first_among part texts len [] right is are some lens = absurd (some (ap length is))
first_among part texts len (m ∷ sends) right is are some lens =
    let same = lens m (texts_of sends) (right m (are m (inl refl))) (latest_before m (texts_of sends) texts is) in
    let at : IsFirst part texts (length (text_of m)) = subst (λ (t : List ℕ). IsFirst part t (length (text_of m))) (sym is) (first part m sends are) in
    subst (λ (n : ℕ). IsFirst part texts n) (sym same) at

pub is_first : (part : Part) (texts : List ℕ) (len : ℕ) → ((p : Message) → Has p part.sent → IsPacket p) → AreSentTexts part texts → length texts ≢ 0
    → ((p : Message) (rest : List ℕ) → IsPacket p → IsTextBefore p rest texts → len ≡ length (text_of p)) → IsFirst part texts len
is_first part texts len right sent some lens = first_among part texts len sent.packets right sent.texts sent.sent some lens

begins_among : (part : Part) (texts : List ℕ) (sends : List Message) → ((p : Message) → Has p part.sent → IsPacket p) → texts ≡ texts_of sends
    → ((p : Message) → Has p sends → Has p part.sent) → length texts ≢ 0 → BeginsWithPacket texts
begins_among part texts [] right is are some = absurd (some (ap length is))
begins_among part texts (m ∷ sends) right is are some = (m, texts_of sends, right m (are m (inl refl)), latest_before m (texts_of sends) texts is)

-- where there are bytes, there is a first packet
pub begins : (part : Part) (texts : List ℕ) → ((p : Message) → Has p part.sent → IsPacket p) → AreSentTexts part texts → length texts ≢ 0 → BeginsWithPacket texts
begins part texts right sent some = begins_among part texts sent.packets right sent.texts sent.sent some

-- ---- whether bytes are left

pub some_left : (left : List ℕ) (empty : Bool) → empty ≡ (length left == 0) → empty ≡ false → length left ≢ 0
some_left left empty is some none =
    let never : false ≡ true = sym some ∙ is ∙ ap (λ (n : ℕ). n == 0) none in
    absurd (cc)

pub none_left : (left : List ℕ) (empty : Bool) → empty ≡ (length left == 0) → empty ≡ true → length left ≡ 0
none_left left empty is none = eqb-true _ _ (sym is ∙ none)
