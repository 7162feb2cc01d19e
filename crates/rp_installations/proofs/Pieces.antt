-- Lists of pending steps with one more, their bytes and their packets, and the packets that bytes are.
use Rattle.std.proofs.Common.{◌≡◌, ℕ, zero, suc, ◌+◌, Bool, true, Ok, List, [], ◌∷◌, ◌++◌, length, take, drop, inl, inr, refl, sym, ap, ◌∙◌, append_assoc, length-append, arith}
use Rattle.std.specs.Prelude.{filter}
use Rattle.std.specs.List.{AllByRecursion}
use Rattle.std.proofs.lemmas.Bool.{cond-true}
use Rattle.std.proofs.lemmas.List.{append-nil}
use Rattle.rp_base.specs.Sets.{Has}
use Rattle.rp_base.specs.declared.record.Rec.{Rec}
use Rattle.rp_model.specs.rp_codec.specs.Message.{Message, IsPacket}
use Rattle.rp_model.specs.rp_codec.proofs.Decoded.{same_packet}
use Rattle.rp_model.specs.Effect.{Setting, node_effect, turn_done}
use Rattle.rp_model.specs.Parts.{NodePart}
use Rattle.rp_agreement.specs.Order.{AllSent}
use Rattle.rp_world.specs.rp_outbox.specs.Packets.{texts_of}
use Rattle.rp_installations.specs.Pending.{PendingStep, MayCome, AreSteps, after_steps, bytes_of, bytes_written}
use Rattle.rp_installations.specs.Sites.{StepPackets}
use Rattle.rp_installations.specs.Behind.{AreTextsSent, end_after, packets_of}

-- ---- one step more

pub steps_more : {S : Type 0} (s : Setting S) (sent : List Message) (me : ℕ) (part : NodePart) (steps : List PendingStep) (step : PendingStep) → AreSteps s sent me part steps → MayCome sent step.input
    → node_effect s me (after_steps part steps) step.input ≡ Ok (turn_done (after_steps part steps) step.turn) → AreSteps s sent me part (steps ++ step ∷ [])
steps_more s sent me part [] step are may effect = (may, effect, tt)
steps_more s sent me part (first ∷ rest) step are may effect = (are.0, are.1, steps_more s sent me (turn_done part first.turn).part rest step are.2 may effect)

pub after_append : (part : NodePart) (front back : List PendingStep) → after_steps part (front ++ back) ≡ after_steps (after_steps part front) back
after_append part [] back = refl
after_append part (step ∷ front) back = after_append (turn_done part step.turn).part front back

pub bytes_append : (front back : List PendingStep) → bytes_of (front ++ back) ≡ bytes_of front ++ bytes_of back
bytes_append [] back = refl
bytes_append (step ∷ front) back =
    ap (λ (l : List ℕ). bytes_written step.turn.written ++ l) (bytes_append front back) ∙ sym (append_assoc (bytes_written step.turn.written) (bytes_of front) (bytes_of back))

ends_at : (n : ℕ) (a b : List ℕ) → (n + length a) + length b ≡ n + length (a ++ b)
ends_at n a b = omega (arith, length-append a b)

pub packets_append : (n : ℕ) (front back : List PendingStep) → packets_of n (front ++ back) ≡ packets_of n front ++ packets_of (n + length (bytes_of front)) back
packets_append n [] back = let same : n ≡ n + 0 = omega arith in ap (λ (k : ℕ). packets_of k back) same
packets_append n (step ∷ front) back =
    let first : StepPackets = record { texts = texts_of step.turn.sent; end = end_after n step } in
    ap (λ (l : List StepPackets). first ∷ l)
    (packets_append (end_after n step) front back
    ∙ ap (λ (k : ℕ). packets_of (end_after n step) front ++ packets_of k back) (ends_at n (bytes_written step.turn.written) (bytes_of front)))

-- ---- the packets of a pending step

pub record FoundStep (n : ℕ) (steps : List PendingStep) (p : StepPackets) : Type 0 where
  pub front : List PendingStep
  pub step : PendingStep
  pub back : List PendingStep
  pub parts : steps ≡ (front ++ step ∷ []) ++ back
  pub here : Has p (packets_of n (front ++ step ∷ []))
  pub end_is : p.end ≡ n + length (bytes_of (front ++ step ∷ []))

pub found_step : (n : ℕ) (steps : List PendingStep) (p : StepPackets) → Has p (packets_of n steps) → FoundStep n steps p
found_step n [] p none = absurd none
found_step n (step ∷ rest) p has =
    elim has [
      | inl same ↦ record {
        front = [];
        step = step;
        back = rest;
        parts = refl;
        here = inl same;
        end_is = ap (λ (q : StepPackets). q.end) same ∙ ap (λ (l : List ℕ). n + length l) (sym (append-nil (bytes_written step.turn.written)));
      }
      | inr later ↦
          let f = found_step (end_after n step) rest p later in
          record {
            front = step ∷ f.front;
            step = f.step;
            back = f.back;
            parts = ap (λ (l : List PendingStep). step ∷ l) f.parts;
            here = inr f.here;
            end_is = f.end_is ∙ ends_at n (bytes_written step.turn.written) (bytes_of (f.front ++ f.step ∷ []));
          }
    ]

-- the packets of steps, of which all that they send was sent
pub packets_sent : (sent : List Message) (n : ℕ) (steps : List PendingStep) → ((step : PendingStep) → Has step steps → (m : Message) → Has m step.turn.sent → Has m sent)
    → (p : StepPackets) → Has p (packets_of n steps) → AreTextsSent sent p.texts
packets_sent sent n [] all p none = absurd none
packets_sent sent n (step ∷ rest) all p has =
    elim has [
      | inl same ↦ record { messages = step.turn.sent; joined = ap (λ (q : StepPackets). q.texts) same; all = all step (inl refl) }
      | inr later ↦ packets_sent sent (end_after n step) rest (λ other there. all other (inr there)) p later
    ]

pub sent_later : (sent later : List Message) (texts : List ℕ) → AllSent sent later → AreTextsSent sent texts → AreTextsSent later texts
sent_later sent later texts all are = record { messages = are.messages; joined = are.joined; all = λ m has. all m (are.all m has) }

-- ---- packets that are joined in one way

pub same_messages : (xs ys : List Message) → AllByRecursion IsPacket xs → AllByRecursion IsPacket ys → texts_of xs ≡ texts_of ys → xs ≡ ys
same_messages [] [] each others e = refl
same_messages [] (y ∷ ys) each others e = absurd (cc)
same_messages (x ∷ xs) [] each others e = absurd (cc)
same_messages (x ∷ xs) (y ∷ ys) each others e =
    let same = same_packet x y (texts_of xs) (texts_of ys) each.0 others.0 e in
    ap (λ (m : Message). m ∷ xs) same.0 ∙ ap (λ (ms : List Message). y ∷ ms) (same_messages xs ys each.1 others.1 same.1)

pub each_packet : (ms : List Message) → ((m : Message) → Has m ms → IsPacket m) → AllByRecursion IsPacket ms
each_packet [] all = tt
each_packet (m ∷ rest) all = (all m (inl refl), each_packet rest (λ other has. all other (inr has)))

-- ---- lists

pub taken_drop : (n : ℕ) (bytes : List ℕ) → take n bytes ++ drop n bytes ≡ bytes
taken_drop zero bytes = refl
taken_drop (suc n) [] = refl
taken_drop (suc n) (b ∷ bytes) = ap (λ (l : List ℕ). b ∷ l) (taken_drop n bytes)

pub all_pass : (test : Rec → Bool) (records : List Rec) → ((rec : Rec) → Has rec records → test rec ≡ true) → filter test records ≡ records
all_pass test [] all = refl
all_pass test (rec ∷ rest) all =
    cond-true (test rec) (rec ∷ filter test rest) (filter test rest) (all rec (inl refl))
    ∙ ap (λ (rs : List Rec). rec ∷ rs) (all_pass test rest (λ other has. all other (inr has)))
