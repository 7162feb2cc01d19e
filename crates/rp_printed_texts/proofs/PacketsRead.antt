-- The line of a packet is read back.
use Rattle.std.proofs.Common.{◌≡◌, ◌<◌, ◌^◌, ℕ, cond, List, [], ◌∷◌, ◌++◌, map, Option, Some, refl, ◌∙◌, ap, ap₂, arith}
use Rattle.std.specs.Prelude.{codes}
use Rattle.std.specs.Fmt.{decimal}
use Rattle.std.specs.Str.Parse.{digits_value}
use Rattle.rp_output.specs.rp_base.specs.declared.action.Action.{Action}
use Rattle.rp_output.specs.rp_base.specs.declared.action.Action.TheVariants as actions
use Rattle.rp_output.specs.rp_codec.specs.declared.packet.Body.{Body}
use Rattle.rp_output.specs.rp_codec.specs.declared.packet.Body.TheVariants.{Call, Prepare, Promise, Accept, Accepted, Decided, Ask, Nack, Reply, Report, PrepareRange, PromiseRange}
use Rattle.rp_output.specs.Trace.{call_number, body_text_of, trace_line_of}
use Rattle.rp_printed_texts.specs.Reading.{words_in, HasNoSpace}
use Rattle.rp_printed_texts.specs.Packets.{PacketRead, before_mark, after_mark, packet_in, read_packet, call_stated, stated_of, AreNumbers, IsPartyName}
use Rattle.rp_printed_texts.proofs.WordsRead.{other, word_first, word_last, number_solid, value_back}

-- ---- parties

party_solid : (from to : List ℕ) → IsPartyName from → IsPartyName to → HasNoSpace (from ++ 62 ∷ to)
party_solid [] [] one two = ((λ is. omega (arith, is)), tt)
party_solid [] (byte ∷ rest) one two = ((λ is. omega (arith, is)), name_solid (byte ∷ rest) two) where
  name_solid : (name : List ℕ) → IsPartyName name → HasNoSpace name
  name_solid [] is = tt
  name_solid (b ∷ bs) is = (is.0, name_solid bs is.2)
party_solid (byte ∷ from) to one two = (one.0, party_solid from to one.2 two)

sender_back : (from to : List ℕ) → IsPartyName from → before_mark (from ++ 62 ∷ to) ≡ from
sender_back [] to is = refl
sender_back (byte ∷ from) to is =
    ap (λ b. cond {A = List ℕ} b [] (byte ∷ before_mark (from ++ 62 ∷ to))) (other byte 62 is.1) ∙ ap (λ (l : List ℕ). byte ∷ l) (sender_back from to is.2)

receiver_back : (from to : List ℕ) → IsPartyName from → after_mark (from ++ 62 ∷ to) ≡ to
receiver_back [] to is = refl
receiver_back (byte ∷ from) to is =
    ap (λ b. cond {A = List ℕ} b (from ++ 62 ∷ to) (after_mark (from ++ 62 ∷ to))) (other byte 62 is.1) ∙ receiver_back from to is.2

-- ---- numbers

one_number : (a : ℕ) → a < 2 ^ 64 → words_in (decimal a) ≡ decimal a ∷ []
one_number a small = word_last (decimal a) (number_solid a small)

two_numbers : (a b : ℕ) → a < 2 ^ 64 → b < 2 ^ 64 → words_in (decimal a ++ (codes " " ++ decimal b)) ≡ decimal a ∷ decimal b ∷ []
two_numbers a b small few = word_first (decimal a) (decimal b) (number_solid a small) ∙ ap (λ (w : List (List ℕ)). decimal a ∷ w) (one_number b few)

three_numbers : (a b c : ℕ) → a < 2 ^ 64 → b < 2 ^ 64 → c < 2 ^ 64 → words_in (decimal a ++ (codes " " ++ (decimal b ++ (codes " " ++ decimal c)))) ≡ decimal a ∷ decimal b ∷ decimal c ∷ []
three_numbers a b c small few short = word_first (decimal a) (decimal b ++ (codes " " ++ decimal c)) (number_solid a small) ∙ ap (λ (w : List (List ℕ)). decimal a ∷ w) (two_numbers b c few short)

pub same_call : (action : Action) → call_number action ≡ call_stated action
same_call actions.Noop = refl
same_call (actions.Call task number object operation arg) = refl
same_call (actions.Interrupt source occurrence) = refl
same_call (actions.Tick now) = refl

-- the words of what the line says of the packet
pub body_words : (body : Body) → AreNumbers (stated_of body).1 → words_in (body_text_of body) ≡ (stated_of body).0 ∷ map decimal (stated_of body).1
body_words (Call action) small =
    ap (λ n. words_in (codes "call " ++ decimal n)) (same_call action) ∙ ap (λ (w : List (List ℕ)). codes "call" ∷ w) (one_number (call_stated action) small.0)
body_words (Prepare position ballot) small = ap (λ (w : List (List ℕ)). codes "prepare" ∷ w) (two_numbers position ballot small.0 small.1.0)
body_words (Promise position ballot last) small = ap (λ (w : List (List ℕ)). codes "promise" ∷ w) (two_numbers position ballot small.0 small.1.0)
body_words (Accept position ballot action) small = ap (λ (w : List (List ℕ)). codes "accept" ∷ w) (two_numbers position ballot small.0 small.1.0)
body_words (Accepted position ballot action) small = ap (λ (w : List (List ℕ)). codes "accepted" ∷ w) (two_numbers position ballot small.0 small.1.0)
body_words (Decided position action) small = ap (λ (w : List (List ℕ)). codes "decided" ∷ w) (one_number position small.0)
body_words (Ask position) small = ap (λ (w : List (List ℕ)). codes "ask" ∷ w) (one_number position small.0)
body_words (Nack position ballot bound) small = ap (λ (w : List (List ℕ)). codes "nack" ∷ w) (two_numbers position ballot small.0 small.1.0)
body_words (Reply number reply) small = ap (λ (w : List (List ℕ)). codes "reply" ∷ w) (one_number number small.0)
body_words (Report first applied stated) small = ap (λ (w : List (List ℕ)). codes "report" ∷ w) (one_number first small.0)
body_words (PrepareRange range ballot) small = ap (λ (w : List (List ℕ)). codes "prepare_range" ∷ w) (three_numbers range.first range.count ballot small.0 small.1.0 small.1.1.0)
body_words (PromiseRange range ballot votes) small = ap (λ (w : List (List ℕ)). codes "promise_range" ∷ w) (three_numbers range.first range.count ballot small.0 small.1.0 small.1.1.0)

values_back : (numbers : List ℕ) → AreNumbers numbers → map (digits_value 10) (map decimal numbers) ≡ numbers
values_back [] small = refl
values_back (n ∷ rest) small = ap₂ (λ x (l : List ℕ). x ∷ l) (value_back n small.0) (values_back rest small.1)

module _ (number : ℕ) (from to : List ℕ) (body : Body) (small : number < 2 ^ 64) (one : IsPartyName from) (two : IsPartyName to) (fits : AreNumbers (stated_of body).1) where
  -- what is read, where these are the words after the number's first letter
  abbrev read_as : List (List ℕ) → Option PacketRead
  read_as rest = packet_in ((109 ∷ decimal number) ∷ rest)

  lettered : HasNoSpace (109 ∷ decimal number)
  lettered = ((λ is. omega (arith, is)), number_solid number small)

  regrouped : (ds rest : List ℕ) → ds ++ 62 ∷ (to ++ 32 ∷ rest) ≡ (ds ++ 62 ∷ to) ++ 32 ∷ rest
  regrouped [] rest = refl
  regrouped (d ∷ ds) rest = ap (λ (l : List ℕ). d ∷ l) (regrouped ds rest)

  pub line_words : words_in (trace_line_of number from to body) ≡ (109 ∷ decimal number) ∷ (from ++ 62 ∷ to) ∷ (stated_of body).0 ∷ map decimal (stated_of body).1
  line_words =
      word_first (109 ∷ decimal number) (from ++ 62 ∷ (to ++ 32 ∷ body_text_of body)) lettered
      ∙ ap (λ (w : List (List ℕ)). (109 ∷ decimal number) ∷ w)
      (ap words_in (regrouped from (body_text_of body)) ∙ word_first (from ++ 62 ∷ to) (body_text_of body) (party_solid from to one two)
      ∙ ap (λ (w : List (List ℕ)). (from ++ 62 ∷ to) ∷ w) (body_words body fits))

  abbrev read : ℕ → List ℕ → List ℕ → List ℕ → Option PacketRead
  read n sender receiver numbers = Some (record { number = n; from = sender; to = receiver; kind = (stated_of body).0; numbers = numbers })

  pub packet_back : read_packet (trace_line_of number from to body) ≡ read number from to (stated_of body).1
  packet_back = ap packet_in line_words ∙ (λ i. read (value_back number small i) (sender_back from to one i) (receiver_back from to one i) (values_back (stated_of body).1 fits i))
