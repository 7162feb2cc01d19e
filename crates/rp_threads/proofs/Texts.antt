-- What a line holds stays the texts of packets that the seat got.
use Rattle.std.proofs.Common.{◌≡◌, ◌≢◌, ◌⊎◌, ℕ, Option, Some, None, Vec, Global, Result, Ok, Err, List, [], ◌∷◌, ◌++◌, inl, inr, refl, sym, ap, subst, ◌∙◌}
use Rattle.std.specs.Prelude.{OnOk, OnErr, IfSome, IfNone, IsSome, option_map}
use Rattle.rp_base.specs.Sets.{Has}
use Rattle.rp_base.specs.declared.action.Action.{Action}
use Rattle.rp_base.specs.declared.fault.Fault.{Fault}
use Rattle.rp_base.specs.declared.fault.Fault.TheVariants.{OutOfMemory}
use Rattle.rp_base.specs.declared.reply.Answer.{Answer}
use Rattle.rp_base.proofs.Members.{has_left}
use Rattle.rp_codec.specs.Message.{Message}
use Rattle.rp_codec.specs.declared.packet.Party.{Party}
use Rattle.rp_tasks.specs.Line.{Line, word_of, drawn, accepted, picked, released}
use Rattle.rp_board.specs.Moments.{WasNotFull}
use Rattle.rp_board.specs.Seats.{SeatState, IsFetched}
use Rattle.rp_threads.specs.Lines.{IsTextAmong, HoldsTextsOf, line_with, given_on, left_of}
use Rattle.rp_threads.specs.Turns.{MayFetch, IsBrought, IsLost}

-- ---- what the line promises of itself

abbrev pub KeepsAccepted : Type 0
KeepsAccepted = (word : ℕ) (packet text : List ℕ) (line : Line) → Has text (accepted word packet line).held → (text ≡ packet) ⊎ Has text line.held

abbrev pub KeepsPicked : Type 0
KeepsPicked = (word : ℕ) (text : List ℕ) (line : Line) → picked word line ≡ Some text → Has text line.held

abbrev pub KeepsReleased : Type 0
KeepsReleased = (word : ℕ) (text : List ℕ) (line : Line) → Has text (released word line).held → Has text line.held

-- ---- an empty line, and another list of the same packets

pub empty_holds : (packets : List Message) (line : Line) → line.held ≡ [] → HoldsTextsOf packets line
empty_holds packets line none = record { each = λ text has. absurd (subst (λ (held : List (List ℕ)). Has text held) none has) }

pub same_holds : (packets others : List Message) (line : Line) → others ≡ packets → HoldsTextsOf packets line → HoldsTextsOf others line
same_holds packets others line same holds = subst (λ (ms : List Message). HoldsTextsOf ms line) (sym same) holds

module _ {P : Type 0} {old new : SeatState P} {line after : Line} where
  got_holds : new ≡ old → after ≡ line → HoldsTextsOf old.part.got line → HoldsTextsOf new.part.got after
  got_holds same stays holds = subst (λ (s : SeatState P). HoldsTextsOf s.part.got after) (sym same) (subst (HoldsTextsOf old.part.got) (sym stays) holds)

-- ---- a packet is fetched

last_has : {A : Type 0} (x : A) (xs : List A) → Has x (xs ++ x ∷ [])
last_has x [] = inl refl
last_has x (y ∷ ys) = inr (last_has x ys)

-- more packets, and the line holds texts of these
holds_of_more : (packets : List Message) (m : Message) (line : Line) → HoldsTextsOf packets line → HoldsTextsOf (packets ++ m ∷ []) line
holds_of_more packets m line holds = record { each = λ text has. let h = holds.each text has in (h.0, has_left h.0 packets (m ∷ []) h.1, h.2) }

module _ {P : Type 0} (from to : Party) (text : List ℕ) (old new : SeatState P) (line : Line) (f : IsFetched from to text old new) (holds : HoldsTextsOf old.part.got line) where
  -- what was got once a packet was fetched
  got_now : new.part.got ≡ old.part.got ++ f.packet ∷ []
  got_now = ap (λ (c : SeatState P). c.part.got) f.after

  -- the line as it was
  pub fetched_holds : HoldsTextsOf new.part.got line
  fetched_holds = same_holds (old.part.got ++ f.packet ∷ []) new.part.got line got_now (holds_of_more old.part.got f.packet line holds)

  taken_from : (found : List ℕ) → (found ≡ text) ⊎ Has found line.held → IsTextAmong new.part.got found
  taken_from found (inl same) = (f.packet, subst (λ (got : List Message). Has f.packet got) (sym got_now) (last_has f.packet old.part.got), same ∙ f.text)
  taken_from found (inr there) = fetched_holds.each found there

  -- the line once it took the packet
  pub taken_holds : KeepsAccepted → HoldsTextsOf new.part.got (line_with (Some text) line)
  taken_holds keeps = record { each = λ found has. taken_from found (keeps (word_of line) text found (drawn line) has) }

  -- the line, whether memory was there for it to take the packet or not
  pub accepted_holds : {A : Type 0} (after : Line) (result : Result A Fault) → KeepsAccepted → OnOk result (after ≡ line_with (Some text) line) → OnErr result (after ≡ line)
      → HoldsTextsOf new.part.got after
  accepted_holds after (Ok x) keeps ok err = subst (HoldsTextsOf new.part.got) (sym ok) (taken_holds keeps)
  accepted_holds after (Err e) keeps ok err = subst (HoldsTextsOf new.part.got) (sym err) fetched_holds

-- ---- a packet is fetched, or none is

-- the text of the packet that was fetched, if one was
abbrev pub fetched_text : Option (Vec ℕ Global) → Option (List ℕ)
fetched_text = option_map (λ (packet : Vec ℕ Global). packet.items)

module _ {P : Type 0} (from to : Party) (old new : SeatState P) where
  pub fetched_held : (found : Option (Vec ℕ Global)) → IfSome found (λ packet. IsFetched from to packet.items old new) → IfNone found (new ≡ old) → {A : Type 0} (line after : Line) (result : Result A Fault)
      → OnOk result (after ≡ line_with (fetched_text found) line) → OnErr result (after ≡ line) → KeepsAccepted → HoldsTextsOf old.part.got line → HoldsTextsOf new.part.got after
  fetched_held (Some packet) f none line after result ok err keeps holds = accepted_holds from to packet.items old new line f holds after result keeps ok err
  fetched_held None some same line after (Ok x) ok err keeps holds = got_holds same ok holds
  fetched_held None some same line after (Err e) ok err keeps holds = got_holds same err holds

-- the party is that of the seat's number
module _ {S P : Type 0} (next : S → Action → S) (answers : S → Action → List Answer) (begin : P → S) (party : ℕ → Party) (from : Party) (old new : SeatState P) where
  may_fetch : (found : Option (Vec ℕ Global)) → IfSome found (λ packet. IsFetched from (party old.setup.number) packet.items old new) → IfNone found (new ≡ old)
      → IfNone found (WasNotFull next answers begin from (party new.setup.number) new) → MayFetch next answers begin (fetched_text found) from (party old.setup.number) old new
  may_fetch (Some packet) some none missed = some
  may_fetch None some none missed = (none, subst (λ (k : ℕ). WasNotFull next answers begin from (party k) new) (ap (λ (seat : SeatState P). seat.setup.number) none) missed)

module _ {S P : Type 0} (next : S → Action → S) (answers : S → Action → List Answer) (begin : P → S) (party : ℕ → Party) {from : Party} {old new : SeatState P} where
  pub is_brought : (found : Option (Vec ℕ Global)) → IfSome found (λ packet. IsFetched from (party old.setup.number) packet.items old new) → IfNone found (new ≡ old)
      → IfNone found (WasNotFull next answers begin from (party new.setup.number) new) → (line after : Line)
      → after ≡ line_with (fetched_text found) line → IsBrought next answers begin from (party old.setup.number) old new line after
  is_brought found some none missed line after takes = record { fetched = fetched_text found; fetch = may_fetch next answers begin party from old new found some none missed; takes = takes }

module _ {P : Type 0} {from to : Party} {old new : SeatState P} where
  pub is_lost : (found : Option (Vec ℕ Global)) → IfSome found (λ packet. IsFetched from to packet.items old new) → (line after : Line) (fault : Fault) → after ≡ line → IsSome found → fault ≡ OutOfMemory
      → IsLost from to old new line after fault
  is_lost None some line after fault same found only = absurd (cc)
  is_lost (Some packet) f line after fault same found only = record { packet = packet.items; fetch = f; memory = only; stays = same }

-- ---- a packet is given on

left_holds : (packets : List Message) (line : Line) (texts : List (List ℕ)) → KeepsReleased → HoldsTextsOf packets line → HoldsTextsOf packets (left_of texts line)
left_holds packets line [] keeps holds = holds
left_holds packets line (text ∷ texts) keeps holds = record { each = λ found has. holds.each found (keeps (word_of line) found (drawn line) has) }

-- the line once it gave that on
is_after : (line after : Line) → (line.held ≢ [] → after ≡ released (word_of line) (drawn line)) → (line.held ≡ [] → after ≡ line) → (held : List (List ℕ)) → line.held ≡ held → after ≡ left_of held line
is_after line after some none [] is = none is
is_after line after some none (text ∷ others) is = some (λ e. let clash : text ∷ others ≡ [] = sym is ∙ e in cc)

-- whatever more was got
module _ {packets others : List Message} (line after : Line) where
  pub released_holds : (line.held ≢ [] → after ≡ released (word_of line) (drawn line)) → (line.held ≡ [] → after ≡ line) → KeepsReleased → HoldsTextsOf packets line → others ≡ packets → HoldsTextsOf others after
  released_holds some none keeps holds same =
      same_holds packets others after same (subst (HoldsTextsOf packets) (sym (is_after line after some none line.held refl)) (left_holds packets line line.held keeps holds))

pub given_holds : (packets : List Message) (line : Line) (text : List ℕ) → KeepsPicked → HoldsTextsOf packets line → given_on line ≡ Some text → IsTextAmong packets text
given_holds packets line text keeps holds given = holds.each text (keeps (word_of line) text line given)
