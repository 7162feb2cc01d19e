-- What is offered changes at the seat what its actor put, and nothing else.
use Rattle.std.proofs.Common.{◌≡◌, ℕ, Bool, true, false, List, [], ◌∷◌, ◌++◌, refl, sym, ap, subst, ◌∙◌}
use Rattle.rp_base.specs.declared.action.Action.{Action}
use Rattle.rp_base.specs.declared.reply.Answer.{Answer}
use Rattle.rp_codec.specs.Message.{Message}
use Rattle.rp_codec.specs.Text.{text_of}
use Rattle.rp_codec.specs.declared.packet.Party.{Party}
use Rattle.rp_board.specs.Moments.{WasInUse, WasPut}
use Rattle.rp_board.specs.Seats.{SeatState, IsPut}
use Rattle.rp_threads.specs.Turns.{AreOffered, HasFate, IsOfferedToBox}
use Rattle.rp_threads.specs.declared.sends.Fate.{Fate}
use Rattle.rp_threads.specs.declared.sends.Fate.TheVariants.{Put, InUse, NoMemory}

-- The seat is the same in all but the packets that its actor put.
pub record HasOnlyPut {P : Type 0} (old new : SeatState P) : Type 0 where
  pub put : List Message
  pub after : new ≡ record old { part = record old.part { put = put } }

module _ {P : Type 0} where
  pub none_put : (old new : SeatState P) → new ≡ old → HasOnlyPut old new
  none_put old new is = record { put = old.part.put; after = is }

  pub put_on : (a b c : SeatState P) → HasOnlyPut a b → HasOnlyPut b c → HasOnlyPut a c
  put_on a b c ab bc = record { put = bc.put; after = bc.after ∙ ap (λ (s : SeatState P). record s { part = record s.part { put = bc.put } }) ab.after }

module _ {S P : Type 0} (next : S → Action → S) (answers : S → Action → List Answer) (begin : P → S) (party : ℕ → Party) (text : List ℕ) (old new : SeatState P) where
  -- the packet went into its box
  pub went_in : IsPut text old new → WasPut next answers begin (party new.setup.number) text new → IsOfferedToBox next answers begin (party old.setup.number) text old new false
  went_in put full =
      (put, subst (λ (n : ℕ). WasPut next answers begin (party n) text new) (ap (λ (s : SeatState P). s.setup.number) put.after) full)

  -- or it was given back, and its buffer lent to the seat
  pub given_back : (lent : SeatState P) → lent ≡ new → new ≡ old → WasInUse next answers begin (party new.setup.number) text new → IsOfferedToBox next answers begin (party old.setup.number) text old lent true
  given_back lent is same used =
      subst (λ (s : SeatState P). IsOfferedToBox next answers begin (party old.setup.number) text old s true) (sym is)
      (same, subst (λ (n : ℕ). WasInUse next answers begin (party n) text new) (ap (λ (s : SeatState P). s.setup.number) same) used)

module _ {S P : Type 0} (next : S → Action → S) (answers : S → Action → List Answer) (begin : P → S) (from : Party) where
  pub offer_puts : (text : List ℕ) (old new : SeatState P) (is_lost : Bool) → IsOfferedToBox next answers begin from text old new is_lost → HasOnlyPut old new
  offer_puts text old new false offered = record { put = old.part.put ++ offered.0.packet ∷ []; after = offered.0.after }
  offer_puts text old new true offered = none_put old new offered.0

  fate_puts : (text : List ℕ) (old new : SeatState P) (fate : Fate) → HasFate next answers begin from text old new fate → HasOnlyPut old new
  fate_puts text old new Put offered = offer_puts text old new false offered
  fate_puts text old new InUse offered = offer_puts text old new true offered
  fate_puts text old new NoMemory same = none_put old new same

  pub offers_put : (packets : List Message) (old new : SeatState P) (lost uncopied : ℕ) → AreOffered next answers begin from packets old new lost uncopied → HasOnlyPut old new
  offers_put [] old new lost uncopied are = none_put old new are.0
  offers_put (m ∷ others) old new lost uncopied are =
      put_on old are.3 new (fate_puts (text_of m) old are.3 are.0 are.4) (offers_put others are.3 new are.1 are.2 are.5)
