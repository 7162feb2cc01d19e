-- What is noted leaves each seat its setup.
use Rattle.std.proofs.Common.{◌≡◌, ℕ, zero, suc, ◌-◌, ◌<◌, Option, Some, None, List, [], ◌∷◌, length, set, get_or, slice_get, refl, sym, ap, subst, ◌∙◌, arith}
use Rattle.std.specs.List.{AllZip}
use Rattle.rp_threads.specs.rp_base.specs.declared.action.Action.{Action}
use Rattle.rp_threads.specs.rp_base.specs.declared.reply.Answer.{Answer}
use Rattle.rp_board.specs.Seats.{SeatState}
use Rattle.rp_boxes.specs.rp_model.specs.declared.event.Event.{Event}
use Rattle.rp_boxes.specs.rp_rules.specs.declared.input.Input.{Input}
use Rattle.rp_threads.proofs.Places.{zip_on}
use Rattle.rp_threads.proofs.Steps.{event_same}
use Rattle.rp_live.specs.Noted.{AreNoted, IsNotedInput, noted_by}

module _ {P : Type 0} where
  abbrev pub IsSame : SeatState P → SeatState P → Type 0
  IsSame old new = new.setup ≡ old.setup

  same_all : (seats : List (SeatState P)) → AllZip IsSame seats seats
  same_all [] = tt
  same_all (seat ∷ seats) = (refl, same_all seats)

  same_with : (seats : List (SeatState P)) (place : ℕ) (old new : SeatState P) → slice_get seats place ≡ Some old → IsSame old new → AllZip IsSame seats (set seats place new)
  same_with [] place old new at same = absurd (cc)
  same_with (seat ∷ seats) zero old new at same = (subst (λ (c : SeatState P). IsSame c new) (let e : old ≡ seat = cc in e) same, same_all seats)
  same_with (seat ∷ seats) (suc place) old new at same = (refl, same_with seats place old new at same)

  module _ {S : Type 0} (next : S → Action → S) (answers : S → Action → List Answer) (begin : P → S) where
    noted_same : (note : Option (ℕ × Input)) (olds news : List (SeatState P)) → IsNotedInput next answers begin note olds news → AllZip IsSame olds news
    noted_same None olds news is = subst (AllZip IsSame olds) (sym is) (same_all olds)
    noted_same (Some note) olds news is =
        subst (AllZip IsSame olds) (sym is.news_are) (same_with olds (note.0 - 1) is.old is.new is.at (event_same next answers begin (λ given. given ≡ note.1) is.old is.new is.packets is.event))

    pub all_noted : (events : List Event) (n : ℕ) (olds news : List (SeatState P)) → AreNoted next answers begin events n olds news → AllZip IsSame olds news
    all_noted events zero olds news are = subst (AllZip IsSame olds) (sym are) (same_all olds)
    all_noted events (suc n) olds news are =
        zip_on IsSame IsSame IsSame (λ a b c ab bc. bc ∙ ab) olds are.0 news (all_noted events n olds are.0 are.2) (noted_same (noted_by are.1) are.0 news are.4)

-- ---- where a node is

pub found_at : {A : Type 0} (xs : List A) (k : ℕ) (x : A) → k < length xs → x ≡ get_or xs k x → slice_get xs k ≡ Some x
found_at [] k x within is = absurd (omega (arith, within))
found_at {A = A} (y ∷ ys) zero x within is = ap (λ (z : A). Some z) (sym is)
found_at (y ∷ ys) (suc k) x within is = found_at ys k x (omega (arith, within)) is
