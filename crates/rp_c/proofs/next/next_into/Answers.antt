-- The text of the next deck is put into the buffer, or does not fit.
use Rattle.std.proofs.Common.{◌≡◌, List, ℕ, Result, Ok, Some, Vec, Global, subst}
use Rattle.rp_c.specs.Decks.{IsTextPut, IsTextTooLong}
use Rattle.rp_handles.specs.NextDecks.{HandleGoesOn}
use Rattle.rp_handles.specs.declared.next.NoNextDeck.{NoNextDeck}
use Rattle.rp_c.proofs.Putting.{is_long, is_put}
use Rattle.rp_c.proofs.next.next_into.Goals as goal

pub returns-in-ShortAnswer-clause-given : goal.returns-in-ShortAnswer-clause-given
returns-in-ShortAnswer-clause-given c =
    let old = c.args.answer.now in
    let some = c.in-Some-Ok.is in
    let ok = c.in-Some-Ok.field-0-is in
    let next = c.in-Some-Ok.next-is in
    let is : c.in-Some-Ok.field-0 ≡ Ok c.in-Some-Ok.next = cc in (
      c.in-Some-Ok.next,
      subst (λ (found : Result (Vec ℕ Global) NoNextDeck). HandleGoesOn c.args.deck.now c.args.handle.now.kept (Some found)) is c.in-Some-Ok.ensures.next,
      subst (λ (text : List ℕ). IsTextTooLong text old c.put.new.answer c.put.new.used) c.deref.ensures.value
          (is_long c.deref.result.now old c.put.new.answer c.put.new.used c.put.result c.put.ensures c.in-ShortAnswer.is),
    )

pub returns-in-Some-Ok : goal.returns-in-Some-Ok
returns-in-Some-Ok c =
    let old = c.args.answer.now in
    let some = c.in-Some-Ok.is in
    let ok = c.in-Some-Ok.field-0-is in
    let next = c.in-Some-Ok.next-is in
    let is : c.in-Some-Ok.field-0 ≡ Ok c.in-Some-Ok.next = cc in
    record {
      given = (
        c.in-Some-Ok.next,
        subst (λ (found : Result (Vec ℕ Global) NoNextDeck). HandleGoesOn c.args.deck.now c.args.handle.now.kept (Some found)) is c.in-Some-Ok.ensures.next,
        subst (λ (text : List ℕ). IsTextPut text old c.put.new.answer c.put.new.used) c.deref.ensures.value
            (is_put c.deref.result.now old c.put.new.answer c.put.new.used c.put.result c.put.ensures c.in_default.not-ShortAnswer),
      );
      same = c.next_deck_of.ensures.same;
    }
