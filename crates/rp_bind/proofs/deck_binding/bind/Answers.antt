-- What is bound is what the text declares.
use Rattle.std.proofs.Common.{sym, subst, ◌∙◌}
use Rattle.rp_deck_declarations.specs.rp_base.specs.declared.fault.Fault.{Fault}
use Rattle.rp_deck_declarations.specs.rp_words.specs.Ahead.{ahead}
use Rattle.rp_deck_declarations.specs.rp_words.specs.LineFaults.{Refuses}
use Rattle.rp_bind.specs.Binds.{declared_in}
use Rattle.rp_bind.proofs.Reading.{declared_from, faulted}
use Rattle.rp_bind.proofs.deck_binding.bind.Goals as goal

pub returns-in_err-declared-clause-fault : goal.returns-in_err-declared-clause-fault
returns-in_err-declared-clause-fault c =
    let text = c.args.text.now in
    let fault = c.in_err-declared.field-0.0 in
    let same = declared_from text c.new-lines.result c.new-lines.ensures.text c.new-lines.ensures.count in
    faulted (λ (e : Fault). Refuses e (declared_in text)) fault c.from_residual.result c.from_residual.ensures.1
    (subst (λ read. Refuses fault read) same c.in_err-declared.ensures.read)

pub returns-clause-bound : goal.returns-clause-bound
returns-clause-bound c =
    let declared = c.in_ok-declared.declared in
    record {
      declared = declared;
      rest = ahead c.read_declarations.new.lines;
      declares = sym (declared_from c.args.text.now c.new-lines.result c.new-lines.ensures.text c.new-lines.ensures.count) ∙ c.in_ok-declared.ensures.read;
      binds = c.in_ok-binding.ensures;
    }
