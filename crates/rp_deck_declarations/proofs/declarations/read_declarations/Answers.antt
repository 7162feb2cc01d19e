use Rattle.std.proofs.Common.{ap, sym, subst, ◌∙◌}
use Rattle.rp_object.specs.rp_base.specs.declared.fault.Fault.{Fault}
use Rattle.rp_words.specs.Ahead.{ahead, after_last}
use Rattle.rp_deck_declarations.specs.Declaring.{declarations_of}
use Rattle.rp_words.specs.LineFaults.{Refuses, fault_at}
use Rattle.rp_deck_declarations.specs.DeclaredTexts.{known}
use Rattle.rp_deck_declarations.proofs.declarations.read_declarations.Goals as goal

-- only memory ran out
pub returns-in-Err-clause-read : goal.returns-in-Err-clause-read
returns-in-Err-clause-read c =
    let lines = c.args.lines.now in
    subst (λ (fault : Fault). Refuses fault (known (declarations_of (after_last lines) (ahead lines)))) (sym (c.at.ensures ∙ ap (fault_at 0) c.in-Err.ensures.memory)) tt
