use Rattle.std.proofs.Common.{◌≡◌, ◌+◌, ◌-◌, ◌<◌, ◌∷◌, take, drop, length, arith, sym, ap, ◌∙◌}
use Rattle.std.proofs.lemmas.Grind.{common_steps}
use Rattle.rp_words.specs.Lines.{lines_of}
use Rattle.rp_words.specs.LineEnds.{line_end, without_return}
use Rattle.rp_words.proofs.LinesLemmas.{split_ended}
use Rattle.rp_words.proofs.lines.Lines.next_line.Goals as goal

pub returns-clause-line : goal.returns-clause-line
returns-clause-line c =
    let all = c.args.self.now.rest.now in
    let end : c.length_of_line-end.result ≡ line_end all = c.length_of_line-end.ensures.value in
    let small : line_end all < length all = omega arith in
    let line : c.without_return.result.now ≡ without_return (take (line_end all) all) = grind (arith, common_steps) in
    let rest : take (length all - (c.length_of_line-end.result + 1)) (drop (c.length_of_line-end.result + 1) all) ≡ drop (line_end all + 1) all = grind (arith, common_steps) in
    split_ended all small ∙ ap (λ l. l ∷ lines_of (drop (line_end all + 1) all)) (sym line) ∙ ap (λ l. c.without_return.result.now ∷ lines_of l) (sym rest)
