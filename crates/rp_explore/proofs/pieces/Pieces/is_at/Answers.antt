-- Equal texts are one line.
use Rattle.std.proofs.Common.{◌≡◌, ℕ, Some, List, slice_get, sym, ap, subst, ◌∙◌}
use Rattle.std.specs.Option.{option_map}
use Rattle.std.specs.Cmp.Lexicographic.{bytes_decides}
use Rattle.std.proofs.lemmas.Option.{slice_get-map}
use Rattle.rp_explore.proofs.PieceLemmas.{items}
use Rattle.rp_explore.proofs.pieces.Pieces.is_at.Goals as goal

pub returns-in-Some : goal.returns-in-Some
returns-in-Some c = λ same.
    let keys = c.self.inside.lines.keys in
    let known = c.in-Some.known.now in
    let line = c.args.line.now in
    let there : slice_get keys c.args.number ≡ Some known = sym c.in-Some.ensures.key in
    let text : items known ≡ line = sym c.as_slice.ensures.value ∙ (bytes_decides c.as_slice.result.now line).0 (sym c.eq.ensures ∙ same) in
    subst (λ (xs : List (List ℕ)). slice_get xs c.args.number ≡ Some line) c.self.view_is
    (slice_get-map items keys c.args.number ∙ ap (option_map items) there ∙ ap Some text)
