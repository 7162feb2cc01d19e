-- The line is one of those of the output.
use Rattle.std.proofs.Common.{◌≡◌, ◌∙◌, List, ℕ, Bor, ap, map, ap₂, sym}
use Rattle.std.specs.List.{list_any}
use Rattle.std.specs.Str.{bytes_eq}
use Rattle.rp_explore_run.specs.Wanted.{is_shown, text_lines}
use Rattle.rp_explore_run.specs.declared.wanted.Wanted.{Wanted}
use Rattle.rp_explore_run.proofs.Texts.{any_mapped}
use Rattle.rp_explore_run.proofs.wanted.is_shown.Goals as goal

pub returns-in_ok-lines-in-Line : goal.returns-in_ok-lines-in-Line
returns-in_ok-lines-in-Line c =
    let output = c.args.output.now in
    let wanted = c.as_bytes.result.now in
    let lines = c.deref.result.now in
    let texts : map (λ (line : Bor (List ℕ)). line.now) lines ≡ text_lines output =
    ap (map (λ (line : Bor (List ℕ)). line.now)) c.deref.ensures.value ∙ c.in_ok-lines-in-Line.ensures in
    c.has_line.ensures
    ∙ any_mapped (bytes_eq wanted) (λ (line : Bor (List ℕ)). line.now) lines
    ∙ ap₂ (λ (w : List ℕ) (t : List (List ℕ)). list_any (bytes_eq w) t) c.as_bytes.ensures.value texts
    ∙ sym (ap (λ (w : Wanted). is_shown w output) c.in-Line.is)
