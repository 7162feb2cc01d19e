-- The four parts of a section, one after another.
use Rattle.std.proofs.Common.{◌≡◌, ◌∙◌, ◌++◌, ℕ, List, string_bytes, sym, ap, append_assoc}
use Rattle.std.specs.Prelude.{Bool, if◌then◌else◌, []}
use Rattle.rp_history.specs.Pages.{escaped_text, section_text}
use Rattle.rp_history.proofs.section.add_section.Goals as goal

joined : (text a b c d : List ℕ) → {one two three all : List ℕ} → one ≡ text ++ a → two ≡ one ++ b → three ≡ two ++ c → all ≡ three ++ d → all ≡ text ++ (a ++ (b ++ (c ++ d)))
joined text a b c d first second third fourth =
    fourth ∙ ap (λ (l : List ℕ). l ++ d) (third ∙ ap (λ (l : List ℕ). l ++ c) (second ∙ ap (λ (l : List ℕ). l ++ b) first)) ∙ simp append_assoc

pub returns : goal.returns
returns c =
    let text = string_bytes c.args.text.now in
    let section = section_text c.args.lanes.now c.args.number c.args.row.now in
    joined text _ _ _ _ c.in_ok-add_title.ensures c.in_ok-add_deed.ensures
    (c.in_ok-add_escaped_text.ensures ∙ ap (λ (bytes : List ℕ). string_bytes c.add_deed.new.text ++ escaped_text bytes) c.deref.ensures.value) c.in_ok-push_str.ensures.bytes
    ∙ ap (λ (is_drawn : Bool). text ++ (if is_drawn then section else [])) (sym c.if-not-row.false)
