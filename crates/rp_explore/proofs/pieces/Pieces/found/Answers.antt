-- A line is known, or it goes last.
use Rattle.std.specs.Prelude.{Vec}
use Rattle.std.specs.declared.alloc.Global.{Global}
use Rattle.std.proofs.Common.{◌≡◌, ℕ, Some, List, ◌++◌, map, nat_eq, slice_get, sym, ap, subst, ◌∙◌}
use Rattle.std.specs.List.{list_any}
use Rattle.std.specs.Cmp.Lexicographic.{pointwise}
use Rattle.std.proofs.lemmas.List.{length-map}
use Rattle.rp_explore.specs.Pieces.{AreMore}
use Rattle.rp_explore.proofs.PieceLemmas.{items, known_at, more_one, added_at}
use Rattle.rp_explore.proofs.pieces.Pieces.found.Goals as goal

pub returns-in-Some-clause-value : goal.returns-in-Some-clause-value
returns-in-Some-clause-value c =
    subst (λ (xs : List (List ℕ)). slice_get xs c.in-Some.known ≡ Some c.args.line.now) c.self.view_is
    (known_at c.args.line.now c.self.inside.lines.keys c.in-Some.known (sym c.in-Some.ensures.index))

pub returns-clause-more : goal.returns-clause-more
returns-clause-more c =
    let old = c.self.inside.lines.keys in
    let new = c.insert.new.self.keys in
    let own = c.extend_from_slice.new.self in
    subst (λ (xs : List (List ℕ)). AreMore xs (map items new)) c.self.view_is
    (more_one (list_any (λ (v : Vec ℕ Global). pointwise nat_eq own.items v.items) old) old new own c.in_ok-insert.ensures.keys)

pub returns-clause-value : goal.returns-clause-value
returns-clause-value c =
    let old = c.self.inside.lines.keys in
    let new = c.insert.new.self.keys in
    let own = c.extend_from_slice.new.self in
    let line = c.args.line.now in
    let same : own.items ≡ line = c.in_ok-extend_from_slice.ensures.items ∙ ap (λ (xs : List ℕ). xs ++ line) c.in_ok-own.ensures.items in
    added_at (list_any (λ (v : Vec ℕ Global). pointwise nat_eq own.items v.items) old) old new own line c.len-number.result c.in_ok-insert.ensures.keys
    (ap (λ (xs : List ℕ). list_any (λ (v : Vec ℕ Global). pointwise nat_eq xs v.items) old) same ∙ sym c.in_default.ensures.found)
    same (c.len-number.ensures.len ∙ sym (length-map old items))
