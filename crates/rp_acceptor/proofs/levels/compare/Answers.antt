use Rattle.std.proofs.Common.{◌≡◌, ℕ, ◌-◌, ◌<◌, ◌≤◌, List, length, sym, ap, ◌∙◌, inl, inr, arith}
use Rattle.std.specs.Prelude.{slice_index_or}
use Rattle.std.specs.List.{range_with_len, AllWithin}
use Rattle.std.proofs.lemmas.Bool.{cases_lt}
use Rattle.std.proofs.lemmas.List.{get_or_default}
use Rattle.rp_base.specs.Ranges.{end_of, positions_of}
use Rattle.rp_acceptor.specs.declared.comparison.Comparison.{Comparison}
use Rattle.rp_acceptor.specs.Comparing.{compared, followed_by}
use Rattle.rp_acceptor.specs.Levels.{Level, holding_ballot, ballot_before}
use Rattle.rp_acceptor.proofs.Comparing.{stretch_ballot, stretch_next}
use Rattle.rp_acceptor.proofs.levels.compare.Goals.{then-loop-count-test+else-from-end, else-loop-count-test}
use Rattle.rp_acceptor.proofs.levels.compare.Goals as goal

pub loop-count-preserved : goal.loop-count-preserved
loop-count-preserved c =
    let levels : List Level = c.args.levels.now in
    let range = c.args.range in
    let b : ℕ = c.args.ballot in
    let count : ℕ = c.loop-count.count in
    let position : ℕ = c.loop-count.position in
    let next : ℕ = c.from-next.result in
    let level : Level = c.index-levels-count-in-loop-count.result in
    let is = c.loop-count.invariant in
    let within : count < length levels = omega (arith, c.loop-count-test.true) in
    let here : (d : Level) → next ≡ (slice_index_or levels count d).from =
    λ d. c.from-next.ensures ∙ ap (λ (s : Level). s.from) (c.index-levels-count-in-loop-count.is ∙ get_or_default levels count level d within) in
    let up : position ≤ next = let above = is.above count level (omega arith) within in omega (arith, above, here level) in
    let most : next ≤ end_of range =
    let seen = ap (λ (s : Level). s.from) (c.index-levels-count.is ∙ get_or_default levels count c.index-levels-count.result level within) in
    omega (arith, c.if-from-end.true, c.from.ensures, seen, here level, c.end-end.ensures.value) in
    let later : AllWithin (λ s. next ≤ s.from) levels count (length levels) =
    λ k d from short. let order = c.requires count k d from short in omega (arith, order, here d) in
    record {
      bound = omega (arith, within);
      first = omega (arith, is.first, up);
      last = most;
      below = λ k d low high. elim (cases_lt k count) [
        | inl early ↦ let below = is.below k d low early in omega (arith, below, up)
        | inr late ↦
            let same : k ≡ count = omega (arith, late, high) in
            let last = ap (λ (j : ℕ). (slice_index_or levels j d).from) same in
            omega (arith, last, here d)
      ];
      above = λ k d from short. later k d (omega (arith, from)) short;
      so_far = ap (λ (x : Comparison). followed_by x (compared (holding_ballot levels) b (range_with_len next (end_of range - next)))) c.followed_by-found.ensures
          ∙ stretch_next levels b position next (end_of range) count c.loop-count.found c.compare_stretch.result (compared (holding_ballot levels) b (positions_of range)) up most is.below later
          (c.compare_stretch.ensures ∙ ap (λ (h : ℕ). compared (λ i. h) b (range_with_len position (next - position))) c.ballot_before-held.ensures) is.so_far;
    }

pub returns : goal.returns
returns c =
    let levels : List Level = c.args.levels.now in
    let range = c.args.range in
    let b : ℕ = c.args.ballot in
    let count : ℕ = c.loop-count.count in
    let position : ℕ = c.loop-count.position in
    let end : ℕ = end_of range in
    let is = c.loop-count.invariant in
    let later : AllWithin (λ s. end ≤ s.from) levels count (length levels) =
    λ k d from short. elim c.loop-count-test.branch [
      | then-loop-count-test+else-from-end w ↦
          let level : Level = w.index-levels-count.result in
          let within : count < length levels = omega (arith, w.loop-count-test.true) in
          let here = ap (λ (s : Level). s.from) (w.index-levels-count.is ∙ get_or_default levels count level d within) in
          let order = c.requires count k d from short in
          omega (arith, w.if-from-end.false, w.from.ensures, here, order, c.end-end.ensures.value)
      | else-loop-count-test w ↦ absurd (omega (arith, from, short, w.loop-count-test.false))
    ] in
    c.followed_by.ensures
    ∙ ap (followed_by c.loop-count.found)
    (c.compare_stretch-2.ensures
    ∙ ap (λ (h : ℕ). compared (λ i. h) b (range_with_len position (c.end-end.result - position))) c.ballot_before-held-2.ensures
    ∙ ap (λ (n : ℕ). compared (λ i. ballot_before 0 levels count) b (range_with_len position (n - position))) c.end-end.ensures.value
    ∙ sym (stretch_ballot levels b position end count is.below later))
    ∙ is.so_far
