use Rattle.std.proofs.Common.{◌≡◌, ◌<◌, ◌≤◌, ℕ, List, ◌++◌, length, set, drop, refl, sym, ap, subst, ◌∙◌, arith}
use Rattle.std.specs.Prelude.{slice_index_or}
use Rattle.std.specs.List.{AllWithin}
use Rattle.std.proofs.lemmas.List.{take-append-drop, get_or_default, length-set}
use Rattle.std.proofs.lemmas.List.Edits.{map_over_more}
use Rattle.rp_acceptor.specs.Levels.{Level, raised_level}
use Rattle.rp_acceptor.proofs.Raising.{early_stay, raised_here, next_as_it_was, all_raised}
use Rattle.rp_acceptor.proofs.levels.raise.Goals as goal

pub loop-index-init : goal.loop-index-init
loop-index-init c =
    let old : List Level = c.args.levels.now.items in
    let index : ℕ = c.count_below-index.result in
    let below : AllWithin (λ s. s.from < c.args.first) old 0 index =
    subst (λ (l : List Level). AllWithin (λ s. s.from < c.args.first) l 0 index) c.deref.ensures.value c.count_below-index.ensures.below in
    record {
      raised = sym (take-append-drop index old)
          ∙ ap (λ (l : List Level). l ++ drop index old) (sym (early_stay c.args.first c.args.end c.args.ballot old index below));
      long = refl;
      bound = subst (λ (l : List Level). index ≤ length l) c.deref.ensures.value c.count_below-index.ensures.bound;
      above = subst (λ (l : List Level). AllWithin (λ s. c.args.first ≤ s.from) l index (length l)) c.deref.ensures.value c.count_below-index.ensures.not_below;
    }

pub loop-index-preserved : goal.loop-index-preserved
loop-index-preserved c =
    let old : List Level = c.args.levels.now.items in
    let index : ℕ = c.loop-index.index in
    let is = c.loop-index.invariant in
    let within : index < length old = omega (arith, c.loop-index-test.true, c.len.ensures, c.loop-index.levels.ok, is.long) in
    let was : c.index_mut.result.now ≡ slice_index_or c.loop-index.levels.items index c.index_mut.result.now = c.index_mut.ensures.value in
    let before : c.index_mut.result.now ≡ slice_index_or old index c.index_mut.result.now =
    was ∙ ap (λ (l : List Level). slice_index_or l index c.index_mut.result.now) is.raised ∙ next_as_it_was (raised_level c.args.first c.args.end c.args.ballot) old index c.index_mut.result.now within in
    let from : c.args.first ≤ c.index_mut.result.now.from = subst (λ (s : Level). c.args.first ≤ s.from) (sym before) (is.above index c.index_mut.result.now (omega arith) within) in
    let seen = ap (λ (s : Level). s.from)
    (c.index.ensures ∙ get_or_default c.loop-index.levels.items index c.index.result.now c.index_mut.result.now (omega (arith, within, is.long)) ∙ sym was) in
    let below : c.index_mut.result.now.from < c.args.end = omega (arith, c.if-from-end.true, c.from.ensures, seen) in
    record {
      raised = ap (λ (s : Level). set c.loop-index.levels.items index s) (c.raise.ensures ∙ sym (raised_here c.args.first c.args.end c.args.ballot c.index_mut.result.now from below))
          ∙ map_over_more (raised_level c.args.first c.args.end c.args.ballot) old c.loop-index.levels.items index c.index_mut.result.now within is.raised was;
      long = length-set c.loop-index.levels.items index c.raise.new.self ∙ is.long;
      bound = omega (arith, within);
      above = λ k d from late. is.above k d (omega (arith, from)) late;
    }

pub returns-else-from-end : goal.returns-else-from-end
returns-else-from-end c =
    let old : List Level = c.args.levels.now.items in
    let index : ℕ = c.loop-index.index in
    let is = c.loop-index.invariant in
    let within : index < length old = omega (arith, c.loop-index-test.true, c.len.ensures, c.loop-index.levels.ok, is.long) in
    let here : c.index.result.now ≡ slice_index_or old index c.index.result.now =
    c.index.ensures ∙ ap (λ (l : List Level). slice_index_or l index c.index.result.now) is.raised
    ∙ next_as_it_was (raised_level c.args.first c.args.end c.args.ballot) old index c.index.result.now within in
    is.raised ∙ all_raised c.args.first c.args.end c.args.ballot old index c.index.result.now c.requires within
    (subst (λ (s : Level). c.args.end ≤ s.from) here (omega (arith, c.if-from-end.false, c.from.ensures)))
