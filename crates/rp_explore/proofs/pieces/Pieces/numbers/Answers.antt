-- One byte more.
use Rattle.std.specs.Prelude.{Vec}
use Rattle.std.specs.declared.alloc.Global.{Global}
use Rattle.std.proofs.Common.{◌≡◌, ◌+◌, ◌-◌, ◌≤◌, ℕ, List, [], ◌∷◌, length, Some, take, drop, arith, refl, sym, ap, subst, ◌∙◌}
use Rattle.rp_explore.proofs.PieceLemmas.{IsNumbered, items, none_numbered, next_byte, next_line, last_line, piece_more, more_join}
use Rattle.rp_explore.proofs.pieces.Pieces.numbers.Goals as goal
use Rattle.rp_explore.proofs.pieces.Pieces.numbers.Goals.{then-byte-eq10+in_ok-number+in_ok-push, else-byte-eq10}

pub loop-at-init : goal.loop-at-init
loop-at-init c = (omega arith, none_numbered c.args.self.now c.in_ok-numbers.numbers.items (take (0 - 0) (drop 0 c.args.text.now)) c.args.text.now c.in_ok-numbers.ensures.items refl)

pub slice_bounds-number-count : goal.slice_bounds-number-count
slice_bounds-number-count c = let began = c.loop-at.invariant.0 in omega arith

pub slice_bounds-number-count-2 : goal.slice_bounds-number-count-2
slice_bounds-number-count-2 c = let began = c.loop-at.invariant.0 in let end = c.loop-at.auto.at-end in omega arith

pub returns-in_err-number-clause-more : goal.returns-in_err-number-clause-more
returns-in_err-number-clause-more c = more_join c.args.self.now c.loop-at.self c.number.new.self c.loop-at.invariant.1.more c.number.ensures.more

pub returns-in_err-push-clause-more : goal.returns-in_err-push-clause-more
returns-in_err-push-clause-more c = more_join c.args.self.now c.loop-at.self c.number.new.self c.loop-at.invariant.1.more c.number.ensures.more

pub returns-in_err-number-2-clause-more : goal.returns-in_err-number-2-clause-more
returns-in_err-number-2-clause-more c = more_join c.args.self.now c.loop-at.self c.number-2.new.self c.loop-at.invariant.1.more c.number-2.ensures.more

pub returns-in_err-push-2-clause-more : goal.returns-in_err-push-2-clause-more
returns-in_err-push-2-clause-more c = more_join c.args.self.now c.loop-at.self c.number-2.new.self c.loop-at.invariant.1.more c.number-2.ensures.more

pub returns-clause-more : goal.returns-clause-more
returns-clause-more c = more_join c.args.self.now c.loop-at.self c.number-2.new.self c.loop-at.invariant.1.more c.number-2.ensures.more

-- what the loop goes on with, from the start of a line
abbrev Goes : (first known : List (List ℕ)) (numbers : Vec ℕ Global) (start i : ℕ) (text : List ℕ) → Type 0
Goes first known numbers start i text = (start ≤ i) × IsNumbered first known (items numbers) (take (i - start) (drop start text)) i text

-- what a branch leaves is what the loop goes on with
joined : (first one other : List (List ℕ)) (numbers more : Vec ℕ Global) (start later i : ℕ) (text : List ℕ) → other ≡ one → more ≡ numbers → later ≡ start → Goes first one numbers start i text → Goes first other more later i text
joined first one other numbers more start later i text same numbers_same start_same is =
    subst (λ (known : List (List ℕ)). Goes first known more later i text) (sym same)
    (subst (λ (v : Vec ℕ Global). Goes first one v later i text) (sym numbers_same)
    (subst (λ (s : ℕ). Goes first one numbers s i text) (sym start_same) is))

no_byte : (i : ℕ) (text : List ℕ) → take (i - i) (drop i text) ≡ []
no_byte i text = let none : i - i ≡ 0 = omega arith in ap (λ (k : ℕ). take k (drop i text)) none

pub loop-at-preserved : goal.loop-at-preserved
loop-at-preserved c =
    let first = c.args.self.now in
    let text = c.args.text.now in
    let old = c.loop-at in
    let i = old.at in
    let began = old.invariant.0 in
    let line = take (i - old.start) (drop old.start text) in
    let more = piece_more text old.start i began c.loop-at-test.true in
    elim c.if-byte-eq10.branch [
      | then-byte-eq10+in_ok-number+in_ok-push w ↦
          joined first w.number.new.self c.if-byte-eq10.self w.push.new.self c.if-byte-eq10.numbers (i + 1) c.if-byte-eq10.start (i + 1) text w.self-is w.numbers-is w.start-is (
            omega arith,
            next_line first old.self w.number.new.self old.numbers.items w.push.new.self.items line (take (i + 1 - old.start) (drop old.start text)) (take (i + 1 - (i + 1)) (drop (i + 1) text)) i w.in_ok-number.number text old.invariant.1 c.loop-at-test.true w.if-byte-eq10.true
                more w.in_ok-number.ensures.more w.in_ok-number.ensures.value w.in_ok-push.ensures.items (no_byte (i + 1) text),
          )
      | else-byte-eq10 w ↦
          joined first old.self c.if-byte-eq10.self old.numbers c.if-byte-eq10.numbers old.start c.if-byte-eq10.start (i + 1) text w.self-is w.numbers-is w.start-is
          (omega arith, next_byte first old.self old.numbers.items line (take (i + 1 - old.start) (drop old.start text)) i text old.invariant.1 c.loop-at-test.true w.if-byte-eq10.false more)
    ]

pub returns-clause-value : goal.returns-clause-value
returns-clause-value c =
    let old = c.loop-at in
    let text = c.args.text.now in
    let end : length text ≡ old.at = let most = old.auto.at-end in let least = c.loop-at-test.false in omega arith in
    last_line c.args.self.now old.self c.number-2.new.self old.numbers.items c.push-2.new.self.items (take (old.at - old.start) (drop old.start text)) old.at c.in_ok-number-2.number text old.invariant.1 c.loop-at-test.false
    c.in_ok-number-2.ensures.more (c.in_ok-number-2.ensures.value ∙ ap (λ (k : ℕ). Some (take (k - old.start) (drop old.start text))) end) c.in_ok-push-2.ensures.items
