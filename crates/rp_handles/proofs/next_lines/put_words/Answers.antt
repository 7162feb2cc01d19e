-- The words that are put and those that are left make all.
use Rattle.std.proofs.Common.{◌≡◌, ◌+◌, ◌-◌, suc, ℕ, Ok, List, [], ◌∷◌, ◌++◌, ap, ◌∙◌, sym, subst, arith, append-nil, append_assoc}
use Rattle.rp_deck.specs.rp_words.specs.Reading.{word_at}
use Rattle.rp_deck.specs.rp_words.specs.Words.{unread}
use Rattle.rp_handles.specs.NextLines.{AreFirstWords}
use Rattle.rp_handles.proofs.Putting.{none_left, no_more, one_more}
use Rattle.rp_handles.proofs.next_lines.put_words.Goals as goal

pub returns-in_default : goal.returns-in_default
returns-in_default c =
    let i = c.loop.invariant in
    let all = i.2 [] (none_left (c.args.count - c.loop.counter) (unread c.loop.words) c.in_default.ensures.none) in
    (i.0, subst (λ (t : List ℕ). AreFirstWords c.args.count (unread c.args.words.now) t) (append-nil i.0) all, i.1)

pub loop-preserved : goal.loop-preserved
loop-preserved c =
    let i = c.loop.invariant in
    let word : List ℕ = c.in-Some.word.now in
    let is : word_at (unread c.loop.words) ≡ Ok (word, unread c.take_next.new.self) = c.in-Some.ensures.word in
    let left : c.args.count - c.loop.counter ≡ suc (c.args.count - (c.loop.counter + 1)) = omega (arith, c.loop-test.true) in (
      i.0 ++ (32 ∷ word),
      c.in_ok-put_word.ensures ∙ ap (λ (l : List ℕ). l ++ (32 ∷ word)) i.1 ∙ append_assoc c.args.next.now.items i.0 (32 ∷ word),
      λ after words.
          subst (λ (t : List ℕ). AreFirstWords c.args.count (unread c.args.words.now) t) (sym (append_assoc i.0 (32 ∷ word) after))
          (i.2 (32 ∷ word ++ after)
          (one_more (c.args.count - c.loop.counter) (c.args.count - (c.loop.counter + 1)) (unread c.loop.words) word (unread c.take_next.new.self) after left is words)),
    )

pub returns : goal.returns
returns c =
    let i = c.loop.invariant in
    let none : c.args.count - c.loop.counter ≡ 0 = omega (arith, c.loop-test.false) in
    let all = i.2 [] (no_more (c.args.count - c.loop.counter) (unread c.loop.words) none) in
    (i.0, subst (λ (t : List ℕ). AreFirstWords c.args.count (unread c.args.words.now) t) (append-nil i.0) all, i.1)
