use Rattle.std.proofs.Common.{◌≡◌, ℕ, List, [], ◌∷◌, length, get_or, arith, rules, refl, sym, ap}
use Rattle.rp_deck.specs.ScriptLines.{verb_named}
use Rattle.rp_deck.proofs.verbs.Verb.named.Goals as goal

-- a word of six letters, and of seven
in_front : (a b : ℕ) (xs ys : List ℕ) → a ≡ b → xs ≡ ys → (a ∷ xs) ≡ (b ∷ ys)
in_front a b xs ys same rest = λ i. same i ∷ rest i

six : (w : List ℕ) (a b c d e f : ℕ) → length w ≡ 6 → get_or w 0 0 ≡ a → get_or w 1 0 ≡ b → get_or w 2 0 ≡ c → get_or w 3 0 ≡ d → get_or w 4 0 ≡ e → get_or w 5 0 ≡ f
    → w ≡ a ∷ b ∷ c ∷ d ∷ e ∷ f ∷ []
six [] a b c d e f long ia ib ic id ie if' = absurd (omega arith)
six (p ∷ []) a b c d e f long ia ib ic id ie if' = absurd (omega arith)
six (p ∷ q ∷ []) a b c d e f long ia ib ic id ie if' = absurd (omega arith)
six (p ∷ q ∷ r ∷ []) a b c d e f long ia ib ic id ie if' = absurd (omega arith)
six (p ∷ q ∷ r ∷ s ∷ []) a b c d e f long ia ib ic id ie if' = absurd (omega arith)
six (p ∷ q ∷ r ∷ s ∷ t ∷ []) a b c d e f long ia ib ic id ie if' = absurd (omega arith)
six (p ∷ q ∷ r ∷ s ∷ t ∷ u ∷ []) a b c d e f long ia ib ic id ie if' =
    in_front _ _ _ _ ia (in_front _ _ _ _ ib (in_front _ _ _ _ ic (in_front _ _ _ _ id (in_front _ _ _ _ ie (in_front _ _ _ _ if' refl)))))
six (p ∷ q ∷ r ∷ s ∷ t ∷ u ∷ v ∷ w) a b c d e f long ia ib ic id ie if' = absurd (omega arith)

seven : (w : List ℕ) (a b c d e f g : ℕ) → length w ≡ 7 → get_or w 0 0 ≡ a → get_or w 1 0 ≡ b → get_or w 2 0 ≡ c → get_or w 3 0 ≡ d → get_or w 4 0 ≡ e → get_or w 5 0 ≡ f → get_or w 6 0 ≡ g
    → w ≡ a ∷ b ∷ c ∷ d ∷ e ∷ f ∷ g ∷ []
seven [] a b c d e f g long ia ib ic id ie if' ig = absurd (omega arith)
seven (p ∷ w) a b c d e f g long ia ib ic id ie if' ig = in_front p a w _ ia (six w b c d e f g (omega arith) ib ic id ie if' ig)

pub returns-in-disarm : goal.returns-in-disarm
returns-in-disarm c =
    let word = c.args.word.now in
    ap verb_named (sym (six word 100 105 115 97 114 109 (omega arith) (search rules) (search rules) (search rules) (search rules) (search rules) (search rules)))

pub returns-in-deliver : goal.returns-in-deliver
returns-in-deliver c =
    let word = c.args.word.now in
    ap verb_named (sym (seven word 100 101 108 105 118 101 114 (omega arith) (search rules) (search rules) (search rules) (search rules) (search rules) (search rules) (search rules)))

pub returns-in-restart : goal.returns-in-restart
returns-in-restart c =
    let word = c.args.word.now in
    ap verb_named (sym (seven word 114 101 115 116 97 114 116 (omega arith) (search rules) (search rules) (search rules) (search rules) (search rules) (search rules) (search rules)))
