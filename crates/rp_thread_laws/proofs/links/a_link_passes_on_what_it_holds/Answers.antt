-- By the word, and by the place of the packet among those that are held.
use Rattle.std.proofs.Common.{◌≡◌, ℕ, suc, zero, ◌<◌, ◌≤◌, ◌%◌, Some, None, List, [], ◌∷◌, ◌++◌, length, arith, refl, ap, ◌∙◌, sym}
use Rattle.std.specs.Prelude.{slice_get, replicate, take, nat_lt, if◌then◌else◌}
use Rattle.std.proofs.Math.Nat.{mod-lt}
use Rattle.std.proofs.lemmas.Bool.Decides.{nat_tests}
use Rattle.rp_threads.specs.rp_tasks.specs.Line.{Line, word_of, drawn, released, copies_of}
use Rattle.rp_threads.specs.Lines.{left_of}
use Rattle.rp_thread_laws.specs.Links.{copies_by_word}
use Rattle.rp_thread_laws.proofs.Passing.{split_at}
use Rattle.rp_thread_laws.proofs.links.a_link_passes_on_what_it_holds.Goals as goal

released_from : (line : Line) (held : List (List ℕ)) → 0 < length held → left_of held line ≡ released (word_of line) (drawn line)
released_from line [] some = absurd (omega (arith, some))
released_from line (text ∷ others) some = refl

-- how many copies a remainder asks for
abbrev copies_at : ℕ → ℕ
copies_at n = if nat_lt n 2 then 0 else if nat_lt n 4 then 2 else 1

once : (n count : ℕ) (packet : List ℕ) (copies : List (List ℕ)) → slice_get (replicate count (packet ∷ [])) n ≡ Some copies → copies ≡ packet ∷ []
once n zero packet copies is = absurd (cc)
once zero (suc count) packet copies is = grind (arith, is)
once (suc n) (suc count) packet copies is = once n count packet copies is

one_above_three : (n : ℕ) → 4 ≤ n → copies_at n ≡ 1
one_above_three n above = grind (arith, nat_tests, above)

made : (n : ℕ) (packet : List ℕ) (copies : List (List ℕ)) → slice_get (copies_by_word packet) n ≡ Some copies → replicate (copies_at n) packet ≡ copies
made zero packet copies is = grind (arith, is)
made (suc zero) packet copies is = grind (arith, is)
made (suc (suc zero)) packet copies is = grind (arith, is)
made (suc (suc (suc zero))) packet copies is = grind (arith, is)
made (suc (suc (suc (suc n)))) packet copies is =
    ap (λ count. replicate count packet) (one_above_three (suc (suc (suc (suc n)))) (omega arith)) ∙ sym (once n 12 packet copies is)

pub returns-clause-takes : goal.returns-clause-takes
returns-clause-takes c = λ line packet copies is.
    ap (λ more. take 16 (line.held ++ more)) (made (word_of line % 16) packet copies is)

pub returns-clause-passes_on : goal.returns-clause-passes_on
returns-clause-passes_on c = λ line some.
    let at = split_at line.held (word_of line % length line.held) (mod-lt (word_of line) some) in
    (at.before, at.after, at.item, at.gets, at.whole, ap (λ (l : Line). l.held) (released_from line line.held some) ∙ at.left)
