-- What follows the first word, by what it declares.
use Rattle.std.proofs.Common.{◌≡◌, ℕ, Option, List, [], ◌∷◌, ◌++◌, ap, ◌∙◌, sym, subst, refl, append_assoc}
use Rattle.rp_deck.specs.rp_words.specs.Words.{unread}
use Rattle.rp_handles.specs.NextLines.{IsNextRest}
use Rattle.rp_handles.proofs.Putting.{line_joined}
use Rattle.rp_handles.proofs.next_lines.put_line.Goals as goal
use Rattle.rp_handles.proofs.next_lines.put_line.Goals.{in-Some+in_ok-name-in-Some+in_ok-put_word-in-Some, in-None+in_ok-name-in-None}

pub returns : goal.returns
returns c =
    let front : List ℕ = c.args.next.now.items in
    let first : List ℕ = c.args.line.first.now in
    let words : List ℕ = unread c.args.line.words in
    let kind = c.words_before_value.ensures in
    let before : c.extend_from_slice.new.self.items ≡ front ++ first = c.in_ok-extend_from_slice.ensures.items in
    let ended = c.in_ok-push.ensures.items in
    elim c.match-words_before_value.branch [
      | in-Some+in_ok-name-in-Some+in_ok-put_word-in-Some w ↦
          (let kept = w.in_ok-name-in-Some.ensures in
          let value : List ℕ = w.value_shown.result.now in
          let rest : List ℕ = kept.0 ++ (32 ∷ value) in
          let is = subst (λ (o : Option ℕ). IsNextRest o words rest) (sym w.in-Some.is ∙ kind) (kept.0, value, kept.1, refl) in
          let put = ap (λ v. v.items) w.next-is ∙ w.in_ok-put_word-in-Some.ensures ∙ ap (λ (l : List ℕ). l ++ (32 ∷ value)) (kept.2 ∙ ap (λ (l : List ℕ). l ++ kept.0) before)
          ∙ append_assoc (front ++ first) kept.0 (32 ∷ value) in
          (first ++ rest ++ 10 ∷ [], (rest, is, refl), ended ∙ ap (λ (l : List ℕ). l ++ (10 ∷ [])) put ∙ line_joined front first rest (10 ∷ [])))
      | in-None+in_ok-name-in-None w ↦
          (let all = w.in_ok-name-in-None.ensures in
          let rest : List ℕ = all.0 in
          let is = subst (λ (o : Option ℕ). IsNextRest o words rest) (sym w.in-None.is ∙ kind) all.1 in
          let put = ap (λ v. v.items) w.next-is ∙ all.2 ∙ ap (λ (l : List ℕ). l ++ rest) before in
          (first ++ rest ++ 10 ∷ [], (rest, is, refl), ended ∙ ap (λ (l : List ℕ). l ++ (10 ∷ [])) put ∙ line_joined front first rest (10 ∷ [])))
    ]
