-- One reply more, and one node more, of the result of a run in threads.
use Rattle.std.proofs.Common.{◌≡◌, ℕ, suc, ◌+◌, ◌<◌, ◌≤◌, List, [], ◌∷◌, ◌++◌, drop, get_or, length, arith, sym, ap, ◌∙◌}
use Rattle.std.proofs.lemmas.List.{drop_more, drop_all}
use Rattle.std.proofs.lemmas.List.Concat.{flat_map-cons}
use Rattle.rp_deck.specs.rp_base.specs.declared.reply.Answer.{Answer}
use Rattle.rp_live_run.specs.LiveOutput.{reply_text, replies_text, node_text, applied_text}

module _ {A : Type 0} (xs : List A) (i : ℕ) (x : A) where
  pub from_here : i < length xs → x ≡ get_or xs i x → drop i xs ≡ x ∷ drop (i + 1) xs
  from_here below is = drop_more xs i x below ∙ ap (λ (y : A). y ∷ drop (i + 1) xs) (sym is)

pub replies_next : (names : List (List ℕ)) (replies : List Answer) (i : ℕ) (reply : Answer) → i < length replies → reply ≡ get_or replies i reply
    → replies_text names (drop i replies) ≡ reply_text names reply ++ replies_text names (drop (i + 1) replies)
replies_next names replies i reply below is =
    ap (replies_text names) (from_here replies i reply below is) ∙ flat_map-cons (reply_text names) reply (drop (i + 1) replies)

pub replies_end : (names : List (List ℕ)) (replies : List Answer) (i : ℕ) → length replies ≤ i → replies_text names (drop i replies) ≡ []
replies_end names replies i past = ap (replies_text names) (drop_all i replies past)

pub applied_next : (applied : List ℕ) (i otherwise : ℕ) → i < length applied
    → applied_text (i + 1) (drop i applied) ≡ node_text (i + 1) (get_or applied i otherwise) ++ applied_text (i + 1 + 1) (drop (i + 1) applied)
applied_next applied i otherwise below =
    let count = get_or applied i otherwise in
    let next : suc (i + 1) ≡ i + 1 + 1 = omega arith in
    ap (applied_text (i + 1)) (drop_more applied i otherwise below)
    ∙ ap (λ (n : ℕ). node_text (i + 1) count ++ applied_text n (drop (i + 1) applied)) next

pub applied_end : (applied : List ℕ) (i : ℕ) → length applied ≤ i → applied_text (i + 1) (drop i applied) ≡ []
applied_end applied i past = ap (applied_text (i + 1)) (drop_all i applied past)
