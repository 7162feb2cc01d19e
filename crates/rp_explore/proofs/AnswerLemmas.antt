-- Equal answers, and sets of answers.
use Rattle.std.proofs.Common.{◌≡◌, Bool, true, false, ◌&&◌, ◌||◌, nat_eq, List, [], ◌∷◌, inl, inr, sym, ◌∙◌, ap, refl, rules, eqb-true, eq-eqb, true≢false}
use Rattle.std.specs.List.{list_any}
use Rattle.rp_base.specs.Sets.{Has}
use Rattle.rp_base.specs.declared.reply.Answer.{Answer}
use Rattle.rp_base.specs.declared.reply.Reply.{Reply}
use Rattle.rp_base.specs.contracts.reply.AnswerPartialEq.TheImpl.{eq-value}
use Rattle.rp_base.specs.contracts.reply.ReplyPartialEq.TheImpl as reply
use Rattle.rp_machine.proofs.Calling.{both_true}

same_reply : (a b : Reply) → reply.eq-value.it a b ≡ true → a ≡ b
same_reply a b e = search rules

reply_same : (a : Reply) → reply.eq-value.it a a ≡ true
reply_same a = search rules

abbrev pub same_answer : Answer → Answer → Bool
same_answer = eq-value.it

-- the derived test is true exactly at equal answers
pub equal_answers : (a b : Answer) → same_answer a b ≡ true → a ≡ b
equal_answers a b e =
    let first = both_true (nat_eq a.task b.task) (nat_eq a.number b.number && reply.eq-value.it a.reply b.reply) e in
    let rest = both_true (nat_eq a.number b.number) (reply.eq-value.it a.reply b.reply) first.1 in
    let tasks = eqb-true a.task b.task first.0 in
    let numbers = eqb-true a.number b.number rest.0 in
    let replies = same_reply a.reply b.reply rest.1 in
    λ i. record { task = tasks i; number = numbers i; reply = replies i }

pub answer_same : (a : Answer) → same_answer a a ≡ true
answer_same a =
    ap (λ (x : Bool). x && (nat_eq a.number a.number && reply.eq-value.it a.reply a.reply)) (eq-eqb a.task a.task refl)
    ∙ ap (λ (x : Bool). x && reply.eq-value.it a.reply a.reply) (eq-eqb a.number a.number refl)
    ∙ reply_same a.reply

-- what a test of equality finds is there
pub found : (x : Answer) (xs : List Answer) → list_any (same_answer x) xs ≡ true → Has x xs
found x [] e = absurd (true≢false (sym e))
found x (y ∷ ys) e = by (same_answer x y) refl e (found x ys)
  where
    by : (b : Bool) → same_answer x y ≡ b → (b || list_any (same_answer x) ys) ≡ true → (list_any (same_answer x) ys ≡ true → Has x ys) → Has x (y ∷ ys)
    by true is e rest = inl (equal_answers x y is)
    by false is e rest = inr (rest e)

-- and what is there it finds
pub has_found : (x : Answer) (xs : List Answer) → Has x xs → list_any (same_answer x) xs ≡ true
has_found x [] h = absurd h
has_found x (y ∷ ys) h = elim h [
  | inl same ↦
      let first : same_answer x y ≡ true = ap (same_answer x) (sym same) ∙ answer_same x in
      ap (λ (b : Bool). b || list_any (same_answer x) ys) first
  | inr rest ↦ later (same_answer x y) (list_any (same_answer x) ys) (has_found x ys rest)
]
  where
    later : (a b : Bool) → b ≡ true → (a || b) ≡ true
    later true b e = refl
    later false b e = e
