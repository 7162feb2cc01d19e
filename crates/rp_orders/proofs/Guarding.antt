-- What the guards let be decided next, by the reply to a task's last call alone.
use Rattle.std.proofs.Common.{◌≡◌, ℕ, zero, suc, ◌+◌, ◌≤◌, ℤ, Bool, true, not, ◌&&◌, nat_eq, is_none, Option, Some, None, List, [], ◌∷◌, ◌++◌, ◌⊎◌, length, length-append, map, find, if◌then◌else◌, refl, sym, ap, subst, ◌∙◌, inl, inr, arith, eq-eqb, lt-ltb, eqb-true, true≢false}
use Rattle.std.specs.Option.{option_map, option_or}
use Rattle.std.proofs.lemmas.Bool.{cases_lt, ne_eqb}
use Rattle.std.proofs.lemmas.List.Folds.{find-append}
use Rattle.rp_machine.specs.rp_base.specs.Sets.{Has}
use Rattle.rp_machine.specs.rp_base.specs.declared.action.Action.{Action}
use Rattle.rp_machine.specs.rp_base.specs.declared.action.Operation.{Operation}
use Rattle.rp_machine.specs.rp_base.specs.declared.action.Action.TheVariants.{Call}
use Rattle.rp_machine.specs.rp_base.specs.declared.reply.Answer.{Answer}
use Rattle.rp_machine.specs.rp_base.specs.declared.reply.Reply.{Reply}
use Rattle.rp_machine.specs.Asked.{last_number, waits, answer_to, kept_reply}
use Rattle.rp_machine.specs.Calls.{CallName, calls_made, call_of}
use Rattle.rp_machine.specs.Replay.{is_for, counts}
use Rattle.rp_machine.proofs.Asking.{waits_as, call_counts, none_above}
use Rattle.rp_machine.proofs.Calling.{both_true}
use Rattle.rp_machine.proofs.Numbering.{IsCounted}
use Rattle.rp_orders.specs.Guards.{all_hold, last_reply, is_allowed, may_go_on}
use Rattle.rp_orders.specs.Orders.{MayFollow, IsGuarded}
use Rattle.rp_orders.specs.declared.guard.Guard.{Guard}

-- the reply of an answer, if there is one; there is none to a call of number 0
abbrev pub reply_at : ℕ → Option Answer → Option Reply
reply_at zero answer = None
reply_at (suc k) answer = option_map (λ a. a.reply) answer

-- what is kept of the last call
pub kept_at : (task : ℕ) (kept : List Action) (given : List Answer) (n : ℕ) → last_number task kept ≡ n → kept_reply task n kept given ≡ reply_at n (answer_to task n given)
kept_at task kept given zero last = refl
kept_at task kept given (suc k) last =
    ap (λ (b : Bool). if b && nat_eq (suc k) (last_number task kept) then option_map (λ answer. answer.reply) (answer_to task (suc k) given) else None) (lt-ltb 0 (suc k) (omega arith))
    ∙ ap (λ (b : Bool). if b then option_map (λ answer. answer.reply) (answer_to task (suc k) given) else None) (eq-eqb (suc k) (last_number task kept) (sym last))

module _ (guards : List Guard) (task : ℕ) where
  -- what the guards say of the task's next call, by the number of its last one and the answer to it
  abbrev open_at : ℕ → Option Answer → Bool
  open_at n answer = all_hold guards task (n + 1) (reply_at n answer)

  pub goes_by : (kept : List Action) (given : List Answer) (n : ℕ) → last_number task kept ≡ n → may_go_on guards kept given task ≡ open_at n (answer_to task n given)
  goes_by kept given n last =
      ap (λ (m : ℕ). all_hold guards task (m + 1) (kept_reply task m kept given)) last
      ∙ ap (λ (o : Option Reply). all_hold guards task (n + 1) o) (kept_at task kept given n last)

  -- one answer more at most, the same to both
  both_more : (n : ℕ) (one other more : Option Answer) → ((k : ℕ) → n ≡ suc k → is_none one ≡ is_none other) → open_at n one ≡ open_at n other → open_at n (option_or one more) ≡ open_at n (option_or other more)
  both_more zero one other more same was = refl
  both_more (suc k) None None more same was = refl
  both_more (suc k) (Some a) (Some b) more same was = was
  both_more (suc k) (Some a) None more same was = absurd (true≢false (sym (same k refl)))
  both_more (suc k) None (Some b) more same was = absurd (true≢false (same k refl))

  map_none : (o : Option Answer) → is_none (option_map (λ answer. answer.reply) o) ≡ is_none o
  map_none None = refl
  map_none (Some x) = refl

  -- a task that has made a call waits where there is no answer to it
  pub none_waits : (kept : List Action) (given : List Answer) → IsCounted kept given → (k : ℕ) → last_number task kept ≡ suc k → is_none (answer_to task (suc k) given) ≡ waits task kept given
  none_waits kept given fine k last =
      sym (map_none (answer_to task (suc k) given))
      ∙ ap is_none (sym (kept_at task kept given (suc k) last))
      ∙ ap (λ (b : Bool). not b && is_none (kept_reply task (suc k) kept given)) (sym (ne_eqb (suc k) 0 (λ e. absurd (cc))))
      ∙ waits_as kept given fine task (suc k) (kept_reply task (suc k) kept given) (sym last) refl

  -- where both waits alike and went on alike, they do after the same answers too
  pub goes_on_alike : (kept kept2 more_kept more_kept2 : List Action) (given given2 more : List Answer) → IsCounted kept given → IsCounted kept2 given2
      → ((call : CallName) → Has call (map call_of given) → Has call (calls_made kept)) → ((call : CallName) → Has call (map call_of given2) → Has call (calls_made kept2))
      → last_number task kept ≡ last_number task kept2 → last_number task more_kept ≡ last_number task more_kept2 → last_number task kept ≤ last_number task more_kept
      → waits task kept given ≡ waits task kept2 given2 → may_go_on guards kept given task ≡ may_go_on guards kept2 given2 task
      → may_go_on guards more_kept (given ++ more) task ≡ may_go_on guards more_kept2 (given2 ++ more) task
  goes_on_alike kept kept2 more_kept more_kept2 given given2 more fine fine2 known known2 last after grows waiting was =
      let n = last_number task kept in
      let m = last_number task more_kept in
      goes_by more_kept (given ++ more) m refl
      ∙ ap (λ (o : Option Answer). open_at m o) (find-append (is_for task m) given more)
      ∙ (elim (cases_lt n m) [
        | inl less ↦
            ap (λ (o : Option Answer). open_at m (option_or o (find (is_for task m) more))) (none_above kept given task m known less)
            ∙ sym (ap (λ (o : Option Answer). open_at m (option_or o (find (is_for task m) more))) (none_above kept2 given2 task m known2 (omega arith)))
        | inr rest ↦
            let same : m ≡ n = omega arith in
            let here : open_at m (answer_to task m given) ≡ open_at m (answer_to task m given2) = sym (goes_by kept given m (sym same)) ∙ was ∙ goes_by kept2 given2 m (sym last ∙ sym same) in
            both_more m (answer_to task m given) (answer_to task m given2) (find (is_for task m) more)
            (λ k is. ap (λ (j : ℕ). is_none (answer_to task j given)) is ∙ none_waits kept given fine k (sym same ∙ is) ∙ waiting ∙ sym (none_waits kept2 given2 fine2 k (sym last ∙ sym same ∙ is)) ∙ ap (λ (j : ℕ). is_none (answer_to task j given2)) (sym is))
            here
      ])
      ∙ ap (λ (o : Option Answer). open_at m o) (sym (find-append (is_for task m) given2 more))
      ∙ sym (goes_by more_kept2 (given2 ++ more) m (sym after))

-- a call that counts is the task's next
pub next_if_counts : (kept : List Action) (given : List Answer) (fine : IsCounted kept given) (task number object : ℕ) (operation : Operation) (arg : ℤ) → counts kept given (Call task number object operation arg) ≡ true
    → number ≡ last_number task kept + 1
next_if_counts kept given fine task number object operation arg e =
    let both = both_true (nat_eq number (last_number task kept + 1)) (not (waits task kept given)) (call_counts kept given fine task number object operation arg ∙ e) in
    eqb-true number (last_number task kept + 1) both.0

-- where it counts, the guards of it are those of the task's next call
pub allowed_next : (guards : List Guard) (kept : List Action) (given : List Answer) (fine : IsCounted kept given) (task number object : ℕ) (operation : Operation) (arg : ℤ)
    → counts kept given (Call task number object operation arg) ≡ true → is_allowed guards kept given (Call task number object operation arg) ≡ may_go_on guards kept given task
allowed_next guards kept given fine task number object operation arg e =
    ap (λ (n : ℕ). all_hold guards task n (last_reply task kept given)) (next_if_counts kept given fine task number object operation arg e)

-- ---- one action more

head_of : Action → List Action → Action
head_of d [] = d
head_of d (x ∷ xs) = x

tail_of : List Action → List Action
tail_of [] = []
tail_of (x ∷ xs) = xs

-- an action of a list with one more at its end is of the list, or that one
last_or : (order before rest : List Action) (last action : Action) → order ++ last ∷ [] ≡ before ++ action ∷ rest
    → ((more : List Action) × (order ≡ before ++ action ∷ more)) ⊎ ((order ≡ before) × (last ≡ action))
unfolding head_of tail_of
last_or [] [] rest last action e = inr (refl, ap (head_of last) e)
last_or [] (b ∷ bs) rest last action e =
    let long : length (last ∷ []) ≡ length (b ∷ bs ++ action ∷ rest) = ap length e in
    absurd (omega (arith, long, length-append bs (action ∷ rest)))
last_or (x ∷ xs) [] rest last action e = inl (xs, ap (λ (a : Action). a ∷ xs) (ap (head_of last) e))
last_or (x ∷ xs) (b ∷ bs) rest last action e =
    let first : x ≡ b = ap (head_of last) e in
    elim (last_or xs bs rest last action (ap tail_of e)) [
      | inl there ↦ inl (there.0, ap (λ (ys : List Action). x ∷ ys) there.1 ∙ ap (λ (a : Action). a ∷ bs ++ action ∷ there.0) first)
      | inr ends ↦ inr (ap (λ (ys : List Action). x ∷ ys) ends.0 ∙ ap (λ (a : Action). a ∷ bs) first, ends.1)
    ]

module _ {S : Type 0} (next : S → Action → S) (answers : S → Action → List Answer) (begin : S) (guards : List Guard) where
  -- the guards let each action be decided, and one more
  pub guarded_push : (order : List Action) (last : Action) → IsGuarded next answers begin guards order → MayFollow next answers begin guards order last → IsGuarded next answers begin guards (order ++ last ∷ [])
  guarded_push order last guarded follows before action rest is counted = elim (last_or order before rest last action is) [
    | inl there ↦ guarded before action there.0 there.1 counted
    | inr ends ↦
        subst (λ (a : Action). MayFollow next answers begin guards before a) ends.1
        (subst (λ (o : List Action). MayFollow next answers begin guards o last) ends.0 follows)
  ]

  -- where nothing was decided, each was let
  pub guarded_none : IsGuarded next answers begin guards []
  guarded_none before action rest is counted =
      let none : List Action = [] in
      let long : length none ≡ length (before ++ action ∷ rest) = ap length is in
      absurd (omega (arith, long, length-append before (action ∷ rest)))
