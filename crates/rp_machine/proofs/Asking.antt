-- What a machine after a log is asked, by the last number and its reply alone.
use Rattle.std.proofs.Common.{◌≡◌, ◌≢◌, ℕ, zero, suc, ◌+◌, ◌<◌, ◌≤◌, max, ℤ, Bool, true, false, not, ◌&&◌, ◌||◌, nat_eq, nat_lt, is_none, Option, Some, None, List, [], ◌∷◌, ◌++◌, length, map, find, if◌then◌else◌, refl, sym, ap, subst, ◌∙◌, inl, inr, arith, eq-eqb, lt-ltb, ltb-true}
use Rattle.std.specs.Option.{option_map}
use Rattle.std.specs.List.{list_any, list_all}
use Rattle.std.specs.Cmp.Lexicographic.{pointwise, bytes_decides}
use Rattle.std.specs.Prelude.{nat_le}
use Rattle.std.proofs.lemmas.Bool.{cases_lt, ne_eqb, le-leb}
use Rattle.std.proofs.lemmas.Bool.Decides.{eqb_tells}
use Rattle.std.proofs.lemmas.List.{length-append}
use Rattle.rp_base.specs.Sets.{Has}
use Rattle.rp_base.specs.declared.action.Action.{Action}
use Rattle.rp_base.specs.declared.action.Action.TheVariants.{Call, Interrupt}
use Rattle.rp_base.specs.declared.action.Operation.{Operation}
use Rattle.rp_base.specs.declared.reply.Reply.{Reply}
use Rattle.rp_base.specs.declared.reply.Answer.{Answer}
use Rattle.rp_machine.specs.Replay.{numbers_of, occurrences_of, one_to, is_for, is_answered, all_answered, is_next_number, counts}
use Rattle.rp_base.specs.Number.{greatest}
use Rattle.rp_machine.specs.Asked.{last_number, last_occurrence, waits, answer_to, kept_reply}
use Rattle.rp_machine.specs.Calls.{CallName, calls_made, call_of}
use Rattle.rp_machine.proofs.Calling.{has_left, answered, made_number, one_to_bound}
use Rattle.rp_machine.proofs.Numbering.{IsCounted, length-one_to}

-- a list of which each member passes a test, and then one more
all_then : (test : ℕ → Bool) (xs : List ℕ) (n : ℕ) → ((m : ℕ) → Has m xs → test m ≡ true) → list_all test (xs ++ n ∷ []) ≡ test n
all_then test [] n pass = elim (test n) as (λ b. (b && true) ≡ b) [ true ↦ refl | false ↦ refl ]
all_then test (x ∷ xs) n pass = ap (λ (b : Bool). b && list_all test (xs ++ n ∷ [])) (pass x (inl refl)) ∙ all_then test xs n (λ m h. pass m (inr h))

find_none : (test : Answer → Bool) (xs : List Answer) → is_none (find test xs) ≡ not (list_any test xs)
find_none test [] = refl
find_none test (x ∷ xs) = elim (test x) as (λ b. is_none (if b then Some x else find test xs) ≡ not (b || list_any test xs)) [ true ↦ refl | false ↦ find_none test xs ]

map_none : (o : Option Answer) → is_none (option_map (λ answer. answer.reply) o) ≡ is_none o
map_none None = refl
map_none (Some x) = refl

double_not : (b : Bool) → not (not b) ≡ b
double_not true = refl
double_not false = refl

-- the reply that is kept for the last call
last_reply : (task k : ℕ) (kept : List Action) (given : List Answer) → last_number task kept ≡ suc k → kept_reply task (suc k) kept given ≡ option_map (λ answer. answer.reply) (answer_to task (suc k) given)
last_reply task k kept given last =
    ap (λ (b : Bool). if b && nat_eq (suc k) (last_number task kept) then option_map (λ answer. answer.reply) (answer_to task (suc k) given) else None) (lt-ltb 0 (suc k) (omega arith))
    ∙ ap (λ (b : Bool). if b then option_map (λ answer. answer.reply) (answer_to task (suc k) given) else None) (eq-eqb (suc k) (last_number task kept) (sym last))

module _ (kept : List Action) (given : List Answer) (fine : IsCounted kept given) (task : ℕ) where
  numbers_are : (n : ℕ) → last_number task kept ≡ n → numbers_of task kept ≡ one_to n
  numbers_are n last = fine.numbered task ∙ ap one_to last

  waits_from : (n : ℕ) → last_number task kept ≡ n → (not (nat_eq n 0) && is_none (kept_reply task n kept given)) ≡ waits task kept given
  waits_from zero last = sym (ap (λ (xs : List ℕ). not (list_all (is_answered given task) xs)) (numbers_are zero last))
  waits_from (suc k) last =
      let before : (m : ℕ) → Has m (one_to k) → is_answered given task m ≡ true = λ m h.
      let le = one_to_bound k m h in
      fine.earlier task m (subst (λ (xs : List ℕ). Has m xs) (sym (numbers_are (suc k) last)) (has_left m (one_to k) (suc k ∷ []) h)) (omega (arith, le, last)) in
      ap (λ (b : Bool). not b && is_none (kept_reply task (suc k) kept given)) (ne_eqb (suc k) 0 (λ e. absurd (cc)))
      ∙ ap is_none (last_reply task k kept given last) ∙ map_none (answer_to task (suc k) given) ∙ find_none (is_for task (suc k)) given
      ∙ ap not (sym (all_then (is_answered given task) (one_to k) (suc k) before))
      ∙ ap (λ (xs : List ℕ). not (list_all (is_answered given task) xs)) (sym (numbers_are (suc k) last))

  -- a task waits where its last call has no reply
  pub waits_as : (last : ℕ) (reply : Option Reply) → last ≡ last_number task kept → reply ≡ kept_reply task last kept given → (not (nat_eq last 0) && is_none reply) ≡ waits task kept given
  waits_as last reply is stated = ap (λ (o : Option Reply). not (nat_eq last 0) && is_none o) stated ∙ waits_from last (sym is)

  next_as : (number n : ℕ) → last_number task kept ≡ n → is_next_number kept task number ≡ nat_eq number (n + 1)
  next_as number n last =
      let same : is_next_number kept task number ≡ pointwise nat_eq (one_to number) (one_to n ++ number ∷ []) = ap (λ (xs : List ℕ). pointwise nat_eq (one_to number) (xs ++ number ∷ [])) (numbers_are n last) in
      same ∙ elim (eqb_tells number (n + 1)) [
        | inl same_number ↦ follows number n same_number.1 ∙ sym same_number.0
        | inr other ↦ breaks number n (pointwise nat_eq (one_to number) (one_to n ++ number ∷ [])) refl other.1 ∙ sym other.0
      ]
    where
      follows : (number n : ℕ) → number ≡ n + 1 → pointwise nat_eq (one_to number) (one_to n ++ number ∷ []) ≡ true
      follows number n e =
          let up : number ≡ suc n = omega arith in
          let P : ℕ → Type 0 = λ k. pointwise nat_eq (one_to k) (one_to n ++ k ∷ []) ≡ true in
          subst P (sym up) ((bytes_decides (one_to (suc n)) (one_to n ++ suc n ∷ [])).1 refl)

      breaks : (number n : ℕ) (b : Bool) → pointwise nat_eq (one_to number) (one_to n ++ number ∷ []) ≡ b → number ≢ n + 1 → b ≡ false
      breaks number n false e other = refl
      breaks number n true e other =
          let long : length (one_to number) ≡ length (one_to n ++ number ∷ []) = ap length ((bytes_decides (one_to number) (one_to n ++ number ∷ [])).0 e) in
          absurd (other (omega (arith, long, length-one_to number, length-one_to n, length-append (one_to n) (number ∷ []))))

  -- a call counts where it is the one after the last and the task does not wait
  pub call_counts : (number object : ℕ) (operation : Operation) (arg : ℤ) → (nat_eq number (last_number task kept + 1) && not (waits task kept given)) ≡ counts kept given (Call task number object operation arg)
  call_counts number object operation arg =
      ap (λ (b : Bool). nat_eq number (last_number task kept + 1) && b) (double_not (all_answered kept given task))
      ∙ ap (λ (b : Bool). b && all_answered kept given task) (sym (next_as number (last_number task kept) refl))

-- all of some numbers are below one above 0 where their greatest is
all_below : (xs : List ℕ) (n : ℕ) → 1 ≤ n → list_all (λ earlier. nat_lt earlier n) xs ≡ nat_lt (greatest xs) n
all_below [] n above = sym (lt-ltb 0 n (omega arith))
all_below (x ∷ xs) n above =
    elim (cases_lt x n) [
      | inl below ↦ ap (λ (b : Bool). b && list_all (λ earlier. nat_lt earlier n) xs) (lt-ltb x n below) ∙ all_below xs n above ∙ joined x (greatest xs) n below
      | inr past ↦ ap (λ (b : Bool). b && list_all (λ earlier. nat_lt earlier n) xs) (not_below x n past) ∙ sym (not_below (max x (greatest xs)) n (omega arith))
    ]
  where
    not_below : (a n : ℕ) → n ≤ a → nat_lt a n ≡ false
    not_below a n past = by (nat_lt a n) refl
      where
        by : (b : Bool) → nat_lt a n ≡ b → b ≡ false
        by true e = absurd (let lt = ltb-true a n e in omega arith)
        by false e = refl

    joined : (a b n : ℕ) → a < n → nat_lt b n ≡ nat_lt (max a b) n
    joined a b n below =
        elim (cases_lt b n) [
          | inl under ↦ lt-ltb b n under ∙ sym (lt-ltb (max a b) n (omega arith))
          | inr past ↦ not_below b n past ∙ sym (not_below (max a b) n (omega arith))
        ]

-- an interrupt counts where it is above the last of its source
pub interrupt_counts : (kept : List Action) (given : List Answer) (source occurrence : ℕ) → 1 ≤ occurrence → nat_lt (last_occurrence source kept) occurrence ≡ counts kept given (Interrupt source occurrence)
interrupt_counts kept given source occurrence above = sym (all_below (occurrences_of source kept) occurrence above)

-- ---- whether a call may still be answered

has_greatest : (n : ℕ) (xs : List ℕ) → Has n xs → n ≤ greatest xs
has_greatest n [] h = absurd h
has_greatest n (x ∷ xs) h = elim h [ inl same ↦ omega arith | inr later ↦ let le = has_greatest n xs later in omega arith ]

-- a call above the last one that counted has no answer, where only calls that counted are answered
unanswered : (kept : List Action) (given : List Answer) (task number : ℕ) → ((call : CallName) → Has call (map call_of given) → Has call (calls_made kept)) → last_number task kept < number
    → (b : Bool) → list_any (is_for task number) given ≡ b → b ≡ false
unanswered kept given task number known above true e =
    let this : CallName = record { task = task; number = number } in
    let le = has_greatest number (numbers_of task kept) (made_number this kept (known this (answered task number given e))) in
    absurd (omega arith)
unanswered kept given task number known above false e = refl

-- a test that no member passes finds none
pub not_found : (test : Answer → Bool) (xs : List Answer) → list_any test xs ≡ false → find test xs ≡ None
not_found test [] e = refl
not_found test (x ∷ xs) e = by (test x) refl (not_found test xs)
  where
    by : (b : Bool) → test x ≡ b → (list_any test xs ≡ false → find test xs ≡ None) → find test (x ∷ xs) ≡ None
    by true t later = let met : true ≡ false = ap (λ (b : Bool). b || list_any test xs) (sym t) ∙ e in absurd (cc)
    by false t later = ap (λ (b : Bool). if b then Some x else find test xs) t ∙ later (ap (λ (b : Bool). b || list_any test xs) (sym t) ∙ e)

-- none above the last is answered
pub none_above : (kept : List Action) (given : List Answer) (task number : ℕ) → ((call : CallName) → Has call (map call_of given) → Has call (calls_made kept)) → last_number task kept < number
    → answer_to task number given ≡ None
none_above kept given task number known above =
    not_found (is_for task number) given (unanswered kept given task number known above (list_any (is_for task number) given) refl)

-- so one above it is open
pub open_above : (kept : List Action) (given : List Answer) (task number last : ℕ) → last ≡ last_number task kept → last < number → answer_to task number given ≡ None
    → nat_lt last number ≡ (is_none (answer_to task number given) && nat_le (last_number task kept) number)
open_above kept given task number last is above none =
    lt-ltb last number above
    ∙ sym (ap (λ (o : Option Answer). is_none o && nat_le (last_number task kept) number) none ∙ le-leb (last_number task kept) number (omega arith))
