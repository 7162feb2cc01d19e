-- Calls that were made and answered, as facts on lists.
use Rattle.std.proofs.Common.{◌≡◌, ℕ, zero, suc, ◌≤◌, Bool, true, false, ◌&&◌, ◌||◌, nat_eq, ◌⊎◌, Option, Some, None, List, [], ◌∷◌, ◌++◌, map, filter_map, if◌then◌else◌, refl, sym, ap, subst, ◌∙◌, inl, inr, arith, append_assoc, eq-eqb, eqb-true}
use Rattle.std.proofs.lemmas.List.{same_from_push}
use Rattle.std.specs.List.{list_any, list_all, cons_option}
use Rattle.std.specs.Cmp.Lexicographic.{pointwise, bytes_decides}
use Rattle.rp_base.specs.Sets.{Has, IsSet}
use Rattle.rp_base.specs.declared.action.Action.{Action}
use Rattle.rp_base.specs.declared.action.Action.TheVariants.{Noop, Call, Interrupt, Tick}
use Rattle.rp_base.specs.declared.reply.Answer.{Answer}
use Rattle.rp_machine.specs.Calls.{CallName, calls_of, calls_made, call_of}
use Rattle.rp_machine.specs.Replay.{number_for, numbers_of, one_to, is_for, all_answered, is_next_number, counts, Replayed}

-- ---- members of lists

-- a member of the first list is one of both in a row, and so is one of the second
pub has_left : {A : Type 0} (x : A) (xs ys : List A) → Has x xs → Has x (xs ++ ys)
has_left x [] ys h = absurd h
has_left x (y ∷ xs) ys h = elim h [ inl e ↦ inl e | inr rest ↦ inr (has_left x xs ys rest) ]

pub has_right : {A : Type 0} (x : A) (xs ys : List A) → Has x ys → Has x (xs ++ ys)
has_right x [] ys h = h
has_right x (y ∷ xs) ys h = inr (has_right x xs ys h)

-- and there is no other
pub has_either : {A : Type 0} (x : A) (xs ys : List A) → Has x (xs ++ ys) → Has x xs ⊎ Has x ys
has_either x [] ys h = inr h
has_either x (y ∷ xs) ys h =
    elim h [
      | inl e ↦ inl (inl e)
      | inr rest ↦ elim (has_either x xs ys rest) [ inl left ↦ inl (inr left) | inr right ↦ inr right ]
    ]

-- ---- what follows from a call that counts

-- both tests are true, and each of a list
pub both_true : (a b : Bool) → (a && b) ≡ true → (a ≡ true) × (b ≡ true)
both_true true b e = (refl, e)
both_true false b e = absurd (cc)

pub all_true : (test : ℕ → Bool) (xs : List ℕ) (x : ℕ) → list_all test xs ≡ true → Has x xs → test x ≡ true
all_true test [] x e h = absurd h
all_true test (y ∷ ys) x e h =
    let both = both_true (test y) (list_all test ys) e in
    elim h [ inl same ↦ ap test same ∙ both.0 | inr rest ↦ all_true test ys x both.1 rest ]

-- an answer for the call is there
pub answered : (task number : ℕ) (said : List Answer) → list_any (is_for task number) said ≡ true → Has (record { task = task; number = number }) (map call_of said)
answered task number [] e = absurd (cc)
answered task number (answer ∷ said) e = by (is_for task number answer) refl (answered task number said)
  where
    by : (b : Bool) → is_for task number answer ≡ b → (list_any (is_for task number) said ≡ true → Has (record { task = task; number = number }) (map call_of said)) → Has (record { task = task; number = number }) (map call_of (answer ∷ said))
    by true same later =
        let both = both_true (nat_eq answer.task task) (nat_eq answer.number number) same in
        let tasks : task ≡ answer.task = sym (eqb-true answer.task task both.0) in
        let numbers : number ≡ answer.number = sym (eqb-true answer.number number both.1) in
        inl (λ i. record { task = tasks i; number = numbers i })
    by false other later = inr (later (subst (λ (b : Bool). (b || list_any (is_for task number) said) ≡ true) other e))

-- the calls of two lists in a row
pub calls_made-append : (xs ys : List Action) → calls_made (xs ++ ys) ≡ calls_made xs ++ calls_made ys
calls_made-append [] ys = refl
calls_made-append (x ∷ xs) ys = ap (λ rest. calls_of x ++ rest) (calls_made-append xs ys) ∙ sym (append_assoc (calls_of x) (calls_made xs) (calls_made ys))

-- a number stays where one may be added
pub has_cons_option : (x : ℕ) (o : Option ℕ) (xs : List ℕ) → Has x xs → Has x (cons_option o xs)
has_cons_option x None xs h = h
has_cons_option x (Some y) xs h = inr h

-- the number of a call that was made is among its task's
pub made_number : (call : CallName) (xs : List Action) → Has call (calls_made xs) → Has call.number (filter_map (number_for call.task) xs)
made_number call [] h = absurd h
made_number call (Noop ∷ xs) h = made_number call xs h
made_number call (Call task number object operation arg ∷ xs) h =
    let rest = filter_map (number_for call.task) xs in
    elim h [
      | inl same ↦
          let own : nat_eq task call.task ≡ true = eq-eqb task call.task (λ i. (sym same i).task) in
          let P : Bool → Type 0 = λ b. Has call.number (cons_option (if b then Some number else None) rest) in
          subst P (sym own) (inl (λ i. (same i).number))
      | inr more ↦ has_cons_option call.number (if nat_eq task call.task then Some number else None) rest (made_number call xs more)
    ]
made_number call (Interrupt source occurrence ∷ xs) h = made_number call xs h
made_number call (Tick now ∷ xs) h = made_number call xs h

-- none of the numbers 1 to m is above m
pub one_to_bound : (m n : ℕ) → Has n (one_to m) → n ≤ m
one_to_bound zero n h = absurd h
one_to_bound (suc m) n h =
    elim (has_either n (one_to m) (suc m ∷ []) h) [
      | inl before ↦ let le = one_to_bound m n before in omega arith
      | inr last ↦ elim last [ inl same ↦ omega arith | inr none ↦ absurd none ]
    ]

-- where the numbers before and the new one are 1 to the new one, it is new
pub number_is_new : (number : ℕ) (before : List ℕ) → pointwise nat_eq (one_to number) (before ++ number ∷ []) ≡ true → ¬ Has number before
number_is_new zero [] e h = h
number_is_new zero (x ∷ before) e h = absurd (cc)
number_is_new (suc m) before e h =
    let same : one_to m ++ suc m ∷ [] ≡ before ++ suc m ∷ [] = (bytes_decides (one_to (suc m)) (before ++ suc m ∷ [])).0 e in
    let earlier = (same_from_push (one_to m) before (suc m) (suc m) same).0 in
    let le = one_to_bound m (suc m) (subst (λ (xs : List ℕ). Has (suc m) xs) (sym earlier) h) in
    omega arith

-- a call that counts was not made before
pub is_new : {S : Type 0} (r : Replayed S) (action : Action) → counts r.kept r.given action ≡ true → (call : CallName) → Has call (calls_of action) → ¬ Has call (calls_made r.kept)
is_new r Noop e call h m = h
is_new r (Call task number object operation arg) e call h m =
    let both = both_true (is_next_number r.kept task number) (all_answered r.kept r.given task) e in
    let this : call ≡ record { task = task; number = number } = elim h [ inl is ↦ is | inr none ↦ absurd none ] in
    number_is_new number (numbers_of task r.kept) both.0 (subst (λ (c : CallName). Has c.number (numbers_of c.task r.kept)) this (made_number call r.kept m))
is_new r (Interrupt source occurrence) e call h m = h
is_new r (Tick now) e call h m = h

-- two sets that share nothing are one
pub set_append : {A : Type 0} (xs ys : List A) → IsSet xs → IsSet ys → ((x : A) → Has x ys → ¬ Has x xs) → IsSet (xs ++ ys)
set_append [] ys set other apart = other
set_append (x ∷ xs) ys set other apart = (
  λ h. elim (has_either x xs ys h) [ inl before ↦ set.0 before | inr now ↦ apart x now (inl refl) ],
  set_append xs ys set.1 other (λ y h m. apart y h (inr m)),
)
