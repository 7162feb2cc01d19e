-- A call counts at one place, and is answered once.
use Rattle.std.proofs.Common.{◌≡◌, ℕ, suc, ◌<◌, Bool, true, false, ◌⊎◌, List, [], ◌∷◌, ◌++◌, length, map, if◌then◌else◌, refl, sym, ap, subst, ◌∙◌, inl, inr, arith, append_assoc, append-nil}
use Rattle.std.proofs.lemmas.Bool.{cases_lt}
use Rattle.rp_base.specs.Sets.{Has, IsSet}
use Rattle.rp_base.specs.declared.action.Action.{Action}
use Rattle.rp_base.specs.declared.action.Action.TheVariants.{Noop, Call, Interrupt, Tick}
use Rattle.rp_base.specs.declared.reply.Answer.{Answer}
use Rattle.rp_machine.specs.Calls.{CallName, calls_of, calls_made}
use Rattle.rp_machine.specs.Replay.{counts, Replayed, unmoved, replay_step, replay_from, replay_of}
use Rattle.rp_machine.specs.Places.{counts_after, IsPlace}
use Rattle.rp_machine.proofs.Calling.{has_left, has_right, has_either, calls_made-append, is_new}
use Rattle.rp_machine.proofs.Replaying.{replay_from-append, goes_on_from}

-- ---- one place

-- where an item divides a list in two ways, the longer one goes on with the item of the shorter
split_again : {A : Type 0} (xs ys others following : List A) (x other : A) → xs ++ x ∷ ys ≡ others ++ other ∷ following → length xs < length others
    → (between : List A) × (others ≡ xs ++ x ∷ between)
split_again [] ys [] following x other e less = absurd (omega arith)
split_again [] ys (z ∷ others) following x other e less = (others, (cc))
split_again (y ∷ xs) ys [] following x other e less = absurd (omega arith)
split_again (y ∷ xs) ys (z ∷ others) following x other e less =
    let rest = split_again xs ys others following x other (cc) (omega arith) in
    let same : z ≡ y = (cc) in
    (rest.0, ap (λ w. w ∷ others) same ∙ ap (λ list. y ∷ list) rest.1)

module _ {S : Type 0} (next : S → Action → S) (answers : S → Action → List Answer) (begin : S) where
  -- an action that counts stays among those that counted
  stays_made : (before : List Action) (action : Action) (further : List Action) (call : CallName)
      → (let r = replay_of next answers begin before in counts r.kept r.given action) ≡ true → calls_of action ≡ call ∷ []
      → Has call (calls_made (replay_of next answers begin (before ++ action ∷ further)).kept)
  stays_made before action further call counting is_call =
      let r = replay_of next answers begin before in
      let onward = goes_on_from next answers (record { state = next r.state action; kept = r.kept ++ action ∷ []; given = r.given ++ answers r.state action }) further in
      let same : (replay_of next answers begin (before ++ action ∷ further)).kept ≡ (r.kept ++ action ∷ []) ++ onward.further =
      ap (λ (all : Replayed S). all.kept) (replay_from-append next answers (unmoved begin) before (action ∷ further))
      ∙ ap (λ b. (replay_from next answers (if b then record { state = next r.state action; kept = r.kept ++ action ∷ []; given = r.given ++ answers r.state action } else r) further).kept) counting
      ∙ onward.kept in
      let own : Has call (calls_of action) = subst (λ (calls : List CallName). Has call calls) (sym is_call) (inl refl) in
      let made : Has call (calls_made (r.kept ++ action ∷ [])) =
      subst (λ (calls : List CallName). Has call calls) (sym (calls_made-append r.kept (action ∷ []))) (has_right call (calls_made r.kept) (calls_of action ++ []) (has_left call (calls_of action) [] own)) in
      subst (λ (actions : List Action). Has call (calls_made actions)) (sym same)
      (subst (λ (calls : List CallName). Has call calls) (sym (calls_made-append (r.kept ++ action ∷ []) onward.further)) (has_left call (calls_made (r.kept ++ action ∷ [])) (calls_made onward.further) made))

  not_again : (actions : List Action) (call : CallName) (p q : ℕ) (one : IsPlace next answers begin actions call p) (other : IsPlace next answers begin actions call q)
      → length one.before < length other.before → ⊥
  not_again actions call p q one other less =
      let again = split_again one.before one.following other.before other.following one.action other.action (sym one.occurs ∙ other.occurs) less in
      let made = stays_made one.before one.action again.0 call one.takes_effect one.is_call in
      let own : Has call (calls_of other.action) = subst (λ (calls : List CallName). Has call calls) (sym other.is_call) (inl refl) in
      is_new (replay_of next answers begin other.before) other.action other.takes_effect call own
      (subst (λ (before : List Action). Has call (calls_made (replay_of next answers begin before).kept)) (sym again.1) made)

  pub one_place : (actions : List Action) (call : CallName) (p q : ℕ) → IsPlace next answers begin actions call p → IsPlace next answers begin actions call q → p ≡ q
  one_place actions call p q one other =
      elim (cases_lt (length one.before) (length other.before)) [
        | inl less ↦ absurd (not_again actions call p q one other less)
        | inr more ↦ elim (cases_lt (length other.before) (length one.before)) [
          | inl less ↦ absurd (not_again actions call q p other one less)
          | inr even ↦ omega (arith, more, even, one.here, other.here)
        ]
      ]

-- ---- an answered call has a place

-- an action's call is its only one
own_call : (action : Action) (call : CallName) → Has call (calls_of action) → calls_of action ≡ call ∷ []
own_call Noop call h = absurd h
own_call (Call task number object operation arg) call h = elim h [ inl same ↦ ap (λ (own : CallName). own ∷ []) (sym same) | inr none ↦ absurd none ]
own_call (Interrupt source occurrence) call h = absurd h
own_call (Tick now) call h = absurd h

module _ {S : Type 0} (next : S → Action → S) (answers : S → Action → List Answer) (begin : S) where
  -- the calls that counted after these actions
  abbrev pub counted_calls : List Action → List CallName
  counted_calls actions = calls_made (replay_of next answers begin actions).kept

  -- the action is this call, and it counts after these
  abbrev CountsAs : List Action → Action → CallName → Type 0
  CountsAs before action call = (calls_of action ≡ call ∷ []) × (counts_after next answers begin before action ≡ true)

  -- a call that counted with one action more counted before, or is that action
  was_or_last : (before : List Action) (action : Action) (call : CallName) → Has call (counted_calls (before ++ action ∷ [])) → Has call (counted_calls before) ⊎ CountsAs before action call
  was_or_last before action call h =
      let r = replay_of next answers begin before in
      let stepped = subst (λ (all : Replayed S). Has call (calls_made all.kept)) (replay_from-append next answers (unmoved begin) before (action ∷ [])) h in
      by (counts_after next answers begin before action) refl stepped
    where
      by : (b : Bool) → counts_after next answers begin before action ≡ b → Has call (calls_made (replay_step next answers (replay_of next answers begin before) action).kept)
          → Has call (counted_calls before) ⊎ CountsAs before action call
      by true taken stepped =
          let r = replay_of next answers begin before in
          let now = subst (λ (b : Bool). Has call (calls_made (if b then record { state = next r.state action; kept = r.kept ++ action ∷ []; given = r.given ++ answers r.state action } else r).kept)) taken stepped in
          elim (has_either call (calls_made r.kept) (calls_made (action ∷ [])) (subst (λ (calls : List CallName). Has call calls) (calls_made-append r.kept (action ∷ [])) now)) [
            | inl old ↦ inl old
            | inr last ↦ inr (own_call action call (subst (λ (calls : List CallName). Has call calls) (append-nil (calls_of action)) last), taken)
          ]
      by false missed stepped =
          let r = replay_of next answers begin before in
          inl (subst (λ (b : Bool). Has call (calls_made (if b then record { state = next r.state action; kept = r.kept ++ action ∷ []; given = r.given ++ answers r.state action } else r).kept)) missed stepped)

  -- a call that counted counted in the first actions, or has a place among the others
  placed_after : (before rest : List Action) (call : CallName) → Has call (counted_calls (before ++ rest)) → Has call (counted_calls before) ⊎ ((position : ℕ) × IsPlace next answers begin (before ++ rest) call position)
  placed_after before [] call h = inl (subst (λ (actions : List Action). Has call (counted_calls actions)) (append-nil before) h)
  placed_after before (action ∷ rest) call h =
      let same : (before ++ action ∷ []) ++ rest ≡ before ++ action ∷ rest = append_assoc before (action ∷ []) rest in
      elim (placed_after (before ++ action ∷ []) rest call (subst (λ (actions : List Action). Has call (counted_calls actions)) (sym same) h)) [
        | inl upto ↦ elim (was_or_last before action call upto) [
          | inl old ↦ inl old
          | inr last ↦ inr (suc (length before), record { before = before; action = action; following = rest; occurs = refl; here = refl; is_call = last.0; takes_effect = last.1 })
        ]
        | inr place ↦ inr (subst (λ (actions : List Action). (position : ℕ) × IsPlace next answers begin actions call position) same place)
      ]

  pub has_place : (actions : List Action) (call : CallName) → Has call (counted_calls actions) → (position : ℕ) × IsPlace next answers begin actions call position
  has_place actions call h = elim (placed_after [] actions call h) [ inl none ↦ absurd none | inr place ↦ place ]

-- ---- one answer

-- a member is among the images
pub has_map : {A B : Type 0} (f : A → B) (x : A) (xs : List A) → Has x xs → Has (f x) (map f xs)
has_map f x [] h = absurd h
has_map f x (y ∷ xs) h = elim h [ inl same ↦ inl (ap f same) | inr rest ↦ inr (has_map f x xs rest) ]

-- where no two images are the same, neither are two members of one image
pub one_of_image : {A B : Type 0} (f : A → B) (xs : List A) (x y : A) → IsSet (map f xs) → Has x xs → Has y xs → f x ≡ f y → x ≡ y
one_of_image f [] x y set h k same = absurd h
one_of_image {A} {B} f (z ∷ xs) x y set h k same =
    elim h [
      | inl here ↦ elim k [
        | inl there ↦ here ∙ sym there
        | inr later ↦ absurd (set.0 (subst (λ (b : B). Has b (map f xs)) (sym same ∙ ap f here) (has_map f y xs later)))
      ]
      | inr before ↦ elim k [
        | inl there ↦ absurd (set.0 (subst (λ (b : B). Has b (map f xs)) (same ∙ ap f there) (has_map f x xs before)))
        | inr later ↦ one_of_image f xs x y set.1 before later same
      ]
    ]
