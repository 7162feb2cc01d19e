-- Places in a list of actions and in a longer one.
use Rattle.std.proofs.Common.{◌≡◌, ◌≤◌, ◌+◌, ℕ, suc, List, [], ◌∷◌, ◌++◌, length, refl, ap, ◌∙◌, arith, length-append}
use Rattle.rp_base.specs.declared.action.Action.{Action}
use Rattle.rp_base.specs.declared.reply.Answer.{Answer}
use Rattle.rp_machine.specs.Calls.{CallName}
use Rattle.rp_machine.specs.Places.{IsPlace}

append_back : {A : Type 0} (xs ys zs : List A) → (xs ++ ys) ++ zs ≡ xs ++ (ys ++ zs)
append_back [] ys zs = refl
append_back (x ∷ xs) ys zs = ap (λ l. x ∷ l) (append_back xs ys zs)

-- what is in front of a list ends in it
cut_at : {A : Type 0} (xs ys before following : List A) (x : A) → xs ++ ys ≡ before ++ x ∷ following → suc (length before) ≤ length xs
    → (rest : List A) × (xs ≡ before ++ x ∷ rest)
cut_at [] ys before following x is short = absurd (omega (arith, short))
cut_at (a ∷ xs) ys [] following x is short = (xs, (let same : a ≡ x = cc in ap (λ b. b ∷ xs) same))
cut_at (a ∷ xs) ys (b ∷ before) following x is short =
    let same : a ≡ b = cc in
    let left : xs ++ ys ≡ before ++ x ∷ following = cc in
    let more = cut_at xs ys before following x left (omega (arith, short)) in
    (more.0, ap (λ c. c ∷ xs) same ∙ ap (λ l. b ∷ l) more.1)

module _ {S : Type 0} (next : S → Action → S) (answers : S → Action → List Answer) (begin : S) where
  -- a place in a list is one in a longer list
  pub longer : (order rest : List Action) (call : CallName) (place : ℕ) → IsPlace next answers begin order call place → IsPlace next answers begin (order ++ rest) call place
  longer order rest call place is = record {
    before = is.before;
    action = is.action;
    following = is.following ++ rest;
    occurs = ap (λ (l : List Action). l ++ rest) is.occurs ∙ append_back is.before (is.action ∷ is.following) rest;
    here = is.here;
    is_call = is.is_call;
    takes_effect = is.takes_effect;
  }

  -- a place in a longer list is one in the list, if it is not after its end
  pub shorter : (order rest : List Action) (call : CallName) (place : ℕ) → place ≤ length order → IsPlace next answers begin (order ++ rest) call place
      → IsPlace next answers begin order call place
  shorter order rest call place within is =
      let cut = cut_at order rest is.before is.following is.action is.occurs (omega (arith, within, is.here)) in
      record {
        before = is.before;
        action = is.action;
        following = cut.0;
        occurs = cut.1;
        here = is.here;
        is_call = is.is_call;
        takes_effect = is.takes_effect;
      }

  -- a place is within its list
  pub within : (order : List Action) (call : CallName) (place : ℕ) → IsPlace next answers begin order call place → place ≤ length order
  within order call place is =
      let size : length order ≡ length (is.before ++ is.action ∷ is.following) = ap (λ (l : List Action). length l) is.occurs in
      let parts : length (is.before ++ is.action ∷ is.following) ≡ length is.before + length (is.action ∷ is.following) = length-append is.before (is.action ∷ is.following) in
      omega (arith, size, parts, is.here)
