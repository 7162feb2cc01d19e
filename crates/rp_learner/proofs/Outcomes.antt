-- What holds at a position of the window, by its place.
use Rattle.std.proofs.Common.{arith, cond, ◌≡◌, ℕ, zero, suc, ◌+◌, ◌-◌, ◌<◌, ◌≤◌, Bool, true, false, ◌||◌, Option, Some, None, Result, Ok, Err, OnErr, List, [], ◌∷◌, length, set, sym, refl, subst, ap, ◌∙◌, inl, inr}
use Rattle.std.specs.Prelude.{OnOk, nat_eq, nat_le, nat_lt, slice_get, unwrap_or}
use Rattle.std.proofs.lemmas.Bool.{cases_Bool, le-leb, lt-leb, leb-true, leb-false, le-ltb, ltb-false, cond-true, cond-false}
use Rattle.std.proofs.lemmas.Option.{slice_get_within}
use Rattle.rp_base.specs.declared.record.Vote.{Vote}
use Rattle.rp_base.specs.Majority.{majority_of, nodes_among}
use Rattle.rp_base.specs.Sets.{Has, with_member}
use Rattle.rp_base.specs.Promises.{voters_of, makes_majority}
use Rattle.rp_learner.specs.Casts.{CastVote, voters_with}
use Rattle.rp_learner.specs.Place.{Place}
use Rattle.rp_learner.specs.Place.{Settled}
use Rattle.rp_learner.specs.declared.learner.VoteStatus.{VoteStatus}
use Rattle.rp_learner.specs.declared.learner.VoteStatus.TheVariants.{Counting, Learned, Known, Beyond}
use Rattle.rp_learner.specs.declared.learner.Decision.TheVariants as decisions
use Rattle.rp_learner.specs.Learning.{Learning}
use Rattle.rp_learner.specs.Places.{votes_in, is_settled_in, voters_at, NotesCast, heard_from}
use Rattle.rp_learner.specs.Status.{is_beyond, is_settled, heard_with, status_with, place_status, decision_at, with_mark, with_settled, with_status, with_vote, SameLearning, IsOneMore}
use Rattle.rp_learner.proofs.Placing.{votes_of, settled_of, or_skip, heard_at, settled_where}
use Rattle.rp_learner.proofs.Voters.{voters_where, one_more_voter}
use Rattle.rp_learner.proofs.Writing.{learning_of, hears, settles, same_learning}

-- an element written where it is changes nothing
pub kept : (places : List Place) (k : ℕ) (p : Place) → slice_get places k ≡ Some p → set places k p ≡ places
kept [] k p at = refl
kept (q ∷ places) zero p at = ap (λ (o : Option Place). unwrap_or o p ∷ places) (sym at)
kept (q ∷ places) (suc k) p at = ap (λ (rest : List Place). q ∷ rest) (kept places k p at)

module _ (nodes most first : ℕ) (places : List Place) (i k : ℕ) (p : Place) (at : i ≡ first + k) (long : length places ≡ 64) (here : slice_get places k ≡ Some p) where
  abbrev pub l : Learning
  l = learning_of nodes most first places

  within : k < length places
  within = slice_get_within places k p here

  not_beyond : is_beyond l i ≡ false
  not_beyond = lt-leb (first + 64) i (omega (arith, within, long, at))

  not_below : nat_lt i first ≡ false
  not_below = le-ltb i first (omega (arith, at))

  settled_here : is_settled l i ≡ is_settled_in p
  settled_here = or_skip (nat_lt i first) _ not_below ∙ settled_where places first i k at ∙ ap settled_of here

  -- what a decision there is
  pub decision_here : decision_at l i ≡ cond (is_settled_in p) decisions.Known decisions.Learned
  decision_here =
      cond-false (is_beyond l i) decisions.Beyond (cond (is_settled l i) decisions.Known decisions.Learned) not_beyond
      ∙ ap (λ (b : Bool). cond b decisions.Known decisions.Learned) settled_here

  -- a position settled there
  pub settles_here : SameLearning (learning_of nodes most first (set places k Settled)) (with_settled l i)
  settles_here =
      subst (λ (m : Learning). SameLearning (learning_of nodes most first (set places k Settled)) m)
      (sym (cond-false (is_beyond l i || nat_lt i first) l (with_mark l i) (or_skip (is_beyond l i) (nat_lt i first) not_beyond ∙ not_below)))
      (settles places first k i at within nodes most)

  module _ (from : ℕ) (vote : Vote) where
    abbrev pub cast : CastVote
    cast = record { from = from; vote = vote }

    by_place : status_with l from i vote ≡ cond (is_settled_in p) Known (cond (makes_majority nodes i vote (heard_with l from i vote)) Learned Counting)
    by_place =
        cond-false (is_beyond l i) Beyond (cond (is_settled l i) Known (cond (makes_majority nodes i vote (heard_with l from i vote)) Learned Counting)) not_beyond
        ∙ ap (λ (b : Bool). cond b Known (cond (makes_majority nodes i vote (heard_with l from i vote)) Learned Counting)) settled_here

    voters : voters_at nodes p cast ≡ length (nodes_among nodes (voters_of i vote (heard_with l from i vote)))
    voters =
        ap (λ (o : Option Place). length (nodes_among nodes (voters_with (votes_of o) from vote))) (sym here)
        ∙ ap (λ (list : List ℕ). length (nodes_among nodes (with_member nat_eq list from))) (voters_where places first i k vote at)
        ∙ ap (λ (list : List ℕ). length (nodes_among nodes list)) (one_more_voter i from vote (heard_from first places))

    -- what holds at the position is what its place says
    pub status_here : place_status nodes p cast ≡ status_with l from i vote
    status_here = ap (λ (n : ℕ). cond (is_settled_in p) Known (cond (nat_le (majority_of nodes) n) Learned Counting)) voters ∙ sym by_place

    -- a settled position is known
    pub known_here : is_settled_in p ≡ true → Known ≡ status_with l from i vote
    known_here settled = sym (by_place ∙ cond-true (is_settled_in p) Known (cond (makes_majority nodes i vote (heard_with l from i vote)) Learned Counting) settled)

    by_majority : (b : Bool) → is_settled_in p ≡ false → nat_le (majority_of nodes) (voters_at nodes p cast) ≡ b → status_with l from i vote ≡ cond b Learned Counting
    by_majority b free e =
        by_place
        ∙ cond-false (is_settled_in p) Known (cond (makes_majority nodes i vote (heard_with l from i vote)) Learned Counting) free
        ∙ ap (λ (t : Bool). cond t Learned Counting) (sym (ap (λ (n : ℕ). nat_le (majority_of nodes) n) voters) ∙ e)

    -- a majority of one vote learns the action
    pub learned_here : is_settled_in p ≡ false → majority_of nodes ≤ voters_at nodes p cast → Learned ≡ status_with l from i vote
    learned_here free enough = sym (by_majority true free (le-leb (majority_of nodes) (voters_at nodes p cast) enough))

    -- fewer are counted
    pub counting_here : is_settled_in p ≡ false → voters_at nodes p cast < majority_of nodes → Counting ≡ status_with l from i vote
    counting_here free few = sym (by_majority false free (lt-leb (majority_of nodes) (voters_at nodes p cast) few))

    -- once the vote is noted in the place, it is noted
    pub notes_here : (q : Place) → NotesCast nodes p cast q → SameLearning (learning_of nodes most first (set places k q)) (with_vote l from i vote)
    notes_here q noted =
        let now : Place → Learning = λ r. learning_of nodes most first (set places k r) in
        let goes : (s : VoteStatus) → s ≡ status_with l from i vote → (m : Learning) → SameLearning m (with_status l from i vote s) → SameLearning m (with_vote l from i vote) =
        λ s e m same. subst (λ (t : VoteStatus). SameLearning m (with_status l from i vote t)) e same in
        elim (cases_Bool (is_settled_in p)) [
          | inl settled ↦
              subst (λ (r : Place). SameLearning (now r) (with_vote l from i vote)) (sym (noted.known settled))
              (subst (λ (rs : List Place). SameLearning (learning_of nodes most first rs) (with_vote l from i vote)) (sym (kept places k p here))
              (goes Known (known_here settled) l (same_learning l)))
          | inr free ↦ elim (cases_Bool (nat_le (majority_of nodes) (voters_at nodes p cast))) [
            | inl enough ↦
                let most_of : majority_of nodes ≤ voters_at nodes p cast = leb-true (majority_of nodes) (voters_at nodes p cast) enough in
                subst (λ (r : Place). SameLearning (now r) (with_vote l from i vote)) (sym (noted.learned free most_of))
                (goes Learned (learned_here free most_of) (now Settled) (settles places first k i at within nodes most))
            | inr few ↦
                let fewer : voters_at nodes p cast < majority_of nodes = leb-false (majority_of nodes) (voters_at nodes p cast) few in
                let more = noted.counting free fewer in
                goes Counting (counting_here free fewer) (now q) (hears places first k i at within nodes most cast p q here (more.0 ∙ sym free) more.1)
          ]
        ]

    -- a vote that was not heard, of one node at most, is one more of those that are counted
    pub one_more_here : 3 ≤ nodes → is_settled_in p ≡ false → voters_at nodes p cast ≤ 1 → ¬ Has cast (votes_in p) → IsOneMore l from i vote
    one_more_here many free few none = record {
      counting = sym (counting_here free (omega (arith, few, many)));
      unheard = λ h.
          none (subst (λ (o : Option Place). Has cast (votes_of o)) here ((heard_at places first k (from, i, vote) at).0 h));
    }

-- a position's offset in the window is how far it is above the first
pub offset_at : (first i k : ℕ) → Some k ≡ cond (nat_lt i first) None (Some (i - first)) → i ≡ first + k
offset_at first i k e =
    elim (cases_Bool (nat_lt i first)) [
      | inl below ↦
          let is : Some k ≡ None = e ∙ cond-true (nat_lt i first) None (Some (i - first)) below in
          absurd (cc)
      | inr above ↦
          let is : Some k ≡ Some (i - first) = e ∙ cond-false (nat_lt i first) None (Some (i - first)) above in
          let same : k ≡ i - first = cc in
          omega (arith, same, ltb-false i first above)
    ]

-- what holds anyway holds after an error
pub on_err : {T E P : Type 0} (r : Result T E) → P → OnErr r P
on_err (Ok x) h = tt
on_err (Err e) h = h

-- what follows from what holds after an error, or with no error
pub after_err : {T E A B : Type 0} (r : Result T E) → (A → B) → OnErr r A → OnErr r B
after_err (Ok x) f h = tt
after_err (Err e) f h = f h

pub after_errs : {T E A B C : Type 0} (r : Result T E) → (A → B → C) → OnErr r A → OnErr r B → OnErr r C
after_errs (Ok x) f h g = tt
after_errs (Err e) f h g = f h g

pub after_ok : {T E A B : Type 0} (r : Result T E) → (A → B) → OnOk r A → OnOk r B
after_ok (Ok x) f h = f h
after_ok (Err e) f h = tt
