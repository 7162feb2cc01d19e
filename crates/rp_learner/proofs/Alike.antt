-- Learners that hold the same, as sets, answer alike.
use Rattle.std.proofs.Common.{◌≡◌, ℕ, Bool, true, false, ◌&&◌, ◌||◌, ◌+◌, cond, not, List, [], length, map, sym, ap, subst, ◌∙◌}
use Rattle.std.specs.Prelude.{nat_eq, nat_le, nat_lt, filter}
use Rattle.std.specs.List.{list_any}
use Rattle.std.proofs.lemmas.Bool.Decides.{Decides-eqb}
use Rattle.rp_base.specs.declared.record.Vote.{Vote}
use Rattle.rp_base.specs.Sets.{SameMembers}
use Rattle.rp_base.specs.Number.{in_range}
use Rattle.rp_base.specs.Majority.{majority_of, nodes_among}
use Rattle.rp_base.specs.Promises.{HeardVote, same_vote, same_heard, voters_of}
use Rattle.rp_base.proofs.Sameness.{heard_decides}
use Rattle.rp_base.proofs.Members.{same_test, same_with, same_passing, same_mapped, same_members, same_size, set_members, set_passing}
use Rattle.rp_learner.specs.Learning.{Learning}
use Rattle.rp_learner.specs.declared.learner.VoteStatus.{VoteStatus}
use Rattle.rp_learner.specs.declared.learner.VoteStatus.TheVariants.{Counting, Learned, Known, Beyond}
use Rattle.rp_learner.specs.declared.learner.Decision.TheVariants as decisions
use Rattle.rp_learner.specs.Status.{SameLearning, is_beyond, is_settled, heard_with, status_with, decision_at, with_mark, with_settled, with_status, with_vote}

pub same_back : (l m : Learning) → SameLearning l m → SameLearning m l
same_back l m same = record {
  nodes = sym same.nodes;
  positions = sym same.positions;
  first = sym same.first;
  heard = λ h. ((same.heard h).1, (same.heard h).0);
  settled = λ i. ((same.settled i).1, (same.settled i).0);
}

pub same_on : (l m n : Learning) → SameLearning l m → SameLearning m n → SameLearning l n
same_on l m n one two = record {
  nodes = one.nodes ∙ two.nodes;
  positions = one.positions ∙ two.positions;
  first = one.first ∙ two.first;
  heard = λ h. (λ t. (two.heard h).0 ((one.heard h).0 t), λ t. (one.heard h).1 ((two.heard h).1 t));
  settled = λ i. (λ t. (two.settled i).0 ((one.settled i).0 t), λ t. (one.settled i).1 ((two.settled i).1 t));
}

beyond_alike : (l m : Learning) (i : ℕ) → SameLearning l m → is_beyond l i ≡ is_beyond m i
beyond_alike l m i same = ap (λ (first : ℕ). nat_le (first + 64) i) same.first

below_alike : (l m : Learning) (i : ℕ) → SameLearning l m → nat_lt i l.first ≡ nat_lt i m.first
below_alike l m i same = ap (nat_lt i) same.first

pub settled_alike : (l m : Learning) (i : ℕ) → SameLearning l m → is_settled l i ≡ is_settled m i
settled_alike l m i same =
    ap (λ (b : Bool). b || list_any (nat_eq i) l.settled) (below_alike l m i same)
    ∙ ap (λ (b : Bool). nat_lt i m.first || b) (same_test nat_eq Decides-eqb i l.settled m.settled same.settled)

voters_alike : (n i : ℕ) (vote : Vote) (xs ys : List HeardVote) → SameMembers xs ys → length (nodes_among n (voters_of i vote xs)) ≡ length (nodes_among n (voters_of i vote ys))
voters_alike n i vote xs ys same =
    let test : HeardVote → Bool = λ h. nat_eq h.1 i && same_vote h.2 vote in
    let cast : List HeardVote → List ℕ = λ heard. map (λ (h : HeardVote). h.0) (filter test heard) in
    let alike : SameMembers (cast xs) (cast ys) =
    same_mapped (λ (h : HeardVote). h.0) (filter test xs) (filter test ys) (same_passing test xs ys same) in
    same_size (nodes_among n (voters_of i vote xs)) (nodes_among n (voters_of i vote ys))
    (set_passing (in_range 1 n) (voters_of i vote xs) (set_members nat_eq Decides-eqb [] (cast xs) tt))
    (set_passing (in_range 1 n) (voters_of i vote ys) (set_members nat_eq Decides-eqb [] (cast ys) tt))
    (same_passing (in_range 1 n) (voters_of i vote xs) (voters_of i vote ys) (same_members nat_eq Decides-eqb (cast xs) (cast ys) alike))

pub status_alike : (l m : Learning) (from i : ℕ) (vote : Vote) → SameLearning l m → status_with l from i vote ≡ status_with m from i vote
status_alike l m from i vote same =
    let count : ℕ → Learning → ℕ = λ n k. length (nodes_among n (voters_of i vote (heard_with k from i vote))) in
    let alike : count m.nodes l ≡ count m.nodes m =
    voters_alike m.nodes i vote (heard_with l from i vote) (heard_with m from i vote) (same_with same_heard heard_decides (from, i, vote) l.heard m.heard same.heard) in
    ap (λ (b : Bool). cond b Beyond (cond (is_settled l i) Known (cond (nat_le (majority_of l.nodes) (count l.nodes l)) Learned Counting))) (beyond_alike l m i same)
    ∙ ap (λ (b : Bool). cond (is_beyond m i) Beyond (cond b Known (cond (nat_le (majority_of l.nodes) (count l.nodes l)) Learned Counting))) (settled_alike l m i same)
    ∙ ap (λ (n : ℕ). cond (is_beyond m i) Beyond (cond (is_settled m i) Known (cond (nat_le (majority_of n) (count n l)) Learned Counting))) same.nodes
    ∙ ap (λ (k : ℕ). cond (is_beyond m i) Beyond (cond (is_settled m i) Known (cond (nat_le (majority_of m.nodes) k) Learned Counting))) alike

pub decision_alike : (l m : Learning) (i : ℕ) → SameLearning l m → decision_at l i ≡ decision_at m i
decision_alike l m i same =
    ap (λ (b : Bool). cond b decisions.Beyond (cond (is_settled l i) decisions.Known decisions.Learned)) (beyond_alike l m i same)
    ∙ ap (λ (b : Bool). cond (is_beyond m i) decisions.Beyond (cond b decisions.Known decisions.Learned)) (settled_alike l m i same)

marking_alike : (l m : Learning) (i : ℕ) → SameLearning l m → SameLearning (with_mark l i) (with_mark m i)
marking_alike l m i same = record {
  nodes = same.nodes;
  positions = same.positions;
  first = same.first;
  heard = same_passing (λ (h : HeardVote). not (nat_eq h.1 i)) l.heard m.heard same.heard;
  settled = same_with nat_eq Decides-eqb i l.settled m.settled same.settled;
}

-- of two learners that are alike, the same one of two is taken
one_alike : (b : Bool) (l m l' m' : Learning) → SameLearning l m → SameLearning l' m' → SameLearning (cond b l l') (cond b m m')
one_alike true l m l' m' one two = one
one_alike false l m l' m' one two = two

pub settling_alike : (l m : Learning) (i : ℕ) → SameLearning l m → SameLearning (with_settled l i) (with_settled m i)
settling_alike l m i same =
    subst (λ (b : Bool). SameLearning (with_settled l i) (cond b m (with_mark m i)))
    (ap (λ (b : Bool). b || nat_lt i l.first) (beyond_alike l m i same) ∙ ap (λ (b : Bool). is_beyond m i || b) (below_alike l m i same))
    (one_alike (is_beyond l i || nat_lt i l.first) l m (with_mark l i) (with_mark m i) same (marking_alike l m i same))

by_status : (l m : Learning) (from i : ℕ) (vote : Vote) (status : VoteStatus) → SameLearning l m → SameLearning (with_status l from i vote status) (with_status m from i vote status)
by_status l m from i vote Counting same = record {
  nodes = same.nodes;
  positions = same.positions;
  first = same.first;
  heard = same_with same_heard heard_decides (from, i, vote) l.heard m.heard same.heard;
  settled = same.settled;
}
by_status l m from i vote Learned same = marking_alike l m i same
by_status l m from i vote Known same = same
by_status l m from i vote Beyond same = same

pub noting_alike : (l m : Learning) (from i : ℕ) (vote : Vote) → SameLearning l m → SameLearning (with_vote l from i vote) (with_vote m from i vote)
noting_alike l m from i vote same =
    subst (λ (s : VoteStatus). SameLearning (with_vote l from i vote) (with_status m from i vote s)) (status_alike l m from i vote same)
    (by_status l m from i vote (status_with l from i vote) same)
