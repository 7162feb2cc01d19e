-- Proposals that begin at the positions of a range.
use Rattle.std.proofs.Common.{◌≡◌, ℕ, zero, suc, ◌+◌, ◌-◌, ◌<◌, ◌≤◌, max, Bool, true, false, ◌||◌, ◌&&◌, ◌^◌, cond, not, nat_eq, is_none, is_some, Option, Some, None, List, [], ◌∷◌, ◌++◌, length, inl, inr, refl, sym, ap, subst, ◌∙◌, arith, eqb-true}
use Rattle.std.specs.Prelude.{filter, nat_le, nat_lt, Result, Ok, Err}
use Rattle.std.specs.Int.{bit_at}
use Rattle.std.specs.List.{AllByRecursion, list_any, range_with_len}
use Rattle.std.proofs.lemmas.Bool.{cases_lt, cases_eq, le-leb, le-ltb, lt-leb}
use Rattle.std.proofs.lemmas.List.{length-map}
use Rattle.std.proofs.lemmas.List.FromFn.{length-range_with_len}
use Rattle.rp_base.specs.declared.action.Action.{Action}
use Rattle.rp_base.specs.declared.config.Config.{Config}
use Rattle.rp_base.specs.declared.record.Rec.{Rec}
use Rattle.rp_base.specs.declared.record.Rec.TheVariants.{Started}
use Rattle.rp_base.specs.declared.fault.Fault.{Fault}
use Rattle.rp_base.specs.declared.fault.Fault.TheVariants.{BadConfig, BallotsSpent, LogFull}
use Rattle.rp_base.specs.Ballot.{round_of}
use Rattle.rp_base.specs.Number.{in_range}
use Rattle.rp_base.specs.Ranges.{Range, IsRange, end_of, positions_of, range_of}
use Rattle.rp_base.specs.Records.{learned_at, first_unlearned}
use Rattle.rp_base.specs.Sets.{Has}
use Rattle.rp_base.specs.Proposals.{Proposal, range_proposal, proposal_at, with_proposal, with_range}
use Rattle.rp_base.proofs.Members.{set_fits}
use Rattle.rp_base.proofs.MoreRecords.{started_push}
use Rattle.rp_learner.specs.Places.{is_marked}
use Rattle.rp_log.specs.Contents.{Contents}
use Rattle.rp_machine.specs.Numbered.{Applied}
use Rattle.rp_model.specs.Leader.{is_out_of_reach, unlearned_in, ballot_of, is_exhausted, on_lead_range}
use Rattle.rp_model.specs.Node.{RunningNode}
use Rattle.rp_model.specs.declared.effect.Dropped.TheVariants.{No}
use Rattle.rp_model.specs.declared.plan.Plan.{Plan}
use Rattle.rp_model.specs.declared.plan.Plan.TheVariants as plans
use Rattle.rp_base.proofs.Stretches.{range_next}
use Rattle.rp_proposer.specs.Proposing.{ProposerPart, AreInWindow, IsInWindow, begins_range, unskipped}
use Rattle.rp_server.specs.Invariant.{IsProposer, IsRightProposal, IsApplied}
use Rattle.rp_server.proofs.Beginning.{window_more, place_of_more, learned_same, in_reach}
use Rattle.rp_server.proofs.FreePlaces.{out_by, goes_on_out}
use Rattle.rp_server.proofs.Promising.{places, put_right}

-- ---- a test on the positions of a range

or_false : (b : Bool) → (b || false) ≡ b
or_false true = refl
or_false false = refl

later_true : (test : ℕ → Bool) (first n : ℕ) → ((i : ℕ) → test i ≡ true → test (i + 1) ≡ true) → test first ≡ true → test (first + n) ≡ true
later_true test first zero stays is =
    let here : first ≡ first + 0 = omega arith in
    sym (ap test here) ∙ is
later_true test first (suc n) stays is =
    let next : first + n + 1 ≡ first + suc n = omega arith in
    sym (ap test next) ∙ stays (first + n) (later_true test first n stays is)

-- a test that stays true as positions rise passes for one of them exactly if it does for the last
any_is_last : (test : ℕ → Bool) (first n : ℕ) → ((i : ℕ) → test i ≡ true → test (i + 1) ≡ true) → list_any test (range_with_len first (suc n)) ≡ test (first + n)
any_is_last test first zero stays =
    let here : first ≡ first + 0 = omega arith in
    or_false (test first) ∙ ap test here
any_is_last test first (suc n) stays =
    let next : first + 1 + n ≡ first + suc n = omega arith in
    ap (λ (b : Bool). test first || b) (any_is_last test (first + 1) n stays ∙ ap test next) ∙ by (test first) refl
  where
    by : (b : Bool) → test first ≡ b → (b || test (first + suc n)) ≡ test (first + suc n)
    by true is = sym (later_true test first (suc n) stays is)
    by false is = refl

-- one of the positions is out of reach exactly if the last is
pub range_out : (most : ℕ) (records : List Rec) (range : Range) → 1 ≤ range.count
    → list_any (is_out_of_reach most records) (positions_of range) ≡ is_out_of_reach most records (range.first + (range.count - 1))
range_out most records range some =
    let n = range.count - 1 in
    let many : range.count ≡ suc n = omega (arith, some) in
    ap (λ (k : ℕ). list_any (is_out_of_reach most records) (range_with_len range.first k)) many ∙ any_is_last (is_out_of_reach most records) range.first n (goes_on_out records most)

-- where none is, the range ends within reach
pub range_near : (most : ℕ) (records : List Rec) (range : Range) → 1 ≤ range.count → list_any (is_out_of_reach most records) (positions_of range) ≡ false
    → end_of range ≤ first_unlearned records + 64
range_near most records range some none =
    let last = range.first + (range.count - 1) in
    elim (cases_lt last (first_unlearned records + 64)) [
      | inl near ↦ omega (arith, some, near)
      | inr far ↦ absurd (apart (sym (out_by records most last (inr far)) ∙ sym (range_out most records range some) ∙ none))
    ]
  where
    apart : true ≡ false → ⊥
    apart e = cc

-- tests that agree on the positions pass the same ones
same_passing : (p q : ℕ → Bool) (first n : ℕ) → ((j : ℕ) → j < n → p (first + j) ≡ q (first + j)) → filter p (range_with_len first n) ≡ filter q (range_with_len first n)
same_passing p q first zero same = refl
same_passing p q first (suc n) same =
    let at : first + 0 ≡ first = omega arith in
    let here : p first ≡ q first = subst (λ (k : ℕ). p k ≡ q k) at (same 0 (omega arith)) in
    let rest : filter p (range_with_len (first + 1) n) ≡ filter q (range_with_len (first + 1) n) =
    same_passing p q (first + 1) n (λ j below. let next : first + suc j ≡ first + 1 + j = omega arith in subst (λ (k : ℕ). p k ≡ q k) next (same (suc j) (omega (arith, below)))) in
    λ i. cond (here i) (first ∷ rest i) (rest i)

-- those from an index on that pass are those from the next one on, where the one there does not pass
pub passes_not : (test : ℕ → Bool) (first count index : ℕ) → index < count → test (first + index) ≡ false
    → filter test (range_with_len (first + (index + 1)) (count - (index + 1))) ≡ filter test (range_with_len (first + index) (count - index))
passes_not test first count index within not =
    let rest : List ℕ = filter test (range_with_len (first + (index + 1)) (count - (index + 1))) in
    sym (ap (filter test) (range_next first count index within) ∙ ap (λ (b : Bool). cond b ((first + index) ∷ rest) rest) not)

suc_some : (n : ℕ) → nat_eq (suc n) 0 ≡ false
suc_some n = by (nat_eq (suc n) 0) refl
  where
    by : (b : Bool) → nat_eq (suc n) 0 ≡ b → b ≡ false
    by true e = let none : suc n ≡ 0 = eqb-true (suc n) 0 e in absurd (omega (arith, none))
    by false e = refl

-- where the one there passes, some do
pub passes_some : (test : ℕ → Bool) (first count index : ℕ) → index < count → test (first + index) ≡ true
    → nat_eq (length (filter test (range_with_len (first + index) (count - index)))) 0 ≡ false
passes_some test first count index within pass =
    let rest : List ℕ = filter test (range_with_len (first + (index + 1)) (count - (index + 1))) in
    ap (λ (is : List ℕ). nat_eq (length is) 0) (ap (filter test) (range_next first count index within) ∙ ap (λ (b : Bool). cond b ((first + index) ∷ rest) rest) pass) ∙ suc_some (length rest)

pub none_is : (o : Option Action) (b : Bool) → b ≡ is_some o → not b ≡ is_none o
none_is None b is = ap not is
none_is (Some v) b is = ap not is

-- the positions that are not skipped are the unlearned ones, where the mask has the learned ones
pub mask_is : (records : List Rec) (range : Range) (mask : ℕ) → ((j : ℕ) → j < range.count → is_marked mask j ≡ is_some (learned_at records (range.first + j)))
    → unskipped range mask ≡ unlearned_in records range
mask_is records range mask marks =
    same_passing (λ i. not (nat_eq (bit_at mask (i - range.first)) 1)) (λ i. is_none (learned_at records i)) range.first range.count
    (λ j below.
    let back : range.first + j - range.first ≡ j = omega arith in
    ap (λ (k : ℕ). not (is_marked mask k)) back ∙ none_is (learned_at records (range.first + j)) (is_marked mask j) (marks j below))

-- ---- the word to lead at a range

-- the numbers of a range make it
range_is : (range : Range) → IsRange range → range_of range.first range.count ≡ Ok range
range_is range is =
    let few : in_range 1 64 range.count ≡ true = ap (λ (t : Bool). t && nat_le range.count 64) (le-leb 1 range.count is.count.0) ∙ le-leb range.count 64 is.count.1 in
    let within : nat_lt (2 ^ 16) (end_of range) ≡ false = le-ltb (2 ^ 16) (end_of range) is.last in
    ap (λ (t : Bool). cond (not t) (Err BadConfig) (cond (nat_lt (2 ^ 16) (end_of range)) (Err LogFull) (Ok range))) few ∙ ap (λ (t : Bool). cond t (Err LogFull) (Ok range)) within

module _ {S : Type 0} (node : RunningNode S) (range : Range) (is : IsRange range) where
  begun : Result Plan Fault
  begun = cond (is_exhausted node) (Err BallotsSpent) (Ok (plans.LeadRange range (ballot_of node)))

  led : Bool → Bool → Result Plan Fault
  led out none = cond out (Err LogFull) (cond none (Ok (plans.Pass No)) begun)

  abbrev IsOut : Bool → Type 0
  IsOut out = list_any (is_out_of_reach node.setting.config.max_positions node.records) (positions_of range) ≡ out

  abbrev AreLearned : Bool → Type 0
  AreLearned all = nat_eq (length (unlearned_in node.records range)) 0 ≡ all

  abbrev answered : Result Plan Fault
  answered = on_lead_range node (range_of range.first range.count)

  -- by whether a position is out of reach, and whether all are learned
  by_range : (out all : Bool) → IsOut out → AreLearned all → answered ≡ led out all
  unfolding led begun
  by_range out all far learned =
      ap (on_lead_range node) (range_is range is)
      ∙ ap (λ (t : Bool). led t (nat_eq (length (unlearned_in node.records range)) 0)) far ∙ ap (led out) learned

  pub range_full : IsOut true → answered ≡ Err LogFull
  unfolding led
  range_full far = by_range true (nat_eq (length (unlearned_in node.records range)) 0) far refl

  pub range_known : IsOut false → AreLearned true → answered ≡ Ok (plans.Pass No)
  unfolding led
  range_known near learned = by_range false true near learned

  begun_if : (b : ℕ) (none : Bool) → nat_le (2 ^ 32) (round_of b) ≡ none → b ≡ ballot_of node
      → begun ≡ cond none (Err BallotsSpent) (Ok (plans.LeadRange range b))
  unfolding begun
  begun_if b none round is_next =
      ap (λ (n : ℕ). cond (nat_le (2 ^ 32) (round_of n)) (Err BallotsSpent) (Ok (plans.LeadRange range n))) (sym is_next)
      ∙ ap (λ (t : Bool). cond t (Err BallotsSpent) (Ok (plans.LeadRange range b))) round

  pub range_led : (b : ℕ) → IsOut false → AreLearned false → b ≡ ballot_of node → round_of b < 2 ^ 32
      → answered ≡ Ok (plans.LeadRange range b)
  unfolding led
  range_led b near some is_next left = by_range false false near some ∙ begun_if b false (lt-leb (2 ^ 32) (round_of b) left) is_next

  pub range_exhausted : IsOut false → AreLearned false → 2 ^ 32 ≤ round_of (ballot_of node) → answered ≡ Err BallotsSpent
  unfolding led
  range_exhausted near some none =
      let next : ℕ = ballot_of node in
      by_range false false near some ∙ begun_if next true (le-leb (2 ^ 32) (round_of next) none) refl

-- ---- unlearned positions within reach

-- a position of the window at which nothing is learned
abbrev pub IsOpen : List Rec → ℕ → ℕ → Type 0
IsOpen records first i = IsInWindow first i × (learned_at records i ≡ None)

pub open_in : {S : Type 0} (records : List Rec) (log : Contents) (applied : Applied S) (first n : ℕ) → IsApplied records log applied → 1 ≤ first → first + n ≤ first_unlearned records + 64
    → AllByRecursion (IsOpen records (suc (length log.taken))) (filter (λ i. is_none (learned_at records i)) (range_with_len first n))
open_in records log applied first zero a least reach = tt
open_in records log applied first (suc n) a least reach =
    by (learned_at records first) refl (open_in records log applied (first + 1) n a (omega (arith, least)) (omega (arith, reach)))
  where
    rest : List ℕ
    rest = filter (λ i. is_none (learned_at records i)) (range_with_len (first + 1) n)

    by : (o : Option Action) → learned_at records first ≡ o → AllByRecursion (IsOpen records (suc (length log.taken))) rest
        → AllByRecursion (IsOpen records (suc (length log.taken))) (cond (is_none o) (first ∷ rest) rest)
    by None at all = ((in_reach records log applied first a least at (omega (arith, reach)), at), all)
    by (Some v) at all = all

-- ---- proposals begin at several positions

window_each : (first b : ℕ) (records : List Rec) (is : List ℕ) (ps : List Proposal) → AllByRecursion (IsOpen records first) is → AreInWindow first ps → AreInWindow first (with_range ps b is)
window_each first b records [] ps inside w = w
window_each first b records (i ∷ rest) ps inside w =
    let q = range_proposal b i in
    window_each first b records rest (with_proposal ps q) inside.1 (window_more first ps q (proposal_at ps i) refl w inside.0.0)

unlearned_each : (first b : ℕ) (records : List Rec) (is : List ℕ) (ps : List Proposal) → AllByRecursion (IsOpen records first) is → ((j : ℕ) → Has j (places ps) → learned_at records j ≡ None)
    → (j : ℕ) → Has j (places (with_range ps b is)) → learned_at records j ≡ None
unlearned_each first b records [] ps inside none j h = none j h
unlearned_each first b records (i ∷ rest) ps inside none j h =
    let q = range_proposal b i in
    unlearned_each first b records rest (with_proposal ps q) inside.1
    (λ k has. elim (place_of_more ps q (proposal_at ps i) k refl has) [
      | inl before ↦ none k before
      | inr same ↦ ap (learned_at records) same ∙ inside.0.1
    ])
    j h

right_each : (b : ℕ) (is : List ℕ) (ps : List Proposal) → AllByRecursion IsRightProposal ps → AllByRecursion IsRightProposal (with_range ps b is)
right_each b [] ps all = all
right_each b (i ∷ rest) ps all =
    let q = range_proposal b i in
    right_each b rest (with_proposal ps q) (put_right ps q all (record { own = tt; promises = tt }))

pub leads_ranged : (me : ℕ) (config : Config) (records : List Rec) (taken : ℕ) (part : ProposerPart) (is : List ℕ) (b : ℕ) → IsProposer me config records taken part
    → AllByRecursion (IsOpen records (suc taken)) is → IsProposer me config (records ++ Started b ∷ []) taken (begins_range part is b)
leads_ranged me config records taken part is b t inside = record {
  node = t.node;
  nodes = t.nodes;
  started = ap (λ (n : ℕ). max n b) t.started ∙ sym (started_push records (Started b));
  window = window_each (suc taken) b records is part.proposals inside t.window;
  unlearned = λ j h. learned_same records b j ∙ unlearned_each (suc taken) b records is part.proposals inside t.unlearned j h;
  right = right_each b is part.proposals t.right;
}

has_covered : (first n i : ℕ) → first ≤ i → i < first + n → Has i (range_with_len first n)
has_covered first zero i least most = absurd (omega (arith, least, most))
has_covered first (suc n) i least most =
    elim (cases_eq i first) [ inl same ↦ inl same | inr other ↦ inr (has_covered (first + 1) n i (omega arith) (omega (arith, most))) ]

-- they have room
pub range_fits : (first b : ℕ) (records : List Rec) (is : List ℕ) (ps : List Proposal) → AreInWindow first ps → AllByRecursion (IsOpen records first) is → length (with_range ps b is) ≤ 64
range_fits first b records is ps w inside =
    let after = window_each first b records is ps inside w in
    let all = with_range ps b is in
    let fits : length (places all) ≤ length (range_with_len first 64) =
    set_fits (places all) (range_with_len first 64) after.different (λ j h. let within = after.inside j h in has_covered first 64 j within.0 within.1) in
    let same : length (places all) ≡ length all = length-map all (λ (p : Proposal). p.position) in
    omega (arith, fits, same, length-range_with_len first 64)
