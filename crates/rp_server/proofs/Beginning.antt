-- A proposal that begins.
use Rattle.std.proofs.Common.{◌||◌, ◌≡◌, ℕ, suc, ◌+◌, ◌-◌, ◌<◌, ◌≤◌, max, Bool, true, false, cond, nat_eq, Option, Some, None, List, [], ◌∷◌, ◌++◌, length, ◌⊎◌, refl, sym, ap, subst, ◌∙◌, inl, inr, arith, eq-eqb}
use Rattle.std.specs.Prelude.{IsSome, slice_get, nat_le}
use Rattle.std.proofs.lemmas.Bool.{cases_lt, le-ltb}
use Rattle.std.proofs.lemmas.List.{map-append}
use Rattle.rp_base.specs.declared.action.Action.{Action}
use Rattle.rp_base.specs.declared.config.Config.{Config}
use Rattle.rp_base.specs.declared.record.Rec.{Rec}
use Rattle.rp_base.specs.declared.record.Rec.TheVariants.{Started}
use Rattle.rp_base.specs.Action.{IsRight}
use Rattle.rp_base.specs.Sets.{Has, IsSet}
use Rattle.rp_base.specs.Records.{learned_at, applied_of, first_unlearned}
use Rattle.rp_base.specs.Promises.{HeardVote}
use Rattle.rp_base.specs.Proposals.{Proposal, new_proposal, proposal_at, with_proposal}
use Rattle.rp_base.proofs.Members.{has_split, set_more}
use Rattle.rp_base.proofs.MoreRecords.{started_push, learned_push}
use Rattle.rp_proposer.specs.Proposing.{ProposerPart, AreInWindow, IsInWindow, begins}
use Rattle.rp_learner.specs.Learning.{Learning}
use Rattle.rp_log.specs.Contents.{Contents, action_at, next_to_take}
use Rattle.rp_model.specs.Leader.{is_out_of_reach}
use Rattle.rp_log.proofs.Places.{front_within}
use Rattle.rp_log.proofs.RecordedRuns.{all_taken}
use Rattle.rp_machine.specs.Numbered.{Applied}
use Rattle.rp_server.proofs.Hearing.{learns_alike}
use Rattle.rp_server.specs.Invariant.{IsProposer, IsApplied, IsServer}
use Rattle.rp_server.proofs.Keeping.{or_none, all_right}
use Rattle.rp_server.proofs.Promising.{places, same_places, put_right}

-- ---- a new place

absent_here : (rest : List Proposal) (q p : Proposal) (here : Bool) → nat_eq p.position q.position ≡ here → (proposal_at rest q.position ≡ None → (with_proposal rest q ≡ rest ++ q ∷ []) × (¬ Has q.position (places rest)))
    → cond here (Some p) (proposal_at rest q.position) ≡ None → (cond here (q ∷ rest) (p ∷ with_proposal rest q) ≡ p ∷ rest ++ q ∷ []) × (¬ Has q.position (places (p ∷ rest)))
absent_here rest q p true at later e = absurd (cc)
absent_here rest q p false at later e =
    let more = later e in (
      ap (λ (ps : List Proposal). p ∷ ps) more.0,
      λ h. elim h [ inl same ↦ let yes : nat_eq p.position q.position ≡ true = eq-eqb p.position q.position (sym same) in absurd (cc) | inr rest ↦ more.1 rest ],
    )

absent : (ps : List Proposal) (q : Proposal) → proposal_at ps q.position ≡ None → (with_proposal ps q ≡ ps ++ q ∷ []) × (¬ Has q.position (places ps))
absent [] q e = (refl, λ h. h)
absent (p ∷ rest) q e = absent_here rest q p (nat_eq p.position q.position) refl (absent rest q) e

pub window_more : (first : ℕ) (ps : List Proposal) (q : Proposal) (o : Option Proposal) → proposal_at ps q.position ≡ o → AreInWindow first ps → IsInWindow first q.position → AreInWindow first (with_proposal ps q)
window_more first ps q (Some p) at w inside =
    let same = same_places ps q p at in
    record {
      different = subst IsSet (sym same) w.different;
      inside = λ j h. w.inside j (subst (λ (is : List ℕ). Has j is) same h);
    }
window_more first ps q None at w inside =
    let more = absent ps q at in
    let longer : places (with_proposal ps q) ≡ places ps ++ q.position ∷ [] = ap places more.0 ∙ map-append (λ (p : Proposal). p.position) ps (q ∷ []) in
    record {
      different = subst IsSet (sym longer) (set_more (places ps) q.position w.different more.1);
      inside = λ j h. elim (has_split j (places ps) (q.position ∷ []) (subst (λ (is : List ℕ). Has j is) longer h)) [
        | inl before ↦ w.inside j before
        | inr last ↦ elim last [ inl same ↦ subst (IsInWindow first) (sym same) inside | inr none ↦ absurd none ]
      ];
    }

pub place_of_more : (ps : List Proposal) (q : Proposal) (o : Option Proposal) (j : ℕ) → proposal_at ps q.position ≡ o → Has j (places (with_proposal ps q)) → Has j (places ps) ⊎ (j ≡ q.position)
place_of_more ps q (Some p) j at h = inl (subst (λ (is : List ℕ). Has j is) (same_places ps q p at) h)
place_of_more ps q None j at h =
    let more = absent ps q at in
    let longer : places (with_proposal ps q) ≡ places ps ++ q.position ∷ [] = ap places more.0 ∙ map-append (λ (p : Proposal). p.position) ps (q ∷ []) in
    elim (has_split j (places ps) (q.position ∷ []) (subst (λ (is : List ℕ). Has j is) longer h)) [
      | inl before ↦ inl before
      | inr last ↦ elim last [ inl same ↦ inr same | inr none ↦ absurd none ]
    ]

-- ---- the start of a ballot learns nothing

pub learned_same : (records : List Rec) (b i : ℕ) → learned_at (records ++ Started b ∷ []) i ≡ learned_at records i
learned_same records b i = learned_push records (Started b) i ∙ or_none (learned_at records i)

pub leads_started : (me : ℕ) (config : Config) (records : List Rec) (taken : ℕ) (part : ProposerPart) (i b : ℕ) (own : Action) → IsProposer me config records taken part → IsRight own
    → learned_at records i ≡ None → IsInWindow (suc taken) i → IsProposer me config (records ++ Started b ∷ []) taken (begins part i b (Some own))
leads_started me config records taken part i b own t right unlearned inside =
    let q = new_proposal i b (Some own) in
    record {
      node = t.node;
      nodes = t.nodes;
      started = ap (λ (n : ℕ). max n b) t.started ∙ sym (started_push records (Started b));
      window = window_more (suc taken) part.proposals q (proposal_at part.proposals i) refl t.window inside;
      unlearned = λ j h. learned_same records b j ∙ elim (place_of_more part.proposals q (proposal_at part.proposals i) j refl h) [
        | inl before ↦ t.unlearned j before
        | inr same ↦ ap (learned_at records) same ∙ unlearned
      ];
      right = put_right part.proposals q t.right (record { own = right; promises = tt });
    }

-- ---- within reach

-- an unlearned position below the end of the window is one of it
pub in_reach : {S : Type 0} (records : List Rec) (log : Contents) (applied : Applied S) (i : ℕ) → IsApplied records log applied → 1 ≤ i → learned_at records i ≡ None → i < first_unlearned records + 64
    → IsInWindow (suc (length log.taken)) i
in_reach records log applied i a least unlearned below =
    let long : length log.taken ≡ length (applied_of records) = ap length (all_taken records log a.learned a.ordered a.none) in
    elim (cases_lt (length log.taken) i) [
      | inl past ↦ (omega arith, omega (arith, long, below))
      | inr taken ↦
          let lt : i - 1 < length log.taken = omega arith in
          let same : i - 1 + 1 ≡ i = omega arith in
          let missing : slice_get log.taken (i - 1) ≡ None = a.ordered (i - 1) lt ∙ ap (action_at log) same ∙ a.learned i ∙ unlearned in
          let never : false ≡ true = subst (λ (o : Option Action). IsSome o) missing (front_within log.taken (i - 1) lt) in
          absurd (cc)
    ]

-- ---- all parts

module _ {S : Type 0} (me : ℕ) (config : Config) (learner : Learning) (votes : List HeardVote) (log : Contents) (applied : Applied S) where
  -- the ballot is written, and a proposal or several begin
  pub server_started : (records after : List Rec) (proposer leading begun : ProposerPart) (b : ℕ) → after ≡ records ++ Started b ∷ [] → leading ≡ begun → IsServer me config records proposer learner votes log applied
      → IsProposer me config (records ++ Started b ∷ []) (length log.taken) begun → IsServer me config after leading learner votes log applied
  server_started records after proposer leading begun b noted is t leads =
      let fresh : IsServer me config (records ++ Started b ∷ []) begun learner votes log applied = record {
        sizes = t.sizes;
        member = t.member;
        right = all_right records (Started b) t.right tt;
        leads = leads;
        learns = learns_alike config records (records ++ Started b ∷ []) (length log.taken) learner votes (λ j. learned_same records b j) t.learns;
        applies = record {
          learned = λ j. t.applies.learned j ∙ sym (learned_same records b j);
          ordered = t.applies.ordered;
          none = t.applies.none;
          taken = t.applies.taken;
        };
      } in
      subst (λ (rs : List Rec). IsServer me config rs leading learner votes log applied) (sym noted)
      (subst (λ (p : ProposerPart). IsServer me config (records ++ Started b ∷ []) p learner votes log applied) (sym is) fresh)

-- ---- what a leader looks at

-- the first unlearned position is the next that the log takes
pub next_is : {S : Type 0} (records : List Rec) (log : Contents) (applied : Applied S) (n : ℕ) → IsApplied records log applied → n ≡ next_to_take log → n ≡ first_unlearned records
next_is records log applied n a is =
    let long : length log.taken ≡ length (applied_of records) = ap length (all_taken records log a.learned a.ordered a.none) in
    omega (arith, long, is)

-- it is the one after those that the log took
pub front_is : {S : Type 0} (records : List Rec) (log : Contents) (applied : Applied S) → IsApplied records log applied → suc (length log.taken) ≡ first_unlearned records
front_is records log applied a = next_is records log applied (suc (length log.taken)) a (omega arith)

-- a position of the log is out of reach where it is far above that
pub far_is : (most n i : ℕ) (records : List Rec) → i ≤ most → n ≡ first_unlearned records → nat_le (n + 64) i ≡ is_out_of_reach most records i
far_is most n i records within next =
    ap (λ (k : ℕ). nat_le (k + 64) i) next
    ∙ sym (ap (λ (b : Bool). b || nat_le (first_unlearned records + 64) i) (le-ltb most i within))
