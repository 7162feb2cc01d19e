-- A server's parts once a promise or a vote is written, or was to be.
use Rattle.std.proofs.Common.{◌≡◌, ℕ, Option, Some, None, List, [], ◌∷◌, ◌++◌, length, refl, sym, ap, subst, ◌∙◌, arith, inl, inr}
use Rattle.std.proofs.lemmas.List.{append-nil, append_assoc}
use Rattle.std.specs.Prelude.{Result, Ok, Err, OnOk, OnErr}
use Rattle.rp_base.specs.declared.action.Action.{Action}
use Rattle.rp_base.specs.declared.config.Config.{Config}
use Rattle.rp_base.specs.declared.record.Rec.{Rec}
use Rattle.rp_base.specs.declared.record.Rec.TheVariants.{Started, Promised, Voted, Learned, PromisedRange}
use Rattle.rp_base.specs.declared.fault.WriteFault.{WriteFault}
use Rattle.rp_base.specs.Sets.{Has}
use Rattle.rp_base.specs.Promises.{HeardVote}
use Rattle.rp_acceptor.specs.Noted.{Noted, HasRoom, reserves, reserves_vote, reserves_range, reserves_for, notes, nothing_noted, restored_from, restored}
use Rattle.rp_base.specs.Ranges.{Range}
use Rattle.rp_base.specs.Records.{or_else, started_of, learned_at}
use Rattle.rp_base.proofs.MoreRecords.{started_push, learned_push}
use Rattle.rp_proposer.specs.Proposing.{ProposerPart}
use Rattle.rp_learner.specs.Learning.{Learning}
use Rattle.rp_log.specs.Contents.{Contents}
use Rattle.rp_machine.specs.Numbered.{Applied}
use Rattle.rp_server.proofs.Hearing.{learns_alike}
use Rattle.std.specs.List.{AllByRecursion}
use Rattle.rp_base.specs.Right.{IsRightRecord}
use Rattle.rp_server.specs.Invariant.{IsServer, IsAnswer}

pub or_none : (o : Option Action) → or_else o None ≡ o
or_none None = refl
or_none (Some v) = refl

-- ---- an answer changes nothing of what is started or learned

pub started_same : (records : List Rec) (rec : Rec) → IsAnswer rec → started_of (records ++ rec ∷ []) ≡ started_of records
started_same records (Started ballot) is = absurd is
started_same records (Promised position ballot) is = started_push records (Promised position ballot) ∙ omega arith
started_same records (Voted position ballot action) is = started_push records (Voted position ballot action) ∙ omega arith
started_same records (Learned position action) is = absurd is
started_same records (PromisedRange range ballot) is = started_push records (PromisedRange range ballot) ∙ omega arith

pub learned_same : (records : List Rec) (rec : Rec) (i : ℕ) → IsAnswer rec → learned_at (records ++ rec ∷ []) i ≡ learned_at records i
learned_same records (Started ballot) i is = absurd is
learned_same records (Promised position ballot) i is = learned_push records (Promised position ballot) i ∙ or_none (learned_at records i)
learned_same records (Voted position ballot action) i is = learned_push records (Voted position ballot action) i ∙ or_none (learned_at records i)
learned_same records (Learned position action) i is = absurd is
learned_same records (PromisedRange range ballot) i is = learned_push records (PromisedRange range ballot) i ∙ or_none (learned_at records i)

-- ---- all parts

pub all_right : (records : List Rec) (rec : Rec) → AllByRecursion IsRightRecord records → IsRightRecord rec → AllByRecursion IsRightRecord (records ++ rec ∷ [])
all_right [] rec all right = (right, tt)
all_right (other ∷ rest) rec all right = (all.0, all_right rest rec all.1 right)

module _ {S : Type 0} (me : ℕ) (config : Config) (records : List Rec) (proposer : ProposerPart) (learner : Learning) (votes : List HeardVote) (log : Contents) (applied : Applied S) where
  -- an answer is noted
  server_answer : (rec : Rec) → IsServer me config records proposer learner votes log applied → IsAnswer rec → IsRightRecord rec → IsServer me config (records ++ rec ∷ []) proposer learner votes log applied
  server_answer rec t answer right = record {
    sizes = t.sizes;
    member = t.member;
    right = all_right records rec t.right right;
    leads = record {
      node = t.leads.node;
      nodes = t.leads.nodes;
      started = t.leads.started ∙ sym (started_same records rec answer);
      window = t.leads.window;
      unlearned = λ i h. learned_same records rec i answer ∙ t.leads.unlearned i h;
      right = t.leads.right;
    };
    learns = learns_alike config records (records ++ rec ∷ []) (length log.taken) learner votes (λ i. learned_same records rec i answer) t.learns;
    applies = record {
      learned = λ i. t.applies.learned i ∙ sym (learned_same records rec i answer);
      ordered = t.applies.ordered;
      none = t.applies.none;
      taken = t.applies.taken;
    };
  }

  -- or it was to be written, and was not
  pub server_kept : {T : Type 0} (r : Result T WriteFault) (rec : Rec) (after : List Rec) → OnOk r (after ≡ records ++ rec ∷ []) → OnErr r (after ≡ records)
      → IsServer me config records proposer learner votes log applied → IsAnswer rec → IsRightRecord rec → IsServer me config after proposer learner votes log applied
  server_kept (Ok v) rec after noted same t answer right =
      subst (λ (rs : List Rec). IsServer me config rs proposer learner votes log applied) (sym noted) (server_answer rec t answer right)
  server_kept (Err fault) rec after noted same t answer right =
      subst (λ (rs : List Rec). IsServer me config rs proposer learner votes log applied) (sym same) t

-- ---- room

has_last : {X : Type 0} (x : X) (xs : List X) → Has x (xs ++ x ∷ [])
has_last x [] = inl refl
has_last x (y ∷ ys) = inr (has_last x ys)

has_only : {X : Type 0} (x y : X) → Has x (y ∷ []) → x ≡ y
has_only x y (inl e) = e
has_only x y (inr none) = absurd none

-- what is the only one is there once it is added
added : {X : Type 0} (x y : X) (xs : List X) → Has x (y ∷ []) → Has x (xs ++ y ∷ [])
added {X = X} x y xs h = subst (λ (z : X). Has x (xs ++ z ∷ [])) (has_only x y h) (has_last x xs)

-- room is made where the record counts
module _ {T E : Type 0} (old new : Noted) (rec : Rec) where
  pub room_promise : (r : Result T E) (position ballot : ℕ) → rec ≡ Promised position ballot → OnOk r (new ≡ reserves old position) → OnOk r (HasRoom new rec)
  room_promise (Err e) position ballot is ok = tt
  room_promise (Ok v) position ballot is ok = subst (HasRoom new) (sym is) (subst (λ (n : Noted). HasRoom n (Promised position ballot)) (sym ok) (record {
    promise = λ i h. added i position old.reserved h;
    vote = λ i none. absurd none;
    range = λ r none. absurd none;
  }))

  pub room_vote : (r : Result T E) (position ballot : ℕ) (action : Action) → rec ≡ Voted position ballot action → OnOk r (new ≡ reserves_vote old position) → OnOk r (HasRoom new rec)
  room_vote (Err e) position ballot action is ok = tt
  room_vote (Ok v) position ballot action is ok = subst (HasRoom new) (sym is) (subst (λ (n : Noted). HasRoom n (Voted position ballot action)) (sym ok) (record {
    promise = λ i none. absurd none;
    vote = λ i h. added i position old.votes h;
    range = λ r none. absurd none;
  }))

  pub room_range : (r : Result T E) (range : Range) (ballot : ℕ) → rec ≡ PromisedRange range ballot → OnOk r (new ≡ reserves_range old range) → OnOk r (HasRoom new rec)
  room_range (Err e) range ballot is ok = tt
  room_range (Ok v) range ballot is ok = subst (HasRoom new) (sym is) (subst (λ (n : Noted). HasRoom n (PromisedRange range ballot)) (sym ok) (record {
    promise = λ i none. absurd none;
    vote = λ i none. absurd none;
    range = λ r h. added r range old.ranges h;
  }))

-- ---- what is restored

restored_records : (noted : Noted) (rest : List Rec) → (restored_from noted rest).records ≡ noted.records ++ rest
restored_records noted [] = sym (append-nil noted.records)
restored_records noted (rec ∷ rest) =
    restored_records (notes (reserves_for noted rec) rec) rest ∙ ap (λ (rs : List Rec). (rs ++ rec ∷ []) ++ rest) (same_records noted rec) ∙ append_assoc noted.records (rec ∷ []) rest
  where
    same_records : (noted : Noted) (rec : Rec) → (reserves_for noted rec).records ≡ noted.records
    same_records noted (Started ballot) = refl
    same_records noted (Promised position ballot) = refl
    same_records noted (Voted position ballot action) = refl
    same_records noted (Learned position action) = refl
    same_records noted (PromisedRange range ballot) = refl

-- an acceptor that is restored has noted the records
pub all_restored : (records : List Rec) → (restored records).records ≡ records
all_restored records = restored_records nothing_noted records
