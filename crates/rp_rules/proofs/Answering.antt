-- What an acceptor's answers say of the records.
use Rattle.std.proofs.Common.{◌≡◌, ℕ, ◌<◌, Bool, true, false, cond, nat_eq, nat_lt, Option, Some, None, List, [], ◌∷◌, refl, sym, ap, ◌∙◌, ltb-true}
use Rattle.std.specs.Prelude.{IfSome, filter}
use Rattle.std.specs.List.{AllByRecursion}
use Rattle.rp_base.specs.declared.action.Action.{Action}
use Rattle.rp_base.specs.declared.record.Vote.{Vote}
use Rattle.rp_base.specs.declared.record.Rec.{Rec}
use Rattle.rp_base.specs.declared.record.Rec.TheVariants.{Promised, Voted}
use Rattle.rp_base.specs.declared.voting.PrepareAnswer.{PrepareAnswer}
use Rattle.rp_base.specs.declared.voting.PrepareAnswer.TheVariants as prepares
use Rattle.rp_base.specs.declared.voting.AcceptAnswer.{AcceptAnswer}
use Rattle.rp_base.specs.declared.voting.AcceptAnswer.TheVariants as accepts
use Rattle.rp_base.specs.Action.{same_action}
use Rattle.rp_base.specs.Right.{IsRightRecord}
use Rattle.rp_base.specs.Records.{bound_at, last_vote_at}
use Rattle.rp_base.specs.Voting.{prepare_answer, vote_answer, accept_answer}
use Rattle.rp_base.proofs.MoreRecords.{last_below, last_right}
use Rattle.rp_model.specs.rp_codec.specs.Message.{IsVoteBelow}
use Rattle.rp_model.specs.rp_codec.specs.Record.{IsRecord}

-- ---- a promise

-- it is of this position and ballot, above the bound, and reports the last vote
pub record IsPromise (records : List Rec) (i b : ℕ) (last : Option Vote) (rec : Rec) : Type 0 where
  pub above : bound_at records i < b
  pub stated : last_vote_at records i ≡ last
  pub written : rec ≡ Promised i b

abbrev last_in : Option Vote → PrepareAnswer → Option Vote
last_in other (prepares.Promise last rec) = last
last_in other (prepares.Nack bound) = other
last_in other prepares.Silent = other

abbrev rec_in : Rec → PrepareAnswer → Rec
rec_in other (prepares.Promise last rec) = rec
rec_in other (prepares.Nack bound) = other
rec_in other prepares.Silent = other

abbrev is_promise : PrepareAnswer → Bool
is_promise (prepares.Promise last rec) = true
is_promise (prepares.Nack bound) = false
is_promise prepares.Silent = false

-- what is answered, by the two tests
abbrev by_tests : List Rec → ℕ → ℕ → Bool → Bool → PrepareAnswer
by_tests records i b above below =
    cond above (prepares.Promise (last_vote_at records i) (Promised i b)) (cond below (prepares.Nack (bound_at records i)) prepares.Silent)

last_always : (records : List Rec) (i b : ℕ) (above below : Bool) → last_in (last_vote_at records i) (by_tests records i b above below) ≡ last_vote_at records i
last_always records i b true below = refl
last_always records i b false true = refl
last_always records i b false false = refl

rec_always : (records : List Rec) (i b : ℕ) (above below : Bool) → rec_in (Promised i b) (by_tests records i b above below) ≡ Promised i b
rec_always records i b true below = refl
rec_always records i b false true = refl
rec_always records i b false false = refl

above_always : (records : List Rec) (i b : ℕ) (above below : Bool) → is_promise (by_tests records i b above below) ≡ above
above_always records i b true below = refl
above_always records i b false true = refl
above_always records i b false false = refl

pub promised : (records : List Rec) (i b : ℕ) (last : Option Vote) (rec : Rec) → prepares.Promise last rec ≡ prepare_answer records i b → IsPromise records i b last rec
promised records i b last rec e =
    let above = nat_lt (bound_at records i) b in
    let below = nat_lt b (bound_at records i) in
    record {
      above = ltb-true (bound_at records i) b (sym (ap is_promise e ∙ above_always records i b above below));
      stated = sym (ap (last_in (last_vote_at records i)) e ∙ last_always records i b above below);
      written = ap (rec_in (Promised i b)) e ∙ rec_always records i b above below;
    }

-- ---- a vote

abbrev vote_rec : Rec → AcceptAnswer → Rec
vote_rec other (accepts.Vote rec) = rec
vote_rec other accepts.Again = other
vote_rec other (accepts.Nack bound) = other
vote_rec other accepts.Silent = other

vote_always : (i b : ℕ) (v : Action) (last : Option Vote) → vote_rec (Voted i b v) (vote_answer i b v last) ≡ Voted i b v
vote_always i b v None = refl
vote_always i b v (Some last) = by (nat_eq last.ballot b) (same_action last.action v)
  where
    by : (same alike : Bool) → vote_rec (Voted i b v) (cond same (cond alike accepts.Again accepts.Silent) (accepts.Vote (Voted i b v))) ≡ Voted i b v
    by true true = refl
    by true false = refl
    by false alike = refl

accept_always : (i b bound : ℕ) (v : Action) (last : Option Vote) (low : Bool) → vote_rec (Voted i b v) (cond low (accepts.Nack bound) (vote_answer i b v last)) ≡ Voted i b v
accept_always i b bound v last true = refl
accept_always i b bound v last false = vote_always i b v last

-- it is of this position, ballot and action
pub voted : (records : List Rec) (i b : ℕ) (v : Action) (rec : Rec) → accepts.Vote rec ≡ accept_answer records i b v → rec ≡ Voted i b v
voted records i b v rec e = ap (vote_rec (Voted i b v)) e ∙ accept_always i b (bound_at records i) v (last_vote_at records i) (nat_lt b (bound_at records i))

-- the records that count are right
pub right_records : (test : Rec → Bool) (all : List Rec) → AllByRecursion IsRecord all → AllByRecursion IsRightRecord (filter test all)
right_records test [] each = tt
right_records test (rec ∷ rest) each =
    elim (test rec) as (λ b. AllByRecursion IsRightRecord (cond b (rec ∷ filter test rest) (filter test rest))) [
      | true ↦ (each.0.right, right_records test rest each.1)
      | false ↦ right_records test rest each.1
    ]

-- the vote that it reports may be sent
pub may_report : (records : List Rec) (i b : ℕ) (last : Option Vote) → AllByRecursion IsRightRecord records → last_vote_at records i ≡ last → bound_at records i < b → IfSome last (IsVoteBelow b)
may_report records i b None right is above = tt
may_report records i b (Some vote) right is above = (last_below records i b vote is above, last_right records i vote right is)
