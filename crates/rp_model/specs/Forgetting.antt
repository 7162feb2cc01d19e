-- What a node no longer needs: votes that it heard at positions that it has learned.
use Rattle.std.specs.Prelude.{◌≡◌, Bool, is_none, Result, Ok, Err, List, filter}
use Rattle.rp_base.specs.declared.fault.Fault.{Fault}
use Rattle.rp_base.specs.declared.record.Rec.{Rec}
use Rattle.rp_base.specs.Promises.{HeardVote}
use Rattle.rp_base.specs.Records.{learned_at}
use Rattle.rp_model.specs.Parts.{Running}
use Rattle.rp_model.specs.Parts.{Turn}
use Rattle.rp_model.specs.Parts.{with_record}

-- nothing is learned at the position where the vote was heard
abbrev pub is_open : List Rec → HeardVote → Bool
is_open records heard = is_none (learned_at records heard.1)

-- the two know the same, but for votes heard at learned positions
pub record KnowsAlike (records : List Rec) (one other : Running) : Type 0 where
  pub proposals : other.proposals ≡ one.proposals
  pub heard : filter (is_open records) other.heard ≡ filter (is_open records) one.heard
  pub pending : other.pending ≡ one.pending
  pub refused : other.refused ≡ one.refused

-- the two write, send and drop the same, and afterwards know the same, but for such votes
pub record AreAlikeTurns (records : List Rec) (one other : Turn) : Type 0 where
  pub written : other.written ≡ one.written
  pub sent : other.sent ≡ one.sent
  pub dropped : other.dropped ≡ one.dropped
  pub running : KnowsAlike (with_record records one.written) one.running other.running

-- two such turns, or the same refusal
abbrev pub AreAlikeAnswers : List Rec → Result Turn Fault → Result Turn Fault → Type 0
AreAlikeAnswers records (Ok one) (Ok other) = AreAlikeTurns records one other
AreAlikeAnswers records (Ok one) (Err fault) = ⊥
AreAlikeAnswers records (Err fault) (Ok other) = ⊥
AreAlikeAnswers records (Err fault) (Err other) = other ≡ fault
