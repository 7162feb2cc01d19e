-- How the texts of usual packets and records end: alike, so that one is made of another.
use Rattle.std.specs.Prelude.{◌≡◌, ℕ, List, ◌++◌, Ok}
use Rattle.rp_base.specs.declared.action.Action.{Action}
use Rattle.rp_codec.specs.Decoding.{IsDecoded}
use Rattle.rp_codec.specs.Text.{position_text, action_text, vote_text}
use Rattle.rp_codec.specs.Usual.{accept_at, accepted_at, decided_of}
use Rattle.rp_codec.specs.declared.usual_texts.Header.{Header}
use Rattle.rp_codec.specs.declared.usual_texts.SentDecision.{SentDecision}

-- a position and an action: how a decision ends, and its record
abbrev pub decision_text : ℕ → Action → List ℕ
decision_text position action = position_text position ++ action_text action

-- if the bytes are read as an accept, this is how its text of version 2 ends
abbrev pub EndsAccept : List ℕ → List ℕ → Type 0
EndsAccept bytes tail =
    (header : Header) (action : Action) → IsDecoded bytes (Ok (accept_at header action))
    → tail ≡ vote_text header.position header.ballot action

-- the same, of a vote
abbrev pub EndsVote : List ℕ → List ℕ → Type 0
EndsVote bytes tail =
    (header : Header) (action : Action) → IsDecoded bytes (Ok (accepted_at header action))
    → tail ≡ vote_text header.position header.ballot action

-- the same, of a decision
abbrev pub EndsDecision : List ℕ → List ℕ → Type 0
EndsDecision bytes tail =
    (d : SentDecision) → IsDecoded bytes (Ok (decided_of d))
    → tail ≡ decision_text d.position d.action
