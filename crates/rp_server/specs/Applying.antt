-- The results of learning and applying for a server.
use Rattle.std.specs.Prelude.{◌≡◌, ℕ, ◌+◌, ◌*◌, ◌≤◌, Bool, List, [], ◌++◌, length, if◌then◌else◌}
use Rattle.std.specs.Prelude.{IfSome}
use Rattle.rp_base.specs.declared.action.Action.{Action}
use Rattle.rp_base.specs.declared.reply.Answer.{Answer}
use Rattle.rp_model.specs.rp_codec.specs.Message.{Message}
use Rattle.rp_model.specs.rp_codec.specs.Tails.{decision_text}
use Rattle.rp_model.specs.rp_codec.specs.declared.packet.Body.TheVariants.{Decided}
use Rattle.rp_log.specs.Contents.{Contents}
use Rattle.rp_machine.specs.Numbered.{Applied, outcome}
use Rattle.rp_model.specs.Parts.{Turn}
use Rattle.rp_model.specs.Learner.{learns}
use Rattle.rp_model.specs.Pending.{replies_to}
use Rattle.rp_model.specs.Says.{says_to_others}
use Rattle.rp_server.specs.State.{ServerState}
use Rattle.rp_server.specs.declared.learn.Decision.{Decision}
use Rattle.rp_outbox.specs.Packets.{Sending, longest_text}

-- where how the text of a decision ends is given, it is that of its position and action
abbrev pub IsTail : Decision → Type 0
IsTail decision =
    IfSome decision.tail (λ tail. tail ≡ decision_text decision.position decision.action)

-- the packets that go before the replies: the other nodes are informed where this one informs them
abbrev pub decided_packets : ℕ → ℕ → ℕ → Action → Bool → List Message
decided_packets nodes me i v announces =
    if announces then says_to_others nodes me (Decided i v) else []

module _ {S : Type 0} (next : S → Action → S) (answers : S → Action → List Answer) where
  -- the turn of a server that learns an action at a position, with no packet but the replies
  abbrev pub learns_alone : ServerState S → ℕ → Action → Turn
  learns_alone server i v =
      learns next answers server.begin server.me server.records server.running i v [] []

  -- what the log took is applied, and nothing is learned; these answers resulted
  pub record AppliesMore (before after : Contents) (old new : Applied S) (more : List Answer)
      : Type 0 where
    pub begin : new.begin ≡ old.begin
    pub taken : new.actions ≡ after.taken
    pub places : after.places ≡ before.places
    pub longer : length before.taken ≤ length after.taken
    pub given : (outcome next answers new).given ≡ (outcome next answers old).given ++ more

  -- the answers whose call is pending are among the packets, one for each pending item at most
  pub record HasReplied (me : ℕ) (pending : List Action) (before after : Contents)
      (old new : Applied S)
      (out said : Sending) : Type 0 where
    pub more : List Answer
    pub applies : AppliesMore before after old new more
    pub sent : said.sent ≡ out.sent ++ replies_to me pending more
    pub few : length (replies_to me pending more) ≤ length pending
    pub room : out.room ≤ said.room + longest_text * length (replies_to me pending more)
