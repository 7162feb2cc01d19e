-- The output of a run in threads.
use Rattle.std.specs.Prelude.{ℕ, suc, Bool, List, [], ◌∷◌, ◌++◌, flat_map, if◌then◌else◌}
use Rattle.rp_deck.specs.rp_base.specs.declared.reply.Answer.{Answer}
use Rattle.rp_live.specs.declared.run.LiveOutcome.{LiveOutcome}
use Rattle.rp_output.specs.Printed.{applied_line_of, agreed_line}
use Rattle.rp_output.specs.FaultMessage.{with_line_feed}
use Rattle.rp_run.specs.Items.{item_text}
use Rattle.rp_run.specs.Output.{reply_item}

-- the line of a reply, under the name of its task
abbrev pub reply_text : List (List ℕ) → Answer → List ℕ
reply_text names answer = item_text (reply_item names answer)

-- the lines of replies in order
abbrev pub replies_text : List (List ℕ) → List Answer → List ℕ
replies_text names replies = flat_map (reply_text names) replies

-- the line of how many actions a node has applied
abbrev pub node_text : ℕ → ℕ → List ℕ
node_text node applied = with_line_feed (applied_line_of node applied)

-- the lines of the nodes from this number on
abbrev pub applied_text : ℕ → List ℕ → List ℕ
applied_text node [] = []
applied_text node (applied ∷ others) = node_text node applied ++ applied_text (suc node) others

-- the line that the logs agree, if they do
abbrev pub agreed_text : Bool → List ℕ
agreed_text agree = if agree then with_line_feed agreed_line else []

-- the replies of all tasks, how many actions each node has applied, and that the logs agree, if
-- they do
abbrev pub outcome_text : List (List ℕ) → LiveOutcome → List ℕ
outcome_text names outcome =
    replies_text names outcome.replies.items
    ++ (applied_text 1 outcome.applied.items ++ agreed_text outcome.agree)
