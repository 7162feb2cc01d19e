-- Lines are read back.
use Rattle.std.proofs.Common.{◌≡◌, ◌<◌, ◌^◌, ℕ, ℤ, true, false, List, [], ◌∷◌, ◌++◌, Some, refl, sym, ◌∙◌, ap}
use Rattle.std.specs.Prelude.{codes}
use Rattle.std.specs.Option.{option_map}
use Rattle.std.specs.Fmt.{decimal, signed_decimal}
use Rattle.std.specs.Str.Parse.{digits_value}
use Rattle.rp_output.specs.rp_base.specs.Right.{IsReply}
use Rattle.rp_output.specs.rp_base.specs.declared.reply.Reply.{Reply}
use Rattle.rp_output.specs.rp_base.specs.declared.reply.Reply.TheVariants.{Value, Truth, ConstraintError, ProgramError, NoSuchOperation}
use Rattle.rp_output.specs.Printed.{reply_text_of, reply_line_of, opened_line_of, running_line_of, full_line_of, applied_line_of, stopped_line_of, limit_line_of}
use Rattle.rp_printed_texts.specs.Reading.{ReplyTaken, NodeOpened, NodeRunning, NodeFull, NodeApplied, NodeStopped, StepRefused, DrainEnded, words_in, printed_reply, taken_in, state_in, step_in, before_colon, read_line, HasNoSpace}
use Rattle.rp_printed_texts.proofs.WordsRead.{word_first, word_last, number_solid, value_back, numeral, colon_solid, digits_before, signed_back, signed_solid}

-- ---- replies

reply_back : (reply : Reply) → IsReply reply → printed_reply (words_in (reply_text_of reply)) ≡ Some reply
reply_back (Value z) fits =
    ap (λ (w : List (List ℕ)). printed_reply (codes "value" ∷ w)) (word_last (signed_decimal z) (signed_solid z fits))
    ∙ ap (λ (v : ℤ). Some (Value v)) (signed_back z fits)
reply_back (Truth true) fits = refl
reply_back (Truth false) fits = refl
reply_back ConstraintError fits = refl
reply_back ProgramError fits = refl
reply_back NoSuchOperation fits = refl

pub replies : (task : List ℕ) (number : ℕ) (reply : Reply) → HasNoSpace task → number < 2 ^ 64 → IsReply reply → read_line (reply_line_of task number reply) ≡ Some (ReplyTaken task number reply)
replies task number reply none small fits =
    ap taken_in (word_first task (decimal number ++ 32 ∷ reply_text_of reply) none ∙ ap (λ (w : List (List ℕ)). task ∷ w) (word_first (decimal number) (reply_text_of reply) (number_solid number small)))
    ∙ ap (option_map (λ (r : Reply). ReplyTaken task (digits_value 10 (decimal number)) r)) (reply_back reply fits)
    ∙ ap (λ n. Some (ReplyTaken task n reply)) (value_back number small)

-- ---- nodes

-- the words of a node's line after its number
node_words : (node : ℕ) (rest : List ℕ) → node < 2 ^ 64 → words_in (decimal node ++ 32 ∷ rest) ≡ decimal node ∷ words_in rest
node_words node rest small = word_first (decimal node) rest (number_solid node small)

pub opened : (node records bytes : ℕ) → node < 2 ^ 64 → records < 2 ^ 64 → bytes < 2 ^ 64 → read_line (opened_line_of node records bytes) ≡ Some (NodeOpened node records bytes)
opened node records bytes small few short =
    ap state_in (node_words node (codes "open records " ++ (decimal records ++ (codes " cut " ++ decimal bytes))) small)
    ∙ ap (λ (w : List (List ℕ)). state_in (decimal node ∷ codes "open" ∷ codes "records" ∷ w)) (word_first (decimal records) (codes "cut " ++ decimal bytes) (number_solid records few))
    ∙ ap (λ (w : List (List ℕ)). state_in (decimal node ∷ codes "open" ∷ codes "records" ∷ decimal records ∷ codes "cut" ∷ w)) (word_last (decimal bytes) (number_solid bytes short))
    ∙ (λ i. Some (NodeOpened (value_back node small i) (value_back records few i) (value_back bytes short i)))

pub running : (node : ℕ) → node < 2 ^ 64 → read_line (running_line_of node) ≡ Some (NodeRunning node)
running node small = ap state_in (node_words node (codes "already running") small) ∙ ap (λ n. Some (NodeRunning n)) (value_back node small)

pub full : (node : ℕ) → node < 2 ^ 64 → read_line (full_line_of node) ≡ Some (NodeFull node)
full node small = ap state_in (node_words node (codes "pending full") small) ∙ ap (λ n. Some (NodeFull n)) (value_back node small)

pub applied_back : (node applied : ℕ) → node < 2 ^ 64 → applied < 2 ^ 64 → read_line (applied_line_of node applied) ≡ Some (NodeApplied node applied)
applied_back node applied small few =
    ap state_in (node_words node (codes "applied " ++ decimal applied) small)
    ∙ ap (λ (w : List (List ℕ)). state_in (decimal node ∷ codes "applied" ∷ w)) (word_last (decimal applied) (number_solid applied few))
    ∙ (λ i. Some (NodeApplied (value_back node small i) (value_back applied few i)))

pub stopped : (node : ℕ) → node < 2 ^ 64 → read_line (stopped_line_of node) ≡ Some (NodeStopped node)
stopped node small = ap state_in (node_words node (codes "stopped") small) ∙ ap (λ n. Some (NodeStopped n)) (value_back node small)

-- ---- steps of the script

line_back : (line : ℕ) → line < 2 ^ 64 → digits_value 10 (before_colon (decimal line ++ 58 ∷ [])) ≡ line
line_back line small = ap (digits_value 10) (digits_before (decimal line) (numeral line small).1) ∙ value_back line small

-- the words of such a line after `line`
step_words : (line : ℕ) (rest : List ℕ) → line < 2 ^ 64 → words_in (decimal line ++ 58 ∷ 32 ∷ rest) ≡ (decimal line ++ 58 ∷ []) ∷ words_in rest
step_words line rest small =
    ap words_in (sym (colon_apart (decimal line))) ∙ word_first (decimal line ++ 58 ∷ []) rest (colon_solid (decimal line) (numeral line small).1) where
      colon_apart : (ds : List ℕ) → (ds ++ 58 ∷ []) ++ 32 ∷ rest ≡ ds ++ 58 ∷ 32 ∷ rest
      colon_apart [] = refl
      colon_apart (d ∷ ds) = ap (λ (l : List ℕ). d ∷ l) (colon_apart ds)

-- a refusal, by the code and the name that are printed
pub refused : (line code : ℕ) (name : List ℕ) → line < 2 ^ 64 → code < 2 ^ 64 → HasNoSpace name
    → read_line (codes "line " ++ (decimal line ++ (codes ": refused " ++ (decimal code ++ (codes " " ++ name))))) ≡ Some (StepRefused line code name)
refused line code name small few none =
    ap step_in (step_words line (codes "refused " ++ (decimal code ++ (codes " " ++ name))) small)
    ∙ ap (λ (w : List (List ℕ)). step_in ((decimal line ++ 58 ∷ []) ∷ codes "refused" ∷ w)) (word_first (decimal code) name (number_solid code few) ∙ ap (λ (w : List (List ℕ)). decimal code ∷ w) (word_last name none))
    ∙ (λ i. Some (StepRefused (line_back line small i) (value_back code few i) name))

pub limit : (line : ℕ) → line < 2 ^ 64 → read_line (limit_line_of line) ≡ Some (DrainEnded line)
limit line small = ap step_in (step_words line (codes "drain limit") small) ∙ ap (λ n. Some (DrainEnded n)) (line_back line small)
