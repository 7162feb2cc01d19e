-- The text of an item is read back.
use Rattle.std.proofs.Common.{◌≡◌, ◌≢◌, ◌<◌, ◌≤◌, ◌^◌, ℕ, suc, ℤ, pos, negsuc, ◌==◌, Bool, true, false, cond, ◌&&◌, List, [], ◌∷◌, ◌++◌, Some, refl, sym, ◌∙◌, ap, subst, arith, FitsSigned, w64, append_assoc}
use Rattle.std.specs.Prelude.{codes, nat_lt}
use Rattle.std.specs.Fmt.{decimal, signed_decimal}
use Rattle.std.specs.Str.Parse.{AllDigits}
use Rattle.std.proofs.lemmas.Bool.Decides.{nat_tests}
use Rattle.std.proofs.lemmas.Str.Parse.{digit_from_value}
use Rattle.rp_run.specs.rp_base.specs.declared.fault.Fault.{Fault}
use Rattle.rp_run.specs.rp_base.specs.declared.fault.Fault.TheVariants.{OutOfMemory, Device, Failed, BadPacket, NotRunning, BallotsSpent, LogFull, NoSuchMessage, TaskBusy, NumbersSpent, BadDeck, BadConfig, Io}
use Rattle.rp_run.specs.rp_base.specs.declared.reply.Reply.{Reply}
use Rattle.rp_run.specs.rp_base.specs.declared.reply.Reply.TheVariants as answers
use Rattle.rp_run.specs.rp_base.specs.Right.{IsReply}
use Rattle.rp_run.specs.rp_codec.specs.declared.packet.Body.{Body}
use Rattle.rp_run.specs.rp_codec.specs.declared.packet.Body.TheVariants as bodies
use Rattle.rp_run.specs.rp_output.specs.Printed.{reply_text_of, reply_line_of, refused_line_of, opened_line_of, applied_line_of}
use Rattle.rp_run.specs.rp_output.specs.Trace.{trace_line_of, body_text_of, call_number}
use Rattle.rp_printed_texts.specs.Packets.{stated_of, AreNumbers, call_stated}
use Rattle.rp_printed_texts.proofs.WordsRead.{numeral}
use Rattle.rp_printed_texts.proofs.LinesRead.{replies, opened, running, full, applied_back, stopped, refused, limit}
use Rattle.rp_printed_texts.proofs.PacketsRead.{packet_back, same_call}
use Rattle.rp_run.specs.Items.{Note, Sent, Opened, AlreadyRunning, PendingFull, Stopped, Refused, DrainLimit, Item, Called, Replied, Shown, Noted, note_line, notes_text, item_text}
use Rattle.rp_printed_texts.specs.Reading.{read_line, HasNoSpace}
use Rattle.rp_printed_texts.specs.ItemLines.{first_line, after_line, IsOneLine, IsRefusal, FitsNote, SaysNote, FitsItem, SaysItem}

-- ---- one line

other : (byte : ℕ) → byte ≢ 10 → (byte == 10) ≡ false
other byte apart = grind (arith, nat_tests, apart)

line_first : (line rest : List ℕ) → IsOneLine line → first_line (line ++ 10 ∷ rest) ≡ line
line_first [] rest one = refl
line_first (byte ∷ line) rest one =
    ap (λ b. cond {A = List ℕ} b [] (byte ∷ first_line (line ++ 10 ∷ rest))) (other byte one.0) ∙ ap (λ (l : List ℕ). byte ∷ l) (line_first line rest one.1)

line_after : (line rest : List ℕ) → IsOneLine line → after_line (line ++ 10 ∷ rest) ≡ rest
line_after [] rest one = refl
line_after (byte ∷ line) rest one =
    ap (λ b. cond {A = List ℕ} b (line ++ 10 ∷ rest) (after_line (line ++ 10 ∷ rest))) (other byte one.0) ∙ line_after line rest one.1

and_then : (one two : List ℕ) → IsOneLine one → IsOneLine two → IsOneLine (one ++ two)
and_then [] two first second = second
and_then (byte ∷ one) two first second = (first.0, and_then one two first.1 second)

-- the words of the printer, by a test
abbrev is_line : List ℕ → Bool
is_line [] = true
is_line (byte ∷ rest) = nat_lt 10 byte && is_line rest

parts : (a b : Bool) → (a && b) ≡ true → (a ≡ true) × (b ≡ true)
parts true b is = (refl, is)
parts false b is = absurd (cc)

above_is : (byte : ℕ) → nat_lt 10 byte ≡ true → 10 < byte
above_is byte is = grind (arith, nat_tests, is)

fixed : (text : List ℕ) → is_line text ≡ true → IsOneLine text
fixed [] is = tt
fixed (byte ∷ rest) is =
    let both = parts (nat_lt 10 byte) (is_line rest) is in
    let above : 10 < byte = above_is byte both.0 in
    ((λ same. omega (arith, above, same)), fixed rest both.1)

digits_line : (ds : List ℕ) → AllDigits 10 ds → IsOneLine ds
digits_line [] all = tt
digits_line (d ∷ ds) all =
    let range = digit_from_value d all.0 in
    ((λ is. omega (arith, range.0, is)), digits_line ds all.1)

number_line : (n : ℕ) → n < 2 ^ 64 → IsOneLine (decimal n)
number_line n small = digits_line (decimal n) (numeral n small).1

signed_line : (z : ℤ) → FitsSigned w64 z → IsOneLine (signed_decimal z)
signed_line (pos n) fits = number_line n (omega (arith, fits.sfits))
signed_line (negsuc n) fits = ((λ is. omega (arith, is)), number_line (suc n) (omega (arith, fits.sfits)))

-- ---- the lines

reply_words : (reply : Reply) → IsReply reply → IsOneLine (reply_text_of reply)
reply_words (answers.Value z) fits = and_then (codes "value ") (signed_decimal z) (fixed (codes "value ") refl) (signed_line z fits)
reply_words (answers.Truth true) fits = fixed (codes "truth true") refl
reply_words (answers.Truth false) fits = fixed (codes "truth false") refl
reply_words answers.ConstraintError fits = fixed (codes "Constraint_Error") refl
reply_words answers.ProgramError fits = fixed (codes "Program_Error") refl
reply_words answers.NoSuchOperation fits = fixed (codes "No_Such_Operation") refl

spaced : (text : List ℕ) → IsOneLine text → IsOneLine (32 ∷ text)
spaced text one = ((λ is. omega (arith, is)), one)

reply_is_line : (task : List ℕ) (number : ℕ) (reply : Reply) → IsOneLine task → number < 2 ^ 64 → IsReply reply → IsOneLine (reply_line_of task number reply)
reply_is_line task number reply one small fits =
    and_then (codes "reply ") (task ++ (codes " " ++ (decimal number ++ (codes " " ++ reply_text_of reply)))) (fixed (codes "reply ") refl)
    (and_then task (32 ∷ (decimal number ++ (32 ∷ reply_text_of reply))) one (spaced (decimal number ++ (32 ∷ reply_text_of reply)) (and_then (decimal number) (32 ∷ reply_text_of reply) (number_line number small) (spaced (reply_text_of reply) (reply_words reply fits)))))

node_is_line : (node : ℕ) (rest : List ℕ) → node < 2 ^ 64 → IsOneLine rest → IsOneLine (codes "node " ++ (decimal node ++ rest))
node_is_line node rest small one = and_then (codes "node ") (decimal node ++ rest) (fixed (codes "node ") refl) (and_then (decimal node) rest (number_line node small) one)

step_is_line : (line : ℕ) (rest : List ℕ) → line < 2 ^ 64 → IsOneLine rest → IsOneLine (codes "line " ++ (decimal line ++ rest))
step_is_line line rest small one = and_then (codes "line ") (decimal line ++ rest) (fixed (codes "line ") refl) (and_then (decimal line) rest (number_line line small) one)

two_lines : (a b : ℕ) → a < 2 ^ 64 → b < 2 ^ 64 → IsOneLine (decimal a ++ 32 ∷ decimal b)
two_lines a b small few = and_then (decimal a) (32 ∷ decimal b) (number_line a small) (spaced (decimal b) (number_line b few))

three_lines : (a b c : ℕ) → a < 2 ^ 64 → b < 2 ^ 64 → c < 2 ^ 64 → IsOneLine (decimal a ++ 32 ∷ (decimal b ++ 32 ∷ decimal c))
three_lines a b c small few short = and_then (decimal a) (32 ∷ (decimal b ++ 32 ∷ decimal c)) (number_line a small) (spaced (decimal b ++ 32 ∷ decimal c) (two_lines b c few short))

body_is_line : (body : Body) → AreNumbers (stated_of body).1 → IsOneLine (body_text_of body)
body_is_line (bodies.Call action) small = and_then (codes "call ") (decimal (call_number action)) (fixed (codes "call ") refl) (number_line (call_number action) (subst (λ n. n < 2 ^ 64) (sym (same_call action)) small.0))
body_is_line (bodies.Prepare position ballot) small = and_then (codes "prepare ") (decimal position ++ 32 ∷ decimal ballot) (fixed (codes "prepare ") refl) (two_lines position ballot small.0 small.1.0)
body_is_line (bodies.Promise position ballot last) small = and_then (codes "promise ") (decimal position ++ 32 ∷ decimal ballot) (fixed (codes "promise ") refl) (two_lines position ballot small.0 small.1.0)
body_is_line (bodies.Accept position ballot action) small = and_then (codes "accept ") (decimal position ++ 32 ∷ decimal ballot) (fixed (codes "accept ") refl) (two_lines position ballot small.0 small.1.0)
body_is_line (bodies.Accepted position ballot action) small = and_then (codes "accepted ") (decimal position ++ 32 ∷ decimal ballot) (fixed (codes "accepted ") refl) (two_lines position ballot small.0 small.1.0)
body_is_line (bodies.Decided position action) small = and_then (codes "decided ") (decimal position) (fixed (codes "decided ") refl) (number_line position small.0)
body_is_line (bodies.Ask position) small = and_then (codes "ask ") (decimal position) (fixed (codes "ask ") refl) (number_line position small.0)
body_is_line (bodies.Nack position ballot bound) small = and_then (codes "nack ") (decimal position ++ 32 ∷ decimal ballot) (fixed (codes "nack ") refl) (two_lines position ballot small.0 small.1.0)
body_is_line (bodies.Reply number reply) small = and_then (codes "reply ") (decimal number) (fixed (codes "reply ") refl) (number_line number small.0)
body_is_line (bodies.Report first applied stated) small = and_then (codes "report ") (decimal first) (fixed (codes "report ") refl) (number_line first small.0)
body_is_line (bodies.PrepareRange range ballot) small = and_then (codes "prepare_range ") (decimal range.first ++ 32 ∷ (decimal range.count ++ 32 ∷ decimal ballot)) (fixed (codes "prepare_range ") refl) (three_lines range.first range.count ballot small.0 small.1.0 small.1.1.0)
body_is_line (bodies.PromiseRange range ballot votes) small = and_then (codes "promise_range ") (decimal range.first ++ 32 ∷ (decimal range.count ++ 32 ∷ decimal ballot)) (fixed (codes "promise_range ") refl) (three_lines range.first range.count ballot small.0 small.1.0 small.1.1.0)

trace_is_line : (number : ℕ) (from to : List ℕ) (body : Body) → number < 2 ^ 64 → IsOneLine from → IsOneLine to → AreNumbers (stated_of body).1 → IsOneLine (trace_line_of number from to body)
trace_is_line number from to body small one two fits =
    let stated = body_is_line body fits in
    let receiver = and_then to (32 ∷ body_text_of body) two (spaced (body_text_of body) stated) in
    let marked : IsOneLine (62 ∷ (to ++ 32 ∷ body_text_of body)) = ((λ is. omega (arith, is)), receiver) in
    let sender = and_then from (62 ∷ (to ++ 32 ∷ body_text_of body)) one marked in
    let all = and_then (decimal number) (32 ∷ (from ++ 62 ∷ (to ++ 32 ∷ body_text_of body))) (number_line number small) (spaced (from ++ 62 ∷ (to ++ 32 ∷ body_text_of body)) sender) in
    ((λ is. omega (arith, is)), all)

-- ---- refusals

refusal_line : (line code : ℕ) (name : List ℕ) → line < 2 ^ 64 → code < 2 ^ 64 → IsOneLine name → IsOneLine (codes "line " ++ (decimal line ++ (codes ": refused " ++ (decimal code ++ (codes " " ++ name)))))
refusal_line line code name small few one =
    step_is_line line (codes ": refused " ++ (decimal code ++ (codes " " ++ name))) small
    (and_then (codes ": refused ") (decimal code ++ 32 ∷ name) (fixed (codes ": refused ") refl) (and_then (decimal code) (32 ∷ name) (number_line code few) (spaced name one)))

abbrev is_word : List ℕ → Bool
is_word [] = true
is_word (byte ∷ rest) = nat_lt 32 byte && is_word rest

above_space : (byte : ℕ) → nat_lt 32 byte ≡ true → 32 < byte
above_space byte is = grind (arith, nat_tests, is)

unspaced : (text : List ℕ) → is_word text ≡ true → HasNoSpace text
unspaced [] is = tt
unspaced (byte ∷ rest) is =
    let both = parts (nat_lt 32 byte) (is_word rest) is in
    let above : 32 < byte = above_space byte both.0 in
    ((λ same. omega (arith, above, same)), unspaced rest both.1)

-- a line for a refusal, which is read back
abbrev Says : Fault → Type 0
Says why = (line : ℕ) → line < 2 ^ 64 → IsOneLine (refused_line_of line why) × SaysNote (Refused line why) (refused_line_of line why)

few : (n : ℕ) → n < 11 → n < 2 ^ 64
few n low = omega (arith, low)

not_running : Says NotRunning
not_running line small = (refusal_line line 5 (codes "NotRunning") small (few 5 (omega arith)) (fixed (codes "NotRunning") refl), (5, codes "NotRunning", ((refl, refl), refused line 5 (codes "NotRunning") small (few 5 (omega arith)) (unspaced (codes "NotRunning") refl))))

ballots_spent : Says BallotsSpent
ballots_spent line small = (refusal_line line 6 (codes "BallotsSpent") small (few 6 (omega arith)) (fixed (codes "BallotsSpent") refl), (6, codes "BallotsSpent", ((refl, refl), refused line 6 (codes "BallotsSpent") small (few 6 (omega arith)) (unspaced (codes "BallotsSpent") refl))))

log_full : Says LogFull
log_full line small = (refusal_line line 7 (codes "LogFull") small (few 7 (omega arith)) (fixed (codes "LogFull") refl), (7, codes "LogFull", ((refl, refl), refused line 7 (codes "LogFull") small (few 7 (omega arith)) (unspaced (codes "LogFull") refl))))

no_message : Says NoSuchMessage
no_message line small = (refusal_line line 8 (codes "NoSuchMessage") small (few 8 (omega arith)) (fixed (codes "NoSuchMessage") refl), (8, codes "NoSuchMessage", ((refl, refl), refused line 8 (codes "NoSuchMessage") small (few 8 (omega arith)) (unspaced (codes "NoSuchMessage") refl))))

task_busy : Says TaskBusy
task_busy line small = (refusal_line line 9 (codes "TaskBusy") small (few 9 (omega arith)) (fixed (codes "TaskBusy") refl), (9, codes "TaskBusy", ((refl, refl), refused line 9 (codes "TaskBusy") small (few 9 (omega arith)) (unspaced (codes "TaskBusy") refl))))

numbers_spent : Says NumbersSpent
numbers_spent line small = (refusal_line line 10 (codes "NumbersSpent") small (few 10 (omega arith)) (fixed (codes "NumbersSpent") refl), (10, codes "NumbersSpent", ((refl, refl), refused line 10 (codes "NumbersSpent") small (few 10 (omega arith)) (unspaced (codes "NumbersSpent") refl))))

abbrev HasRow : Fault → Type 0
HasRow why = (code : ℕ) × (name : List ℕ) × IsRefusal why code name

refusal_says : (why : Fault) → HasRow why → Says why
refusal_says OutOfMemory row = absurd row.2
refusal_says Device row = absurd row.2
refusal_says Failed row = absurd row.2
refusal_says (BadPacket reason) row = absurd row.2
refusal_says NotRunning row = not_running
refusal_says BallotsSpent row = ballots_spent
refusal_says LogFull row = log_full
refusal_says NoSuchMessage row = no_message
refusal_says TaskBusy row = task_busy
refusal_says NumbersSpent row = numbers_spent
refusal_says (BadDeck line reason) row = absurd row.2
refusal_says BadConfig row = absurd row.2
refusal_says Io row = absurd row.2

-- ---- notes and items

note_says : (note : Note) → FitsNote note → IsOneLine (note_line note) × SaysNote note (note_line note)
note_says (Sent number from to body) fits = (trace_is_line number from to body fits.0 fits.1.1 fits.2.1 fits.3, packet_back number from to body fits.0 fits.1.0 fits.2.0 fits.3)
note_says (Opened node records bytes) fits = (
  node_is_line node (codes " open records " ++ (decimal records ++ (codes " cut " ++ decimal bytes))) fits.0
      (and_then (codes " open records ") (decimal records ++ (codes " cut " ++ decimal bytes)) (fixed (codes " open records ") refl)
      (and_then (decimal records) (codes " cut " ++ decimal bytes) (number_line records fits.1) (and_then (codes " cut ") (decimal bytes) (fixed (codes " cut ") refl) (number_line bytes fits.2)))),
  opened node records bytes fits.0 fits.1 fits.2,
)
note_says (AlreadyRunning node) fits = (node_is_line node (codes " already running") fits (fixed (codes " already running") refl), running node fits)
note_says (PendingFull node) fits = (node_is_line node (codes " pending full") fits (fixed (codes " pending full") refl), full node fits)
note_says (Stopped node) fits = (node_is_line node (codes " stopped") fits (fixed (codes " stopped") refl), stopped node fits)
note_says (Refused line why) fits = refusal_says why fits.1 line fits.0
note_says (DrainLimit line) fits = (step_is_line line (codes ": drain limit") fits (fixed (codes ": drain limit") refl), limit line fits)

applied_is_line : (node applied : ℕ) → node < 2 ^ 64 → applied < 2 ^ 64 → IsOneLine (applied_line_of node applied)
applied_is_line node applied small few =
    node_is_line node (codes " applied " ++ decimal applied) small (and_then (codes " applied ") (decimal applied) (fixed (codes " applied ") refl) (number_line applied few))

pub item_says : (item : Item) → FitsItem item → SaysItem item (item_text item)
item_says (Called task asked) fits = refl
item_says (Replied name answer) fits =
    let line = reply_line_of name answer.number answer.reply in
    let one = reply_is_line name answer.number answer.reply fits.0.1 fits.1 fits.2 in
    (ap read_line (line_first line [] one) ∙ replies name answer.number answer.reply fits.0.0 fits.1 fits.2, line_after line [] one)
item_says (Shown node applied image) fits =
    let line = applied_line_of node applied in
    let one = applied_is_line node applied fits.0 fits.1 in
    let joined : (line ++ 10 ∷ []) ++ image ≡ line ++ 10 ∷ image = append_assoc line (10 ∷ []) image in
    (ap (λ (t : List ℕ). read_line (first_line t)) joined ∙ ap read_line (line_first line image one) ∙ applied_back node applied fits.0 fits.1, ap after_line joined ∙ line_after line image one)
item_says (Noted []) fits = refl
item_says (Noted (note ∷ notes)) fits =
    let line = note_line note in
    let says = note_says note fits in
    let joined : (line ++ 10 ∷ []) ++ notes_text notes ≡ line ++ 10 ∷ notes_text notes = append_assoc line (10 ∷ []) (notes_text notes) in
    (subst (SaysNote note) (sym (ap first_line joined ∙ line_first line (notes_text notes) says.0)) says.1, ap after_line joined ∙ line_after line (notes_text notes) says.0)
