-- What a task's caller does for one event: a call is made, or asked for again, and a reply is taken.
use Rattle.std.proofs.Common.{cond, ◌≡◌, ℕ, ◌<◌, ◌≤◌, ℤ, Bool, Option, Some, None, Ok, List, [], ◌∷◌, ◌++◌, length, take, drop, inr, refl, sym, ap, subst, ◌∙◌, arith}
use Rattle.std.specs.Prelude.{replicate}
use Rattle.std.proofs.lemmas.Bool.{lt-ltb}
use Rattle.std.proofs.lemmas.List.{append-nil, length-replicate}
use Rattle.rp_base.specs.Calls.{next_call}
use Rattle.rp_base.specs.Sets.{Has}
use Rattle.rp_base.specs.declared.action.Action.{Action}
use Rattle.rp_base.specs.declared.action.Operation.{Operation}
use Rattle.rp_base.specs.declared.config.Config.{Config}
use Rattle.rp_base.specs.declared.reply.Answer.{Answer}
use Rattle.rp_base.specs.declared.reply.Reply.{Reply}
use Rattle.rp_base.specs.declared.reply.Reply.TheVariants as replies
use Rattle.rp_codec.specs.Message.{Message, IsPacket}
use Rattle.rp_codec.specs.Text.{text_of, reply_text}
use Rattle.rp_codec.proofs.Decoded.{whole_again}
use Rattle.rp_model.specs.World.{part_at}
use Rattle.rp_requests.specs.Texts.{task_request_text, FitsTaskRequest}
use Rattle.rp_requests.specs.Buffers.{IsPutInFront}
use Rattle.rp_requests.specs.TaskRequests.{TaskAsked, MakeCall, SendAgain, TakePacket, task_asked_of}
use Rattle.rp_requests.specs.Tasks.{TaskAnswers, task_bytes, call_packet, again_text, reply_taken, once_taken, taken_text}
use Rattle.rp_requests.specs.rp_tasks.specs.Calls.{Calls, refusal_of, with_call, with_reply}
use Rattle.rp_installations.specs.Moves.{AreBytes, WasHandedOn, AsksTask, IsThroughNode, task_receives_byte, answer_in, call_given, reply_given, AnsweredRequest}
use Rattle.rp_installations.specs.Moves as moves
use Rattle.rp_installations.specs.Sites.{TaskSite, Installation}
use Rattle.rp_progress_by_handle.proofs.NodeMoves.{take_whole}
use Rattle.rp_progress_by_handle.proofs.Reaching.{TaskReaches, moves_task}

abbrev pub task_site : Calls → List (List ℕ) → TaskSite
task_site calls returned = record { task = Some calls; replies = returned }

some_reply : (reply : Reply) → 0 < length (reply_text reply)
some_reply (replies.Value value) = omega arith
some_reply (replies.Truth truth) = omega arith
some_reply replies.ConstraintError = omega arith
some_reply replies.ProgramError = omega arith
some_reply replies.NoSuchOperation = omega arith

some_text : (m : Message) → 0 < length (text_of m)
some_text m = omega arith

abbrev rest_of : List ℕ → List ℕ
rest_of [] = []
rest_of (b ∷ rest) = rest

abbrev first_of : List ℕ → ℕ
first_of [] = 0
first_of (b ∷ rest) = b

no_arrival : (packets : List (List ℕ)) (kind : ℕ) (operands : List ℕ) → ¬ (kind ≡ 3) → WasHandedOn packets task_receives_byte (kind ∷ operands)
no_arrival packets kind operands other packet is = absurd (other (ap first_of is))

-- the answer that has a text
abbrev buffer : List ℕ
buffer = replicate task_bytes 0

room : task_bytes ≤ length buffer
room = let long : length buffer ≡ task_bytes = length-replicate {A = ℕ} task_bytes 0 in omega (arith, long)

abbrev answered : List ℕ → List ℕ → AnsweredRequest
answered request text = record { request = request; before = buffer; after = text ++ drop (length text) buffer; result = Ok (record { stored = 0; used = length text }) }

answer_is : (request text : List ℕ) → 0 < length text → answer_in (answered request text) (answered request text).result ≡ text ∷ []
answer_is request text some =
    ap (λ (b : Bool). cond {A = List (List ℕ)} b (take (length text) (text ++ drop (length text) buffer) ∷ []) []) (lt-ltb 0 (length text) some)
    ∙ ap (λ (l : List ℕ). l ∷ []) (take_whole text (drop (length text) buffer))

module _ {S : Type 0} (next : S → Action → S) (answers : S → Action → List Answer) (image : S → List ℕ) (config : Config) (begin : S) (quorum : List ℕ) (t : ℕ)
    (reads : (request : TaskAsked) → FitsTaskRequest request → task_asked_of (task_request_text request) ≡ Some request) where
  abbrev Reaches : Installation S → TaskSite → List (List ℕ) → Type 0
  Reaches i site given = TaskReaches next answers image config begin quorum t i site given

  module _ (i : Installation S) (old : Calls) (returned : List (List ℕ)) (here : part_at i.tasks t ≡ Some (task_site old returned)) where
    pub calls_on : (node object : ℕ) (operation : Operation) (arg : ℤ) → FitsTaskRequest (MakeCall node object operation arg) → AreBytes (task_request_text (MakeCall node object operation arg)) → node ≤ config.nodes → refusal_of old ≡ None
        → Reaches i (task_site (with_call old (next_call old.task old.made object operation arg)) returned) (text_of (call_packet old.task node (next_call old.task old.made object operation arg)) ∷ [])
    calls_on node object operation arg fits bytes through free =
        let call = next_call old.task old.made object operation arg in
        let text = text_of (call_packet old.task node call) in
        let request = task_request_text (MakeCall node object operation arg) in
        let exchange = answered request text in
        let new = with_call old call in
        let changed : TaskSite = record { task = Some new; replies = returned ++ [] } in
        let read = reads (MakeCall node object operation arg) fits in
        let answer : TaskAnswers (Some (MakeCall node object operation arg)) old new buffer exchange.after exchange.result =
        inr (room, record { may = free; goes = refl; put = record { front = refl; stored_is = refl; used_is = refl } }) in
        let asks : AsksTask config.nodes i.handed_on (task_site old returned) changed (text ∷ []) = record {
          exchange = exchange;
          old = old;
          new = new;
          opened = refl;
          bytes = bytes;
          arrived = no_arrival i.handed_on 1 (rest_of request) (λ is. omega (arith, is));
          through = subst (IsThroughNode config.nodes) (sym read) through;
          answers = subst (λ (a : Option TaskAsked). TaskAnswers a old new buffer exchange.after exchange.result) (sym read) answer;
          goes = ap (λ (a : Option TaskAsked). (let s : TaskSite = record { task = Some new; replies = returned ++ reply_given exchange a } in s)) (sym read);
          gives = sym (ap (call_given exchange) read ∙ answer_is request text (some_text (call_packet old.task node call)));
        } in
        subst (λ (l : List (List ℕ)). Reaches i (task_site new l) (text ∷ [])) (append-nil returned)
        (moves_task next answers image config begin quorum t i (task_site old returned) changed (text ∷ []) here (moves.TaskMove.Called asks))

    pub asks_again_on : (node : ℕ) (call : Action) → old.outstanding ≡ Some call → FitsTaskRequest (SendAgain node) → AreBytes (task_request_text (SendAgain node)) → node ≤ config.nodes
        → Reaches i (task_site old returned) (text_of (call_packet old.task node call) ∷ [])
    asks_again_on node call waits fits bytes through =
        let text = text_of (call_packet old.task node call) in
        let request = task_request_text (SendAgain node) in
        let exchange = answered request text in
        let changed : TaskSite = record { task = Some old; replies = returned ++ [] } in
        let read = reads (SendAgain node) fits in
        let put : IsPutInFront [] (again_text old.task node (Some call)) buffer exchange.after (record { stored = 0; used = length text }) = record { front = refl; stored_is = refl; used_is = refl } in
        let answer : TaskAnswers (Some (SendAgain node)) old old buffer exchange.after exchange.result =
        inr (room, (refl, subst (λ (o : Option Action). IsPutInFront [] (again_text old.task node o) buffer exchange.after (record { stored = 0; used = length text })) (sym waits) put)) in
        let asks : AsksTask config.nodes i.handed_on (task_site old returned) changed (text ∷ []) = record {
          exchange = exchange;
          old = old;
          new = old;
          opened = refl;
          bytes = bytes;
          arrived = no_arrival i.handed_on 2 (rest_of request) (λ is. omega (arith, is));
          through = subst (IsThroughNode config.nodes) (sym read) through;
          answers = subst (λ (a : Option TaskAsked). TaskAnswers a old old buffer exchange.after exchange.result) (sym read) answer;
          goes = ap (λ (a : Option TaskAsked). (let s : TaskSite = record { task = Some old; replies = returned ++ reply_given exchange a } in s)) (sym read);
          gives = sym (ap (call_given exchange) read ∙ answer_is request text (some_text (call_packet old.task node call)));
        } in
        subst (λ (l : List (List ℕ)). Reaches i (task_site old l) (text ∷ [])) (append-nil returned)
        (moves_task next answers image config begin quorum t i (task_site old returned) changed (text ∷ []) here (moves.TaskMove.Called asks))

    pub takes_on : (message : Message) (reply : Reply) → IsPacket message → AreBytes (task_request_text (TakePacket (text_of message))) → Has (text_of message) i.handed_on → reply_taken old message ≡ Some reply
        → Reaches i (task_site (with_reply old) (returned ++ reply_text reply ∷ [])) []
    takes_on message reply packet bytes has taken =
        let text = reply_text reply in
        let request = task_request_text (TakePacket (text_of message)) in
        let exchange = answered request text in
        let new = with_reply old in
        let changed = task_site new (returned ++ text ∷ []) in
        let read = reads (TakePacket (text_of message)) tt in
        let answer : TaskAnswers (Some (TakePacket (text_of message))) old new buffer exchange.after exchange.result =
        inr (
          room,
          record {
            packet = message;
            is = whole_again message packet;
            goes = ap (once_taken old) (sym taken);
            put = subst (λ (o : Option Reply). IsPutInFront [] (taken_text o) buffer exchange.after (record { stored = 0; used = length text })) (sym taken) (record { front = refl; stored_is = refl; used_is = refl });
          },
        ) in
        let asks : AsksTask config.nodes i.handed_on (task_site old returned) changed [] = record {
          exchange = exchange;
          old = old;
          new = new;
          opened = refl;
          bytes = bytes;
          arrived = λ other is. subst (λ (p : List ℕ). Has p i.handed_on) (ap rest_of is) has;
          through = subst (IsThroughNode config.nodes) (sym read) tt;
          answers = subst (λ (a : Option TaskAsked). TaskAnswers a old new buffer exchange.after exchange.result) (sym read) answer;
          goes = ap (λ (l : List (List ℕ)). task_site new (returned ++ l)) (sym (answer_is request text (some_reply reply)) ∙ ap (reply_given exchange) (sym read));
          gives = ap (call_given exchange) (sym read);
        } in
        moves_task next answers image config begin quorum t i (task_site old returned) changed [] here (moves.TaskMove.Called asks)
