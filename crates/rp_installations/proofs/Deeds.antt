-- Deeds of callers as data: what each leads to is computed, and a test says whether it is a move.
use Rattle.std.proofs.Common.{◌≡◌, ℕ, zero, suc, ◌≤◌, ℤ, Bool, true, false, not, ◌&&◌, Option, Some, None, Result, Ok, Err, List, [], ◌∷◌, ◌++◌, length, inl, inr, refl, sym, ap, subst, ◌∙◌, is_some, is_none, is_ok, IsSome, nat_eq, nat_le, nat_lt, slice_get}
use Rattle.std.specs.Prelude.{unwrap_or}
use Rattle.std.specs.List.{AllByRecursion}
use Rattle.std.proofs.lemmas.Bool.{and_parts, eqb-true}
use Rattle.rp_base.specs.Sets.{Has}
use Rattle.rp_base.specs.declared.fault.Fault.{Fault}
use Rattle.rp_requests.specs.rp_codec.specs.Message.{Message, IsPacket}
use Rattle.rp_base.specs.Calls.{next_call}
use Rattle.rp_base.specs.declared.action.Action.{Action}
use Rattle.rp_base.specs.declared.action.Operation.{Operation}
use Rattle.rp_base.specs.declared.reply.Reply.{Reply}
use Rattle.rp_base.specs.declared.reply.Reply.TheVariants.{ConstraintError}
use Rattle.rp_requests.specs.rp_codec.specs.Text.{text_of, reply_text}
use Rattle.rp_machine.specs.TallyRule.{tally_next, tally_answers}
use Rattle.rp_requests.specs.rp_model.specs.Effect.{NodeInput}
use Rattle.rp_requests.specs.rp_model.specs.Effect as inputs
use Rattle.rp_requests.specs.rp_model.specs.Parts.{Turn, fresh_running}
use Rattle.rp_requests.specs.rp_model.specs.Says.{notes}
use Rattle.rp_requests.specs.rp_model.specs.World.{part_at}
use Rattle.rp_world.specs.rp_outbox.specs.Packets.{texts_of}
use Rattle.rp_installations.specs.Pending.{noted_by}
use Rattle.rp_world.specs.rp_replica.specs.Inputs.{effect_if_given}
use Rattle.rp_requests.specs.Texts.{step_text, FitsStep, task_request_text, FitsTaskRequest}
use Rattle.rp_requests.specs.TaskRequests.{TaskAsked, MakeCall, TakePacket, task_asked_of}
use Rattle.rp_requests.specs.Tasks.{call_packet, reply_taken}
use Rattle.rp_requests.specs.rp_tasks.specs.Calls.{Calls, no_calls, refusal_of, with_call, with_reply}
use Rattle.rp_requests.specs.Nodes.{NodeState, step_bytes}
use Rattle.rp_requests.specs.Timing.{comes_early}
use Rattle.rp_requests.specs.Requests.{Step, asked_of}
use Rattle.rp_installations.specs.Moves.{with_step}
use Rattle.rp_installations.specs.Sites.{StepPackets, NodeSite, TaskSite, closed_over, unopened_task}
use Rattle.rp_agreement.proofs.PartPlaces.{put_there}
use Rattle.rp_installations.specs.Breaches.{Callers, MoveOr, MovesOr}
use Rattle.rp_installations.proofs.Moving.{are_bytes, CameFrom, fresh, with_node, stepped, handed, appended_site, synced_site, opens, steps, appends, syncs, hands, closes, with_task, opens_task, calls, takes}

-- ---- tests

pub some_is : {A : Type 0} (o : Option A) (d : A) → is_some o ≡ true → o ≡ Some (unwrap_or o d)
some_is None d e = absurd (cc)
some_is (Some x) d e = refl

pub none_is : {A : Type 0} (o : Option A) → is_none o ≡ true → o ≡ None
none_is None e = refl
none_is (Some x) e = absurd (cc)

abbrev pub is_nil : {A : Type 0} → List A → Bool
is_nil [] = true
is_nil (x ∷ xs) = false

nil_is : {A : Type 0} (xs : List A) → is_nil xs ≡ true → xs ≡ []
nil_is [] e = refl
nil_is (x ∷ xs) e = absurd (cc)

abbrev pub same_bytes : List ℕ → List ℕ → Bool
same_bytes [] [] = true
same_bytes [] (y ∷ ys) = false
same_bytes (x ∷ xs) [] = false
same_bytes (x ∷ xs) (y ∷ ys) = nat_eq x y && same_bytes xs ys

pub same_is : (xs ys : List ℕ) → same_bytes xs ys ≡ true → xs ≡ ys
same_is [] [] e = refl
same_is [] (y ∷ ys) e = absurd (cc)
same_is (x ∷ xs) [] e = absurd (cc)
same_is (x ∷ xs) (y ∷ ys) e =
    let both = and_parts (nat_eq x y) (same_bytes xs ys) e in
    λ i. eqb-true x y both.0 i ∷ same_is xs ys both.1 i

-- the packet of this place, from 0
abbrev pub packet_at : List (List ℕ) → ℕ → List ℕ
packet_at packets k = unwrap_or (slice_get packets k) []

pub has_at : {A : Type 0} (xs : List A) (k : ℕ) (x : A) → slice_get xs k ≡ Some x → Has x xs
has_at [] k x e = absurd (cc)
has_at (y ∷ xs) zero x e = inl (sym (ap (λ (o : Option _). unwrap_or o y) e))
has_at (y ∷ xs) (suc k) x e = inr (has_at xs k x e)

-- the packet was handed on at this place
abbrev pub is_at : List (List ℕ) → ℕ → List ℕ → Bool
is_at packets k packet = is_some (slice_get packets k) && same_bytes (packet_at packets k) packet

pub was_at : (packets : List (List ℕ)) (k : ℕ) (packet : List ℕ) → is_at packets k packet ≡ true → Has packet packets
was_at packets k packet e =
    let both = and_parts (is_some (slice_get packets k)) (same_bytes (packet_at packets k) packet) e in
    subst (λ (p : List ℕ). Has p packets) (same_is (packet_at packets k) packet both.1) (has_at packets k (packet_at packets k) (some_is (slice_get packets k) [] both.0))

-- ---- where a deed is done

abbrev pub site_at : Callers → ℕ → NodeSite (List ℤ)
site_at i me = unwrap_or (part_at i.nodes me) (closed_over [] [])

abbrev pub node_at : Callers → ℕ → NodeState (List ℤ)
node_at i me = unwrap_or (site_at i me).node (fresh me)

abbrev turn_of : Result Turn Fault → Turn
turn_of (Ok turn) = turn
turn_of (Err fault) = notes fresh_running

turn_is : (r : Result Turn Fault) → is_ok r ≡ true → r ≡ Ok (turn_of r)
turn_is (Ok turn) e = refl
turn_is (Err fault) e = absurd (cc)

abbrev effect_at : Callers → ℕ → NodeInput → Result Turn Fault
effect_at i me input = effect_if_given tally_next tally_answers (node_at i me).replica (Ok input)

abbrev pub no_packets : StepPackets
no_packets = record { texts = []; end = 0 }

abbrev pub step_at : NodeSite (List ℤ) → ℕ → StepPackets
step_at site k = unwrap_or (slice_get site.step_packets k) no_packets

-- the node is there, and is open
abbrev is_open : Callers → ℕ → Bool
is_open i me = is_some (part_at i.nodes me) && is_some (site_at i me).node

abbrev pub task_at : Callers → ℕ → TaskSite
task_at i t = unwrap_or (part_at i.tasks t) unopened_task

abbrev pub calls_at : Callers → ℕ → Calls
calls_at i t = unwrap_or (task_at i t).task (no_calls t)

abbrev is_open_task : Callers → ℕ → Bool
is_open_task i t = is_some (part_at i.tasks t) && is_some (task_at i t).task

open_task_parts : (i : Callers) (t : ℕ) → is_open_task i t ≡ true → (part_at i.tasks t ≡ Some (task_at i t)) × ((task_at i t).task ≡ Some (calls_at i t))
open_task_parts i t e =
    let both = and_parts (is_some (part_at i.tasks t)) (is_some (task_at i t).task) e in
    (some_is (part_at i.tasks t) unopened_task both.0, some_is (task_at i t).task (no_calls t) both.1)

-- the call that a task makes, and the reply that it takes
abbrev call_at : Callers → ℕ → ℕ → Operation → ℤ → Action
call_at i t object operation arg = next_call (calls_at i t).task (calls_at i t).made object operation arg

abbrev reply_at : Callers → ℕ → Message → Reply
reply_at i t message = unwrap_or (reply_taken (calls_at i t) message) ConstraintError

abbrev is_empty : NodeSite (List ℤ) → Bool
is_empty site = is_none site.node && (is_nil site.synced && (is_nil site.appended && (is_nil site.given && is_nil site.step_packets)))

empty_is : (site : NodeSite (List ℤ)) → is_empty site ≡ true → site ≡ closed_over [] site.noted
empty_is site e =
    let a = and_parts (is_none site.node) (is_nil site.synced && (is_nil site.appended && (is_nil site.given && is_nil site.step_packets))) e in
    let b = and_parts (is_nil site.synced) (is_nil site.appended && (is_nil site.given && is_nil site.step_packets)) a.1 in
    let c = and_parts (is_nil site.appended) (is_nil site.given && is_nil site.step_packets) b.1 in
    let d = and_parts (is_nil site.given) (is_nil site.step_packets) c.1 in
    λ i. record { node = none_is site.node a.0 i; synced = nil_is site.synced b.0 i; appended = nil_is site.appended c.0 i; given = nil_is site.given d.0 i; step_packets = nil_is site.step_packets d.1 i; noted = site.noted }

abbrev pub came_at : Callers → NodeInput → ℕ → Bool
came_at i (inputs.NodeInput.Receive message) k = is_at i.handed_on k (text_of message)
came_at i (inputs.NodeInput.Lead choice) k = true
came_at i (inputs.NodeInput.LeadRange first count) k = true
came_at i (inputs.NodeInput.Interrupt source occurrence) k = true
came_at i (inputs.NodeInput.Tick now) k = true
came_at i (inputs.NodeInput.Report first) k = true
came_at i (inputs.NodeInput.Ask to) k = true

came_is : (i : Callers) (input : NodeInput) (k : ℕ) → came_at i input k ≡ true → CameFrom i.handed_on input
came_is i (inputs.NodeInput.Receive message) k e = was_at i.handed_on k (text_of message) e
came_is i (inputs.NodeInput.Lead choice) k e = tt
came_is i (inputs.NodeInput.LeadRange first count) k e = tt
came_is i (inputs.NodeInput.Interrupt source occurrence) k e = tt
came_is i (inputs.NodeInput.Tick now) k e = tt
came_is i (inputs.NodeInput.Report first) k e = tt
came_is i (inputs.NodeInput.Ask to) k e = tt

-- it is no call that comes early
abbrev is_timely : Callers → ℕ → NodeInput → Bool
is_timely i me input = not (comes_early tally_next tally_answers (node_at i me).replica (Ok input))

not_true : (b : Bool) → not b ≡ true → b ≡ false
not_true true e = absurd (cc)
not_true false e = refl

-- ---- deeds

-- A node is opened over an empty device; is asked for a step, where a packet is the one that was handed on at this place; has all
-- appended and synced that its steps gave; hands on one of the packets of the step of this place; is closed, and keeps what was
-- synced. A task is opened; makes a call, through a node; takes the reply in the packet that was handed on at this place. Or a rule is broken.
pub data Deed (B : Type 0) : Type 0 where
  Open : (me : ℕ) → Deed B
  Take : (me : ℕ) (input : NodeInput) (place : ℕ) → Deed B
  Keep : (me : ℕ) → Deed B
  Hand : (me place : ℕ) (messages : List Message) (message : Message) → Deed B
  Close : (me : ℕ) → Deed B
  OpenTask : (task : ℕ) → Deed B
  MakesCall : (task node object : ℕ) (operation : Operation) (arg : ℤ) → Deed B
  TakeReply : (task : ℕ) (message : Message) (place : ℕ) → Deed B
  Break : B → Deed B

module _ (Breaks : Callers → Callers → Type 0) (B : Type 0) (breaks_to : B → Callers → Callers) (may_break : B → Callers → Bool) (FitsBreach : B → Type 0)
    (breach : (b : B) (i : Callers) → FitsBreach b → may_break b i ≡ true → MoveOr Breaks i (breaks_to b i)) where
  abbrev pub does : Deed B → Callers → Callers
  does (Open me) i = with_node i me (record (closed_over [] (site_at i me).noted) { node = Some (fresh me) })
  does (Take me input place) i = with_node i me (with_step (site_at i me) (stepped (node_at i me) input (turn_of (effect_at i me input))) (noted_by input))
  does (Keep me) i = with_node (with_node i me (appended_site (site_at i me))) me (synced_site (appended_site (site_at i me)))
  does (Hand me place messages message) i = handed i me (site_at i me) (text_of message)
  does (Close me) i = with_node i me (closed_over ((site_at i me).synced ++ []) (site_at i me).noted)
  does (OpenTask t) i = with_task i t (record (task_at i t) { task = Some (no_calls t) }) []
  does (MakesCall t node object operation arg) i =
      with_task i t (record { task = Some (with_call (calls_at i t) (call_at i t object operation arg)); replies = (task_at i t).replies ++ [] }) (text_of (call_packet (calls_at i t).task node (call_at i t object operation arg)) ∷ [])
  does (TakeReply t message place) i = with_task i t (record { task = Some (with_reply (calls_at i t)); replies = (task_at i t).replies ++ reply_text (reply_at i t message) ∷ [] }) []
  does (Break b) i = breaks_to b i

  -- whether it is a move
  abbrev pub may : Deed B → Callers → Bool
  may (Open me) i = is_some (part_at i.nodes me) && is_empty (site_at i me)
  may (Take me input place) i = is_open i me && (are_bytes (step_text input) && (came_at i input place && (is_ok (effect_at i me input) && is_timely i me input)))
  may (Keep me) i = is_open i me && is_open (with_node i me (appended_site (site_at i me))) me
  may (Hand me place messages message) i =
      is_open i me && (is_some (slice_get (site_at i me).step_packets place) && (nat_le (step_at (site_at i me) place).end (length (site_at i me).synced) && same_bytes (step_at (site_at i me) place).texts (texts_of messages)))
  may (Close me) i = is_open i me
  may (OpenTask t) i = is_some (part_at i.tasks t) && is_none (task_at i t).task
  may (MakesCall t node object operation arg) i =
      is_open_task i t && (are_bytes (task_request_text (MakeCall node object operation arg)) && (is_none (refusal_of (calls_at i t)) && nat_lt 0 (length (text_of (call_packet (calls_at i t).task node (call_at i t object operation arg))))))
  may (TakeReply t message place) i =
      is_open_task i t && (are_bytes (task_request_text (TakePacket (text_of message))) && (is_at i.handed_on place (text_of message) && (is_some (reply_taken (calls_at i t) message) && nat_lt 0 (length (reply_text (reply_at i t message))))))
  may (Break b) i = may_break b i

  abbrev pub Fits : Deed B → Type 0
  Fits (Open me) = Unit {0}
  Fits (Take me input place) = FitsStep input
  Fits (Keep me) = Unit {0}
  Fits (Hand me place messages message) = AllByRecursion IsPacket messages × Has message messages
  Fits (Close me) = Unit {0}
  Fits (OpenTask t) = Unit {0}
  Fits (MakesCall t node object operation arg) = FitsTaskRequest (MakeCall node object operation arg) × (node ≤ 3)
  Fits (TakeReply t message place) = IsPacket message
  Fits (Break b) = FitsBreach b

  abbrev pub plays : List (Deed B) → Callers → Callers
  plays [] i = i
  plays (deed ∷ rest) i = plays rest (does deed i)

  abbrev pub all_may : List (Deed B) → Callers → Bool
  all_may [] i = true
  all_may (deed ∷ rest) i = may deed i && all_may rest (does deed i)

  abbrev pub AllFit : List (Deed B) → Type 0
  AllFit [] = Unit {0}
  AllFit (deed ∷ rest) = Fits deed × AllFit rest

  -- ---- each is a move

  open_parts : (i : Callers) (me : ℕ) → is_open i me ≡ true → (part_at i.nodes me ≡ Some (site_at i me)) × ((site_at i me).node ≡ Some (node_at i me)) × IsSome (site_at i me).node
  open_parts i me e =
      let both = and_parts (is_some (part_at i.nodes me)) (is_some (site_at i me).node) e in
      (some_is (part_at i.nodes me) (closed_over [] []) both.0, some_is (site_at i me).node (fresh me) both.1, both.1)

  -- moves that lead from the one to the other
  abbrev pub Leads : Callers → Callers → Type 0
  Leads i j = (moves : List Callers) × MovesOr Breaks i moves j

  one : (i j : Callers) → MoveOr Breaks i j → Leads i j
  one i j move = (j ∷ [], (move, refl))

  two : (i j k : Callers) → MoveOr Breaks i j → MoveOr Breaks j k → Leads i k
  two i j k first second = (j ∷ k ∷ [], (first, (second, refl)))

  joined : (i j k : Callers) (steps more : List Callers) → MovesOr Breaks i steps j → MovesOr Breaks j more k → MovesOr Breaks i (steps ++ more) k
  joined i j k [] more same all = subst (λ (x : Callers). MovesOr Breaks x more k) same all
  joined i j k (middle ∷ rest) more first all = (first.0, joined middle j k rest more first.1 all)

  pub on : (i j k : Callers) → Leads i j → Leads j k → Leads i k
  on i j k first second = (first.0 ++ second.0, joined i j k first.0 second.0 first.1 second.1)

  module _ (buffer : List ℕ) (room : step_bytes ≤ length buffer) (reads : (input : NodeInput) → FitsStep input → asked_of (step_text input) ≡ Some (Step (Ok input)))
      (reads_task : (request : TaskAsked) → FitsTaskRequest request → task_asked_of (task_request_text request) ≡ Some request) where
    deed_leads : (deed : Deed B) (i : Callers) → Fits deed → may deed i ≡ true → Leads i (does deed i)
    deed_leads (Open me) i fits e =
        let both = and_parts (is_some (part_at i.nodes me)) (is_empty (site_at i me)) e in
        one i _ (opens Breaks i me (site_at i me).noted (some_is (part_at i.nodes me) (closed_over [] []) both.0 ∙ ap (λ (s : NodeSite (List ℤ)). Some s) (empty_is (site_at i me) both.1)))
    deed_leads (Take me input place) i fits e =
        let a = and_parts (is_open i me) (are_bytes (step_text input) && (came_at i input place && (is_ok (effect_at i me input) && is_timely i me input))) e in
        let b = and_parts (are_bytes (step_text input)) (came_at i input place && (is_ok (effect_at i me input) && is_timely i me input)) a.1 in
        let c = and_parts (came_at i input place) (is_ok (effect_at i me input) && is_timely i me input) b.1 in
        let d = and_parts (is_ok (effect_at i me input)) (is_timely i me input) c.1 in
        let here = open_parts i me a.0 in
        one i _ (steps Breaks buffer room reads i me (site_at i me) (node_at i me) input (turn_of (effect_at i me input)) here.0 here.1 fits b.0 (came_is i input place c.0) (turn_is (effect_at i me input) d.0) (not_true (comes_early tally_next tally_answers (node_at i me).replica (Ok input)) d.1))
    deed_leads (Keep me) i fits e =
        let both = and_parts (is_open i me) (is_open (with_node i me (appended_site (site_at i me))) me) e in
        let here = open_parts i me both.0 in
        let middle = with_node i me (appended_site (site_at i me)) in
        let put : part_at middle.nodes me ≡ Some (appended_site (site_at i me)) = put_there i.nodes me (site_at i me) (appended_site (site_at i me)) here.0 in
        two i middle _ (appends Breaks i me (site_at i me) here.0 here.2) (syncs Breaks middle me (appended_site (site_at i me)) put here.2)
    deed_leads (Hand me place messages message) i fits e =
        let s = site_at i me in
        let a = and_parts (is_open i me) (is_some (slice_get s.step_packets place) && (nat_le (step_at s place).end (length s.synced) && same_bytes (step_at s place).texts (texts_of messages))) e in
        let b = and_parts (is_some (slice_get s.step_packets place)) (nat_le (step_at s place).end (length s.synced) && same_bytes (step_at s place).texts (texts_of messages)) a.1 in
        let c = and_parts (nat_le (step_at s place).end (length s.synced)) (same_bytes (step_at s place).texts (texts_of messages)) b.1 in
        let here = open_parts i me a.0 in
        one i _ (hands Breaks i me s (step_at s place) messages message here.0 (has_at s.step_packets place (step_at s place) (some_is (slice_get s.step_packets place) no_packets b.0)) c.0
        (same_is (step_at s place).texts (texts_of messages) c.1) fits.0 fits.1)
    deed_leads (Close me) i fits e = let here = open_parts i me e in one i _ (closes Breaks i me (site_at i me) here.0 here.2)
    deed_leads (OpenTask t) i fits e =
        let both = and_parts (is_some (part_at i.tasks t)) (is_none (task_at i t).task) e in
        one i _ (opens_task Breaks i t (task_at i t) (some_is (part_at i.tasks t) unopened_task both.0) (none_is (task_at i t).task both.1))
    deed_leads (MakesCall t node object operation arg) i fits e =
        let text = text_of (call_packet (calls_at i t).task node (call_at i t object operation arg)) in
        let a = and_parts (is_open_task i t) (are_bytes (task_request_text (MakeCall node object operation arg)) && (is_none (refusal_of (calls_at i t)) && nat_lt 0 (length text))) e in
        let b = and_parts (are_bytes (task_request_text (MakeCall node object operation arg))) (is_none (refusal_of (calls_at i t)) && nat_lt 0 (length text)) a.1 in
        let c = and_parts (is_none (refusal_of (calls_at i t))) (nat_lt 0 (length text)) b.1 in
        let here = open_task_parts i t a.0 in
        one i _ (calls Breaks buffer room reads_task i t (task_at i t) (calls_at i t) node object operation arg here.0 here.1 fits.0 b.0 fits.1 (none_is (refusal_of (calls_at i t)) c.0) c.1)
    deed_leads (TakeReply t message place) i fits e =
        let taken = reply_taken (calls_at i t) message in
        let long = nat_lt 0 (length (reply_text (reply_at i t message))) in
        let a = and_parts (is_open_task i t) (are_bytes (task_request_text (TakePacket (text_of message))) && (is_at i.handed_on place (text_of message) && (is_some taken && long))) e in
        let b = and_parts (are_bytes (task_request_text (TakePacket (text_of message)))) (is_at i.handed_on place (text_of message) && (is_some taken && long)) a.1 in
        let c = and_parts (is_at i.handed_on place (text_of message)) (is_some taken && long) b.1 in
        let d = and_parts (is_some taken) long c.1 in
        let here = open_task_parts i t a.0 in
        one i _ (takes Breaks buffer room reads_task i t (task_at i t) (calls_at i t) message (reply_at i t message) here.0 here.1 fits b.0 (was_at i.handed_on place (text_of message) c.0) (some_is taken ConstraintError d.0) d.1)
    deed_leads (Break b) i fits e = one i _ (breach b i fits e)

    pub plays_lead : (deeds : List (Deed B)) (i : Callers) → AllFit deeds → all_may deeds i ≡ true → Leads i (plays deeds i)
    plays_lead [] i fits e = ([], refl)
    plays_lead (deed ∷ rest) i fits e =
        let both = and_parts (may deed i) (all_may rest (does deed i)) e in
        on i (does deed i) (plays rest (does deed i)) (deed_leads deed i fits.0 both.0) (plays_lead rest (does deed i) fits.1 both.1)
