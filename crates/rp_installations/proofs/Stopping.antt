-- What a stop leaves of the bytes that pending steps wrote, and the events that leave the same.
use Rattle.std.proofs.Common.{◌≡◌, ℕ, zero, suc, ◌<◌, ◌≤◌, Bool, true, cond, Option, Some, None, Ok, List, [], ◌∷◌, ◌++◌, length, take, inl, inr, refl, sym, ap, subst, ◌∙◌, append_assoc, arith}
use Rattle.std.specs.Prelude.{◌^◌}
use Rattle.std.specs.List.{AllByRecursion}
use Rattle.std.proofs.lemmas.Bool.{cases_Bool, cases_lt, lt-leb}
use Rattle.std.proofs.lemmas.List.{append-nil}
use Rattle.rp_store.specs.rp_base.specs.Sets.{Has}
use Rattle.rp_store.specs.rp_base.proofs.Members.{has_left, has_right}
use Rattle.rp_store.specs.rp_base.specs.declared.action.Action.{Action}
use Rattle.rp_store.specs.rp_base.specs.declared.action.Action.TheVariants as actions
use Rattle.rp_store.specs.rp_base.specs.declared.record.Rec.{Rec}
use Rattle.rp_store.specs.rp_base.specs.declared.record.Rec.TheVariants.{Started, Promised, Voted, Learned, PromisedRange}
use Rattle.rp_store.specs.rp_codec.specs.Message.{Message}
use Rattle.rp_store.specs.rp_codec.specs.Record.{record_text, IsRecord}
use Rattle.rp_store.specs.rp_codec.specs.declared.version.Version.TheVariants.{V2}
use Rattle.rp_store.specs.rp_codec.specs.declared.packet.Party.{Party}
use Rattle.rp_store.specs.rp_codec.proofs.RecordLaws.{has_latest}
use Rattle.rp_store.specs.rp_codec.proofs.VersionLaws.{call_long}
use Rattle.rp_store.specs.rp_codec.specs.Text.{action_text_at, number_text}
use Rattle.rp_store.specs.Records.{AreTextsOf, AreRecordsOf}
use Rattle.rp_store.proofs.Whole.{texts_end, are_alone, before_put}
use Rattle.rp_agreement.specs.rp_model.specs.Effect as nodes
use Rattle.rp_agreement.specs.rp_model.specs.Effect.{Setting, Done, NodeInput, effect_while, node_effect, cut_effect, cut_if, cut_part, goes_on_as, turn_done}
use Rattle.rp_agreement.specs.rp_model.specs.Events.{Event, Cut}
use Rattle.rp_agreement.specs.rp_model.specs.Parts.{NodePart, Running, Turn, with_record}
use Rattle.rp_agreement.specs.rp_model.specs.Receiving.{is_node}
use Rattle.rp_agreement.specs.rp_model.specs.World.{World, part_at, event_effect, node_done, node_done_if, chosen_cut}
use Rattle.rp_agreement.specs.History.{IsHistory}
use Rattle.rp_agreement.specs.Ranges.{IsRangedWorld}
use Rattle.rp_agreement.proofs.Lists.{has_get}
use Rattle.rp_agreement.proofs.PartPlaces.{part_has}
use Rattle.rp_installations.specs.Pending.{PendingStep, MayCome, AreSteps, after_steps, bytes_written, bytes_of, noted_in}
use Rattle.rp_installations.specs.Making.{AreAmong, GoesOnTo, Stopped}
use Rattle.rp_installations.proofs.Stepping.{IsFor, its_step, lost, step_for, right_step, one_more, leads_on, node_here, one_made, made, noted_append, joined_among}

-- ---- where the bytes end

-- of two lists that go on alike the shorter is at the front of the other
pub record Fronts (a b c d : List ℕ) : Type 0 where
  pub more : List ℕ
  pub longer : c ≡ a ++ more
  pub rest : b ≡ more ++ d

pub fronts : (a b c d : List ℕ) → a ++ b ≡ c ++ d → length a ≤ length c → Fronts a b c d
fronts [] b c d e long = record { more = c; longer = refl; rest = e }
fronts (x ∷ a) b [] d e long = absurd (omega (arith, long))
fronts (x ∷ a) b (y ∷ c) d e long =
    let first : x ≡ y = cc in
    let others : a ++ b ≡ c ++ d = cc in
    let f = fronts a b c d others (omega (arith, long)) in
    record { more = f.more; longer = ap (λ (z : ℕ). z ∷ c) (sym first) ∙ ap (λ (l : List ℕ). x ∷ l) f.longer; rest = f.rest }

nothing_before : (q rest : List ℕ) → [] ≡ q ++ rest → q ≡ []
nothing_before [] rest e = refl
nothing_before (x ∷ q) rest e = absurd (cc)

pub taken_front : (q rest : List ℕ) → take (length q) (q ++ rest) ≡ q
taken_front [] rest = refl
taken_front (x ∷ q) rest = ap (λ (l : List ℕ). x ∷ l) (taken_front q rest)

taken_all : (n : ℕ) (bytes : List ℕ) → n ≤ length bytes → length (take n bytes) ≡ n
taken_all zero bytes within = refl
taken_all (suc n) [] within = absurd (omega arith)
taken_all (suc n) (b ∷ bytes) within = ap suc (taken_all n bytes (omega arith))

-- they end between two steps, or within the record of one
data Ends (steps : List PendingStep) (q : List ℕ) : Type 0 where
  Between : (front back : List PendingStep) → steps ≡ front ++ back → q ≡ bytes_of front → Ends steps q
  Within : (front : List PendingStep) (step : PendingStep) (back : List PendingStep) (rec : Rec) (kept : ℕ) → steps ≡ front ++ step ∷ back → step.turn.written ≡ Some rec
      → kept < length (record_text rec) → q ≡ bytes_of front ++ take kept (record_text rec) → Ends steps q

ends_first : (step : PendingStep) (more : List PendingStep) (q rest : List ℕ) (written : Option Rec) → step.turn.written ≡ written → bytes_written written ++ bytes_of more ≡ q ++ rest → length q < length (bytes_written written) → Ends (step ∷ more) q
ends_first step more q rest None is e less = absurd (omega (arith, less))
ends_first step more q rest (Some rec) is e less =
    let f = fronts q rest (record_text rec) (bytes_of more) (sym e) (omega (arith, less)) in
    Within [] step more rec (length q) refl is less (sym (taken_front q f.more) ∙ ap (take (length q)) (sym f.longer))

ends_later : (step : PendingStep) (more : List PendingStep) (q left : List ℕ) → q ≡ bytes_written step.turn.written ++ left → Ends more left → Ends (step ∷ more) q
ends_later step more q left is (Between front back parts at) =
    Between (step ∷ front) back (ap (λ (l : List PendingStep). step ∷ l) parts) (is ∙ ap (λ (l : List ℕ). bytes_written step.turn.written ++ l) at)
ends_later step more q left is (Within front other back rec kept parts writes less at) =
    Within (step ∷ front) other back rec kept (ap (λ (l : List PendingStep). step ∷ l) parts) writes less
    (is ∙ ap (λ (l : List ℕ). bytes_written step.turn.written ++ l) at ∙ sym (append_assoc (bytes_written step.turn.written) (bytes_of front) (take kept (record_text rec))))

ends : (steps : List PendingStep) (q rest : List ℕ) → bytes_of steps ≡ q ++ rest → Ends steps q
ends [] q rest e = Between [] [] refl (nothing_before q rest e)
ends (step ∷ more) q rest e =
    elim (cases_lt (length q) (length (bytes_written step.turn.written))) [
      | inl less ↦ ends_first step more q rest step.turn.written refl e less
      | inr long ↦
          let f = fronts (bytes_written step.turn.written) (bytes_of more) q rest e long in
          ends_later step more q f.more f.longer (ends more f.more rest f.rest)
    ]

-- ---- the bytes of the records

texts_more : (records : List Rec) (bytes : List ℕ) (written : Option Rec) → AreTextsOf records bytes → AreTextsOf (with_record records written) (bytes ++ bytes_written written)
texts_more records bytes None are = subst (AreTextsOf records) (sym (append-nil bytes)) are
texts_more records bytes (Some rec) are = texts_end records rec V2 bytes (has_latest rec) are

pub texts_after : (part : NodePart) (front : List PendingStep) (bytes : List ℕ) → AreTextsOf part.records bytes → AreTextsOf (after_steps part front).records (bytes ++ bytes_of front)
texts_after part [] bytes are = subst (AreTextsOf part.records) (sym (append-nil bytes)) are
texts_after part (step ∷ front) bytes are =
    subst (AreTextsOf (after_steps (turn_done part step.turn).part front).records) (append_assoc bytes (bytes_written step.turn.written) (bytes_of front))
    (texts_after (turn_done part step.turn).part front (bytes ++ bytes_written step.turn.written) (texts_more part.records bytes step.turn.written are))

pub torn_after : (part : NodePart) (front : List PendingStep) → (after_steps part front).torn ≡ part.torn
torn_after part [] = refl
torn_after part (step ∷ front) = torn_after (turn_done part step.turn).part front

pub each_record : (records : List Rec) → ((rec : Rec) → Has rec records → IsRecord rec) → AllByRecursion IsRecord records
each_record [] all = tt
each_record (rec ∷ rest) all = (all rec (inl refl), each_record rest (λ other has. all other (inr has)))

-- a record has few bytes
few_in_action : (action : Action) → length (action_text_at V2 action) ≤ 32
unfolding number_text
few_in_action actions.Noop = omega arith
few_in_action (actions.Call task number object operation arg) = omega (arith, call_long V2 task number object operation arg)
few_in_action (actions.Interrupt source occurrence) = omega arith
few_in_action (actions.Tick now) = omega arith

few_bytes : (rec : Rec) → length (record_text rec) < 2 ^ 64
unfolding number_text
few_bytes (Started ballot) = omega arith
few_bytes (Promised position ballot) = omega arith
few_bytes (Voted position ballot action) = omega (arith, few_in_action action)
few_bytes (Learned position action) = omega (arith, few_in_action action)
few_bytes (PromisedRange range ballot) = omega arith

-- ---- a step that is cut

module _ {S : Type 0} (s : Setting S) (w : World) (me : ℕ) (part : NodePart) (here : part_at w.nodes me ≡ Some part) (kept : ℕ) where
  cut_runs : (input : NodeInput) (done : Done NodePart) (running : Option Running) → part.running ≡ running → cut_if kept part (effect_while s me part input running) ≡ Ok done
      → (known : Running) × (part.running ≡ Some known)
  cut_runs input done None is effect = absurd (cc)
  cut_runs input done (Some known) is effect = (known, is)

  cut_is : (input : NodeInput) (done : Done NodePart) → MayCome w.sent input → IsFor me input true → cut_effect s me part input kept ≡ Ok done
      → (number : ℕ) × (event_effect s w (Cut (step_for me number input) kept) ≡ Ok (node_done w me done))
  cut_is input done may is effect =
      let runs = cut_runs input done part.running refl effect in
      let chose = its_step s w me part here input runs.0 may is runs.1 in
      (chose.0, ap (chosen_cut s w kept) chose.1 ∙ ap (node_done_if w me) effect)

-- a step that writes a record is for the node
writes_for : {S : Type 0} (s : Setting S) (me : ℕ) (part : NodePart) (turn : Turn) (rec : Rec) (input : NodeInput) → turn.written ≡ Some rec → node_effect s me part input ≡ Ok (turn_done part turn) → IsFor me input true
writes_for s me part turn rec (nodes.Receive message) writes effect =
    elim (cases_Bool (is_node me message.to)) [
      | inl own ↦ own
      | inr foreign ↦ let none : turn.written ≡ None = (lost s me part turn message foreign effect).written in absurd (cc)
    ]
writes_for s me part turn rec _ writes effect = tt

torn_part : (kept : ℕ) (part : NodePart) (rec : Rec) → kept < length (record_text rec) → cut_part kept part (Some rec) ≡ record { records = part.records; torn = kept; running = None }
torn_part kept part rec less =
    ap (λ (b : Bool). cond b (record { records = part.records ++ rec ∷ []; torn = part.torn; running = None }) (record { records = part.records; torn = kept; running = None })) (lt-leb (length (record_text rec)) kept less)

module _ {S : Type 0} (s : Setting S) (ranged : (events : List Event) (w : World) → IsHistory s events w → IsRangedWorld s.config.nodes w) where
  records_here : (events : List Event) (w : World) (me : ℕ) (part : NodePart) → IsHistory s events w → part_at w.nodes me ≡ Some part → (rec : Rec) → Has rec part.records → IsRecord rec
  records_here events w me part history here = ((ranged events w history).parts part (part_has w.nodes me part here)).records

  -- where they end between two steps
  between : (events : List Event) (w : World) (me : ℕ) (part : NodePart) (front back : List PendingStep) (bytes left : List ℕ) → IsHistory s events w → part_at w.nodes me ≡ Some part → part.torn ≡ 0
      → AreTextsOf part.records bytes → AreSteps s w.sent me part (front ++ back) → left ≡ bytes_of front → Stopped s events w me (front ++ back) (bytes ++ left)
  between events w me part front back bytes left history here untorn texts are at =
      let m = made s ranged front back events w me part history here are in
      let reached = after_steps part front in
      record {
        reached = reached;
        leads = m.leads;
        torn = [];
        records = are_alone (bytes ++ left) reached.records (subst (λ (l : List ℕ). AreTextsOf reached.records (bytes ++ l)) (sym at) (texts_after part front bytes texts))
            (each_record reached.records (records_here (events ++ m.leads.more) m.leads.world me reached m.leads.history m.leads.here));
        length_is = torn_after part front ∙ untorn;
        noted = λ v has. subst (λ (l : List Action). Has v l) (sym (noted_append front back)) (has_left v (noted_in front) (noted_in back) (m.noted v has));
      }

  -- where they end within a record
  module _ (events : List Event) (w : World) (me : ℕ) (part : NodePart) (history : IsHistory s events w) (here : part_at w.nodes me ≡ Some part) where
    torn_step : (step : PendingStep) (rec : Rec) (kept : ℕ) (bytes : List ℕ) → AreTextsOf part.records bytes → MayCome w.sent step.input → node_effect s me part step.input ≡ Ok (turn_done part step.turn)
        → step.turn.written ≡ Some rec → kept < length (record_text rec) → Stopped s events w me [] (bytes ++ take kept (record_text rec))
    torn_step step rec kept bytes texts may effect writes less =
        let done : Done NodePart = goes_on_as (cut_part kept part (Some rec)) in
        let cut : cut_effect s me part step.input kept ≡ Ok done = ap (cut_if kept part) effect ∙ ap (λ (o : Option Rec). Ok (goes_on_as (cut_part kept part o))) writes in
        let event = cut_is s w me part here kept step.input done may (writes_for s me part step.turn rec step.input writes effect) cut in
        let one = one_made s ranged events w me part history here step.input step.turn may effect in
        let whole = records_here (events ++ one.leads.more) one.leads.world me (turn_done part step.turn).part one.leads.history one.leads.here in
        let right : IsRecord rec = whole rec (subst (λ (o : Option Rec). Has rec (with_record part.records o)) (sym writes) (has_right rec part.records (rec ∷ []) (inl refl))) in
        let reached = cut_part kept part (Some rec) in
        let is = torn_part kept part rec less in
        let found = are_alone bytes part.records texts (each_record part.records (records_here events w me part history here)) in
        record {
          reached = reached;
          leads = one_more s events w me part done (Cut (step_for me event.0 step.input) kept) history here
              (right_step w.sent me event.0 step.input (node_here s ranged events w me part history here) may, omega (arith, less, few_bytes rec)) event.1;
          torn = take kept (record_text rec);
          records = subst (λ (p : NodePart). AreRecordsOf (bytes ++ take kept (record_text rec)) p.records (take kept (record_text rec))) (sym is) (before_put bytes part.records rec kept found right less);
          length_is = ap (λ (p : NodePart). p.torn) is ∙ sym (taken_all kept (record_text rec) (omega (arith, less)));
          noted = λ v none. absurd none;
        }

  -- and after the steps before it
  stops_later : (events : List Event) (w : World) (me : ℕ) (middle : NodePart) (steps : List PendingStep) (bytes : List ℕ) (first : GoesOnTo s events w me middle) → AreAmong first.noted (noted_in steps) → Stopped s (events ++ first.more) first.world me [] bytes
      → Stopped s events w me steps bytes
  stops_later events w me middle steps bytes first among stopped = record {
    noted = joined_among first.noted stopped.leads.noted (noted_in steps) among (λ v has. absurd (stopped.noted v has));
    reached = stopped.reached;
    leads = leads_on s events w me middle stopped.reached first stopped.leads;
    torn = stopped.torn;
    records = stopped.records;
    length_is = stopped.length_is;
  }

  within : (events : List Event) (w : World) (me : ℕ) (part : NodePart) (front : List PendingStep) (step : PendingStep) (back : List PendingStep) (rec : Rec) (kept : ℕ) (bytes left : List ℕ) → IsHistory s events w → part_at w.nodes me ≡ Some part
      → AreTextsOf part.records bytes → AreSteps s w.sent me part (front ++ step ∷ back) → step.turn.written ≡ Some rec → kept < length (record_text rec) → left ≡ bytes_of front ++ take kept (record_text rec)
      → Stopped s events w me (front ++ step ∷ back) (bytes ++ left)
  within events w me part front step back rec kept bytes left history here texts are writes less at =
      let m = made s ranged front (step ∷ back) events w me part history here are in
      let stop = torn_step (events ++ m.leads.more) m.leads.world me (after_steps part front) m.leads.history m.leads.here step rec kept (bytes ++ bytes_of front) (texts_after part front bytes texts) m.pending.0 m.pending.1 writes less in
      let among : AreAmong m.leads.noted (noted_in (front ++ step ∷ back)) = λ v has. subst (λ (l : List Action). Has v l) (sym (noted_append front (step ∷ back))) (has_left v (noted_in front) (noted_in (step ∷ back)) (m.noted v has)) in
      subst (Stopped s events w me (front ++ step ∷ back)) (append_assoc bytes (bytes_of front) (take kept (record_text rec)) ∙ ap (λ (l : List ℕ). bytes ++ l) (sym at))
      (stops_later events w me (after_steps part front) (front ++ step ∷ back) ((bytes ++ bytes_of front) ++ take kept (record_text rec)) m.leads among stop)

  pub stopped : (events : List Event) (w : World) (me : ℕ) (part : NodePart) (steps : List PendingStep) (bytes left rest : List ℕ) → IsHistory s events w → part_at w.nodes me ≡ Some part → part.torn ≡ 0
      → AreTextsOf part.records bytes → AreSteps s w.sent me part steps → bytes_of steps ≡ left ++ rest → Stopped s events w me steps (bytes ++ left)
  stopped events w me part steps bytes left rest history here untorn texts are e = by_end (ends steps left rest e)
    where
      by_end : Ends steps left → Stopped s events w me steps (bytes ++ left)
      by_end (Between front back parts at) = subst (λ (l : List PendingStep). Stopped s events w me l (bytes ++ left)) (sym parts) (between events w me part front back bytes left history here untorn texts (subst (AreSteps s w.sent me part) parts are) at)
      by_end (Within front step back rec kept parts writes less at) = subst (λ (l : List PendingStep). Stopped s events w me l (bytes ++ left)) (sym parts) (within events w me part front step back rec kept bytes left history here texts (subst (AreSteps s w.sent me part) parts are) writes less at)
