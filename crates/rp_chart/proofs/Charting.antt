-- The chart of a cluster, and what a run reaches by what it says to a writer of which nothing is known.
use Rattle.std.proofs.Common.{◌≡◌, ◌∙◌, ℕ, zero, suc, ◌-◌, Some, None, Result, Ok, Err, OnOk, List, [], ◌∷◌, ◌++◌, drop, length, arith, sym, ap, subst, append_assoc, append-nil}
use Rattle.std.specs.Prelude.{slice_get}
use Rattle.rp_run.specs.rp_base.specs.declared.action.Action.{Action}
use Rattle.rp_run.specs.rp_base.specs.declared.fault.Fault.{Fault}
use Rattle.rp_run.specs.rp_base.specs.declared.reply.Answer.{Answer}
use Rattle.rp_run.specs.rp_codec.specs.Message.{Message}
use Rattle.rp_history.specs.Histories.{Happening, IsDrawable, IsSketchOf}
use Rattle.rp_history.specs.declared.chart.Chart.{Chart}
use Rattle.rp_run.specs.rp_model.specs.Effect.{Setting}
use Rattle.rp_run.specs.rp_model.specs.World.{World, part_at}
use Rattle.rp_run.specs.Output.{Play, Said}
use Rattle.rp_run.specs.Runs.{Follows, Says}
use Rattle.rp_run.specs.rp_output.specs.Stream.{Writes}
use Rattle.rp_run.specs.declared.settled.Settled.{Settled}
use Rattle.rp_run.specs.rp_output.proofs.Writing.{begins_nothing}
use Rattle.rp_world.specs.rp_actors.specs.Steps.{ClusterState, cluster_setting}
use Rattle.rp_run.specs.rp_world.proofs.Answering.{same_setting}
use Rattle.rp_chart.specs.ScriptCharts.{HasWays, IsCharted}

-- the chart of a cluster after a step, by the setting before it
pub charted_by : {S P : Type 0} (next : S → Action → S) (answers : S → Action → List Answer) (start : P → S) (old new : ClusterState P) (chart : Chart) (happened : List Happening) (answer : Result Unit Fault)
    → new.setup ≡ old.setup → OnOk answer (IsSketchOf (cluster_setting next answers start old) chart.stage chart.sketch happened new.world)
    → OnOk answer (IsCharted next answers start new chart happened)
charted_by next answers start old new chart happened (Ok done) same is =
    subst (λ (s : Setting _). IsSketchOf s chart.stage chart.sketch happened new.world) (sym (same_setting next answers start old new same)) is
charted_by next answers start old new chart happened (Err fault) same is = tt

-- what happened, under another name
pub charted_as : {S P : Type 0} (next : S → Action → S) (answers : S → Action → List Answer) (start : P → S) (cluster : ClusterState P) (chart : Chart) (one other : List Happening) (answer : Result Unit Fault)
    → one ≡ other → OnOk answer (IsCharted next answers start cluster chart one) → OnOk answer (IsCharted next answers start cluster chart other)
charted_as next answers start cluster chart one other answer same is =
    subst (λ (l : List Happening). OnOk answer (IsCharted next answers start cluster chart l)) same is

-- as many ways as messages
pub has_ways : {P : Type 0} (cluster : ClusterState P) (chart : Chart) (answer : Result Unit Fault) (count : ℕ) → OnOk answer (IsDrawable chart.sketch)
    → OnOk answer (length chart.sketch.ways.items ≡ count) → count ≡ length cluster.world.sent → OnOk answer (HasWays cluster chart)
has_ways cluster chart (Ok done) count drawable counted same = record { drawable = drawable; count = counted ∙ same }
has_ways cluster chart (Err fault) count drawable counted same = tt

-- ---- a chart so far, and what is left to happen

-- the chart is that of a part of the whole, and the rest of it begins at the play that the run follows
pub record Underway {S P : Type 0} (next : S → Action → S) (answers : S → Action → List Answer) (start : P → S) (cluster : ClusterState P) (settled : Settled) (chart : Chart)
    (whole : List Happening) (rest : Play → List Happening) : Type 0 where
  pub play : Play
  pub follows : Follows cluster.world settled play
  pub so_far : List Happening
  pub charted : IsCharted next answers start cluster chart so_far
  pub parts : whole ≡ so_far ++ rest play

module _ {S P : Type 0} (next : S → Action → S) (answers : S → Action → List Answer) (start : P → S) where
  -- one thing more
  pub goes_on : (cluster later : ClusterState P) (settled after : Settled) (chart chart_after : Chart) (whole : List Happening) (rest further : Play → List Happening)
      → (so_far : Underway next answers start cluster settled chart whole rest) → (here : List Happening) (now : Play) → rest so_far.play ≡ here ++ further now
      → Follows later.world after now → IsCharted next answers start later chart_after (so_far.so_far ++ here)
      → Underway next answers start later after chart_after whole further
  goes_on cluster later settled after chart chart_after whole rest further so_far here now is follows charted = record {
    play = now;
    follows = follows;
    so_far = so_far.so_far ++ here;
    charted = charted;
    parts = so_far.parts ∙ ap (λ (l : List Happening). so_far.so_far ++ l) is ∙ sym (append_assoc so_far.so_far here (further now));
  }

  -- the last thing
  pub ends_by : (cluster later : ClusterState P) (settled : Settled) (chart chart_after : Chart) (whole : List Happening) (rest : Play → List Happening)
      → (so_far : Underway next answers start cluster settled chart whole rest) → (here : List Happening) (answer : Result Unit Fault) → rest so_far.play ≡ here
      → OnOk answer (IsCharted next answers start later chart_after (so_far.so_far ++ here)) → OnOk answer (IsCharted next answers start later chart_after whole)
  ends_by cluster later settled chart chart_after whole rest so_far here answer is charted =
      charted_as next answers start later chart_after (so_far.so_far ++ here) whole answer
      (sym (so_far.parts ∙ ap (λ (l : List Happening). so_far.so_far ++ l) is)) charted

  -- nothing more
  pub ends : (cluster : ClusterState P) (settled : Settled) (chart : Chart) (whole : List Happening) (rest : Play → List Happening)
      → (so_far : Underway next answers start cluster settled chart whole rest) → rest so_far.play ≡ [] → IsCharted next answers start cluster chart whole
  ends cluster settled chart whole rest so_far is =
      subst (λ (l : List Happening). IsCharted next answers start cluster chart l)
      (sym (so_far.parts ∙ ap (λ (l : List Happening). so_far.so_far ++ l) is ∙ append-nil so_far.so_far)) so_far.charted

-- ---- the packets of messages

drop_from : {A : Type 0} (xs : List A) (k : ℕ) (x : A) → slice_get xs k ≡ Some x → drop k xs ≡ x ∷ drop (suc k) xs
drop_from [] k x there = absurd (cc)
drop_from (y ∷ rest) zero x there = ap (λ z. z ∷ rest) (cc)
drop_from (y ∷ rest) (suc k) x there = drop_from rest k x there

-- one message more
pub one_more : (sent : List Message) (number : ℕ) (m : Message) (so_far whole : List Message) → part_at sent number ≡ Some m
    → so_far ++ drop (number - 1) sent ≡ whole → (so_far ++ m ∷ []) ++ drop number sent ≡ whole
one_more sent zero m so_far whole there is = absurd (cc)
one_more sent (suc k) m so_far whole there is =
    let place : suc k - 1 ≡ k = omega arith in
    append_assoc so_far (m ∷ []) (drop (suc k) sent)
    ∙ sym (ap (λ (l : List Message). so_far ++ l) (drop_from sent k m there))
    ∙ sym (ap (λ (n : ℕ). so_far ++ drop n sent) place) ∙ is

-- ---- what a run reaches

pub writes_none : (text : List ℕ) (answer : Result Unit Fault) → Writes None None text answer
writes_none text (Ok done) = tt
writes_none text (Err fault) = begins_nothing None text

pub follows_of : (world : World) (settled : Settled) (said : Said) (answer : Result Unit Fault) → Says world settled None None said answer
    → OnOk answer (Follows world settled said.play)
follows_of world settled said (Ok done) says = says.0
follows_of world settled said (Err fault) says = tt
