-- The state of a run so far, and what is left of it.
use Rattle.std.proofs.Common.{inl, inr, ◌≡◌, ℕ, suc, ◌+◌, ◌-◌, ◌<◌, ◌≤◌, Bool, true, false, cond, ◌&&◌, ◌||◌, Option, Some, None, Result, Ok, Err, List, [], ◌∷◌, ◌++◌, drop, length, arith, refl, sym, ap, subst, ◌∙◌, append_assoc, append-nil, IsErr}
use Rattle.std.specs.Prelude.{◌⊎◌, nat_eq, nat_le, slice_index_or}
use Rattle.std.specs.Io.KnownBytes.{Appends}
use Rattle.std.proofs.KnownBytes.{Appends-nil, Appends-trans}
use Rattle.std.proofs.lemmas.List.{drop_more, drop_all}
use Rattle.std.proofs.lemmas.List.Concat.{flat_map-append}
use Rattle.std.proofs.lemmas.List.Folds.{list_any-append}
use Rattle.std.proofs.lemmas.Bool.Decides.{nat_tests}
use Rattle.rp_base.specs.declared.fault.Fault.{Fault}
use Rattle.rp_base.specs.declared.fault.Fault.TheVariants.{NoSuchMessage}
use Rattle.rp_model.specs.rp_codec.specs.Message.{Message}
use Rattle.rp_model.specs.declared.effect.Effect.{Effect}
use Rattle.rp_model.specs.declared.event.Event.{Event}
use Rattle.rp_model.specs.declared.event.Event.TheVariants.{Submit, Again, Node as NodeStep, Cut, Stop, Restart}
use Rattle.rp_model.specs.declared.event.Step.TheVariants.{Deliver}
use Rattle.rp_model.specs.Events.{event_of}
use Rattle.rp_model.specs.Growing.{Grows}
use Rattle.rp_model.specs.World.{World, Transition, event_effect}
use Rattle.rp_model.specs.Answers.{Describes, IsDone, IsRefused}
use Rattle.rp_run.specs.Output.{RunSetting, Play, Said, opening_play, text_of_said, nothing_said, note_said, and_then, is_among, from_to, least_unsettled, settled_by, called_by, lost, printed_items, transition_of, effect_said, event_said, drain_from, drained, command_said, script_said, nodes_items}
use Rattle.rp_run.specs.Items.{Item, Note, Refused, DrainLimit, item_text, items_text, note_line, notes_text}
use Rattle.rp_output.specs.Printed.{refused_line_of}
use Rattle.rp_run.specs.Runs.{Follows, Says, described}
use Rattle.rp_run.specs.Settled.{is_settled}
use Rattle.rp_output.specs.FaultMessage.{with_line_feed}
use Rattle.rp_output.specs.Stream.{Begins, Writes}
use Rattle.rp_deck.specs.declared.deck.Command.TheVariants.{Show}
use Rattle.rp_deck.specs.declared.deck.Line.{Line}
use Rattle.rp_run.specs.declared.settled.Settled.{Settled}
use Rattle.rp_output.proofs.Writing.{begins_nothing, begins_longer, begins_after}

-- what is said, by what is written
pub says_by : (world : World) (settled : Settled) (old new : Option (List ℕ)) (said : Said) (answer : Result Unit Fault)
    → Follows world settled said.play → Writes old new (text_of_said said) answer → Says world settled old new said answer
says_by world settled old new said (Ok done) follows written = (follows, written)
says_by world settled old new said (Err fault) follows written = written

pub says_failed : (world : World) (settled : Settled) (old new : Option (List ℕ)) (said : Said) (answer : Result Unit Fault)
    → IsErr answer → Begins old new (text_of_said said) → Says world settled old new said answer
says_failed world settled old new said (Ok done) failed begun = absurd (cc)
says_failed world settled old new said (Err fault) failed begun = begun

-- a note that was written
pub note_written : (play : Play) (old new : Option (List ℕ)) (note : Note) (answer : Result Unit Fault)
    → Writes old new (with_line_feed (note_line note)) answer → Writes old new (text_of_said (note_said play note)) answer
note_written play old new note answer printed =
    subst (λ (t : List ℕ). Writes old new t answer) (sym (append-nil (notes_text (note ∷ [])) ∙ append-nil (with_line_feed (note_line note)))) printed

-- ---- so far, and what is left

-- the run has reached a part of the whole, and the rest of it begins at the play that the run follows
pub record Underway (world : World) (settled : Settled) (old new : Option (List ℕ)) (whole : Said) (rest : Play → Said) : Type 0 where
  pub said : Said
  pub follows : Follows world settled said.play
  pub written : Appends old new (text_of_said said)
  pub parts : whole ≡ and_then said rest

-- nothing is said yet
pub sets_out : (world : World) (settled : Settled) (old : Option (List ℕ)) (play : Play) (rest : Play → Said) → Follows world settled play
    → Underway world settled old old (rest play) rest
sets_out world settled old play rest follows = record {
  said = nothing_said play;
  follows = follows;
  written = Appends-nil old;
  parts = refl;
}

module _ (world later : World) (settled after : Settled) (old middle new : Option (List ℕ)) (whole : Said) (rest : Play → Said)
    (so_far : Underway world settled old middle whole rest) where
  following : (here : Said) (further : Play → Said) → rest so_far.said.play ≡ and_then here further
      → whole ≡ record { items = (so_far.said.items ++ here.items) ++ (further here.play).items; play = (further here.play).play }
  following here further next =
      so_far.parts
      ∙ ap (λ (s : Said). record { items = so_far.said.items ++ s.items; play = s.play }) next
      ∙ ap (λ (l : List Item). record { items = l; play = (further here.play).play }) (sym (append_assoc so_far.said.items here.items (further here.play).items))

  -- one thing more is written after what was
  written_too : (here : Said) → Appends middle new (text_of_said here) → Appends old new (items_text (so_far.said.items ++ here.items))
  written_too here written =
      subst (λ (t : List ℕ). Appends old new t) (sym (flat_map-append item_text so_far.said.items here.items))
      (Appends-trans old middle new (text_of_said so_far.said) (text_of_said here) so_far.written written)

  begun_too : (here : Said) → Begins middle new (text_of_said here) → Begins old new (items_text (so_far.said.items ++ here.items))
  begun_too here begun =
      subst (λ (t : List ℕ). Begins old new t) (sym (flat_map-append item_text so_far.said.items here.items))
      (begins_after old middle new (text_of_said so_far.said) (text_of_said here) so_far.written begun)

  -- one thing more
  pub goes_on : (here : Said) (further : Play → Said) → rest so_far.said.play ≡ and_then here further → Follows later after here.play → Appends middle new (text_of_said here)
      → Underway later after old new whole further
  goes_on here further next follows written = record {
    said = record { items = so_far.said.items ++ here.items; play = here.play };
    follows = follows;
    written = written_too here written;
    parts = following here further next;
  }

  -- one thing more, which failed
  pub fails : (here : Said) (further : Play → Said) → rest so_far.said.play ≡ and_then here further → Begins middle new (text_of_said here) → Begins old new (text_of_said whole)
  fails here further next begun =
      subst (λ (s : Said). Begins old new (text_of_said s)) (sym (following here further next))
      (subst (λ (t : List ℕ). Begins old new t) (sym (flat_map-append item_text (so_far.said.items ++ here.items) (further here.play).items))
      (begins_longer old new (items_text (so_far.said.items ++ here.items)) (text_of_said (further here.play)) (begun_too here begun)))

  -- the last thing
  pub ends_by : (here : Said) (answer : Result Unit Fault) → rest so_far.said.play ≡ here → Says later after middle new here answer → Says later after old new whole answer
  ends_by here answer last resulted =
      let all : whole ≡ record { items = so_far.said.items ++ here.items; play = here.play } =
      so_far.parts ∙ ap (λ (s : Said). record { items = so_far.said.items ++ s.items; play = s.play }) last in
      subst (λ (s : Said). Says later after old new s answer) (sym all) (at answer resulted)
    where
      at : (answer : Result Unit Fault) → Says later after middle new here answer
          → Says later after old new (record { items = so_far.said.items ++ here.items; play = here.play }) answer
      at (Ok done) resulted = (resulted.0, written_too here resulted.1)
      at (Err fault) resulted = begun_too here resulted

-- nothing more
pub ends : (world : World) (settled : Settled) (old new : Option (List ℕ)) (whole : Said) (rest : Play → Said) (so_far : Underway world settled old new whole rest) (done : Unit)
    → rest so_far.said.play ≡ nothing_said so_far.said.play → Says world settled old new whole (Ok done)
ends world settled old new whole rest so_far done last =
    ends_by world world settled settled old new new whole rest so_far (nothing_said so_far.said.play) (Ok done) last (so_far.follows, Appends-nil new)

-- ---- a step

drop_front : {A : Type 0} (xs ys : List A) → drop (length xs) (xs ++ ys) ≡ ys
drop_front [] ys = refl
drop_front (x ∷ xs) ys = drop_front xs ys

-- what an effect describes is the transition that happened
described_is : (before after : World) (transition : Transition) (effect : Effect) → after ≡ transition.world → after.sent ≡ before.sent ++ transition.sends → Describes (length before.sent) transition effect
    → described after effect ≡ transition
described_is before after transition effect is grown describes =
    let place : effect.first - 1 ≡ length before.sent = omega (arith, describes.first) in
    let packets : drop (effect.first - 1) after.sent ≡ transition.sends =
    ap (λ (i : ℕ). drop i after.sent) place ∙ ap (λ (l : List Message). drop (length before.sent) l) grown ∙ drop_front before.sent transition.sends in
    rw (packets, describes.dropped, describes.taken, describes.opened, is) refl

call_prints_nothing : (event : Event) (more : List Item) → items_text (called_by event ++ more) ≡ items_text more
call_prints_nothing (Submit task node object operation arg) more = refl
call_prints_nothing (Again task node) more = refl
call_prints_nothing (NodeStep step) more = refl
call_prints_nothing (Cut step kept) more = refl
call_prints_nothing (Stop node) more = refl
call_prints_nothing (Restart node) more = refl

module _ {S : Type 0} (s : RunSetting S) (line : ℕ) (play : Play) (event : Event) (world : World) (settled : Settled) (follows : Follows world settled play) where
  event_is : event_said s line play event ≡ effect_said s line play event (transition_of s play.world event)
  unfolding event_said
  event_is = refl

  at_play : event_said s line play event ≡ effect_said s line play event (event_effect s.setting world (event_of event))
  at_play = event_is ∙ ap (λ (w : World). effect_said s line play event (event_effect s.setting w (event_of event))) (sym follows.world_is)

  -- an event that happened
  pub happened : (later : World) (after : Settled) (effect : Effect) (old new : Option (List ℕ)) (answer : Result Unit Fault)
      → (done : IsDone s.setting world (event_of event) later effect) → Grows world done.transition
      → ((m : ℕ) → is_settled after m ≡ (is_among (settled_by event) m || is_settled settled m))
      → Writes old new (items_text (printed_items s.traced s.names effect.first event (described later effect))) answer
      → Says later after old new (event_said s line play event) answer
  happened later after effect old new answer done grows settles printed =
      let transition = done.transition in
      let said : Said = effect_said s line play event (Ok transition) in
      let is : event_said s line play event ≡ said = at_play ∙ ap (λ (r : Result Transition Fault). effect_said s line play event r) done.resulted in
      let grown : later.sent ≡ world.sent ++ transition.sends = ap (λ (w : World). w.sent) done.world ∙ grows.sent in
      let text : items_text (printed_items s.traced s.names effect.first event (described later effect)) ≡ text_of_said said =
      ap (λ (t : Transition). items_text (printed_items s.traced s.names effect.first event t)) (described_is world later transition effect done.world grown done.describes)
      ∙ ap (λ (n : ℕ). items_text (printed_items s.traced s.names n event transition)) (done.describes.first ∙ ap (λ (w : World). length w.sent + 1) follows.world_is)
      ∙ sym (call_prints_nothing event (printed_items s.traced s.names (length play.world.sent + 1) event transition)) in
      subst (λ (x : Said). Says later after old new x answer) (sym is)
      (says_by later after old new said answer
      (record {
        world_is = done.world;
        settled_are = λ m. settles m
            ∙ ap (λ (b : Bool). is_among (settled_by event) m || b) (follows.settled_are m)
            ∙ sym (list_any-append (nat_eq m) (settled_by event) play.settled);
      })
      (subst (λ (l : List ℕ). Writes old new l answer) text printed))

  -- an event that was refused
  pub was_refused : (left : World) (fault : Fault) (old new : Option (List ℕ)) (answer : Result Unit Fault)
      → IsRefused s.setting world (event_of event) left fault → Writes old new (with_line_feed (refused_line_of line fault)) answer
      → Says left settled old new (event_said s line play event) answer
  was_refused left fault old new answer refused printed =
      let said : Said = note_said play (Refused line fault) in
      let is : event_said s line play event ≡ said = at_play ∙ ap (λ (r : Result Transition Fault). effect_said s line play event r) refused.refusal in
      subst (λ (x : Said). Says left settled old new x answer) (sym is)
      (says_by left settled old new said answer (record { world_is = refused.unchanged ∙ follows.world_is; settled_are = follows.settled_are })
      (note_written play old new (Refused line fault) answer printed))

-- ---- messages that are lost

module _ (line first last : ℕ) (play : Play) (world : World) (settled : Settled) (follows : Follows world settled play) where
  sent_is : length world.sent ≡ length play.world.sent
  sent_is = ap (λ (w : World). length w.sent) follows.world_is

  none_lost : (one other : Bool) (there : Said) → one ≡ nat_le first (length play.world.sent) → other ≡ nat_le last (length play.world.sent)
      → (length play.world.sent < first) ⊎ (length play.world.sent < last) → cond (one && other) there (note_said play (Refused line NoSuchMessage)) ≡ note_said play (Refused line NoSuchMessage)
  none_lost true true there first_is last_is (inl above) = absurd (grind (arith, nat_tests, first_is, above))
  none_lost true true there first_is last_is (inr above) = absurd (grind (arith, nat_tests, last_is, above))
  none_lost true false there first_is last_is above = refl
  none_lost false other there first_is last_is above = refl

  pub was_not_lost : (old new : Option (List ℕ)) (answer : Result Unit Fault) → (length world.sent < first) ⊎ (length world.sent < last)
      → Writes old new (with_line_feed (refused_line_of line NoSuchMessage)) answer → Says world settled old new (lost line play first last) answer
  was_not_lost old new answer above printed =
      let at_play : (length play.world.sent < first) ⊎ (length play.world.sent < last) = subst (λ (n : ℕ). (n < first) ⊎ (n < last)) sent_is above in
      let said : Said = note_said play (Refused line NoSuchMessage) in
      let there : Said = record { items = []; play = record { world = play.world; settled = from_to first last ++ play.settled } } in
      subst (λ (x : Said). Says world settled old new x answer) (sym (none_lost (nat_le first (length play.world.sent)) (nat_le last (length play.world.sent)) there refl refl at_play))
      (says_by world settled old new said answer follows (note_written play old new (Refused line NoSuchMessage) answer printed))

  all_lost : (one other : Bool) (there said : Said) → one ≡ true → other ≡ true → cond (one && other) there said ≡ there
  all_lost true true there said one_is other_is = refl
  all_lost true false there said one_is other_is = absurd (cc)
  all_lost false other there said one_is other_is = absurd (cc)

  -- what counts as settled then
  abbrev there : Said
  there = record { items = []; play = record { world = play.world; settled = from_to first last ++ play.settled } }

  lost_is : first ≤ length world.sent → last ≤ length world.sent → lost line play first last ≡ there
  lost_is first_sent last_sent =
      all_lost (nat_le first (length play.world.sent)) (nat_le last (length play.world.sent)) there (note_said play (Refused line NoSuchMessage))
      (grind (arith, nat_tests, sent_is, first_sent)) (grind (arith, nat_tests, sent_is, last_sent))

  pub some_lost : (after : Settled) (old : Option (List ℕ)) (answer : Result Unit Fault) → IsErr answer → Says world after old old (lost line play first last) answer
  some_lost after old answer failed = says_failed world after old old (lost line play first last) answer failed (begins_nothing old (text_of_said (lost line play first last)))

  pub was_lost : (after : Settled) (old : Option (List ℕ)) → first ≤ length world.sent → last ≤ length world.sent
      → ((m : ℕ) → is_settled after m ≡ (is_among (from_to first last) m || is_settled settled m))
      → Follows world after (lost line play first last).play × Appends old old (text_of_said (lost line play first last))
  was_lost after old first_sent last_sent settles =
      subst (λ (x : Said). Follows world after x.play × Appends old old (text_of_said x)) (sym (lost_is first_sent last_sent)) (
        record {
          world_is = follows.world_is;
          settled_are = λ m. settles m ∙ ap (λ (b : Bool). is_among (from_to first last) m || b) (follows.settled_are m)
              ∙ sym (list_any-append (nat_eq m) (from_to first last) play.settled);
        },
        Appends-nil old,
      )

-- ---- the definitions, one step on

pub script_ends : {S : Type 0} (s : RunSetting S) (most : ℕ) (play : Play) → script_said s most play [] ≡ nothing_said play
unfolding script_said
script_ends s most play = refl

pub script_more : {S : Type 0} (s : RunSetting S) (most : ℕ) (play : Play) (line : Line) (rest : List Line)
    → script_said s most play (line ∷ rest) ≡ and_then (command_said s most line.number play line.command) (λ after. script_said s most after rest)
unfolding script_said
script_more s most play line rest = refl

-- ---- a line of a script

-- no line is left
pub no_line : {S : Type 0} (s : RunSetting S) (most : ℕ) (play : Play) (lines : List Line) (i : ℕ) → length lines ≤ i → script_said s most play (drop i lines) ≡ nothing_said play
no_line s most play lines i past = ap (λ (rest : List Line). script_said s most play rest) (drop_all i lines past) ∙ script_ends s most play

-- this line is the next one
next_line : {S : Type 0} (s : RunSetting S) (most : ℕ) (play : Play) (lines : List Line) (i : ℕ) (line : Line) → i < length lines → line ≡ slice_index_or lines i line
    → script_said s most play (drop i lines) ≡ and_then (command_said s most line.number play line.command) (λ now. script_said s most now (drop (i + 1) lines))
next_line s most play lines i line below is =
    let here : drop i lines ≡ line ∷ drop (i + 1) lines = drop_more lines i line below ∙ ap (λ (x : Line). x ∷ drop (i + 1) lines) (sym is) in
    ap (λ (rest : List Line). script_said s most play rest) here ∙ script_more s most play line (drop (i + 1) lines)

module _ {S : Type 0} (s : RunSetting S) (most : ℕ) (lines : List Line) (i : ℕ) (line : Line) (below : i < length lines) (is : line ≡ slice_index_or lines i line)
    {world : World} {settled : Settled} {old middle new : Option (List ℕ)} (so_far : Underway world settled old middle (script_said s most (opening_play s) lines) (λ now. script_said s most now (drop i lines))) where
  -- it is done
  pub line_goes_on : {later : World} {after : Settled} → Follows later after (command_said s most line.number so_far.said.play line.command).play → Appends middle new (text_of_said (command_said s most line.number so_far.said.play line.command))
      → Underway later after old new (script_said s most (opening_play s) lines) (λ now. script_said s most now (drop (i + 1) lines))
  line_goes_on {later} {after} follows written =
      goes_on world later settled after old middle new (script_said s most (opening_play s) lines) (λ now. script_said s most now (drop i lines)) so_far
      (command_said s most line.number so_far.said.play line.command) (λ now. script_said s most now (drop (i + 1) lines)) (next_line s most so_far.said.play lines i line below is) follows written

  -- it failed
  pub line_fails : Begins middle new (text_of_said (command_said s most line.number so_far.said.play line.command)) → Begins old new (text_of_said (script_said s most (opening_play s) lines))
  line_fails begun =
      fails world world settled settled old middle new (script_said s most (opening_play s) lines) (λ now. script_said s most now (drop i lines)) so_far
      (command_said s most line.number so_far.said.play line.command) (λ now. script_said s most now (drop (i + 1) lines)) (next_line s most so_far.said.play lines i line below is) begun

-- ---- a drain

module _ {S : Type 0} (s : RunSetting S) (line : ℕ) (play : Play) where
  drain_ends : (most : ℕ) → drain_from s line play None most ≡ nothing_said play
  unfolding drain_from
  drain_ends most = refl

  drain_stops : (message : ℕ) → drain_from s line play (Some message) 0 ≡ note_said play (DrainLimit line)
  unfolding drain_from
  drain_stops message = refl

  drain_goes : (message most : ℕ) → drain_from s line play (Some message) (suc most)
      ≡ and_then (event_said s line play (NodeStep (Deliver message))) (λ after. drain_from s line after (least_unsettled after) most)
  unfolding drain_from
  drain_goes message most = refl

  -- none is left
  pub drained_none : (most : ℕ) → least_unsettled play ≡ None → drained s line most play ≡ nothing_said play
  drained_none most none = ap (λ (o : Option ℕ). drain_from s line play o most) none ∙ drain_ends most

  -- one is left, and no more may be delivered
  pub drained_full : (most done message : ℕ) → most ≤ done → least_unsettled play ≡ Some message
      → drained s line (most - done) play ≡ note_said play (DrainLimit line)
  drained_full most done message full left =
      let skipped : most - done ≡ 0 = omega arith in
      ap (λ (o : Option ℕ). drain_from s line play o (most - done)) left
      ∙ ap (λ (n : ℕ). drain_from s line play (Some message) n) skipped
      ∙ drain_stops message

  -- one is left, and is delivered
  pub drained_more : (most done message : ℕ) → done < most → least_unsettled play ≡ Some message
      → drained s line (most - done) play ≡ and_then (event_said s line play (NodeStep (Deliver message))) (λ after. drained s line (most - (done + 1)) after)
  drained_more most done message below left =
      let one : most - done ≡ suc (most - (done + 1)) = omega arith in
      ap (λ (o : Option ℕ). drain_from s line play o (most - done)) left
      ∙ ap (λ (n : ℕ). drain_from s line play (Some message) n) one
      ∙ drain_goes message (most - (done + 1))

-- ---- nodes that are shown

pub says_shown : {S : Type 0} (s : RunSetting S) (most line : ℕ) (play : Play) (world : World) (settled : Settled) (old new : Option (List ℕ)) (nodes : ℕ) (answer : Result Unit Fault)
    → s.setting.config.nodes ≡ nodes → Follows world settled play → Writes old new (items_text (nodes_items s world nodes)) answer
    → Says world settled old new (command_said s most line play Show) answer
says_shown s most line play world settled old new nodes answer same follows printed =
    says_by world settled old new (command_said s most line play Show) answer follows
    (subst (λ (l : List Item). Writes old new (items_text l) answer)
    (ap (nodes_items s world) (sym same) ∙ ap (λ (w : World). nodes_items s w s.setting.config.nodes) follows.world_is) printed)
