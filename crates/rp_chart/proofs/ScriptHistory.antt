-- What happens in a line, by what the run finds in it.
use Rattle.std.proofs.Common.{inl, inr, ◌≡◌, ◌∙◌, ℕ, suc, ◌+◌, ◌-◌, ◌<◌, ◌≤◌, Bool, true, false, cond, ◌&&◌, not, Some, None, Option, Result, Ok, Err, List, [], ◌∷◌, ◌++◌, drop, length, map, arith, refl, sym, ap, subst, append-nil}
use Rattle.std.specs.Prelude.{◌⊎◌, ◌||◌, nat_eq, nat_le, slice_index_or}
use Rattle.std.proofs.lemmas.List.Folds.{list_any-append}
use Rattle.std.proofs.lemmas.Bool.Decides.{nat_tests}
use Rattle.std.proofs.lemmas.List.{drop_more, drop_all, map-append}
use Rattle.rp_run.specs.rp_base.specs.declared.fault.Fault.{Fault}
use Rattle.rp_run.specs.rp_base.specs.declared.fault.Fault.TheVariants.{NoSuchMessage}
use Rattle.rp_run.specs.rp_deck.specs.declared.deck.Line.{Line}
use Rattle.rp_history.specs.Histories.{Happening}
use Rattle.rp_run.specs.rp_model.specs.Events.{event_of}
use Rattle.rp_run.specs.rp_model.specs.World.{World, Transition, event_effect}
use Rattle.rp_run.specs.rp_model.specs.declared.event.Event.{Event}
use Rattle.rp_run.specs.rp_model.specs.declared.event.Event.TheVariants.{Node as NodeStep}
use Rattle.rp_run.specs.rp_model.specs.declared.event.Step.TheVariants.{Deliver}
use Rattle.rp_run.specs.Items.{Refused}
use Rattle.rp_run.specs.Output.{Play, Said, command_said, transition_of, event_said, from_to, is_among, least_unsettled, lost, note_said}
use Rattle.rp_run.proofs.Among.{among_from_to}
use Rattle.rp_run.specs.Runs.{Follows}
use Rattle.rp_run.specs.Settled.{is_settled}
use Rattle.rp_run.specs.declared.settled.Settled.{Settled}
use Rattle.rp_chart.specs.ScriptCharts.{IsSettledAlike}
use Rattle.rp_chart.specs.ScriptHistory.{DrawnRun, happening_of, event_happens, refused, message_lost, lost_nothing, none_lost, unsettled_in, losses, lose_happens, drain_ended, happens_from, drain_happens, command_happens, lines_happen}
use Rattle.rp_chart.proofs.Losses.{IsFilled, begins_at, none_from, one_passes, skipped, some_pass}

-- ---- an event

module _ {S : Type 0} (d : DrawnRun S) (line : ℕ) (play : Play) (event : Event) (world : World) (settled : Settled) (follows : Follows world settled play) where
  event_is : event_happens d line play event ≡ happening_of d line play.world event (transition_of d.run play.world event)
  unfolding event_happens
  event_is = refl

  at_play : event_happens d line play event ≡ happening_of d line world event (event_effect d.run.setting world (event_of event))
  at_play = event_is ∙ ap (λ (w : World). happening_of d line w event (event_effect d.run.setting w (event_of event))) (sym follows.world_is)

  pub event_happened : (transition : Transition) → event_effect d.run.setting world (event_of event) ≡ Ok transition
      → event_happens d line play event ≡ happening_of d line world event (Ok transition)
  event_happened transition is = at_play ∙ ap (λ (r : Result Transition Fault). happening_of d line world event r) is

  pub event_refused : (fault : Fault) → event_effect d.run.setting world (event_of event) ≡ Err fault → event_happens d line play event ≡ refused d line fault
  event_refused fault is = at_play ∙ ap (λ (r : Result Transition Fault). happening_of d line world event r) is

-- ---- messages that are lost

module _ {S : Type 0} (d : DrawnRun S) (line first last : ℕ) (play : Play) (world : World) (settled : Settled) (follows : Follows world settled play) where
  sent_is : length world.sent ≡ length play.world.sent
  sent_is = ap (λ (w : World). length w.sent) follows.world_is

  -- all of them were sent
  all_sent : {A : Type 0} (one other : Bool) (there here : A) → one ≡ nat_le first (length play.world.sent) → other ≡ nat_le last (length play.world.sent)
      → first ≤ length play.world.sent → last ≤ length play.world.sent → cond (one && other) there here ≡ there
  all_sent true true there here first_is last_is from to = refl
  all_sent true false there here first_is last_is from to = absurd (grind (arith, nat_tests, last_is, to))
  all_sent false other there here first_is last_is from to = absurd (grind (arith, nat_tests, first_is, from))

  pub are_lost : first ≤ length world.sent → last ≤ length world.sent → lose_happens d line play first last ≡ losses d line play first last
  are_lost from to =
      let low : first ≤ length play.world.sent = omega (arith, sent_is) in
      let high : last ≤ length play.world.sent = omega (arith, sent_is) in
      all_sent (nat_le first (length play.world.sent)) (nat_le last (length play.world.sent)) (losses d line play first last) (refused d line NoSuchMessage ∷ []) refl refl low high

  -- one was not
  one_unsent : {A : Type 0} (one other : Bool) (there here : A) → one ≡ nat_le first (length play.world.sent) → other ≡ nat_le last (length play.world.sent)
      → (length play.world.sent < first) ⊎ (length play.world.sent < last) → cond (one && other) there here ≡ here
  one_unsent true true there here first_is last_is (inl above) = absurd (grind (arith, nat_tests, first_is, above))
  one_unsent true true there here first_is last_is (inr above) = absurd (grind (arith, nat_tests, last_is, above))
  one_unsent true false there here first_is last_is above = refl
  one_unsent false other there here first_is last_is above = refl

  pub are_not_lost : (length world.sent < first) ⊎ (length world.sent < last) → lose_happens d line play first last ≡ refused d line NoSuchMessage ∷ []
  are_not_lost above =
      let at_play : (length play.world.sent < first) ⊎ (length play.world.sent < last) = subst (λ (n : ℕ). (n < first) ⊎ (n < last)) sent_is above in
      one_unsent (nat_le first (length play.world.sent)) (nat_le last (length play.world.sent)) (losses d line play first last) (refused d line NoSuchMessage ∷ []) refl refl at_play

  -- the play that the run then follows
  pub lost_reached : (middle after : Settled) → IsSettledAlike settled middle
      → ((m : ℕ) → is_settled after m ≡ (is_among (from_to first last) m || is_settled middle m))
      → first ≤ length world.sent → last ≤ length world.sent → Follows world after (lost line play first last).play
  lost_reached middle after alike adds from to =
      let low : first ≤ length play.world.sent = omega (arith, sent_is) in
      let high : last ≤ length play.world.sent = omega (arith, sent_is) in
      let there : Said = record { items = []; play = record { world = play.world; settled = from_to first last ++ play.settled } } in
      let is = all_sent (nat_le first (length play.world.sent)) (nat_le last (length play.world.sent)) there (note_said play (Refused line NoSuchMessage)) refl refl low high in
      subst (λ (said : Said). Follows world after said.play) (sym is)
      (record {
        world_is = follows.world_is;
        settled_are = λ m. adds m ∙ ap (λ (b : Bool). is_among (from_to first last) m || b) (alike m ∙ follows.settled_are m)
            ∙ sym (list_any-append (nat_eq m) (from_to first last) play.settled);
      })

  -- where all of the range are settled already
  pub kept_reached : (after : Settled) (least : ℕ) → IsSettledAlike settled after → 1 ≤ first → last < least
      → ((m : ℕ) → first ≤ m → m < least → is_settled settled m ≡ true)
      → first ≤ length world.sent → last ≤ length world.sent → Follows world after (lost line play first last).play
  kept_reached after least alike one past all from to =
      lost_reached settled after (λ m. refl)
      (λ m. alike m ∙ grind (arith, nat_tests, among_from_to first last m one, all m, past)) from to

  -- where the line is refused
  pub kept_refused : (length world.sent < first) ⊎ (length world.sent < last) → Follows world settled (lost line play first last).play
  kept_refused above =
      let at_play : (length play.world.sent < first) ⊎ (length play.world.sent < last) = subst (λ (n : ℕ). (n < first) ⊎ (n < last)) sent_is above in
      let there : Said = record { items = []; play = record { world = play.world; settled = from_to first last ++ play.settled } } in
      let is = one_unsent (nat_le first (length play.world.sent)) (nat_le last (length play.world.sent)) there (note_said play (Refused line NoSuchMessage)) refl refl at_play in
      subst (λ (said : Said). Follows world settled said.play) (sym is) follows

  -- the test of a number, by what the run has settled
  pub fails : (m : ℕ) → is_settled settled m ≡ true → not (is_among play.settled m) ≡ false
  fails m is = ap not (sym (follows.settled_are m) ∙ is)

  pub passes : (m : ℕ) → is_settled settled m ≡ false → not (is_among play.settled m) ≡ true
  passes m is = ap not (sym (follows.settled_are m) ∙ is)

  -- no message of the range is left
  pub nothing_lost : (least : ℕ) → first ≤ least → last < least → ((m : ℕ) → first ≤ m → m < least → is_settled settled m ≡ true)
      → losses d line play first last ≡ lost_nothing d line ∷ []
  nothing_lost least from past all =
      let none = begins_at (λ m. not (is_among play.settled m)) first least last from (λ m low high. fails m (all m low high))
      ∙ none_from (λ m. not (is_among play.settled m)) least last past in
      ap (λ (l : List ℕ). map (message_lost d play.world) l ++ none_lost d line l) none

  filled : (l : List ℕ) → IsFilled l → none_lost d line l ≡ []
  filled [] is = absurd is
  filled (number ∷ rest) is = refl

  -- the least one that is left, and those after it
  pub some_lost : (least : ℕ) → 1 ≤ least → first ≤ least → least ≤ last → ((m : ℕ) → first ≤ m → m < least → is_settled settled m ≡ true) → is_settled settled least ≡ false
      → losses d line play first last ≡ map (message_lost d play.world) (unsettled_in play least last)
  some_lost least one from within all left =
      let same = begins_at (λ m. not (is_among play.settled m)) first least last from (λ m low high. fails m (all m low high)) in
      let some = some_pass (λ m. not (is_among play.settled m)) least last one within (passes least left) in
      ap (λ (l : List ℕ). map (message_lost d play.world) l ++ none_lost d line l) same
      ∙ ap (λ (l : List Happening). map (message_lost d play.world) (unsettled_in play least last) ++ l) (filled (unsettled_in play least last) some)
      ∙ append-nil (map (message_lost d play.world) (unsettled_in play least last))

-- ---- the messages that are lost one by one

module _ {S : Type 0} (d : DrawnRun S) (first : ℕ) (play : Play) (world : World) (settled : Settled) (follows : Follows world settled play) where
  -- none yet
  pub lost_none : 1 ≤ first → map (message_lost d play.world) (unsettled_in play first (first - 1)) ≡ []
  lost_none one =
      let below : first - 1 < first = omega arith in
      ap (λ (l : List ℕ). map (message_lost d play.world) l) (none_from (λ m. not (is_among play.settled m)) first (first - 1) below)

  -- one more, and the next one that is left
  pub lost_more : (number after : ℕ) → 1 ≤ number → first ≤ number → is_settled settled number ≡ false → number < after
      → ((m : ℕ) → number < m → m < after → is_settled settled m ≡ true)
      → map (message_lost d play.world) (unsettled_in play first (number - 1)) ++ message_lost d play.world number ∷ []
      ≡ map (message_lost d play.world) (unsettled_in play first (after - 1))
  lost_more number after one from left later all =
      let test : ℕ → Bool = λ m. not (is_among play.settled m) in
      let within : number ≤ after - 1 = omega arith in
      sym (map-append (message_lost d play.world) (unsettled_in play first (number - 1)) (number ∷ []))
      ∙ sym (ap (λ (l : List ℕ). map (message_lost d play.world) l)
      (skipped test first number (after - 1) within (λ m low past high. ap not (sym (follows.settled_are m) ∙ all m past (omega arith)))
      ∙ one_passes test first number one from (ap not (sym (follows.settled_are number) ∙ left))))

  -- all of them, once the number is past the last
  pub lost_all : (last number : ℕ) → last < number → ((m : ℕ) → last < m → m < number → is_settled settled m ≡ true)
      → map (message_lost d play.world) (unsettled_in play first (number - 1)) ≡ map (message_lost d play.world) (unsettled_in play first last)
  lost_all last number past all =
      let within : last ≤ number - 1 = omega arith in
      ap (λ (l : List ℕ). map (message_lost d play.world) l)
      (skipped (λ m. not (is_among play.settled m)) first last (number - 1) within (λ m low above high. ap not (sym (follows.settled_are m) ∙ all m above (omega arith))))

-- ---- a drain

module _ {S : Type 0} (d : DrawnRun S) (line : ℕ) (play : Play) where
  from_none : (most : ℕ) → happens_from d line play None most ≡ []
  unfolding happens_from
  from_none most = refl

  from_full : (message : ℕ) → happens_from d line play (Some message) 0 ≡ drain_ended d line ∷ []
  unfolding happens_from
  from_full message = refl

  from_some : (message most : ℕ) → happens_from d line play (Some message) (suc most)
      ≡ event_happens d line play (NodeStep (Deliver message)) ∷ drain_happens d line most (event_said d.run line play (NodeStep (Deliver message))).play
  unfolding happens_from
  from_some message most = refl

  -- none is left
  pub drain_none : (most : ℕ) → least_unsettled play ≡ None → drain_happens d line most play ≡ []
  drain_none most none = ap (λ (o : Option ℕ). happens_from d line play o most) none ∙ from_none most

  -- one is left, and no more may be delivered
  pub drain_full : (most done message : ℕ) → most ≤ done → least_unsettled play ≡ Some message → drain_happens d line (most - done) play ≡ drain_ended d line ∷ []
  drain_full most done message full left =
      let skipped : most - done ≡ 0 = omega arith in
      ap (λ (o : Option ℕ). happens_from d line play o (most - done)) left
      ∙ ap (λ (n : ℕ). happens_from d line play (Some message) n) skipped
      ∙ from_full message

  -- one is left, and is delivered
  pub drain_more : (most done message : ℕ) → done < most → least_unsettled play ≡ Some message
      → drain_happens d line (most - done) play
      ≡ (event_happens d line play (NodeStep (Deliver message)) ∷ []) ++ drain_happens d line (most - (done + 1)) (event_said d.run line play (NodeStep (Deliver message))).play
  drain_more most done message below left =
      let one : most - done ≡ suc (most - (done + 1)) = omega arith in
      ap (λ (o : Option ℕ). happens_from d line play o (most - done)) left
      ∙ ap (λ (n : ℕ). happens_from d line play (Some message) n) one
      ∙ from_some message (most - (done + 1))

-- ---- the lines of a script

module _ {S : Type 0} (d : DrawnRun S) (most : ℕ) (play : Play) where
  lines_none : lines_happen d most play [] ≡ []
  unfolding lines_happen
  lines_none = refl

  lines_some : (line : Line) (rest : List Line) → lines_happen d most play (line ∷ rest)
      ≡ command_happens d most line.number play line.command ++ lines_happen d most (command_said d.run most line.number play line.command).play rest
  unfolding lines_happen
  lines_some line rest = refl

  -- no line is left
  pub no_line : (lines : List Line) (i : ℕ) → length lines ≤ i → lines_happen d most play (drop i lines) ≡ []
  no_line lines i past = ap (λ (rest : List Line). lines_happen d most play rest) (drop_all i lines past) ∙ lines_none

  -- this line is the next one
  pub next_line : (lines : List Line) (i : ℕ) (line : Line) → i < length lines → line ≡ slice_index_or lines i line
      → lines_happen d most play (drop i lines)
      ≡ command_happens d most line.number play line.command ++ lines_happen d most (command_said d.run most line.number play line.command).play (drop (i + 1) lines)
  next_line lines i line below is =
      let here : drop i lines ≡ line ∷ drop (i + 1) lines = drop_more lines i line below ∙ ap (λ (x : Line). x ∷ drop (i + 1) lines) (sym is) in
      ap (λ (rest : List Line). lines_happen d most play rest) here ∙ lines_some line (drop (i + 1) lines)
