-- Which nodes a line shows, and as what.
use Rattle.std.proofs.Common.{◌≡◌, ◌<◌, ◌≤◌, ℕ, zero, suc, ◌+◌, ◌-◌, ◌^◌, min, length, take, arith, true, false, cond, Bool, ◌&&◌, Result, Ok, Err, Option, Some, None, List, [], ◌∷◌, ◌++◌, inl, inr, refl, sym, ap, subst, ◌∙◌, append_assoc, append-nil}
use Rattle.std.specs.Prelude.{nat_le, slice_get, flat_map}
use Rattle.rp_base.specs.Records.{applied_of}
use Rattle.rp_base.specs.Sets.{Has}
use Rattle.rp_base.specs.declared.fault.Fault.{Fault}
use Rattle.rp_base.specs.declared.fault.Fault.TheVariants.{NoSuchMessage}
use Rattle.rp_base.specs.declared.reply.Answer.{Answer}
use Rattle.rp_base.proofs.Members.{has_split, has_left, has_right}
use Rattle.rp_model.specs.rp_machine.specs.Replay.{one_to, replay_state}
use Rattle.rp_model.specs.Parts.{NodePart, Running}
use Rattle.rp_model.specs.World.{World, Transition, part_at}
use Rattle.rp_model.specs.declared.event.Event.{Event}
use Rattle.rp_model.specs.declared.event.Event.TheVariants.{Submit, Again, Node as NodeStep, Cut, Stop, Restart}
use Rattle.rp_model.specs.declared.event.Step.TheVariants.{Deliver}
use Rattle.rp_world.specs.rp_agreement.proofs.Lists.{one_to_has}
use Rattle.rp_world.specs.rp_agreement.proofs.PartPlaces.{part_below}
use Rattle.rp_run.specs.Agreeing.{HasApplied, ShowsNodes}
use Rattle.rp_run.specs.Items.{Item, Shown, Noted, Note, Refused, DrainLimit}
use Rattle.rp_run.specs.Output.{RunSetting, Play, Said, note_said, called_by, taken_items, traced_notes, changed_notes, state_item, part_items, nodes_items, least_unsettled, transition_of, effect_said, event_said, drain_from, command_said, script_said, from_to}
use Rattle.rp_deck.specs.declared.deck.Command.{Command}
use Rattle.rp_deck.specs.declared.deck.Command.TheVariants.{Take, Lose, Drain, Show}
use Rattle.rp_deck.specs.declared.deck.Line.{Line}

module _ {S : Type 0} (s : RunSetting S) where
  -- the node runs, and this is what it shows
  pub record IsState (w : World) (node applied : ℕ) (image : List ℕ) : Type 0 where
    pub part : NodePart
    pub there : part_at w.nodes node ≡ Some part
    pub running : Running
    pub runs : part.running ≡ Some running
    pub count : applied ≡ min (length (applied_of part.records)) (2 ^ 16 - 1)
    pub image_is : image ≡ s.image (replay_state s.setting.next s.setting.answers s.setting.begin (applied_of part.records))

  abbrev pub shown_in : World → List ℕ → List Item
  shown_in w nodes = flat_map (λ (node : ℕ). part_items s node (part_at w.nodes node)) nodes

  state_shown : (w : World) (node : ℕ) (part : NodePart) (running : Option Running) → part_at w.nodes node ≡ Some part → part.running ≡ running
      → (shown applied : ℕ) (image : List ℕ) → Shown shown applied image ≡ state_item s node part.records running → IsState w shown applied image
  state_shown w node part None there runs shown applied image e = absurd (cc)
  state_shown w node part (Some running) there runs shown applied image e =
      let same : shown ≡ node = cc in
      record {
        part = part;
        there = ap (part_at w.nodes) same ∙ there;
        running = running;
        runs = runs;
        count = (cc);
        image_is = (cc);
      }

  part_shown : (w : World) (node : ℕ) (part : Option NodePart) → part_at w.nodes node ≡ part → (shown applied : ℕ) (image : List ℕ)
      → Has (Shown shown applied image) (part_items s node part) → IsState w shown applied image
  part_shown w node None there shown applied image h = absurd h
  part_shown w node (Some part) there shown applied image h =
      elim h [ inl same ↦ state_shown w node part part.running there refl shown applied image same | inr none ↦ absurd none ]

  pub nodes_shown : (w : World) (nodes : List ℕ) (shown applied : ℕ) (image : List ℕ) → Has (Shown shown applied image) (shown_in w nodes) → IsState w shown applied image
  nodes_shown w [] shown applied image h = absurd h
  nodes_shown w (node ∷ rest) shown applied image h =
      elim (has_split (Shown shown applied image) (part_items s node (part_at w.nodes node)) (shown_in w rest) h) [
        | inl here ↦ part_shown w node (part_at w.nodes node) refl shown applied image here
        | inr later ↦ nodes_shown w rest shown applied image later
      ]

  -- ---- `show`

  abbrev image_of : NodePart → List ℕ
  image_of part = s.image (replay_state s.setting.next s.setting.answers s.setting.begin (applied_of part.records))

  abbrev Few : World → Type 0
  Few w = (node : ℕ) (part : NodePart) → part_at w.nodes node ≡ Some part → length (applied_of part.records) < 2 ^ 16

  least_is : (n : ℕ) → n < 2 ^ 16 → n ≡ min n (2 ^ 16 - 1)
  least_is n few = grind (arith, few)

  has_applied : (w : World) → Few w → (node applied : ℕ) (image : List ℕ) → IsState w node applied image → HasApplied w node applied
  has_applied w few node applied image is =
      let n = length (applied_of is.part.records) in
      record {
        part = is.part;
        part_is = is.there;
        running = is.running;
        runs = is.runs;
        applied_is = is.count ∙ sym (least_is n (few node is.part is.there));
      }

  shows_part : (w : World) → Few w → (node applied : ℕ) (has : HasApplied w node applied) → Has (Shown node applied (image_of has.part)) (part_items s node (part_at w.nodes node))
  shows_part w few node applied has =
      let n = length (applied_of has.part.records) in
      subst (λ (o : Option NodePart). Has (Shown node applied (image_of has.part)) (part_items s node o)) (sym has.part_is)
      (subst (λ (r : Option Running). Has (Shown node applied (image_of has.part)) (state_item s node has.part.records r ∷ [])) (sym has.runs)
      (inl (ap (λ (k : ℕ). Shown node k (image_of has.part)) (has.applied_is ∙ least_is n (few node has.part has.part_is)))))

  among_nodes : (w : World) (node : ℕ) (item : Item) (nodes : List ℕ) → Has node nodes → Has item (part_items s node (part_at w.nodes node)) → Has item (shown_in w nodes)
  among_nodes w node item [] h here = absurd h
  among_nodes w node item (first ∷ rest) h here =
      elim h [
        | inl same ↦
            has_left item (part_items s first (part_at w.nodes first)) (shown_in w rest)
            (subst (λ (n : ℕ). Has item (part_items s n (part_at w.nodes n))) same here)
        | inr later ↦ has_right item (part_items s first (part_at w.nodes first)) (shown_in w rest) (among_nodes w node item rest later here)
      ]

  show_all : (w : World) → Few w → (node applied : ℕ) → node ≤ s.setting.config.nodes → HasApplied w node applied
      → (image : List ℕ) × Has (Shown node applied image) (nodes_items s w s.setting.config.nodes)
  unfolding nodes_items
  show_all w few node applied within has =
      let low : 1 ≤ node = (part_below w.nodes node has.part has.part_is).0 in (
        image_of has.part,
        among_nodes w node (Shown node applied (image_of has.part)) (one_to s.setting.config.nodes)
            (one_to_has s.setting.config.nodes node low within) (shows_part w few node applied has),
      )

  show_own : (w : World) → Few w → (node applied : ℕ) (image : List ℕ) → Has (Shown node applied image) (nodes_items s w s.setting.config.nodes) → HasApplied w node applied
  unfolding nodes_items
  show_own w few node applied image h = has_applied w few node applied image (nodes_shown w (one_to s.setting.config.nodes) node applied image h)

  -- ---- the other commands show no node

  abbrev pub ShowNone : List Item → Type 0
  ShowNone items = (node applied : ℕ) (image : List ℕ) → Has (Shown node applied image) items → ⊥

  both_none : (first second : List Item) → ShowNone first → ShowNone second → ShowNone (first ++ second)
  both_none first second one other node applied image h =
      elim (has_split (Shown node applied image) first second h) [ inl left ↦ one node applied image left | inr right ↦ other node applied image right ]

  notes_none : (notes : List Note) → ShowNone (Noted notes ∷ [])
  notes_none notes node applied image h = elim h [ inl same ↦ (cc) | inr none ↦ none ]

  pub taken_none : (taken : Option Answer) → ShowNone (taken_items s.names taken)
  taken_none None node applied image h = h
  taken_none (Some answer) node applied image h = elim h [ inl same ↦ (cc) | inr none ↦ none ]

  called_none : (event : Event) → ShowNone (called_by event)
  called_none (Submit task to object operation arg) node applied image h = elim h [ inl same ↦ (cc) | inr none ↦ none ]
  called_none (Again task to) node applied image h = h
  called_none (NodeStep step) node applied image h = h
  called_none (Cut step kept) node applied image h = h
  called_none (Stop me) node applied image h = h
  called_none (Restart me) node applied image h = h

  effect_none : (line : ℕ) (play : Play) (event : Event) (answer : Result Transition Fault) → ShowNone (effect_said s line play event answer).items
  effect_none line play event (Ok transition) =
      let notes = traced_notes s.traced s.names (length play.world.sent + 1) transition.sends ++ changed_notes transition.world.sent event transition.opened transition.dropped in
      let taken = taken_items s.names transition.taken in
      both_none (called_by event) (Noted notes ∷ taken) (called_none event)
      (both_none (Noted notes ∷ []) taken (notes_none notes) (taken_none transition.taken))
  effect_none line play event (Err refusal) = notes_none (Refused line refusal ∷ [])

  event_none : (line : ℕ) (play : Play) (event : Event) → ShowNone (event_said s line play event).items
  unfolding event_said
  event_none line play event = effect_none line play event (transition_of s play.world event)

  drain_none : (line : ℕ) (play : Play) (message : Option ℕ) (most : ℕ) → ShowNone (drain_from s line play message most).items
  unfolding drain_from
  drain_none line play None most = λ node applied image h. h
  drain_none line play (Some message) zero = notes_none (DrainLimit line ∷ [])
  drain_none line play (Some message) (suc most) =
      let here = event_said s line play (NodeStep (Deliver message)) in
      both_none here.items (drain_from s line here.play (least_unsettled here.play) most).items
      (event_none line play (NodeStep (Deliver message))) (drain_none line here.play (least_unsettled here.play) most)

  choice_none : (b : Bool) (one other : Said) → ShowNone one.items → ShowNone other.items → ShowNone (cond b one other).items
  choice_none true one other first second = first
  choice_none false one other first second = second

  lose_none : (line : ℕ) (play : Play) (first last : ℕ) (most : ℕ) → ShowNone (command_said s most line play (Lose first last)).items
  lose_none line play first last most =
      let there : Said = record { items = []; play = record { world = play.world; settled = from_to first last ++ play.settled } } in
      choice_none (nat_le first (length play.world.sent) && nat_le last (length play.world.sent)) there (note_said play (Refused line NoSuchMessage))
      (λ node applied image h. h) (notes_none (Refused line NoSuchMessage ∷ []))

  -- ---- a line, and lines

  command_own : (most line : ℕ) (play : Play) (command : Command) → Few play.world → (node applied : ℕ) (image : List ℕ)
      → Has (Shown node applied image) (command_said s most line play command).items → HasApplied play.world node applied
  command_own most line play (Take event) few node applied image h = absurd (event_none line play event node applied image h)
  command_own most line play (Lose first last) few node applied image h = absurd (lose_none line play first last most node applied image h)
  command_own most line play Drain few node applied image h = absurd (drain_none line play (least_unsettled play) most node applied image h)
  command_own most line play Show few node applied image h = show_own play.world few node applied image h

  same_line : {A : Type 0} {a b : A} → Some a ≡ Some b → a ≡ b
  same_line e = cc

  line_shows : (most : ℕ) (play : Play) (line : Line) (items after : List Item) → Few play.world → after ≡ items ++ (command_said s most line.number play line.command).items
      → ShowsNodes s play.world (Some line) items after
  line_shows most play line items after few is = record {
    added = (command_said s most line.number play line.command).items;
    after_is = is;
    own = command_own most line.number play line.command few;
    each = λ show same is_show node applied within has.
        let command : line.command ≡ Show = ap (λ (l : Line). l.command) (same_line same) ∙ is_show in
        subst (λ (c : Command). (image : List ℕ) × Has (Shown node applied image) (command_said s most line.number play c).items) (sym command)
        (show_all play.world few node applied within has);
  }

  none_shows : (w : World) (items : List Item) → ShowsNodes s w None items items
  none_shows w items = record {
    added = [];
    after_is = sym (append-nil items);
    own = λ node applied image h. absurd h;
    each = λ show same is_show node applied within has. absurd (cc);
  }

  -- the same, with more items before
  after_more : (w : World) (line : Option Line) (before items after : List Item) → ShowsNodes s w line items after → ShowsNodes s w line (before ++ items) (before ++ after)
  after_more w line before items after shows = record {
    added = shows.added;
    after_is = ap (λ (l : List Item). before ++ l) shows.after_is ∙ sym (append_assoc before items shows.added);
    own = shows.own;
    each = shows.each;
  }

  -- what the line after the first n adds
  pub lines_show : (most : ℕ) (play : Play) (lines : List Line) (i : ℕ) → Few (script_said s most play (take i lines)).play.world
      → ShowsNodes s (script_said s most play (take i lines)).play.world (slice_get lines i) (script_said s most play (take i lines)).items
      (script_said s most play (take (suc i) lines)).items
  unfolding script_said
  lines_show most play [] zero few = none_shows play.world []
  lines_show most play [] (suc i) few = none_shows play.world []
  lines_show most play (line ∷ rest) zero few =
      line_shows most play line [] ((command_said s most line.number play line.command).items ++ []) few (append-nil (command_said s most line.number play line.command).items)
  lines_show most play (line ∷ rest) (suc i) few =
      let here = command_said s most line.number play line.command in
      after_more (script_said s most here.play (take i rest)).play.world (slice_get rest i) here.items (script_said s most here.play (take i rest)).items
      (script_said s most here.play (take (suc i) rest)).items (lines_show most here.play rest i few)
