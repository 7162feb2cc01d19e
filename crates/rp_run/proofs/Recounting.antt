-- What the items of a run are to its world: what was shown, taken and called.
use Rattle.std.proofs.Common.{◌≡◌, ◌≢◌, ◌⊎◌, ℕ, zero, suc, ◌+◌, ◌-◌, ◌^◌, min, Bool, true, false, cond, ◌&&◌, Result, Ok, Err, Option, Some, None, List, [], ◌∷◌, ◌++◌, length, replicate, arith, inl, inr, refl, sym, ap, subst, ◌∙◌, append_assoc, append-nil}
use Rattle.std.specs.Prelude.{nat_eq, nat_le, slice_get, filter_map}
use Rattle.std.specs.List.{cons_option}
use Rattle.std.proofs.lemmas.Bool.{cases_eq}
use Rattle.std.proofs.lemmas.Bool.Decides.{nat_tests}
use Rattle.std.proofs.lemmas.List.{length-append}
use Rattle.std.proofs.lemmas.List.Elements.{filter_map-append}
use Rattle.rp_base.specs.Records.{applied_of}
use Rattle.rp_base.specs.Sets.{Has}
use Rattle.rp_base.specs.declared.action.Action.{Action}
use Rattle.rp_base.specs.declared.fault.Fault.{Fault}
use Rattle.rp_base.specs.declared.fault.Fault.TheVariants.{NoSuchMessage}
use Rattle.rp_base.specs.declared.record.Rec.{Rec}
use Rattle.rp_base.specs.declared.reply.Answer.{Answer}
use Rattle.rp_base.proofs.Members.{has_split, has_left, has_right}
use Rattle.rp_model.specs.rp_codec.specs.Message.{Message}
use Rattle.rp_model.specs.rp_machine.specs.Replay.{one_to, replay_state}
use Rattle.rp_model.specs.Effect.{Done}
use Rattle.rp_model.specs.Events.{event_of}
use Rattle.rp_model.specs.Growing.{Grows}
use Rattle.rp_model.specs.Parts.{NodePart, Running, TaskPart, fresh_task}
use Rattle.rp_model.specs.Tasks.{TaskInput, Submit, Again, Take as TakeMessage, asks}
use Rattle.rp_model.specs.World.{World, Transition, part_at, task_done, opening_world, event_effect}
use Rattle.rp_model.specs.declared.event.Event.{Event}
use Rattle.rp_model.specs.declared.event.Event.TheVariants.{Node as NodeStep}
use Rattle.rp_model.specs.declared.event.Step.TheVariants.{Deliver}
use Rattle.rp_model.proofs.WorldGrowing.{GrowsIf, event_grows}
use Rattle.rp_world.specs.rp_agreement.specs.Answered.{calls_so_far}
use Rattle.rp_world.specs.rp_agreement.specs.Order.{IsPrefix}
use Rattle.rp_world.specs.rp_agreement.specs.Asked.{Asks}
use Rattle.rp_world.specs.rp_agreement.proofs.PartPlaces.{part_below, put_there, put_beside}
use Rattle.rp_run.specs.Agreeing.{call_for}
use Rattle.rp_run.specs.Items.{Item, Replied, Shown, Noted, Note, Stopped, Refused, DrainLimit, Asked, asked_in, asked_by, reply_in, replies_by}
use Rattle.rp_run.specs.Output.{RunSetting, Play, Said, nothing_said, note_said, and_then, called_by, taken_items, traced_notes, changed_notes, state_item, part_items, nodes_items, least_unsettled, transition_of, effect_said, event_said, drain_from, command_said, script_said, opening_play, run_said, from_to}
use Rattle.rp_output.specs.Trace.{task_name}
use Rattle.rp_run.proofs.Acting.{made_by, calls_as, IsForNone, IsFor, event_is_for, StepsOn, task_steps_on}
use Rattle.rp_run.proofs.Refusing.{part_there}
use Rattle.rp_run.proofs.Showing.{IsState, shown_in, nodes_shown, taken_none}
use Rattle.rp_deck.specs.declared.deck.Command.{Command}
use Rattle.rp_deck.specs.declared.deck.Command.TheVariants.{Take, Lose, Drain, Show}
use Rattle.rp_deck.specs.declared.deck.Line.{Line}

some_is : {A : Type 0} {x y : A} → Some x ≡ Some y → x ≡ y
some_is e = cc

-- ---- what the world has of the items

module _ {S : Type 0} (s : RunSetting S) where
  -- the node has applied these actions first, and they lead to the image
  pub record WasShown (w : World) (node applied : ℕ) (image : List ℕ) : Type 0 where
    pub part : NodePart
    pub there : part_at w.nodes node ≡ Some part
    pub before : List Action
    pub begins : IsPrefix before (applied_of part.records)
    pub count : applied ≡ min (length before) (2 ^ 16 - 1)
    pub image_is : image ≡ s.image (replay_state s.setting.next s.setting.answers s.setting.begin before)

  -- the task took the reply
  pub record WasTaken (w : World) (name : List ℕ) (answer : Answer) : Type 0 where
    pub under : name ≡ task_name s.names answer.task
    pub part : TaskPart
    pub there : part_at w.tasks answer.task ≡ Some part
    pub taken : Has answer part.replies

  -- the task made these calls, and asked for each
  pub record WereMade (w : World) (t : ℕ) (made : List Asked) : Type 0 where
    pub many : (part : TaskPart) → part_at w.tasks t ≡ Some part → length made ≡ calls_so_far part
    pub sent : (k : ℕ) (asked : Asked) → slice_get made k ≡ Some asked → Asks w.sent t (call_for t (suc k) asked)

  -- these are the replies that the task took, in order
  abbrev AreAllTaken : World → ℕ → List Answer → Type 0
  AreAllTaken w t replies = (part : TaskPart) → part_at w.tasks t ≡ Some part → replies ≡ part.replies

  pub record IsRecounted (items : List Item) (w : World) : Type 0 where
    pub shown : (node applied : ℕ) (image : List ℕ) → Has (Shown node applied image) items → WasShown w node applied image
    pub replied : (name : List ℕ) (answer : Answer) → Has (Replied name answer) items → WasTaken w name answer
    pub called : (t : ℕ) → WereMade w t (asked_by t items)
    pub all : (t : ℕ) → AreAllTaken w t (replies_by t items)

  -- ---- at first

  get_same : {A : Type 0} (n place : ℕ) (a x : A) → slice_get (replicate n a) place ≡ Some x → x ≡ a
  get_same zero place a x e = absurd (cc)
  get_same (suc n) zero a x e = sym (some_is e)
  get_same (suc n) (suc place) a x e = get_same n place a x e

  part_same : {A : Type 0} (n number : ℕ) (a x : A) → part_at (replicate n a) number ≡ Some x → x ≡ a
  part_same n zero a x e = absurd (cc)
  part_same n (suc place) a x e = get_same n place a x e

  pub nothing_yet : (nodes : ℕ) → IsRecounted [] (opening_world nodes)
  nothing_yet nodes = record {
    shown = λ node applied image h. absurd h;
    replied = λ name answer h. absurd h;
    called = λ t. record {
      many = λ part there. ap calls_so_far (sym (part_same 8 t fresh_task part there));
      sent = λ k asked e. absurd (cc);
    };
    all = λ t part there. ap (λ (p : TaskPart). p.replies) (sym (part_same 8 t fresh_task part there));
  }

  -- ---- items that say nothing of replies, states and calls

  pub no_more : (items : List Item) (w : World) → IsRecounted items w → IsRecounted (items ++ []) w
  no_more items w old = subst (λ (l : List Item). IsRecounted l w) (sym (append-nil items)) old

  pub notes_more : (items : List Item) (w : World) (notes : List Note) → IsRecounted items w → IsRecounted (items ++ Noted notes ∷ []) w
  notes_more items w notes old = record {
    shown = λ node applied image h. elim (has_split (Shown node applied image) items (Noted notes ∷ []) h) [
      | inl before ↦ old.shown node applied image before
      | inr last ↦ elim last [ inl same ↦ absurd (cc) | inr none ↦ absurd none ]
    ];
    replied = λ name answer h. elim (has_split (Replied name answer) items (Noted notes ∷ []) h) [
      | inl before ↦ old.replied name answer before
      | inr last ↦ elim last [ inl same ↦ absurd (cc) | inr none ↦ absurd none ]
    ];
    called = λ t. subst (WereMade w t) (sym (filter_map-append (asked_in t) items (Noted notes ∷ []) ∙ append-nil (asked_by t items))) (old.called t);
    all = λ t. subst (AreAllTaken w t) (sym (filter_map-append (reply_in t) items (Noted notes ∷ []) ∙ append-nil (replies_by t items))) (old.all t);
  }

  -- ---- nodes that are shown

  no_reply_shown : (node : ℕ) (records : List Rec) (running : Option Running) (name : List ℕ) (answer : Answer) → Replied name answer ≡ state_item s node records running → ⊥
  no_reply_shown node records None name answer e = cc
  no_reply_shown node records (Some running) name answer e = cc

  -- an item of a node is nothing that is sought, if neither a state nor notes are
  module _ {X : Type 0} (sought : Item → Option X) (no_state : (node applied : ℕ) (image : List ℕ) → sought (Shown node applied image) ≡ None)
      (no_notes : (notes : List Note) → sought (Noted notes) ≡ None) where
    not_in_state : (node : ℕ) (records : List Rec) (running : Option Running) → sought (state_item s node records running) ≡ None
    not_in_state node records None = no_notes (Stopped node ∷ [])
    not_in_state node records (Some running) =
        no_state node (min (length (applied_of records)) (2 ^ 16 - 1)) (s.image (replay_state s.setting.next s.setting.answers s.setting.begin (applied_of records)))

    not_in_part : (node : ℕ) (part : Option NodePart) → filter_map sought (part_items s node part) ≡ []
    not_in_part node None = refl
    not_in_part node (Some part) = ap (λ (o : Option X). cons_option o []) (not_in_state node part.records part.running)

    not_in_nodes : (w : World) (nodes : List ℕ) → filter_map sought (shown_in s w nodes) ≡ []
    not_in_nodes w [] = refl
    not_in_nodes w (node ∷ rest) =
        filter_map-append sought (part_items s node (part_at w.nodes node)) (shown_in s w rest)
        ∙ ap (λ (l : List X). l ++ filter_map sought (shown_in s w rest)) (not_in_part node (part_at w.nodes node))
        ∙ not_in_nodes w rest

  was_shown : (w : World) (node applied : ℕ) (image : List ℕ) → IsState s w node applied image → WasShown w node applied image
  was_shown w node applied image is = record {
    part = is.part;
    there = is.there;
    before = applied_of is.part.records;
    begins = ([], sym (append-nil (applied_of is.part.records)));
    count = is.count;
    image_is = is.image_is;
  }

  part_no_reply : (node : ℕ) (part : Option NodePart) (name : List ℕ) (answer : Answer) → Has (Replied name answer) (part_items s node part) → ⊥
  part_no_reply node None name answer h = h
  part_no_reply node (Some part) name answer h = elim h [ inl same ↦ no_reply_shown node part.records part.running name answer same | inr none ↦ none ]

  nodes_no_reply : (w : World) (nodes : List ℕ) (name : List ℕ) (answer : Answer) → Has (Replied name answer) (shown_in s w nodes) → ⊥
  nodes_no_reply w [] name answer h = h
  nodes_no_reply w (node ∷ rest) name answer h =
      elim (has_split (Replied name answer) (part_items s node (part_at w.nodes node)) (shown_in s w rest) h) [
        | inl here ↦ part_no_reply node (part_at w.nodes node) name answer here
        | inr later ↦ nodes_no_reply w rest name answer later
      ]

  pub nodes_more : (items : List Item) (w : World) (count : ℕ) → IsRecounted items w → IsRecounted (items ++ nodes_items s w count) w
  unfolding nodes_items
  nodes_more items w count old =
      let more = shown_in s w (one_to count) in
      record {
        shown = λ node applied image h. elim (has_split (Shown node applied image) items more h) [
          | inl before ↦ old.shown node applied image before
          | inr now ↦ was_shown w node applied image (nodes_shown s w (one_to count) node applied image now)
        ];
        replied = λ name answer h. elim (has_split (Replied name answer) items more h) [
          | inl before ↦ old.replied name answer before
          | inr now ↦ absurd (nodes_no_reply w (one_to count) name answer now)
        ];
        called = λ t. subst (WereMade w t)
            (sym (filter_map-append (asked_in t) items more ∙ ap (λ (l : List Asked). asked_by t items ++ l) (not_in_nodes (asked_in t) (λ node applied image. refl) (λ notes. refl) w (one_to count)) ∙ append-nil (asked_by t items)))
            (old.called t);
        all = λ t. subst (AreAllTaken w t)
            (sym (filter_map-append (reply_in t) items more ∙ ap (λ (l : List Answer). replies_by t items ++ l) (not_in_nodes (reply_in t) (λ node applied image. refl) (λ notes. refl) w (one_to count)) ∙ append-nil (replies_by t items)))
            (old.all t);
      }

  -- ---- an event

  calls_show_none : (u : ℕ) (made : List Asked) (node applied : ℕ) (image : List ℕ) → Has (Shown node applied image) (calls_as u made) → ⊥
  calls_show_none u [] node applied image h = h
  calls_show_none u (asked ∷ rest) node applied image h = elim h [ inl same ↦ (cc) | inr later ↦ calls_show_none u rest node applied image later ]

  calls_reply_none : (u : ℕ) (made : List Asked) (name : List ℕ) (answer : Answer) → Has (Replied name answer) (calls_as u made) → ⊥
  calls_reply_none u [] name answer h = h
  calls_reply_none u (asked ∷ rest) name answer h = elim h [ inl same ↦ (cc) | inr later ↦ calls_reply_none u rest name answer later ]

  taken_replied : (taken : Option Answer) (name : List ℕ) (answer : Answer) → Has (Replied name answer) (taken_items s.names taken) → (taken ≡ Some answer) × (name ≡ task_name s.names answer.task)
  taken_replied None name answer h = absurd h
  taken_replied (Some other) name answer h =
      elim h [
        | inl same ↦ let is : other ≡ answer = cc in (ap Some is, (let under : name ≡ task_name s.names other.task = cc in under) ∙ ap (λ (a : Answer). task_name s.names a.task) is)
        | inr none ↦ absurd none
      ]

  taken_calls_none : (t : ℕ) (notes : List Note) (taken : Option Answer) → asked_by t (Noted notes ∷ taken_items s.names taken) ≡ []
  taken_calls_none t notes None = refl
  taken_calls_none t notes (Some answer) = refl

  calls_take_none : (t u : ℕ) (made : List Asked) → replies_by t (calls_as u made) ≡ []
  calls_take_none t u [] = refl
  calls_take_none t u (asked ∷ rest) = calls_take_none t u rest

  -- what an event adds: the calls of one task, text, and a reply that was taken
  event_more : (items : List Item) (w w' : World) (u : ℕ) (made : List Asked) (notes : List Note) (taken : Option Answer)
      → ((node applied : ℕ) (image : List ℕ) → WasShown w node applied image → WasShown w' node applied image)
      → ((name : List ℕ) (answer : Answer) → WasTaken w name answer → WasTaken w' name answer)
      → ((answer : Answer) → taken ≡ Some answer → WasTaken w' (task_name s.names answer.task) answer)
      → ((t : ℕ) → WereMade w t (asked_by t items) → WereMade w' t (asked_by t items ++ asked_by t (calls_as u made)))
      → ((t : ℕ) → AreAllTaken w t (replies_by t items) → AreAllTaken w' t (replies_by t items ++ replies_by t (taken_items s.names taken)))
      → IsRecounted items w → IsRecounted (items ++ (calls_as u made ++ Noted notes ∷ taken_items s.names taken)) w'
  event_more items w w' u made notes taken shown replied takes calls replies old =
      let last = Noted notes ∷ taken_items s.names taken in
      let more = calls_as u made ++ last in
      record {
        shown = λ node applied image h. elim (has_split (Shown node applied image) items more h) [
          | inl before ↦ shown node applied image (old.shown node applied image before)
          | inr now ↦ elim (has_split (Shown node applied image) (calls_as u made) last now) [
            | inl call ↦ absurd (calls_show_none u made node applied image call)
            | inr other ↦ elim other [ inl same ↦ absurd (cc) | inr reply ↦ absurd (taken_none s taken node applied image reply) ]
          ]
        ];
        replied = λ name answer h. elim (has_split (Replied name answer) items more h) [
          | inl before ↦ replied name answer (old.replied name answer before)
          | inr now ↦ elim (has_split (Replied name answer) (calls_as u made) last now) [
            | inl call ↦ absurd (calls_reply_none u made name answer call)
            | inr other ↦ elim other [
              | inl same ↦ absurd (cc)
              | inr reply ↦ let is = taken_replied taken name answer reply in subst (λ (l : List ℕ). WasTaken w' l answer) (sym is.1) (takes answer is.0)
            ]
          ]
        ];
        called = λ t. subst (WereMade w' t)
            (sym (filter_map-append (asked_in t) items more
            ∙ ap (λ (l : List Asked). asked_by t items ++ l)
            (filter_map-append (asked_in t) (calls_as u made) last ∙ ap (λ (l : List Asked). asked_by t (calls_as u made) ++ l) (taken_calls_none t notes taken) ∙ append-nil (asked_by t (calls_as u made)))))
            (calls t (old.called t));
        all = λ t. subst (AreAllTaken w' t)
            (sym (filter_map-append (reply_in t) items more
            ∙ ap (λ (l : List Answer). replies_by t items ++ l)
            (filter_map-append (reply_in t) (calls_as u made) last ∙ ap (λ (l : List Answer). l ++ replies_by t last) (calls_take_none t u made))))
            (replies t (old.all t));
      }

  -- a node goes on from what was shown
  still_shown : (w : World) (transition : Transition) → Grows w transition → (node applied : ℕ) (image : List ℕ) → WasShown w node applied image → WasShown transition.world node applied image
  still_shown w transition grows node applied image was =
      let member = part_below w.nodes node was.part was.there in
      let now = part_there transition.world.nodes node member.0 (omega (arith, member.1, grows.nodes)) in
      let further = grows.applied node was.part now.0 was.there now.1 in
      record {
        part = now.0;
        there = now.1;
        before = was.before;
        begins = (
          was.begins.0 ++ further.0,
          further.1 ∙ ap (λ (l : List Action). l ++ further.0) was.begins.1 ∙ append_assoc was.before was.begins.0 further.0,
        );
        count = was.count;
        image_is = was.image_is;
      }

  -- what a task asked for it still asked for
  abbrev still_asks : (w : World) (more : List Message) (t : ℕ) (action : Action) → Asks w.sent t action → Asks (w.sent ++ more) t action
  still_asks w more t action asked = (asked.0, has_left (asks t asked.0 action) w.sent more asked.1)

  -- ---- an event of no task

  none_more : (items : List Item) (w : World) (event : Event) (transition : Transition) (notes : List Note) → Grows w transition → IsForNone w event transition → IsRecounted items w
      → IsRecounted (items ++ (called_by event ++ Noted notes ∷ taken_items s.names transition.taken)) transition.world
  none_more items w event transition notes grows is old =
      subst (λ (l : List Item). IsRecounted (items ++ (l ++ Noted notes ∷ taken_items s.names transition.taken)) transition.world) (sym is.called)
      (event_more items w transition.world 0 [] notes transition.taken
      (still_shown w transition grows)
      (λ name answer was. record { under = was.under; part = was.part; there = ap (λ (l : List TaskPart). part_at l answer.task) is.tasks ∙ was.there; taken = was.taken })
      (λ answer e. absurd (taken_some answer (sym is.taken ∙ e)))
      (λ t made. subst (WereMade transition.world t) (sym (append-nil (asked_by t items))) (record {
        many = λ part there. made.many part (ap (λ (l : List TaskPart). part_at l t) (sym is.tasks) ∙ there);
        sent = λ k asked e. subst (λ (l : List Message). Asks l t (call_for t (suc k) asked)) (sym grows.sent) (still_asks w transition.sends t (call_for t (suc k) asked) (made.sent k asked e));
      }))
      (λ t all. subst (λ (o : Option Answer). AreAllTaken transition.world t (replies_by t items ++ replies_by t (taken_items s.names o))) (sym is.taken)
      (subst (AreAllTaken transition.world t) (sym (append-nil (replies_by t items))) (λ part there. all part (ap (λ (l : List TaskPart). part_at l t) (sym is.tasks) ∙ there))))
      old)
    where
      taken_some : (answer : Answer) → None ≡ Some answer → ⊥
      taken_some answer e = cc

  -- ---- a task's own step

  eq_same : (t : ℕ) → nat_eq t t ≡ true
  eq_same t = grind (arith, nat_tests)

  eq_other : (t k : ℕ) → k ≢ t → nat_eq t k ≡ false
  eq_other t k other = grind (arith, nat_tests, other)

  own_calls : (t : ℕ) (made : List Asked) → asked_by t (calls_as t made) ≡ made
  own_calls t [] = refl
  own_calls t (asked ∷ rest) =
      ap (λ (b : Bool). cons_option (cond b (Some asked) None) (asked_by t (calls_as t rest))) (eq_same t)
      ∙ ap (λ (l : List Asked). asked ∷ l) (own_calls t rest)

  others_calls : (t k : ℕ) (made : List Asked) → k ≢ t → asked_by k (calls_as t made) ≡ []
  others_calls t k [] other = refl
  others_calls t k (asked ∷ rest) other =
      ap (λ (b : Bool). cons_option (cond b (Some asked) None) (asked_by k (calls_as t rest))) (eq_other t k other)
      ∙ others_calls t k rest other

  own_taken : (t : ℕ) (taken : Option Answer) → ((answer : Answer) → taken ≡ Some answer → answer.task ≡ t) → replies_by t (taken_items s.names taken) ≡ cons_option taken []
  own_taken t None own = refl
  own_taken t (Some answer) own =
      ap (λ (b : Bool). cons_option (cond b (Some answer) None) []) (ap (λ (k : ℕ). nat_eq k t) (own answer refl) ∙ eq_same t)

  others_taken : (t k : ℕ) (taken : Option Answer) → ((answer : Answer) → taken ≡ Some answer → answer.task ≡ t) → k ≢ t → replies_by k (taken_items s.names taken) ≡ []
  others_taken t k None own other = refl
  others_taken t k (Some answer) own other =
      ap (λ (b : Bool). cons_option (cond b (Some answer) None) []) (ap (λ (n : ℕ). nat_eq n k) (own answer refl) ∙ eq_other t k other)

  -- a member of two lists joined, by its place
  get_split : {A : Type 0} (xs ys : List A) (k : ℕ) (a : A) → slice_get (xs ++ ys) k ≡ Some a → (slice_get xs k ≡ Some a) ⊎ ((j : ℕ) × (k ≡ length xs + j) × (slice_get ys j ≡ Some a))
  get_split [] ys k a e = inr (k, omega arith, e)
  get_split (x ∷ xs) ys zero a e = inl e
  get_split (x ∷ xs) ys (suc k) a e = elim (get_split xs ys k a e) [ inl before ↦ inl before | inr later ↦ inr (later.0, omega (arith, later.1), later.2) ]

  -- an input asks for one call at most
  one_made : (input : TaskInput) (j : ℕ) (asked : Asked) → slice_get (made_by input) j ≡ Some asked → (j ≡ 0) × Has asked (made_by input)
  one_made (Submit node object operation arg) zero asked e = (refl, inl (sym (some_is e)))
  one_made (Submit node object operation arg) (suc j) asked e = absurd (cc)
  one_made (Again node) j asked e = absurd (cc)
  one_made (TakeMessage message) j asked e = absurd (cc)

  module _ (w : World) (t : ℕ) (part : TaskPart) (input : TaskInput) (done : Done TaskPart) (there : part_at w.tasks t ≡ Some part) (steps : StepsOn t part input done) where
    abbrev after : World
    after = (task_done w t done).world

    now_there : part_at after.tasks t ≡ Some done.part
    now_there = put_there w.tasks t part done.part there

    beside : (k : ℕ) → k ≢ t → part_at after.tasks k ≡ part_at w.tasks k
    beside k other = put_beside w.tasks t k done.part other

    still_taken : (name : List ℕ) (answer : Answer) → WasTaken w name answer → WasTaken after name answer
    still_taken name answer was =
        elim (cases_eq answer.task t) [
          | inl same ↦
              let was_part : was.part ≡ part = some_is (sym was.there ∙ ap (part_at w.tasks) same ∙ there) in
              record { under = was.under; part = done.part; there = ap (part_at after.tasks) same ∙ now_there; taken = steps.replies answer (subst (λ (p : TaskPart). Has answer p.replies) was_part was.taken) }
          | inr other ↦ record { under = was.under; part = was.part; there = beside answer.task other ∙ was.there; taken = was.taken }
        ]

    now_taken : (answer : Answer) → done.taken ≡ Some answer → WasTaken after (task_name s.names answer.task) answer
    now_taken answer e =
        let is = steps.taken answer e in
        record { under = refl; part = done.part; there = ap (part_at after.tasks) is.0 ∙ now_there; taken = is.1 }

    own_made : (made : List Asked) → WereMade w t made → WereMade after t (made ++ made_by input)
    own_made made old =
        let so_far : length made ≡ calls_so_far part = old.many part there in
        record {
          many = λ now is.
              let same : done.part ≡ now = some_is (sym now_there ∙ is) in
              let sum : length (made ++ made_by input) ≡ length made + length (made_by input) = length-append made (made_by input) in
              let all : calls_so_far done.part ≡ calls_so_far part + length (made_by input) = steps.many in
              (let whole : length (made ++ made_by input) ≡ calls_so_far done.part = omega (arith, sum, all, so_far) in whole) ∙ ap calls_so_far same;
          sent = λ k asked e. elim (get_split made (made_by input) k asked e) [
            | inl before ↦ still_asks w done.sends t (call_for t (suc k) asked) (old.sent k asked before)
            | inr now ↦
                let one = one_made input now.0 asked now.2 in
                let number : calls_so_far part ≡ k = omega (arith, now.1, one.0, so_far) in
                let asks_it = steps.sends asked one.1 in
                subst (λ (n : ℕ). Asks after.sent t (call_for t (suc n) asked)) number
                (asks_it.0, has_right (asks t asks_it.0 (call_for t (suc (calls_so_far part)) asked)) w.sent done.sends asks_it.1)
          ];
        }

    now_made : (k : ℕ) (items : List Item) → WereMade w k (asked_by k items) → WereMade after k (asked_by k items ++ asked_by k (calls_as t (made_by input)))
    now_made k items old =
        elim (cases_eq k t) [
          | inl same ↦
              subst (λ (n : ℕ). WereMade after n (asked_by n items ++ asked_by n (calls_as t (made_by input)))) (sym same)
              (subst (λ (l : List Asked). WereMade after t (asked_by t items ++ l)) (sym (own_calls t (made_by input)))
              (own_made (asked_by t items) (subst (λ (n : ℕ). WereMade w n (asked_by n items)) same old)))
          | inr other ↦
              subst (λ (l : List Asked). WereMade after k (asked_by k items ++ l)) (sym (others_calls t k (made_by input) other))
              (subst (WereMade after k) (sym (append-nil (asked_by k items))) (record {
                many = λ now is. old.many now (sym (beside k other) ∙ is);
                sent = λ n asked e. still_asks w done.sends k (call_for k (suc n) asked) (old.sent n asked e);
              }))
        ]

    whose : (answer : Answer) → done.taken ≡ Some answer → answer.task ≡ t
    whose answer e = (steps.taken answer e).0

    all_taken : (k : ℕ) (items : List Item) → AreAllTaken w k (replies_by k items) → AreAllTaken after k (replies_by k items ++ replies_by k (taken_items s.names done.taken))
    all_taken k items old now is =
        elim (cases_eq k t) [
          | inl same ↦
              let part_is : part_at w.tasks k ≡ Some part = ap (part_at w.tasks) same ∙ there in
              let now_is : done.part ≡ now = some_is (sym now_there ∙ ap (part_at after.tasks) (sym same) ∙ is) in
              ap (λ (l : List Answer). l ++ replies_by k (taken_items s.names done.taken)) (old part part_is)
              ∙ ap (λ (n : ℕ). part.replies ++ replies_by n (taken_items s.names done.taken)) same
              ∙ ap (λ (l : List Answer). part.replies ++ l) (own_taken t done.taken whose)
              ∙ sym steps.grown
              ∙ ap (λ (p : TaskPart). p.replies) now_is
          | inr other ↦
              ap (λ (l : List Answer). replies_by k items ++ l) (others_taken t k done.taken whose other)
              ∙ append-nil (replies_by k items)
              ∙ old now (sym (beside k other) ∙ is)
        ]

    task_more : (items : List Item) (notes : List Note) → IsRecounted items w → IsRecounted (items ++ (calls_as t (made_by input) ++ Noted notes ∷ taken_items s.names done.taken)) after
    task_more items notes old =
        event_more items w after t (made_by input) notes done.taken
        (λ node applied image was. record { part = was.part; there = was.there; before = was.before; begins = was.begins; count = was.count; image_is = was.image_is })
        still_taken now_taken (λ k made. now_made k items made) (λ k all. all_taken k items all) old

  event_adds : (items : List Item) (w : World) (event : Event) (transition : Transition) (notes : List Note) → event_effect s.setting w (event_of event) ≡ Ok transition → IsRecounted items w
      → IsRecounted (items ++ (called_by event ++ Noted notes ∷ taken_items s.names transition.taken)) transition.world
  event_adds items w event transition notes is old =
      elim (subst (λ (r : Result Transition Fault). IsFor s.setting.config w event r) is (event_is_for s.setting w event)) [
        | inl none ↦ none_more items w event transition notes (subst (λ (r : Result Transition Fault). GrowsIf w r) is (event_grows s.setting w (event_of event))) none old
        | inr task ↦
            subst (λ (h : Transition). IsRecounted (items ++ (called_by event ++ Noted notes ∷ taken_items s.names h.taken)) h.world) (sym task.is)
            (subst (λ (l : List Item). IsRecounted (items ++ (l ++ Noted notes ∷ taken_items s.names task.done.taken)) (task_done w task.t task.done).world) (sym task.called)
            (task_more w task.t task.part task.input task.done task.there (task_steps_on s.setting.config task.t task.part task.input task.done task.resulted) items notes old))
      ]

  -- ---- a run

  -- what is said recounts its world, after items that recount the world before it
  abbrev Recounts : Play → Said → Type 0
  Recounts play said = (items : List Item) → IsRecounted items play.world → IsRecounted (items ++ said.items) said.play.world

  recounts_nothing : (play : Play) → Recounts play (nothing_said play)
  recounts_nothing play items old = no_more items play.world old

  recounts_note : (play : Play) (note : Note) → Recounts play (note_said play note)
  recounts_note play note items old = notes_more items play.world (note ∷ []) old

  recounts_both : (play : Play) (here : Said) (further : Play → Said) → Recounts play here → Recounts here.play (further here.play) → Recounts play (and_then here further)
  recounts_both play here further first second items old =
      subst (λ (l : List Item). IsRecounted l (further here.play).play.world) (append_assoc items here.items (further here.play).items)
      (second (items ++ here.items) (first items old))

  recounts_effect : (line : ℕ) (play : Play) (event : Event) (answer : Result Transition Fault) → transition_of s play.world event ≡ answer → Recounts play (effect_said s line play event answer)
  recounts_effect line play event (Ok transition) is items old =
      event_adds items play.world event transition
      (traced_notes s.traced s.names (length play.world.sent + 1) transition.sends ++ changed_notes transition.world.sent event transition.opened transition.dropped) is old
  recounts_effect line play event (Err refusal) is items old = recounts_note play (Refused line refusal) items old

  recounts_event : (line : ℕ) (play : Play) (event : Event) → Recounts play (event_said s line play event)
  unfolding event_said
  recounts_event line play event = recounts_effect line play event (transition_of s play.world event) refl

  recounts_drain : (line : ℕ) (play : Play) (message : Option ℕ) (most : ℕ) → Recounts play (drain_from s line play message most)
  unfolding drain_from
  recounts_drain line play None most = recounts_nothing play
  recounts_drain line play (Some message) zero = recounts_note play (DrainLimit line)
  recounts_drain line play (Some message) (suc most) =
      recounts_both play (event_said s line play (NodeStep (Deliver message))) (λ after. drain_from s line after (least_unsettled after) most)
      (recounts_event line play (NodeStep (Deliver message)))
      (let now = (event_said s line play (NodeStep (Deliver message))).play in recounts_drain line now (least_unsettled now) most)

  recounts_choice : (play : Play) (b : Bool) (one other : Said) → Recounts play one → Recounts play other → Recounts play (cond b one other)
  recounts_choice play true one other first second = first
  recounts_choice play false one other first second = second

  recounts_command : (most line : ℕ) (play : Play) (command : Command) → Recounts play (command_said s most line play command)
  recounts_command most line play (Take event) = recounts_event line play event
  recounts_command most line play (Lose first last) =
      let there : Said = record { items = []; play = record { world = play.world; settled = from_to first last ++ play.settled } } in
      recounts_choice play (nat_le first (length play.world.sent) && nat_le last (length play.world.sent)) there (note_said play (Refused line NoSuchMessage))
      (λ items old. no_more items play.world old) (recounts_note play (Refused line NoSuchMessage))
  recounts_command most line play Drain = recounts_drain line play (least_unsettled play) most
  recounts_command most line play Show = λ items old. nodes_more items play.world s.setting.config.nodes old

  recounts_lines : (most : ℕ) (play : Play) (lines : List Line) → Recounts play (script_said s most play lines)
  unfolding script_said
  recounts_lines most play [] = recounts_nothing play
  recounts_lines most play (line ∷ rest) =
      recounts_both play (command_said s most line.number play line.command) (λ after. script_said s most after rest)
      (recounts_command most line.number play line.command)
      (recounts_lines most (command_said s most line.number play line.command).play rest)

  -- the items of a run recount its world
  pub run_recounts : (most : ℕ) (lines : List Line) → (let said = run_said s most lines in IsRecounted said.items said.play.world)
  run_recounts most lines = recounts_lines most (opening_play s) lines [] (nothing_yet s.setting.config.nodes)
