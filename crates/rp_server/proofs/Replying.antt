-- Replies to the answers whose call is pending.
use Rattle.std.proofs.Common.{◌≡◌, ℕ, ◌+◌, ◌*◌, ◌≤◌, Bool, true, false, ◌&&◌, nat_eq, List, [], ◌∷◌, ◌++◌, length, map, take, drop, if◌then◌else◌, refl, sym, ap, subst, ◌∙◌, inl, inr, arith, append_assoc, append-nil, eqb-true}
use Rattle.std.specs.Prelude.{filter}
use Rattle.std.specs.List.{list_any}
use Rattle.std.proofs.lemmas.Bool.{or_cases}
use Rattle.std.proofs.lemmas.List.{length-append, length-map, map-append, take-append-drop}
use Rattle.std.proofs.lemmas.List.Elements.{filter-append}
use Rattle.rp_base.specs.declared.action.Action.{Action}
use Rattle.rp_base.specs.declared.action.Action.TheVariants.{Noop, Call, Interrupt, Tick}
use Rattle.rp_base.specs.declared.reply.Answer.{Answer}
use Rattle.rp_base.specs.Sets.{Has, IsSet}
use Rattle.rp_base.proofs.Members.{has_left, has_right, has_passing, has_mapped, mapped_has}
use Rattle.rp_model.specs.rp_codec.specs.Message.{Message}
use Rattle.rp_model.specs.rp_codec.specs.declared.packet.Body.TheVariants.{Reply}
use Rattle.rp_log.specs.Contents.{Contents}
use Rattle.rp_machine.specs.Calls.{CallName, call_of, calls_made, calls_of}
use Rattle.rp_machine.specs.Replay.{Replayed, unmoved, counts, answers_after}
use Rattle.rp_machine.specs.Numbered.{Applied, outcome}
use Rattle.rp_machine.proofs.Replaying.{replay_from-append}
use Rattle.rp_machine.proofs.Few.{set_within, calls_few}
use Rattle.rp_model.specs.Pending.{is_answered_by, replies_to}
use Rattle.rp_model.specs.Says.{says_to_task}
use Rattle.rp_outbox.specs.Packets.{Sending, longest_text}
use Rattle.rp_server.specs.Applying.{AppliesMore, HasReplied}

-- ---- replies to several answers

abbrev reply_of : ℕ → Answer → Message
reply_of me answer = says_to_task me (Reply answer.number answer.reply) answer.task

pub replies_append : (me : ℕ) (pending : List Action) (xs ys : List Answer) → replies_to me pending (xs ++ ys) ≡ replies_to me pending xs ++ replies_to me pending ys
replies_append me pending xs ys =
    let test : Answer → Bool = λ answer. list_any (is_answered_by answer) pending in
    ap (map (reply_of me)) (filter-append test xs ys) ∙ map-append (reply_of me) (filter test xs) (filter test ys)

-- the first of them are no more than all
pub first_replies : (me : ℕ) (pending : List Action) (given : List Answer) (n : ℕ) → length (replies_to me pending (take n given)) ≤ length (replies_to me pending given)
first_replies me pending given n =
    let all : replies_to me pending (take n given) ++ replies_to me pending (drop n given) ≡ replies_to me pending given =
    sym (replies_append me pending (take n given) (drop n given)) ∙ ap (replies_to me pending) (take-append-drop n given) in
    let long : length (replies_to me pending (take n given)) + length (replies_to me pending (drop n given)) ≡ length (replies_to me pending given) =
    sym (length-append (replies_to me pending (take n given)) (replies_to me pending (drop n given))) ∙ ap length all in
    omega (arith, long)

-- ---- where no call is answered twice there are no more replies than pending items

set_after : {A : Type 0} (xs ys : List A) → IsSet (xs ++ ys) → IsSet ys
set_after [] ys set = set
set_after (x ∷ xs) ys set = set_after xs ys set.1

fewer_calls : (test : Answer → Bool) (xs : List Answer) → IsSet (map call_of xs) → IsSet (map call_of (filter test xs))
fewer_calls test [] set = tt
fewer_calls test (x ∷ xs) set =
    elim (test x) as (λ b. IsSet (map call_of (if b then x ∷ filter test xs else filter test xs))) [
      | true ↦ (
        λ h.
            let from = mapped_has call_of (call_of x) (filter test xs) h in
            set.0 (subst (λ (call : CallName). Has call (map call_of xs)) (sym from.2) (has_mapped call_of from.0 xs (has_passing test from.0 xs from.1).0)),
        fewer_calls test xs set.1,
      )
      | false ↦ fewer_calls test xs set.1
    ]

both_true : (a b : Bool) → (a && b) ≡ true → (a ≡ true) × (b ≡ true)
both_true true b e = (refl, e)
both_true false b e = absurd (cc)

answered_call : (answer : Answer) (item : Action) → is_answered_by answer item ≡ true → Has (call_of answer) (calls_of item)
answered_call answer Noop e = absurd (cc)
answered_call answer (Call task number object operation arg) e =
    let both = both_true (nat_eq task answer.task) (nat_eq number answer.number) e in
    let tasks : answer.task ≡ task = sym (eqb-true task answer.task both.0) in
    let numbers : answer.number ≡ number = sym (eqb-true number answer.number both.1) in
    inl (λ i. record { task = tasks i; number = numbers i })
answered_call answer (Interrupt source occurrence) e = absurd (cc)
answered_call answer (Tick now) e = absurd (cc)

awaited_call : (answer : Answer) (pending : List Action) → list_any (is_answered_by answer) pending ≡ true → Has (call_of answer) (calls_made pending)
awaited_call answer [] e = absurd (cc)
awaited_call answer (item ∷ rest) e =
    elim (or_cases (is_answered_by answer item) (list_any (is_answered_by answer) rest) e) [
      | inl here ↦ has_left (call_of answer) (calls_of item) (calls_made rest) (answered_call answer item here)
      | inr later ↦ has_right (call_of answer) (calls_of item) (calls_made rest) (awaited_call answer rest later)
    ]

pub few_replies : (me : ℕ) (pending : List Action) (earlier more : List Answer) → IsSet (map call_of (earlier ++ more)) → length (replies_to me pending more) ≤ length pending
few_replies me pending earlier more once =
    let test : Answer → Bool = λ answer. list_any (is_answered_by answer) pending in
    let calls : List CallName = map call_of (filter test more) in
    let set : IsSet calls = fewer_calls test more (set_after (map call_of earlier) (map call_of more) (subst (λ (xs : List CallName). IsSet xs) (map-append call_of earlier more) once)) in
    let inside : (call : CallName) → Has call calls → Has call (calls_made pending) = λ call h.
    let from = mapped_has call_of call (filter test more) h in
    subst (λ (other : CallName). Has other (calls_made pending)) (sym from.2) (awaited_call from.0 pending (has_passing test from.0 more from.1).1) in
    let within : length calls ≤ length (calls_made pending) = set_within calls (calls_made pending) set inside in
    let few : length (calls_made pending) ≤ length pending = calls_few pending in
    let replies : length (replies_to me pending more) ≡ length (filter test more) = length-map (filter test more) (reply_of me) in
    let same : length calls ≡ length (filter test more) = length-map (filter test more) call_of in
    omega (arith, within, few, replies, same)

-- ---- one action after another

module _ {S : Type 0} (next : S → Action → S) (answers : S → Action → List Answer) where
  pub applies_then : (before after further : Contents) (old new newer : Applied S) (xs ys : List Answer) → AppliesMore next answers before after old new xs → AppliesMore next answers after further new newer ys
      → AppliesMore next answers before further old newer (xs ++ ys)
  applies_then before after further old new newer xs ys one other = record {
    begin = other.begin ∙ one.begin;
    taken = other.taken;
    places = other.places ∙ one.places;
    longer = omega (arith, one.longer, other.longer);
    given = other.given ∙ ap (λ (given : List Answer). given ++ ys) one.given ∙ append_assoc (outcome next answers old).given xs ys;
  }

  given_one : (r : Replayed S) (action : Action) (b : Bool)
      → (if b then record { state = next r.state action; kept = r.kept ++ action ∷ []; given = r.given ++ answers r.state action } else r).given
      ≡ r.given ++ (if b then answers r.state action else [])
  given_one r action true = refl
  given_one r action false = sym (append-nil r.given)

  -- the machine applies what the log took
  pub applies_one : (log after : Contents) (old new : Applied S) (action : Action) (given : List Answer) → new ≡ record old { actions = old.actions ++ action ∷ [] }
      → given ≡ answers_after next answers (outcome next answers old) action → old.actions ≡ log.taken → after.taken ≡ log.taken ++ action ∷ [] → after.places ≡ log.places
      → AppliesMore next answers log after old new given
  applies_one log after old new action given is stated taken took places =
      let r = outcome next answers old in
      let longer : length after.taken ≡ length log.taken + 1 = ap length took ∙ length-append log.taken (action ∷ []) in
      record {
        begin = ap (λ (a : Applied S). a.begin) is;
        taken = ap (λ (a : Applied S). a.actions) is ∙ ap (λ (actions : List Action). actions ++ action ∷ []) taken ∙ sym took;
        places = places;
        longer = omega (arith, longer);
        given = ap (λ (a : Applied S). (outcome next answers a).given) is
            ∙ ap (λ (all : Replayed S). all.given) (replay_from-append next answers (unmoved old.begin) old.actions (action ∷ []))
            ∙ given_one r action (counts r.kept r.given action)
            ∙ ap (λ (more : List Answer). r.given ++ more) (sym stated);
      }

  pub applies_none : (log : Contents) (applied : Applied S) → applied.actions ≡ log.taken → AppliesMore next answers log log applied applied []
  applies_none log applied taken = record {
    begin = refl;
    taken = taken;
    places = refl;
    longer = omega arith;
    given = sym (append-nil (outcome next answers applied).given);
  }

  module _ (me : ℕ) (pending : List Action) where
    module _ (before after further : Contents) (old new newer : Applied S) (out said : Sending) (given : List Answer)
        (so_far : HasReplied next answers me pending before after old new out said) (one : AppliesMore next answers after further new newer given)
        (once : IsSet (map call_of (outcome next answers newer).given)) where
      few_more : length (replies_to me pending (so_far.more ++ given)) ≤ length pending
      few_more =
          let all = applies_then before after further old new newer so_far.more given so_far.applies one in
          few_replies me pending (outcome next answers old).given (so_far.more ++ given) (subst (λ (xs : List Answer). IsSet (map call_of xs)) all.given once)

      both_long : length (replies_to me pending (so_far.more ++ given)) ≡ length (replies_to me pending so_far.more) + length (replies_to me pending given)
      both_long = ap length (replies_append me pending so_far.more given) ∙ length-append (replies_to me pending so_far.more) (replies_to me pending given)

      -- there is room for the replies to one action more
      pub room_left : longest_text * length pending ≤ out.room → longest_text * length (replies_to me pending given) ≤ said.room
      room_left room = omega (arith, few_more, both_long, so_far.room, room)

      -- and they are after the others
      pub replied_more : (saying : Sending) → saying.sent ≡ said.sent ++ (replies_to me pending given) → said.room ≤ saying.room + longest_text * length (replies_to me pending given)
          → HasReplied next answers me pending before further old newer out saying
      replied_more saying sent room = record {
        more = so_far.more ++ given;
        applies = applies_then before after further old new newer so_far.more given so_far.applies one;
        sent = sent
            ∙ ap (λ (r : List Message). r ++ (replies_to me pending given)) so_far.sent
            ∙ append_assoc out.sent (replies_to me pending so_far.more) (replies_to me pending given)
            ∙ ap (λ (l : List Message). out.sent ++ l) (sym (replies_append me pending so_far.more given));
        few = few_more;
        room = omega (arith, both_long, so_far.room, room);
      }
