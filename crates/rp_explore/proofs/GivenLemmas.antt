-- The answers that are given, and what gives each first.
use Rattle.std.proofs.Common.{◌≡◌, ◌↔◌, ℕ, zero, suc, ◌+◌, ◌-◌, ◌<◌, Bool, true, false, List, [], ◌∷◌, ◌++◌, length, get_or, map, if◌then◌else◌, inl, inr, sym, ◌∙◌, ap, subst, refl, arith, append-nil, append_assoc, length-append}
use Rattle.std.proofs.lemmas.List.{get_or_append_left, get_or-append_right, length-map, map-append}
use Rattle.std.proofs.lemmas.Bool.{cases_lt}
use Rattle.rp_base.specs.Sets.{Has, IsSet}
use Rattle.rp_base.specs.declared.action.Action.{Action}
use Rattle.rp_base.specs.declared.action.Action.TheVariants.{Noop}
use Rattle.rp_base.specs.declared.reply.Answer.{Answer}
use Rattle.rp_machine.specs.Replay.{replay_of, answers_after}
use Rattle.rp_machine.specs.Numbered.{Applied, outcome}
use Rattle.rp_machine.proofs.Calling.{has_left, has_right, has_either, set_append}
use Rattle.rp_orders.specs.Guards.{is_allowed}
use Rattle.rp_orders.specs.declared.guard.Guard.{Guard}
use Rattle.rp_explore.specs.declared.giver.Giver.{Giver}
use Rattle.rp_explore.specs.Listed.{order_at}
use Rattle.rp_explore.specs.Searched.{Searched, Extends, MayFollowAt, GivesAtAction, IsEarlier, IsGivenBefore, IsFirstOfAll, AreGivenBefore, AreAnswersNoted, given_next}
use Rattle.rp_explore.proofs.Lists.{has_at}
use Rattle.rp_explore.proofs.VisitLemmas.{moved, back}

-- ---- what is noted

pub noted_none : (giver : Giver) (old : List Answer) (givers : List Giver) → AreAnswersNoted [] giver old givers old givers
noted_none giver old givers = record {
  more = [];
  replies = sym (append-nil old);
  givers_too = sym (append-nil givers);
  fresh = λ answer h. absurd h;
  all = λ answer h. absurd h;
  once = λ set. set;
}

-- an answer that was given before
pub noted_old : (x : Answer) (giver : Giver) (old : List Answer) (givers : List Giver) → Has x old → AreAnswersNoted (x ∷ []) giver old givers old givers
noted_old x giver old givers there = record {
  more = [];
  replies = sym (append-nil old);
  givers_too = sym (append-nil givers);
  fresh = λ answer h. absurd h;
  all = λ answer h. elim h [ inl same ↦ subst (λ (a : Answer). Has a old) (sym same) there | inr none ↦ absurd none ];
  once = λ set. set;
}

-- and one that was not
pub noted_new : (x : Answer) (giver : Giver) (old new : List Answer) (givers more_givers : List Giver) → (¬ Has x old) → new ≡ old ++ x ∷ [] → more_givers ≡ givers ++ giver ∷ [] → AreAnswersNoted (x ∷ []) giver old givers new more_givers
noted_new x giver old new givers more_givers none is by =
    let apart : (a : Answer) → Has a (x ∷ []) → ¬ Has a old = λ a h there. elim h [ inl same ↦ none (subst (λ (y : Answer). Has y old) same there) | inr empty ↦ absurd empty ] in
    record {
      more = x ∷ [];
      replies = is;
      givers_too = by;
      fresh = λ answer h. (h, apart answer h);
      all = λ answer h. subst (λ (xs : List Answer). Has answer xs) (sym is) (has_right answer old (x ∷ []) h);
      once = λ set. subst (λ (xs : List Answer). IsSet xs) (sym is) (set_append old (x ∷ []) set ((λ h. h), tt) apart);
    }

pub noted_join : (some rest : List Answer) (giver : Giver) (a b c : List Answer) (x y z : List Giver) → AreAnswersNoted some giver a x b y → AreAnswersNoted rest giver b y c z → AreAnswersNoted (some ++ rest) giver a x c z
noted_join some rest giver a b c x y z one other = record {
  more = one.more ++ other.more;
  replies = other.replies ∙ ap (λ (xs : List Answer). xs ++ other.more) one.replies ∙ append_assoc a one.more other.more;
  givers_too =
      other.givers_too ∙ ap (λ (gs : List Giver). gs ++ map (λ (answer : Answer). giver) other.more) one.givers_too
      ∙ append_assoc x (map (λ (answer : Answer). giver) one.more) (map (λ (answer : Answer). giver) other.more)
      ∙ ap (λ (gs : List Giver). x ++ gs) (sym (map-append (λ (answer : Answer). giver) one.more other.more));
  fresh = λ answer h. elim (has_either answer one.more other.more h) [
    | inl first ↦ let f = one.fresh answer first in (has_left answer some rest f.0, f.1)
    | inr second ↦
        let f = other.fresh answer second in
        (has_right answer some rest f.0, λ there. f.1 (subst (λ (xs : List Answer). Has answer xs) (sym one.replies) (has_left answer a one.more there)))
  ];
  all = λ answer h. elim (has_either answer some rest h) [
    | inl first ↦ subst (λ (xs : List Answer). Has answer xs) (sym other.replies) (has_left answer b other.more (one.all answer first))
    | inr second ↦ other.all answer second
  ];
  once = λ set. other.once (one.once set);
}

-- the giver of the answers that were noted
giver_at : (giver d : Giver) (more : List Answer) (k : ℕ) → k < length more → get_or (map (λ (answer : Answer). giver) more) k d ≡ giver
giver_at giver d [] k lt = absurd (omega arith)
giver_at giver d (x ∷ xs) zero lt = refl
giver_at giver d (x ∷ xs) (suc k) lt = giver_at giver d xs k (omega arith)

module _ {S : Type 0} (next : S → Action → S) (answers : S → Action → List Answer) where
  -- what is said of an order
  abbrev gives_it : ℕ → Answer → S → List Guard → List Action → List Action → Type 0
  gives_it index answer begin guards may order = Has answer (given_next next answers guards (replay_of next answers begin order) (get_or may index Noop))

  -- an action that the guards let be decided gives what it gives
  pub gives_parts : (s : Searched S) (place index : ℕ) (answer : Answer) → GivesAtAction next answers s place index answer
      ↔ (MayFollowAt next answers s place index × Has answer (answers_after next answers (replay_of next answers s.begin (order_at s.listed.orders place)) (get_or s.listed.may index Noop)))
  gives_parts s place index answer =
      let r = replay_of next answers s.begin (order_at s.listed.orders place) in
      let action = get_or s.listed.may index Noop in
      by (is_allowed s.guards r.kept r.given action) (answers_after next answers r action)
    where
      by : (b : Bool) (xs : List Answer) → Has answer (if b then xs else []) ↔ ((b ≡ true) × Has answer xs)
      by true xs = (λ h. (refl, h), λ h. h.1)
      by false xs = (λ h. absurd h, λ h. let met : false ≡ true = h.0 in absurd (cc))

  module _ (old new : Searched S) (e : Extends old new) where
    same_may : length new.listed.may ≡ length old.listed.may
    same_may = ap length e.may

    earlier_on : (place count at index : ℕ) → IsEarlier old place count at index → IsEarlier new place count at index
    earlier_on place count at index h = elim h [ inl before ↦ inl (before.0, omega (arith, same_may, before.1)) | inr here ↦ inr here ]

    earlier_back : (place count at index : ℕ) → IsEarlier new place count at index → IsEarlier old place count at index
    earlier_back place count at index h = elim h [ inl before ↦ inl (before.0, omega (arith, same_may, before.1)) | inr here ↦ inr here ]

    at_within : (s : Searched S) (place count at index : ℕ) → place < length s.listed.orders → IsEarlier s place count at index → at < length s.listed.orders
    at_within s place count at index lt h = elim h [ inl before ↦ omega (arith, before.0) | inr here ↦ omega (arith, here.0) ]

    before_on : (place count : ℕ) (answer : Answer) → place < length old.listed.orders → IsGivenBefore next answers old place count answer → IsGivenBefore next answers new place count answer
    before_on place count answer lt b = record {
      at = b.at;
      index = b.index;
      earlier = earlier_on place count b.at b.index b.earlier;
      gives = moved (gives_it b.index answer) old new b.at e (at_within old place count b.at b.index lt b.earlier) b.gives;
    }

    before_back : (place count : ℕ) (answer : Answer) → place < length old.listed.orders → IsGivenBefore next answers new place count answer → IsGivenBefore next answers old place count answer
    before_back place count answer lt b =
        let earlier = earlier_back place count b.at b.index b.earlier in
        record {
          at = b.at;
          index = b.index;
          earlier = earlier;
          gives = back (gives_it b.index answer) old new b.at e (at_within old place count b.at b.index lt earlier) b.gives;
        }

    first_on : (place count : ℕ) (answer : Answer) (giver : Giver) → place < length old.listed.orders → IsFirstOfAll next answers old place count answer giver → IsFirstOfAll next answers new place count answer giver
    first_on place count answer giver lt f =
        let there = at_within old place count giver.place giver.action lt f.earlier in
        record {
          earlier = earlier_on place count giver.place giver.action f.earlier;
          gives = moved (gives_it giver.action answer) old new giver.place e there f.gives;
          first = λ b. f.first (before_back giver.place giver.action answer there b);
        }

    wider_earlier : (place k at index : ℕ) → IsEarlier new place k at index → IsEarlier new place (k + 1) at index
    wider_earlier place k at index h = elim h [ inl before ↦ inl before | inr here ↦ inr (here.0, omega (arith, here.1)) ]

    -- one action more
    pub given_more : (place k : ℕ) (given more_given : List Answer) (givers more_givers : List Giver) (gave : List Answer) (applied : Applied S) → place < length old.listed.orders
        → applied.begin ≡ old.begin → applied.actions ≡ order_at old.listed.orders place
        → gave ≡ given_next next answers old.guards (outcome next answers applied) (get_or old.listed.may k Noop)
        → AreAnswersNoted gave (record { place = place; action = k }) given givers more_given more_givers
        → AreGivenBefore next answers old place k given givers → AreGivenBefore next answers new place (k + 1) more_given more_givers
    given_more place k given more_given givers more_givers gave applied lt starts acts gives noted before =
        let this : Giver = record { place = place; action = k } in
        let same : applied ≡ record { begin = old.begin; actions = order_at old.listed.orders place } = λ i. record { begin = starts i; actions = acts i } in
        let is : gave ≡ given_next next answers old.guards (replay_of next answers old.begin (order_at old.listed.orders place)) (get_or old.listed.may k Noop) =
        gives ∙ ap (λ (a : Applied S). given_next next answers old.guards (outcome next answers a) (get_or old.listed.may k Noop)) same in
        let now : (answer : Answer) → Has answer gave → GivesAtAction next answers new place k answer =
        λ answer h. moved (gives_it k answer) old new place e lt (subst (λ (xs : List Answer). Has answer xs) is h) in
        let shown : (answer : Answer) → GivesAtAction next answers new place k answer → Has answer gave =
        λ answer g. subst (λ (xs : List Answer). Has answer xs) (sym is) (back (gives_it k answer) old new place e lt g) in
        let there : (answer : Answer) → Has answer given → Has answer more_given = λ answer h. subst (λ (xs : List Answer). Has answer xs) (sym noted.replies) (has_left answer given noted.more h) in
        record {
          replies = λ answer. (
            λ h. elim (has_either answer given noted.more (subst (λ (xs : List Answer). Has answer xs) noted.replies h)) [
              | inl old_one ↦
                  let b = before_on place k answer lt ((before.replies answer).0 old_one) in
                  record { at = b.at; index = b.index; earlier = wider_earlier place k b.at b.index b.earlier; gives = b.gives }
              | inr new_one ↦ record { at = place; index = k; earlier = inr (refl, omega arith); gives = now answer (noted.fresh answer new_one).0 }
            ],
            λ b. given_now place k answer given more_given gave lt (before.replies answer).1 (there answer) (noted.all answer) (shown answer) b,
          );
          set = noted.once before.set;
          size =
              ap length noted.givers_too ∙ length-append givers (map (λ (answer : Answer). this) noted.more)
              ∙ (let sizes = length-map noted.more (λ (answer : Answer). this) in let mine = before.size in let all : length more_given ≡ length given + length noted.more = ap length noted.replies ∙ length-append given noted.more in omega arith);
          first = λ j answer giver below. elim (cases_lt j (length given)) [
            | inl less ↦
                let f = first_on place k (get_or given j answer) (get_or givers j giver) lt (before.first j answer giver less) in
                let g : IsFirstOfAll next answers new place (k + 1) (get_or given j answer) (get_or givers j giver) =
                record { earlier = wider_earlier place k (get_or givers j giver).place (get_or givers j giver).action f.earlier; gives = f.gives; first = f.first } in
                let at : get_or more_given j answer ≡ get_or given j answer = ap (λ (xs : List Answer). get_or xs j answer) noted.replies ∙ get_or_append_left given noted.more answer j less in
                let by : get_or more_givers j giver ≡ get_or givers j giver =
                ap (λ (xs : List Giver). get_or xs j giver) noted.givers_too ∙ get_or_append_left givers (map (λ (a : Answer). this) noted.more) giver j (omega (arith, before.size)) in
                subst (λ (a : Answer). IsFirstOfAll next answers new place (k + 1) a (get_or more_givers j giver)) (sym at)
                (subst (λ (h : Giver). IsFirstOfAll next answers new place (k + 1) (get_or given j answer) h) (sym by) g)
            | inr rest ↦
                let n = length given in
                let low : j - n < length noted.more = (let all : length more_given ≡ n + length noted.more = ap length noted.replies ∙ length-append given noted.more in omega arith) in
                let own = get_or noted.more (j - n) answer in
                let f = noted.fresh own (has_at noted.more (j - n) answer low) in
                let g : IsFirstOfAll next answers new place (k + 1) own this = record {
                  earlier = inr (refl, omega arith);
                  gives = now own f.0;
                  first = λ b. f.1 ((before.replies own).1 (before_back place k own lt b));
                } in
                let at : get_or more_given j answer ≡ own = ap (λ (xs : List Answer). get_or xs j answer) noted.replies ∙ get_or-append_right given noted.more n j answer refl (omega arith) in
                let by : get_or more_givers j giver ≡ this =
                ap (λ (xs : List Giver). get_or xs j giver) noted.givers_too ∙ get_or-append_right givers (map (λ (a : Answer). this) noted.more) n j giver before.size (omega arith) ∙ giver_at this giver noted.more (j - n) low in
                subst (λ (a : Answer). IsFirstOfAll next answers new place (k + 1) a (get_or more_givers j giver)) (sym at)
                (subst (λ (h : Giver). IsFirstOfAll next answers new place (k + 1) own h) (sym by) g)
          ];
        }
      where
        given_now : (place k : ℕ) (answer : Answer) (given more_given gave : List Answer) → place < length old.listed.orders
            → (IsGivenBefore next answers old place k answer → Has answer given) → (Has answer given → Has answer more_given) → (Has answer gave → Has answer more_given)
            → (GivesAtAction next answers new place k answer → Has answer gave)
            → IsGivenBefore next answers new place (k + 1) answer → Has answer more_given
        given_now place k answer given more_given gave lt was stays all shown b = elim b.earlier [
          | inl before ↦ stays (was (before_back place k answer lt (record { at = b.at; index = b.index; earlier = inl before; gives = b.gives })))
          | inr here ↦ elim (cases_lt b.index k) [
            | inl less ↦ stays (was (before_back place k answer lt (record { at = b.at; index = b.index; earlier = inr (here.0, less); gives = b.gives })))
            | inr rest ↦
                let last : b.index ≡ k = omega (arith, here.1) in
                all (shown (subst (λ (p : ℕ). GivesAtAction next answers new p k answer) here.0 (subst (λ (j : ℕ). GivesAtAction next answers new b.at j answer) last b.gives)))
          ]
        ]

  -- once all actions were tried, the next order is
  next_earlier : (s : Searched S) (place at index : ℕ) → IsEarlier s place (length s.listed.may) at index → IsEarlier s (place + 1) 0 at index
  next_earlier s place at index h = elim h [ inl before ↦ inl (omega (arith, before.0), before.1) | inr here ↦ inl (omega (arith, here.0), here.1) ]

  last_earlier : (s : Searched S) (place at index : ℕ) → IsEarlier s (place + 1) 0 at index → IsEarlier s place (length s.listed.may) at index
  last_earlier s place at index h = elim h [
    | inl before ↦ elim (cases_lt at place) [ inl less ↦ inl (less, before.1) | inr rest ↦ inr (omega (arith, before.0), before.1) ]
    | inr here ↦ absurd (omega (arith, here.1))
  ]

  pub given_next_order : (s : Searched S) (place : ℕ) (given : List Answer) (givers : List Giver) → AreGivenBefore next answers s place (length s.listed.may) given givers → AreGivenBefore next answers s (place + 1) 0 given givers
  given_next_order s place given givers g = record {
    replies = λ answer. (
      λ h. let b = (g.replies answer).0 h in record { at = b.at; index = b.index; earlier = next_earlier s place b.at b.index b.earlier; gives = b.gives },
      λ b. (g.replies answer).1 (record { at = b.at; index = b.index; earlier = last_earlier s place b.at b.index b.earlier; gives = b.gives }),
    );
    set = g.set;
    size = g.size;
    first = λ k answer giver lt.
        let f = g.first k answer giver lt in
        record { earlier = next_earlier s place (get_or givers k giver).place (get_or givers k giver).action f.earlier; gives = f.gives; first = f.first };
  }
