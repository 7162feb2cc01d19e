-- What the counts of votes hold.
use Rattle.std.proofs.Common.{◌≤◌, cond, ◌≡◌, ◌≢◌, ℕ, zero, suc, ◌+◌, ◌<◌, Bool, true, false, Option, Some, None, List, [], ◌∷◌, ◌++◌, length, map, set, refl, sym, ap, subst, ◌∙◌, inl, inr, arith, append_assoc}
use Rattle.std.specs.Prelude.{nat_eq, slice_get, filter, unwrap_or}
use Rattle.std.specs.Bool.{Decides}
use Rattle.std.proofs.lemmas.Bool.{cases_Bool, cases_eq, both_ways, eq-eqb, eqb-true, and_from, and_parts, cond-true, cond-false}
use Rattle.std.proofs.lemmas.Bool.Decides.{Decides-eqb}
use Rattle.std.proofs.lemmas.List.{map-append, append-nil}
use Rattle.std.proofs.lemmas.List.Elements.{filter-append}
use Rattle.rp_base.specs.declared.record.Vote.{Vote}
use Rattle.rp_base.specs.Sets.{Has, IsSet, SameMembers, with_member, with_members}
use Rattle.rp_base.specs.Number.{in_range}
use Rattle.rp_base.specs.Majority.{nodes_among}
use Rattle.rp_base.specs.Promises.{same_vote}
use Rattle.rp_base.proofs.Sameness.{vote_equal, vote_same, decides_same}
use Rattle.rp_base.proofs.Members.{has_split, has_left, has_right, has_mapped, has_with, with_has, has_members, member_stays, set_more, set_with, set_members, set_passing, same_size, same_with, same_passing}
use Rattle.rp_learner.specs.declared.vote_counts.VoteCount.{VoteCount}
use Rattle.rp_learner.specs.Casts.{CastVote, casts_in, casts_of, AreVoteCounts, index_from, same_cast, voters_with}

cast_equal : (c d : CastVote) → same_cast c d ≡ true → c ≡ d
cast_equal c d e =
    let both = and_parts _ _ e in
    let from : c.from ≡ d.from = eqb-true c.from d.from both.0 in
    let vote : c.vote ≡ d.vote = vote_equal c.vote d.vote both.1 in
    λ i. record { from = from i; vote = vote i }

pub cast_decides : (c d : CastVote) → Decides (same_cast c d) (c ≡ d)
cast_decides c d = decides_same same_cast (λ x. and_from _ _ (eq-eqb x.from x.from refl) (vote_same x.vote)) c d (cast_equal c d)

-- what an `Option` holds
some_is : {x y : VoteCount} → Some x ≡ Some y → x ≡ y
some_is {x} {y} e = ap (λ (o : Option VoteCount). unwrap_or o x) e

-- the element that was written, and the others
pub get_written : {A : Type 0} (xs : List A) (k : ℕ) (x : A) → k < length xs → slice_get (set xs k x) k ≡ Some x
get_written [] k x lt = absurd (omega (arith, lt))
get_written (y ∷ xs) zero x lt = refl
get_written (y ∷ xs) (suc k) x lt = get_written xs k x (omega (arith, lt))

pub get_other : {A : Type 0} (xs : List A) (k j : ℕ) (x : A) → j ≢ k → slice_get (set xs k x) j ≡ slice_get xs j
get_other [] k j x ne = refl
get_other (y ∷ xs) zero zero x ne = absurd (ne refl)
get_other (y ∷ xs) zero (suc j) x ne = refl
get_other (y ∷ xs) (suc k) zero x ne = refl
get_other (y ∷ xs) (suc k) (suc j) x ne = get_other xs k j x (λ e. ne (ap suc e))

get_within : (ts : List VoteCount) (n : ℕ) (t : VoteCount) → slice_get ts n ≡ Some t → n < length ts
get_within [] n t h = absurd (cc)
get_within (u ∷ ts) zero t h = omega arith
get_within (u ∷ ts) (suc n) t h = omega (arith, get_within ts n t h)

get_has : (ts : List VoteCount) (n : ℕ) (t : VoteCount) → slice_get ts n ≡ Some t → Has t ts
get_has [] n t h = absurd (cc)
get_has (u ∷ ts) zero t h = inl (sym (some_is h))
get_has (u ∷ ts) (suc n) t h = inr (get_has ts n t h)

-- ---- finding the count of a vote

pub index_found : (ts : List VoteCount) (k j : ℕ) (vote : Vote) → index_from k vote ts ≡ Some j → (n : ℕ) × (t : VoteCount) × (j ≡ k + n) × (slice_get ts n ≡ Some t) × (t.vote ≡ vote)
index_found [] k j vote h = absurd (cc)
index_found (t ∷ ts) k j vote h =
    elim (cases_Bool (same_vote t.vote vote)) [
      | inl hit ↦
          let is : Some k ≡ Some j = sym (cond-true (same_vote t.vote vote) (Some k) (index_from (suc k) vote ts) hit) ∙ h in
          let at : k ≡ j = cc in
          (0, t, omega (arith, at), refl, vote_equal t.vote vote hit)
      | inr miss ↦
          let rest = index_found ts (suc k) j vote (sym (cond-false (same_vote t.vote vote) (Some k) (index_from (suc k) vote ts) miss) ∙ h) in
          (suc rest.0, rest.1, omega (arith, rest.2), rest.3, rest.4)
    ]

pub index_none : (ts : List VoteCount) (k : ℕ) (vote : Vote) → index_from k vote ts ≡ None → ¬ Has vote (map (λ t. t.vote) ts)
index_none [] k vote h m = m
index_none (t ∷ ts) k vote h m =
    elim (cases_Bool (same_vote t.vote vote)) [
      | inl hit ↦
          let is : Some k ≡ None = sym (cond-true (same_vote t.vote vote) (Some k) (index_from (suc k) vote ts) hit) ∙ h in
          absurd (cc)
      | inr miss ↦ elim m [
        | inl e ↦ absurd (both_ways (same_vote t.vote vote) miss (subst (λ (v : Vote). same_vote v vote ≡ true) e (vote_same vote)))
        | inr later ↦ index_none ts (suc k) vote (sym (cond-false (same_vote t.vote vote) (Some k) (index_from (suc k) vote ts) miss) ∙ h) later
      ]
    ]

-- the count found has its vote, and is there
pub index_at : (ts : List VoteCount) (j : ℕ) (vote : Vote) → index_from 0 vote ts ≡ Some j → (t : VoteCount) × (j < length ts) × (slice_get ts j ≡ Some t) × (t.vote ≡ vote)
index_at ts j vote h =
    let hit = index_found ts 0 j vote h in
    let at : slice_get ts j ≡ Some hit.1 = subst (λ (n : ℕ). slice_get ts n ≡ Some hit.1) (sym (omega (arith, hit.2))) hit.3 in
    (hit.1, get_within ts j hit.1 at, at, hit.4)

pub index_is : (ts : List VoteCount) (j : ℕ) (vote : Vote) (t : VoteCount) → index_from 0 vote ts ≡ Some j → slice_get ts j ≡ Some t → t.vote ≡ vote
index_is ts j vote t h at =
    let hit = index_at ts j vote h in
    ap (λ (s : VoteCount). s.vote) (some_is (sym at ∙ hit.2)) ∙ hit.3

-- what neither the first nor the others count
pub no_other : (t : VoteCount) (ts : List VoteCount) (vote : Vote) → same_vote t.vote vote ≡ false → ¬ Has vote (map (λ s. s.vote) ts) → ¬ Has vote (map (λ s. s.vote) (t ∷ ts))
no_other t ts vote miss none h =
    elim h [
      | inl e ↦ both_ways (same_vote t.vote vote) miss (subst (λ (v : Vote). same_vote v vote ≡ true) e (vote_same vote))
      | inr later ↦ none later
    ]

-- ---- who cast a vote

-- the senders of a vote, by the votes that were cast
abbrev pub senders_cast : Vote → List CastVote → List ℕ
senders_cast vote votes = map (λ c. c.from) (filter (λ c. same_vote c.vote vote) votes)

abbrev casts_by : Vote → List ℕ → List CastVote
casts_by vote nodes = map (λ node. record { from = node; vote = vote }) nodes

senders_same : (v vote : Vote) (nodes : List ℕ) → same_vote v vote ≡ true → senders_cast vote (casts_by v nodes) ≡ nodes
senders_same v vote [] hit = refl
senders_same v vote (n ∷ nodes) hit =
    let rest : List CastVote = filter (λ (c : CastVote). same_vote c.vote vote) (casts_by v nodes) in
    ap (map (λ (c : CastVote). c.from)) (cond-true (same_vote v vote) (record { from = n; vote = v } ∷ rest) rest hit)
    ∙ ap (λ (l : List ℕ). n ∷ l) (senders_same v vote nodes hit)

senders_other : (v vote : Vote) (nodes : List ℕ) → same_vote v vote ≡ false → senders_cast vote (casts_by v nodes) ≡ []
senders_other v vote [] miss = refl
senders_other v vote (n ∷ nodes) miss =
    let rest : List CastVote = filter (λ (c : CastVote). same_vote c.vote vote) (casts_by v nodes) in
    ap (map (λ (c : CastVote). c.from)) (cond-false (same_vote v vote) (record { from = n; vote = v } ∷ rest) rest miss)
    ∙ senders_other v vote nodes miss

senders-append : (vote : Vote) (a b : List CastVote) → senders_cast vote (a ++ b) ≡ senders_cast vote a ++ senders_cast vote b
senders-append vote a b =
    ap (map (λ (c : CastVote). c.from)) (filter-append (λ (c : CastVote). same_vote c.vote vote) a b)
    ∙ map-append (λ (c : CastVote). c.from) (filter (λ (c : CastVote). same_vote c.vote vote) a) (filter (λ (c : CastVote). same_vote c.vote vote) b)

differs : (v vote : Vote) → ¬ (vote ≡ v) → same_vote v vote ≡ false
differs v vote ne = elim (cases_Bool (same_vote v vote)) [ inl hit ↦ absurd (ne (sym (vote_equal v vote hit))) | inr miss ↦ miss ]

senders_none : (ts : List VoteCount) (vote : Vote) → ¬ Has vote (map (λ t. t.vote) ts) → senders_cast vote (casts_of ts) ≡ []
senders_none [] vote none = refl
senders_none (t ∷ ts) vote none =
    senders-append vote (casts_in t) (casts_of ts)
    ∙ ap (λ (l : List ℕ). l ++ senders_cast vote (casts_of ts)) (senders_other t.vote vote t.senders (differs t.vote vote (λ e. none (inl e))))
    ∙ senders_none ts vote (λ h. none (inr h))

senders_at : (ts : List VoteCount) (n : ℕ) (t : VoteCount) (vote : Vote) → AreVoteCounts ts → slice_get ts n ≡ Some t → t.vote ≡ vote → senders_cast vote (casts_of ts) ≡ t.senders
senders_at [] n t vote are at is = absurd (cc)
senders_at (u ∷ ts) zero t vote are at is =
    let same : u ≡ t = some_is at in
    let voted : u.vote ≡ vote = ap (λ (s : VoteCount). s.vote) same ∙ is in
    senders-append vote (casts_in u) (casts_of ts)
    ∙ ap (λ (l : List ℕ). senders_cast vote (casts_in u) ++ l) (senders_none ts vote (λ h. are.0 (subst (λ (v : Vote). Has v (map (λ (s : VoteCount). s.vote) ts)) (sym voted) h)))
    ∙ append-nil (senders_cast vote (casts_in u))
    ∙ senders_same u.vote vote u.senders (subst (λ (v : Vote). same_vote u.vote v ≡ true) voted (vote_same u.vote))
    ∙ ap (λ (s : VoteCount). s.senders) same
senders_at (u ∷ ts) (suc n) t vote are at is =
    let there : Has vote (map (λ (s : VoteCount). s.vote) ts) =
    subst (λ (v : Vote). Has v (map (λ (s : VoteCount). s.vote) ts)) is (has_mapped (λ (s : VoteCount). s.vote) t ts (get_has ts n t at)) in
    senders-append vote (casts_in u) (casts_of ts)
    ∙ ap (λ (l : List ℕ). l ++ senders_cast vote (casts_of ts))
    (senders_other u.vote vote u.senders (differs u.vote vote (λ e. are.0 (subst (λ (v : Vote). Has v (map (λ (s : VoteCount). s.vote) ts)) e there))))
    ∙ senders_at ts n t vote are.1 at is

-- a set's members, each once, are as many
as_many : (n : ℕ) (xs : List ℕ) (from : ℕ) → IsSet xs
    → length (nodes_among n (with_member nat_eq xs from)) ≡ length (nodes_among n (with_member nat_eq (with_members nat_eq [] xs) from))
as_many n xs from distinct =
    let once : List ℕ = with_members nat_eq [] xs in
    let all : List ℕ = with_member nat_eq xs from in
    let each : List ℕ = with_member nat_eq once from in
    same_size (nodes_among n all) (nodes_among n each)
    (set_passing (in_range 1 n) all (set_with nat_eq Decides-eqb xs from distinct))
    (set_passing (in_range 1 n) each (set_with nat_eq Decides-eqb once from (set_members nat_eq Decides-eqb [] xs tt)))
    (same_passing (in_range 1 n) all each (same_with nat_eq Decides-eqb from xs once (λ x. (
      λ h. member_stays nat_eq Decides-eqb x [] xs h,
      λ h. elim (has_members nat_eq Decides-eqb x [] xs h) [ inl none ↦ absurd none | inr there ↦ there ],
    ))))

pub count_at : (ts : List VoteCount) (k : ℕ) (t : VoteCount) (n from : ℕ) (vote : Vote) → AreVoteCounts ts → slice_get ts k ≡ Some t → t.vote ≡ vote → IsSet t.senders
    → length (nodes_among n (with_member nat_eq t.senders from)) ≡ length (nodes_among n (voters_with (casts_of ts) from vote))
count_at ts k t n from vote are at is distinct =
    as_many n t.senders from distinct
    ∙ ap (λ (l : List ℕ). length (nodes_among n (with_member nat_eq (with_members nat_eq [] l) from))) (sym (senders_at ts k t vote are at is))

pub count_none : (ts : List VoteCount) (n from : ℕ) (vote : Vote) → ¬ Has vote (map (λ t. t.vote) ts)
    → length (nodes_among n (with_member nat_eq [] from)) ≡ length (nodes_among n (voters_with (casts_of ts) from vote))
count_none ts n from vote none = ap (λ (l : List ℕ). length (nodes_among n (with_member nat_eq (with_members nat_eq [] l) from))) (sym (senders_none ts vote none))

one_at_most : (is_one : Bool) (from : ℕ) → length (cond is_one (from ∷ []) []) ≤ 1
one_at_most true from = omega arith
one_at_most false from = omega arith

-- a vote alone is of one node at most
pub alone : (nodes from : ℕ) → length (nodes_among nodes (from ∷ [])) ≤ 1
alone nodes from = one_at_most (in_range 1 nodes from) from

-- ---- one more vote

cast_by : (vote : Vote) (nodes : List ℕ) (c : CastVote) → Has c (casts_by vote nodes) → Has c.from nodes × (c.vote ≡ vote)
cast_by vote [] c h = absurd h
cast_by vote (n ∷ nodes) c h =
    elim h [
      | inl e ↦ (inl (ap (λ (d : CastVote). d.from) e), ap (λ (d : CastVote). d.vote) e)
      | inr later ↦ let rest = cast_by vote nodes c later in (inr rest.0, rest.1)
    ]

is_cast_by : (vote : Vote) (nodes : List ℕ) (c : CastVote) → Has c.from nodes → c.vote ≡ vote → Has c (casts_by vote nodes)
is_cast_by vote nodes c there voted =
    subst (λ (v : Vote). Has c (casts_by v nodes)) voted (has_mapped (λ (n : ℕ). record { from = n; vote = c.vote }) c.from nodes there)

cast_where : (ts : List VoteCount) (c : CastVote) → Has c (casts_of ts) → (n : ℕ) × (t : VoteCount) × (slice_get ts n ≡ Some t) × Has c.from t.senders × (c.vote ≡ t.vote)
cast_where [] c h = absurd h
cast_where (t ∷ ts) c h =
    elim (has_split c (casts_in t) (casts_of ts) h) [
      | inl here ↦ let hit = cast_by t.vote t.senders c here in (0, t, refl, hit.0, hit.1)
      | inr later ↦ let rest = cast_where ts c later in (suc rest.0, rest.1, rest.2, rest.3, rest.4)
    ]

cast_there : (ts : List VoteCount) (n : ℕ) (t : VoteCount) (c : CastVote) → slice_get ts n ≡ Some t → Has c.from t.senders → c.vote ≡ t.vote → Has c (casts_of ts)
cast_there [] n t c at there voted = absurd (cc)
cast_there (u ∷ ts) zero t c at there voted =
    has_left c (casts_in u) (casts_of ts) (subst (λ (s : VoteCount). Has c (casts_in s)) (sym (some_is at)) (is_cast_by t.vote t.senders c there voted))
cast_there (u ∷ ts) (suc n) t c at there voted = has_right c (casts_in u) (casts_of ts) (cast_there ts n t c at there voted)

-- the count of a vote with one sender more
pub heard_at : (ts : List VoteCount) (n : ℕ) (t u : VoteCount) (from : ℕ) (vote : Vote) → slice_get ts n ≡ Some t → t.vote ≡ vote → u.vote ≡ vote
    → SameMembers u.senders (with_member nat_eq t.senders from)
    → SameMembers (casts_of (set ts n u)) (with_member same_cast (casts_of ts) (record { from = from; vote = vote }))
heard_at ts n t u from vote at voted still more c =
    let cast : CastVote = record { from = from; vote = vote } in
    let now : slice_get (set ts n u) n ≡ Some u = get_written ts n u (get_within ts n t at) in (
      λ h.
          let hit = cast_where (set ts n u) c h in
          with_has same_cast cast_decides c cast (casts_of ts) (elim (cases_eq hit.0 n) [
            | inl same ↦
                let it : hit.1 ≡ u = some_is (sym hit.2 ∙ ap (slice_get (set ts n u)) same ∙ now) in
                let is : c.vote ≡ vote = hit.4 ∙ ap (λ (s : VoteCount). s.vote) it ∙ still in
                elim (has_with nat_eq Decides-eqb c.from from t.senders ((more c.from).0 (subst (λ (s : VoteCount). Has c.from s.senders) it hit.3))) [
                  | inl old ↦ inl (cast_there ts n t c at old (is ∙ sym voted))
                  | inr new ↦ inr (λ i. record { from = new i; vote = is i })
                ]
            | inr other ↦ inl (cast_there ts hit.0 hit.1 c (sym (get_other ts n hit.0 u other) ∙ hit.2) hit.3 hit.4)
          ]),
      λ h. elim (has_with same_cast cast_decides c cast (casts_of ts) h) [
        | inl old ↦
            let hit = cast_where ts c old in
            elim (cases_eq hit.0 n) [
              | inl same ↦
                  let it : hit.1 ≡ t = some_is (sym hit.2 ∙ ap (slice_get ts) same ∙ at) in
                  cast_there (set ts n u) n u c now
                  ((more c.from).1 (with_has nat_eq Decides-eqb c.from from t.senders (inl (subst (λ (s : VoteCount). Has c.from s.senders) it hit.3))))
                  (hit.4 ∙ ap (λ (s : VoteCount). s.vote) it ∙ voted ∙ sym still)
              | inr other ↦ cast_there (set ts n u) hit.0 hit.1 c (get_other ts n hit.0 u other ∙ hit.2) hit.3 hit.4
            ]
        | inr new ↦
            cast_there (set ts n u) n u c now
            ((more c.from).1 (with_has nat_eq Decides-eqb c.from from t.senders (inr (ap (λ (d : CastVote). d.from) new))))
            (ap (λ (d : CastVote). d.vote) new ∙ sym still)
      ],
    )

same_votes : (ts : List VoteCount) (n : ℕ) (t u : VoteCount) → slice_get ts n ≡ Some t → u.vote ≡ t.vote → map (λ s. s.vote) (set ts n u) ≡ map (λ s. s.vote) ts
same_votes [] n t u at same = refl
same_votes (s ∷ ts) zero t u at same = ap (λ (v : Vote). v ∷ map (λ (s : VoteCount). s.vote) ts) (same ∙ ap (λ (s : VoteCount). s.vote) (sym (some_is at)))
same_votes (s ∷ ts) (suc n) t u at same = ap (λ (l : List Vote). s.vote ∷ l) (same_votes ts n t u at same)

pub still_counts : (ts : List VoteCount) (n : ℕ) (t u : VoteCount) → slice_get ts n ≡ Some t → u.vote ≡ t.vote → AreVoteCounts ts → AreVoteCounts (set ts n u)
still_counts ts n t u at same are = subst (λ (l : List Vote). IsSet l) (sym (same_votes ts n t u at same)) are

-- one count alone
pub one_cast : (t : VoteCount) (from : ℕ) (vote : Vote) → t.vote ≡ vote → SameMembers t.senders (from ∷ []) → SameMembers (casts_of (t ∷ [])) (record { from = from; vote = vote } ∷ [])
one_cast t from vote voted alone c = (
  λ h. elim (has_split c (casts_in t) [] h) [
    | inl here ↦
        let hit = cast_by t.vote t.senders c here in
        elim ((alone c.from).0 hit.0) [ inl e ↦ inl (λ i. record { from = e i; vote = (hit.1 ∙ voted) i }) | inr none ↦ absurd none ]
    | inr none ↦ absurd none
  ],
  λ h. elim h [
    | inl e ↦ has_left c (casts_in t) [] (is_cast_by t.vote t.senders c ((alone c.from).1 (inl (ap (λ (d : CastVote). d.from) e))) (ap (λ (d : CastVote). d.vote) e ∙ sym voted))
    | inr none ↦ absurd none
  ],
)

casts-append : (ts us : List VoteCount) → casts_of (ts ++ us) ≡ casts_of ts ++ casts_of us
casts-append [] us = refl
casts-append (t ∷ ts) us = ap (λ (l : List CastVote). casts_in t ++ l) (casts-append ts us) ∙ sym (append_assoc (casts_in t) (casts_of ts) (casts_of us))

-- a count of a vote that has none
pub heard_first : (ts : List VoteCount) (u : VoteCount) (from : ℕ) (vote : Vote) → u.vote ≡ vote → SameMembers u.senders (from ∷ [])
    → SameMembers (casts_of (ts ++ u ∷ [])) (with_member same_cast (casts_of ts) (record { from = from; vote = vote }))
heard_first ts u from vote voted alone c =
    let cast : CastVote = record { from = from; vote = vote } in
    let one = one_cast u from vote voted alone c in (
      λ h. with_has same_cast cast_decides c cast (casts_of ts) (elim (has_split c (casts_of ts) (casts_of (u ∷ [])) (subst (λ (l : List CastVote). Has c l) (casts-append ts (u ∷ [])) h)) [
        | inl old ↦ inl old
        | inr new ↦ elim (one.0 new) [ inl e ↦ inr e | inr none ↦ absurd none ]
      ]),
      λ h. subst (λ (l : List CastVote). Has c l) (sym (casts-append ts (u ∷ []))) (elim (has_with same_cast cast_decides c cast (casts_of ts) h) as (λ _. Has c (casts_of ts ++ casts_of (u ∷ []))) [
        | inl old ↦ has_left c (casts_of ts) (casts_of (u ∷ [])) old
        | inr e ↦ has_right c (casts_of ts) (casts_of (u ∷ [])) (one.1 (inl e))
      ]),
    )

pub more_counts : (ts : List VoteCount) (u : VoteCount) (vote : Vote) → u.vote ≡ vote → ¬ Has vote (map (λ t. t.vote) ts) → AreVoteCounts ts → AreVoteCounts (ts ++ u ∷ [])
more_counts ts u vote voted none are =
    subst (λ (l : List Vote). IsSet l) (sym (map-append (λ (t : VoteCount). t.vote) ts (u ∷ [])))
    (set_more (map (λ (t : VoteCount). t.vote) ts) u.vote are (λ h. none (subst (λ (v : Vote). Has v (map (λ (t : VoteCount). t.vote) ts)) voted h)))

-- a vote that has no count was not heard
pub unheard : (ts : List VoteCount) (from : ℕ) (vote : Vote) → ¬ Has vote (map (λ t. t.vote) ts) → ¬ Has (record { from = from; vote = vote }) (casts_of ts)
unheard ts from vote none h =
    let hit = cast_where ts (record { from = from; vote = vote }) h in
    none (subst (λ (v : Vote). Has v (map (λ (t : VoteCount). t.vote) ts)) (sym hit.4) (has_mapped (λ (t : VoteCount). t.vote) hit.1 ts (get_has ts hit.0 hit.1 hit.2)))

-- no counts
pub no_counts : (ts : List VoteCount) → length ts ≡ 0 → ts ≡ []
no_counts [] none = refl
no_counts (t ∷ ts) none = absurd (omega (arith, none))
