-- A key for each order, and what equal keys say of two orders.
use Rattle.std.proofs.Common.{◌≡◌, ℕ, zero, suc, ◌<◌, Bool, true, false, ◌||◌, List, [], ◌∷◌, ◌++◌, length, get_or, Some, position, if◌then◌else◌, inl, inr, sym, ◌∙◌, ap, subst, refl, arith, true≢false}
use Rattle.std.proofs.lemmas.Bool.{cases_lt}
use Rattle.std.proofs.lemmas.List.Quantifiers.{position-Some}
use Rattle.std.specs.List.{list_any, IsDistinct, AllByRecursion}
use Rattle.rp_base.specs.Sets.{Has, IsSet}
use Rattle.rp_base.specs.declared.action.Action.{Action}
use Rattle.rp_base.specs.declared.reply.Answer.{Answer}
use Rattle.rp_machine.specs.Asked.{last_number, last_occurrence}
use Rattle.rp_machine.specs.Replay.{Replayed, replay_of}
use Rattle.rp_orders.specs.Guards.{may_go_on}
use Rattle.rp_orders.specs.Orders.{AreAlike, LeadAlike, IsReached}
use Rattle.rp_orders.specs.declared.guard.Guard.{Guard}
use Rattle.rp_explore.specs.Pieces.{AreMore, AreNumbers, lines_of}
use Rattle.rp_explore.specs.declared.key.Key.{Key}
use Rattle.rp_explore.specs.Keys.{IsKeyOf, AreEqual, AreKeys}
use Rattle.rp_explore.specs.Listed.{order_at, AreDistinct}
use Rattle.rp_explore.specs.contracts.key.KeyPartialEq.TheImpl.{eq-value}
use Rattle.rp_explore.proofs.KeyLemmas.{equal_keys, keys_equal, eight_alike, eight_same, one_truth}
use Rattle.rp_explore.proofs.PieceLemmas.{numbers_later, numbers_same, lines_same, texts_same}
use Rattle.rp_explore.specs.Searched.{Searched, IsAt}
use Rattle.rp_explore.proofs.Lists.{place_in, has_at}

abbrev pub same_key : Key → Key → Bool
same_key = eq-value.it

-- ---- lists of keys

-- where no item passes a test
pub none_passes : {A : Type 0} (test : A → Bool) (xs : List A) (i : ℕ) (d : A) → list_any test xs ≡ false → i < length xs → test (get_or xs i d) ≡ false
none_passes test [] i d e lt = absurd (omega arith)
none_passes test (x ∷ xs) i d e lt = by (test x) refl e i lt (λ j none. none_passes test xs j d none)
  where
    by : (b : Bool) → test x ≡ b → (b || list_any test xs) ≡ false → (i : ℕ) → i < length (x ∷ xs) → ((j : ℕ) → list_any test xs ≡ false → j < length xs → test (get_or xs j d) ≡ false) → test (get_or (x ∷ xs) i d) ≡ false
    by true is none i lt later = absurd (true≢false none)
    by false is none zero lt later = is
    by false is none (suc i) lt later = later i none (omega arith)

all_at : {A : Type 0} (P : A → Type 0) (xs : List A) (i : ℕ) (d : A) → AllByRecursion P xs → i < length xs → P (get_or xs i d)
all_at P [] i d all lt = absurd (omega arith)
all_at P (x ∷ xs) zero d all lt = all.0
all_at P (x ∷ xs) (suc i) d all lt = all_at P xs i d all.1 (omega arith)

-- no two keys at different places are equal
apart : (keys : List Key) (i j : ℕ) (d : Key) → IsDistinct same_key keys → i < j → j < length keys → same_key (get_or keys i d) (get_or keys j d) ≡ false
unfolding IsDistinct
apart [] i j d distinct less lt = absurd (omega arith)
apart (k ∷ ks) i zero d distinct less lt = absurd (omega arith)
apart (k ∷ ks) zero (suc j) d distinct less lt = all_at (λ (y : Key). same_key k y ≡ false) ks j d distinct.0 (omega arith)
apart (k ∷ ks) (suc i) (suc j) d distinct less lt = apart ks i j d distinct.1 (omega arith) (omega arith)

flip : (one other : Key) → AreEqual one other → AreEqual other one
flip one other same = record { lines = sym same.lines; numbers = sym same.numbers; occurrences = sym same.occurrences; allowed = sym same.allowed }

join : (one other third : Key) → AreEqual one other → AreEqual other third → AreEqual one third
join one other third a b = record { lines = a.lines ∙ b.lines; numbers = a.numbers ∙ b.numbers; occurrences = a.occurrences ∙ b.occurrences; allowed = a.allowed ∙ b.allowed }

-- so equal ones are at one place
pub one_place : (keys : List Key) (i j : ℕ) (d : Key) → IsDistinct same_key keys → i < length keys → j < length keys → AreEqual (get_or keys i d) (get_or keys j d) → i ≡ j
one_place keys i j d distinct one other same = elim (cases_lt i j) [
  | inl less ↦ absurd (true≢false (sym (keys_equal (get_or keys i d) (get_or keys j d) same) ∙ apart keys i j d distinct less other))
  | inr rest ↦ elim (cases_lt j i) [
    | inl more ↦ absurd (true≢false (sym (keys_equal (get_or keys j d) (get_or keys i d) (flip (get_or keys i d) (get_or keys j d) same)) ∙ apart keys j i d distinct more one))
    | inr last ↦ omega arith
  ]
]

module _ {S : Type 0} (next : S → Action → S) (answers : S → Action → List Answer) (begin : S) (guards : List Guard) (shown : S → List ℕ) (known : List (List ℕ)) where
  abbrev whole : List Action → Replayed S
  whole order = replay_of next answers begin order

  pub keys_length : (keys : List Key) (orders : List (List Action)) → AreKeys next answers begin guards shown known keys orders → length keys ≡ length orders
  keys_length [] [] all = refl
  keys_length [] (order ∷ orders) all = absurd all
  keys_length (key ∷ keys) [] all = absurd all
  keys_length (key ∷ keys) (order ∷ orders) all = let rest = keys_length keys orders all.1 in omega arith

  pub key_at : (keys : List Key) (orders : List (List Action)) (i : ℕ) (d : Key) → AreKeys next answers begin guards shown known keys orders → i < length orders
      → IsKeyOf shown guards known (whole (order_at orders i)) (get_or keys i d)
  key_at [] [] i d all lt = absurd (omega arith)
  key_at [] (order ∷ orders) i d all lt = absurd all
  key_at (key ∷ keys) [] i d all lt = absurd all
  key_at (key ∷ keys) (order ∷ orders) zero d all lt = all.0
  key_at (key ∷ keys) (order ∷ orders) (suc i) d all lt = key_at keys orders i d all.1 (omega arith)

  pub keys_push : (keys : List Key) (orders : List (List Action)) (key : Key) (order : List Action) → AreKeys next answers begin guards shown known keys orders → IsKeyOf shown guards known (whole order) key
      → AreKeys next answers begin guards shown known (keys ++ key ∷ []) (orders ++ order ∷ [])
  keys_push [] [] key order all own = (own, tt)
  keys_push [] (first ∷ orders) key order all own = absurd all
  keys_push (first ∷ keys) [] key order all own = absurd all
  keys_push (first ∷ keys) (one ∷ orders) key order all own = (all.0, keys_push keys orders key order all.1 own)

  -- states that are alike have equal keys
  pub alike_equal : (r s : Replayed S) (one other : Key) → IsSet known → IsKeyOf shown guards known r one → IsKeyOf shown guards known s other → AreAlike guards r s → AreEqual one other
  alike_equal r s one other set is are alike = record {
    lines = numbers_same known one.lines.items other.lines.items (lines_of (shown r.state)) set is.lines
        (subst (λ (st : S). AreNumbers known other.lines.items (lines_of (shown st))) (sym alike.state) are.lines);
    numbers = is.numbers ∙ eight_same 0 (λ task. last_number task r.kept) (λ task. last_number task s.kept) (λ task low high. alike.calls task (low, high)) ∙ sym are.numbers;
    occurrences = is.occurrences ∙ eight_same 0 (λ source. last_occurrence source r.kept) (λ source. last_occurrence source s.kept) (λ source low high. alike.occurrences source (low, high)) ∙ sym are.occurrences;
    allowed = is.allowed ∙ eight_same 0 (λ task. if may_go_on guards r.kept r.given task then 1 else 0) (λ task. if may_go_on guards s.kept s.given task then 1 else 0) (λ task low high. ap (λ (b : Bool). if b then 1 else 0) (alike.allowed task (low, high))) ∙ sym are.allowed;
  }

  -- and states with equal keys are alike, where equal images are those of equal states
  pub equal_alike : (r s : Replayed S) (one other : Key) → (shown r.state ≡ shown s.state → r.state ≡ s.state) → IsKeyOf shown guards known r one → IsKeyOf shown guards known s other → AreEqual one other → AreAlike guards r s
  equal_alike r s one other shows is are same = record {
    state = shows (texts_same (shown r.state) (shown s.state) (lines_same known other.lines.items (lines_of (shown r.state)) (lines_of (shown s.state))
        (subst (λ (ns : List ℕ). AreNumbers known ns (lines_of (shown r.state))) same.lines is.lines) are.lines));
    calls = λ task at. eight_alike 0 (λ t. last_number t r.kept) (λ t. last_number t s.kept) task at.0 at.1 (sym is.numbers ∙ same.numbers ∙ are.numbers);
    occurrences = λ source at. eight_alike 0 (λ t. last_occurrence t r.kept) (λ t. last_occurrence t s.kept) source at.0 at.1 (sym is.occurrences ∙ same.occurrences ∙ are.occurrences);
    allowed = λ task at. one_truth (may_go_on guards r.kept r.given task) (may_go_on guards s.kept s.given task)
        (eight_alike 0 (λ t. if may_go_on guards r.kept r.given t then 1 else 0) (λ t. if may_go_on guards s.kept s.given t then 1 else 0) task at.0 at.1 (sym is.allowed ∙ same.allowed ∙ are.allowed));
  }

  -- no two orders lead to one state
  pub distinct_orders : (keys : List Key) (orders : List (List Action)) → IsSet known → AreKeys next answers begin guards shown known keys orders → IsDistinct same_key keys → AreDistinct next answers begin guards orders
  distinct_orders [] orders set each distinct one other low high alike = let size = keys_length [] orders each in absurd (omega (arith, size))
  distinct_orders (d ∷ rest) orders set each distinct one other low high alike =
      let keys = d ∷ rest in
      let size : length keys ≡ length orders = keys_length keys orders each in
      one_place keys one other d distinct (omega (arith, size)) (omega (arith, size))
      (alike_equal (whole (order_at orders one)) (whole (order_at orders other)) (get_or keys one d) (get_or keys other d) set
      (key_at keys orders one d each low) (key_at keys orders other d each high) alike)

  -- an order with a key that the table has not leads to no state that it has
  pub not_reached : (keys : List Key) (orders : List (List Action)) (key : Key) (order : List Action) → IsSet known → AreKeys next answers begin guards shown known keys orders → IsKeyOf shown guards known (whole order) key → list_any (same_key key) keys ≡ false
      → ¬ IsReached next answers begin guards orders order
  not_reached keys orders key order set each own none reached =
      let at = place_in orders reached.0 [] reached.1 in
      let size = keys_length keys orders each in
      let other = get_or keys at.0 key in
      let there : IsKeyOf shown guards known (whole reached.0) other = subst (λ (o : List Action). IsKeyOf shown guards known (whole o) other) at.2 (key_at keys orders at.0 key each at.1) in
      let same = alike_equal (whole order) (whole reached.0) key other set own there reached.2 in
      true≢false (sym (keys_equal key other same) ∙ none_passes (same_key key) keys at.0 key none (omega (arith, size, at.1)))

  -- an order with a key that the table has leads to the state at its place
  pub there_at : (s : Searched S) (keys : List Key) (key : Key) (order : List Action) (place : ℕ) → s.begin ≡ begin → s.guards ≡ guards
      → ((other : List Action) → Has other s.listed.orders → shown (whole order).state ≡ shown (whole other).state → (whole order).state ≡ (whole other).state)
      → AreKeys next answers begin guards shown known keys s.listed.orders → IsKeyOf shown guards known (whole order) key → position (same_key key) keys ≡ Some place → IsAt next answers s order place
  there_at s keys key order place starts guarded shows each own found =
      let orders = s.listed.orders in
      let size = keys_length keys orders each in
      let at = position-Some (same_key key) keys place key found in
      let lt : place < length orders = omega (arith, size, at.0) in
      record {
        within = lt;
        alike = subst (λ (gs : List Guard). LeadAlike next answers s.begin gs order (order_at orders place)) (sym guarded)
            (subst (λ (b : S). LeadAlike next answers b guards order (order_at orders place)) (sym starts)
            (equal_alike (whole order) (whole (order_at orders place)) key (get_or keys place key) (shows (order_at orders place) (has_at orders place [] lt)) own (key_at keys orders place key each lt) (equal_keys key (get_or keys place key) at.1)));
      }

-- where more lines are known, keys are those of the same states
pub keys_later : {S : Type 0} (next : S → Action → S) (answers : S → Action → List Answer) (begin : S) (guards : List Guard) (shown : S → List ℕ) (known more : List (List ℕ)) (keys : List Key) (orders : List (List Action)) → AreMore known more
    → AreKeys next answers begin guards shown known keys orders → AreKeys next answers begin guards shown more keys orders
keys_later next answers begin guards shown known more [] [] grows all = tt
keys_later next answers begin guards shown known more [] (order ∷ orders) grows all = absurd all
keys_later next answers begin guards shown known more (key ∷ keys) [] grows all = absurd all
keys_later next answers begin guards shown known more (key ∷ keys) (order ∷ orders) grows all = (
  record {
    lines = numbers_later known more key.lines.items (lines_of (shown (replay_of next answers begin order).state)) grows all.0.lines;
    numbers = all.0.numbers;
    occurrences = all.0.occurrences;
    allowed = all.0.allowed;
  },
  keys_later next answers begin guards shown known more keys orders grows all.1,
)
