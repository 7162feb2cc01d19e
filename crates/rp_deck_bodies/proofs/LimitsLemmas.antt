-- The limits of a body, line by line.
use Rattle.std.proofs.Common.{◌≡◌, ℕ, zero, suc, ◌+◌, ◌-◌, ◌<◌, ◌≤◌, List, [], ◌∷◌, ◌++◌, ◌&&◌, Bool, true, false, max, length, Option, Some, None, arith, ap, refl, sym, subst, ◌∙◌, length-append}
use Rattle.std.specs.Prelude.{All, IsTrue, Vec, nat_lt}
use Rattle.std.specs.declared.alloc.Global.{Global}
use Rattle.rp_body.specs.Check.{expr_fits, cond_fits, count_step, depth_step, fits_step, stmt_count, statement_count, stmt_depth, depth_of, stmt_fits, body_fits}
use Rattle.rp_body.specs.declared.components.Limits.{Limits}
use Rattle.rp_body.specs.declared.expression.Cond.{Cond}
use Rattle.rp_body.specs.declared.expression.Expr.{Expr}
use Rattle.rp_body.specs.declared.statement.Stmt.{Stmt}
use Rattle.rp_body.specs.declared.statement.Stmt.TheOpen.{Stmt-F}
use Rattle.rp_body.specs.declared.statement.Stmt.TheFolds.{fold-roll-Stmt}
use Rattle.rp_body.specs.declared.statement.Stmt.TheVariants.{Set, Put, Out, rolls-Set, rolls-Put, rolls-Out}
use Rattle.std.specs.List.{sum_by}
use Rattle.std.proofs.lemmas.Bool.{lt-ltb}
use Rattle.std.proofs.lemmas.List.Sums.{sum-map, sum_by-append}
use Rattle.rp_deck_bodies.specs.declared.names.Component.{Component}
use Rattle.rp_deck_bodies.specs.declared.statements.BodyDraft.{BodyDraft}
use Rattle.rp_deck_bodies.specs.declared.statements.OpenIf.{OpenIf}
use Rattle.rp_deck_bodies.specs.BodyLimits.{part_count, part_depth, part_fits, ifs_count, AreWithin, IfFits, KeepsBody, IsBody}
use Rattle.rp_deck_bodies.specs.Counted.{WhereCounted}
use Rattle.rp_deck_bodies.proofs.CountedLemmas.{both_true, all_front}
use Rattle.rp_deck_bodies.proofs.ListLemmas.{all_last}

-- ---- a statement more

count_last : (xs : List Stmt) (s : Stmt) → statement_count (xs ++ s ∷ []) ≡ statement_count xs + stmt_count s
count_last xs s =
    let whole : statement_count (xs ++ s ∷ []) ≡ sum_by stmt_count (xs ++ s ∷ []) = sum-map stmt_count (xs ++ s ∷ []) in
    let front : statement_count xs ≡ sum_by stmt_count xs = sum-map stmt_count xs in
    let more : sum_by stmt_count (xs ++ s ∷ []) ≡ sum_by stmt_count xs + sum_by stmt_count (s ∷ []) = sum_by-append stmt_count xs (s ∷ []) in
    let one : sum_by stmt_count (s ∷ []) ≡ stmt_count s = omega arith in
    omega arith

depth_last : (xs : List Stmt) (s : Stmt) (n : ℕ) → depth_of xs ≤ n → stmt_depth s ≤ n → depth_of (xs ++ s ∷ []) ≤ n
depth_last [] s n h k = omega arith
depth_last (x ∷ xs) s n h k = omega (arith, depth_last xs s n (omega arith) k)

both_of : (a b : Bool) → IsTrue (a && b) → IsTrue a × IsTrue b
both_of true true h = (refl, refl)
both_of true false h = absurd (cc)
both_of false b h = absurd (cc)

fits_last : (limits : Limits) (xs : List Stmt) (s : Stmt) → IsTrue (body_fits limits xs) → IsTrue (stmt_fits limits s) → IsTrue (body_fits limits (xs ++ s ∷ []))
fits_last limits [] s h k = both_true (stmt_fits limits s) true k refl
fits_last limits (x ∷ xs) s h k =
    let t = both_of (stmt_fits limits x) (body_fits limits xs) h in
    both_true (stmt_fits limits x) (body_fits limits (xs ++ s ∷ [])) t.0 (fits_last limits xs s t.1 k)

-- ---- an `if` more

ifs_count_last : (xs : List OpenIf) (i : OpenIf) → ifs_count (xs ++ i ∷ []) ≡ ifs_count xs + (1 + statement_count i.before.items + part_count i.first)
ifs_count_last [] i = omega arith
ifs_count_last (x ∷ xs) i = omega (arith, ifs_count_last xs i)

within_last : (most : ℕ) (xs : List OpenIf) (i : OpenIf) → AreWithin most xs → depth_of i.before.items + length xs ≤ most → 1 + part_depth i.first + length xs ≤ most → AreWithin most (xs ++ i ∷ [])
within_last most [] i all before first = (omega arith, omega arith, tt)
within_last most (x ∷ xs) i all before first = (all.0, all.1, within_last (most - 1) xs i all.2 (omega arith) (omega arith))

within_front : (most : ℕ) (xs : List OpenIf) (i : OpenIf) → AreWithin most (xs ++ i ∷ []) → AreWithin most xs × (depth_of i.before.items + length xs ≤ most) × (1 + part_depth i.first + length xs ≤ most)
within_front most [] i all = (tt, omega (arith, all.0), omega (arith, all.1))
within_front most (x ∷ xs) i all =
    let rest = within_front (most - 1) xs i all.2 in
    ((all.0, all.1, rest.0), omega (arith, rest.1, rest.2), omega (arith, rest.2))

end_of : {X : Type 0} (P : X → Type 0) (xs : List X) (x : X) → All P (xs ++ x ∷ []) → P x
end_of P [] x all = all zero x (omega arith)
end_of P (y ∷ ys) x all = end_of P ys x (λ i d below. all (suc i) d (omega (arith, below)))

-- ---- what each line keeps

pub counts : (declared : List Component) (ifs : List OpenIf) (statements : List Stmt) (left less : ℕ) → KeepsBody declared 0 ifs statements left → length ifs < 8 → less + 1 ≡ left → KeepsBody declared 1 ifs statements less
counts declared ifs statements left less k room is = record {
  count = omega arith;
  room = omega arith;
  within = k.within;
  depth = k.depth;
  fit_ifs = k.fit_ifs;
  fit = k.fit;
}

pub adds : (declared : List Component) (ifs : List OpenIf) (statements new : List Stmt) (left : ℕ) (s : Stmt) → KeepsBody declared 1 ifs statements left → new ≡ statements ++ s ∷ [] → stmt_count s ≡ 1 → stmt_depth s ≡ 1
    → WhereCounted declared (λ limits. IsTrue (stmt_fits limits s)) → KeepsBody declared 0 ifs new left
adds declared ifs statements new left s k is count depth fits =
    subst (λ (l : List Stmt). KeepsBody declared 0 ifs l left) (sym is) (record {
      count = omega (arith, count_last statements s, k.count);
      room = omega (arith, k.room);
      within = k.within;
      depth = let d = depth_last statements s (8 - length ifs) (omega (arith, k.depth)) (omega (arith, k.room)) in omega (arith, d, k.room);
      fit_ifs = k.fit_ifs;
      fit = λ limits counted. fits_last limits statements s (k.fit limits counted) (fits limits counted);
    })

pub begins : (declared : List Component) (ifs new : List OpenIf) (statements : List Stmt) (left : ℕ) (i : OpenIf) → KeepsBody declared 1 ifs statements left → new ≡ ifs ++ i ∷ [] → i.before.items ≡ statements → i.first ≡ None
    → WhereCounted declared (λ limits. IsTrue (cond_fits limits i.cond)) → KeepsBody declared 0 new [] left
begins declared ifs new statements left i k is before first cond =
    let none : part_count i.first ≡ 0 = ap part_count first in
    let flat : part_depth i.first ≡ 0 = ap part_depth first in
    let count : statement_count i.before.items ≡ statement_count statements = ap (λ (l : List Stmt). statement_count l) before in
    let depth : depth_of i.before.items ≡ depth_of statements = ap (λ (l : List Stmt). depth_of l) before in
    subst (λ (l : List OpenIf). KeepsBody declared 0 l [] left) (sym is) (record {
      count = omega (arith, ifs_count_last ifs i, none, count, k.count);
      room = omega (arith, length-append ifs (i ∷ []), k.room);
      within = within_last 8 ifs i k.within (omega (arith, depth, k.depth)) (omega (arith, flat, k.room));
      depth = omega (arith, length-append ifs (i ∷ []), k.room);
      fit_ifs = λ limits counted. all_last (IfFits limits) ifs i (k.fit_ifs limits counted) (record {
        cond = cond limits counted;
        before = subst (λ (l : List Stmt). IsTrue (body_fits limits l)) (sym before) (k.fit limits counted);
        first = subst (λ (o : Option (Vec Stmt Global)). IsTrue (part_fits limits o)) (sym first) refl;
      });
      fit = λ limits counted. refl;
    })

pub turns_at : (declared : List Component) (rest new : List OpenIf) (statements : List Stmt) (left : ℕ) (i after : OpenIf) (first : Vec Stmt Global) → KeepsBody declared 0 (rest ++ i ∷ []) statements left → new ≡ rest ++ after ∷ []
    → after.cond ≡ i.cond → after.before ≡ i.before → after.first ≡ Some first → first.items ≡ statements → KeepsBody declared 0 new [] left
turns_at declared rest new statements left i after first k is cond before part items =
    let count : statement_count after.before.items ≡ statement_count i.before.items = ap (λ (v : Vec Stmt Global). statement_count v.items) before in
    let depth : depth_of after.before.items ≡ depth_of i.before.items = ap (λ (v : Vec Stmt Global). depth_of v.items) before in
    let counted : part_count after.first ≡ statement_count statements = ap part_count part ∙ ap (λ (l : List Stmt). statement_count l) items in
    let deep : part_depth after.first ≡ depth_of statements = ap part_depth part ∙ ap (λ (l : List Stmt). depth_of l) items in
    let within = within_front 8 rest i k.within in
    subst (λ (l : List OpenIf). KeepsBody declared 0 l [] left) (sym is) (record {
      count = omega (arith, ifs_count_last rest i, ifs_count_last rest after, count, counted, k.count);
      room = omega (arith, length-append rest (i ∷ []), length-append rest (after ∷ []), k.room);
      within = within_last 8 rest after within.0 (omega (arith, depth, within.1)) (omega (arith, deep, k.depth, length-append rest (i ∷ [])));
      depth = omega (arith, length-append rest (i ∷ []), length-append rest (after ∷ []), k.room);
      fit_ifs = λ limits all. all_last (IfFits limits) rest after (all_front (IfFits limits) rest i (k.fit_ifs limits all))
          (let was = end_of (IfFits limits) rest i (k.fit_ifs limits all) in record {
            cond = subst (λ c. IsTrue (cond_fits limits c)) (sym cond) was.cond;
            before = subst (λ (v : Vec Stmt Global). IsTrue (body_fits limits v.items)) (sym before) was.before;
            first = subst (λ (o : Option (Vec Stmt Global)). IsTrue (part_fits limits o)) (sym part) (subst (λ (l : List Stmt). IsTrue (body_fits limits l)) (sym items) (k.fit limits all));
          });
      fit = λ limits all. refl;
    })

pub closes : (declared : List Component) (rest : List OpenIf) (statements new : List Stmt) (left : ℕ) (i : OpenIf) (s : Stmt) → KeepsBody declared 0 (rest ++ i ∷ []) statements left → new ≡ i.before.items ++ s ∷ []
    → stmt_count s ≡ 1 + part_count i.first + statement_count statements → stmt_depth s ≡ 1 + max (part_depth i.first) (depth_of statements)
    → ((limits : Limits) → IsTrue (cond_fits limits i.cond) → IsTrue (part_fits limits i.first) → IsTrue (body_fits limits statements) → IsTrue (stmt_fits limits s)) → KeepsBody declared 0 rest new left
closes declared rest statements new left i s k is count depth fits =
    let within = within_front 8 rest i k.within in
    let len = length-append rest (i ∷ []) in
    subst (λ (l : List Stmt). KeepsBody declared 0 rest l left) (sym is) (record {
      count = omega (arith, ifs_count_last rest i, count_last i.before.items s, count, k.count);
      room = omega (arith, len, k.room);
      within = within.0;
      depth = let d = depth_last i.before.items s (8 - length rest) (omega (arith, within.1)) (omega (arith, depth, within.2, k.depth, len)) in omega (arith, d, within.2);
      fit_ifs = λ limits all. all_front (IfFits limits) rest i (k.fit_ifs limits all);
      fit = λ limits all. let was = end_of (IfFits limits) rest i (k.fit_ifs limits all) in
          fits_last limits i.before.items s was.before (fits limits was.cond was.first (k.fit limits all));
    })

-- ---- statements without an `if` count as one, and are 1 deep

abbrev pub IsOne : Stmt → Type 0
IsOne s = (stmt_count s ≡ 1) × (stmt_depth s ≡ 1)

pub set_is_one : (place : ℕ) (value : Expr) → IsOne (Set place value)
set_is_one place value =
    (ap stmt_count (sym (rolls-Set place value)) ∙ fold-roll-Stmt ℕ count_step (Stmt-F.Set place value), ap stmt_depth (sym (rolls-Set place value)) ∙ fold-roll-Stmt ℕ depth_step (Stmt-F.Set place value))

pub put_is_one : (place : ℕ) (value : Cond) → IsOne (Put place value)
put_is_one place value =
    (ap stmt_count (sym (rolls-Put place value)) ∙ fold-roll-Stmt ℕ count_step (Stmt-F.Put place value), ap stmt_depth (sym (rolls-Put place value)) ∙ fold-roll-Stmt ℕ depth_step (Stmt-F.Put place value))

pub out_is_one : (value : Expr) → IsOne (Out value)
out_is_one value =
    (ap stmt_count (sym (rolls-Out value)) ∙ fold-roll-Stmt ℕ count_step (Stmt-F.Out value), ap stmt_depth (sym (rolls-Out value)) ∙ fold-roll-Stmt ℕ depth_step (Stmt-F.Out value))

pub set_fits : (limits : Limits) (place : ℕ) (value : Expr) → place < limits.ints → IsTrue (expr_fits limits value) → IsTrue (stmt_fits limits (Set place value))
set_fits limits place value counted fits =
    ap (stmt_fits limits) (sym (rolls-Set place value)) ∙ fold-roll-Stmt Bool (fits_step limits) (Stmt-F.Set place value)
    ∙ both_true (nat_lt place limits.ints) (expr_fits limits value) (lt-ltb place limits.ints counted) fits

pub put_fits : (limits : Limits) (place : ℕ) (value : Cond) → place < limits.bools → IsTrue (cond_fits limits value) → IsTrue (stmt_fits limits (Put place value))
put_fits limits place value counted fits =
    ap (stmt_fits limits) (sym (rolls-Put place value)) ∙ fold-roll-Stmt Bool (fits_step limits) (Stmt-F.Put place value)
    ∙ both_true (nat_lt place limits.bools) (cond_fits limits value) (lt-ltb place limits.bools counted) fits

pub out_fits : (limits : Limits) (value : Expr) → IsTrue (expr_fits limits value) → IsTrue (stmt_fits limits (Out value))
out_fits limits value fits = ap (stmt_fits limits) (sym (rolls-Out value)) ∙ fold-roll-Stmt Bool (fits_step limits) (Stmt-F.Out value) ∙ fits

-- ---- the same of a body

pub body_adds : (declared : List Component) (old new : BodyDraft) (s : Stmt) → IsBody declared 1 old → new.statements.items ≡ old.statements.items ++ s ∷ [] → (new.ifs ≡ old.ifs) × (new.left ≡ old.left) → IsOne s
    → WhereCounted declared (λ limits. IsTrue (stmt_fits limits s)) → IsBody declared 0 new
body_adds declared old new s k is same one fits =
    subst (λ (v : Vec OpenIf Global). KeepsBody declared 0 v.items new.statements.items new.left) (sym same.0)
    (subst (λ (n : ℕ). KeepsBody declared 0 old.ifs.items new.statements.items n) (sym same.1) (adds declared old.ifs.items old.statements.items new.statements.items old.left s k is one.0 one.1 fits))
