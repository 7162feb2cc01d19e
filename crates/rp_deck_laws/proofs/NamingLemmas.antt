-- Expressions, conditions and bodies that name components have the words of those that number them.
use Rattle.std.proofs.Common.{◌≡◌, ℕ, ◌+◌, suc, List, [], ◌∷◌, ◌++◌, true, false, ap, refl}
use Rattle.std.specs.Prelude.{codes}
use Rattle.rp_deck_bodies.specs.declared.names.Component.{Component}
use Rattle.rp_deck_laws.specs.ExpressionTexts as texts
use Rattle.rp_deck_laws.specs.ExpressionTexts.{is_int, is_bool, component_name, HasOne, IsExprOf, IsCondOf}
use Rattle.rp_deck_laws.specs.BodyTexts as lines
use Rattle.rp_deck_laws.specs.BodyTexts.{IsBodyOf}
use Rattle.rp_deck_laws.specs.Names.{IsAmong, place_in}
use Rattle.rp_deck_laws.specs.Named.{NamedExpr, NamedCond, NamedBody}
use Rattle.rp_deck_laws.specs.Named.{NamedExpr as exprs}
use Rattle.rp_deck_laws.specs.Named.{NamedCond as conds}
use Rattle.rp_deck_laws.specs.Named.{NamedBody as bodies}
use Rattle.rp_deck_laws.specs.NamedTexts.{expr_words, cond_words, body_lines}
use Rattle.rp_deck_laws.specs.NamedMeanings.{expr_meant, cond_meant, body_meant}
use Rattle.rp_deck_laws.specs.RightDecks.{named_expr_nodes, named_cond_nodes, statements, HasNames, HasCondNames, IsRightBody}

-- the component with the place of a name has that name
pub record Finds (names : List (List ℕ)) (declared : List Component) (whole truths before_ints before_bools : List (List ℕ)) : Type 0 where
  pub int : (name : List ℕ) → IsAmong name before_ints → (component_name (is_int (place_in name whole)) names declared ≡ name) × HasOne (is_int (place_in name whole)) declared
  pub bool : (name : List ℕ) → IsAmong name before_bools → (component_name (is_bool (place_in name truths)) names declared ≡ name) × HasOne (is_bool (place_in name truths)) declared

-- as many nodes and statements
module _ (whole truths : List (List ℕ)) where
  pub nodes_same : (e : NamedExpr) → texts.expr_nodes (expr_meant whole truths e) ≡ named_expr_nodes e
  nodes_same (exprs.Number number) = refl
  nodes_same exprs.Arg = refl
  nodes_same exprs.Out = refl
  nodes_same (exprs.Int name) = refl
  nodes_same (exprs.Add a b) = λ i. 1 + (nodes_same a i + nodes_same b i)
  nodes_same (exprs.Sub a b) = λ i. 1 + (nodes_same a i + nodes_same b i)

  pub cond_nodes_same : (c : NamedCond) → texts.cond_nodes (cond_meant whole truths c) ≡ named_cond_nodes c
  cond_nodes_same (conds.Constant truth) = refl
  cond_nodes_same (conds.Named name) = refl
  cond_nodes_same (conds.Less a b) = λ i. 1 + (nodes_same a i + nodes_same b i)
  cond_nodes_same (conds.LessOrEqual a b) = λ i. 1 + (nodes_same a i + nodes_same b i)
  cond_nodes_same (conds.Equal a b) = λ i. 1 + (nodes_same a i + nodes_same b i)
  cond_nodes_same (conds.Not c) = λ i. 1 + cond_nodes_same c i
  cond_nodes_same (conds.And c d) = λ i. 1 + (cond_nodes_same c i + cond_nodes_same d i)
  cond_nodes_same (conds.Or c d) = λ i. 1 + (cond_nodes_same c i + cond_nodes_same d i)

  pub count_same : (b : NamedBody) → lines.body_count (body_meant whole truths b) ≡ statements b
  count_same bodies.Empty = refl
  count_same (bodies.Set earlier name value) = λ i. count_same earlier i + 1
  count_same (bodies.Put earlier name value) = λ i. count_same earlier i + 1
  count_same (bodies.Return earlier value) = λ i. count_same earlier i + 1
  count_same (bodies.If earlier condition first second) = λ i. count_same earlier i + 1 + count_same first i + count_same second i

module _ (names : List (List ℕ)) (declared : List Component) (whole truths own bown : List (List ℕ)) (f : Finds names declared whole truths own bown) where
  -- the same words
  pub expr_same : (e : NamedExpr) → HasNames own bown e → texts.expr_words names declared (expr_meant whole truths e) ≡ expr_words e
  expr_same (exprs.Number number) is = refl
  expr_same exprs.Arg is = refl
  expr_same exprs.Out is = refl
  expr_same (exprs.Int name) is = ap (λ (w : List ℕ). w ∷ []) (f.int name is).0
  expr_same (exprs.Add a b) is = λ i. codes "add" ∷ (expr_same a is.0 i ++ expr_same b is.1 i)
  expr_same (exprs.Sub a b) is = λ i. codes "sub" ∷ (expr_same a is.0 i ++ expr_same b is.1 i)

  pub cond_same : (c : NamedCond) → HasCondNames own bown c → texts.cond_words names declared (cond_meant whole truths c) ≡ cond_words c
  cond_same (conds.Constant true) is = refl
  cond_same (conds.Constant false) is = refl
  cond_same (conds.Named name) is = ap (λ (w : List ℕ). w ∷ []) (f.bool name is).0
  cond_same (conds.Less a b) is = λ i. codes "lt" ∷ (expr_same a is.0 i ++ expr_same b is.1 i)
  cond_same (conds.LessOrEqual a b) is = λ i. codes "le" ∷ (expr_same a is.0 i ++ expr_same b is.1 i)
  cond_same (conds.Equal a b) is = λ i. codes "eq" ∷ (expr_same a is.0 i ++ expr_same b is.1 i)
  cond_same (conds.Not c) is = λ i. codes "not" ∷ cond_same c is i
  cond_same (conds.And c d) is = λ i. codes "and" ∷ (cond_same c is.0 i ++ cond_same d is.1 i)
  cond_same (conds.Or c d) is = λ i. codes "or" ∷ (cond_same c is.0 i ++ cond_same d is.1 i)

  pub body_same : (deep : ℕ) (b : NamedBody) → IsRightBody own bown deep b → lines.body_lines names declared (body_meant whole truths b) ≡ body_lines b
  body_same deep bodies.Empty is = refl
  body_same deep (bodies.Set earlier name value) is = λ i. body_same deep earlier is.0 i ++ (codes "set" ∷ (f.int name is.2).0 i ∷ expr_same value is.3.0 i) ∷ []
  body_same deep (bodies.Put earlier name value) is = λ i. body_same deep earlier is.0 i ++ (codes "put" ∷ (f.bool name is.2).0 i ∷ cond_same value is.3.0 i) ∷ []
  body_same deep (bodies.Return earlier value) is = λ i. body_same deep earlier is.0 i ++ (codes "out" ∷ expr_same value is.2.0 i) ∷ []
  body_same deep (bodies.If earlier condition first second) is =
      λ i. body_same deep earlier is.0 i ++ ((codes "if" ∷ cond_same condition is.2.0 i)
      ∷ (body_same (suc deep) first is.3 i ++ ((codes "else" ∷ []) ∷ (body_same (suc deep) second is.4 i ++ (codes "end" ∷ []) ∷ []))))

  -- which are right
  pub expr_is : (e : NamedExpr) → HasNames own bown e → IsExprOf names declared (expr_meant whole truths e)
  expr_is (exprs.Number number) is = is
  expr_is exprs.Arg is = tt
  expr_is exprs.Out is = tt
  expr_is (exprs.Int name) is = (f.int name is).1
  expr_is (exprs.Add a b) is = (expr_is a is.0, expr_is b is.1)
  expr_is (exprs.Sub a b) is = (expr_is a is.0, expr_is b is.1)

  pub cond_is : (c : NamedCond) → HasCondNames own bown c → IsCondOf names declared (cond_meant whole truths c)
  cond_is (conds.Constant truth) is = tt
  cond_is (conds.Named name) is = (f.bool name is).1
  cond_is (conds.Less a b) is = (expr_is a is.0, expr_is b is.1)
  cond_is (conds.LessOrEqual a b) is = (expr_is a is.0, expr_is b is.1)
  cond_is (conds.Equal a b) is = (expr_is a is.0, expr_is b is.1)
  cond_is (conds.Not c) is = cond_is c is
  cond_is (conds.And c d) is = (cond_is c is.0, cond_is d is.1)
  cond_is (conds.Or c d) is = (cond_is c is.0, cond_is d is.1)

  pub body_is : (deep : ℕ) (b : NamedBody) → IsRightBody own bown deep b → IsBodyOf names declared deep (body_meant whole truths b)
  body_is deep bodies.Empty is = tt
  body_is deep (bodies.Set earlier name value) is = (body_is deep earlier is.0, is.1, (f.int name is.2).1, expr_is value is.3.0, rw (nodes_same whole truths value) is.3.1)
  body_is deep (bodies.Put earlier name value) is = (body_is deep earlier is.0, is.1, (f.bool name is.2).1, cond_is value is.3.0, rw (cond_nodes_same whole truths value) is.3.1)
  body_is deep (bodies.Return earlier value) is = (body_is deep earlier is.0, is.1, expr_is value is.2.0, rw (nodes_same whole truths value) is.2.1)
  body_is deep (bodies.If earlier condition first second) is =
      (body_is deep earlier is.0, is.1, cond_is condition is.2.0, rw (cond_nodes_same whole truths condition) is.2.1, body_is (suc deep) first is.3, body_is (suc deep) second is.4)
