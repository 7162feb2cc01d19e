-- One key for the empty order.
use Rattle.std.proofs.Common.{◌≡◌, ◌∷◌, ◌++◌, ℕ, List, [], if◌then◌else◌, inl, inr, ap, sym, subst, ◌∙◌}
use Rattle.std.specs.List.{list_any}
use Rattle.rp_base.specs.declared.action.Action.{Action}
use Rattle.rp_base.specs.declared.reply.Answer.{Answer}
use Rattle.rp_machine.specs.Numbered.{Applied, outcome}
use Rattle.rp_orders.specs.Orders.{IsGuarded}
use Rattle.rp_orders.specs.declared.guard.Guard.{Guard}
use Rattle.rp_orders.proofs.Guarding.{guarded_none}
use Rattle.rp_explore.specs.declared.key.Key.{Key}
use Rattle.rp_explore.specs.Keys.{IsKeyOf, AreKeys}
use Rattle.rp_explore.specs.Listed.{Listed, AreGuarded}
use Rattle.rp_explore.proofs.TableLemmas.{same_key}
use Rattle.rp_explore.proofs.search.Search.new.Goals as goal

-- the first key is alone
alone : (old new : List Key) (key : Key) → old ≡ [] → new ≡ (if list_any (same_key key) old then old else old ++ key ∷ []) → new ≡ key ∷ []
alone old new key empty is = is ∙ ap (λ (xs : List Key). if list_any (same_key key) xs then xs else xs ++ key ∷ []) empty

-- the start is that of the empty order
first_key : {S : Type 0} (next : S → Action → S) (answers : S → Action → List Answer) (begin : S) (guards : List Guard) (shown : S → List ℕ) (known : List (List ℕ)) (start : Applied S) (keys : List Key) (key : Key) (orders : List (List Action))
    → start ≡ record { begin = begin; actions = [] } → IsKeyOf shown guards known (outcome next answers start) key → keys ≡ key ∷ [] → orders ≡ [] ∷ []
    → AreKeys next answers begin guards shown known keys orders × AreGuarded next answers begin guards orders
first_key {S} next answers begin guards shown known start keys key orders is own alone only =
    let here : Applied S = record { begin = begin; actions = [] } in
    let there : IsKeyOf shown guards known (outcome next answers here) key = subst (λ (a : Applied S). IsKeyOf shown guards known (outcome next answers a) key) is own in (
      subst (λ (ks : List Key). AreKeys next answers begin guards shown known ks orders) (sym alone)
          (subst (λ (os : List (List Action)). AreKeys next answers begin guards shown known (key ∷ []) os) (sym only) (there, tt)),
      subst (λ (os : List (List Action)). AreGuarded next answers begin guards os) (sym only) (λ order h. elim h [
        | inl same ↦ subst (λ (o : List Action). IsGuarded next answers begin guards o) (sym same) (guarded_none next answers begin guards)
        | inr none ↦ absurd none
      ]),
    )

pub invariant_of-result : goal.invariant_of-result
invariant_of-result g c =
    let m = g.M.Machine in
    let key = c.in_ok-key.key in
    first_key m.next m.answers (m.begin c.args.program.now) c.args.guards.now m.image c.key_of.new.pieces c.in_ok-start.start c.insert.new.self.keys key c.in_ok-tree.tree.orders c.in_ok-start.ensures c.in_ok-key.ensures.value
    (alone c.new-3.result.keys c.insert.new.self.keys key c.new-3.ensures.empty c.in_ok-insert.ensures.keys)
    (ap (λ (l : Listed). l.orders) c.in_ok-tree.ensures)
