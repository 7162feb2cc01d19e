-- The timing events have the names and the handlers of the table.
use Rattle.std.proofs.Common.{◌≡◌, ℕ, List, map, ap, rules, sym, ◌∙◌}
use Rattle.std.specs.Prelude.{string_bytes, String}
use Rattle.std.specs.declared.alloc.Global.{Global}
use Rattle.std.specs.Map.Iter.{deref_pair}
use Rattle.std.proofs.lemmas.Map.Iter.{iter_end}
use Rattle.rp_object.specs.declared.program.Handler.{Handler}
use Rattle.rp_deck_declarations.proofs.RightLemmas.{map_map}
use Rattle.rp_deck_declarations.proofs.program.timing_events.Goals as goal

pub returns-clause-handlers : goal.returns-clause-handlers
returns-clause-handlers c =
    let entries = c.args.timers.now.entries in
    let start : c.into_iter-name-iterator.result ≡ entries = search rules in
    let shown : map deref_pair c.loop-name.yielded ≡ entries = (iter_end deref_pair entries c.loop-name.yielded c.into_iter-name-iterator.result _ _ _ start c.loop-name.yielded_by c.in-None.is c.next.ensures.steps).0 in
    let handler : String Global × Handler → Handler = λ e. e.1 in
    c.loop-name.invariant.handlers ∙ sym (map_map handler deref_pair c.loop-name.yielded) ∙ ap (map handler) shown

pub returns-clause-names : goal.returns-clause-names
returns-clause-names c =
    let entries = c.args.timers.now.entries in
    let start : c.into_iter-name-iterator.result ≡ entries = search rules in
    let shown : map deref_pair c.loop-name.yielded ≡ entries = (iter_end deref_pair entries c.loop-name.yielded c.into_iter-name-iterator.result _ _ _ start c.loop-name.yielded_by c.in-None.is c.next.ensures.steps).0 in
    let name : String Global → List ℕ = λ key. string_bytes key in
    let first : String Global × Handler → String Global = λ e. e.0 in
    let name_of : String Global × Handler → List ℕ = λ e. name e.0 in
    c.loop-name.invariant.names ∙ sym (map_map name_of deref_pair c.loop-name.yielded) ∙ ap (map name_of) shown ∙ sym (map_map name first entries)
