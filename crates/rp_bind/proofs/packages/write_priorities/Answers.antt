-- All priorities are written.
use Rattle.std.proofs.Common.{◌≡◌, ◌++◌, ℕ, List, map, ap, rules, sym, ◌∙◌, string_bytes}
use Rattle.std.specs.Prelude.{flat_map, String}
use Rattle.std.specs.declared.alloc.Global.{Global}
use Rattle.std.specs.Map.Iter.{deref_pair}
use Rattle.std.proofs.lemmas.Map.Iter.{iter_end}
use Rattle.std.proofs.lemmas.List.Folds.{flat_map-map}
use Rattle.rp_deck_declarations.specs.declared.deck_program.Task.{Task}
use Rattle.rp_bind.specs.declared.lines.Language.TheVariants.{Ada}
use Rattle.rp_bind.specs.Texts.{task_constant}
use Rattle.rp_bind_local.proofs.Adding.{written_more}
use Rattle.rp_bind.proofs.packages.write_priorities.Goals as goal

pub returns : goal.returns
returns c =
    let entries = c.args.tasks.now.entries in
    let start : c.into_iter-name-iterator.result ≡ entries = search rules in
    let shown : map deref_pair c.loop-name.yielded ≡ entries = (iter_end deref_pair entries c.loop-name.yielded c.into_iter-name-iterator.result _ _ _ start c.loop-name.yielded_by c.in-None.is c.next.ensures.steps).0 in
    let lines : String Global × Task → List ℕ = λ e. task_constant Ada (string_bytes e.0) e.1.priority in
    c.loop-name.invariant ∙ ap (λ (t : List ℕ). string_bytes c.args.text.now ++ t) (sym (flat_map-map lines deref_pair c.loop-name.yielded) ∙ ap (flat_map lines) shown)

pub loop-name-preserved : goal.loop-name-preserved
loop-name-preserved c =
    let text = string_bytes c.loop-name.text in
    let name : c.deref.result.now ≡ string_bytes c.in-Some.name.now = search rules in
    let number : c.from.result ≡ c.in-Some.task.now.priority = search rules in
    let more : string_bytes c.write.new.self ≡ text ++ task_constant Ada (string_bytes c.in-Some.name.now) c.in-Some.task.now.priority =
    c.in_ok-write.ensures.bytes ∙ (λ i. text ++ task_constant Ada (name i) (number i)) in
    written_more c.loop-name.yielded (λ pair. task_constant Ada (string_bytes pair.0.now) pair.1.now.priority)
    (c.in-Some.name, c.in-Some.task) (string_bytes c.args.text.now) text (string_bytes c.write.new.self) c.loop-name.invariant more
