use Rattle.std.proofs.Common.{◌∷◌, [], ◌∙◌, arith, ap, refl, length-append, length}
use Rattle.std.specs.Prelude.{string_bytes}
use Rattle.rp_words.proofs.TablesLemmas.{inserted_last, names_last, values_last}
use Rattle.rp_words.proofs.names.insert_string_in_map.Goals as goal

pub returns-clause-names : goal.returns-clause-names
returns-clause-names g c =
    let old = c.args.table.now in
    names_last old.entries c.insert.new.self.entries c.args.name c.args.value (string_bytes c.args.name)
    (c.in_ok-insert.ensures.entries ∙ inserted_last c.args.name c.args.value old.entries c.requires) refl

pub returns-clause-values : goal.returns-clause-values
returns-clause-values g c =
    let old = c.args.table.now in
    values_last old.entries c.insert.new.self.entries c.args.name c.args.value
    (c.in_ok-insert.ensures.entries ∙ inserted_last c.args.name c.args.value old.entries c.requires)

pub returns-clause-len : goal.returns-clause-len
returns-clause-len g c =
    let old = c.args.table.now in
    let more = c.in_ok-insert.ensures.entries ∙ inserted_last c.args.name c.args.value old.entries c.requires in
    ap length more ∙ omega (arith, length-append old.entries ((c.args.name, c.args.value) ∷ []))
