use Rattle.std.proofs.Common.{◌≡◌, ◌∷◌, [], ◌∙◌, false, length, arith, ap, sym, subst, length-append}
use Rattle.rp_words.specs.Tables.{is_declared, set_names}
use Rattle.rp_words.proofs.TablesLemmas.{key_inserted, set_names_last}
use Rattle.rp_words.proofs.names.insert_in_set.Goals as goal

pub returns-clause-names : goal.returns-clause-names
returns-clause-names c =
    let key = c.in_ok-from_str.field-0 in
    let old = c.args.names.now in
    set_names_last old.keys c.insert.new.self.keys key c.args.name.now
    (c.in_ok-insert.ensures.keys ∙ key_inserted key old.keys
    (subst (λ bytes. is_declared bytes (set_names old) ≡ false) (sym c.in_ok-from_str.ensures.ok) c.requires))
    c.in_ok-from_str.ensures.ok

pub returns-clause-len : goal.returns-clause-len
returns-clause-len c =
    let key = c.in_ok-from_str.field-0 in
    let old = c.args.names.now in
    let more = c.in_ok-insert.ensures.keys ∙ key_inserted key old.keys
    (subst (λ bytes. is_declared bytes (set_names old) ≡ false) (sym c.in_ok-from_str.ensures.ok) c.requires) in
    ap length more ∙ omega (arith, length-append old.keys (key ∷ []))
