use Rattle.std.proofs.Common.{◌≡◌, false, sym, subst}
use Rattle.rp_words.specs.Tables.{is_declared, key_names}
use Rattle.rp_words.proofs.names.insert_in_map.Goals as goal

pub insert_string_in_map-requires : goal.insert_string_in_map-requires
insert_string_in_map-requires g c = subst (λ bytes. is_declared bytes (key_names c.args.table.now) ≡ false) (sym c.in_ok-from_str.ensures.ok) c.requires
