use Rattle.std.proofs.Common.{sym, string_bytes, ◌∙◌}
use Rattle.std.specs.Str.{str_eq_ignore_ascii_case}
use Rattle.rp_bind.specs.Names.{is_among_in_any_case}
use Rattle.rp_bind.proofs.Mapped.{any_mapped}
use Rattle.rp_bind.proofs.names.is_among.Goals as goal

pub returns : goal.returns
unfolding is_among_in_any_case
returns c = c.is_like_one.ensures ∙ sym (any_mapped (str_eq_ignore_ascii_case c.args.name.now) string_bytes c.args.names.now)
