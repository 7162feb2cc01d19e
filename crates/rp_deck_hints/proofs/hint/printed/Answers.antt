use Rattle.std.proofs.Common.{rules}
use Rattle.rp_deck_hints.proofs.Graphic.{printed_is_text}
use Rattle.rp_deck_hints.proofs.hint.printed.Goals as goal

pub from_utf8_unchecked-requires : goal.from_utf8_unchecked-requires
from_utf8_unchecked-requires c = printed_is_text c.args.word.now (search rules)
