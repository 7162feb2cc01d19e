use Rattle.std.proofs.Common.{rules}
use Rattle.rp_words.proofs.WordsLemmas.{name_is_text}
use Rattle.rp_words.proofs.words.read_name.Goals as goal

pub from_utf8_unchecked-requires : goal.from_utf8_unchecked-requires
from_utf8_unchecked-requires c = name_is_text c.args.word.now (search rules)
