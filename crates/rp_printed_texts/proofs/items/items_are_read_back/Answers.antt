-- By the lines of the item.
use Rattle.std.proofs.Common.{refl}
use Rattle.rp_printed_texts.proofs.ItemsRead.{item_says}
use Rattle.rp_printed_texts.proofs.items.items_are_read_back.Goals as goal

pub returns : goal.returns
returns c = record { says = item_says; joined = λ item rest. refl }
