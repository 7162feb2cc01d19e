use Rattle.std.proofs.Common.{◌≡◌, ◌≤◌}
use Rattle.std.specs.String.{string_eq}
use Rattle.rp_words.specs.indexmap.specs.IndexSet.{index_set_len, IsUnique}
use Rattle.rp_words.specs.Tables.{set_names}
use Rattle.rp_deck_declarations.specs.Drafts.{tally_names}
use Rattle.rp_deck_declarations.proofs.draft.tally_objects.Given as goal

abbrev pub invariant-loop-number : goal.invariant-loop-number
invariant-loop-number l = record {
  names : set_names l.objects ≡ tally_names l.number;
  len : index_set_len l.objects ≤ l.number;
  unique : IsUnique string_eq l.objects;
}
