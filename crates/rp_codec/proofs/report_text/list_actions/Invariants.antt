use Rattle.std.proofs.Common.{◌≡◌, ◌≤◌, vec_len, vec_capacity}
use Rattle.rp_codec.proofs.ListReading.{HasRead}
use Rattle.rp_codec.proofs.report_text.list_actions.Given as goal

-- those that were read, and room for the others
abbrev pub invariant-loop : goal.invariant-loop
invariant-loop l = record {
  read : HasRead l.version l.count l.fn.reader l.counter l.actions.items l.reader;
  filled : vec_len l.actions ≡ l.counter;
  room : l.count ≤ vec_capacity l.actions;
}
