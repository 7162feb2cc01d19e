use Rattle.std.proofs.Common.{◌≤◌, length, decimal, arith, rules}
use Rattle.std.proofs.lemmas.Fmt.{length-decimal-le}
use Rattle.rp_output.proofs.short_line.ShortLine.put_number.Goals as goal

pub write_digits-self-requires : goal.write_digits-self-requires
write_digits-self-requires c =
    let digits : length (decimal c.args.number) ≤ 20 = search (rules, length-decimal-le 20) in
    search rules

pub returns-clause-room : goal.returns-clause-room
returns-clause-room c =
    let digits : length (decimal c.args.number) ≤ 20 = search (rules, length-decimal-le 20) in
    omega (arith, c.write_digits-self.ensures.start)
