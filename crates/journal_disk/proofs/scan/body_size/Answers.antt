use Rattle.std.proofs.Common.{◌≡◌, ◌≤◌, ◌<◌, get_or, length, drop, arith, rules}
use Rattle.std.proofs.lemmas.Grind.{common_steps}
use Rattle.journal_disk.proofs.FrameBytes.{begins}
use Rattle.journal_disk.proofs.scan.body_size.Goals as goal

pub returns-else-rest-size : goal.returns-else-rest-size
returns-else-rest-size c =
    let open_gate : get_or c.args.bytes.now 0 0 ≡ 1 = search rules in
    let some : 1 ≤ c.from_be_bytes-size.result = grind arith in
    let fits : c.from_be_bytes-size.result < length (drop 5 c.args.bytes.now) = grind (arith, common_steps, c.if-rest-size.false) in
    begins c.args.bytes.now c.from_be_bytes-size.result c.in-1.len_at_least open_gate (λ i. (c.type_inv.bytes i).fits) c.from_be_bytes-size.ensures some c.if-size-gt-LONGEST_BODY.false fits
