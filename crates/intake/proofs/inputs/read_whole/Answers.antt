use Rattle.std.proofs.Common.{◌≡◌, ◌+◌, ◌++◌, length, take, length-append, arith, ◌∙◌}
use Rattle.std.proofs.lemmas.Grind.{common_steps}
use Rattle.intake.proofs.SessionInputs.{took_more}
use Rattle.intake.proofs.inputs.read_whole.Goals as goal

pub returns-then-read-count-clause-long : goal.returns-then-read-count-clause-long
returns-then-read-count-clause-long g c = λ which.
    took_more _ _ _ (take c.in-Bytes.read c.read_block.new.block) _ _ c.loop.invariant.took c.in-Bytes.ensures.content
    (λ read did. let full : c.loop.count ≡ 67108864 = grind (arith, c.room_for.ensures.left) in
    let one : c.in-Bytes.read ≡ 1 = grind (arith, c.room_for.ensures.left) in
    let whole : length (take c.in-Bytes.read c.read_block.new.block) ≡ c.in-Bytes.read = grind (arith, common_steps) in
    length-append read _ ∙ omega (arith, did.0, whole, full, one))

pub returns-then-read-count-clause-taken : goal.returns-then-read-count-clause-taken
returns-then-read-count-clause-taken g c =
    took_more _ _ _ (take c.in-Bytes.read c.read_block.new.block) _ _ c.loop.invariant.took c.in-Bytes.ensures.content
    (λ read did. let full : c.loop.count ≡ 67108864 = grind (arith, c.room_for.ensures.left) in
    let one : c.in-Bytes.read ≡ 1 = grind (arith, c.room_for.ensures.left) in
    let whole : length (take c.in-Bytes.read c.read_block.new.block) ≡ c.in-Bytes.read = grind (arith, common_steps) in
    let size : length (read ++ take c.in-Bytes.read c.read_block.new.block) ≡ 67108865 = length-append read _ ∙ omega (arith, did.0, whole, full, one) in
    omega (arith, size))

pub returns-in_err-extend_from_slice-in-Bytes-clause-short : goal.returns-in_err-extend_from_slice-in-Bytes-clause-short
returns-in_err-extend_from_slice-in-Bytes-clause-short g c = λ other.
    took_more _ _ _ (take c.in-Bytes.read c.read_block.new.block) _ _ c.loop.invariant.took c.in-Bytes.ensures.content
    (λ read did. let one : length (take c.in-Bytes.read c.read_block.new.block) ≡ c.in-Bytes.read = grind (arith, common_steps) in
    let size : length (read ++ (take c.in-Bytes.read c.read_block.new.block)) ≡ c.loop.count + c.in-Bytes.read = length-append read _ ∙ omega (arith, did.0, one) in
    omega (arith, size))

pub returns-in_err-extend_from_slice-in-Bytes-clause-taken : goal.returns-in_err-extend_from_slice-in-Bytes-clause-taken
returns-in_err-extend_from_slice-in-Bytes-clause-taken g c =
    took_more _ _ _ (take c.in-Bytes.read c.read_block.new.block) _ _ c.loop.invariant.took c.in-Bytes.ensures.content
    (λ read did. let one : length (take c.in-Bytes.read c.read_block.new.block) ≡ c.in-Bytes.read = grind (arith, common_steps) in
    let size : length (read ++ (take c.in-Bytes.read c.read_block.new.block)) ≡ c.loop.count + c.in-Bytes.read = length-append read _ ∙ omega (arith, did.0, one) in
    omega (arith, size))
