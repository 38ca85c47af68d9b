use Rattle.std.proofs.Common.{◌≡◌, ◌≤◌, ◌++◌, ℕ, min, List, length, take, drop, ◌∙◌, ap, sym, subst, arith, length-take-le}
use Rattle.std.proofs.lemmas.List.{take_at, take_min}
use Rattle.journal_disk.specs.inner.Heading.{FoundIn}
use Rattle.journal_disk.proofs.heading.find.Goals as goal

read_head : (file into rest : List ℕ) (size most : ℕ) → into ≡ take (length into) (drop 0 file) → length into ≡ size → size ≡ min most (length file)
    → take size (into ++ rest) ≡ take most file
read_head file into rest size most read sized is =
    take_at into rest size sized ∙ read ∙ ap (λ n. take n file) (sized ∙ is) ∙ take_min most file

pub returns-clause-found : goal.returns-clause-found
returns-clause-found g c = λ yes.
    let into = c.read_at.new.into in
    let file = g.D.Disk.reads c.len.new.self in
    let few : c.min-size.result ≤ 10 = omega (arith, c.min-size.ensures) in
    let sized : length into ≡ c.min-size.result = c.read_at.auto.into ∙ length-take-le c.min-size.result _ few in
    let same = c.len.ensures.same yes in
    let long : c.in_ok-len.len ≡ length file = c.in_ok-len.ensures.len yes ∙ ap length (sym same) in
    let least : c.min-size.result ≡ min 10 (length file) = omega (arith, c.min-size.ensures, long) in
    subst (λ (l : List ℕ). FoundIn l c.classify.result) same (c.classify.ensures.found file (read_head file into _ c.min-size.result 10 (c.in_ok-read_at.ensures.bytes yes) sized least) long)
