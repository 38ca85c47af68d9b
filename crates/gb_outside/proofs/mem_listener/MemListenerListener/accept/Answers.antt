use Rattle.std.proofs.Common.{◌≡◌, All, ◌∷◌, ap, length, arith}
use Rattle.std.specs.Vec.Iter.{into_iter_items}
use Rattle.std.proofs.lemmas.List.Elements.{All-tail}
use Rattle.gb_outside.specs.InMemory.{IsUnused}
use Rattle.gb_outside.proofs.mem_listener.MemListenerListener.accept.Goals as goal

-- the links behind the first are as unused as all were, and one fewer
pub invariant_of-self-in-Some : goal.invariant_of-self-in-Some
invariant_of-self-in-Some c =
    let rest = into_iter_items c.next.new.self in
    let first_of : into_iter_items c.self.inside.waiting ≡ c.in-Some.link ∷ rest = c.in-Some.ensures.items in
    let unused : All IsUnused (c.in-Some.link ∷ rest) = rw first_of at c.self.invariant.0 in
    (All-tail IsUnused c.in-Some.link rest unused, omega (arith, c.self.invariant.1, ap length first_of))
