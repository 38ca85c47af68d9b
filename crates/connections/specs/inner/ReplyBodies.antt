-- The bytes of a reply's body.
use Rattle.std.specs.Prelude.{ℕ, List}
use Rattle.connections.specs.declared.bodies.Body.{Body}
use Rattle.connections.specs.declared.bodies.Body.TheVariants as body

-- the bytes that a body has
abbrev pub bytes_in : Body → List ℕ
bytes_in (body.Words words) = words.now
bytes_in (body.Text text) = text.items
