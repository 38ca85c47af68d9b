-- How far a request at the front of bytes has come.
use Rattle.std.specs.Prelude.{ℕ, ◌<◌, ◌≤◌, ◌⊎◌, List, [], length, take}
use Rattle.registry_http.specs.RequestParts.{RequestParts}
use Rattle.registry_http.specs.Requests.{Whole, HeadFault, BodyTooLong, StandsIn, WantsMore}
use Rattle.registry_http.specs.declared.framing.Framed.{Framed}
use Rattle.registry_http.specs.declared.framing.Framed.TheVariants as framed

-- the first so many of the bytes are one whole request, and no more
pub record IsWhole (bytes : List ℕ) (size : ℕ) : Type 0 where
  pub some : 0 < size
  pub within : size ≤ length bytes
  pub request : RequestParts
  pub stands : StandsIn (take size bytes) (Whole request [])

-- the bytes are refused, and no more of them are wanted
pub record IsRefusal (bytes : List ℕ) : Type 0 where
  pub stands : StandsIn bytes HeadFault ⊎ StandsIn bytes BodyTooLong
  pub settled : ¬ (WantsMore bytes)

-- what is told of the bytes that came so far
abbrev pub IsFramed : List ℕ → Framed → Type 0
IsFramed bytes framed.Wanting = WantsMore bytes
IsFramed bytes (framed.Whole size) = IsWhole bytes size
IsFramed bytes framed.Refused = IsRefusal bytes
