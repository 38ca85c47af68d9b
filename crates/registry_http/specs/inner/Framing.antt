-- Whether a head still lacks its end.
use Rattle.std.specs.Prelude.{ℕ, Bool, ◌&&◌, not, nat_lt, List, length}
use Rattle.registry_http.specs.Heads.{longest_head}
use Rattle.registry_http.specs.inner.Lines.{has_empty_line}

-- fewer bytes came than a head may have, and no empty line
abbrev pub lacks_end : List ℕ → Bool
lacks_end bytes = nat_lt (length bytes) longest_head && not (has_empty_line bytes)
