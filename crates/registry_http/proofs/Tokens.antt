-- Methods are the same tokens for the parser of heads and for the crate of methods.
use Rattle.std.proofs.Common.{ℕ, List}
use Rattle.httparse.specs.Grammar.{IsToken, is_token_byte}
use Rattle.http_header.specs.Token.{IsToken as IsMethodToken, is_token_byte as is_method_byte}

pub method_token : (name : List ℕ) → IsToken name → IsMethodToken name
unfolding is_token_byte is_method_byte
method_token name token = token
