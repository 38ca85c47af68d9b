use Rattle.command_words.proofs.Read.{found_is, refused_is}
use Rattle.command_words.proofs.grammar.parse.Goals as goal

pub returns : goal.returns
returns c =
    let parse = c.try_get_matches_from in
    record {
      found = λ is. found_is _ _ parse.result is parse.ensures.kinds parse.ensures.matches;
      refused = λ is. refused_is _ _ parse.result is parse.ensures.kinds;
    }
