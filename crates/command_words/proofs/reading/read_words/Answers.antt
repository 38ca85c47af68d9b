use Rattle.std.proofs.Common.{rules, ◌≡◌, ◌∙◌, sym, true, false, map}
use Rattle.std.specs.Rc.{rc_str_bytes}
use Rattle.clap.specs.Words.{found_of}
use Rattle.command_words.proofs.Read.{formed_all, read_found, read_refused, unformed}
use Rattle.command_words.proofs.reading.read_words.Goals as goal

pub returns-then-not-are_formed-clause-usage : goal.returns-then-not-are_formed-clause-usage
returns-then-not-are_formed-clause-usage c =
    let is_not : c.are_formed.result ≡ false = search rules in
    λ usage. unformed rc_str_bytes c.args.words.now (sym c.are_formed.ensures ∙ is_not)

pub returns-in-Ok-parse-clause-command : goal.returns-in-Ok-parse-clause-command
returns-in-Ok-parse-clause-command c =
    let are : c.are_formed.result ≡ true = search rules in
    let formed = formed_all rc_str_bytes c.args.words.now (sym c.are_formed.ensures ∙ are) in
    (read_found (map rc_str_bytes c.args.words.now) (found_of c.in-Ok-parse.matches) c.command_in.result formed
    (c.in-Ok-parse.ensures.found c.in-Ok.ensures) c.command_in.ensures.command c.command_in.ensures.usage).0

pub returns-in-Ok-parse-clause-usage : goal.returns-in-Ok-parse-clause-usage
returns-in-Ok-parse-clause-usage c =
    let are : c.are_formed.result ≡ true = search rules in
    let formed = formed_all rc_str_bytes c.args.words.now (sym c.are_formed.ensures ∙ are) in
    (read_found (map rc_str_bytes c.args.words.now) (found_of c.in-Ok-parse.matches) c.command_in.result formed
    (c.in-Ok-parse.ensures.found c.in-Ok.ensures) c.command_in.ensures.command c.command_in.ensures.usage).1

pub returns-in-Err-clause-usage : goal.returns-in-Err-clause-usage
returns-in-Err-clause-usage c =
    let are : c.are_formed.result ≡ true = search rules in
    let formed = formed_all rc_str_bytes c.args.words.now (sym c.are_formed.ensures ∙ are) in
    read_refused (map rc_str_bytes c.args.words.now) c.kind.result c.fault_from.result formed
    (λ clear. c.kind.ensures ∙ c.in-Err.ensures.refused c.in-Ok.ensures clear) c.fault_from.ensures
