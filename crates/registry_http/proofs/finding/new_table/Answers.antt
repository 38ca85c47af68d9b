use Rattle.std.proofs.Common.{refl}
use Rattle.matchit.proofs.OnLiterals.{matchit_on_literals}
use Rattle.registry_http.proofs.finding.new_table.Goals as goal

pub returns : goal.returns
unfolding matchit_on_literals
returns c =
    rw (c.in_ok-add-7.ensures.1, c.in_ok-add-6.ensures.1, c.in_ok-add-5.ensures.1, c.in_ok-add-4.ensures.1, c.in_ok-add-3.ensures.1, c.in_ok-add-2.ensures.1, c.in_ok-add.ensures.1, c.new-table.ensures) refl
