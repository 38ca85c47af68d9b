use Rattle.std.proofs.Common.{◌≡◌, ◌+◌, ◌++◌, ◌∷◌, ◌∙◌, [], IfSome, ap, subst, sym, arith}
use Rattle.std.specs.List.{range_with_len}
use Rattle.registrar.proofs.Registering.{range_more}
use Rattle.desk_pool.proofs.counted.list_receipts.Goals as goal

pub loop-index-preserved : goal.loop-index-preserved
loop-index-preserved c =
    c.in_ok-push.ensures.items ∙ ap (λ xs. xs ++ c.unwrap.result ∷ []) c.loop-index.invariant
    ∙ ap (λ n. range_with_len 1 c.loop-index.index ++ n ∷ []) (subst (λ o. IfSome o (λ n. n ≡ c.loop-index.index + 1)) c.unwrap.ensures c.new.ensures.value ∙ omega arith) ∙ sym (range_more 1 c.loop-index.index)

pub returns : goal.returns
returns c =
    let value = c.len-index-end.ensures.value in
    let least = c.loop-index-test.false in
    let most = c.loop-index.auto.index-end in
    c.loop-index.invariant ∙ ap (range_with_len 1) (omega (arith, value, least, most))
