-- The later of the two first spans joins the third chain.
use Rattle.std.proofs.Common.{ap, arith, length, sym, ◌∙◌}
use Rattle.std.proofs.lemmas.List.{length-set}
use Rattle.rank_slots.proofs.JoinedChains.{chain_begins, further_of, nearer_of, next_of, others_of, whole_of}
use Rattle.rank_slots.proofs.spans.Spans.join.Goals as goal

pub later_first-later-requires-clause-first : goal.later_first-later-requires-clause-first
later_first-later-requires-clause-first c =
    let join = c.spans.invariant.joining c.requires.chains.0 c.requires.chains.1 in chain_begins _ _ _ _ join.first_chain

pub later_first-later-requires-clause-second : goal.later_first-later-requires-clause-second
later_first-later-requires-clause-second c =
    let join = c.spans.invariant.joining c.requires.chains.0 c.requires.chains.1 in chain_begins _ _ _ _ join.second_chain

pub index-first-requires-in-spans : goal.index-first-requires-in-spans
index-first-requires-in-spans c =
    let join = c.spans.invariant.joining c.requires.chains.0 c.requires.chains.1 in
    let as_many = c.spans.invariant.as_many ∙ c.requires.as_many ∙ sym (ap (λ v. length v.items) c.spans.invariant.spans) in
    let next = next_of _ _ _ _ _ _ _ _ as_many c.later_first-later.ensures c.in-Some.is join in
    let within = next.within in
    omega (arith, within, as_many)

pub index_mut-requires : goal.index_mut-requires
index_mut-requires c =
    let join = c.spans.invariant.joining c.requires.chains.0 c.requires.chains.1 in
    let as_many = c.spans.invariant.as_many ∙ c.requires.as_many ∙ sym (ap (λ v. length v.items) c.spans.invariant.spans) in
    let next = next_of _ _ _ _ _ _ _ _ as_many c.later_first-later.ensures c.in-Some.is join in
    let within = next.within in
    omega (arith, within, as_many)

pub spans-smaller : goal.spans-smaller
spans-smaller c =
    let join = c.spans.invariant.joining c.requires.chains.0 c.requires.chains.1 in
    let as_many = c.spans.invariant.as_many ∙ c.requires.as_many ∙ sym (ap (λ v. length v.items) c.spans.invariant.spans) in
    nearer_of _ _ _ _ _ _ _ _ _ as_many c.later_first-later.ensures c.in-Some.is join c.index-first-in-spans.ensures

pub spans-preserved : goal.spans-preserved
spans-preserved c =
    let before = c.spans.invariant in
    let as_many = before.as_many ∙ c.requires.as_many ∙ sym (ap (λ v. length v.items) before.spans) in
    record {
      joining = λ whole join. further_of _ _ _ _ _ _ _ _ _ as_many c.later_first-later.ensures c.in-Some.is (before.joining whole join) c.index-first-in-spans.ensures;
      thirds = λ whole test head xs join own none chain. others_of _ _ _ _ _ whole _ _ as_many c.later_first-later.ensures c.in-Some.is (before.joining whole join) test head xs own none (before.thirds whole test head xs join own none chain);
      spans = before.spans;
      heads = before.heads;
      as_many = length-set _ _ _ ∙ before.as_many;
      capacity = before.capacity;
    }

pub returns-in_default-clause-joined : goal.returns-in_default-clause-joined
returns-in_default-clause-joined c =
    let before = c.spans.invariant in
    let as_many = before.as_many ∙ c.requires.as_many ∙ sym (ap (λ v. length v.items) before.spans) in
    λ whole join. whole_of _ _ _ _ _ _ _ as_many c.later_first-later.ensures c.in_default.is (before.joining whole join)
