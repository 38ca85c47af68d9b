-- The size of a journal's file.
use Rattle.std.proofs.Common.{◌≡◌, ℕ, ◌+◌, ◌*◌, ◌<◌, ◌≤◌, List, [], ◌∷◌, ◌++◌, length, sum_by, refl, arith, length-append}
use Rattle.std.proofs.lemmas.List.Sums.{sum_by-le, sum_by-cons, sum_by_push}
use Rattle.act_model.specs.declared.receipts.Receipt.{Receipt}
use Rattle.act_codec.specs.Spelling.{longest_spelling, spelling}
use Rattle.act_codec.proofs.Lengths.{spelling_len}
use Rattle.journal_disk.specs.Layout.{the_heading, file_limit, frame_head, measured, frames}
use Rattle.journal_disk.proofs.FrameBytes.{length-measured}
use Rattle.receipt_journal.specs.Standing.{records, IsKeepable}
use Rattle.receipt_journal.specs.Receiving.{file_size}

-- the bytes of a record: a gate, a length and a spelling
abbrev record_size : Receipt → ℕ
record_size r = frame_head + length (spelling r)

pub has_room : (journal : List Receipt) → IsKeepable journal → file_size the_heading journal ≤ file_limit
has_room journal is =
    let small : sum_by record_size journal ≤ length journal * 527 = sum_by-le record_size 527 journal (λ k d in'. omega (arith, spelling_len _ (is.spelled k d in'))) in
    let few = is.journal.few in
    omega arith

-- the file of a keepable journal with one receipt more does not pass its limit either
pub has_room_next : (journal : List Receipt) (next : Receipt) → IsKeepable journal → length journal < 200000 → length (spelling next) ≤ longest_spelling → file_size the_heading (journal ++ next ∷ []) ≤ file_limit
has_room_next journal next is few short =
    let small : sum_by record_size journal ≤ length journal * 527 = sum_by-le record_size 527 journal (λ k d in'. omega (arith, spelling_len _ (is.spelled k d in'))) in
    omega (arith, sum_by_push record_size journal next)

-- the frames of a journal's records have the size of the records
pub records_size : (journal : List Receipt) → length (frames (records journal)) ≡ sum_by record_size journal
records_size [] = refl
records_size (r ∷ rs) =
    omega (arith, sum_by-cons record_size r rs, length-measured (spelling r), length-append (1 ∷ measured (spelling r)) (frames (records rs)), records_size rs)
