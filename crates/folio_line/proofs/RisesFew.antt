-- The exchanges by which rights rise are no more than those that they are in.
use Rattle.std.proofs.Common.{◌≡◌, ℕ, ◌≤◌, List, [], ◌∷◌, Option, Some, None, filter, filter_map, length, ap, arith}
use Rattle.std.proofs.lemmas.List.{length-append}
use Rattle.std.proofs.lemmas.List.Sums.{length-filter, sum_by-cons}
use Rattle.gb_base.specs.RightNo.{RightNo}
use Rattle.gb_base.specs.declared.keys.Key.{Key}
use Rattle.gb_base.specs.declared.keys.Key.TheVariants.{Right}
use Rattle.folio_sections.specs.Rights.{exchanges, is_exchange}
use Rattle.folio_sections.specs.declared.entries.Entry.{Entry}
use Rattle.folio_line.specs.Exchanges.{rise_by}
use Rattle.folio_line.specs.FolioLine.{all_exchanges, all_rises, rises_of}
use Rattle.folio_line.specs.FolioReading.{read_at}
use Rattle.folio_line.proofs.ExchangesAhead.{fewer_read, rises_there}
use Rattle.folio_line.proofs.LineRoom.{given_few}

-- each exchange by which the right rises is an exchange among the entries
rises_among : (right : RightNo) (entries : List Entry) → length (filter_map (λ e. rise_by right e.receipt e.what) entries) ≤ exchanges entries
rises_among right entries =
    let p = λ (e : Entry). is_exchange e.what in
    let rises = λ (e : Entry). rise_by right e.receipt e.what in
    let there = ap length (rises_there right entries) in
    let few = given_few rises (filter p entries) in
    let all : length (filter p entries) ≡ exchanges entries = length-filter p entries in
    omega (arith, there, few, all)

-- in no reading are the exchanges by which a right rises more than those that it is in
rises_few : (before : Option ℕ) (at : Key → List Entry) (folio : ℕ) (id : RightNo) → length (rises_of (read_at before at) folio id) ≤ exchanges (at (Right folio id))
rises_few None at folio id = rises_among id (at (Right folio id))
rises_few (Some n) at folio id =
    let here = rises_among id (read_at (Some n) at (Right folio id)) in
    let fewer = fewer_read (Some n) (at (Right folio id)) (Right folio id) in
    omega (arith, here, fewer)

pub all_rises_few : (before : Option ℕ) (at : Key → List Entry) (folio : ℕ) (ids : List RightNo) → length (all_rises (read_at before at) folio ids) ≤ all_exchanges at folio ids
all_rises_few before at folio [] = omega arith
all_rises_few before at folio (id ∷ ids) =
    let both = length-append (rises_of (read_at before at) folio id) (all_rises (read_at before at) folio ids) in
    let whole = sum_by-cons (λ (right : RightNo). exchanges (at (Right folio right))) id ids in
    omega (arith, both, whole, rises_few before at folio id, all_rises_few before at folio ids)
