-- The records that are left after a read of one.
use Rattle.std.proofs.Common.{Bor, take, drop, ◌≡◌, ℕ, zero, suc, Bool, true, false, List, [], ◌∷◌, ◌++◌, length, Option, Some, None, Result, Ok, refl, sym, ap, ◌∙◌, arith}
use Rattle.std.specs.Prelude.{not, ◌&&◌, ◌==◌, ◌+◌, ◌<◌}
use Rattle.csv.specs.Machine.{Read, ends_at_end, field_after, fields_after, is_end, next_record, step}
use Rattle.csv.specs.Reading.{ReadRecord, Reached, Ready, default_config, has_failed, reader_state, reader_trim, records_from, records_next, source_of, strip_bom}
use Rattle.csv.specs.declared.reader.Reader.{Reader}
use Rattle.csv.specs.declared.reader.Trim.TheVariants as trim
use Rattle.csv.proofs.ReadFacts.{rows-end, rows-more}
use Rattle.opening_lists.specs.inner.CsvRecords.{IsSetUp, records_at, records_left}
use Rattle.csv.specs.declared.parser.Config.{Config}
use Rattle.csv.specs.declared.parser.State.{State}
use Rattle.csv.specs.declared.parser.State.TheVariants as st

-- A record takes bytes, except one that the end of the text ends.
data Takes (read : Read) (bytes : List ℕ) : Type 0 where
  some_bytes : length read.2 < length bytes → Takes read bytes
  the_end : read.1 ≡ st.StartRecord → read.2 ≡ [] → bytes ≡ [] → Takes read bytes

more_bytes : (read : Read) (c : ℕ) (bytes : List ℕ) → Takes read bytes → Takes read (c ∷ bytes)
more_bytes read c bytes (some_bytes fewer) = some_bytes (omega arith)
more_bytes read c bytes (the_end start none empty) = some_bytes (rw none (omega arith))

takes : (cfg : Config) (s : State) (fields : List (List ℕ)) (field bytes : List ℕ) (read : Read) → next_record cfg s fields field bytes ≡ Some read → Takes read bytes
unfolding next_record
takes cfg s fields field [] read is = by (ends_at_end s) refl
  where
    by : (b : Bool) → ends_at_end s ≡ b → Takes read []
    by true e = let got : Some (fields ++ (field ∷ []), st.StartRecord, []) ≡ Some read = rw e at is in
        the_end (sym (cc got)) (sym (cc got)) refl
    by false e = let got : None ≡ Some read = rw e at is in cc got
takes cfg s fields field (c ∷ rest) read is = by (is_end (step cfg s c).1) refl is (takes cfg (step cfg s c).0 (fields_after (step cfg s c).1 fields field) (field_after (step cfg s c).1 c field) rest read)
  where
    by : (b : Bool) → is_end (step cfg s c).1 ≡ b → next_record cfg s fields field (c ∷ rest) ≡ Some read
        → (next_record cfg (step cfg s c).0 (fields_after (step cfg s c).1 fields field) (field_after (step cfg s c).1 c field) rest ≡ Some read → Takes read rest)
        → Takes read (c ∷ rest)
    by true e q more =
        let got : Some (fields_after (step cfg s c).1 fields field, (step cfg s c).0, rest) ≡ Some read = rw e at q in
        let left : rest ≡ read.2 = cc got in
        some_bytes (rw (← left) (omega arith))
    by false e q more = more_bytes read c rest (more (rw e at q))

-- the end of a text has no records
nothing_left : (cfg : Config) (n : ℕ) → records_from cfg n st.StartRecord [] ≡ []
unfolding next_record records_from
nothing_left cfg zero = refl
nothing_left cfg (suc n) = refl

-- any number of turns above the number of bytes gives all records
enough : (cfg : Config) (n m : ℕ) (s : State) (bytes : List ℕ) → length bytes < n → length bytes < m → records_from cfg n s bytes ≡ records_from cfg m s bytes
unfolding records_from
enough cfg zero m s bytes few more = absurd (omega arith)
enough cfg (suc n) zero s bytes few more = absurd (omega arith)
enough cfg (suc n) (suc m) s bytes few more = by (next_record cfg s [] [] bytes) refl (λ read fewer. enough cfg n m read.1 read.2 (omega arith) (omega arith))
  where
    by : (found : Option Read) → next_record cfg s [] [] bytes ≡ found → ((read : Read) → length read.2 < length bytes → records_from cfg n read.1 read.2 ≡ records_from cfg m read.1 read.2)
        → records_from cfg (suc n) s bytes ≡ records_from cfg (suc m) s bytes
    by None is later = rw is refl
    by (Some read) is later = rw is (ap (λ rows. read.0 ∷ rows) (of_rest read (takes cfg s [] [] bytes read is) later))
      where
        of_rest : (read : Read) → Takes read bytes → ((read : Read) → length read.2 < length bytes → records_from cfg n read.1 read.2 ≡ records_from cfg m read.1 read.2)
            → records_from cfg n read.1 read.2 ≡ records_from cfg m read.1 read.2
        of_rest read (some_bytes fewer) later = later read fewer
        of_rest read (the_end start none empty) later = rw (start, none) (nothing_left cfg n ∙ sym (nothing_left cfg m))

-- one turn of reading
turn : (n m : ℕ) (s : State) (bytes : List ℕ) → n ≡ suc m → records_from default_config n s bytes ≡ records_next (records_from default_config m) (next_record default_config s [] [] bytes)
unfolding records_from
turn n m s bytes is = rw is refl

-- the records of a text from a state, where the first of them is read
left_after : (s : State) (bytes : List ℕ) (read : Read) → next_record default_config s [] [] bytes ≡ Some read
    → records_at s (Some bytes) ≡ read.0 ∷ records_at read.1 (Some read.2)
left_after s bytes read is =
    turn (length bytes + 1) (length bytes) s bytes (omega arith)
    ∙ ap (records_next (records_from default_config (length bytes))) is
    ∙ ap (λ rows. read.0 ∷ rows) (rest (takes default_config s [] [] bytes read is))
  where
    rest : Takes read bytes → records_from default_config (length bytes) read.1 read.2 ≡ records_from default_config (length read.2 + 1) read.1 read.2
    rest (some_bytes fewer) = enough default_config (length bytes) (length read.2 + 1) read.1 read.2 fewer (omega arith)
    rest (the_end start none empty) = rw (start, none) (nothing_left default_config (length bytes) ∙ sym (nothing_left default_config 1))

-- where no record is read, there is none
none_after : (s : State) (bytes : List ℕ) → next_record default_config s [] [] bytes ≡ None → records_at s (Some bytes) ≡ []
none_after s bytes is = turn (length bytes + 1) (length bytes) s bytes (omega arith) ∙ ap (records_next (records_from default_config (length bytes))) is

abbrev told : Bor (List ℕ) → Option (List ℕ)
told text = Some text.now

-- a reader in memory that has not failed has bytes left, maybe none
bytes_known : (reader : Reader (Bor (List ℕ))) → has_failed reader ≡ false → (bytes : List ℕ) × (source_of told reader ≡ Some bytes)
bytes_known reader works = by (not reader.bom_checked && (reader.at == 0) && (reader.filled == 0)) refl
  where
    by : (b : Bool) → (not reader.bom_checked && (reader.at == 0) && (reader.filled == 0)) ≡ b → (bytes : List ℕ) × (source_of told reader ≡ Some bytes)
    by true e = (strip_bom reader.rdr.now, rw (works, e) refl)
    by false e = (drop reader.at (take reader.filled reader.buffer) ++ reader.rdr.now, rw (works, e) refl)

-- the first of the records, given by its parts
first_of : (s later : State) (bytes rest : List ℕ) (first : Read) (fields : List (List ℕ)) → next_record default_config s [] [] bytes ≡ Some first
    → fields ≡ first.0 → first.1 ≡ later → first.2 ≡ rest → records_at s (Some bytes) ≡ fields ∷ records_at later (Some rest)
first_of s later bytes rest first fields is same state left = rw (same, ← state, ← left) (left_after s bytes first is)

-- a record that is read is the first of those left
record_read : (old new : Reader (Bor (List ℕ))) (fields : List (List ℕ)) → has_failed old ≡ false → IsSetUp old → ReadRecord told old new true fields
    → records_left old ≡ fields ∷ records_left new
unfolding Reached
record_read old new fields works setup read =
    let (bytes, known) = bytes_known old works in
    let (rest, left, reached) = rows-more told old new fields default_config (reader_state old) bytes bytes [] setup.config known (refl, refl) read in
    let (first, is, same, ends) = reached in
    ap (records_at (reader_state old)) known
    ∙ first_of (reader_state old) (reader_state new) bytes rest first fields is same ends.0 ends.1
    ∙ ap (λ later. fields ∷ records_at (reader_state new) later) (sym left)

-- where no record is read, none is left
end_read : (old new : Reader (Bor (List ℕ))) (fields : List (List ℕ)) → has_failed old ≡ false → IsSetUp old → ReadRecord told old new false fields → records_left old ≡ []
end_read old new fields works setup read =
    let (bytes, known) = bytes_known old works in
    rw known (none_after (reader_state old) bytes (rows-end told old new fields default_config bytes setup.config known read))

-- what a read says, also of a reader that has failed
pub read_says : {E : Type 0} (old new : Reader (Bor (List ℕ))) (result : Result Bool E) (found : Bool) (fields : List (List ℕ)) → (has_failed old ≡ false → IsSetUp old)
    → result ≡ Ok found → (has_failed old ≡ true → result ≡ Ok false) → (reader_trim old ≡ trim.None → Ready old → ReadRecord told old new found fields)
    → (found ≡ true → records_left old ≡ fields ∷ records_left new) × (found ≡ false → records_left old ≡ [])
read_says {E} old new result found fields setup is failed reads = by (has_failed old) refl
  where
    good : Bool → Result Bool E
    good b = Ok b

    by : (b : Bool) → has_failed old ≡ b → (found ≡ true → records_left old ≡ fields ∷ records_left new) × (found ≡ false → records_left old ≡ [])
    by true e = ((λ yes. let never : good true ≡ good false = ap good (sym yes) ∙ sym is ∙ failed e in cc never), (λ no. rw e refl))
    by false e = (
      (λ is. record_read old new fields e (setup e) (rw is at reads (setup e).trim (setup e).ready)),
      (λ is. end_read old new fields e (setup e) (rw is at reads (setup e).trim (setup e).ready)),
    )
