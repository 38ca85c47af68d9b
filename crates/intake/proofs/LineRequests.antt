-- The requests of lines that come in pieces.
use Rattle.std.proofs.Common.{◌≡◌, ℕ, ◌==◌, Bool, true, false, cond, ◌||◌, List, [], ◌∷◌, ◌++◌, map, length, codes, refl, sym, ap, ◌∙◌, append_assoc, append-nil, Result, Ok, Err}
use Rattle.std.specs.Prelude.{nat_lt}
use Rattle.std.specs.List.{list_any}
use Rattle.std.proofs.lemmas.List.{map-append}
use Rattle.gb_base.specs.DayMinute.{DayMinute}
use Rattle.act_model.specs.declared.items.Item.{Item}
use Rattle.act_json.specs.Lines.{longest_line, stamped_of}
use Rattle.act_json.specs.declared.lines.LineFault.{LineFault}
use Rattle.intake.specs.Lines.{is_blank, request_of_line, request_of_stamped, request_read, is_stamped_by_clock}
use Rattle.intake.specs.Sessions.{ended, behind, ended_requests}
use Rattle.intake.specs.declared.lines.LineKind.{LineKind}
use Rattle.intake.specs.declared.lines.LineKind.TheVariants.{Stamped, Unstamped}
use Rattle.intake_requests.specs.declared.requests.Request.TheVariants.{Nothing, Refused}
use Rattle.intake_requests.specs.Asking.{asks_clock}

-- ---- which lines ask the clock

stamped_asks_none : (said : Result (DayMinute × ℕ × ℕ × Item) LineFault) → asks_clock (request_of_stamped said) ≡ false
stamped_asks_none (Ok found) = refl
stamped_asks_none (Err fault) = refl

stamped_line_asks_none : (line : List ℕ) → asks_clock (request_of_line Stamped line) ≡ false
unfolding request_of_line
stamped_line_asks_none line =
    elim (is_blank line) as (λ b. asks_clock (cond b Nothing (cond (nat_lt longest_line (length line)) (Refused (codes "malformed length\n")) (request_read Stamped line))) ≡ false) [
      | true ↦ refl
      | false ↦ elim (nat_lt longest_line (length line)) as (λ b. asks_clock (cond b (Refused (codes "malformed length\n")) (request_read Stamped line)) ≡ false)
          [ true ↦ refl | false ↦ stamped_asks_none (stamped_of line) ]
    ]

pub asks_none : (kind : LineKind) (line : List ℕ) → is_stamped_by_clock kind ≡ false → asks_clock (request_of_line kind line) ≡ false
asks_none Stamped line by = stamped_line_asks_none line
asks_none Unstamped line by = let never : true ≡ false = by in absurd cc

pub asks_by_kind : (kind : LineKind) (line : List ℕ) → asks_clock (request_of_line kind line) ≡ true → is_stamped_by_clock kind ≡ true
asks_by_kind Stamped line asks = let never : true ≡ false = sym asks ∙ stamped_line_asks_none line in absurd cc
asks_by_kind Unstamped line asks = refl

-- ---- lines in pieces

pub ended-append : (line xs ys : List ℕ) → ended line (xs ++ ys) ≡ ended line xs ++ ended (behind line xs) ys
ended-append line [] ys = refl
ended-append line (x ∷ xs) ys =
    elim (x == 10) as (λ b. cond b (line ∷ ended [] (xs ++ ys)) (ended (line ++ x ∷ []) (xs ++ ys))
    ≡ cond b (line ∷ ended [] xs) (ended (line ++ x ∷ []) xs) ++ ended (cond b (behind [] xs) (behind (line ++ x ∷ []) xs)) ys)
    [ true ↦ ap (λ ls. line ∷ ls) (ended-append [] xs ys) | false ↦ ended-append (line ++ x ∷ []) xs ys ]

pub behind-append : (line xs ys : List ℕ) → behind line (xs ++ ys) ≡ behind (behind line xs) ys
behind-append line [] ys = refl
behind-append line (x ∷ xs) ys =
    elim (x == 10) as (λ b. cond b (behind [] (xs ++ ys)) (behind (line ++ x ∷ []) (xs ++ ys))
    ≡ behind (cond b (behind [] xs) (behind (line ++ x ∷ []) xs)) ys)
    [ true ↦ behind-append [] xs ys | false ↦ behind-append (line ++ x ∷ []) xs ys ]

-- bytes without an LF end no line
pub ended-none : (line xs : List ℕ) → list_any (λ b. b == 10) xs ≡ false → ended line xs ≡ []
ended-none line [] none = refl
ended-none line (x ∷ xs) none =
    let P : Bool → Type 0 = λ b. (b || list_any (λ c. c == 10) xs) ≡ false
    → cond b (line ∷ ended [] xs) (ended (line ++ x ∷ []) xs) ≡ [] in
    (elim (x == 10) as P [ true ↦ λ h. cc | false ↦ λ h. ended-none (line ++ x ∷ []) xs h ]) none

pub behind-none : (line xs : List ℕ) → list_any (λ b. b == 10) xs ≡ false → behind line xs ≡ line ++ xs
behind-none line [] none = sym (append-nil line)
behind-none line (x ∷ xs) none =
    let P : Bool → Type 0 = λ b. (b || list_any (λ c. c == 10) xs) ≡ false
    → cond b (behind [] xs) (behind (line ++ x ∷ []) xs) ≡ line ++ x ∷ xs in
    (elim (x == 10) as P [
      | true ↦ λ h. cc
      | false ↦ λ h. behind-none (line ++ x ∷ []) xs h ∙ append_assoc line (x ∷ []) xs
    ]) none

pub behind_with_feed : (line end : List ℕ) → behind line (end ++ 10 ∷ []) ≡ []
behind_with_feed line end = rw (behind-append line end (10 ∷ [])) refl

-- the line that these bytes end has one request
pub feed_requests : (kind : LineKind) (line end text : List ℕ) → list_any (λ b. b == 10) end ≡ false → text ≡ line ++ end
    → request_of_line kind text ∷ [] ≡ ended_requests kind line (end ++ 10 ∷ [])
feed_requests kind line end text none is =
    let one : ended line (end ++ 10 ∷ []) ≡ (line ++ end) ∷ [] = rw (ended-append line end (10 ∷ []), ended-none line end none, behind-none line end none) refl in
    ap (λ t. request_of_line kind t ∷ []) is ∙ ap (map (request_of_line kind)) (sym one)

-- the requests of two pieces are those of the first and then those of the second
pub requests_of_two : (kind : LineKind) (line xs ys : List ℕ) → ended_requests kind line (xs ++ ys) ≡ ended_requests kind line xs ++ ended_requests kind (behind line xs) ys
requests_of_two kind line xs ys = ap (map (request_of_line kind)) (ended-append line xs ys) ∙ map-append (request_of_line kind) (ended line xs) (ended (behind line xs) ys)

-- the requests of a piece are those of a part that is done, then that of one line, and then those of the rest
pub requests_of_piece : (kind : LineKind) (line0 line1 piece done rest end later : List ℕ) → piece ≡ done ++ rest → line1 ≡ behind line0 done → rest ≡ end ++ 10 ∷ later
    → ended_requests kind line0 piece ≡ (ended_requests kind line0 done ++ ended_requests kind line1 (end ++ 10 ∷ [])) ++ ended_requests kind (behind line1 (end ++ 10 ∷ [])) later
requests_of_piece kind line0 line1 piece done rest end later whole is splits =
    ap (ended_requests kind line0) (whole ∙ ap (λ r. done ++ r) (splits ∙ sym (append_assoc end (10 ∷ []) later)))
    ∙ requests_of_two kind line0 done ((end ++ 10 ∷ []) ++ later)
    ∙ ap (λ l. ended_requests kind line0 done ++ ended_requests kind l ((end ++ 10 ∷ []) ++ later)) (sym is)
    ∙ ap (λ rs. ended_requests kind line0 done ++ rs) (requests_of_two kind line1 (end ++ 10 ∷ []) later)
    ∙ sym (append_assoc (ended_requests kind line0 done) (ended_requests kind line1 (end ++ 10 ∷ [])) _)

-- a rest without an LF has no request
pub requests_at_end : (kind : LineKind) (line0 line1 piece done rest : List ℕ) → piece ≡ done ++ rest → list_any (λ b. b == 10) rest ≡ false
    → ended_requests kind line0 piece ≡ ended_requests kind line0 done
requests_at_end kind line0 line1 piece done rest whole none =
    ap (ended_requests kind line0) whole ∙ requests_of_two kind line0 done rest
    ∙ ap (λ ls. ended_requests kind line0 done ++ map (request_of_line kind) ls) (ended-none (behind line0 done) rest none)
    ∙ append-nil (ended_requests kind line0 done)

-- So far a piece's bytes `done` are answered, and `rest` is left of it.
pub record SoFar (piece rest line0 line1 : List ℕ) (Done : List ℕ → Type 0) : Type 0 where
  pub done : List ℕ
  pub whole : piece ≡ done ++ rest
  pub line : line1 ≡ behind line0 done
  pub answered : Done done
