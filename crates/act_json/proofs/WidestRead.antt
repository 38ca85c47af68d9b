-- No array that is read has more elements than its text has bytes and one more.
use Rattle.std.proofs.Common.{◌≡◌, ℕ, zero, suc, ◌+◌, ◌≤◌, max, Bool, true, false, List, [], ◌∷◌, length, Option, Some, None, option_map, option_and_then, Ordering, Less, Equal, Greater, refl, subst, arith}
use Rattle.std.specs.Prelude.{⊤}
use Rattle.std.specs.Ordering.{match_ordering}
use Rattle.std.proofs.lemmas.Str.{IsUtf8-from_is_utf8, is_utf8-from_IsUtf8}
use Rattle.json.specs.Token.{Token}
use Rattle.json.specs.Token as token
use Rattle.json.specs.Lex.{Lexeme, comma, colon, Class, quote, backslash, operator, space, other, Mode, between, in_word, in_string, in_escape, class, lex_byte, lex, Place, fresh, after_value, after_comma, after_key, begins_colon, if_allowed, place_token, punctuate, tokens}
use Rattle.json.specs.Lex as lexeme
use Rattle.json.specs.Json as json
use Rattle.json.specs.Json.{Parse, parse_map, after_end_array, read_key, items_step, members_step, items, members, value_with, value}
use Rattle.json.proofs.Grammar.{after_end_array-shorter, read_key-shorter}
use Rattle.serde_json.specs.Data.{Data, Items, number, array, object, item, Members, no_members, member, put}
use Rattle.serde_json.specs.Read.{number_of, of_json, of_items, of_members, max_depth, read}
use Rattle.act_json.specs.inner.Helpers.{count_of, widest, items_widest, members_widest}

-- ---- tokens

lex_byte_short : (m : Mode) (c : Class) (x : ℕ) (xs : List ℕ) (k : Mode → List Lexeme) (n : ℕ) → ((m : Mode) → length (k m) ≤ n) → length (lex_byte m c x xs k) ≤ n + 1
lex_byte_short between quote x xs k n h = omega (arith, h in_string)
lex_byte_short between backslash x xs k n h = omega (arith, h in_word)
lex_byte_short between operator x xs k n h = omega (arith, h between)
lex_byte_short between space x xs k n h = omega (arith, h between)
lex_byte_short between other x xs k n h = omega (arith, h in_word)
lex_byte_short in_word quote x xs k n h = omega (arith, h in_word)
lex_byte_short in_word backslash x xs k n h = omega (arith, h in_word)
lex_byte_short in_word operator x xs k n h = omega (arith, h between)
lex_byte_short in_word space x xs k n h = omega (arith, h between)
lex_byte_short in_word other x xs k n h = omega (arith, h in_word)
lex_byte_short in_string quote x xs k n h = omega (arith, h between)
lex_byte_short in_string backslash x xs k n h = omega (arith, h in_escape)
lex_byte_short in_string operator x xs k n h = omega (arith, h in_string)
lex_byte_short in_string space x xs k n h = omega (arith, h in_string)
lex_byte_short in_string other x xs k n h = omega (arith, h in_string)
lex_byte_short in_escape c x xs k n h = omega (arith, h in_string)

length-lex : (m : Mode) (text : List ℕ) → length (lex m text) ≤ length text
unfolding lex
length-lex m [] = omega arith
length-lex m (x ∷ xs) = omega (arith, lex_byte_short m (class x) x xs (λ next. lex next xs) (length xs) (λ next. length-lex next xs))

allowed_short : (b : Bool) (t : Token) (k : Place → List Token) (next : Place) (n : ℕ) → length (k next) ≤ n → length (if_allowed b t k next) ≤ n + 1
allowed_short true t k next n h = omega arith
allowed_short false t k next n h = omega arith

placed_short : (p : Place) (t : Token) (before_colon : Bool) (k : Place → List Token) (n : ℕ) → ((q : Place) → length (k q) ≤ n) → length (place_token p t before_colon k) ≤ n + 1
placed_short p token.begin_object c k n h = allowed_short _ _ k fresh n (h fresh)
placed_short p token.end_object c k n h = allowed_short _ _ k after_value n (h after_value)
placed_short p token.begin_array c k n h = allowed_short _ _ k fresh n (h fresh)
placed_short p token.end_array c k n h = allowed_short _ _ k after_value n (h after_value)
placed_short p (token.key s) c k n h = omega arith
placed_short p (token.string s) true k n h = allowed_short _ _ k after_key n (h after_key)
placed_short p (token.string s) false k n h = allowed_short _ _ k after_value n (h after_value)
placed_short p (token.number s) c k n h = allowed_short _ _ k after_value n (h after_value)
placed_short p (token.boolean b) c k n h = allowed_short _ _ k after_value n (h after_value)
placed_short p token.null c k n h = allowed_short _ _ k after_value n (h after_value)
placed_short p token.bad c k n h = omega arith

length-punctuate : (p : Place) (ls : List Lexeme) → length (punctuate p ls) ≤ length ls + 1
unfolding punctuate
length-punctuate fresh [] = omega arith
length-punctuate after_value [] = omega arith
length-punctuate after_comma [] = omega arith
length-punctuate after_key [] = omega arith
length-punctuate fresh (lexeme.token t ∷ ls) = omega (arith, placed_short fresh t (begins_colon ls) (λ next. punctuate next ls) (length ls + 1) (λ q. length-punctuate q ls))
length-punctuate after_value (lexeme.token t ∷ ls) = omega (arith, placed_short after_value t (begins_colon ls) (λ next. punctuate next ls) (length ls + 1) (λ q. length-punctuate q ls))
length-punctuate after_comma (lexeme.token t ∷ ls) = omega (arith, placed_short after_comma t (begins_colon ls) (λ next. punctuate next ls) (length ls + 1) (λ q. length-punctuate q ls))
length-punctuate after_key (lexeme.token t ∷ ls) = omega (arith, placed_short after_key t (begins_colon ls) (λ next. punctuate next ls) (length ls + 1) (λ q. length-punctuate q ls))
length-punctuate fresh (comma ∷ ls) = omega arith
length-punctuate after_value (comma ∷ ls) = omega (arith, length-punctuate after_comma ls)
length-punctuate after_comma (comma ∷ ls) = omega arith
length-punctuate after_key (comma ∷ ls) = omega arith
length-punctuate fresh (colon ∷ ls) = omega arith
length-punctuate after_value (colon ∷ ls) = omega arith
length-punctuate after_comma (colon ∷ ls) = omega arith
length-punctuate after_key (colon ∷ ls) = omega (arith, length-punctuate fresh ls)

length-tokens : (text : List ℕ) → length (tokens text) ≤ length text + 1
length-tokens text = omega (arith, length-punctuate fresh (lex between text), length-lex between text)

-- ---- the grammar of JSON

abbrev count : json.Items → ℕ
count json.no_items = 0
count (json.item j js) = suc (count js)

abbrev mutual
  width : json.Json → ℕ
  width json.null = 0
  width (json.boolean b) = 0
  width (json.number s) = 0
  width (json.string s) = 0
  width (json.array js) = max (count js) (items_width js)
  width (json.object ms) = members_width ms

  items_width : json.Items → ℕ
  items_width json.no_items = 0
  items_width (json.item j js) = max (width j) (items_width js)

  members_width : json.Members → ℕ
  members_width json.no_members = 0
  members_width (json.member k j ms) = max (width j) (members_width ms)

-- what was read is at most so wide, and at most so many tokens are left
abbrev Fits : {A : Type 0} → (A → ℕ) → ℕ → Option (A × List Token) → Type 0
Fits f n None = ⊤
Fits f n (Some p) = (f p.0 ≤ n) × (length p.1 ≤ n)

abbrev Within : {A : Type 0} → (A → ℕ) → Parse A → Type 0
Within f p = (ts : List Token) → Fits f (length ts) (p ts)

mapped : {A B : Type 0} (f : A → ℕ) (g : B → ℕ) (m n : ℕ) (h : A → B) → m ≤ n → ((a : A) → f a ≤ m → g (h a) ≤ n) → (o : Option (A × List Token)) → Fits f m o → Fits g n (parse_map h o)
mapped f g m n h le k None x = tt
mapped f g m n h le k (Some p) x = (k p.0 x.0, omega (arith, x.1))

more : {A : Type 0} (f : A → ℕ) (m n : ℕ) → m ≤ n → (o : Option (A × List Token)) → Fits f m o → Fits f n o
more f m n le None x = tt
more f m n le (Some p) x = (omega (arith, x.0), omega (arith, x.1))

-- a value, and then more of the array or object
and_more : {B : Type 0} (g : B → ℕ) (n : ℕ) (h : json.Json → B → B) → ((j : json.Json) (b : B) → g (h j b) ≡ max (width j) (g b)) → (rest : Parse B) → Within g rest
    → (o : Option (json.Json × List Token)) → Fits width n o → Fits g n (option_and_then (λ q. parse_map (h q.0) (rest q.1)) o)
and_more g n h is rest within None x = tt
and_more g n h is rest within (Some q) x = mapped g g (length q.1) n (h q.0) x.1 (λ b y. omega (arith, is q.0 b, x.0, x.1)) (rest q.1) (within q.1)

module _ (p : Parse json.Json) (within : Within width p) where
  item_turn : (rest : Parse json.Items) → Within items_width rest → (ts : List Token) (o : Option (List Token)) → ((r : List Token) → o ≡ Some r → length r ≤ length ts)
      → Fits items_width (length ts) (items_step p rest ts o)
  item_turn rest again ts (Some r) shorter = (omega arith, shorter r refl)
  item_turn rest again ts None shorter = and_more items_width (length ts) json.item (λ j b. refl) rest again (p ts) (within ts)

  Within-items : (n : ℕ) → Within items_width (items p n)
  unfolding items
  Within-items zero ts = tt
  Within-items (suc n) ts = item_turn (items p n) (Within-items n) ts (after_end_array ts) (λ r e. omega (arith, after_end_array-shorter ts r e))

  member_turn : (rest : Parse json.Members) → Within members_width rest → (n : ℕ) (o : Option (Option (List ℕ) × List Token)) → ((k : Option (List ℕ)) (r : List Token) → o ≡ Some (k, r) → length r ≤ n)
      → Fits members_width n (option_and_then (λ q. members_step p rest q.0 q.1) o)
  member_turn rest again n None shorter = tt
  member_turn rest again n (Some (None, s)) shorter = (omega arith, shorter None s refl)
  member_turn rest again n (Some (Some k, s)) shorter =
      more members_width (length s) n (shorter (Some k) s refl) _ (and_more members_width (length s) (json.member k) (λ j b. refl) rest again (p s) (within s))

  Within-members : (n : ℕ) → Within members_width (members p n)
  unfolding members
  Within-members zero ts = tt
  Within-members (suc n) ts = member_turn (members p n) (Within-members n) (length ts) (read_key ts) (λ k r e. omega (arith, read_key-shorter ts k r e))

-- the number of turns bounds the number of elements
abbrev Counted : ℕ → Option (json.Items × List Token) → Type 0
Counted n None = ⊤
Counted n (Some q) = count q.0 ≤ n

one_more : (n : ℕ) (j : json.Json) (o : Option (json.Items × List Token)) → Counted n o → Counted (suc n) (parse_map (json.item j) o)
one_more n j None x = tt
one_more n j (Some q) x = omega arith

count_turn : (p : Parse json.Json) (n : ℕ) (rest : Parse json.Items) → ((ts : List Token) → Counted n (rest ts)) → (ts : List Token) (o : Option (List Token)) (v : Option (json.Json × List Token))
    → v ≡ p ts → Counted (suc n) (items_step p rest ts o)
count_turn p n rest again ts (Some r) v is = omega arith
count_turn p n rest again ts None None is = subst (λ w. Counted (suc n) (option_and_then (λ q. parse_map (json.item q.0) (rest q.1)) w)) is tt
count_turn p n rest again ts None (Some q) is = subst (λ w. Counted (suc n) (option_and_then (λ q. parse_map (json.item q.0) (rest q.1)) w)) is (one_more n q.0 (rest q.1) (again q.1))

Counted-items : (p : Parse json.Json) (n : ℕ) (ts : List Token) → Counted n (items p n ts)
unfolding items
Counted-items p zero ts = tt
Counted-items p (suc n) ts = count_turn p n (items p n) (Counted-items p n) ts (after_end_array ts) (p ts) refl

array_fits : (n : ℕ) (o : Option (json.Items × List Token)) → Counted n o → Fits items_width n o → Fits width n (parse_map json.array o)
array_fits n None c x = tt
array_fits n (Some q) c x = (omega (arith, x.0), x.1)

object_fits : (n : ℕ) (o : Option (json.Members × List Token)) → Fits members_width n o → Fits width n (parse_map json.object o)
object_fits n None x = tt
object_fits n (Some q) x = x

one_level : (a : Parse json.Items) (o : Parse json.Members) → ((ts : List Token) → Fits width (length ts) (parse_map json.array (a ts))) → ((ts : List Token) → Fits width (length ts) (parse_map json.object (o ts)))
    → Within width (value_with a o)
one_level a o p q [] = tt
one_level a o p q (token.begin_object ∷ ts) = more width (length ts) (suc (length ts)) (omega arith) _ (q ts)
one_level a o p q (token.end_object ∷ ts) = tt
one_level a o p q (token.begin_array ∷ ts) = more width (length ts) (suc (length ts)) (omega arith) _ (p ts)
one_level a o p q (token.end_array ∷ ts) = tt
one_level a o p q (token.key s ∷ ts) = tt
one_level a o p q (token.string s ∷ ts) = (omega arith, omega arith)
one_level a o p q (token.number s ∷ ts) = (omega arith, omega arith)
one_level a o p q (token.boolean b ∷ ts) = (omega arith, omega arith)
one_level a o p q (token.null ∷ ts) = (omega arith, omega arith)
one_level a o p q (token.bad ∷ ts) = tt

Within-value : (d : ℕ) → Within width (value d)
unfolding value
Within-value zero = one_level (λ ts. None) (λ ts. None) (λ ts. tt) (λ ts. tt)
Within-value (suc d) =
    one_level (λ ts. items (value d) (length ts) ts) (λ ts. members (value d) (length ts) ts)
    (λ ts. array_fits (length ts) _ (Counted-items (value d) (length ts) ts) (Within-items (value d) (Within-value d) (length ts) ts))
    (λ ts. object_fits (length ts) _ (Within-members (value d) (Within-value d) (length ts) ts))

-- ---- the data that it is

abbrev AtMost : {A : Type 0} → (A → ℕ) → ℕ → Option A → Type 0
AtMost f n None = ⊤
AtMost f n (Some a) = f a ≤ n

AtMost-map : {A B : Type 0} (f : A → ℕ) (g : B → ℕ) (m n : ℕ) (h : A → B) → ((a : A) → f a ≤ m → g (h a) ≤ n) → (o : Option A) → AtMost f m o → AtMost g n (option_map h o)
AtMost-map f g m n h k None x = tt
AtMost-map f g m n h k (Some a) x = k a x

AtMost-and_then : {A B : Type 0} (f : A → ℕ) (g : B → ℕ) (m n : ℕ) (h : A → Option B) → ((a : A) → f a ≤ m → AtMost g n (h a)) → (o : Option A) → AtMost f m o → AtMost g n (option_and_then h o)
AtMost-and_then f g m n h k None x = tt
AtMost-and_then f g m n h k (Some a) x = k a x

flat : {A : Type 0} (o : Option A) → AtMost (λ _. 0) 0 o
flat None = tt
flat (Some a) = omega arith

members_widest-match_ordering : (o : Ordering) (a b c : Members) (n : ℕ) → members_widest a ≤ n → members_widest b ≤ n → members_widest c ≤ n → members_widest (match_ordering o a b c) ≤ n
members_widest-match_ordering Less a b c n p q r = p
members_widest-match_ordering Equal a b c n p q r = q
members_widest-match_ordering Greater a b c n p q r = r

members_widest-put : (k : List ℕ) (d : Data) (ms : Members) (n : ℕ) → widest d ≤ n → members_widest ms ≤ n → members_widest (put k d ms) ≤ n
members_widest-put k d no_members n p q = omega arith
members_widest-put k d (member l e ms) n p q =
    members_widest-match_ordering _ (member k d (member l e ms)) (member l d ms) (member l e (put k d ms)) n (omega arith) (omega arith) (omega (arith, members_widest-put k d ms n p (omega arith)))

-- the width of an array: by its elements, and by what is in them
abbrev both : Items → ℕ
both ds = max (count_of ds) (items_widest ds)

count-of_items : (js : json.Items) → AtMost count_of (count js) (of_items js)
count-of_items json.no_items = omega arith
count-of_items (json.item j js) =
    AtMost-and_then (λ _. 0) count_of 0 (suc (count js)) _ (λ d x. AtMost-map count_of count_of (count js) (suc (count js)) (item d) (λ ds y. omega arith) _ (count-of_items js)) (of_json j) (flat (of_json j))

AtMost-both : (n : ℕ) (o : Option Items) → AtMost count_of n o → AtMost items_widest n o → AtMost both n o
AtMost-both n None x y = tt
AtMost-both n (Some ds) x y = omega arith

AtMost-more : {A : Type 0} (f : A → ℕ) (m n : ℕ) → m ≤ n → (o : Option A) → AtMost f m o → AtMost f n o
AtMost-more f m n le None x = tt
AtMost-more f m n le (Some a) x = omega (arith, x)

mutual
  widest-of_json : (j : json.Json) (n : ℕ) → width j ≤ n → AtMost widest n (of_json j)
  widest-of_json json.null n h = omega arith
  widest-of_json (json.boolean b) n h = omega arith
  widest-of_json (json.number s) n h = AtMost-map (λ _. 0) widest 0 n number (λ a x. omega arith) (number_of s) (flat (number_of s))
  widest-of_json (json.string s) n h = omega arith
  widest-of_json (json.array js) n h =
      AtMost-map both widest n n array (λ a x. x) _ (AtMost-both n _ (AtMost-more count_of (count js) n (omega arith) _ (count-of_items js)) (widest-of_items js n (omega arith)))
  widest-of_json (json.object ms) n h = AtMost-map members_widest widest n n object (λ a x. x) _ (widest-of_members ms no_members n h (omega arith))

  widest-of_items : (js : json.Items) (n : ℕ) → items_width js ≤ n → AtMost items_widest n (of_items js)
  widest-of_items json.no_items n h = omega arith
  widest-of_items (json.item j js) n h =
      AtMost-and_then widest items_widest n n _ (λ d x. AtMost-map items_widest items_widest n n (item d) (λ ds y. omega arith) _ (widest-of_items js n (omega arith))) _ (widest-of_json j n (omega arith))

  widest-of_members : (ms : json.Members) (found : Members) (n : ℕ) → members_width ms ≤ n → members_widest found ≤ n → AtMost members_widest n (of_members ms found)
  widest-of_members json.no_members found n h k = k
  widest-of_members (json.member name j ms) found n h k =
      AtMost-and_then widest members_widest n n _ (λ d x. widest-of_members ms (put name d found) n (omega arith) (members_widest-put name d found n x k)) _ (widest-of_json j n (omega arith))

last_fits : (n : ℕ) (o : Option (json.Json × List Token)) → Fits width n o → AtMost width n (option_and_then (λ p. json.if_last p.0 p.1) o)
last_fits n None x = tt
last_fits n (Some (j, [])) x = x.0
last_fits n (Some (j, t ∷ r)) x = tt

pub widest_read : (text : List ℕ) (d : Data) → read text ≡ Some d → widest d ≤ length text + 1
widest_read text d is =
    let fits : AtMost widest (length (tokens text)) (read text) =
    AtMost-and_then width widest (length (tokens text)) (length (tokens text)) of_json (λ j x. widest-of_json j (length (tokens text)) x) _ (last_fits (length (tokens text)) _ (Within-value max_depth (tokens text))) in
    let found : widest d ≤ length (tokens text) = subst (AtMost widest (length (tokens text))) is fits in
    omega (arith, length-tokens text, found)

pub ruleset utf8_tests = (IsUtf8-from_is_utf8, is_utf8-from_IsUtf8)
