-- The rows of an opening list by the places of their fields.
use Rattle.std.proofs.Common.{◌≡◌, ◌≢◌, ℕ, false, List, [], ◌∷◌, length, None, refl, arith}
use Rattle.csv.specs.Records.{field_at}
use Rattle.opening_lists.specs.OpeningLists.{is_header, opening_of}
use Rattle.opening_lists.specs.inner.Rows.{names_columns, opening_at}

pub header_of_six : (fields : List (List ℕ)) → length fields ≡ 6 → names_columns fields ≡ is_header fields
unfolding field_at
header_of_six [] six = absurd (omega (arith, six))
header_of_six (a ∷ []) six = cc six
header_of_six (a ∷ b ∷ []) six = cc six
header_of_six (a ∷ b ∷ c ∷ []) six = cc six
header_of_six (a ∷ b ∷ c ∷ d ∷ []) six = cc six
header_of_six (a ∷ b ∷ c ∷ d ∷ e ∷ []) six = cc six
header_of_six (a ∷ b ∷ c ∷ d ∷ e ∷ f ∷ []) six = refl
header_of_six (a ∷ b ∷ c ∷ d ∷ e ∷ f ∷ g ∷ more) six = absurd (omega (arith, six))

pub header_of_others : (fields : List (List ℕ)) → length fields ≢ 6 → false ≡ is_header fields
header_of_others [] others = refl
header_of_others (a ∷ []) others = refl
header_of_others (a ∷ b ∷ []) others = refl
header_of_others (a ∷ b ∷ c ∷ []) others = refl
header_of_others (a ∷ b ∷ c ∷ d ∷ []) others = refl
header_of_others (a ∷ b ∷ c ∷ d ∷ e ∷ []) others = refl
header_of_others (a ∷ b ∷ c ∷ d ∷ e ∷ f ∷ []) others = absurd (others refl)
header_of_others (a ∷ b ∷ c ∷ d ∷ e ∷ f ∷ g ∷ more) others = refl

pub opening_of_six : (fields : List (List ℕ)) → length fields ≡ 6 → opening_at fields ≡ opening_of fields
unfolding field_at
opening_of_six [] six = absurd (omega (arith, six))
opening_of_six (a ∷ []) six = cc six
opening_of_six (a ∷ b ∷ []) six = cc six
opening_of_six (a ∷ b ∷ c ∷ []) six = cc six
opening_of_six (a ∷ b ∷ c ∷ d ∷ []) six = cc six
opening_of_six (a ∷ b ∷ c ∷ d ∷ e ∷ []) six = cc six
opening_of_six (a ∷ b ∷ c ∷ d ∷ e ∷ f ∷ []) six = refl
opening_of_six (a ∷ b ∷ c ∷ d ∷ e ∷ f ∷ g ∷ more) six = absurd (omega arith)

pub opening_of_others : (fields : List (List ℕ)) → length fields ≢ 6 → None ≡ opening_of fields
opening_of_others [] others = refl
opening_of_others (a ∷ []) others = refl
opening_of_others (a ∷ b ∷ []) others = refl
opening_of_others (a ∷ b ∷ c ∷ []) others = refl
opening_of_others (a ∷ b ∷ c ∷ d ∷ []) others = refl
opening_of_others (a ∷ b ∷ c ∷ d ∷ e ∷ []) others = refl
opening_of_others (a ∷ b ∷ c ∷ d ∷ e ∷ f ∷ []) others = absurd (others refl)
opening_of_others (a ∷ b ∷ c ∷ d ∷ e ∷ f ∷ g ∷ more) others = refl
