-- Names at the front of a text. No public clause cites this module.
use Rattle.std.specs.Prelude.{◌≡◌, ℕ, Bool, true, false, not, nat_eq, List, [], ◌∷◌, ◌++◌, if◌then◌else◌}
use Rattle.std.specs.List.{flat_map, list_all}
use Rattle.mg_word.specs.Facts.{suits, is_name_byte, is_digit}
use Rattle.mg_word.specs.Spelling.{is_word_byte, escaped, spelled_name}
use Rattle.mg_word.specs.declared.symbol.Kind.{Kind}
use Rattle.mg_word.specs.declared.symbol.Kind.TheVariants.{Word, Distinct}

-- no name goes on here
abbrev pub ends_name : List ℕ → Bool
ends_name [] = true
ends_name (byte ∷ rest) = not (is_word_byte byte)

-- the text begins with a name of that kind
pub record IsNameAt (bytes : List ℕ) (kind : Kind) (name rest : List ℕ) : Type 0 where
  pub good : suits kind name 0 ≡ true
  pub text : spelled_name kind name ++ rest ≡ bytes
  pub ends : ends_name rest ≡ true

-- and with no other
pub record IsOnlyName (bytes : List ℕ) (kind : Kind) (name rest : List ℕ) : Type 0 where
  pub is : IsNameAt bytes kind name rest
  pub only : (k : Kind) (n r : List ℕ) → IsNameAt bytes k n r → (k ≡ kind) × (n ≡ name) × (r ≡ rest)

-- behind an opening quote: the name, its closing quote and the rest
pub record IsQuotedAt (quote : ℕ) (bytes name rest : List ℕ) : Type 0 where
  pub good : list_all is_name_byte name ≡ true
  pub text : flat_map (escaped quote) name ++ quote ∷ rest ≡ bytes

pub record IsOnlyQuoted (quote : ℕ) (bytes name rest : List ℕ) : Type 0 where
  pub is : IsQuotedAt quote bytes name rest
  pub only : (n r : List ℕ) → IsQuotedAt quote bytes n r → (n ≡ name) × (r ≡ rest)

-- no name is at the front of the text
abbrev pub NoName : List ℕ → Type 0
NoName bytes = (kind : Kind) (name rest : List ℕ) → IsNameAt bytes kind name rest → ⊥

abbrev pub begins_digit : List ℕ → Bool
begins_digit [] = false
begins_digit (first ∷ bytes) = is_digit first

-- the kind of a name between such quotes
abbrev pub quoted_kind : ℕ → Kind
quoted_kind quote = if nat_eq quote 39 then Word else Distinct

-- the text within quotes begins with that byte of the name
pub record IsByteAt (quote : ℕ) (bytes : List ℕ) (byte : ℕ) (rest : List ℕ) : Type 0 where
  pub good : is_name_byte byte ≡ true
  pub text : escaped quote byte ++ rest ≡ bytes

abbrev pub NoByte : ℕ → List ℕ → Type 0
NoByte quote bytes = (byte : ℕ) (rest : List ℕ) → IsByteAt quote bytes byte rest → ⊥

-- what may follow makes names behind the quote, and all of them
pub record IsUnquoting (quote : ℕ) (bytes rest have : List ℕ) : Type 0 where
  pub sound : (name behind : List ℕ) → IsQuotedAt quote rest name behind → IsQuotedAt quote bytes (have ++ name) behind
  pub only : (name behind : List ℕ) → IsQuotedAt quote bytes name behind → (more : List ℕ) × IsQuotedAt quote rest more behind × (name ≡ have ++ more)
