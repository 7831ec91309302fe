-- Words that begin with one `-`.
use Rattle.std.proofs.Common.{◌≡◌, ◌+◌, ℕ, Bool, cond, true, false, List, [], ◌∷◌, Option, Some, None, refl, sym, ap, ◌∙◌, subst, arith, nat_eq}
use Rattle.std.specs.Prelude.{option_and_then, slice_get}
use Rattle.std.specs.Str.{chars, encode_utf8_all, IsCharBoundary, IsUtf8}
use Rattle.std.proofs.lemmas.Bool.{eqb-true}
use Rattle.std.proofs.lemmas.Str.{encodes-chars, IsUtf8-drop, IsCharBoundary-after_ascii}
use Rattle.clap.specs.Lexer.{short_of, short_of_rest}
use Rattle.command_words.specs.Given.{Word}

-- what follows the `-`
pub record IsShort (word flags : Word) : Type 0 where
  pub head : ℕ
  pub tail : List ℕ
  pub flags_are : flags ≡ head ∷ tail
  pub word_is : word ≡ 45 ∷ flags

pub short_parts : (word flags : Word) → short_of word ≡ Some flags → IsShort word flags
short_parts [] flags is = let e : None ≡ Some flags = is in absurd (cc)
short_parts (first ∷ []) flags is = go (nat_eq first 45) is
  where
    go : (b : Bool) → option_and_then short_of_rest (cond b (Some []) None) ≡ Some flags → IsShort (first ∷ []) flags
    go true is = let e : ◌≡◌ {A = Option Word} None (Some flags) = is in absurd (cc)
    go false is = let e : ◌≡◌ {A = Option Word} None (Some flags) = is in absurd (cc)
short_parts (first ∷ second ∷ rest) flags is = go (nat_eq first 45) refl is
  where
    go_on : first ≡ 45 → (b : Bool) → cond b None (Some (second ∷ rest)) ≡ Some flags → IsShort (first ∷ second ∷ rest) flags
    go_on dash true is = let e : ◌≡◌ {A = Option Word} None (Some flags) = is in absurd (cc)
    go_on dash false is =
        let flags_are : flags ≡ second ∷ rest = let e : Some (second ∷ rest) ≡ Some flags = is in cc in
        record { head = second; tail = rest; flags_are = flags_are; word_is = let e : first ∷ second ∷ rest ≡ 45 ∷ flags = cc in e }

    go : (b : Bool) → nat_eq first 45 ≡ b → option_and_then short_of_rest (cond b (Some (second ∷ rest)) None) ≡ Some flags → IsShort (first ∷ second ∷ rest) flags
    go true dash is = go_on (eqb-true first 45 dash) (nat_eq second 45) is
    go false dash is = let e : ◌≡◌ {A = Option Word} None (Some flags) = is in absurd (cc)

pub record HasFirst (text : List ℕ) : Type 0 where
  pub first : ℕ
  pub first_is : slice_get (chars text) 0 ≡ Some first

has_first : (head : ℕ) (tail : List ℕ) → IsUtf8 (head ∷ tail) → HasFirst (head ∷ tail)
has_first head tail utf8 = go (chars (head ∷ tail)) refl
  where
    go : (cs : List ℕ) → chars (head ∷ tail) ≡ cs → HasFirst (head ∷ tail)
    go [] is =
        let same : [] ≡ head ∷ tail = sym (ap encode_utf8_all is) ∙ encodes-chars (head ∷ tail) utf8 in
        absurd (cc)
    go (c ∷ cs) is = record { first = c; first_is = ap (λ l. slice_get l 0) is }

-- behind the `-` of a text stands a character
pub first_flag : (word flags : Word) → IsUtf8 word → IsShort word flags → HasFirst flags
first_flag word flags utf8 is =
    let spelled : IsUtf8 (45 ∷ is.head ∷ is.tail) = subst IsUtf8 (is.word_is ∙ ap (λ l. 45 ∷ l) is.flags_are) utf8 in
    let boundary : IsCharBoundary (45 ∷ is.head ∷ is.tail) (0 + 1) = IsCharBoundary-after_ascii (45 ∷ is.head ∷ is.tail) 0 spelled (omega arith) (omega arith) in
    subst HasFirst (sym is.flags_are) (has_first is.head is.tail (IsUtf8-drop (45 ∷ is.head ∷ is.tail) (0 + 1) spelled boundary))
