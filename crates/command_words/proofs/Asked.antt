-- What values stand for.
use Rattle.std.proofs.Common.{◌≡◌, ◌≢◌, ◌<◌, ℕ, [], Option, Some, None, MatchOption, refl, sym, ap, ◌∙◌, subst, arith}
use Rattle.ascii_text.specs.Numbers.{IsValue}
use Rattle.ascii_text.proofs.Digits.{decimal_same}
use Rattle.sample_maker.specs.declared.limits.TheConstants.{LEAST_SIZE, MOST_SIZE}
use Rattle.command_words.specs.Given.{Word, Values, value_of}
use Rattle.command_words.specs.Asking.{NumberRow, HasFile, HasNumber, HasRoot, HasSize, IsNumberIn, root}

-- a text is the spelling of one number at most
pub one_value : (text : Word) (a b : ℕ) → IsValue text a → IsValue text b → a ≡ b
one_value text a b first second = decimal_same a b first.small second.small (first.text ∙ sym second.text)

pub too_small : (text : Word) (least most found : ℕ) → IsValue text found → found < least → (number : ℕ) → IsNumberIn least most text number → ⊥
too_small text least most found is small number number_is = let same = one_value text number found number_is.0 is in omega (arith, same, number_is.1)

pub too_great : (text : Word) (least most found : ℕ) → IsValue text found → most < found → (number : ℕ) → IsNumberIn least most text number → ⊥
too_great text least most found is great number number_is = let same = one_value text number found number_is.0 is in omega (arith, same, number_is.2)

module _ (row : NumberRow) (values : Values) where
  pub default_number : None ≡ value_of row.name values → HasNumber row values row.default
  default_number none = subst (λ o. MatchOption o (row.default ≡ row.default) (λ text. IsNumberIn row.least row.most text row.default)) none refl

  pub has_number : (text : Word) (found : Option ℕ) → Some text ≡ value_of row.name values → MatchOption found ((n : ℕ) → IsNumberIn row.least row.most text n → ⊥) (IsNumberIn row.least row.most text)
      → MatchOption found ((n : ℕ) → HasNumber row values n → ⊥) (HasNumber row values)
  has_number text None is none = λ n has. none n (subst (λ o. MatchOption o (n ≡ row.default) (λ t. IsNumberIn row.least row.most t n)) (sym is) has)
  has_number text (Some n) is found = subst (λ o. MatchOption o (n ≡ row.default) (λ t. IsNumberIn row.least row.most t n)) is found

module _ (place : Word) (values : Values) where
  pub no_size : None ≡ value_of place values → (n : ℕ) → HasSize place values n → ⊥
  no_size none n has = subst (λ o. MatchOption o ⊥ (λ t. IsNumberIn LEAST_SIZE MOST_SIZE t n)) (sym none) has

  pub has_size : (text : Word) (found : Option ℕ) → Some text ≡ value_of place values → MatchOption found ((n : ℕ) → IsNumberIn LEAST_SIZE MOST_SIZE text n → ⊥) (IsNumberIn LEAST_SIZE MOST_SIZE text)
      → MatchOption found ((n : ℕ) → HasSize place values n → ⊥) (HasSize place values)
  has_size text None is none = λ n has. none n (subst (λ o. MatchOption o ⊥ (λ t. IsNumberIn LEAST_SIZE MOST_SIZE t n)) (sym is) has)
  has_size text (Some n) is found = subst (λ o. MatchOption o ⊥ (λ t. IsNumberIn LEAST_SIZE MOST_SIZE t n)) is found

  pub no_file : None ≡ value_of place values → (name : Word) → HasFile place values name → ⊥
  no_file none name has = let e : None ≡ Some name = none ∙ has.0 in cc

  pub empty_file : (text : Word) → Some text ≡ value_of place values → text ≡ [] → (name : Word) → HasFile place values name → ⊥
  empty_file text is empty name has =
      let e : Some text ≡ Some name = is ∙ has.0 in
      let same : text ≡ name = cc in
      has.1 (sym same ∙ empty)

module _ (values : Values) where
  pub no_root : None ≡ value_of root values → HasRoot values None
  no_root none = (sym none, λ e. let n : ◌≡◌ {A = Option Word} None (Some []) = e in cc)

  pub empty_root : (text : Word) → Some text ≡ value_of root values → text ≡ [] → (folder : Option Word) → HasRoot values folder → ⊥
  empty_root text is empty folder has = has.1 (sym has.0 ∙ (sym is ∙ ap Some empty))

  pub has_root : (text : Word) → Some text ≡ value_of root values → text ≢ [] → HasRoot values (Some text)
  has_root text is some = (sym is, λ e. let n : Some text ≡ Some [] = e in some cc)
