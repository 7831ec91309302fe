-- Words ask for one request at most.
use Rattle.std.proofs.Common.{◌≡◌, ℕ, true, false, List, ◌∷◌, Option, Some, None, MatchOption, refl, sym, ap, ◌∙◌, subst, codes}
use Rattle.std.specs.Str.{bytes_eq}
use Rattle.std.proofs.lemmas.Bool.{true≢false}
use Rattle.std.proofs.lemmas.Slice.Eq.{bytes_eq-Decides}
use Rattle.command_words.specs.Clap.{are_names}
use Rattle.sample_maker.specs.declared.limits.TheConstants.{LEAST_SIZE, MOST_SIZE}
use Rattle.command_words.specs.Given.{Word, Row, Values, Give, completed, value_of}
use Rattle.command_words.specs.Asking.{AreWords, Asks, HasFile, HasNumber, HasRoot, HasSize, IsCheck, IsForms, IsNumberIn, IsSample, IsSearch, Request, Prove, Models, Check, Forms, Sample, Search, NumberRow, workers, budget, weight}
use Rattle.command_words.specs.Asking.{search_options, sample_options, root_option, file_place, tree_places, size_place}
use Rattle.command_words.proofs.Joined.{one_give}
use Rattle.command_words.proofs.Asked.{one_value}

same_file : (place : Word) (values : Values) (a b : Word) → HasFile place values a → HasFile place values b → a ≡ b
same_file place values a b first second = let e : Some a ≡ Some b = sym first.0 ∙ second.0 in cc

same_root : (values : Values) (a b : Option Word) → HasRoot values a → HasRoot values b → a ≡ b
same_root values a b first second = sym first.0 ∙ second.0

same_number : (row : NumberRow) (values : Values) (a b : ℕ) → HasNumber row values a → HasNumber row values b → a ≡ b
same_number row values a b first second = go (value_of row.name values) first second
  where
    go : (o : Option Word) → MatchOption o (a ≡ row.default) (λ text. IsNumberIn row.least row.most text a) → MatchOption o (b ≡ row.default) (λ text. IsNumberIn row.least row.most text b) → a ≡ b
    go None x y = x ∙ sym y
    go (Some text) x y = one_value text a b x.0 y.0

same_size : (place : Word) (values : Values) (a b : ℕ) → HasSize place values a → HasSize place values b → a ≡ b
same_size place values a b first second = go (value_of place values) first second
  where
    go : (o : Option Word) → MatchOption o ⊥ (λ text. IsNumberIn LEAST_SIZE MOST_SIZE text a) → MatchOption o ⊥ (λ text. IsNumberIn LEAST_SIZE MOST_SIZE text b) → a ≡ b
    go None x y = absurd x
    go (Some text) x y = one_value text a b x.0 y.0

-- the name of the command
abbrev command_name : Request → Word
command_name (Prove search) = codes "prove"
command_name (Models search) = codes "models"
command_name (Check file tree folder) = codes "check"
command_name (Forms file folder) = codes "forms"
command_name (Sample size workers_asked budget_asked) = codes "sample"

begins : (words : List Word) (request : Request) → Asks words request → (arguments : List Word) × (words ≡ command_name request ∷ arguments)
begins words (Prove search) asks = (asks.0, asks.2)
begins words (Models search) asks = (asks.0, asks.2)
begins words (Check file tree folder) asks = (asks.0, asks.2)
begins words (Forms file folder) asks = (asks.0, asks.2)
begins words (Sample size workers_asked budget_asked) asks = (asks.0, asks.2)

-- words of two commands
other : (words : List Word) (a b : Request) → bytes_eq (command_name a) (command_name b) ≡ false → Asks words a → Asks words b → ⊥
other words a b differ first second =
    let of_a = begins words a first in
    let of_b = begins words b second in
    let e : command_name a ∷ of_a.0 ≡ command_name b ∷ of_b.0 = sym of_a.1 ∙ of_b.1 in
    let same : command_name a ≡ command_name b = cc in
    true≢false (sym ((bytes_eq-Decides (command_name a) (command_name b)).1 same) ∙ differ)

-- the values of the same words are the same
values_same : (words : List Word) (command : Word) (options : List Row) (places : List Word) (P Q : Values → Type 0) → are_names options places ≡ true → (a : AreWords command options places words P) → (b : AreWords command options places words Q) → Q (completed options a.1)
values_same words command options places P Q are a b =
    let e : command ∷ a.0 ≡ command ∷ b.0 = sym a.2 ∙ b.2 in
    let same : a.0 ≡ b.0 = cc in
    subst (λ values. Q (completed options values)) (one_give options places a.0 are b.1 a.1 (subst (λ w. Give options places w b.1) (sym same) b.3) a.3) b.4

same_search : (values : Values) (a b : Search) → IsSearch a values → IsSearch b values → a ≡ b
same_search values a b first second =
    let files = same_file (codes "FILE") values a.file b.file first.0 second.0 in
    let roots = same_root values a.root b.root first.1 second.1 in
    let all_workers = same_number workers values a.workers b.workers first.2 second.2 in
    let budgets = same_number budget values a.budget b.budget first.3 second.3 in
    let weights = same_number weight values a.weight b.weight first.4 second.4 in
    λ i. record { file = files i; root = roots i; workers = all_workers i; budget = budgets i; weight = weights i }

pub one_request : (words : List Word) (a b : Request) → Asks words a → Asks words b → a ≡ b
one_request words (Prove s) (Prove s') first second =
    let so = values_same words (codes "prove") search_options file_place (IsSearch s) (IsSearch s') refl first second in
    ap Prove (same_search (completed search_options first.1) s s' first.4 so)
one_request words (Models s) (Models s') first second =
    let so = values_same words (codes "models") search_options file_place (IsSearch s) (IsSearch s') refl first second in
    ap Models (same_search (completed search_options first.1) s s' first.4 so)
one_request words (Check f t r) (Check f' t' r') first second =
    let so = values_same words (codes "check") root_option tree_places (IsCheck f t r) (IsCheck f' t' r') refl first second in
    let files = same_file (codes "FILE") (completed root_option first.1) f f' first.4.0 so.0 in
    let trees = same_file (codes "TREE") (completed root_option first.1) t t' first.4.1 so.1 in
    let roots = same_root (completed root_option first.1) r r' first.4.2 so.2 in
    λ i. Check (files i) (trees i) (roots i)
one_request words (Forms f r) (Forms f' r') first second =
    let so = values_same words (codes "forms") root_option file_place (IsForms f r) (IsForms f' r') refl first second in
    let files = same_file (codes "FILE") (completed root_option first.1) f f' first.4.0 so.0 in
    let roots = same_root (completed root_option first.1) r r' first.4.1 so.1 in
    λ i. Forms (files i) (roots i)
one_request words (Sample k n m) (Sample k' n' m') first second =
    let so = values_same words (codes "sample") sample_options size_place (IsSample k n m) (IsSample k' n' m') refl first second in
    let sizes = same_size (codes "K") (completed sample_options first.1) k k' first.4.0 so.0 in
    let all_workers = same_number workers (completed sample_options first.1) n n' first.4.1 so.1 in
    let budgets = same_number budget (completed sample_options first.1) m m' first.4.2 so.2 in
    λ i. Sample (sizes i) (all_workers i) (budgets i)
one_request words a b first second = absurd (other words a b refl first second)
