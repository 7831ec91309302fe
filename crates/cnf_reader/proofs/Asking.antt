-- What an include asks for has names of clean tokens.
use Rattle.std.proofs.Common.{◌≡◌, ◌≤◌, ℕ, suc, Bool, true, false, List, [], ◌∷◌, Option, Some, None, Ok, refl, sym, ◌∙◌, subst, arith, if◌then◌else◌}
use Rattle.std.proofs.lemmas.List.{length-append}
use Rattle.std.proofs.lemmas.List.Folds.{list_all-append}
use Rattle.std.specs.List.{list_all}
use Rattle.mg_word.specs.Facts.{is_name_byte}
use Rattle.mg_word.specs.declared.clause.Name.{Name}
use Rattle.mg_word.proofs.NameTexts.{number_named}
use Rattle.cnf_grammar.specs.declared.state.State.{State}
use Rattle.cnf_grammar.specs.declared.state.State.TheVariants.{Info, FileStart, SelectionStart, SelectionOpen, SelectedStart}
use Rattle.cnf_grammar.specs.declared.item.ItemState.{ItemState}
use Rattle.cnf_grammar.specs.Shapes.{Shape, Lower, Upper, Quoted, Distinct, Dollar, Number, NotEqual, Punct, is_name}
use Rattle.cnf_grammar.specs.Items.{item_step}
use Rattle.cnf_grammar.specs.Soundness.{is_clean}
use Rattle.cnf_grammar.proofs.Clean.{all_unquoted}
use Rattle.cnf_reader.specs.Faults.{name_of}
use Rattle.cnf_reader.specs.Sound.{AreFewNames, AsksByName}
use Rattle.cnf_reader.specs.Statements.{fresh, add_at, end_item, take, take_item, is_outside_items, file_text, add_name}
use Rattle.cnf_reader.specs.declared.pending.Asked.{Asked}
use Rattle.cnf_reader.specs.declared.pending.Pending.{Pending}
use Rattle.cnf_reader.proofs.Taking.{was_taken}

-- no more than that are no more than more
pub asks_within : (few most : ℕ) (asked : Asked) → few ≤ most → AsksByName few asked → AsksByName most asked
asks_within few most asked less asks = record { file = asks.file; names = more asked.names asks.names }
  where
    more : (names : Option (List Name)) → AreFewNames few names → AreFewNames most names
    more None within = tt
    more (Some names) (named, within) = (named, omega (arith, within, less))

asks_more : (most : ℕ) (asked : Asked) → AsksByName most asked → AsksByName (suc most) asked
asks_more most asked asks = asks_within most (suc most) asked (omega arith) asks

-- the name of a clean token
name_clean : (s : Shape) → is_clean s ≡ true → is_name s ≡ true → list_all is_name_byte (name_of s).text ≡ true
name_clean (Lower text) clean named = clean
name_clean (Upper text) clean named = refl
name_clean (Quoted text) clean named = all_unquoted is_name_byte text clean
name_clean (Distinct text) clean named = refl
name_clean (Dollar text) clean named = refl
name_clean (Number text true) clean named = number_named text clean
name_clean (Number text false) clean named = absurd cc
name_clean NotEqual clean named = refl
name_clean (Punct byte) clean named = refl

file_clean : (s : Shape) → is_clean s ≡ true → list_all is_name_byte (file_text s) ≡ true
file_clean (Lower text) clean = clean
file_clean (Upper text) clean = refl
file_clean (Quoted text) clean = all_unquoted is_name_byte text clean
file_clean (Distinct text) clean = refl
file_clean (Dollar text) clean = refl
file_clean (Number text plain) clean = refl
file_clean NotEqual clean = refl
file_clean (Punct byte) clean = refl

-- with one more name
names_more : (most : ℕ) (name : Name) (names : Option (List Name)) → list_all is_name_byte name.text ≡ true → AreFewNames most names → AreFewNames (suc most) (add_name name names)
names_more most name None clean few = (rw clean refl, omega arith)
names_more most name (Some names) clean (named, few) = (
  list_all-append (λ (other : Name). list_all is_name_byte other.text) names (name ∷ []) ∙ rw (named, clean) refl,
  let size = length-append names (name ∷ []) in omega (arith, few, size),
)

named_more : (most : ℕ) (asked : Asked) (s : Shape) (test : Bool) → is_name s ≡ test → is_clean s ≡ true → AsksByName most asked
    → AsksByName (suc most) (if test then record asked { names = add_name (name_of s) asked.names } else asked)
named_more most asked s true is clean asks = record { file = asks.file; names = names_more most (name_of s) asked.names (name_clean s clean is) asks.names }
named_more most asked s false is clean asks = asks_more most asked asks

info_asks : (outside : Bool) (p : Pending) (item : Option ItemState) → (if outside then end_item p else take_item p item).asked ≡ p.asked
info_asks true p item = refl
info_asks false p None = refl
info_asks false p (Some item) = refl

-- nothing is asked for at the start of a statement
pub fresh_asks : AsksByName 0 fresh.asked
fresh_asks = record { file = refl; names = tt }

-- one token more
pub asks_at : (state : State) (depth : ℕ) (outside : Bool) (p : Pending) (s : Shape) (line column most : ℕ) → is_clean s ≡ true → AsksByName most p.asked → AsksByName (suc most) (add_at state depth outside p s line column).asked
asks_at FileStart depth outside p s line column most clean asks = record { file = file_clean s clean; names = tt }
asks_at SelectionStart depth outside p s line column most clean asks = record { file = asks.file; names = (refl, omega arith) }
asks_at SelectionOpen depth outside p s line column most clean asks = named_more most p.asked s (is_name s) refl clean asks
asks_at SelectedStart depth outside p s line column most clean asks = named_more most p.asked s (is_name s) refl clean asks
asks_at Info depth outside p s line column most clean asks =
    subst (AsksByName (suc most)) (sym (info_asks outside p (item_step p.words p.item s))) (asks_more most p.asked asks)
asks_at state depth outside p s line column most clean asks = asks_more most p.asked asks

-- one clean token more was taken
pub asks_on : (is_full : Bool) (selections : List (Option (List Name))) (p q : Pending) (s : Shape) (line column most : ℕ) → take is_full selections p s line column ≡ Ok q → is_clean s ≡ true → AsksByName most p.asked → AsksByName (suc most) q.asked
asks_on is_full selections p q s line column most takes clean asks =
    let k = was_taken is_full selections p s line column q takes in
    subst (λ (r : Pending). AsksByName (suc most) r.asked) k.is (asks_at p.position.state p.position.depth (is_outside_items p.position s) p s line column most clean asks)
