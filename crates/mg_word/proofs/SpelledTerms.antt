-- A spelled term tells its symbols, whatever follows it.
use Rattle.std.proofs.Common.{◌≡◌, ℕ, zero, suc, ◌+◌, Bool, true, false, true≢false, not, ◌||◌, nat_eq, List, [], ◌∷◌, ◌++◌, map, length, refl, sym, ap, ◌∙◌, arith, append_assoc}
use Rattle.std.specs.List.{list_all}
use Rattle.std.proofs.lemmas.Bool.{and_parts}
use Rattle.mg_word.specs.Table.{Symbol}
use Rattle.mg_word.specs.Facts.{is_symbol}
use Rattle.mg_word.specs.Spelling.{is_word_byte, spelled_name, closing, still_open, behind, open_behind, spelled_within, symbol_piece}
use Rattle.mg_word.specs.OneSpelling.{make_terms, ends_word, SymbolsAreSpelledApart}
use Rattle.mg_word.proofs.SpelledNames.{Stops, name_same}

-- how many arguments are still to come
abbrev pending : List ℕ → ℕ
pending [] = 0
pending (wanted ∷ brackets) = wanted + pending brackets

-- neither a word nor a bracket goes on there
abbrev Ends : List ℕ → Type 0
Ends [] = Unit {0}
Ends (byte ∷ bytes) = (is_word_byte byte ≡ false) × (nat_eq byte 40 ≡ false)

ends : (bytes : List ℕ) → ends_word bytes ≡ true → Ends bytes
ends [] end = tt
ends (byte ∷ bytes) end = by (is_word_byte byte) refl (nat_eq byte 40) refl
  where
    by : (word : Bool) → is_word_byte byte ≡ word → (bracket : Bool) → nat_eq byte 40 ≡ bracket → (is_word_byte byte ≡ false) × (nat_eq byte 40 ≡ false)
    by true is bracket is' = absurd (true≢false (sym end ∙ ap (λ b. not (b || nat_eq byte 40)) is))
    by false is true is' = absurd (true≢false (sym end ∙ ap (λ b. not (b || nat_eq byte 40)) is ∙ ap not is'))
    by false is false is' = (is, is')

-- the rests of two terms agree, in whichever brackets they stand
abbrev Agree : List Symbol → List Symbol → List ℕ → List ℕ → Type 0
Agree these those more further =
    (left right : List ℕ) (wanted needed : ℕ) → length left ≡ length right → wanted ≡ suc (pending left) → needed ≡ suc (pending right) → make_terms wanted these ≡ true → make_terms needed those ≡ true
    → spelled_within left (map symbol_piece these) ++ more ≡ spelled_within right (map symbol_piece those) ++ further → (these ≡ those) × (left ≡ right) × (more ≡ further)

none_left : (wanted : ℕ) (symbols : List Symbol) → wanted ≡ 0 → make_terms wanted symbols ≡ true → symbols ≡ []
none_left zero [] is made = refl
none_left zero (symbol ∷ symbols) is made = cc
none_left (suc wanted) symbols is made = absurd (omega arith)

some_left : (wanted : ℕ) (left : List ℕ) → wanted ≡ suc (pending left) → make_terms wanted [] ≡ true → ⊥
some_left zero left is made = omega arith
some_left (suc wanted) left is made = true≢false (sym made)

-- what stands behind a finished argument tells the brackets that are left open
after_same : (these those : List Symbol) (more further : List ℕ) → Agree these those more further → (left right : List ℕ) (wanted needed : ℕ) → length left ≡ length right → wanted ≡ pending left → needed ≡ pending right
    → make_terms wanted these ≡ true → make_terms needed those ≡ true
    → closing left ++ (spelled_within (still_open left) (map symbol_piece these) ++ more) ≡ closing right ++ (spelled_within (still_open right) (map symbol_piece those) ++ further)
    → (these ≡ those) × (left ≡ right) × (more ≡ further)
after_same these those more further agree [] [] wanted needed deep is is' made made' e =
    let here = none_left wanted these is made in
    let there = none_left needed those is' made' in
    let e' : more ≡ further =
    sym (ap (λ symbols. spelled_within [] (map symbol_piece symbols) ++ more) here) ∙ e ∙ ap (λ symbols. spelled_within [] (map symbol_piece symbols) ++ further) there in
    (here ∙ sym there, refl, e')
after_same these those more further agree [] (n ∷ right) wanted needed deep is is' made made' e = absurd (omega arith)
after_same these those more further agree (n ∷ left) [] wanted needed deep is is' made made' e = absurd (omega arith)
after_same these those more further agree (zero ∷ left) (zero ∷ right) wanted needed deep is is' made made' e =
    let same = after_same these those more further agree left right wanted needed (omega arith) (omega arith) (omega arith) made made' cc in
    (same.0, ap (λ brackets. zero ∷ brackets) same.1, same.2)
after_same these those more further agree (zero ∷ left) (suc m ∷ right) wanted needed deep is is' made made' e =
    let wrong : ◌≡◌ {A = ℕ} 41 44 = cc in absurd (omega arith)
after_same these those more further agree (suc n ∷ left) (zero ∷ right) wanted needed deep is is' made made' e =
    let wrong : ◌≡◌ {A = ℕ} 44 41 = cc in absurd (omega arith)
after_same these those more further agree (suc n ∷ left) (suc m ∷ right) wanted needed deep is is' made made' e =
    let same = agree (n ∷ left) (m ∷ right) wanted needed (omega arith) (omega arith) (omega arith) made made' cc in
    let first : n ≡ m = cc in
    let rest : left ≡ right = cc in
    (same.0, cc, same.2)

-- behind a finished argument no bracket is opened
not_opened : (left : List ℕ) (symbols : List Symbol) (wanted : ℕ) (more rest : List ℕ) → wanted ≡ pending left → make_terms wanted symbols ≡ true → Ends more
    → closing left ++ (spelled_within (still_open left) (map symbol_piece symbols) ++ more) ≡ 40 ∷ rest → ⊥
not_opened [] symbols wanted more rest is made end e =
    let here = none_left wanted symbols is made in
    by more end (sym (ap (λ symbols. spelled_within [] (map symbol_piece symbols) ++ more) here) ∙ e)
  where
    by : (bytes : List ℕ) → Ends bytes → bytes ≡ 40 ∷ rest → ⊥
    by [] end same = cc
    by (byte ∷ bytes) end same =
        let first : byte ≡ 40 = cc in
        true≢false (sym (ap (λ b. nat_eq b 40) first) ∙ end.1)
not_opened (zero ∷ left) symbols wanted more rest is made end e = let wrong : ◌≡◌ {A = ℕ} 41 40 = cc in omega arith
not_opened (suc n ∷ left) symbols wanted more rest is made end e = let wrong : ◌≡◌ {A = ℕ} 44 40 = cc in omega arith

-- what stands behind a symbol tells its arity
behind_same : (these those : List Symbol) (more further : List ℕ) → Agree these those more further → Ends more → Ends further → (arity count : ℕ) (left right : List ℕ) (wanted needed : ℕ) → length left ≡ length right
    → wanted ≡ arity + pending left → needed ≡ count + pending right → make_terms wanted these ≡ true → make_terms needed those ≡ true
    → behind arity left ++ (spelled_within (open_behind arity left) (map symbol_piece these) ++ more) ≡ behind count right ++ (spelled_within (open_behind count right) (map symbol_piece those) ++ further)
    → (arity ≡ count) × (these ≡ those) × (left ≡ right) × (more ≡ further)
behind_same these those more further agree end stop zero zero left right wanted needed deep is is' made made' e =
    let same = after_same these those more further agree left right wanted needed deep (omega arith) (omega arith) made made' e in
    (refl, same.0, same.1, same.2)
behind_same these those more further agree end stop zero (suc count) left right wanted needed deep is is' made made' e =
    absurd (not_opened left these wanted more (spelled_within (count ∷ right) (map symbol_piece those) ++ further) (omega arith) made end e)
behind_same these those more further agree end stop (suc arity) zero left right wanted needed deep is is' made made' e =
    absurd (not_opened right those needed further (spelled_within (arity ∷ left) (map symbol_piece these) ++ more) (omega arith) made' stop (sym e))
behind_same these those more further agree end stop (suc arity) (suc count) left right wanted needed deep is is' made made' e =
    let same = agree (arity ∷ left) (count ∷ right) wanted needed (omega arith) (omega arith) (omega arith) made made' cc in
    let first : arity ≡ count = cc in
    let rest : left ≡ right = cc in
    (cc, same.0, rest, same.2)

-- no byte of a word stands behind a symbol's name
stops_behind : (arity : ℕ) (left : List ℕ) (symbols : List Symbol) (wanted : ℕ) (more : List ℕ) → wanted ≡ arity + pending left → make_terms wanted symbols ≡ true → Ends more
    → Stops (behind arity left ++ (spelled_within (open_behind arity left) (map symbol_piece symbols) ++ more))
stops_behind zero [] symbols wanted more is made end = rw (none_left wanted symbols (omega arith) made) (by more end)
  where
    by : (bytes : List ℕ) → Ends bytes → Stops bytes
    by [] end = tt
    by (byte ∷ bytes) end = end.0
stops_behind zero (zero ∷ left) symbols wanted more is made end = refl
stops_behind zero (suc n ∷ left) symbols wanted more is made end = refl
stops_behind (suc arity) left symbols wanted more is made end = refl

all_agree : (these those : List Symbol) (more further : List ℕ) → list_all is_symbol these ≡ true → list_all is_symbol those ≡ true → Ends more → Ends further → Agree these those more further
all_agree [] those more further fine good end stop left right wanted needed deep is is' made made' e = absurd (some_left wanted left is made)
all_agree (this ∷ these) [] more further fine good end stop left right wanted needed deep is is' made made' e = absurd (some_left needed right is' made')
all_agree (this ∷ these) (that ∷ those) more further fine good end stop left right zero needed deep is is' made made' e = absurd (omega arith)
all_agree (this ∷ these) (that ∷ those) more further fine good end stop left right (suc wanted) zero deep is is' made made' e = absurd (omega arith)
all_agree (this ∷ these) (that ∷ those) more further fine good end stop left right (suc wanted) (suc needed) deep is is' made made' e =
    let first = and_parts (is_symbol this) (list_all is_symbol these) fine in
    let second = and_parts (is_symbol that) (list_all is_symbol those) good in
    let rest = spelled_within (open_behind this.arity left) (map symbol_piece these) in
    let others = spelled_within (open_behind that.arity right) (map symbol_piece those) in
    let regroup = append_assoc (spelled_name this.kind this.name) (behind this.arity left ++ rest) more ∙ ap (λ bytes. spelled_name this.kind this.name ++ bytes) (append_assoc (behind this.arity left) rest more) in
    let regroup' = append_assoc (spelled_name that.kind that.name) (behind that.arity right ++ others) further ∙ ap (λ bytes. spelled_name that.kind that.name ++ bytes) (append_assoc (behind that.arity right) others further) in
    let names = name_same this.kind that.kind this.name that.name this.arity that.arity (behind this.arity left ++ (rest ++ more)) (behind that.arity right ++ (others ++ further)) first.0 second.0
    (stops_behind this.arity left these (this.arity + wanted) more (omega arith) made end) (stops_behind that.arity right those (that.arity + needed) further (omega arith) made' stop)
    (sym regroup ∙ e ∙ regroup') in
    let same = behind_same these those more further (all_agree these those more further first.1 second.1 end stop) end stop this.arity that.arity left right (this.arity + wanted) (that.arity + needed) deep
    (omega arith) (omega arith) made made' names.2 in
    let symbols : this ≡ that = λ i. record { name = names.1 i; arity = same.0 i; kind = names.0 i } in
    (cc, same.2, same.3)

-- terms with one spelling have the same symbols
pub symbols_apart : SymbolsAreSpelledApart
symbols_apart these those more further made made' fine good end stop e =
    let same = all_agree these those more further fine good (ends more end) (ends further stop) [] [] 1 1 refl refl refl made made' e in
    (same.0, same.2)
