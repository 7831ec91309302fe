-- No two files spell the same tokens.
use Rattle.cnf_grammar.proofs.Common.{◌≡◌, ℕ, Bool, true, false, List, [], ◌∷◌, ◌++◌, Option, Some, None, codes, bytes_eq, refl, sym, ◌∙◌, ap, ap₂, subst, append_assoc, Bracket, Round, Square, Shape, Number, Punct, left_round, right_round, left_square, right_square, comma, dot, is_mark, is_bracket, Name, word_name, number_name, FileName, bare_file, quoted_file, Balanced, no_tokens, then_token, then_group, Part, single, group, Annotations, no_annotations, annotations, Selection, every_clause, selected, Formula, clause, include, name_token, file_token, opening, closing, spell_formula, spell_balanced, spell_part, spell_parts, spell_source, spell_items, spell_info, spell_optional_info, spell_annotations, spell_more_names, spell_names, spell_selection, spell_statement, spell}
use Rattle.std.proofs.Math.Bool.{Bool-set}
use Rattle.cnf_grammar.specs.Trees.{Source, Info, Statement}
use Rattle.cnf_grammar.proofs.OneTerm.{Ends, ends_comma, ends_round, heads, apart, no_word, one_word, regrouped, both, one_formula}

-- two proofs that a test fails are one
pub one_proof : (a b : Bool) (p q : a ≡ b) → p ≡ q
one_proof a b p q = Bool-set a b p q

-- two tests of one token are told apart
different : (test : Shape → Bool) (s t : Shape) → s ≡ t → test s ≡ true → test t ≡ false → ⊥
different test s t e h k = let l : test s ≡ false = subst (λ x. test x ≡ false) (sym e) k in cc

opening_is_bracket : (bracket : Bracket) → is_bracket (opening bracket) ≡ true
opening_is_bracket Round = refl
opening_is_bracket Square = refl

closing_is_bracket : (bracket : Bracket) → is_bracket (Punct (closing bracket)) ≡ true
closing_is_bracket Round = refl
closing_is_bracket Square = refl

one_closing : (a b : Bracket) → Punct (closing a) ≡ Punct (closing b) → a ≡ b
one_closing Round Round e = refl
one_closing Square Square e = refl
one_closing Round Square e = absurd (apart right_round (Punct right_round) (Punct right_square) e refl refl)
one_closing Square Round e = absurd (apart right_square (Punct right_square) (Punct right_round) e refl refl)

opening_not_closing : (a b : Bracket) → opening a ≡ Punct (closing b) → ⊥
opening_not_closing Round Round e = apart left_round (Punct left_round) (Punct right_round) e refl refl
opening_not_closing Round Square e = apart left_round (Punct left_round) (Punct right_square) e refl refl
opening_not_closing Square Round e = apart left_square (Punct left_square) (Punct right_round) e refl refl
opening_not_closing Square Square e = apart left_square (Punct left_square) (Punct right_square) e refl refl

-- equal tokens and equal rests make equal trees
token_same : (s t : Shape) → s ≡ t → (p : is_bracket s ≡ false) (q : is_bracket t ≡ false) (m n : Balanced) → m ≡ n → then_token s p m ≡ then_token t q n
token_same s t e p q m n f =
    let P : Shape → Type 0 = λ x. (r : is_bracket x ≡ false) → then_token s p m ≡ then_token x r n in
    subst P e (λ r. ap (then_token s p) f ∙ ap (λ g. then_token s g n) (one_proof (is_bracket s) false p r)) q

single_same : (s t : Shape) → s ≡ t → (p : is_bracket s ≡ false) (c : is_mark comma s ≡ false) (q : is_bracket t ≡ false) (d : is_mark comma t ≡ false) → single s p c ≡ single t q d
single_same s t e p c q d =
    let P : Shape → Type 0 = λ x. (r : is_bracket x ≡ false) (b : is_mark comma x ≡ false) → single s p c ≡ single x r b in
    subst P e (λ r b. ap₂ (single s) (one_proof (is_bracket s) false p r) (one_proof (is_mark comma s) false c b)) q d

group_same : (a b : Bracket) → a ≡ b → (x y : Balanced) → x ≡ y → (m n : Balanced) → m ≡ n → then_group a x m ≡ then_group b y n
group_same a b e x y f m n g = ap (λ k. then_group k x m) e ∙ ap₂ (then_group b) f g

pub one_balanced : (x y : Balanced) (a b : Bracket) (r s : List Shape) → spell_balanced x ++ Punct (closing a) ∷ r ≡ spell_balanced y ++ Punct (closing b) ∷ s → (x ≡ y) × (a ≡ b) × (r ≡ s)
one_balanced no_tokens no_tokens a b r s e = (refl, one_closing a b (heads e).0, (heads e).1)
one_balanced no_tokens (then_token t q n) a b r s e = absurd (different is_bracket (Punct (closing a)) t (heads e).0 (closing_is_bracket a) q)
one_balanced no_tokens (then_group g y n) a b r s e = absurd (opening_not_closing g a (sym (heads e).0))
one_balanced (then_token t p m) no_tokens a b r s e = absurd (different is_bracket (Punct (closing b)) t (sym (heads e).0) (closing_is_bracket b) p)
one_balanced (then_token t p m) (then_token u q n) a b r s e =
    let h = one_balanced m n a b r s (heads e).1 in
    (token_same t u (heads e).0 p q m n h.0, h.1, h.2)
one_balanced (then_token t p m) (then_group g y n) a b r s e = absurd (different is_bracket (opening g) t (sym (heads e).0) (opening_is_bracket g) p)
one_balanced (then_group f x m) no_tokens a b r s e = absurd (opening_not_closing f b (heads e).0)
one_balanced (then_group f x m) (then_token t q n) a b r s e = absurd (different is_bracket (opening f) t (heads e).0 (opening_is_bracket f) q)
one_balanced (then_group f x m) (then_group g y n) a b r s e =
    let same = both (append_assoc (spell_balanced x) (Punct (closing f) ∷ spell_balanced m) (Punct (closing a) ∷ r)) (append_assoc (spell_balanced y) (Punct (closing g) ∷ spell_balanced n) (Punct (closing b) ∷ s)) (heads e).1 in
    let h = one_balanced x y f g (spell_balanced m ++ Punct (closing a) ∷ r) (spell_balanced n ++ Punct (closing b) ∷ s) same in
    let k = one_balanced m n a b r s h.2 in
    (group_same f g h.1 x y h.0 m n k.0, k.1, k.2)

pub one_part : (x y : Part) (r s : List Shape) → spell_part x ++ r ≡ spell_part y ++ s → (x ≡ y) × (r ≡ s)
one_part (single t p c) (single u q d) r s e = (single_same t u (heads e).0 p c q d, (heads e).1)
one_part (single t p c) (group g y) r s e = absurd (different is_bracket (opening g) t (sym (heads e).0) (opening_is_bracket g) p)
one_part (group f x) (single u q d) r s e = absurd (different is_bracket (opening f) u (heads e).0 (opening_is_bracket f) q)
one_part (group f x) (group g y) r s e =
    let same = both (append_assoc (spell_balanced x) (Punct (closing f) ∷ []) r) (append_assoc (spell_balanced y) (Punct (closing g) ∷ []) s) (heads e).1 in
    let h = one_balanced x y f g r s same in
    (ap₂ group h.1 h.0, h.2)

-- what may stand behind parts: a comma or a closing bracket
pub data EndsParts : List Shape → Type 0 where
  parts_comma : {rest : List Shape} → EndsParts (Punct comma ∷ rest)
  parts_closing : (bracket : Bracket) {rest : List Shape} → EndsParts (Punct (closing bracket) ∷ rest)

closing_not_comma : (bracket : Bracket) → is_mark comma (opening bracket) ≡ false
closing_not_comma Round = refl
closing_not_comma Square = refl

part_goes_on : (part : Part) (rest more : List Shape) → EndsParts rest → rest ≡ spell_part part ++ more → ⊥
part_goes_on (single t p c) _ more parts_comma e = different (is_mark comma) (Punct comma) t (heads e).0 refl c
part_goes_on (single t p c) _ more (parts_closing b) e = different is_bracket (Punct (closing b)) t (heads e).0 (closing_is_bracket b) p
part_goes_on (group g x) _ more parts_comma e = different (is_mark comma) (Punct comma) (opening g) (heads e).0 refl (closing_not_comma g)
part_goes_on (group g x) _ more (parts_closing b) e = opening_not_closing g b (sym (heads e).0)

pub one_parts : (m n : List Part) (r s : List Shape) → EndsParts r → EndsParts s → spell_parts m ++ r ≡ spell_parts n ++ s → (m ≡ n) × (r ≡ s)
one_parts [] [] r s f g e = (refl, e)
one_parts [] (y ∷ n) r s f g e = absurd (part_goes_on y r (spell_parts n ++ s) f (e ∙ append_assoc (spell_part y) (spell_parts n) s))
one_parts (x ∷ m) [] r s f g e = absurd (part_goes_on x s (spell_parts m ++ r) g (sym e ∙ append_assoc (spell_part x) (spell_parts m) r))
one_parts (x ∷ m) (y ∷ n) r s f g e =
    let same = both (append_assoc (spell_part x) (spell_parts m) r) (append_assoc (spell_part y) (spell_parts n) s) e in
    let h = one_part x y (spell_parts m ++ r) (spell_parts n ++ s) same in
    let k = one_parts m n r s f g h.1 in
    (ap₂ (λ z zs. z ∷ zs) h.0 k.0, k.1)

items_end : (items : List (List Part)) (rest : List Shape) → EndsParts (spell_items items ++ Punct right_square ∷ rest)
items_end [] rest = parts_closing Square
items_end (item ∷ more) rest = parts_comma

pub one_items : (m n : List (List Part)) (r s : List Shape) → spell_items m ++ Punct right_square ∷ r ≡ spell_items n ++ Punct right_square ∷ s → (m ≡ n) × (r ≡ s)
one_items [] [] r s e = (refl, (heads e).1)
one_items [] (y ∷ n) r s e = absurd (apart right_square (Punct right_square) (Punct comma) (heads e).0 refl refl)
one_items (x ∷ m) [] r s e = absurd (apart comma (Punct comma) (Punct right_square) (heads e).0 refl refl)
one_items (x ∷ m) (y ∷ n) r s e =
    let same = both (append_assoc (spell_parts x) (spell_items m) (Punct right_square ∷ r)) (append_assoc (spell_parts y) (spell_items n) (Punct right_square ∷ s)) (heads e).1 in
    let h = one_parts x y (spell_items m ++ Punct right_square ∷ r) (spell_items n ++ Punct right_square ∷ s) (items_end m r) (items_end n s) same in
    let k = one_items m n r s h.1 in
    (ap₂ (λ z zs. z ∷ zs) h.0 k.0, k.1)

info_same : (x y : Info) → x.first ≡ y.first → x.more ≡ y.more → x ≡ y
info_same x y e f = ap₂ (λ a b. let i : Info = record { first = a; more = b } in i) e f

source_same : (x y : Source) → x.first ≡ y.first → x.more ≡ y.more → x ≡ y
source_same x y e f = ap₂ (λ a b. let i : Source = record { first = a; more = b } in i) e f

pub one_info : (x y : Info) (r s : List Shape) → spell_info x ++ r ≡ spell_info y ++ s → (x ≡ y) × (r ≡ s)
one_info x y r s e =
    let same = both (regrouped (spell_parts x.first) (spell_items x.more) (Punct right_square ∷ []) r) (regrouped (spell_parts y.first) (spell_items y.more) (Punct right_square ∷ []) s) (heads e).1 in
    let h = one_parts x.first y.first (spell_items x.more ++ Punct right_square ∷ r) (spell_items y.more ++ Punct right_square ∷ s) (items_end x.more r) (items_end y.more s) same in
    let k = one_items x.more y.more r s h.1 in
    (info_same x y h.0 k.0, k.1)

pub one_optional_info : (x y : Option Info) (r s : List Shape) → spell_optional_info x ++ Punct right_round ∷ r ≡ spell_optional_info y ++ Punct right_round ∷ s → (x ≡ y) × (r ≡ s)
one_optional_info None None r s e = (refl, (heads e).1)
one_optional_info None (Some y) r s e = absurd (apart right_round (Punct right_round) (Punct comma) (heads e).0 refl refl)
one_optional_info (Some x) None r s e = absurd (apart comma (Punct comma) (Punct right_round) (heads e).0 refl refl)
one_optional_info (Some x) (Some y) r s e =
    let h = one_info x y (Punct right_round ∷ r) (Punct right_round ∷ s) (heads e).1 in
    (ap Some h.0, (heads h.1).1)

optional_info_ends : (info : Option Info) (rest : List Shape) → EndsParts (spell_optional_info info ++ Punct right_round ∷ rest)
optional_info_ends None rest = parts_closing Round
optional_info_ends (Some info) rest = parts_comma

pub one_annotations : (x y : Annotations) (r s : List Shape) → spell_annotations x ++ Punct right_round ∷ r ≡ spell_annotations y ++ Punct right_round ∷ s → (x ≡ y) × (r ≡ s)
one_annotations no_annotations no_annotations r s e = (refl, (heads e).1)
one_annotations no_annotations (annotations b y) r s e = absurd (apart right_round (Punct right_round) (Punct comma) (heads e).0 refl refl)
one_annotations (annotations a x) no_annotations r s e = absurd (apart comma (Punct comma) (Punct right_round) (heads e).0 refl refl)
one_annotations (annotations a x) (annotations b y) r s e =
    let left = append_assoc (spell_source a) (spell_optional_info x) (Punct right_round ∷ r) ∙ append_assoc (spell_part a.first) (spell_parts a.more) (spell_optional_info x ++ Punct right_round ∷ r) in
    let right = append_assoc (spell_source b) (spell_optional_info y) (Punct right_round ∷ s) ∙ append_assoc (spell_part b.first) (spell_parts b.more) (spell_optional_info y ++ Punct right_round ∷ s) in
    let same = both left right (heads e).1 in
    let first = one_part a.first b.first (spell_parts a.more ++ (spell_optional_info x ++ Punct right_round ∷ r)) (spell_parts b.more ++ (spell_optional_info y ++ Punct right_round ∷ s)) same in
    let more = one_parts a.more b.more (spell_optional_info x ++ Punct right_round ∷ r) (spell_optional_info y ++ Punct right_round ∷ s) (optional_info_ends x r) (optional_info_ends y s) first.1 in
    let info = one_optional_info x y r s more.1 in
    (ap₂ annotations (source_same a b first.0 more.0) info.0, info.1)

pub one_name : (a b : Name) → name_token a ≡ name_token b → a ≡ b
one_name (word_name v) (word_name w) e = ap word_name (one_word v w e)
one_name (number_name a) (number_name b) e = let p : a ≡ b = cc in ap number_name p
one_name (word_name v) (number_name b) e = absurd (no_word v (Number b true) e refl)
one_name (number_name a) (word_name w) e = absurd (no_word w (Number a true) (sym e) refl)

pub one_file_name : (a b : FileName) → file_token a ≡ file_token b → a ≡ b
one_file_name (bare_file a) (bare_file b) e = let p : a ≡ b = cc in ap bare_file p
one_file_name (quoted_file a p) (quoted_file b q) e =
    let P : List ℕ → Type 0 = λ x. (r : bytes_eq x (codes "''") ≡ false) → quoted_file a p ≡ quoted_file x r in
    let same : a ≡ b = cc in
    subst P same (λ r. ap (quoted_file a) (one_proof (bytes_eq a (codes "''")) false p r)) q
one_file_name (bare_file a) (quoted_file b q) e = cc
one_file_name (quoted_file a p) (bare_file b) e = cc

pub one_more_names : (m n : List Name) (r s : List Shape) → spell_more_names m ++ Punct right_square ∷ r ≡ spell_more_names n ++ Punct right_square ∷ s → (m ≡ n) × (r ≡ s)
one_more_names [] [] r s e = (refl, (heads e).1)
one_more_names [] (y ∷ n) r s e = absurd (apart right_square (Punct right_square) (Punct comma) (heads e).0 refl refl)
one_more_names (x ∷ m) [] r s e = absurd (apart comma (Punct comma) (Punct right_square) (heads e).0 refl refl)
one_more_names (x ∷ m) (y ∷ n) r s e =
    let tails = (heads e).1 in
    let h = one_more_names m n r s (heads tails).1 in
    (ap₂ (λ z zs. z ∷ zs) (one_name x y (heads tails).0) h.0, h.1)

-- no name is a mark
name_apart : (name : Name) (byte : ℕ) → name_token name ≡ Punct byte → ⊥
name_apart (word_name word) byte e = no_word word (Punct byte) e refl
name_apart (number_name text) byte e = cc

pub one_names : (m n : List Name) (r s : List Shape) → spell_names m ++ Punct right_square ∷ r ≡ spell_names n ++ Punct right_square ∷ s → (m ≡ n) × (r ≡ s)
one_names [] [] r s e = (refl, (heads e).1)
one_names [] (y ∷ n) r s e = absurd (name_apart y right_square (sym (heads e).0))
one_names (x ∷ m) [] r s e = absurd (name_apart x right_square (heads e).0)
one_names (x ∷ m) (y ∷ n) r s e =
    let h = one_more_names m n r s (heads e).1 in
    (ap₂ (λ z zs. z ∷ zs) (one_name x y (heads e).0) h.0, h.1)

pub one_selection : (x y : Selection) (r s : List Shape) → spell_selection x ++ Punct right_round ∷ r ≡ spell_selection y ++ Punct right_round ∷ s → (x ≡ y) × (r ≡ s)
one_selection every_clause every_clause r s e = (refl, (heads e).1)
one_selection every_clause (selected n) r s e = absurd (apart right_round (Punct right_round) (Punct comma) (heads e).0 refl refl)
one_selection (selected m) every_clause r s e = absurd (apart comma (Punct comma) (Punct right_round) (heads e).0 refl refl)
one_selection (selected m) (selected n) r s e =
    let tails = (heads (heads e).1).1 in
    let same = both (append_assoc (spell_names m) (Punct right_square ∷ []) (Punct right_round ∷ r)) (append_assoc (spell_names n) (Punct right_square ∷ []) (Punct right_round ∷ s)) tails in
    let h = one_names m n (Punct right_round ∷ r) (Punct right_round ∷ s) same in
    (ap selected h.0, (heads h.1).1)

-- what is equal in a statement
clause_same : (a b : Name) → a ≡ b → (s t : List ℕ) → s ≡ t → (f g : Formula) → f ≡ g → (x y : Annotations) → x ≡ y → clause a s f x ≡ clause b t g y
clause_same a b e s t k f g h x y l = ap (λ n. clause n s f x) e ∙ (ap (λ r. clause b r f x) k ∙ ap₂ (clause b t) h l)

-- no two statements spell the same tokens
notes_end : (notes : Annotations) (rest : List Shape) → Ends (spell_annotations notes ++ Punct right_round ∷ rest)
notes_end no_annotations rest = ends_round
notes_end (annotations source info) rest = ends_comma

pub one_statement : (x y : Statement) (r s : List Shape) → spell_statement x ++ r ≡ spell_statement y ++ s → (x ≡ y) × (r ≡ s)
one_statement (clause a role f x) (clause b other g y) r s e =
    let e2 = (heads (heads e).1).1 in
    let e3 = (heads e2).1 in
    let e4 = (heads e3).1 in
    let e5 = (heads (heads e4).1).1 in
    let roles : role ≡ other = cc ((heads e4).0) in
    let same = both (regrouped (spell_formula f) (spell_annotations x) (Punct right_round ∷ (Punct dot ∷ [])) r) (regrouped (spell_formula g) (spell_annotations y) (Punct right_round ∷ (Punct dot ∷ [])) s) e5 in
    let h = one_formula f g (spell_annotations x ++ Punct right_round ∷ (Punct dot ∷ r)) (spell_annotations y ++ Punct right_round ∷ (Punct dot ∷ s)) (notes_end x (Punct dot ∷ r)) (notes_end y (Punct dot ∷ s)) same in
    let k = one_annotations x y (Punct dot ∷ r) (Punct dot ∷ s) h.1 in
    (clause_same a b (one_name a b (heads e2).0) role other roles f g h.0 x y k.0, (heads k.1).1)
one_statement (include a x) (include b y) r s e =
    let e2 = (heads (heads e).1).1 in
    let same = both (append_assoc (spell_selection x) (Punct right_round ∷ (Punct dot ∷ [])) r) (append_assoc (spell_selection y) (Punct right_round ∷ (Punct dot ∷ [])) s) (heads e2).1 in
    let h = one_selection x y (Punct dot ∷ r) (Punct dot ∷ s) same in
    (ap₂ include (one_file_name a b (heads e2).0) h.0, (heads h.1).1)
one_statement (clause a role f x) (include b y) r s e = cc
one_statement (include a x) (clause b other g y) r s e = cc

pub one_file : (f g : List Statement) → spell f ≡ spell g → f ≡ g
one_file [] [] e = refl
one_file [] (clause b other h y ∷ g) e = cc
one_file [] (include b y ∷ g) e = cc
one_file (clause a role h x ∷ f) [] e = cc
one_file (include a x ∷ f) [] e = cc
one_file (x ∷ f) (y ∷ g) e =
    let h = one_statement x y (spell f) (spell g) e in
    ap₂ (λ z zs. z ∷ zs) h.0 (one_file f g h.1)
