-- The reading of words finds the arguments that they are spelled by, and no others.
use Rattle.std.proofs.Common.{◌&&◌, ◌≡◌, ◌≢◌, ◌⊎◌, ℕ, zero, suc, Bool, cond, true, false, List, [], ◌∷◌, ◌++◌, map, Option, Some, None, refl, sym, ap, ap₂, ◌∙◌, subst, inl, inr, arith, nat_eq, unwrap_or}
use Rattle.std.specs.Prelude.{codes, option_and_then}
use Rattle.std.specs.List.{AllByRecursion, filter_map, flat_map, list_any}
use Rattle.std.specs.Str.{bytes_eq}
use Rattle.std.proofs.lemmas.Bool.{true≢false, eqb-true, eqb-false, or_parts}
use Rattle.std.proofs.lemmas.Slice.Eq.{bytes_eq-Decides}
use Rattle.clap.specs.Lexer.{long_of, long_of_rest, name_and_value, short_of, short_of_rest, strip_byte}
use Rattle.clap.proofs.CutLemmas.{Lacks}
use Rattle.clap.proofs.LexerLemmas.{name_and_value-at, name_and_value-without}
use Rattle.command_words.specs.Given.{Word, Values, Row, Argument, Pair, Joined, Flag, Placed, written, given, filled, is_dashed, takes_value_of, IsProper, ending}
use Rattle.command_words.proofs.Reading.{Kind, Read, IsKind, kind, kind_is, marker, opening, whole, lone, wrong, free, more, reading, short_kind, step, trailing}

-- ---- names and values in a word

Lacks-cons : (x : ℕ) (xs : List ℕ) → x ≢ 61 → Lacks 61 xs → Lacks 61 (x ∷ xs)
Lacks-cons x xs other lacks zero lt = other
Lacks-cons x xs other lacks (suc i) lt = lacks i (omega arith)

pub Lacks-from_test : (xs : List ℕ) → list_any (λ byte. nat_eq byte 61) xs ≡ false → Lacks 61 xs
Lacks-from_test [] none = λ i lt. absurd (omega arith)
Lacks-from_test (x ∷ xs) none =
    let parts = or_parts (nat_eq x 61) (list_any (λ byte. nat_eq byte 61) xs) none in
    Lacks-cons x xs (eqb-false x 61 parts.0) (Lacks-from_test xs parts.1)

pub record IsCut (text : Word) : Type 0 where
  pub name : Word
  pub rest : Word
  pub text_is : text ≡ name ++ 61 ∷ rest
  pub lacks : Lacks 61 name

cut : (text : Word) → Lacks 61 text ⊎ IsCut text
cut [] = inl (λ i lt. absurd (omega arith))
cut (x ∷ text) = go (nat_eq x 61) refl (cut text)
  where
    go : (b : Bool) → nat_eq x 61 ≡ b → Lacks 61 text ⊎ IsCut text → Lacks 61 (x ∷ text) ⊎ IsCut (x ∷ text)
    go true is rest = inr (record { name = []; rest = text; text_is = ap (λ byte. byte ∷ text) (eqb-true x 61 is); lacks = λ i lt. absurd (omega arith) })
    go false is (inl lacks) = inl (Lacks-cons x text (eqb-false x 61 is) lacks)
    go false is (inr parts) = inr (record { name = x ∷ parts.name; rest = parts.rest; text_is = ap (λ t. x ∷ t) parts.text_is; lacks = Lacks-cons x parts.name (eqb-false x 61 is) parts.lacks })

long_word : (word name : Word) (o : Option Word) → long_of word ≡ Some (name, o) → (text : Word) × (word ≡ 45 ∷ 45 ∷ text) × (name_and_value text ≡ (name, o))
long_word [] name o is = let e : ◌≡◌ {A = Option (Word × Option Word)} None (Some (name, o)) = is in absurd (cc)
long_word (x ∷ []) name o is = go (nat_eq x 45) is
  where
    go : (b : Bool) → option_and_then long_of_rest (option_and_then (strip_byte 45) (cond b (Some []) None)) ≡ Some (name, o) → (text : Word) × (x ∷ [] ≡ 45 ∷ 45 ∷ text) × (name_and_value text ≡ (name, o))
    go true e = let n : ◌≡◌ {A = Option (Word × Option Word)} None (Some (name, o)) = e in absurd (cc)
    go false e = let n : ◌≡◌ {A = Option (Word × Option Word)} None (Some (name, o)) = e in absurd (cc)
long_word (x ∷ y ∷ []) name o is = go (nat_eq x 45) is
  where
    second : (d : Bool) → option_and_then long_of_rest (cond d (Some []) None) ≡ Some (name, o) → (text : Word) × (x ∷ y ∷ [] ≡ 45 ∷ 45 ∷ text) × (name_and_value text ≡ (name, o))
    second true e = let n : ◌≡◌ {A = Option (Word × Option Word)} None (Some (name, o)) = e in absurd (cc)
    second false e = let n : ◌≡◌ {A = Option (Word × Option Word)} None (Some (name, o)) = e in absurd (cc)

    go : (b : Bool) → option_and_then long_of_rest (option_and_then (strip_byte 45) (cond b (Some (y ∷ [])) None)) ≡ Some (name, o) → (text : Word) × (x ∷ y ∷ [] ≡ 45 ∷ 45 ∷ text) × (name_and_value text ≡ (name, o))
    go true e = second (nat_eq y 45) e
    go false e = let n : ◌≡◌ {A = Option (Word × Option Word)} None (Some (name, o)) = e in absurd (cc)
long_word (x ∷ y ∷ z ∷ text) name o is = go (nat_eq x 45) refl is
  where
    second : x ≡ 45 → (b : Bool) → nat_eq y 45 ≡ b → option_and_then long_of_rest (cond b (Some (z ∷ text)) None) ≡ Some (name, o) → (t : Word) × (x ∷ y ∷ z ∷ text ≡ 45 ∷ 45 ∷ t) × (name_and_value t ≡ (name, o))
    second first true is e =
        let second_is : y ≡ 45 = eqb-true y 45 is in
        (z ∷ text, ap₂ (λ a b. a ∷ b ∷ z ∷ text) first second_is, let s : Some (name_and_value (z ∷ text)) ≡ Some (name, o) = e in cc)
    second first false is e = let n : ◌≡◌ {A = Option (Word × Option Word)} None (Some (name, o)) = e in absurd (cc)

    go : (b : Bool) → nat_eq x 45 ≡ b → option_and_then long_of_rest (option_and_then (strip_byte 45) (cond b (Some (y ∷ z ∷ text)) None)) ≡ Some (name, o)
        → (t : Word) × (x ∷ y ∷ z ∷ text ≡ 45 ∷ 45 ∷ t) × (name_and_value t ≡ (name, o))
    go true is e = second (eqb-true x 45 is) (nat_eq y 45) refl e
    go false is e = let n : ◌≡◌ {A = Option (Word × Option Word)} None (Some (name, o)) = e in absurd (cc)

opening_word : (word name : Word) → long_of word ≡ Some (name, None) → word ≡ 45 ∷ 45 ∷ name
opening_word word name is = let parts = long_word word name None is in parts.1 ∙ ap (λ text. 45 ∷ 45 ∷ text) (go parts.0 parts.2 (cut parts.0))
  where
    go : (text : Word) → name_and_value text ≡ (name, None) → Lacks 61 text ⊎ IsCut text → text ≡ name
    go text split (inl lacks) = let e : (text, None) ≡ (name, None) = sym (name_and_value-without text lacks) ∙ split in ap (λ p. p.0) e
    go text split (inr parts) =
        let e : (parts.name, Some parts.rest) ≡ (name, None) = sym (name_and_value-at parts.name parts.rest parts.lacks) ∙ (ap name_and_value (sym parts.text_is) ∙ split) in
        let n : Some parts.rest ≡ None = ap (λ p. p.1) e in absurd (cc)

whole_word : (word name value : Word) → long_of word ≡ Some (name, Some value) → word ≡ 45 ∷ 45 ∷ (name ++ 61 ∷ value)
whole_word word name value is = let parts = long_word word name (Some value) is in parts.1 ∙ ap (λ text. 45 ∷ 45 ∷ text) (go parts.0 parts.2 (cut parts.0))
  where
    go : (text : Word) → name_and_value text ≡ (name, Some value) → Lacks 61 text ⊎ IsCut text → text ≡ name ++ 61 ∷ value
    go text split (inl lacks) =
        let e : (text, None) ≡ (name, Some value) = sym (name_and_value-without text lacks) ∙ split in
        let n : None ≡ Some value = ap (λ p. p.1) e in absurd (cc)
    go text split (inr parts) =
        let e : (parts.name, Some parts.rest) ≡ (name, Some value) = sym (name_and_value-at parts.name parts.rest parts.lacks) ∙ (ap name_and_value (sym parts.text_is) ∙ split) in
        let value_is : Some parts.rest ≡ Some value = ap (λ p. p.1) e in
        let rest_is : parts.rest ≡ value = cc in
        parts.text_is ∙ ap₂ (λ a b. a ++ 61 ∷ b) (ap (λ p. p.0) e) rest_is

free_word : (word : Word) → bytes_eq word (45 ∷ 45 ∷ []) ≡ false → long_of word ≡ None → short_of word ≡ None → is_dashed word ≡ false
free_word [] marked long short = refl
free_word (x ∷ []) marked long short = refl
free_word (x ∷ y ∷ []) marked long short = go (nat_eq x 45) marked short
  where
    second : (d : Bool) → (d && true) ≡ false → cond d None (Some (y ∷ [])) ≡ None → ⊥
    second true m e = true≢false m
    second false m e = let n : Some (y ∷ []) ≡ None = e in cc

    go : (b : Bool) → (b && (nat_eq y 45 && true)) ≡ false → option_and_then short_of_rest (cond b (Some (y ∷ [])) None) ≡ None → b ≡ false
    go false m e = refl
    go true m e = absurd (second (nat_eq y 45) m e)
free_word (x ∷ y ∷ z ∷ rest) marked long short = go (nat_eq x 45) long short
  where
    second : (d : Bool) → option_and_then long_of_rest (cond d (Some (z ∷ rest)) None) ≡ None → cond d None (Some (y ∷ z ∷ rest)) ≡ None → ⊥
    second true m e = let n : Some (name_and_value (z ∷ rest)) ≡ None = m in cc
    second false m e = let n : Some (y ∷ z ∷ rest) ≡ None = e in cc

    go : (b : Bool) → option_and_then long_of_rest (option_and_then (strip_byte 45) (cond b (Some (y ∷ z ∷ rest)) None)) ≡ None → option_and_then short_of_rest (cond b (Some (y ∷ z ∷ rest)) None) ≡ None → b ≡ false
    go false m e = refl
    go true m e = absurd (second (nat_eq y 45) m e)

-- ---- the arguments are read

pub record IsOptionName (name : Word) : Type 0 where
  pub head : ℕ
  pub tail : List ℕ
  pub name_is : name ≡ head ∷ tail
  pub lacks : Lacks 61 (head ∷ tail)

-- words give these values, and leave these places
pub record Part (options : List Row) (words places : List Word) (values : Values) (left : List Word) : Type 0 where
  pub arguments : List Argument
  pub rest : Option Values
  pub spelled : words ≡ flat_map written arguments ++ ending rest
  pub proper : AllByRecursion (IsProper options) arguments
  pub gives : values ≡ map given arguments ++ unwrap_or rest []
  pub in_places : (filter_map filled arguments ++ map (λ value. value.0) (unwrap_or rest [])) ++ left ≡ places

short_one : (x : ℕ) → short_of (x ∷ []) ≡ None
short_one x = go (nat_eq x 45)
  where
    go : (b : Bool) → option_and_then short_of_rest (cond b (Some []) None) ≡ None
    go true = refl
    go false = refl

short_two : (x y : ℕ) (rest : Word) → nat_eq x 45 ≡ false → short_of (x ∷ y ∷ rest) ≡ None
short_two x y rest no_dash = rw no_dash refl

free_of : (options : List Row) (word : Word) → is_dashed word ≡ false → kind options word ≡ free
free_of options [] no_dash = refl
free_of options (x ∷ []) no_dash = go (nat_eq x 45) refl
  where
    go : (b : Bool) → nat_eq x 45 ≡ b → kind options (x ∷ []) ≡ free
    go true is = rw is (ap short_kind (short_one x))
    go false is = rw is (ap short_kind (short_one x))
free_of options (x ∷ y ∷ rest) no_dash = rw no_dash (ap short_kind (short_two x y rest no_dash))

trailing_all : (rest : Values) (left : List Word) → trailing (map (λ value. value.1) rest) (map (λ value. value.0) rest ++ left) ≡ Some (rest, left)
trailing_all [] left = refl
trailing_all (value ∷ rest) left = ap (more value) (trailing_all rest left)

kind_opening : (options : List Row) (word name : Word) → bytes_eq word (45 ∷ 45 ∷ []) ≡ false → long_of word ≡ Some (name, None) → takes_value_of options name ≡ Some true → kind options word ≡ opening name
kind_opening options word name no_marker long among = rw (no_marker, long, among) refl

kind_whole : (options : List Row) (word name value : Word) → bytes_eq word (45 ∷ 45 ∷ []) ≡ false → long_of word ≡ Some (name, Some value) → takes_value_of options name ≡ Some true → kind options word ≡ whole name value
kind_whole options word name value no_marker long among = rw (no_marker, long, among) refl

kind_lone : (options : List Row) (word name : Word) → bytes_eq word (45 ∷ 45 ∷ []) ≡ false → long_of word ≡ Some (name, None) → takes_value_of options name ≡ Some false → kind options word ≡ lone name
kind_lone options word name no_marker long among = rw (no_marker, long, among) refl

-- each option has a name
abbrev pub AreOptionNames : List Row → Type 0
AreOptionNames options = (name : Word) (takes_value : Bool) → takes_value_of options name ≡ Some takes_value → IsOptionName name

module _ (options : List Row) (names : AreOptionNames options) where
  opening_of : (name : Word) → takes_value_of options name ≡ Some true → kind options (45 ∷ 45 ∷ name) ≡ opening name
  opening_of name among =
      let is = names name true among in
      let spelled : kind options (45 ∷ 45 ∷ is.head ∷ is.tail) ≡ opening (is.head ∷ is.tail) =
      kind_opening options (45 ∷ 45 ∷ is.head ∷ is.tail) (is.head ∷ is.tail) refl (ap Some (name_and_value-without (is.head ∷ is.tail) is.lacks)) (subst (λ n. takes_value_of options n ≡ Some true) is.name_is among) in
      ap (λ n. kind options (45 ∷ 45 ∷ n)) is.name_is ∙ (spelled ∙ ap opening (sym is.name_is))

  lone_of : (name : Word) → takes_value_of options name ≡ Some false → kind options (45 ∷ 45 ∷ name) ≡ lone name
  lone_of name among =
      let is = names name false among in
      let spelled : kind options (45 ∷ 45 ∷ is.head ∷ is.tail) ≡ lone (is.head ∷ is.tail) =
      kind_lone options (45 ∷ 45 ∷ is.head ∷ is.tail) (is.head ∷ is.tail) refl (ap Some (name_and_value-without (is.head ∷ is.tail) is.lacks)) (subst (λ n. takes_value_of options n ≡ Some false) is.name_is among) in
      ap (λ n. kind options (45 ∷ 45 ∷ n)) is.name_is ∙ (spelled ∙ ap lone (sym is.name_is))

  whole_of : (name value : Word) → takes_value_of options name ≡ Some true → kind options (45 ∷ 45 ∷ (name ++ 61 ∷ value)) ≡ whole name value
  whole_of name value among =
      let is = names name true among in
      let spelled : kind options (45 ∷ 45 ∷ ((is.head ∷ is.tail) ++ 61 ∷ value)) ≡ whole (is.head ∷ is.tail) value =
      kind_whole options (45 ∷ 45 ∷ ((is.head ∷ is.tail) ++ 61 ∷ value)) (is.head ∷ is.tail) value refl (ap Some (name_and_value-at (is.head ∷ is.tail) value is.lacks)) (subst (λ n. takes_value_of options n ≡ Some true) is.name_is among) in
      ap (λ n. kind options (45 ∷ 45 ∷ (n ++ 61 ∷ value))) is.name_is ∙ (spelled ∙ ap (λ n. whole n value) (sym is.name_is))

  reads : (arguments : List Argument) (rest : Option Values) (left : List Word) → AllByRecursion (IsProper options) arguments
      → reading options (flat_map written arguments ++ ending rest) ((filter_map filled arguments ++ map (λ value. value.0) (unwrap_or rest [])) ++ left) None ≡ Some (map given arguments ++ unwrap_or rest [], left)
  reads [] None left proper = refl
  reads [] (Some rest) left proper = trailing_all rest left
  reads (Pair name value ∷ arguments) rest left proper =
      let behind = reads arguments rest left proper.1 in
      rw (opening_of name proper.0.0, free_of options value proper.0.1) (ap (more (name, value)) behind)
  reads (Joined name value ∷ arguments) rest left proper =
      let behind = reads arguments rest left proper.1 in
      rw (whole_of name value proper.0) (ap (more (name, value)) behind)
  reads (Flag name ∷ arguments) rest left proper =
      let behind = reads arguments rest left proper.1 in
      rw (lone_of name proper.0) (ap (more (name, codes "true")) behind)
  reads (Placed place value ∷ arguments) rest left proper =
      let behind = reads arguments rest left proper.1 in
      rw (free_of options value proper.0) (ap (more (place, value)) behind)

  pub read_part : (words places left : List Word) (values : Values) → Part options words places values left → reading options words places None ≡ Some (values, left)
  read_part words places left values part =
      ap₂ (λ w p. reading options w p None) part.spelled (sym part.in_places) ∙ (reads part.arguments part.rest left part.proper ∙ ap (λ v. Some (v, left)) (sym part.gives))

-- ---- what is read is spelled so

more_some : (value : Word × Word) (read : Read) (values : Values) (left : List Word) → more value read ≡ Some (values, left) → (rest : Values) × (read ≡ Some (rest, left)) × (values ≡ value ∷ rest)
more_some value None values left is = let n : ◌≡◌ {A = Read} None (Some (values, left)) = is in absurd (cc)
more_some value (Some read) values left is =
    let e : ◌≡◌ {A = Read} (Some (value ∷ read.0, read.1)) (Some (values, left)) = is in
    let pair : ◌≡◌ {A = Values × List Word} (value ∷ read.0, read.1) (values, left) = cc in
    (read.0, ap (λ l. Some (read.0, l)) (ap (λ p. p.1) pair), sym (ap (λ p. p.0) pair))

abbrev IsTrailing : List Word → List Word → Values → List Word → Type 0
IsTrailing words places values left = (words ≡ map (λ value. value.1) values) × (map (λ value. value.0) values ++ left ≡ places)

trailing_part : (words places : List Word) (values : Values) (left : List Word) → trailing words places ≡ Some (values, left) → IsTrailing words places values left
trailing_part [] places values left is =
    let e : ◌≡◌ {A = Read} (Some ([], places)) (Some (values, left)) = is in
    let pair : ◌≡◌ {A = Values × List Word} ([], places) (values, left) = cc in
    (ap (map (λ value. value.1)) (ap (λ p. p.0) pair), ap₂ (λ vs l. map (λ value. value.0) vs ++ l) (sym (ap (λ p. p.0) pair)) (sym (ap (λ p. p.1) pair)))
trailing_part (word ∷ words) [] values left is = let n : ◌≡◌ {A = Read} None (Some (values, left)) = is in absurd (cc)
trailing_part (word ∷ words) (place ∷ places) values left is =
    let parts = more_some (place, word) (trailing words places) values left is in
    let behind = trailing_part words places parts.0 left parts.1 in
    (ap (λ ws. word ∷ ws) behind.0 ∙ ap (map (λ value. value.1)) (sym parts.2), ap (λ vs. map (λ value. value.0) vs ++ left) parts.2 ∙ ap (λ ps. place ∷ ps) behind.1)

module _ (options : List Row) where
  marked : (words places left : List Word) (values : Values) → IsTrailing words places values left → Part options ((45 ∷ 45 ∷ []) ∷ words) places values left
  marked words places left values is = record { arguments = []; rest = Some values; spelled = ap (λ ws. (45 ∷ 45 ∷ []) ∷ ws) is.0; proper = tt; gives = refl; in_places = is.1 }

  module _ (words places left : List Word) (values : Values) (part : Part options words places values left) where
    with_placed : (place value : Word) → is_dashed value ≡ false → Part options (value ∷ words) (place ∷ places) ((place, value) ∷ values) left
    with_placed place value no_dash = record {
      arguments = Placed place value ∷ part.arguments;
      rest = part.rest;
      spelled = ap (λ ws. value ∷ ws) part.spelled;
      proper = (no_dash, part.proper);
      gives = ap (λ vs. (place, value) ∷ vs) part.gives;
      in_places = ap (λ ps. place ∷ ps) part.in_places;
    }

    with_pair : (name value : Word) → takes_value_of options name ≡ Some true → is_dashed value ≡ false → Part options ((45 ∷ 45 ∷ name) ∷ value ∷ words) places ((name, value) ∷ values) left
    with_pair name value among no_dash = record {
      arguments = Pair name value ∷ part.arguments;
      rest = part.rest;
      spelled = ap (λ ws. (45 ∷ 45 ∷ name) ∷ value ∷ ws) part.spelled;
      proper = ((among, no_dash), part.proper);
      gives = ap (λ vs. (name, value) ∷ vs) part.gives;
      in_places = part.in_places;
    }

    with_joined : (name value : Word) → takes_value_of options name ≡ Some true → Part options ((45 ∷ 45 ∷ (name ++ 61 ∷ value)) ∷ words) places ((name, value) ∷ values) left
    with_joined name value among = record {
      arguments = Joined name value ∷ part.arguments;
      rest = part.rest;
      spelled = ap (λ ws. (45 ∷ 45 ∷ (name ++ 61 ∷ value)) ∷ ws) part.spelled;
      proper = (among, part.proper);
      gives = ap (λ vs. (name, value) ∷ vs) part.gives;
      in_places = part.in_places;
    }

    with_flag : (name : Word) → takes_value_of options name ≡ Some false → Part options ((45 ∷ 45 ∷ name) ∷ words) places ((name, codes "true") ∷ values) left
    with_flag name among = record {
      arguments = Flag name ∷ part.arguments;
      rest = part.rest;
      spelled = ap (λ ws. (45 ∷ 45 ∷ name) ∷ ws) part.spelled;
      proper = (among, part.proper);
      gives = ap (λ vs. (name, codes "true") ∷ vs) part.gives;
      in_places = part.in_places;
    }

  -- the first word is the value of the option that waits
  record Fed (words places : List Word) (name : Word) (values : Values) (left : List Word) : Type 0 where
    pub value : Word
    pub behind : List Word
    pub more_values : Values
    pub words_are : words ≡ value ∷ behind
    pub no_dash : is_dashed value ≡ false
    pub values_are : values ≡ (name, value) ∷ more_values
    pub part : Part options behind places more_values left

  abbrev IdleReads : List Word → Type 0
  IdleReads words = (places : List Word) (values : Values) (left : List Word) → reading options words places None ≡ Some (values, left) → Part options words places values left

  abbrev WaitingReads : List Word → Type 0
  WaitingReads words = (places : List Word) (name : Word) (values : Values) (left : List Word) → reading options words places (Some name) ≡ Some (values, left) → Fed words places name values left

  module _ (word : Word) (words : List Word) (idles : IdleReads words) (waits : WaitingReads words) where
    idle_part : (k : Kind) → IsKind options word k → (places : List Word) (values : Values) (left : List Word) → step k None word words places (reading options words) ≡ Some (values, left) → Part options (word ∷ words) places values left
    idle_part marker is places values left read =
        subst (λ w. Part options (w ∷ words) places values left) (sym ((bytes_eq-Decides word (45 ∷ 45 ∷ [])).0 is)) (marked words places left values (trailing_part words places values left read))
    idle_part (opening name) is places values left read =
        let fed = waits places name values left read in
        let whole_part : Part options ((45 ∷ 45 ∷ name) ∷ fed.value ∷ fed.behind) places ((name, fed.value) ∷ fed.more_values) left = with_pair fed.behind places left fed.more_values fed.part name fed.value is.2 fed.no_dash in
        subst (λ w. Part options (w ∷ words) places values left) (sym (opening_word word name is.1))
        (subst (λ ws. Part options ((45 ∷ 45 ∷ name) ∷ ws) places values left) (sym fed.words_are) (subst (λ vs. Part options ((45 ∷ 45 ∷ name) ∷ fed.value ∷ fed.behind) places vs left) (sym fed.values_are) whole_part))
    idle_part (whole name value) is places values left read =
        let parts = more_some (name, value) (reading options words places None) values left read in
        let whole_part : Part options ((45 ∷ 45 ∷ (name ++ 61 ∷ value)) ∷ words) places ((name, value) ∷ parts.0) left = with_joined words places left parts.0 (idles places parts.0 left parts.1) name value is.2 in
        subst (λ w. Part options (w ∷ words) places values left) (sym (whole_word word name value is.1)) (subst (λ vs. Part options ((45 ∷ 45 ∷ (name ++ 61 ∷ value)) ∷ words) places vs left) (sym parts.2) whole_part)
    idle_part (lone name) is places values left read =
        let parts = more_some (name, codes "true") (reading options words places None) values left read in
        let whole_part : Part options ((45 ∷ 45 ∷ name) ∷ words) places ((name, codes "true") ∷ parts.0) left = with_flag words places left parts.0 (idles places parts.0 left parts.1) name is.2 in
        subst (λ w. Part options (w ∷ words) places values left) (sym (opening_word word name is.1)) (subst (λ vs. Part options ((45 ∷ 45 ∷ name) ∷ words) places vs left) (sym parts.2) whole_part)
    idle_part wrong is places values left read = let n : ◌≡◌ {A = Read} None (Some (values, left)) = read in absurd (cc)
    idle_part free is [] values left read = let n : ◌≡◌ {A = Read} None (Some (values, left)) = read in absurd (cc)
    idle_part free is (place ∷ places) values left read =
        let parts = more_some (place, word) (reading options words places None) values left read in
        subst (λ vs. Part options (word ∷ words) (place ∷ places) vs left) (sym parts.2) (with_placed words places left parts.0 (idles places parts.0 left parts.1) place word (free_word word is.0 is.1 is.2))

    waiting_part : (k : Kind) → IsKind options word k → (places : List Word) (name : Word) (values : Values) (left : List Word) → step k (Some name) word words places (reading options words) ≡ Some (values, left) → Fed (word ∷ words) places name values left
    waiting_part marker is places name values left read = let n : ◌≡◌ {A = Read} None (Some (values, left)) = read in absurd (cc)
    waiting_part (opening other) is places name values left read = let n : ◌≡◌ {A = Read} None (Some (values, left)) = read in absurd (cc)
    waiting_part (whole other value) is places name values left read = let n : ◌≡◌ {A = Read} None (Some (values, left)) = read in absurd (cc)
    waiting_part (lone other) is places name values left read = let n : ◌≡◌ {A = Read} None (Some (values, left)) = read in absurd (cc)
    waiting_part wrong is places name values left read = let n : ◌≡◌ {A = Read} None (Some (values, left)) = read in absurd (cc)
    waiting_part free is places name values left read =
        let parts = more_some (name, word) (reading options words places None) values left read in
        record { value = word; behind = words; more_values = parts.0; words_are = refl; no_dash = free_word word is.0 is.1 is.2; values_are = parts.2; part = idles places parts.0 left parts.1 }

  reads_back : (words : List Word) → IdleReads words × WaitingReads words
  reads_back [] = (
    λ places values left read.
        let e : ◌≡◌ {A = Read} (Some ([], places)) (Some (values, left)) = read in
        let pair : ◌≡◌ {A = Values × List Word} ([], places) (values, left) = cc in
        record { arguments = []; rest = None; spelled = refl; proper = tt; gives = sym (ap (λ p. p.0) pair); in_places = sym (ap (λ p. p.1) pair) },
    λ places name values left read. let n : ◌≡◌ {A = Read} None (Some (values, left)) = read in absurd (cc),
  )
  reads_back (word ∷ words) =
      let rest = reads_back words in
      (idle_part word words rest.0 rest.1 (kind options word) (kind_is options word), waiting_part word words rest.0 rest.1 (kind options word) (kind_is options word))

  pub part_read : (words places left : List Word) (values : Values) → reading options words places None ≡ Some (values, left) → Part options words places values left
  part_read words places left values read = (reads_back words).0 places values left read
