-- The table of an item follows conclude items exactly as far as they can be right.
use Rattle.cnf_grammar.proofs.Common.{◌≡◌, ℕ, zero, suc, ◌<◌, ◌≤◌, ◌^◌, Bool, true, false, ◌&&◌, ◌⊎◌, inl, inr, ◌↔◌, nat_lt, List, [], ◌∷◌, ◌++◌, length, Option, Some, None, is_some, IsSome, codes, refl, sym, ◌∙◌, ap, ap₂, subst, arith, nat_tests, digits_value, Shape, Lower, Upper, Quoted, Distinct, Dollar, Number, NotEqual, Punct, left_round, right_round, left_square, right_square, comma, is_keyword, is_mark, gives_conclusions, spell_more_numbers, spell_numbers, item_end, has_word_at, may_follow, are_conclusions_above, values, IsConcludeItem, BeginsConcludeItem, item_start, word_read, item_open, list_open, number_read, number_start, list_closed, item_closed, other_item, names_above, at_item, number_at, item_step, item_run, both_true, and_true}
use Rattle.std.proofs.lemmas.Fmt.{decimal_is_IsNumeral}
use Rattle.std.specs.Fmt.{decimal}
use Rattle.cnf_grammar.specs.declared.item.ItemState.{ItemState}
use Rattle.cnf_grammar.proofs.Accepting.{mark_is, keyword_is}

abbrev is_closed : ItemState → Bool
is_closed item_closed = true
is_closed _ = false

pick : (P : Option ItemState → Type 0) (test : Bool) (p : ItemState) (o : Option ItemState) → P (at_item test p o) → ((test ≡ true) × P (Some p)) ⊎ ((test ≡ false) × P o)
pick P true p o h = inl (refl, h)
pick P false p o h = inr (refl, h)

-- numbers above the last one
less_is : (last j : ℕ) → nat_lt last (suc j) ≡ true → last ≤ j
less_is last j h = grind (arith, nat_tests)

is_less : (last j : ℕ) → last ≤ j → nat_lt last (suc j) ≡ true
is_less last j h = grind (arith, nat_tests)

above_word : (words : List Bool) (last j : ℕ) → last ≤ j → has_word_at words j ≡ true → names_above words last ≡ true
above_word [] last j h k = cc
above_word (true ∷ words) zero zero h k = refl
above_word (false ∷ words) zero zero h k = cc
above_word (true ∷ words) zero (suc j) h k = refl
above_word (false ∷ words) zero (suc j) h k = above_word words zero j (omega arith) k
above_word (word ∷ words) (suc last) zero h k = absurd (omega arith)
above_word (word ∷ words) (suc last) (suc j) h k = above_word words last j (omega arith) k

above : (words : List Bool) (last k : ℕ) → may_follow words last k ≡ true → names_above words last ≡ true
above words last zero h = let c = both_true (nat_lt last 0) false h in cc
above words last (suc j) h = let c = both_true (nat_lt last (suc j)) (has_word_at words j) h in above_word words last j (less_is last j c.0) c.1

some_above : (words : List Bool) (last : ℕ) → names_above words last ≡ true → (j : ℕ) × (last ≤ j) × (has_word_at words j ≡ true) × (j < length words)
some_above [] last h = absurd cc
some_above (true ∷ words) zero h = (0, omega arith, refl, omega arith)
some_above (false ∷ words) zero h = let w = some_above words zero h in (suc w.0, omega arith, w.2, omega (arith, w.3))
some_above (word ∷ words) (suc last) h = let w = some_above words last h in (suc w.0, omega (arith, w.1), w.2, omega (arith, w.3))

module _ (words : List Bool) where
  -- the tokens lead to the end of a right item
  abbrev ItemEnds : Option ItemState → List Shape → Type 0
  ItemEnds None tokens = ⊥
  ItemEnds (Some p) [] = is_closed p ≡ true
  ItemEnds (Some p) (s ∷ tokens) = ItemEnds (item_step words p s) tokens

  -- what is left of a right item
  abbrev Left : ItemState → List Shape → Type 0
  Left item_open tokens = (texts : List (List ℕ)) × (tokens ≡ Punct left_square ∷ (spell_numbers texts ++ item_end)) × (are_conclusions_above words 0 (values texts) ≡ true)
  Left list_open tokens = (texts : List (List ℕ)) × (tokens ≡ spell_numbers texts ++ item_end) × (are_conclusions_above words 0 (values texts) ≡ true)
  Left (number_read last) tokens = (texts : List (List ℕ)) × (tokens ≡ spell_more_numbers texts ++ item_end) × (are_conclusions_above words last (values texts) ≡ true)
  Left (number_start last) tokens = (text : List ℕ) × (texts : List (List ℕ)) × (tokens ≡ Number text true ∷ (spell_more_numbers texts ++ item_end)) × (are_conclusions_above words last (values (text ∷ texts)) ≡ true)
  Left list_closed tokens = tokens ≡ Punct right_round ∷ []
  Left item_closed tokens = tokens ≡ []
  Left _ tokens = Unit {0}

  abbrev LeftFrom : Option ItemState → List Shape → Type 0
  LeftFrom None tokens = ⊥
  LeftFrom (Some p) tokens = Left p tokens

  number_left : (last : ℕ) (s : Shape) (tokens : List Shape) → LeftFrom (number_at words last s) tokens → Left (number_start last) (s ∷ tokens)
  number_left last (Number text true) tokens h =
      elim (pick (λ o. LeftFrom o tokens) (may_follow words last (digits_value 10 text)) (number_read (digits_value 10 text)) None h) [
        | inl k ↦ (text, k.1.0, ap (λ u. Number text true ∷ u) k.1.1, and_true (may_follow words last (digits_value 10 text)) (are_conclusions_above words (digits_value 10 text) (values k.1.0)) k.0 k.1.2)
        | inr k ↦ absurd k.1
      ]
  number_left last s tokens h = absurd h

  cons_same : (s t : Shape) (xs ys : List Shape) → s ≡ t → xs ≡ ys → s ∷ xs ≡ t ∷ ys
  cons_same s t xs ys e f = ap₂ (λ x u. x ∷ u) e f

  left_step : (p : ItemState) (s : Shape) (tokens : List Shape) → LeftFrom (item_step words p s) tokens → Left p (s ∷ tokens)
  left_step item_start s tokens h = tt
  left_step word_read s tokens h = tt
  left_step other_item s tokens h = tt
  left_step item_open s tokens h =
      elim (pick (λ o. LeftFrom o tokens) (is_mark left_square s) list_open None h) [
        | inl k ↦ (k.1.0, cons_same s (Punct left_square) tokens (spell_numbers k.1.0 ++ item_end) (mark_is left_square s k.0) k.1.1, k.1.2)
        | inr k ↦ absurd k.1
      ]
  left_step list_open s tokens h =
      elim (pick (λ o. LeftFrom o tokens) (is_mark right_square s) list_closed (number_at words 0 s) h) [
        | inl k ↦ ([], cons_same s (Punct right_square) tokens (Punct right_round ∷ []) (mark_is right_square s k.0) k.1, refl)
        | inr k ↦ let w = number_left 0 s tokens k.1 in (w.0 ∷ w.1, w.2, w.3)
      ]
  left_step (number_read last) s tokens h =
      elim (pick (λ o. LeftFrom o tokens) (is_mark right_square s) list_closed (at_item (is_mark comma s && names_above words last) (number_start last) None) h) [
        | inl k ↦ ([], cons_same s (Punct right_square) tokens (Punct right_round ∷ []) (mark_is right_square s k.0) k.1, refl)
        | inr k ↦ elim (pick (λ o. LeftFrom o tokens) (is_mark comma s && names_above words last) (number_start last) None k.1) [
          | inl w ↦ (w.1.0 ∷ w.1.1, cons_same s (Punct comma) tokens (Number w.1.0 true ∷ (spell_more_numbers w.1.1 ++ item_end)) (mark_is comma s (both_true (is_mark comma s) (names_above words last) w.0).0) w.1.2, w.1.3)
          | inr w ↦ absurd w.1
        ]
      ]
  left_step (number_start last) s tokens h = number_left last s tokens h
  left_step list_closed s tokens h =
      elim (pick (λ o. LeftFrom o tokens) (is_mark right_round s) item_closed None h) [
        | inl k ↦ cons_same s (Punct right_round) tokens [] (mark_is right_round s k.0) k.1
        | inr k ↦ absurd k.1
      ]
  left_step item_closed s tokens h = absurd h

  left_end : (p : ItemState) → is_closed p ≡ true → Left p []
  left_end item_closed h = refl
  left_end item_start h = tt
  left_end word_read h = tt
  left_end other_item h = tt
  left_end _ h = cc

  left_all : (o : Option ItemState) (tokens : List Shape) → ItemEnds o tokens → LeftFrom o tokens
  left_all None tokens h = h
  left_all (Some p) [] h = left_end p h
  left_all (Some p) (s ∷ tokens) h = left_step p s tokens (left_all (item_step words p s) tokens h)

  -- a right item is followed to its end
  take_item : (test : Bool) (p : ItemState) (o : Option ItemState) (tokens : List Shape) → test ≡ true → ItemEnds (Some p) tokens → ItemEnds (at_item test p o) tokens
  take_item true p o tokens h a = a
  take_item false p o tokens h a = cc

  ends_more : (last : ℕ) (texts : List (List ℕ)) → are_conclusions_above words last (values texts) ≡ true → ItemEnds (Some (number_read last)) (spell_more_numbers texts ++ item_end)
  ends_more last [] h = refl
  ends_more last (text ∷ texts) h =
      let c = both_true (may_follow words last (digits_value 10 text)) (are_conclusions_above words (digits_value 10 text) (values texts)) h in
      take_item (names_above words last) (number_start last) None (Number text true ∷ (spell_more_numbers texts ++ item_end)) (above words last (digits_value 10 text) c.0)
      (take_item (may_follow words last (digits_value 10 text)) (number_read (digits_value 10 text)) None (spell_more_numbers texts ++ item_end) c.0
      (ends_more (digits_value 10 text) texts c.1))

  ends_numbers : (texts : List (List ℕ)) → are_conclusions_above words 0 (values texts) ≡ true → ItemEnds (Some list_open) (spell_numbers texts ++ item_end)
  ends_numbers [] h = refl
  ends_numbers (text ∷ texts) h =
      let c = both_true (may_follow words 0 (digits_value 10 text)) (are_conclusions_above words (digits_value 10 text) (values texts)) h in
      take_item (may_follow words 0 (digits_value 10 text)) (number_read (digits_value 10 text)) None (spell_more_numbers texts ++ item_end) c.0
      (ends_more (digits_value 10 text) texts c.1)

  -- where a right item can still come
  abbrev Live : ItemState → Type 0
  Live item_start = ⊥
  Live word_read = ⊥
  Live other_item = ⊥
  Live (number_start last) = names_above words last ≡ true
  Live _ = Unit {0}

  abbrev LiveFrom : Option ItemState → Type 0
  LiveFrom None = Unit {0}
  LiveFrom (Some p) = Live p

  live_at : (test : Bool) (p : ItemState) (o : Option ItemState) → (test ≡ true → Live p) → LiveFrom o → LiveFrom (at_item test p o)
  live_at true p o h k = h refl
  live_at false p o h k = k

  number_live : (last : ℕ) (s : Shape) → LiveFrom (number_at words last s)
  number_live last (Number text true) = live_at (may_follow words last (digits_value 10 text)) (number_read (digits_value 10 text)) None (λ e. tt) tt
  number_live last s = tt

  live_step : (p : ItemState) (s : Shape) → Live p → LiveFrom (item_step words p s)
  live_step item_start s h = absurd h
  live_step word_read s h = absurd h
  live_step other_item s h = absurd h
  live_step item_open s h = live_at (is_mark left_square s) list_open None (λ e. tt) tt
  live_step list_open s h = live_at (is_mark right_square s) list_closed (number_at words 0 s) (λ e. tt) (number_live 0 s)
  live_step (number_read last) s h =
      live_at (is_mark right_square s) list_closed (at_item (is_mark comma s && names_above words last) (number_start last) None) (λ e. tt)
      (live_at (is_mark comma s && names_above words last) (number_start last) None (λ e. (both_true (is_mark comma s) (names_above words last) e).1) tt)
  live_step (number_start last) s h = number_live last s
  live_step list_closed s h = live_at (is_mark right_round s) item_closed None (λ e. tt) tt
  live_step item_closed s h = tt

  live_run : (o : Option ItemState) (tokens : List Shape) → LiveFrom o → LiveFrom (item_run words o tokens)
  live_run None tokens h = h
  live_run (Some p) [] h = h
  live_run (Some p) (s ∷ tokens) h = live_run (item_step words p s) tokens (live_step p s h)

  completes : length words < 2 ^ 64 → (p : ItemState) → Live p → (tokens : List Shape) × ItemEnds (Some p) tokens
  completes few item_start h = absurd h
  completes few word_read h = absurd h
  completes few other_item h = absurd h
  completes few item_open h = (Punct left_square ∷ item_end, refl)
  completes few list_open h = (item_end, refl)
  completes few (number_read last) h = (item_end, refl)
  completes few list_closed h = (Punct right_round ∷ [], refl)
  completes few item_closed h = ([], refl)
  completes few (number_start last) h =
      let w = some_above words last h in
      let small : suc w.0 < 2 ^ 64 = omega (arith, w.3, few) in
      let value : digits_value 10 (decimal (suc w.0)) ≡ suc w.0 = (decimal_is_IsNumeral (suc w.0) small).1 in
      let fits : may_follow words last (suc w.0) ≡ true = and_true (nat_lt last (suc w.0)) (has_word_at words w.0) (is_less last w.0 w.1) w.2 in (
        Number (decimal (suc w.0)) true ∷ item_end,
        take_item (may_follow words last (digits_value 10 (decimal (suc w.0)))) (number_read (digits_value 10 (decimal (suc w.0)))) None item_end (ap (may_follow words last) value ∙ fits) refl,
      )

  -- runs in two parts
  ends_split : (o : Option ItemState) (tokens rest : List Shape) → ItemEnds o (tokens ++ rest) → ItemEnds (item_run words o tokens) rest
  ends_split None tokens rest h = h
  ends_split (Some p) [] rest h = h
  ends_split (Some p) (s ∷ tokens) rest h = ends_split (item_step words p s) tokens rest h

  ends_join : (o : Option ItemState) (tokens rest : List Shape) → ItemEnds (item_run words o tokens) rest → ItemEnds o (tokens ++ rest)
  ends_join None tokens rest h = h
  ends_join (Some p) [] rest h = h
  ends_join (Some p) (s ∷ tokens) rest h = ends_join (item_step words p s) tokens rest h

  run_ends : (o : Option ItemState) (tokens : List Shape) → item_run words o tokens ≡ Some item_closed → ItemEnds o tokens
  run_ends None tokens e = cc
  run_ends (Some p) [] e = let same : item_closed ≡ p = cc in ap is_closed (sym same)
  run_ends (Some p) (s ∷ tokens) e = run_ends (item_step words p s) tokens e

  only_closed : (p : ItemState) → is_closed p ≡ true → p ≡ item_closed
  only_closed item_closed h = refl
  only_closed _ h = cc

  ends_run : (o : Option ItemState) (tokens : List Shape) → ItemEnds o tokens → item_run words o tokens ≡ Some item_closed
  ends_run None tokens h = absurd h
  ends_run (Some p) [] h = ap Some (only_closed p h)
  ends_run (Some p) (s ∷ tokens) h = ends_run (item_step words p s) tokens h

  item_whole : (tokens : List Shape) → IsConcludeItem words tokens → ItemEnds (Some item_start) tokens
  item_whole tokens h = subst (ItemEnds (Some item_start)) (sym h.1) (ends_numbers h.0 h.2)

  -- what an item that gives conclusions begins with
  begins : (tokens : List Shape) → gives_conclusions tokens ≡ true → (more : List Shape) × (tokens ≡ Lower (codes "conclude") ∷ (Punct left_round ∷ more))
  begins [] h = absurd cc
  begins (s ∷ []) h = absurd cc
  begins (s ∷ t ∷ more) h =
      let c = both_true (is_keyword (codes "conclude") s) (is_mark left_round t) h in
      (more, ap₂ (λ x y. x ∷ (y ∷ more)) (keyword_is (codes "conclude") s c.0) (mark_is left_round t c.1))

  left_is_item : (more : List Shape) → ItemEnds (Some item_open) more → IsConcludeItem words (Lower (codes "conclude") ∷ (Punct left_round ∷ more))
  left_is_item more h = let w = left_all (Some item_open) more h in (w.0, ap (λ u. Lower (codes "conclude") ∷ (Punct left_round ∷ u)) w.1, w.2)

  pub item_is : (tokens : List Shape) → gives_conclusions tokens ≡ true → (item_run words (Some item_start) tokens ≡ Some item_closed) ↔ IsConcludeItem words tokens
  item_is tokens g =
      let b = begins tokens g in (
        λ e. subst (IsConcludeItem words) (sym b.1) (left_is_item b.0 (subst (ItemEnds (Some item_start)) b.1 (run_ends (Some item_start) tokens e))),
        λ h. ends_run (Some item_start) tokens (item_whole tokens h),
      )

  value_of : (o : Option ItemState) → IsSome o → (p : ItemState) × (o ≡ Some p)
  value_of None h = absurd cc
  value_of (Some p) h = (p, refl)

  some_ends : (o : Option ItemState) (rest : List Shape) → ItemEnds o rest → IsSome o
  some_ends None rest h = absurd h
  some_ends (Some p) rest h = refl

  pub item_front : length words < 2 ^ 64 → (tokens : List Shape) → gives_conclusions tokens ≡ true → IsSome (item_run words (Some item_start) tokens) ↔ BeginsConcludeItem words tokens
  item_front few tokens g =
      let b = begins tokens g in (
        λ h. let at : (p : ItemState) × (item_run words (Some item_open) b.0 ≡ Some p) = value_of (item_run words (Some item_open) b.0) (subst (λ u. IsSome (item_run words (Some item_start) u)) b.1 h) in
            let live : Live at.0 = subst LiveFrom at.1 (live_run (Some item_open) b.0 tt) in
            let w = completes few at.0 live in
            let ends : ItemEnds (Some item_open) (b.0 ++ w.0) = ends_join (Some item_open) b.0 w.0 (subst (λ o. ItemEnds o w.0) (sym at.1) w.1) in
            (w.0, subst (λ u. IsConcludeItem words (u ++ w.0)) (sym b.1) (left_is_item (b.0 ++ w.0) ends)),
        λ h. some_ends (item_run words (Some item_start) tokens) h.0 (ends_split (Some item_start) tokens h.0 (item_whole (tokens ++ h.0) h.1)),
      )

  others_run : (tokens : List Shape) → item_run words (Some other_item) tokens ≡ Some other_item
  others_run [] = refl
  others_run (s ∷ tokens) = others_run tokens

  second_by : (test : Bool) (more : List Shape) → test ≡ false → IsSome (item_run words (at_item test item_open (Some other_item)) more)
  second_by true more h = cc
  second_by false more h = ap is_some (others_run more)

  first_by : (test : Bool) (tokens : List Shape) → (test ≡ true → IsSome (item_run words (Some word_read) tokens)) → IsSome (item_run words (at_item test word_read (Some other_item)) tokens)
  first_by true tokens h = h refl
  first_by false tokens h = ap is_some (others_run tokens)

  not_second : (a b : Bool) → a ≡ true → (a && b) ≡ false → b ≡ false
  not_second true b h k = k
  not_second false b h k = cc

  pub item_other : (tokens : List Shape) → gives_conclusions tokens ≡ false → IsSome (item_run words (Some item_start) tokens)
  item_other [] g = refl
  item_other (s ∷ []) g = first_by (is_keyword (codes "conclude") s) [] (λ e. refl)
  item_other (s ∷ t ∷ more) g = first_by (is_keyword (codes "conclude") s) (t ∷ more) (λ e. second_by (is_mark left_round t) more (not_second (is_keyword (codes "conclude") s) (is_mark left_round t) e g))
