-- An item of an info under way: its numbers are those of its tokens.
use Rattle.std.proofs.Common.{◌≡◌, ℕ, suc, ◌≤◌, Bool, true, false, cond, ◌&&◌, ◌⊎◌, inl, inr, List, [], ◌∷◌, ◌++◌, length, map, filter, filter_map, Option, Some, None, codes, refl, sym, ◌∙◌, ap, subst, append_assoc, append-nil, arith}
use Rattle.std.proofs.lemmas.List.{map-append}
use Rattle.std.proofs.lemmas.List.Elements.{filter-append, filter_map-append}
use Rattle.std.specs.Str.Parse.{digits_value}
use Rattle.cnf_grammar.specs.declared.brackets.Bracket.{Bracket}
use Rattle.cnf_grammar.specs.declared.brackets.Bracket.TheVariants.{Round, Square}
use Rattle.cnf_grammar.specs.declared.state.State.TheVariants.{Info}
use Rattle.cnf_grammar.specs.declared.position.Position.{Position}
use Rattle.cnf_grammar.specs.declared.item.ItemState.{ItemState}
use Rattle.cnf_grammar.specs.Shapes.{Shape, Lower, Upper, Quoted, Distinct, Dollar, Number, NotEqual, Punct, left_round, right_round, left_square, right_square, comma, is_keyword, is_mark}
use Rattle.cnf_grammar.specs.Table.{in_info}
use Rattle.cnf_grammar.specs.Conclude.{gives_conclusions, number_of_token, may_follow}
use Rattle.cnf_grammar.specs.declared.item.ItemState.TheVariants.{Start as item_start, WordRead as word_read, Open as item_open, ListOpen as list_open, NumberRead as number_read, NumberStart as number_start, ListClosed as list_closed, Closed as item_closed, Other as other_item}
use Rattle.cnf_grammar.specs.Items.{names_above, at_item, number_at, item_step}
use Rattle.mg_word.proofs.Members.{both_true}
use Rattle.cnf_grammar.proofs.Accepting.{mark_is, keyword_is}
use Rattle.cnf_reader.specs.Statements.{with_number, with_item}

-- the place in an info with these brackets open
abbrev pub info_position : ℕ → ℕ → List Bracket → Position
info_position level depth brackets = record { state = Info; level = level; depth = depth; brackets = brackets }

-- where brackets opened, stayed and closed
opened_by : (level depth : ℕ) (brackets : List Bracket) (bracket : Bracket) (s : Shape) (next : Position) → Some (info_position level depth (bracket ∷ brackets)) ≡ Some next → suc (length brackets) ≤ length next.brackets
opened_by level depth brackets bracket s next e = let same : info_position level depth (bracket ∷ brackets) ≡ next = cc in subst (λ p. suc (length brackets) ≤ length p.brackets) same (omega arith)

kept_by : (level depth : ℕ) (brackets : List Bracket) (next : Position) → Some (info_position level depth brackets) ≡ Some next → length brackets ≤ length next.brackets
kept_by level depth brackets next e = let same : info_position level depth brackets ≡ next = cc in subst (λ p. length brackets ≤ length p.brackets) same (omega arith)

opens_round : (level depth : ℕ) (brackets : List Bracket) (next : Position) → in_info brackets (info_position level depth brackets) (Punct 40) ≡ Some next → suc (length brackets) ≤ length next.brackets
opens_round level depth [] next e = opened_by level depth [] Round (Punct 40) next e
opens_round level depth (Round ∷ outer) next e = opened_by level depth (Round ∷ outer) Round (Punct 40) next e
opens_round level depth (Square ∷ outer) next e = opened_by level depth (Square ∷ outer) Round (Punct 40) next e

opens_square : (level depth : ℕ) (brackets : List Bracket) (next : Position) → in_info brackets (info_position level depth brackets) (Punct 91) ≡ Some next → suc (length brackets) ≤ length next.brackets
opens_square level depth [] next e = opened_by level depth [] Square (Punct 91) next e
opens_square level depth (Round ∷ outer) next e = opened_by level depth (Round ∷ outer) Square (Punct 91) next e
opens_square level depth (Square ∷ outer) next e = opened_by level depth (Square ∷ outer) Square (Punct 91) next e

comma_keeps : (level depth : ℕ) (brackets : List Bracket) (next : Position) → in_info brackets (info_position level depth brackets) (Punct 44) ≡ Some next → length brackets ≤ length next.brackets
comma_keeps level depth [] next e = omega arith
comma_keeps level depth (Round ∷ outer) next e = kept_by level depth (Round ∷ outer) next e
comma_keeps level depth (Square ∷ outer) next e = kept_by level depth (Square ∷ outer) next e

number_keeps : (text : List ℕ) (plain : Bool) (level depth : ℕ) (brackets : List Bracket) (next : Position) → in_info brackets (info_position level depth brackets) (Number text plain) ≡ Some next → length brackets ≤ length next.brackets
number_keeps text plain level depth [] next e = omega arith
number_keeps text plain level depth (Round ∷ outer) next e = kept_by level depth (Round ∷ outer) next e
number_keeps text plain level depth (Square ∷ outer) next e = kept_by level depth (Square ∷ outer) next e

square_closes : (level depth : ℕ) (brackets : List Bracket) (next : Position) → in_info brackets (info_position level depth brackets) (Punct 93) ≡ Some next → length brackets ≤ suc (length next.brackets)
square_closes level depth [] next e = omega arith
square_closes level depth (Round ∷ outer) next e = absurd cc
square_closes level depth (Square ∷ outer) next e = let k = kept_by level depth outer next e in omega (arith, k)

-- the tokens are the front of an item that gives conclusions, these are its numbers, and so many brackets are open
pub record Begun (depth : ℕ) (brackets : List Bracket) (chosen : List ℕ) (tokens : List Shape) : Type 0 where
  pub few : depth ≤ length brackets
  pub begins : (more : List Shape) × (tokens ≡ Lower (codes "conclude") ∷ (Punct left_round ∷ more))
  pub numbers : chosen ≡ filter_map number_of_token tokens

-- what is known of the tokens of an item, at each place of the table of items
abbrev pub InItem : List Bracket → ItemState → List ℕ → List Shape → Type 0
InItem brackets item_start chosen tokens = (tokens ≡ []) × (chosen ≡ [])
InItem brackets word_read chosen tokens = (tokens ≡ Lower (codes "conclude") ∷ []) × (chosen ≡ [])
InItem brackets item_open chosen tokens = Begun 1 brackets chosen tokens
InItem brackets list_open chosen tokens = Begun 2 brackets chosen tokens
InItem brackets (number_read last) chosen tokens = Begun 2 brackets chosen tokens
InItem brackets (number_start last) chosen tokens = Begun 2 brackets chosen tokens
InItem brackets list_closed chosen tokens = Begun 1 brackets chosen tokens
InItem brackets item_closed chosen tokens = Begun 0 brackets chosen tokens
InItem brackets other_item chosen tokens = (rest : List Shape) → gives_conclusions (tokens ++ rest) ≡ false

-- one more token
add_mark : (depth more : ℕ) (brackets after : List Bracket) (chosen : List ℕ) (tokens : List Shape) (byte : ℕ) → Begun depth brackets chosen tokens → more ≤ length after → Begun more after chosen (tokens ++ Punct byte ∷ [])
add_mark depth more brackets after chosen tokens byte h few = record {
  few = few;
  begins = (h.begins.0 ++ Punct byte ∷ [], ap (λ u. u ++ Punct byte ∷ []) h.begins.1);
  numbers = h.numbers ∙ (sym (append-nil (filter_map number_of_token tokens)) ∙ sym (filter_map-append number_of_token tokens (Punct byte ∷ [])));
}

add_number : (brackets after : List Bracket) (chosen : List ℕ) (tokens : List Shape) (text : List ℕ) → Begun 2 brackets chosen tokens → 2 ≤ length after → Begun 2 after (chosen ++ digits_value 10 text ∷ []) (tokens ++ Number text true ∷ [])
add_number brackets after chosen tokens text h few = record {
  few = few;
  begins = (h.begins.0 ++ Number text true ∷ [], ap (λ u. u ++ Number text true ∷ []) h.begins.1);
  numbers = ap (λ u. u ++ digits_value 10 text ∷ []) h.numbers ∙ sym (filter_map-append number_of_token tokens (Number text true ∷ []));
}

-- of two places one was taken
pick : (test : Bool) (p : ItemState) (o : Option ItemState) (q : ItemState) → at_item test p o ≡ Some q → ((test ≡ true) × (p ≡ q)) ⊎ ((test ≡ false) × (o ≡ Some q))
pick true p o q e = inl (refl, cc)
pick false p o q e = inr (refl, e)

other_first : (s : Shape) (rest : List Shape) → is_keyword (codes "conclude") s ≡ false → gives_conclusions (s ∷ rest) ≡ false
other_first s [] h = refl
other_first s (m ∷ more) h = ap (λ b. b && is_mark left_round m) h

module _ (words : List Bool) (level depth : ℕ) (brackets : List Bracket) (next : Position) (chosen : List ℕ) (tokens : List Shape) where
  abbrev Goes : Shape → Type 0
  Goes s = in_info brackets (info_position level depth brackets) s ≡ Some next

  abbrev Added : ItemState → Shape → Type 0
  Added q s = InItem next.brackets q (with_number chosen q) (tokens ++ s ∷ [])

  number_added : (last : ℕ) (s : Shape) (q : ItemState) → Begun 2 brackets chosen tokens → Goes s → number_at words last s ≡ Some q → Added q s
  number_added last (Number text true) q h goes e =
      elim (pick (may_follow words last (digits_value 10 text)) (number_read (digits_value 10 text)) None q e) [
        | inl k ↦ let few = number_keeps text true level depth brackets next goes in let many = h.few in
            subst (λ x. Added x (Number text true)) k.1 (add_number brackets next.brackets chosen tokens text h (omega (arith, few, many)))
        | inr k ↦ absurd cc
      ]
  number_added last (Number text false) q h goes e = absurd cc
  number_added last (Lower text) q h goes e = absurd cc
  number_added last (Upper text) q h goes e = absurd cc
  number_added last (Quoted text) q h goes e = absurd cc
  number_added last (Distinct text) q h goes e = absurd cc
  number_added last (Dollar text) q h goes e = absurd cc
  number_added last NotEqual q h goes e = absurd cc
  number_added last (Punct byte) q h goes e = absurd cc

  -- the list of numbers closes
  list_ends : (s : Shape) (q : ItemState) → Begun 2 brackets chosen tokens → Goes s → is_mark right_square s ≡ true → list_closed ≡ q → Added q s
  list_ends s q h goes test same =
      let is = mark_is right_square s test in
      let few = square_closes level depth brackets next (subst Goes is goes) in
      let many = h.few in
      subst (λ x. Added x s) same (subst (λ x. Added list_closed x) (sym is) (add_mark 2 1 brackets next.brackets chosen tokens right_square h (omega (arith, few, many))))

  pub item_added : (p q : ItemState) (s : Shape) → InItem brackets p chosen tokens → Goes s → item_step words p s ≡ Some q → Added q s
  item_added item_start q s h goes e =
      elim (pick (is_keyword (codes "conclude") s) word_read (Some other_item) q e) [
        | inl k ↦ subst (λ x. Added x s) k.1 (ap (λ u. u ++ s ∷ []) h.0 ∙ ap (λ x. x ∷ []) (keyword_is (codes "conclude") s k.0), h.1)
        | inr k ↦ let same : other_item ≡ q = cc in subst (λ x. Added x s) same (λ rest. ap (λ u. gives_conclusions ((u ++ s ∷ []) ++ rest)) h.0 ∙ other_first s rest k.0)
      ]
  item_added word_read q s h goes e =
      elim (pick (is_mark left_round s) item_open (Some other_item) q e) [
        | inl k ↦ let is = mark_is left_round s k.0 in let few = opens_round level depth brackets next (subst Goes is goes) in
            subst (λ x. Added x s) k.1 (record { few = omega (arith, few); begins = ([], ap (λ u. u ++ s ∷ []) h.0 ∙ ap (λ x. Lower (codes "conclude") ∷ (x ∷ [])) is); numbers = h.1 ∙ sym (ap (λ u. filter_map number_of_token (u ++ s ∷ [])) h.0 ∙ ap (λ x. filter_map number_of_token (Lower (codes "conclude") ∷ (x ∷ []))) is) })
        | inr k ↦ let same : other_item ≡ q = cc in subst (λ x. Added x s) same (λ rest. ap (λ u. gives_conclusions ((u ++ s ∷ []) ++ rest)) h.0 ∙ k.0)
      ]
  item_added item_open q s h goes e =
      elim (pick (is_mark left_square s) list_open None q e) [
        | inl k ↦ let is = mark_is left_square s k.0 in let few = opens_square level depth brackets next (subst Goes is goes) in let many = h.few in
            subst (λ x. Added x s) k.1 (subst (λ x. Added list_open x) (sym is) (add_mark 1 2 brackets next.brackets chosen tokens left_square h (omega (arith, few, many))))
        | inr k ↦ absurd cc
      ]
  item_added list_open q s h goes e =
      elim (pick (is_mark right_square s) list_closed (number_at words 0 s) q e) [
        | inl k ↦ list_ends s q h goes k.0 k.1
        | inr k ↦ number_added 0 s q h goes k.1
      ]
  item_added (number_read last) q s h goes e =
      elim (pick (is_mark right_square s) list_closed (at_item (is_mark comma s && names_above words last) (number_start last) None) q e) [
        | inl k ↦ list_ends s q h goes k.0 k.1
        | inr k ↦ elim (pick (is_mark comma s && names_above words last) (number_start last) None q k.1) [
          | inl w ↦ let is = mark_is comma s (both_true (is_mark comma s) (names_above words last) w.0).0 in let few = comma_keeps level depth brackets next (subst Goes is goes) in let many = h.few in
              subst (λ x. Added x s) w.1 (subst (λ x. Added (number_start last) x) (sym is) (add_mark 2 2 brackets next.brackets chosen tokens comma h (omega (arith, few, many))))
          | inr w ↦ absurd cc
        ]
      ]
  item_added (number_start last) q s h goes e = number_added last s q h goes e
  item_added list_closed q s h goes e =
      elim (pick (is_mark right_round s) item_closed None q e) [
        | inl k ↦ subst (λ x. Added x s) k.1 (subst (λ x. Added item_closed x) (sym (mark_is right_round s k.0)) (add_mark 1 0 brackets next.brackets chosen tokens right_round h (omega arith)))
        | inr k ↦ absurd cc
      ]
  item_added item_closed q s h goes e = absurd cc
  item_added other_item q s h goes e =
      let same : other_item ≡ q = cc in
      subst (λ x. Added x s) same (λ rest. ap gives_conclusions (append_assoc tokens (s ∷ []) rest) ∙ h (s ∷ rest))

-- what the items give together
abbrev pub conclusions : List (List Shape) → List (List ℕ)
conclusions items = map (filter_map number_of_token) (filter gives_conclusions items)

conclusions_append : (items : List (List Shape)) (item : List Shape) → conclusions (items ++ item ∷ []) ≡ conclusions items ++ conclusions (item ∷ [])
conclusions_append items item = ap (map (filter_map number_of_token)) (filter-append gives_conclusions items (item ∷ [])) ∙ map-append (filter_map number_of_token) (filter gives_conclusions items) (filter gives_conclusions (item ∷ []))

gives_none : (items : List (List Shape)) (tokens : List Shape) → gives_conclusions tokens ≡ false → conclusions items ≡ conclusions (items ++ tokens ∷ [])
gives_none items tokens h =
    let none : conclusions (tokens ∷ []) ≡ [] = ap (λ b. map (filter_map number_of_token) (cond b (tokens ∷ []) [])) h in
    sym (conclusions_append items tokens ∙ (ap (λ u. conclusions items ++ u) none ∙ append-nil (conclusions items)))

gives_one : (items : List (List Shape)) (chosen : List ℕ) (tokens : List Shape) → gives_conclusions tokens ≡ true → chosen ≡ filter_map number_of_token tokens → conclusions items ++ chosen ∷ [] ≡ conclusions (items ++ tokens ∷ [])
gives_one items chosen tokens h same =
    let one : conclusions (tokens ∷ []) ≡ filter_map number_of_token tokens ∷ [] = ap (λ b. map (filter_map number_of_token) (cond b (tokens ∷ []) [])) h in
    sym (conclusions_append items tokens ∙ ap (λ u. conclusions items ++ u) (one ∙ ap (λ x. x ∷ []) (sym same)))

-- the item ends outside brackets
pub item_ended : (p : ItemState) (chosen : List ℕ) (tokens : List Shape) (conclude : List (List ℕ)) (items : List (List Shape)) → InItem [] p chosen tokens → conclude ≡ conclusions items → with_item conclude chosen p ≡ conclusions (items ++ tokens ∷ [])
item_ended item_start chosen tokens conclude items h c = c ∙ gives_none items tokens (ap gives_conclusions h.0)
item_ended word_read chosen tokens conclude items h c = c ∙ gives_none items tokens (ap gives_conclusions h.0)
item_ended item_open chosen tokens conclude items h c = let few : 1 ≤ 0 = h.few in absurd (omega (arith, few))
item_ended list_open chosen tokens conclude items h c = let few : 2 ≤ 0 = h.few in absurd (omega (arith, few))
item_ended (number_read last) chosen tokens conclude items h c = let few : 2 ≤ 0 = h.few in absurd (omega (arith, few))
item_ended (number_start last) chosen tokens conclude items h c = let few : 2 ≤ 0 = h.few in absurd (omega (arith, few))
item_ended list_closed chosen tokens conclude items h c = let few : 1 ≤ 0 = h.few in absurd (omega (arith, few))
item_ended item_closed chosen tokens conclude items h c = ap (λ u. u ++ chosen ∷ []) c ∙ gives_one items chosen tokens (ap gives_conclusions h.begins.1) h.numbers
item_ended other_item chosen tokens conclude items h c = c ∙ gives_none items tokens (ap gives_conclusions (sym (append-nil tokens)) ∙ h [])
