-- The numbers of an info's items rise, and each names a literal that has a word.
use Rattle.std.proofs.Common.{◌≡◌, ℕ, Bool, true, false, ◌&&◌, List, [], ◌∷◌, ◌++◌, map, Option, Some, None, codes, refl, sym, ◌∙◌, ap, subst}
use Rattle.std.specs.List.{list_all}
use Rattle.std.specs.Str.Parse.{digits_value}
use Rattle.std.proofs.lemmas.Bool.{and_from, and_parts}
use Rattle.std.proofs.lemmas.List.Folds.{list_all-append}
use Rattle.cnf_grammar.specs.declared.item.ItemState.{ItemState}
use Rattle.cnf_grammar.specs.declared.item.ItemState.TheVariants.{Start as item_start, WordRead as word_read, Open as item_open, ListOpen as list_open, NumberRead as number_read, NumberStart as number_start, ListClosed as list_closed, Closed as item_closed, Other as other_item}
use Rattle.cnf_grammar.specs.Items.{names_above, at_item, number_at, item_step}
use Rattle.cnf_grammar.specs.Shapes.{Shape, Lower, Upper, Quoted, Distinct, Dollar, Number, NotEqual, Punct, left_round, right_round, left_square, right_square, comma, is_keyword, is_mark}
use Rattle.cnf_grammar.specs.Conclude.{may_follow, are_conclusions_above}
use Rattle.cnf_reader.specs.Faults.{has_word}
use Rattle.cnf_reader.specs.Statements.{with_number, with_item, take_item, take_info}
use Rattle.cnf_reader.specs.Limits.{last_of, RiseTo, ItemRises, InfoRises}
use Rattle.cnf_reader.specs.declared.pending.Pending.{Pending}

-- a number that may follow the last one
rises_more : (words : List Bool) (chosen : List ℕ) (start last k : ℕ) → are_conclusions_above words start chosen ≡ true → last_of start chosen ≡ last → may_follow words last k ≡ true
    → (are_conclusions_above words start (chosen ++ k ∷ []) ≡ true) × (last_of start (chosen ++ k ∷ []) ≡ k)
rises_more words [] start last k h same e = (ap (λ b. b && true) (subst (λ l. may_follow words l k ≡ true) (sym same) e), refl)
rises_more words (first ∷ chosen) start last k h same e =
    let two = and_parts (may_follow words start first) (are_conclusions_above words first chosen) h in
    let more = rises_more words chosen first last k two.1 same e in
    (and_from (may_follow words start first) (are_conclusions_above words first (chosen ++ k ∷ [])) two.0 more.0, more.1)

-- it holds of the place where the token leads, if to any
abbrev OnItem : (ItemState → Type 0) → Option ItemState → Type 0
OnItem P None = Unit {0}
OnItem P (Some item) = P item

on_item : (P : ItemState → Type 0) (test : Bool) (item : ItemState) (other : Option ItemState) → (test ≡ true → P item) → OnItem P other → OnItem P (at_item test item other)
on_item P true item other h k = h refl
on_item P false item other h k = k

module _ (words : List Bool) (chosen : List ℕ) where
  abbrev Rises : ItemState → Type 0
  Rises item = ItemRises words (with_number chosen item) item

  number_rises : (last : ℕ) (s : Shape) → RiseTo words chosen last → OnItem Rises (number_at words last s)
  number_rises last (Number text true) h = on_item Rises (may_follow words last (digits_value 10 text)) (number_read (digits_value 10 text)) None (λ e. rises_more words chosen 0 last (digits_value 10 text) h.0 h.1 e) tt
  number_rises last (Number text false) h = tt
  number_rises last (Lower text) h = tt
  number_rises last (Upper text) h = tt
  number_rises last (Quoted text) h = tt
  number_rises last (Distinct text) h = tt
  number_rises last (Dollar text) h = tt
  number_rises last NotEqual h = tt
  number_rises last (Punct byte) h = tt

  item_rises : (item : ItemState) (s : Shape) → ItemRises words chosen item → OnItem Rises (item_step words item s)
  item_rises item_start s h = on_item Rises (is_keyword (codes "conclude") s) word_read (Some other_item) (λ e. h) tt
  item_rises word_read s h = on_item Rises (is_mark left_round s) item_open (Some other_item) (λ e. h) tt
  item_rises item_open s h = on_item Rises (is_mark left_square s) list_open None (λ e. h) tt
  item_rises list_open s h = on_item Rises (is_mark right_square s) list_closed (number_at words 0 s) (λ e. h.0) (number_rises 0 s h)
  item_rises (number_read last) s h =
      on_item Rises (is_mark right_square s) list_closed (at_item (is_mark comma s && names_above words last) (number_start last) None) (λ e. h.0)
      (on_item Rises (is_mark comma s && names_above words last) (number_start last) None (λ e. h) tt)
  item_rises (number_start last) s h = number_rises last s h
  item_rises list_closed s h = on_item Rises (is_mark right_round s) item_closed None (λ e. h) tt
  item_rises item_closed s h = tt
  item_rises other_item s h = tt

taken_rises : (p : Pending) (item : Option ItemState) → OnItem (Rises p.words p.chosen) item → InfoRises p → InfoRises (take_item p item)
taken_rises p None k h = h
taken_rises p (Some item) k h = (h.0, h.1, k)

-- the items that are whole, with the one that ends
ended_rises : (words : List Bool) (conclude : List (List ℕ)) (chosen : List ℕ) (item : ItemState) → list_all (are_conclusions_above words 0) conclude ≡ true → ItemRises words chosen item
    → list_all (are_conclusions_above words 0) (with_item conclude chosen item) ≡ true
ended_rises words conclude chosen item_closed h k =
    list_all-append (are_conclusions_above words 0) conclude (chosen ∷ [])
    ∙ and_from (list_all (are_conclusions_above words 0) conclude) (list_all (are_conclusions_above words 0) (chosen ∷ [])) h (and_from (are_conclusions_above words 0 chosen) true k refl)
ended_rises words conclude chosen item h k = h

-- a token of an info leaves its items so
pub info_rises : (is_outside : Bool) (p : Pending) (s : Shape) → InfoRises p → InfoRises (take_info is_outside p s)
info_rises true p s h = (h.0, ended_rises (map has_word p.draft.literals) p.conclude p.chosen p.item h.1 (subst (λ w. ItemRises w p.chosen p.item) h.0 h.2), (refl, refl))
info_rises false p s h = taken_rises p (item_step p.words p.item s) (item_rises p.words p.chosen p.item s h.2) h
