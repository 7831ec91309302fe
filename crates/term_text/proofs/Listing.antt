-- The reading of a list, item by item.
use Rattle.std.proofs.Common.{◌≡◌, ℕ, true, List, [], ◌∷◌, ◌++◌, map, refl, sym, ap, ◌∙◌, subst, append_assoc, arith}
use Rattle.std.proofs.lemmas.List.Elements.{All-head, All-tail, All-cons, All-nil}
use Rattle.mg_word.specs.Table.{Symbol}
use Rattle.mg_word.specs.Spelling.{spelled_symbols}
use Rattle.term_text.specs.Brackets.{after_items}
use Rattle.term_text.specs.OwnTerms.{IsOwnTerm}
use Rattle.term_text.specs.Terms.{ends_term, IsOnlyTerm, NoTerm}
use Rattle.term_text.specs.Lists.{IsItemAt, IsOnlyItem, NoItem, IsListAt, IsOnlyList, NoList, IsNextItem, IsListing}
use Rattle.term_text.proofs.Texts.{heads, tails}
use Rattle.term_text.proofs.NameShapes.{none_other}
use Rattle.term_text.proofs.Reaching.{starts_ahead}
use Rattle.term_text.proofs.TermEnds.{stuck_name}

module _ {X : Type 0} (spell : X → List ℕ) (P : X → Type 0) where
  pub listing_starts : (bytes : List ℕ) → (93 ∷ [] ≡ bytes → ⊥) → IsListing spell P bytes bytes []
  listing_starts bytes other = record {
    sound = λ item items next. record { own = next.own; text = next.text };
    only = by;
  }
    where
      by : (all : List X) → IsListAt spell P bytes all → (item : X) × (items : List X) × IsNextItem spell P bytes item items × (item ∷ items ≡ all)
      by [] at = absurd (other at.text)
      by (item ∷ items) at = (item, items, record { own = at.own; text = at.text }, refl)

  after_ends : (items : List X) → ends_term (after_items (map spell items)) ≡ true
  after_ends [] = refl
  after_ends (item ∷ items) = refl

  item_here : (rest : List ℕ) (item : X) (items : List X) → IsNextItem spell P rest item items → IsItemAt spell P rest item (after_items (map spell items))
  item_here rest item items next = record { own = All-head P item items next.own; text = next.text; ends = after_ends items }

  pub listing_missing : (bytes rest : List ℕ) (have : List X) → NoItem spell P rest → IsListing spell P bytes rest have → NoList spell P bytes
  listing_missing bytes rest have none so all at = let some = so.only all at in none some.0 (after_items (map spell some.1)) (item_here rest some.0 some.1 some.2)

  pub listing_wrong : (bytes rest behind : List ℕ) (have : List X) (item : X) → IsOnlyItem spell P rest item behind → ((next : List ℕ) → behind ≡ 44 ∷ next → ⊥) → (behind ≡ 93 ∷ [] → ⊥) → IsListing spell P bytes rest have → NoList spell P bytes
  listing_wrong bytes rest behind have item here no_comma no_end so all at =
      let some = so.only all at in
      by some.1 (here.only some.0 (after_items (map spell some.1)) (item_here rest some.0 some.1 some.2)).1
    where
      by : (items : List X) → after_items (map spell items) ≡ behind → ⊥
      by [] same = no_end (sym same)
      by (i ∷ items) same = no_comma (spell i ++ after_items (map spell items)) (sym same)

  pub listing_more : (bytes rest behind next : List ℕ) (have : List X) (item : X) → IsOnlyItem spell P rest item behind → behind ≡ 44 ∷ next → IsListing spell P bytes rest have → IsListing spell P bytes next (have ++ item ∷ [])
  listing_more bytes rest behind next have item here comma so = record { sound = sound; only = only }
    where
      sound : (t : X) (ts : List X) → IsNextItem spell P next t ts → IsListAt spell P bytes ((have ++ item ∷ []) ++ t ∷ ts)
      sound t ts is =
          subst (IsListAt spell P bytes) (sym (append_assoc have (item ∷ []) (t ∷ ts)))
          (so.sound item (t ∷ ts) (record { own = All-cons P item (t ∷ ts) here.is.own is.own; text = ap (λ l. spell item ++ 44 ∷ l) is.text ∙ (ap (λ l. spell item ++ l) (sym comma) ∙ here.is.text) }))

      by : (all : List X) (t : X) (ts : List X) → t ≡ item → IsNextItem spell P rest t ts → after_items (map spell ts) ≡ 44 ∷ next → have ++ t ∷ ts ≡ all
          → (t' : X) × (ts' : List X) × IsNextItem spell P next t' ts' × ((have ++ item ∷ []) ++ t' ∷ ts' ≡ all)
      by all t [] first is same whole = absurd (omega (arith, heads 93 44 [] next same))
      by all t (t' ∷ ts') first is same whole = (
        t',
        ts',
        record { own = All-tail P t (t' ∷ ts') is.own; text = tails 44 44 (spell t' ++ after_items (map spell ts')) next same },
        append_assoc have (item ∷ []) (t' ∷ ts') ∙ (ap (λ l. have ++ l ∷ t' ∷ ts') (sym first) ∙ whole),
      )

      only : (all : List X) → IsListAt spell P bytes all → (t : X) × (ts : List X) × IsNextItem spell P next t ts × ((have ++ item ∷ []) ++ t ∷ ts ≡ all)
      only all at =
          let some = so.only all at in
          let same = here.only some.0 (after_items (map spell some.1)) (item_here rest some.0 some.1 some.2) in
          by all some.0 some.1 same.0 some.2 (same.1 ∙ comma) some.3

  pub listing_ends : (bytes rest behind : List ℕ) (have : List X) (item : X) → IsOnlyItem spell P rest item behind → behind ≡ 93 ∷ [] → IsListing spell P bytes rest have → IsOnlyList spell P bytes (have ++ item ∷ [])
  listing_ends bytes rest behind have item here end so = record {
    is = so.sound item [] (record { own = All-cons P item [] here.is.own (All-nil P); text = ap (λ l. spell item ++ l) (sym end) ∙ here.is.text });
    only = λ all at.
        let some = so.only all at in
        let same = here.only some.0 (after_items (map spell some.1)) (item_here rest some.0 some.1 some.2) in
        by all some.0 some.1 same.0 (same.1 ∙ end) some.3;
  }
    where
      by : (all : List X) (t : X) (ts : List X) → t ≡ item → after_items (map spell ts) ≡ 93 ∷ [] → have ++ t ∷ ts ≡ all → all ≡ have ++ item ∷ []
      by all t [] first same whole = sym whole ∙ ap (λ l. have ++ l ∷ []) first
      by all t (t' ∷ ts') first same whole = absurd (omega (arith, heads 44 93 (spell t' ++ after_items (map spell ts')) [] same))

  pub empty_list : (bytes : List ℕ) → NoItem spell P (93 ∷ []) → bytes ≡ 93 ∷ [] → IsOnlyList spell P bytes []
  empty_list bytes none is = record { is = record { own = All-nil P; text = sym is }; only = by }
    where
      by : (others : List X) → IsListAt spell P bytes others → others ≡ []
      by [] at = refl
      by (t ∷ ts) at = absurd (none t (after_items (map spell ts)) (subst (λ l. IsItemAt spell P l t (after_items (map spell ts))) is (record { own = All-head P t ts at.own; text = at.text; ends = after_ends ts })))

-- terms as items
pub no_term_item : (bytes : List ℕ) → NoTerm bytes → NoItem spelled_symbols IsOwnTerm bytes
no_term_item bytes none term rest at = none term rest (record { own = at.own; text = at.text; ends = at.ends })

pub term_item : (bytes : List ℕ) (term : List Symbol) (rest : List ℕ) → IsOnlyTerm bytes term rest → IsOnlyItem spelled_symbols IsOwnTerm bytes term rest
term_item bytes term rest is = record {
  is = record { own = is.is.own; text = is.is.text; ends = is.is.ends };
  only = λ other more at. is.only other more (record { own = at.own; text = at.text; ends = at.ends });
}

no_term_end : NoTerm (93 ∷ [])
no_term_end = stuck_name (93 ∷ []) [] [] (93 ∷ []) (none_other 93 [] refl refl (λ same. omega (arith, same)) (λ same. omega (arith, same))) (starts_ahead (93 ∷ []))

pub only_none : (bytes : List ℕ) → bytes ≡ 93 ∷ [] → IsOnlyList spelled_symbols IsOwnTerm bytes []
only_none bytes is = empty_list spelled_symbols IsOwnTerm bytes (no_term_item (93 ∷ []) no_term_end) is
