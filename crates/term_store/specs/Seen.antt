-- The list of terms that the fields of a store stand for.
use Rattle.std.specs.Prelude.{◌≡◌, ◌≤◌, ◌^◌, List, map, length}
use Rattle.term_store.specs.Terms.{Term, term_of, words_of, IsStore}
use Rattle.term_store.specs.declared.store.Key.{Key}
use Rattle.term_store.specs.declared.store.TermStore.TheInside.{Inside}

abbrev pub term_seen : Key → Term
term_seen key = term_of key.symbol key.arguments.items

-- by the order of first entry
abbrev pub terms_seen : Inside → List Term
terms_seen store = map term_seen store.keys.keys

-- what the fields keep
pub record IsKept (kept : Inside) : Type 0 where
  pub store : IsStore (terms_seen kept)
  -- beside each term its weight
  pub weights : kept.weights.items ≡ map length (words_of (terms_seen kept))
  -- each number of a term fits 32 bits, and so does each weight
  pub few : length kept.keys.keys ≤ 2 ^ 32
