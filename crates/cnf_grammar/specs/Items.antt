-- The table of an item of an info: where its tokens lead, as long as it can still be right.
use Rattle.std.specs.Prelude.{ℕ, zero, suc, Bool, true, false, ◌&&◌, ◌||◌, List, [], ◌∷◌, Option, Some, None, codes}
use Rattle.std.specs.Str.Parse.{digits_value}
use Rattle.cnf_grammar.specs.declared.item.ItemState.{ItemState}
pub use Rattle.cnf_grammar.specs.declared.item.ItemState.TheVariants.{Start as item_start, WordRead as word_read, Open as item_open, ListOpen as list_open, NumberRead as number_read, NumberStart as number_start, ListClosed as list_closed, Closed as item_closed, Other as other_item}
use Rattle.cnf_grammar.specs.Shapes.{Shape, Number, left_round, right_round, left_square, right_square, comma, is_keyword, is_mark}
use Rattle.cnf_grammar.specs.Conclude.{may_follow}

-- whether a number above the last one names a literal that has a word
abbrev pub names_above : List Bool → ℕ → Bool
names_above [] last = false
names_above (word ∷ words) zero = word || names_above words zero
names_above (word ∷ words) (suc last) = names_above words last

-- the position where the test holds, else what follows
abbrev pub at_item : Bool → ItemState → Option ItemState → Option ItemState
at_item true position other = Some position
at_item false position other = other

-- a number that may follow the last one
abbrev pub number_at : List Bool → ℕ → Shape → Option ItemState
number_at words last (Number text true) = at_item (may_follow words last (digits_value 10 text)) (number_read (digits_value 10 text)) None
number_at words last _ = None

-- where a token of the item leads
abbrev pub item_step : List Bool → ItemState → Shape → Option ItemState
item_step words item_start s = at_item (is_keyword (codes "conclude") s) word_read (Some other_item)
item_step words word_read s = at_item (is_mark left_round s) item_open (Some other_item)
item_step words item_open s = at_item (is_mark left_square s) list_open None
item_step words list_open s = at_item (is_mark right_square s) list_closed (number_at words 0 s)
item_step words (number_read last) s = at_item (is_mark right_square s) list_closed (at_item (is_mark comma s && names_above words last) (number_start last) None)
item_step words (number_start last) s = number_at words last s
item_step words list_closed s = at_item (is_mark right_round s) item_closed None
item_step words item_closed s = None
item_step words other_item s = Some other_item

-- where tokens of the item lead
abbrev pub item_run : List Bool → Option ItemState → List Shape → Option ItemState
item_run words None tokens = None
item_run words (Some p) [] = Some p
item_run words (Some p) (s ∷ tokens) = item_run words (item_step words p s) tokens
