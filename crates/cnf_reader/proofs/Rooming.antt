-- What the tokens of a formula add leaves room for the literals, up to the next test of their number.
use Rattle.std.proofs.Common.{◌≡◌, ℕ, zero, suc, ◌≤◌, true, false, cond, ◌==◌, List, [], ◌∷◌, length, refl, sym, ap, arith}
use Rattle.std.proofs.lemmas.List.{length-append}
use Rattle.cnf_grammar.specs.Shapes.{Shape, Lower, Upper, Quoted, Distinct, Dollar, Number, Punct, tilde, is_mark, is_word}
use Rattle.cnf_grammar.specs.Meaning.{Item, ClauseLiteral}
use Rattle.cnf_grammar.specs.Draft.{Draft, next_argument_of, close_words, finish_atom, begin_literal, begin_term}
use Rattle.cnf_reader.specs.Limits.{begun, HasAtMost, HasRoomBehind}

begun_small : (items : List Item) → begun items ≤ 1
begun_small [] = omega arith
begun_small (item ∷ items) = omega arith

-- room for one more literal is room behind any number of brackets
pub room_any : (depth : ℕ) (d : Draft) → length d.literals ≤ 63 → HasRoomBehind depth d
room_any zero d h = let few = begun_small d.atom in omega (arith, few, h)
room_any (suc depth) d h = h

-- a token that begins a literal takes the room of one
pub room_begun : (s : Shape) (d : Draft) → HasAtMost 63 d → HasAtMost 64 (begin_literal s d)
room_begun (Lower text) d h = omega (arith, begun_small, h)
room_begun (Quoted text) d h = omega (arith, begun_small, h)
room_begun (Dollar text) d h = omega (arith, length-append {A = ClauseLiteral}, h)
room_begun (Punct byte) d h = elim (byte == tilde) as (λ b. HasAtMost 64 (cond b (record d { is_negative = true }) d)) [ true ↦ omega (arith, h) | false ↦ omega (arith, h) ]
room_begun s d h = omega (arith, h)

-- a word begins the literal under way
pub room_at_word : (s : Shape) (d : Draft) → is_word s ≡ true → HasAtMost 63 d → length (begin_literal s d).literals ≤ 63
room_at_word (Lower text) d e h = omega (arith, h)
room_at_word (Quoted text) d e h = omega (arith, h)
room_at_word s d e h = cc

-- a mark begins none
pub room_at_mark : (byte : ℕ) (s : Shape) (d : Draft) → is_mark byte s ≡ true → HasAtMost 63 d → HasAtMost 63 (begin_literal s d)
room_at_mark byte (Punct other) d e h = elim (other == tilde) as (λ b. HasAtMost 63 (cond b (record d { is_negative = true }) d)) [ true ↦ h | false ↦ h ]
room_at_mark byte s d e h = cc

-- a term leaves the literals
pub term_leaves : (s : Shape) (d : Draft) → (begin_term s d).literals ≡ d.literals
term_leaves (Upper text) d = refl
term_leaves (Number text plain) d = refl
term_leaves (Distinct text) d = refl
term_leaves (Lower text) d = refl
term_leaves (Quoted text) d = refl
term_leaves s d = refl

-- a further argument leaves the literals
pub next_leaves : (words : List ℕ) (d : Draft) → (next_argument_of words d).literals ≡ d.literals
next_leaves [] d = refl
next_leaves (position ∷ outer) d = refl

-- the end of the arguments leaves the literals
pub close_leaves : (words : List ℕ) (d : Draft) → (close_words words d).literals ≡ d.literals
close_leaves [] d = refl
close_leaves (position ∷ outer) d = refl

-- the literal that was under way is whole
pub room_finished : (atom : List Item) (d : Draft) → atom ≡ d.atom → HasAtMost 64 d → (length (finish_atom atom d).literals ≤ 64) × ((finish_atom atom d).atom ≡ [])
room_finished [] d same h = (omega (arith, h), sym same)
room_finished (item ∷ items) d same h =
    let one : begun d.atom ≡ 1 = ap begun (sym same) in (omega (arith, one, length-append {A = ClauseLiteral}, h), refl)
