-- Documents worked by hand.
use Rattle.std.proofs.Common.{◌≡◌, ℕ, false, List, [], ◌∷◌, map, Some, None, refl}
use Rattle.mg_word.specs.declared.form.Inst.{Inst}
use Rattle.mg_word.specs.declared.lit.Lit.{Lit}
use Rattle.tree_board.specs.Boards.{Board, opening}
use Rattle.tree_board.specs.Closings.{closed_at, climb}
use Rattle.tree_board.specs.Effects.{effect, replay_from}
use Rattle.tree_board.specs.Lawful.{lemma_for}
use Rattle.tree_board.specs.NodeStates.{Open}
use Rattle.tree_board.specs.Settings.{Setting, small}
use Rattle.tree_board.specs.Standing.{state_of}
use Rattle.tree_board.specs.declared.event.Event.TheVariants.{Extend, Reject, ByLemma}
use Rattle.tree_board.specs.declared.mode.BoardState.TheVariants.{Closed}
use Rattle.tree_board.specs.declared.mode.Mode.TheVariants.{Refute}
use Rattle.tree_checker.specs.declared.doc.TreeLine.{TreeLine}
use Rattle.tree_checker.specs.declared.doc.TreeLine.TheVariants.{Form as FormLine, Barred, By}
use Rattle.board_tree.specs.Documents.{doc_of}
use Rattle.board_tree.specs.Lines.{lines_from}

abbrev setting : Setting
setting = record {
  problem = record { symbols = []; files = []; clauses = []; forms = [] };
  mode = Refute;
  limits = record { budget = 100; weight = 10 };
  keeps = small;
}

-- a proposition by its symbol
abbrev lit : ℕ → Lit
lit symbol = record { negative = false; word = symbol ∷ [] }

abbrev inst : ℕ → List ℕ → List ℕ → Inst
inst number premises conclusions = record { form = number; subst = []; premises = map lit premises; conclusions = map lit conclusions }

abbrev line : ℕ → TreeLine
line number = FormLine number []

-- ---- a|b; c|d; ~c; ~d, with a, b, c, d: the lemma of node 1, which settles node 2, stands in its stead

abbrev choices : Board
choices = replay_from setting opening (Extend 0 (inst 1 [] (0 ∷ 1 ∷ [])) ∷ Extend 1 (inst 2 [] (2 ∷ 3 ∷ [])) ∷ Reject 3 (inst 3 (2 ∷ []) []) ∷ Reject 4 (inst 4 (3 ∷ []) []) ∷ ByLemma 2 1 ∷ [])

choices_closed : state_of setting choices ≡ Closed
unfolding replay_from effect climb closed_at
choices_closed = refl

choices_document : doc_of choices ≡ record {
  lemmas = record { inside = []; outside = []; tree = line 2 ∷ line 3 ∷ line 4 ∷ [] } ∷ [];
  root = line 1 ∷ By 1 ∷ By 1 ∷ [];
}
unfolding replay_from effect climb closed_at lines_from
choices_document = refl

-- ---- x|y; ~x|a|b; ~y|a|b; ~b|a; ~a, with a, b, x, y: a barred child, and a lemma that settled nothing

abbrev barring : Board
barring = replay_from setting opening
    (Extend 0 (inst 1 [] (2 ∷ 3 ∷ []))
    ∷ Extend 1 (inst 2 (2 ∷ []) (0 ∷ 1 ∷ []))
    ∷ Reject 3 (inst 5 (0 ∷ []) [])
    ∷ Extend 4 (inst 4 (1 ∷ []) (0 ∷ []))
    ∷ Extend 2 (inst 3 (3 ∷ []) (0 ∷ 1 ∷ []))
    ∷ Reject 6 (inst 5 (0 ∷ []) [])
    ∷ ByLemma 7 1
    ∷ [])

barring_closed : state_of setting barring ≡ Closed
unfolding replay_from effect climb closed_at
barring_closed = refl

-- the lemma of node 1 is kept too, but node 1 is written in place
barring_document : doc_of barring ≡ record {
  lemmas = record { inside = lit 1 ∷ []; outside = lit 0 ∷ []; tree = line 4 ∷ Barred (lit 0) ∷ [] } ∷ [];
  root = line 1 ∷ line 2 ∷ line 5 ∷ By 1 ∷ line 3 ∷ line 5 ∷ By 1 ∷ [];
}
unfolding replay_from effect climb closed_at lines_from
barring_document = refl

-- ---- a|b; c|d; ~c|e|f; ~e; ~f; ~d, with a to f: the first lemma settles nothing, so that the second is numbered anew

abbrev anew_start : Board
anew_start = replay_from setting opening
    (Extend 0 (inst 1 [] (0 ∷ 1 ∷ []))
    ∷ Extend 1 (inst 2 [] (2 ∷ 3 ∷ []))
    ∷ Extend 3 (inst 3 (2 ∷ []) (4 ∷ 5 ∷ []))
    ∷ Reject 5 (inst 4 (4 ∷ []) [])
    ∷ Reject 6 (inst 5 (5 ∷ []) [])
    ∷ Reject 4 (inst 6 (3 ∷ []) [])
    ∷ [])

-- node 2 holds b alone
anew_applies : lemma_for anew_start (record { path = 2 ∷ 0 ∷ []; lits = lit 1 ∷ []; barred = lit 0 ∷ []; state = Open; own = None }) ≡ Some 2
unfolding replay_from effect climb closed_at
anew_applies = refl

anew_document : doc_of (effect setting anew_start (ByLemma 2 2)) ≡ record {
  lemmas = record { inside = []; outside = []; tree = line 2 ∷ line 3 ∷ line 4 ∷ line 5 ∷ line 6 ∷ [] } ∷ [];
  root = line 1 ∷ By 1 ∷ By 1 ∷ [];
}
unfolding replay_from effect climb closed_at lines_from
anew_document = refl
