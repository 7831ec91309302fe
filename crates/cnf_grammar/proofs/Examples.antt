-- Small token lists, accepted and refused as worked by hand.
use Rattle.cnf_grammar.proofs.Common.{◌≡◌, Bool, true, false, List, [], ◌∷◌, ◌++◌, Option, Some, None, codes, refl, Position, Shape, Lower, Upper, Quoted, Distinct, Dollar, Number, NotEqual, Punct, left_round, right_round, left_square, right_square, comma, dot, bar, tilde, run, start, is_end}

-- whether a whole file was read, and how it went on otherwise
data Verdict : Type 0 where
  whole : Verdict
  unfinished : Verdict
  refused : Verdict

abbrev verdict_of : Bool → Verdict
verdict_of true = whole
verdict_of false = unfinished

abbrev verdict : Option Position → Verdict
verdict None = refused
verdict (Some p) = verdict_of (is_end p)

abbrev reading : List Shape → Verdict
reading tokens = verdict (run start tokens)

abbrev p : Shape
p = Lower (codes "p")

abbrev x : Shape
x = Upper (codes "X")

-- cnf(a,axiom, before the formula
abbrev head : List Shape
head = Lower (codes "cnf") ∷ (Punct left_round ∷ (Lower (codes "a") ∷ (Punct comma ∷ (Lower (codes "axiom") ∷ (Punct comma ∷ [])))))

-- ). behind the formula
abbrev tail : List Shape
tail = Punct right_round ∷ (Punct dot ∷ [])

-- include( before the file name
abbrev include_head : List Shape
include_head = Lower (codes "include") ∷ (Punct left_round ∷ [])

-- no tokens at all
empty_file : reading [] ≡ whole
empty_file = refl

-- cnf(a,axiom,p|~p).
two_literals : reading (head ++ p ∷ (Punct bar ∷ (Punct tilde ∷ (p ∷ []))) ++ tail) ≡ whole
two_literals = refl

-- cnf(a,axiom,p
cut_short : reading (head ++ p ∷ []) ≡ unfinished
cut_short = refl

-- cnf(a,axiom,p)
no_dot : reading (head ++ p ∷ (Punct right_round ∷ [])) ≡ unfinished
no_dot = refl

-- cnf(a,axiom,p) and a second cnf in position of the dot
dot_left_out : reading (head ++ p ∷ (Punct right_round ∷ (Lower (codes "cnf") ∷ []))) ≡ refused
dot_left_out = refl

-- cnf(a,axiom,~~p).
negated_twice : reading (head ++ Punct tilde ∷ (Punct tilde ∷ (p ∷ [])) ++ tail) ≡ refused
negated_twice = refl

-- cnf(a,axiom,p(X,1,"d",p(X))).
arguments_nested : reading (head ++ p ∷ (Punct left_round ∷ (x ∷ (Punct comma ∷ (Number (codes "1") true ∷ (Punct comma ∷ (Distinct (codes "\"d\"") ∷ (Punct comma ∷ (p ∷ (Punct left_round ∷ (x ∷ (Punct right_round ∷ (Punct right_round ∷ [])))))))))))) ++ tail) ≡ whole
arguments_nested = refl

-- cnf(a,axiom,p()).
no_argument : reading (head ++ p ∷ (Punct left_round ∷ (Punct right_round ∷ [])) ++ tail) ≡ refused
no_argument = refl

-- cnf(a,axiom,p(01)).
number_not_plain : reading (head ++ p ∷ (Punct left_round ∷ (Number (codes "01") false ∷ [])) ++ tail) ≡ refused
number_not_plain = refl

-- cnf(a,axiom,X).
variable_for_atom : reading (head ++ x ∷ [] ++ tail) ≡ refused
variable_for_atom = refl

-- cnf(a,axiom,p!=p).
equation : reading (head ++ p ∷ (NotEqual ∷ (p ∷ [])) ++ tail) ≡ refused
equation = refl

-- cnf(a,axiom,(($false))).
brackets : reading (head ++ Punct left_round ∷ (Punct left_round ∷ (Dollar (codes "$false") ∷ (Punct right_round ∷ (Punct right_round ∷ [])))) ++ tail) ≡ whole
brackets = refl

-- cnf(a,axiom,(p)|p).
bar_behind_brackets : reading (head ++ Punct left_round ∷ (p ∷ (Punct right_round ∷ (Punct bar ∷ (p ∷ [])))) ++ tail) ≡ refused
bar_behind_brackets = refl

-- cnf(a,axiom,$distinct).
other_defined : reading (head ++ Dollar (codes "$distinct") ∷ [] ++ tail) ≡ refused
other_defined = refl

-- cnf(a,axiom,p,p(p,[p]),[p,p]).
source_and_info : reading (head ++ p ∷ (Punct comma ∷ (p ∷ (Punct left_round ∷ (p ∷ (Punct comma ∷ (Punct left_square ∷ (p ∷ (Punct right_square ∷ (Punct right_round ∷ (Punct comma ∷ (Punct left_square ∷ (p ∷ (Punct comma ∷ (p ∷ (Punct right_square ∷ []))))))))))))))) ++ tail) ≡ whole
source_and_info = refl

-- cnf(a,axiom,p,).
empty_source : reading (head ++ p ∷ (Punct comma ∷ []) ++ tail) ≡ refused
empty_source = refl

-- cnf(a,axiom,p,p,p).
info_without_brackets : reading (head ++ p ∷ (Punct comma ∷ (p ∷ (Punct comma ∷ (p ∷ [])))) ++ tail) ≡ refused
info_without_brackets = refl

-- cnf(a,axiom,p,(p].
brackets_crossed : reading (head ++ p ∷ (Punct comma ∷ (Punct left_round ∷ (p ∷ (Punct right_square ∷ []))))) ≡ refused
brackets_crossed = refl

-- cnf(a,axiom,p,p,[],[]).
third_note : reading (head ++ p ∷ (Punct comma ∷ (p ∷ (Punct comma ∷ (Punct left_square ∷ (Punct right_square ∷ (Punct comma ∷ []))))))) ≡ refused
third_note = refl

-- include('a.ax',[]).
empty_list : reading (include_head ++ Quoted (codes "'a.ax'") ∷ (Punct comma ∷ (Punct left_square ∷ (Punct right_square ∷ []))) ++ tail) ≡ whole
empty_list = refl

-- include(a,[a,7]). and a clause
selected_names : reading (include_head ++ p ∷ (Punct comma ∷ (Punct left_square ∷ (p ∷ (Punct comma ∷ (Number (codes "7") true ∷ (Punct right_square ∷ [])))))) ++ tail ++ head ++ p ∷ [] ++ tail) ≡ whole
selected_names = refl

-- include('').
no_file_name : reading (include_head ++ Quoted (codes "''") ∷ []) ≡ refused
no_file_name = refl

-- include(a,[a,]).
comma_at_end_of_list : reading (include_head ++ p ∷ (Punct comma ∷ (Punct left_square ∷ (p ∷ (Punct comma ∷ (Punct right_square ∷ [])))))) ≡ refused
comma_at_end_of_list = refl

-- fof( in position of a clause
other_statement : reading (Lower (codes "fof") ∷ []) ≡ refused
other_statement = refl
