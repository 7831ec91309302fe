-- Where the plain tree of a problem fits the limits, one answer of a search is right.
use Rattle.std.proofs.Common.{◌≡◌, ℕ, List, Option, Some, sym, ap, ◌∙◌, subst}
use Rattle.mg_word.specs.Facts.{ProblemData, IsProblem}
use Rattle.mg_word.specs.Sets.{set_of}
use Rattle.mg_word.specs.declared.lit.Lit.{Lit}
use Rattle.tree_board.specs.Alone.{FitsPlain}
use Rattle.tree_board.specs.Readers.{lits_of}
use Rattle.tree_board.specs.Searches.{Search, setting_of, board_of}
use Rattle.tree_board.specs.declared.event.Event.{Event}
use Rattle.tree_board.specs.declared.mode.BoardState.{BoardState}
use Rattle.tree_board.specs.declared.mode.BoardState.TheVariants.{Closed, Model}
use Rattle.tree_board.specs.declared.mode.Limits.{Limits}
use Rattle.tree_board.proofs.OneWorker.{one_worker_is_unique}
use Rattle.model_lister.specs.Ends.{end_of}
use Rattle.command_line.specs.Searched.{EndsWith, IsFound, search_of}
use Rattle.command_line.specs.declared.finding.Finding.{Finding}
use Rattle.command_line.specs.declared.finding.Finding.TheVariants.{Unsatisfiable, Satisfiable, GaveUp}

two_ends : (state : BoardState) (node : ℕ) → state ≡ Closed → state ≡ Model node → ⊥
two_ends state node one other = cc

one_node : (state : BoardState) (a b : ℕ) → state ≡ Model a → state ≡ Model b → a ≡ b
one_node state a b one other = cc

same_lits : (found : Option (List Lit)) (a b : List Lit) → found ≡ Some a → found ≡ Some b → a ≡ b
same_lits found a b one other = cc

-- a search ends with one finding
pub finding_once : (search : Search) (a b : Finding) → FitsPlain (setting_of search) → EndsWith search a → EndsWith search b → a ≡ b
finding_once search (Unsatisfiable doc) (Unsatisfiable other) fits p q = ap Unsatisfiable (p.is ∙ sym q.is)
finding_once search (Unsatisfiable doc) (Satisfiable set) fits p q = absurd (two_ends (end_of search) q.node p.closed q.model)
finding_once search (Unsatisfiable doc) (GaveUp limit) fits p q = absurd (q.exceeds fits)
finding_once search (Satisfiable set) (Unsatisfiable doc) fits p q = absurd (two_ends (end_of search) p.node q.closed p.model)
finding_once search (Satisfiable set) (Satisfiable other) fits p q =
    let nodes : q.node ≡ p.node = one_node (end_of search) q.node p.node q.model p.model in
    let lits = same_lits (lits_of (board_of search).nodes p.node) p.lits q.lits p.here (subst (λ node. lits_of (board_of search).nodes node ≡ Some q.lits) nodes q.here) in
    ap Satisfiable (p.is ∙ (ap set_of lits ∙ sym q.is))
finding_once search (Satisfiable set) (GaveUp limit) fits p q = absurd (q.exceeds fits)
finding_once search (GaveUp limit) other fits p q = absurd (p.exceeds fits)

-- so do two searches of one worker for the same problem
pub searches_once : (problem : ProblemData) (limits : Limits) (these those : List Event) (a b : Finding) → IsProblem problem → FitsPlain (setting_of (search_of problem limits these)) → IsFound (search_of problem limits these) a → IsFound (search_of problem limits those) b → a ≡ b
searches_once problem limits these those a b real fits p q =
    let same : those ≡ these = one_worker_is_unique (setting_of (search_of problem limits these)) real those these (q.one_worker fits) (p.one_worker fits) in
    finding_once (search_of problem limits these) a b fits p.ends (subst (λ events. EndsWith (search_of problem limits events) b) same q.ends)
