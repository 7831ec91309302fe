-- Where the plain tree of a problem fits the limits, one list of its minimal sets is right.
use Rattle.std.proofs.Common.{◌≡◌, List, Option, Some, None, refl, sym, ap₂, ◌∙◌, subst}
use Rattle.mg_word.specs.Facts.{ProblemData}
use Rattle.mg_word.specs.declared.lit.Lit.{Lit}
use Rattle.mg_meaning.specs.Minimality.{ListsMinimal}
use Rattle.mg_meaning.proofs.MinimalLists.{lists_same}
use Rattle.model_lister.specs.Listings.{Lists}
use Rattle.model_lister.specs.Runs.{search_of}
use Rattle.tree_board.specs.Alone.{FitsPlain}
use Rattle.tree_board.specs.Searches.{setting_of}
use Rattle.tree_board.specs.declared.event.Event.{Event}
use Rattle.tree_board.specs.declared.mode.Limit.{Limit}
use Rattle.tree_board.specs.declared.mode.Limits.{Limits}
use Rattle.command_line.specs.Listed.{Listed}
use Rattle.command_line.specs.Runs.{Fits}

-- a plain tree fits the limits of every search alike
pub fits_listing : (problem : ProblemData) (limits : Limits) (journal : List Event) → Fits problem limits → FitsPlain (setting_of (search_of problem limits journal))
fits_listing problem limits journal fits = record { extends = fits.extends; few = fits.few; plain = fits.plain }

-- where it fits, the list is complete
pub listed_whole : (problem : ProblemData) (limits : Limits) (journal : List Event) (sets : List (List Lit)) (gave_up : Option Limit) → Fits problem limits → Lists (search_of problem limits journal) sets gave_up → gave_up ≡ None
listed_whole problem limits journal sets None fits lists = refl
listed_whole problem limits journal sets (Some limit) fits lists = absurd (lists.exceeds (fits_listing problem limits journal fits))

-- a complete list has the minimal sets of the problem
listed_minimal : (problem : ProblemData) (limits : Limits) (journal : List Event) (sets : List (List Lit)) (gave_up : Option Limit) → gave_up ≡ None → Lists (search_of problem limits journal) sets gave_up → ListsMinimal sets problem
listed_minimal problem limits journal sets None whole lists = lists.minimal
listed_minimal problem limits journal sets (Some limit) whole lists = cc

-- answers with the same parts are the same
same_listed : (a b : Listed) → b.problem ≡ a.problem → a.sets ≡ b.sets → a.gave_up ≡ b.gave_up → a ≡ b
same_listed a b problems sets limits = ap₂ (λ problem (rest : List (List Lit) × Option Limit). record { problem = problem; sets = rest.0; gave_up = rest.1 }) (sym problems) (ap₂ (λ sets limit. (sets, limit)) sets limits)

-- two lists of the same problem are the same
pub lists_once : (limits : Limits) (a b : Listed) (these those : List Event) → b.problem ≡ a.problem → Fits a.problem limits → Lists (search_of a.problem limits these) a.sets a.gave_up → Lists (search_of b.problem limits those) b.sets b.gave_up → a ≡ b
lists_once limits a b these those problems fits p q =
    let other : Fits b.problem limits = subst (λ problem. Fits problem limits) (sym problems) fits in
    let whole : a.gave_up ≡ None = listed_whole a.problem limits these a.sets a.gave_up fits p in
    let whole' : b.gave_up ≡ None = listed_whole b.problem limits those b.sets b.gave_up other q in
    let minimal = listed_minimal a.problem limits these a.sets a.gave_up whole p in
    let minimal' = subst (ListsMinimal b.sets) problems (listed_minimal b.problem limits those b.sets b.gave_up whole' q) in
    same_listed a b problems (lists_same a.problem a.sets b.sets minimal minimal') (whole ∙ sym whole')
