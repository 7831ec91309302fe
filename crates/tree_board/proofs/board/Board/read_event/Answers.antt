use Rattle.std.proofs.Common.{◌≡◌, ◌+◌, ◌<◌, ◌++◌, ◌∷◌, [], List, None, Some, arith, length, option_map, refl, slice_get, subst, sym, ap, ◌∙◌}
use Rattle.std.proofs.lemmas.Option.{slice_get-get_or, slice_get_within}
use Rattle.key_watch.specs.Keys.{Watched, keys_of}
use Rattle.key_watch.specs.Owned.{Owned}
use Rattle.key_watch.specs.declared.key.Key.{Key}
use Rattle.key_watch.specs.declared.owner.Owner.TheVariants.{Found as FoundSet}
use Rattle.tree_board.specs.declared.path.Path.{Path}
use Rattle.tree_board.specs.Nodes.{Node}
use Rattle.tree_board.specs.PathReads.{HasRead, found_by}
use Rattle.tree_board.specs.Searches.{board_of}
use Rattle.tree_board.proofs.PathReading.{event_read, event_read_none, found_by_events, found_node, leads_with}
use Rattle.tree_board.proofs.Places.{same_some}
use Rattle.tree_board.proofs.board.Board.read_event.Goals as goal

pub lits_at-requires : goal.lits_at-requires
lits_at-requires c =
    let event = c.index-journal-path.result in
    let small : c.args.path.now.events_read < length c.journal.result.now = (let same = ap length c.journal.ensures.same in let some = c.requires.some in omega (arith, same, some)) in
    let is : slice_get c.args.self.now.journal c.args.path.now.events_read ≡ Some event =
    ap (λ journal. slice_get journal c.args.path.now.events_read) (sym c.journal.ensures.same) ∙ (slice_get-get_or c.journal.result.now c.args.path.now.events_read event small ∙ ap Some (sym c.index-journal-path.is)) in
    let found : found_by c.args.self.now.mode event ≡ Some c.in-Some.node = ap (λ mode. found_by mode event) (sym c.mode.ensures) ∙ (sym c.found_by.ensures ∙ c.in-Some.is) in
    let (node, node_is, state) = found_node c.args.self.now (found_by_events c.args.self.now c.journal.ensures.lawful) c.args.path.now.events_read c.in-Some.node event is found in
    slice_get_within (board_of c.args.self.now).nodes c.in-Some.node node node_is

pub returns-in_default-clause-leads : goal.returns-in_default-clause-leads
returns-in_default-clause-leads c =
    let event = c.index-journal-path.result in
    let small : c.args.path.now.events_read < length c.journal.result.now = (let same = ap length c.journal.ensures.same in let some = c.requires.some in omega (arith, same, some)) in
    let is : slice_get c.args.self.now.journal c.args.path.now.events_read ≡ Some event =
    ap (λ journal. slice_get journal c.args.path.now.events_read) (sym c.journal.ensures.same) ∙ (slice_get-get_or c.journal.result.now c.args.path.now.events_read event small ∙ ap Some (sym c.index-journal-path.is)) in
    let none : found_by c.args.self.now.mode event ≡ None = ap (λ mode. found_by mode event) (sym c.mode.ensures) ∙ (sym c.found_by.ensures ∙ c.in_default.is) in
    let after : Path = record c.args.path.now { events_read = c.args.path.now.events_read + 1 } in
    leads_with c.args.self.now c.args.path.now after c.requires.leads refl refl refl refl
    (event_read_none c.args.self.now c.args.path.now.watch.sets c.args.path.now.lemmas_read c.args.path.now.events_read c.requires.leads.reads event is none)

pub returns-clause-leads : goal.returns-clause-leads
returns-clause-leads c =
    let event = c.index-journal-path.result in
    let small : c.args.path.now.events_read < length c.journal.result.now = (let same = ap length c.journal.ensures.same in let some = c.requires.some in omega (arith, same, some)) in
    let is : slice_get c.args.self.now.journal c.args.path.now.events_read ≡ Some event =
    ap (λ journal. slice_get journal c.args.path.now.events_read) (sym c.journal.ensures.same) ∙ (slice_get-get_or c.journal.result.now c.args.path.now.events_read event small ∙ ap Some (sym c.index-journal-path.is)) in
    let found : found_by c.args.self.now.mode event ≡ Some c.in-Some.node = ap (λ mode. found_by mode event) (sym c.mode.ensures) ∙ (sym c.found_by.ensures ∙ c.in-Some.is) in
    let (node, node_is, state) = found_node c.args.self.now (found_by_events c.args.self.now c.journal.ensures.lawful) c.args.path.now.events_read c.in-Some.node event is found in
    let lits : c.as_slice.result.now ≡ node.lits = c.as_slice.ensures.value ∙ same_some c.in_ok-set.set.items node.lits (sym c.in_ok-set.ensures ∙ ap (option_map (λ (one : Node). one.lits)) node_is) in
    let after : Path = record c.args.path.now { watch = c.add.new.self; events_read = c.args.path.now.events_read + 1 } in
    let sets : c.add.new.self.sets ≡ c.args.path.now.watch.sets ++ record { keys = keys_of node.lits []; owner = FoundSet c.in-Some.node } ∷ [] =
    ap (λ (one : Watched). one.sets) c.in_ok-add.ensures.ok ∙ ap (λ lits. c.args.path.now.watch.sets ++ record { keys = keys_of lits []; owner = FoundSet c.in-Some.node } ∷ []) lits in
    leads_with c.args.self.now c.args.path.now after c.requires.leads refl refl refl (ap (λ (one : Watched). one.path) c.in_ok-add.ensures.ok)
    (subst (λ (sets : List (Owned Key)). HasRead c.args.self.now sets c.args.path.now.lemmas_read (c.args.path.now.events_read + 1)) (sym sets)
    (event_read c.args.self.now c.args.path.now.watch.sets c.args.path.now.lemmas_read c.args.path.now.events_read c.requires.leads.reads event is c.in-Some.node found node node_is state))
