use Rattle.std.proofs.Common.{arith, length, ◌≤◌, ap}
use Rattle.tree_board.specs.Searches.{board_of}
use Rattle.tree_board.proofs.PathReading.{all_read, found_by_events}
use Rattle.tree_board.proofs.board.Board.read_events.Goals as goal

pub returns-clause-sets : goal.returns-clause-sets
returns-clause-sets c =
    let same = ap length c.journal-count.ensures.same in
    let count = c.events-test.false in
    let read = c.requires.lemmas in
    let kept = c.events.invariant.lemmas in
    let lemmas : length (board_of c.args.self.now).kept ≤ c.events.path.lemmas_read = omega (arith, read, kept) in
    let events : length c.args.self.now.journal ≤ c.events.path.events_read = omega (arith, same, count) in
    all_read c.args.self.now (found_by_events c.args.self.now c.journal-count.ensures.lawful) c.events.path.watch.sets c.events.path.lemmas_read c.events.path.events_read c.events.invariant.leads.reads lemmas events
