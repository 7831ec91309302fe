use Rattle.std.proofs.Common.{◌≡◌, true, Ok, sym}
use Rattle.mg_word.specs.Sets.{is_rising}
use Rattle.mg_word.proofs.RisingLists.{rising-with_lit}
use Rattle.mg_word.proofs.SortedLits.{search_exact, search_place, with_held}
use Rattle.mg_word.proofs.lit_set.LitSet.with.Goals as goal

pub invariant_of-result : goal.invariant_of-result
invariant_of-result c =
    let list = c.as_slice.ensures.value in
    let rising : is_rising c.as_slice.result.now ≡ true = rw list c.self.invariant in
    let place = search_place c.as_slice.result.now c.args.lit c.in-Err.at rising c.in-Err.ensures.bound c.in-Err.ensures.position in
    rw (c.in_ok-insert-in-Err.ensures.items, ← list, ← place) (rising-with_lit c.as_slice.result.now c.args.lit rising)

pub returns-in-Ok : goal.returns-in-Ok
returns-in-Ok c =
    let list = c.as_slice.ensures.value in
    let rising : is_rising c.as_slice.result.now ≡ true = rw list c.self.invariant in
    let found = search_exact c.as_slice.result.now c.args.lit (Ok c.in-Ok.field-0) rising c.in-Ok.ensures.bound c.in-Ok.ensures.position in
    rw (← c.self.view_is, ← list) (sym (with_held c.as_slice.result.now c.args.lit rising (sym found)))

pub returns-in_ok-insert-in-Err : goal.returns-in_ok-insert-in-Err
returns-in_ok-insert-in-Err c =
    let list = c.as_slice.ensures.value in
    let rising : is_rising c.as_slice.result.now ≡ true = rw list c.self.invariant in
    let place = search_place c.as_slice.result.now c.args.lit c.in-Err.at rising c.in-Err.ensures.bound c.in-Err.ensures.position in
    rw (← c.self.view_is, c.in_ok-insert-in-Err.ensures.items, ← list) (sym place)
