use Rattle.std.proofs.Common.{◌≡◌, ◌++◌, ◌∷◌, [], take}
use Rattle.key_watch.specs.Keys.{keys_of}
use Rattle.tree_board.proofs.path.put_keys.Given as goal

abbrev pub invariant-loop-one : goal.invariant-loop-one
invariant-loop-one l = l.watch ≡ record l.fn.watch { path = l.fn.watch.path ++ keys_of (l.lit ∷ []) (take l.one-index l.earlier) }
