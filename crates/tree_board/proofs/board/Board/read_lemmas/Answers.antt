use Rattle.std.proofs.Common.{◌≡◌, ◌+◌, ◌++◌, ◌∷◌, [], List, Some, refl, subst, sym, ap, ap₂, ◌∙◌}
use Rattle.std.specs.Option.{option_copied}
use Rattle.mg_meaning.specs.Folding.{Pair}
use Rattle.key_watch.specs.Keys.{Watched, keys_of}
use Rattle.key_watch.specs.Owned.{Owned}
use Rattle.key_watch.specs.declared.key.Key.{Key}
use Rattle.key_watch.specs.declared.owner.Owner.TheVariants.{Lemma}
use Rattle.tree_board.specs.declared.path.Path.{Path}
use Rattle.tree_board.specs.Boards.{pair_at}
use Rattle.tree_board.specs.PathReads.{HasRead}
use Rattle.tree_board.specs.Searches.{board_of}
use Rattle.tree_board.proofs.PathReading.{leads_with, lemma_read}
use Rattle.tree_board.proofs.board.Board.read_lemmas.Goals as goal

pub lemmas-preserved : goal.lemmas-preserved
lemmas-preserved c =
    let number = c.lemmas.path.lemmas_read + 1 in
    let pair : Pair = c.in-Some.lemma.now in
    let is : pair_at (board_of c.args.self.now).kept number ≡ Some pair = sym c.lemma.ensures ∙ ap option_copied c.in-Some.is in
    let inside = c.as_slice-inside.ensures.same ∙ ap (λ (one : Pair). one.inside) c.lemma-in-lemmas.view_is in
    let outside = c.as_slice-outside.ensures.same ∙ ap (λ (one : Pair). one.outside) c.lemma-in-lemmas.view_is in
    let after : Path = record c.lemmas.path { watch = c.add.new.self; lemmas_read = number } in
    let sets : c.add.new.self.sets ≡ c.lemmas.path.watch.sets ++ record { keys = keys_of pair.inside pair.outside; owner = Lemma number } ∷ [] =
    ap (λ (one : Watched). one.sets) c.in_ok-add.ensures.ok ∙ ap₂ (λ inside outside. c.lemmas.path.watch.sets ++ record { keys = keys_of inside outside; owner = Lemma number } ∷ []) inside outside in
    record {
      leads = leads_with c.args.self.now c.lemmas.path after c.lemmas.invariant.leads refl refl refl (ap (λ (one : Watched). one.path) c.in_ok-add.ensures.ok)
          (subst (λ (sets : List (Owned Key)). HasRead c.args.self.now sets number c.lemmas.path.events_read) (sym sets)
          (lemma_read c.args.self.now c.lemmas.path.watch.sets c.lemmas.path.lemmas_read c.lemmas.path.events_read number c.lemmas.invariant.leads.reads refl pair is));
      node = c.lemmas.invariant.node;
    }
