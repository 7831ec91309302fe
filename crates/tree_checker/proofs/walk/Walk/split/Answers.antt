use Rattle.std.proofs.Common.{◌≡◌, ◌++◌, reverse, ap, ◌∙◌}
use Rattle.std.proofs.lemmas.List.{reverse-reverse}
use Rattle.tree_checker.specs.Trees.{split_by}
use Rattle.tree_checker.specs.Inside.{pending}
use Rattle.tree_checker.proofs.Opened.{walk_is_open, walk_seen-open, seen_after}
use Rattle.tree_checker.proofs.walk.Walk.split.Goals as goal

pub begin_first-begun-requires : goal.begin_first-begun-requires
begin_first-begun-requires c = c.self.invariant (walk_is_open c.self.inside c.args.self.now c.self.view_is c.requires)

pub returns-in-Ok : goal.returns-in-Ok
returns-in-Ok c =
    let order : reverse c.reverse.new.self.items ≡ c.args.conclusions.items = ap reverse c.reverse.ensures.items ∙ reverse-reverse c.args.conclusions.items in
    rw (walk_seen-open c.self.inside c.args.self.now c.self.view_is c.requires)
    (seen_after c.in-Ok.is_more _ _ _ c.in-Ok.ensures.next
    ∙ ap (λ lits. split_by (record { held = c.self.inside.held; barred = c.self.inside.barred }) lits ++ pending c.self.inside.held c.self.inside.barred c.self.inside.frames.items) order)
