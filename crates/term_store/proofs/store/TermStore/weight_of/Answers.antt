use Rattle.std.proofs.Common.{◌≡◌, length, map, ap, ◌∙◌, arith}
use Rattle.term_store.specs.Terms.{words_of}
use Rattle.term_store.proofs.WordsGrow.{many_weights, weight_at}
use Rattle.term_store.proofs.store.TermStore.weight_of.Goals as goal

pub index-requires : goal.index-requires
index-requires c =
    let weights : c.self.inside.weights.items ≡ map length (words_of c.args.self.now) = c.self.invariant.weights ∙ ap (λ t. map length (words_of t)) c.self.view_is in
    omega (arith, many_weights c.args.self.now c.self.inside.weights.items weights)

pub returns : goal.returns
returns c =
    let weights : c.self.inside.weights.items ≡ map length (words_of c.args.self.now) = c.self.invariant.weights ∙ ap (λ t. map length (words_of t)) c.self.view_is in
    weight_at c.args.self.now c.self.inside.weights.items c.args.id c.index.result.now weights c.requires c.index.ensures
