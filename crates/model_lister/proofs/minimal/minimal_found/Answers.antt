use Rattle.std.proofs.Common.{◌≡◌, All, refl, subst, sym}
use Rattle.mg_word.specs.Facts.{IsProblem, ProblemData}
use Rattle.mg_meaning.specs.Satisfaction.{Satisfies}
use Rattle.tree_board.specs.Lawful.{IsReplay}
use Rattle.tree_board.specs.Searches.{board_of, setting_of}
use Rattle.model_lister.proofs.KeptSets.{found_satisfy, minimal_answer}
use Rattle.model_lister.proofs.minimal.minimal_found.Goals as goal

pub minimal_among-requires : goal.minimal_among-requires
minimal_among-requires c =
    let same : c.deref-problem.result.now ≡ c.args.board.now.problem = cc in
    let real : IsProblem c.args.board.now.problem = subst IsProblem same (subst IsProblem c.problem-2.view_is c.problem-2.invariant) in
    let replay : IsReplay (setting_of c.args.board.now) (board_of c.args.board.now) = record { events = c.args.board.now.journal; lawful = c.journal-journal.ensures.lawful; is = refl } in
    record {
      problem = subst IsProblem (sym c.in_ok-tester.ensures) real;
      satisfy = subst (λ (problem : ProblemData). All (λ set. Satisfies set problem) c.in_ok-found.found.items) (sym c.in_ok-tester.ensures)
          (found_satisfy (setting_of c.args.board.now) (board_of c.args.board.now) real replay c.in_ok-found.found.items c.in_ok-found.ensures);
    }

pub returns : goal.returns
returns c =
    let same : c.deref-problem.result.now ≡ c.args.board.now.problem = cc in
    let real : IsProblem c.args.board.now.problem = subst IsProblem same (subst IsProblem c.problem-2.view_is c.problem-2.invariant) in
    let replay : IsReplay (setting_of c.args.board.now) (board_of c.args.board.now) = record { events = c.args.board.now.journal; lawful = c.journal-journal.ensures.lawful; is = refl } in
    minimal_answer (setting_of c.args.board.now) (board_of c.args.board.now) real replay c.in_ok-found.found.items c.in_ok-found.ensures c.in_ok-tester.tester c.in_ok-tester.ensures c.minimal_among.result c.minimal_among.ensures
