use Rattle.std.proofs.Common.{sym, ◌∙◌, inl, inr}
use Rattle.command_line.proofs.SearchEnds.{given_up, not_complete, not_running}
use Rattle.command_line.proofs.prove.finding_of.Goals as goal

pub unreachable-requires : goal.unreachable-requires
unreachable-requires c = elim c.in-Complete.is [
  | inl complete ↦ not_complete c.args.board.now c.requires (sym c.state.ensures ∙ complete)
  | inr running ↦ not_running c.args.board.now c.requires (sym c.state.ensures ∙ running)
]

pub returns-in-Blocked : goal.returns-in-Blocked
returns-in-Blocked c = given_up c.args.board.now c.requires c.in-Blocked.limit (sym c.state.ensures ∙ c.in-Blocked.is)
