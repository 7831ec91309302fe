use Rattle.std.proofs.Common.{length, sym, ◌∙◌, eq-eqb, true≢false}
use Rattle.proof_tree.proofs.BareLines.{end_passed, end_kept}
use Rattle.proof_tree.proofs.lines.text_end.Goals as goal

pub returns-then-starts : goal.returns-then-starts
returns-then-starts c = end_passed c.args.bytes.now c.requires (sym c.if-starts.ensures)

pub returns : goal.returns
returns c =
    end_kept c.args.bytes.now (λ none. true≢false (sym (eq-eqb (length c.args.bytes.now) 0 none) ∙ sym c.if-is_empty.ensures)) c.requires (sym c.if-starts.ensures)
