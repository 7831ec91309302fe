use Rattle.std.proofs.Common.{sym}
use Rattle.term_text.proofs.Cuts.{lower_word_tested}
use Rattle.term_text.proofs.names.is_lower_word.Goals as goal

pub returns-then-is_ascii_lowercase : goal.returns-then-is_ascii_lowercase
returns-then-is_ascii_lowercase c = rw c.word_len.ensures (lower_word_tested c.args.name.now c.in-len1-up.len_at_least (sym c.if-is_ascii_lowercase.ensures.value))
