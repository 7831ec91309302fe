use Rattle.tptp_lexer.specs.Tokens.{tokens_of}
use Rattle.token_laws.proofs.OneList.{list-one, scan-keeps}
use Rattle.token_laws.proofs.the_scan_gives_that_list.Goals as goal

pub returns-clause-keeps : goal.returns-clause-keeps
returns-clause-keeps c = scan-keeps

pub returns-clause-only : goal.returns-clause-only
returns-clause-only c bytes lexed keeps = list-one bytes lexed (tokens_of bytes) keeps (scan-keeps bytes)
