-- The law is a lemma.
use Rattle.command_line.proofs.OneReply.{one_reply as one_reply_of}
use Rattle.command_line.proofs.laws.one_reply.Goals as goal

pub returns : goal.returns
returns c = λ words files. one_reply_of files words
