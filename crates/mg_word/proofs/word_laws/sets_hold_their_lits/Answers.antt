use Rattle.mg_word.proofs.RisingLists.{rising-set_of, holds-set_of, holds_there, there_holds}
use Rattle.mg_word.specs.Sets.{set_of}
use Rattle.std.proofs.Common.{sym, ◌∙◌}
use Rattle.mg_word.proofs.word_laws.sets_hold_their_lits.Goals as goal

pub returns : goal.returns
returns c lits = record {
  rising = rising-set_of lits;
  same = λ lit. (
    λ there. holds_there lits lit (sym (holds-set_of lits lit) ∙ there_holds (set_of lits) lit there),
    λ there. holds_there (set_of lits) lit (holds-set_of lits lit ∙ there_holds lits lit there),
  );
  told = λ lit. (holds_there (set_of lits) lit, there_holds (set_of lits) lit);
}
