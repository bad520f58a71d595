use Rattle.words.proofs.Back.{reads_back}
use Rattle.words.proofs.reads_back.Goals as goal

pub returns : goal.returns
returns c = reads_back
