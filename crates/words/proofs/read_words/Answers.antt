use Rattle.words.proofs.Laws.{read_none}
use Rattle.words.proofs.read_words.Goals as goal

pub returns-then-bytes-n-clause-read_words : goal.returns-then-bytes-n-clause-read_words
returns-then-bytes-n-clause-read_words g c = read_none _ _ _ _
