-- What is handed out is the answer of lowering, or of a short `answer`.
use Rattle.capi.proofs.Handing.{lowered_by}
use Rattle.capi.proofs.reamerpoppy_lower.Goals as goal

pub returns : goal.returns
returns c = lowered_by c.args.words.now c.args.answer.now c.words_for-used.ensures c.lower-lowered.ensures c.lowered_for.ensures c.hand_lowered.ensures
