use Rattle.recorder.proofs.Room.{reg_words}
use Rattle.recorder.proofs.Recorder.register.Goals as goal

pub returns-in-None-None : goal.returns-in-None-None
returns-in-None-None c = c.push_stmt.ensures _ (reg_words _ _ _ _ c.in-None-None.is-0 c.in-None-None.is-1)

pub returns-in-None-Some : goal.returns-in-None-Some
returns-in-None-Some c = c.push_stmt-in-None-Some.ensures _ (reg_words _ _ _ _ c.in-None-Some.is-0 c.in-None-Some.is-1)

pub returns-in-Some-None : goal.returns-in-Some-None
returns-in-Some-None c = c.push_stmt-in-Some-None.ensures _ (reg_words _ _ _ _ c.in-Some-None.is-0 c.in-Some-None.is-1)

pub returns-in-Some-Some : goal.returns-in-Some-Some
returns-in-Some-Some c = c.push_stmt-in-Some-Some.ensures _ (reg_words _ _ _ _ c.in-Some-Some.is-0 c.in-Some-Some.is-1)
