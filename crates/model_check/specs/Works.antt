-- What a call works in.
use Rattle.std.specs.Prelude.{◌≡◌, length}
use Rattle.model_check.specs.declared.call.Works.{Works}

-- the buffers are still those that were lent, as long as they were
pub record SameWorks (w w' : Works) : Type 0 where
  pub bits : w'.bits.ghost_name ≡ w.bits.ghost_name
  pub exprs : w'.exprs.ghost_name ≡ w.exprs.ghost_name
  pub signals : w'.signals.ghost_name ≡ w.signals.ghost_name
  pub bits_long : length w'.bits.now ≡ length w.bits.now
  pub exprs_long : length w'.exprs.now ≡ length w.exprs.now
  pub signals_long : length w'.signals.now ≡ length w.signals.now

-- the works on expressions are as they were
pub record OthersKept (w w' : Works) : Type 0 where
  pub bits : w'.bits.now ≡ w.bits.now
  pub exprs : w'.exprs.now ≡ w.exprs.now
