-- Works that are lent on are the same works. Assumes nothing.
use mathlib.Core.Path.{◌∙◌}
use Rattle.model_check.specs.declared.call.Works.{Works}
use Rattle.model_check.specs.Works.{SameWorks}

pub works_same : {a b d : Works} → SameWorks a b → SameWorks b d → SameWorks a d
works_same s t = record {
  bits = t.bits ∙ s.bits;
  exprs = t.exprs ∙ s.exprs;
  signals = t.signals ∙ s.signals;
  bits_long = t.bits_long ∙ s.bits_long;
  exprs_long = t.exprs_long ∙ s.exprs_long;
  signals_long = t.signals_long ∙ s.signals_long;
}
