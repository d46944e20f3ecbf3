use Rattle.std.proofs.Common.{ap₂, [], ◌∷◌}
use Rattle.text.proofs.Appending.{appended_as}
use Rattle.lines.specs.Lines.{fields_text, signal_fields}
use Rattle.lines.proofs.records.SignalRecord.put_rest.Goals as goal

pub returns : goal.returns
unfolding signal_fields
returns c = appended_as (ap₂ (λ m f. fields_text (45 ∷ m ∷ []) 45 f) c.owner_mark.ensures c.owned.ensures) c.put_fields.ensures
