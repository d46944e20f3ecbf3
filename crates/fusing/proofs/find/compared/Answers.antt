use Rattle.std.proofs.Common.{arith, refl}
use Rattle.fusing.proofs.Finding.{some_to, field_word, is_compared}
use Rattle.fusing.proofs.find.compared.Goals as goal

pub returns-in-0 : goal.returns-in-0
returns-in-0 c =
    some_to c.matching.result c.matching.ensures (λ z h.
    is_compared _ _ _ _ _ z _ _ _ _ _ _ _ c.wide.ensures c.in_ok-entry.ensures c.wide-at.ensures
    (field_word _ _ _ 0 0 c.fields.ensures (omega arith) (omega (arith, c.in-0.len_at_least)))
    c.wide-2.ensures c.in_ok-own.ensures
    (field_word _ _ _ 1 _ c.fields.ensures refl (omega (arith, c.in-0.len_at_least)))
    (field_word _ _ _ 2 _ c.fields.ensures refl (omega (arith, c.in-0.len_at_least)))
    h)
